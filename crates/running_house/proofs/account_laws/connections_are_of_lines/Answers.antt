use Rattle.running_house.proofs.Connections.{connections_have_talked, each_is_a_dialogue, talks_are_of_lines}
use Rattle.running_house.proofs.TalkLines.{heard_are_first, talk_is_of_lines}
use Rattle.running_house.proofs.BackLaws.{lines_are_a_talk}
use Rattle.running_house.proofs.ClosedLaws.{closed_get_nothing}
use Rattle.running_house.proofs.account_laws.connections_are_of_lines.Goals as goal

pub returns-clause-lines : goal.returns-clause-lines
returns-clause-lines c = talk_is_of_lines

pub returns-clause-back : goal.returns-clause-back
returns-clause-back c = lines_are_a_talk

pub returns-clause-first : goal.returns-clause-first
returns-clause-first c = heard_are_first

pub returns-clause-talks : goal.returns-clause-talks
returns-clause-talks c = talks_are_of_lines

pub returns-clause-talks_back : goal.returns-clause-talks_back
returns-clause-talks_back c = connections_have_talked

pub returns-clause-each : goal.returns-clause-each
returns-clause-each c = each_is_a_dialogue

pub returns-clause-closed : goal.returns-clause-closed
returns-clause-closed c = closed_get_nothing
