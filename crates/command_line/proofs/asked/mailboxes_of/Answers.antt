use Rattle.std.proofs.Common.{◌∙◌, rules, codes}
use Rattle.clap.specs.Matches.{found_of}
use Rattle.command_line.proofs.GivenLaws.{some_words}
use Rattle.command_line.proofs.asked.mailboxes_of.Goals as goal

pub returns-clause-given : goal.returns-clause-given
returns-clause-given c = c.in_ok-words.ensures ∙ some_words (found_of c.args.matches.now) (codes "MAILBOX") c.get_strs.result c.in-Some.given c.get_strs.ensures (search rules)
