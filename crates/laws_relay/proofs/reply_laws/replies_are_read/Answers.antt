use Rattle.std.proofs.Common.{refl, true}
use Rattle.laws_relay.proofs.Cuts.{replies_are_read}
use Rattle.laws_relay.proofs.ReplyFronts.{fronts_are_read}
use Rattle.laws_relay.proofs.Counts.{commands_have_one_reply, data_is_silent, dot_answers, end_answers}
use Rattle.laws_relay.proofs.Taken.{delivered_alone}
use Rattle.laws_relay.proofs.reply_laws.replies_are_read.Goals as goal

pub returns-clause-replies : goal.returns-clause-replies
returns-clause-replies c = replies_are_read

pub returns-clause-fronts : goal.returns-clause-fronts
returns-clause-fronts c = fronts_are_read

pub returns-clause-taken : goal.returns-clause-taken
returns-clause-taken c = delivered_alone

pub returns-clause-command : goal.returns-clause-command
returns-clause-command c = commands_have_one_reply

pub returns-clause-data : goal.returns-clause-data
returns-clause-data c = λ setting directory sender mailboxes lines n. (data_is_silent setting n sender mailboxes lines, dot_answers setting n sender mailboxes lines, end_answers setting true n sender mailboxes lines, λ verdicts. refl)
