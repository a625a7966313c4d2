-- What a mailbox's answers are told as.
use Rattle.std.specs.Prelude.{ℕ, Result, Ok, Err}
use Rattle.cursor_set.specs.declared.set.FeedFault.{FeedFault}
use Rattle.cursor_set.specs.declared.set.FeedFault.TheVariants as lapse
use Rattle.delivery_token.specs.declared.Refusal.{Refusal}
use Rattle.delivery_token.specs.declared.Verdict.{Verdict}
use Rattle.delivery_token.specs.declared.Verdict.TheVariants.{Stored, Refused}
use Rattle.mailbox.specs.declared.clients.MailFault.{MailFault}
use Rattle.mailbox.specs.declared.clients.MailFault.TheVariants.{Stranger, Lapped, NoMemory}
use Rattle.mailbox.specs.declared.mailbox.Receipt.{Receipt}

-- a delivery's answer, as its producer is told
abbrev pub verdict_of : Result Receipt Refusal → Verdict
verdict_of (Ok receipt) = Stored receipt.uid
verdict_of (Err why) = Refused why

-- a feed's answer, with its fault as one of all calls
abbrev pub answer_of : Result ℕ FeedFault → Result ℕ MailFault
answer_of (Ok n) = Ok n
answer_of (Err lapse.Stranger) = Err Stranger
answer_of (Err lapse.Lapped) = Err Lapped
answer_of (Err lapse.NoMemory) = Err NoMemory
