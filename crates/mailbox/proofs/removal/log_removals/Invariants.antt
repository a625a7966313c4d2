use Rattle.std.proofs.Common.{drop}
use Rattle.mailbox.specs.inner.Choices.{passes}
use Rattle.mailbox.specs.inner.Marks.{gone_of}
use Rattle.mailbox.proofs.RemovalLaws.{IsLogging}
use Rattle.mailbox.proofs.removal.log_removals.Given as goal

-- what is logged so far, with what is to be logged of the UIDs that are left, is all
abbrev pub invariant-loop-uid : goal.invariant-loop-uid
invariant-loop-uid l = IsLogging l.cursors l.fn.ring l.ring (gone_of (passes l.choice) l.uids) (gone_of (passes l.choice) (drop l.uid-index l.uids))
