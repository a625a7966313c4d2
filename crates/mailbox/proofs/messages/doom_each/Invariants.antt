use Rattle.std.proofs.Common.{◌≡◌, drop}
use Rattle.mailbox.specs.inner.Marks.{doomed}
use Rattle.mailbox.proofs.messages.doom_each.Given as goal

-- with the UIDs that are left it comes to all of them
abbrev pub invariant-loop-uid : goal.invariant-loop-uid
invariant-loop-uid l = doomed (drop l.uid-index l.uids) l.messages ≡ doomed l.uids l.fn.messages
