use Rattle.std.proofs.Common.{◌≡◌, take}
use Rattle.mailbox.specs.inner.Choices.{passes}
use Rattle.mailbox.specs.inner.Marks.{without_each}
use Rattle.mailbox.proofs.messages.remove_each.Given as goal

-- those of the first UIDs are gone
abbrev pub invariant-loop-uid : goal.invariant-loop-uid
invariant-loop-uid l = l.letters ≡ without_each (passes l.choice) (take l.uid-index l.uids) l.fn.letters
