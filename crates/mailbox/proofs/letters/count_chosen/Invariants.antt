use Rattle.std.proofs.Common.{◌≡◌, ◌+◌, ◌≤◌, drop}
use Rattle.mailbox.specs.inner.Choices.{passes}
use Rattle.mailbox.specs.inner.Letters.{count_of, filed, messages_of}
use Rattle.mailbox.proofs.letters.count_chosen.Given as goal

-- those that are counted, with those that are left to count, are all
abbrev pub invariant-loop-position : goal.invariant-loop-position
invariant-loop-position l = record {
  told : l.count + count_of (passes l.choice) (messages_of (filed (drop l.position l.uids) (drop l.position l.letters))) ≡ count_of (passes l.choice) (messages_of (filed l.uids l.letters));
  few : l.count ≤ l.position;
}
