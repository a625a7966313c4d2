use Rattle.std.proofs.Common.{◌≡◌, ◌+◌, ◌≤◌, ◌++◌, length, drop, vec_len, vec_capacity}
use Rattle.mailbox.specs.inner.Letters.{filed, messages_of}
use Rattle.mailbox.specs.Mailbox.{uids_of}
use Rattle.mailbox.proofs.letters.uids_in.Given as goal

-- what is told so far, with what is left to tell, is all
abbrev pub invariant-loop-position : goal.invariant-loop-position
invariant-loop-position l = record {
  told : l.found.items ++ uids_of (messages_of (filed (drop l.position l.uids) (drop l.position l.letters))) ≡ uids_of (messages_of (filed l.uids l.letters));
  room : vec_len l.found + length (messages_of (filed (drop l.position l.uids) (drop l.position l.letters))) ≤ vec_capacity l.found;
}
