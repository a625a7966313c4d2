use Rattle.mailbox.specs.inner.Letters.{filed, messages_of}
use Rattle.mailbox.specs.Mailbox.{uids_of}
use Rattle.mailbox.proofs.LetterLaws.{IsClosing}
use Rattle.mailbox.proofs.letters.close_uids.Given as goal

-- those that were gone over stand at the front, and the rest as it was
abbrev pub invariant-loop-position : goal.invariant-loop-position
invariant-loop-position l = IsClosing (uids_of (messages_of (filed l.initial.uids.items l.letters))) l.uids.items l.letters l.kept l.position
