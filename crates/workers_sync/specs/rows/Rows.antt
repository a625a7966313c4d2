-- Worked examples: the copy that a message which was carried is of its session, and the verdict on it.
use Rattle.std.specs.Prelude.{codes}
use Rattle.std.proofs.Common.{◌≡◌, [], refl}
use Rattle.change_ring.specs.Log.{no_flags}
use Rattle.delivery_token.specs.Text.{undated}
use Rattle.delivery_token.specs.declared.Refusal.TheVariants.{MailboxFull}
use Rattle.delivery_token.specs.declared.Verdict.TheVariants.{Stored, Refused}
use Rattle.workers_sync.specs.Carried.{Carried, copy_of, judged_of}

-- the fourth message of its session, for mailbox 1
abbrev pub fourth : Carried
fourth = record { message = 3; mailbox = 1; text = undated (codes "hi\r\n"); flags = no_flags; verdict = Stored 7 }

-- of the third session at seat 9
its_copy : copy_of 9 2 fourth ≡ record {
  key = record { seat = 9; serial = 2; message = 3; recipient = 0 };
  mailbox = 1;
  text = undated (codes "hi\r\n");
  flags = no_flags;
}
its_copy = refl

-- a message that is refused is a copy as well
it_was_refused : (judged_of 9 2 (record { message = 0; mailbox = 0; text = undated []; flags = no_flags; verdict = Refused MailboxFull })).1 ≡ Refused MailboxFull
it_was_refused = refl

-- the recipient of each is 0
its_recipient : (judged_of 0 0 fourth).0.key.recipient ≡ 0
its_recipient = refl
