-- A message that was carried to its mailbox.
use Rattle.std.specs.Prelude.{ℕ}
use Rattle.change_ring.specs.declared.change.Flags.{Flags}
use Rattle.delivery_token.specs.Text.{Text}
use Rattle.delivery_token.specs.declared.Job.{Job}
use Rattle.delivery_token.specs.declared.Verdict.{Verdict}

-- which message of its session it was, for which mailbox, its text, the flags that it is to have there, and what became of it
pub record Carried : Type 0 where
  pub message : ℕ
  pub mailbox : ℕ
  pub text : Text
  pub flags : Flags
  pub verdict : Verdict

-- The only copy of a message of the session with this seat and serial: its recipient is 0 (RFC 9051, 6.3.12: it is for one mailbox).
abbrev pub copy_of : (seat serial : ℕ) → Carried → Job
copy_of seat serial c = record {
  key = record { seat = seat; serial = serial; message = c.message; recipient = 0 };
  mailbox = c.mailbox;
  text = c.text;
  flags = c.flags;
}

-- it and the verdict on it
abbrev pub judged_of : (seat serial : ℕ) → Carried → Job × Verdict
judged_of seat serial c = (copy_of seat serial c, c.verdict)
