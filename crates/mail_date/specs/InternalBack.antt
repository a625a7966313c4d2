-- Reading a date as IMAP's clients give it, from left to right. By the law `a_given_date_is_read` this is what the rules of Given.antt say; and by
-- `what_is_written_is_read` what Internal.antt writes is read back. A year in a search is read so too (`imap_grammar`).
use Rattle.std.specs.Prelude.{ℕ, ◌+◌, ◌*◌, List, drop, Option, Some, if◌then◌else◌}
use Rattle.mail_date.specs.declared.stamp.Stamp.{Stamp}
use Rattle.mail_date.specs.Bytes.{first_is}
use Rattle.mail_date.specs.Reading.{◌>>=◌, past_byte, one_at, two_at, month_at, signed_at, stamped, if_ended}

abbrev pub four_at : List ℕ → Option (ℕ × List ℕ)
four_at bytes = do
  a ← two_at bytes
  b ← two_at a.1
  Some (a.0 * 100 + b.0, b.1)

-- two digits, or a space and one
abbrev pub fixed_day_at : List ℕ → Option (ℕ × List ℕ)
fixed_day_at bytes = if first_is 32 bytes then one_at (drop 1 bytes) else two_at bytes

abbrev pub fixed_date_at : List ℕ → Option ((ℕ × ℕ × ℕ) × List ℕ)
fixed_date_at bytes = do
  d ← fixed_day_at bytes
  a ← past_byte 45 d.1
  m ← month_at a
  b ← past_byte 45 m.1
  y ← four_at b
  Some ((y.0, m.0, d.0), y.1)

abbrev pub fixed_time_at : List ℕ → Option ((ℕ × ℕ × ℕ) × List ℕ)
fixed_time_at bytes = do
  h ← two_at bytes
  a ← past_byte 58 h.1
  m ← two_at a
  b ← past_byte 58 m.1
  s ← two_at b
  Some ((h.0, m.0, s.0), s.1)

unfoldable pub internal_date : List ℕ → Option Stamp
internal_date bytes = do
  d ← fixed_date_at bytes
  a ← past_byte 32 d.1
  t ← fixed_time_at a
  b ← past_byte 32 t.1
  z ← signed_at b
  if_ended z.1 (stamped d.0 t.0 z.0)
