-- What is stored of a message, which all its copies share: its bytes, and the date that the APPEND brought which it came by.
use Rattle.std.specs.Prelude.{ℕ, List, Option, None}
use Rattle.mail_date.specs.declared.stamp.Stamp.{Stamp}
use Rattle.mail_date.specs.Fields.{date_or}

pub record Text : Type 0 where
  pub bytes : List ℕ
  pub date : Option Stamp

-- one that came without a date, as LMTP's do
abbrev pub undated : List ℕ → Text
undated bytes = record { bytes = bytes; date = None }

-- the date of a message (RFC 9051, 2.3.3): the one that came with it, where it is one, or else the one that its header says
abbrev pub date_of : Text → Stamp
date_of text = date_or text.date text.bytes
