-- Where the date of a message stands: behind the last semicolon of its first field named Received.
use Rattle.std.specs.Prelude.{ℕ, ◌+◌, Bool, true, false, codes, List, [], ◌∷◌, length, take, drop, Option, Some, None, ◌==◌, ◌||◌, ◌&&◌, not, if◌then◌else◌}
use Rattle.std.specs.List.{prefix_len}
use Rattle.std.specs.Str.{str_eq_ignore_ascii_case as is_same}
use Rattle.mail_date.specs.declared.stamp.Stamp.{Stamp}
use Rattle.mail_date.specs.declared.place.Place.{Place}
use Rattle.mail_date.specs.Bytes.{is_blank, first_is, is_folded}
use Rattle.mail_date.specs.Dates.{is_date, offset}
use Rattle.mail_date.specs.Reading.{◌>>=◌, outside, is_outside, behind, past_byte, date_time}

-- this byte, before these, is the LF that ends a field: no space or tab folds it
abbrev pub ends_field : ℕ → List ℕ → Bool
ends_field b bs = (b == 10) && not (is_folded bs)

-- how many bytes a field has before its LF
abbrev pub field_len : List ℕ → ℕ
field_len [] = 0
field_len (b ∷ bs) = if ends_field b bs then 0 else 1 + field_len bs

-- an empty line, by CRLF or LF
abbrev pub is_empty_line : List ℕ → Bool
is_empty_line bytes = first_is 10 bytes || (first_is 13 bytes && first_is 10 (drop 1 bytes))

-- past a word, in upper or lower case
abbrev pub past_word : List ℕ → List ℕ → Option (List ℕ)
past_word word bytes = if is_same (take (length word) bytes) word then Some (drop (length word) bytes) else None

-- past a colon, with spaces and tabs before it
abbrev pub past_colon : List ℕ → Option (List ℕ)
past_colon bytes = past_byte 58 (drop (prefix_len is_blank bytes) bytes)

-- past a field's name and colon
abbrev pub past_name : List ℕ → List ℕ → Option (List ℕ)
past_name name bytes = past_word name bytes >>= past_colon

abbrev pub body_or : Option (List ℕ) → Option (List ℕ) → Option (List ℕ)
body_or None others = others
body_or (Some body) others = Some (take (field_len body) body)

-- The body of the first Received field before the first empty line; `starts` says that a field begins here.
abbrev pub received_body : Bool → List ℕ → Option (List ℕ)
received_body starts [] = None
received_body starts (b ∷ bs) =
    if starts && is_empty_line (b ∷ bs) then None
    else body_or (if starts then past_name (codes "Received") (b ∷ bs) else None) (received_body (ends_field b bs) bs)

-- How many bytes stand before what follows the last semicolon outside quoted strings and comments, where
-- so many were seen and the last such was found there.
abbrev pub last_semicolon : Place → ℕ → Option ℕ → List ℕ → Option ℕ
last_semicolon p seen found [] = found
last_semicolon p seen found (b ∷ bs) =
    last_semicolon (behind p b) (seen + 1) (if is_outside p && (b == 59) then Some (seen + 1) else found) bs

abbrev pub date_part : List ℕ → Option (List ℕ)
date_part body = do
  n ← last_semicolon outside 0 None body
  Some (drop n body)

-- The date of a message's first Received field. Where that field has none, the next isn't tried.
unfoldable pub received_date : List ℕ → Option Stamp
received_date text = received_body true text >>= date_part >>= date_time

-- what a message without a date is given: 01-Jan-1970 00:00:00 +0000
abbrev pub no_date : Stamp
no_date = record { year = 1970; month = 1; day = 1; hour = 0; minute = 0; second = 0; zone = offset false 0 0 }

abbrev pub date_or_none : Option Stamp → Stamp
date_or_none None = no_date
date_or_none (Some s) = s

-- the date of a message
unfoldable pub message_date : List ℕ → Stamp
message_date text = date_or_none (received_date text)

-- the date of a message that came with this one, or with none: the one that it came with counts where the calendar and the clock have it
abbrev pub date_or : Option Stamp → List ℕ → Stamp
date_or None text = message_date text
date_or (Some s) text = if is_date s then s else message_date text
