-- Reading a date from left to right. By the laws `what_is_read_is_spelled` and `what_is_spelled_is_read` this is
-- what the written grammar says: whoever believes Grammar.antt need not read this file.
use Rattle.std.specs.Prelude.{ℕ, suc, ◌+◌, ◌-◌, ◌*◌, Bool, true, false, List, [], ◌∷◌, length, take, drop, Option, Some, None, ◌==◌, ◌||◌, ◌&&◌, not, nat_le, if◌then◌else◌}
use Rattle.std.specs.List.{prefix_len}
use Rattle.std.specs.Option.{option_map}
use Rattle.mail_date.specs.declared.stamp.Stamp.{Stamp}
use Rattle.mail_date.specs.declared.stamp.Zone.{Zone}
use Rattle.mail_date.specs.declared.place.Place.{Place}
use Rattle.mail_date.specs.Bytes.{is_digit, is_letter, is_white, first_is}
use Rattle.mail_date.specs.Dates.{is_date, is_among, day_names, month_of, offset, zone_of, year_of_two}

infixl 10 ◌>>=◌
abbrev pub ◌>>=◌ : {A B : Type 0} → Option A → (A → Option B) → Option B
(Some x) >>= f = f x
None >>= f = None

-- ---- quoted strings and comments

-- where no quoted string and no comment is open
abbrev pub outside : Place
outside = record { is_quoted = false; is_escaped = false; depth = 0 }

abbrev pub is_outside : Place → Bool
is_outside p = not p.is_quoted && (p.depth == 0)

-- where the next byte stands, behind this one
abbrev pub behind : Place → ℕ → Place
behind p b =
    if p.is_escaped then record p { is_escaped = false }
    else if b == 92 then record p { is_escaped = not (is_outside p) }
    else if p.is_quoted then record p { is_quoted = not (b == 34) }
    else if b == 40 then record p { depth = p.depth + 1 }
    else if b == 41 then record p { depth = p.depth - 1 }
    else record p { is_quoted = (p.depth == 0) && (b == 34) }

-- How many bytes of white space and comments are at the front; `None` where a comment doesn't end.
abbrev pub blank_len : Place → List ℕ → Option ℕ
blank_len p [] = if p.depth == 0 then Some 0 else None
blank_len p (b ∷ bs) =
    if (p.depth == 0) && not (is_white b || (b == 40)) then Some 0
    else option_map suc (blank_len (behind p b) bs)

-- ---- what is read at the front, and the bytes after it

abbrev pub past_byte : ℕ → List ℕ → Option (List ℕ)
past_byte b bytes = if first_is b bytes then Some (drop 1 bytes) else None

-- past white space and comments, if there are any
abbrev pub past_blank : List ℕ → Option (List ℕ)
past_blank bytes = do
  n ← blank_len outside bytes
  Some (drop n bytes)

-- past white space and comments that must be there
abbrev pub past_gap : List ℕ → Option (List ℕ)
past_gap bytes = do
  n ← blank_len outside bytes
  if n == 0 then None else Some (drop n bytes)

abbrev pub past_mark : ℕ → List ℕ → Option (List ℕ)
past_mark b bytes = past_blank bytes >>= past_byte b >>= past_blank

abbrev pub one_at : List ℕ → Option (ℕ × List ℕ)
one_at [] = None
one_at (a ∷ rest) = if is_digit a then Some (a - 48, rest) else None

abbrev pub two_at : List ℕ → Option (ℕ × List ℕ)
two_at bytes = do
  a ← one_at bytes
  b ← one_at a.1
  Some (a.0 * 10 + b.0, b.1)

-- letters, as many as there are
abbrev pub word_at : List ℕ → List ℕ × List ℕ
word_at bytes = let n = prefix_len is_letter bytes in (take n bytes, drop n bytes)

abbrev pub month_at : List ℕ → Option (ℕ × List ℕ)
month_at bytes = do
  n ← month_of (word_at bytes).0
  Some (n, (word_at bytes).1)

-- one digit or two
abbrev pub second_digit : ℕ × List ℕ → Option (ℕ × List ℕ) → ℕ × List ℕ
second_digit a None = a
second_digit a (Some b) = (a.0 * 10 + b.0, b.1)

abbrev pub day_at : List ℕ → Option (ℕ × List ℕ)
day_at bytes = do
  a ← one_at bytes
  Some (second_digit a (one_at a.1))

-- two digits, three, or four that say 1900 or more
abbrev pub fourth_digit : ℕ × List ℕ → Option (ℕ × List ℕ) → Option (ℕ × List ℕ)
fourth_digit a None = Some (1900 + a.0, a.1)
fourth_digit a (Some b) = if nat_le 1900 (a.0 * 10 + b.0) then Some (a.0 * 10 + b.0, b.1) else None

abbrev pub third_digit : ℕ × List ℕ → Option (ℕ × List ℕ) → Option (ℕ × List ℕ)
third_digit a None = Some (year_of_two a.0, a.1)
third_digit a (Some b) = fourth_digit (a.0 * 10 + b.0, b.1) (one_at b.1)

abbrev pub year_at : List ℕ → Option (ℕ × List ℕ)
year_at bytes = do
  a ← two_at bytes
  third_digit a (one_at a.1)

abbrev pub offset_at : Bool → List ℕ → Option (Zone × List ℕ)
offset_at is_west bytes = do
  h ← two_at bytes
  m ← two_at h.1
  Some (offset is_west h.0 m.0, m.1)

-- a sign and four digits
abbrev pub signed_at : List ℕ → Option (Zone × List ℕ)
signed_at bytes =
    if first_is 43 bytes then offset_at false (drop 1 bytes)
    else if first_is 45 bytes then offset_at true (drop 1 bytes)
    else None

-- or letters
abbrev pub named_at : List ℕ → Option (Zone × List ℕ)
named_at bytes = do
  zone ← zone_of (word_at bytes).0
  Some (zone, (word_at bytes).1)

abbrev pub zone_at : List ℕ → Option (Zone × List ℕ)
zone_at bytes = if first_is 43 bytes || first_is 45 bytes then signed_at bytes else named_at bytes

-- ---- the parts of a date

-- past the name of a day and its comma, if a name is there
abbrev pub past_day_name : List ℕ → Option (List ℕ)
past_day_name bytes =
    if length (word_at bytes).0 == 0 then Some bytes
    else if is_among day_names (word_at bytes).0 then past_mark 44 (word_at bytes).1
    else None

-- the second, if a colon is there, and past what is blank behind it
abbrev pub behind_colon : List ℕ → Option (ℕ × List ℕ)
behind_colon bytes = do
  digits ← past_blank bytes
  s ← two_at digits
  rest ← past_blank s.1
  Some (s.0, rest)

abbrev pub second_at : List ℕ → Option (ℕ × List ℕ)
second_at bytes = do
  start ← past_blank bytes
  if first_is 58 start then behind_colon (drop 1 start) else Some (0, start)

-- day, month and year, and past what is blank behind them
abbrev pub date_at : List ℕ → Option ((ℕ × ℕ × ℕ) × List ℕ)
date_at bytes = do
  d ← day_at bytes
  a ← past_blank d.1
  m ← month_at a
  b ← past_blank m.1
  y ← year_at b
  rest ← past_gap y.1
  Some ((y.0, m.0, d.0), rest)

abbrev pub time_at : List ℕ → Option ((ℕ × ℕ × ℕ) × List ℕ)
time_at bytes = do
  h ← two_at bytes
  a ← past_mark 58 h.1
  m ← two_at a
  s ← second_at m.1
  Some ((h.0, m.0, s.0), s.1)

abbrev pub stamped : ℕ × ℕ × ℕ → ℕ × ℕ × ℕ → Zone → Stamp
stamped d t zone = record { year = d.0; month = d.1; day = d.2; hour = t.0; minute = t.1; second = t.2; zone = zone }

abbrev pub checked : Stamp → Option Stamp
checked s = if is_date s then Some s else None

abbrev pub if_ended : List ℕ → Stamp → Option Stamp
if_ended rest s = if length rest == 0 then checked s else None

-- a whole text that is a date
unfoldable pub date_time : List ℕ → Option Stamp
date_time bytes = do
  a ← past_blank bytes
  b ← past_day_name a
  d ← date_at b
  t ← time_at d.1
  z ← zone_at t.1
  rest ← past_blank z.1
  if_ended rest (stamped d.0 t.0 z.0)
