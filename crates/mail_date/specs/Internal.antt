-- A date as IMAP has it between quotes (RFC 9051, date-time), without the quotes: dd-Mon-yyyy hh:mm:ss +hhmm.
use Rattle.std.specs.Prelude.{ℕ, ◌+◌, ◌-◌, ◌/◌, ◌%◌, Bool, codes, List, [], ◌∷◌, ◌++◌, ◌==◌, if◌then◌else◌}
use Rattle.mail_date.specs.declared.stamp.Stamp.{Stamp}
use Rattle.mail_date.specs.Dates.{month_names}

abbrev pub digit : ℕ → ℕ
digit n = 48 + n

abbrev pub two_digits : ℕ → List ℕ
two_digits n = digit (n / 10) ∷ digit (n % 10) ∷ []

abbrev pub four_digits : ℕ → List ℕ
four_digits n = two_digits (n / 100) ++ two_digits (n % 100)

abbrev pub name_at : ℕ → List (List ℕ) → List ℕ
name_at n [] = []
name_at n (name ∷ names) = if n == 1 then name else name_at (n - 1) names

abbrev pub sign : Bool → List ℕ
sign is_west = if is_west then codes "-" else codes "+"

abbrev pub date_text : Stamp → List ℕ
date_text s = two_digits s.day ++ codes "-" ++ name_at s.month month_names ++ codes "-" ++ four_digits s.year

abbrev pub time_text : Stamp → List ℕ
time_text s = two_digits s.hour ++ codes ":" ++ two_digits s.minute ++ codes ":" ++ two_digits s.second

abbrev pub zone_text : Stamp → List ℕ
zone_text s = sign s.zone.is_west ++ two_digits s.zone.hours ++ two_digits s.zone.minutes

abbrev pub internal_text : Stamp → List ℕ
internal_text s = date_text s ++ codes " " ++ time_text s ++ codes " " ++ zone_text s
