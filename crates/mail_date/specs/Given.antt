-- A date as IMAP's clients give it, without the quotes around it (RFC 9051, 9: date-time), as rules.
use Rattle.std.specs.Prelude.{◌≡◌, ℕ, true, codes, ◌⊎◌}
use Rattle.mail_date.specs.declared.stamp.Stamp.{Stamp}
use Rattle.mail_date.specs.declared.stamp.Zone.{Zone}
use Rattle.mail_date.specs.Dates.{is_date}
use Rattle.mail_date.specs.Grammar.{Rule, ◌⨾◌, Exactly, Digits, Month, Sign}

-- two digits, or a space and one
abbrev pub FixedDay : ℕ → Rule
FixedDay day text = Digits 2 day text ⊎ (Exactly (codes " ") ⨾ Digits 1 day) text

abbrev pub FixedDate : Stamp → Rule
FixedDate s = FixedDay s.day ⨾ Exactly (codes "-") ⨾ Month s.month ⨾ Exactly (codes "-") ⨾ Digits 4 s.year

abbrev pub FixedTime : Stamp → Rule
FixedTime s = Digits 2 s.hour ⨾ Exactly (codes ":") ⨾ Digits 2 s.minute ⨾ Exactly (codes ":") ⨾ Digits 2 s.second

abbrev pub FixedZone : Zone → Rule
FixedZone zone = Sign zone.is_west ⨾ Digits 2 zone.hours ⨾ Digits 2 zone.minutes

-- a date and a time that the calendar and the clock have
abbrev pub GivenDate : Stamp → Rule
GivenDate s text = (FixedDate s ⨾ Exactly (codes " ") ⨾ FixedTime s ⨾ Exactly (codes " ") ⨾ FixedZone s.zone) text × (is_date s ≡ true)
