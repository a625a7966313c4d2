-- Spaces at the front of a text.
use Rattle.std.specs.Prelude.{ℕ, Bool, List, Option, Some, None, if◌then◌else◌}
use Rattle.std.specs.List.{list_all}
use Rattle.envelope.specs.Bytes.{is_space}
use Rattle.envelope.specs.Reading.{first_is, after_spaces}

-- what comes after one space or more
abbrev pub past_gap : List ℕ → Option (List ℕ)
past_gap bytes = if first_is 32 bytes then Some (after_spaces bytes) else None

-- nothing, or spaces
abbrev pub is_blank : List ℕ → Bool
is_blank bytes = list_all is_space bytes
