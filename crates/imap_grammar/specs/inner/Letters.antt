-- Bytes in upper or lower case.
use Rattle.std.specs.Prelude.{ℕ, List, [], ◌∷◌, Option, Some, None, ◌==◌, if◌then◌else◌}
use Rattle.std.specs.Char.{to_ascii_lowercase}

-- what follows this byte, in upper or lower case
abbrev pub past_letter : ℕ → List ℕ → Option (List ℕ)
past_letter b [] = None
past_letter b (x ∷ xs) = if to_ascii_lowercase b == to_ascii_lowercase x then Some xs else None
