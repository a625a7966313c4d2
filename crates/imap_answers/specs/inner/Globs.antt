-- What a pattern stands for, byte by byte; nobody has to believe this file.
use Rattle.std.specs.Prelude.{◌≡◌, ℕ, ◌≤◌, Bool, false, List, length, drop, ◌==◌, ◌&&◌, ◌||◌, if◌then◌else◌, slice_index_or}
use Rattle.envelope.specs.Bytes.{is_not_slash}
use Rattle.imap_answers.specs.Answers.{matches}

abbrev pub is_wild : ℕ → Bool
is_wild p = (p == 42) || (p == 37)

abbrev pub at_byte : ℕ → ℕ → Bool → Bool → Bool → Bool
at_byte p b here behind next = if p == 42 then here || next else if p == 37 then here || (is_not_slash b && next) else (b == p) && behind

-- for each position of a name: whether the pattern stands for what is left from there on
abbrev pub Reached : List ℕ → List ℕ → List Bool → Type 0
Reached pattern name ok = (k : ℕ) → k ≤ length name → slice_index_or ok k false ≡ matches pattern (drop k name)
