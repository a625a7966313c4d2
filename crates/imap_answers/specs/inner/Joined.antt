-- Words with a space between two, as they are written from left to right.
use Rattle.std.specs.Prelude.{ℕ, Bool, true, false, List, [], ◌∷◌, ◌++◌, Option, Some, None, if◌then◌else◌}

-- a word, with a space before it unless it is the first
abbrev pub lead : Bool → List ℕ → List ℕ
lead first word = if first then word else 32 ∷ word

abbrev pub joined : Bool → List (List ℕ) → List ℕ
joined first [] = []
joined first (word ∷ words) = lead first word ++ joined false words

abbrev pub is_none : {A : Type 0} → List A → Bool
is_none [] = true
is_none (x ∷ xs) = false

-- the first of some and those behind it, or nothing, as the list that they are
abbrev pub whole : {A : Type 0} → Option (A × List A) → List A
whole None = []
whole (Some found) = found.0 ∷ found.1
