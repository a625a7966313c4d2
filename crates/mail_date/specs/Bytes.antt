-- Classes of bytes, as tests.
use Rattle.std.specs.Prelude.{ℕ, Bool, false, List, [], ◌∷◌, ◌==◌, ◌&&◌, ◌||◌, nat_le}

-- the byte stands in the text
abbrev pub is_in : List ℕ → ℕ → Bool
is_in [] b = false
is_in (x ∷ xs) b = (b == x) || is_in xs b

abbrev pub is_digit : ℕ → Bool
is_digit b = nat_le 48 b && nat_le b 57

abbrev pub is_letter : ℕ → Bool
is_letter b = (nat_le 65 b && nat_le b 90) || (nat_le 97 b && nat_le b 122)

-- a space or a tab
abbrev pub is_blank : ℕ → Bool
is_blank b = (b == 32) || (b == 9)

-- of folding white space: a space, a tab, and the CR and LF of a fold
abbrev pub is_white : ℕ → Bool
is_white b = is_blank b || (b == 13) || (b == 10)

-- whether the text begins with this byte
abbrev pub first_is : ℕ → List ℕ → Bool
first_is b [] = false
first_is b (x ∷ xs) = x == b

-- the text begins with a space or a tab, which folds the line before it
abbrev pub is_folded : List ℕ → Bool
is_folded bytes = first_is 32 bytes || first_is 9 bytes
