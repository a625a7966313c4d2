-- Classes of bytes, as tests.
use Rattle.std.specs.Prelude.{ℕ, Bool, false, codes, List, [], ◌∷◌, ◌==◌, ◌&&◌, ◌||◌, nat_le, not}

-- the byte stands in the text
abbrev pub is_in : List ℕ → ℕ → Bool
is_in [] b = false
is_in (x ∷ xs) b = (b == x) || is_in xs b

abbrev pub is_space : ℕ → Bool
is_space b = b == 32

abbrev pub is_not_space : ℕ → Bool
is_not_space b = not (is_space b)

abbrev pub is_slash : ℕ → Bool
is_slash b = b == 47

abbrev pub is_not_slash : ℕ → Bool
is_not_slash b = not (is_slash b)

-- a space, or a character that prints
abbrev pub is_text : ℕ → Bool
is_text b = nat_le 32 b && nat_le b 126

-- a character that prints
abbrev pub is_graphic : ℕ → Bool
is_graphic b = nat_le 33 b && nat_le b 126

-- of a local part without quotes
abbrev pub is_atom : ℕ → Bool
is_atom b = is_graphic b && not (is_in (codes "<>()[]\\,:;@\"") b)

abbrev pub is_alphanumeric : ℕ → Bool
is_alphanumeric b = (nat_le 48 b && nat_le b 57) || (nat_le 65 b && nat_le b 90) || (nat_le 97 b && nat_le b 122)

-- of a domain's name
abbrev pub is_name : ℕ → Bool
is_name b = is_alphanumeric b || is_in (codes "-_.") b

-- of a domain in brackets
abbrev pub is_literal : ℕ → Bool
is_literal b = is_graphic b && not (is_in (codes "[]\\") b)

-- of a quoted string, without a backslash before it
abbrev pub is_quotable : ℕ → Bool
is_quotable b = is_text b && not (is_in (codes "\\\"") b)
