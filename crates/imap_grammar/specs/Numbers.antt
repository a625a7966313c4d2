-- What digits say.
use Rattle.std.specs.Prelude.{ℕ, ◌+◌, ◌-◌, ◌*◌, Bool, List, [], ◌∷◌, length, Option, Some, None, ◌==◌, ◌&&◌, not, nat_le, if◌then◌else◌}
use Rattle.std.specs.List.{list_all}
use Rattle.imap_grammar.specs.Bytes.{is_digit}

-- the number that digits say, after those that said n
abbrev pub number_from : ℕ → List ℕ → ℕ
number_from n [] = n
number_from n (b ∷ bs) = number_from (n * 10 + (b - 48)) bs

abbrev pub number_of : List ℕ → ℕ
number_of digits = number_from 0 digits

-- one digit or more
abbrev pub are_digits : List ℕ → Bool
are_digits text = list_all is_digit text && not (length text == 0)

-- the number that a text says, if it is at most this
abbrev pub number_up_to : ℕ → List ℕ → Option ℕ
number_up_to most text = if are_digits text && nat_le (number_of text) most then Some (number_of text) else None

-- a text of as many bytes or more has no size of its own
abbrev pub most_size : ℕ
most_size = 18446744073709551615
