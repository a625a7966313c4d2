-- Where a search for words looks (RFC 9051, 6.4.4): in a field of a header, behind the header, or in all of a text.
use Rattle.std.specs.Prelude.{ℕ, Bool, true, false, List, [], ◌∷◌, length, take, drop, filter, Option, Some, None, ◌==◌, ◌&&◌, ◌||◌, not, if◌then◌else◌}
use Rattle.std.specs.List.{list_any}
use Rattle.std.specs.Str.{str_eq_ignore_ascii_case as is_same}
use Rattle.mail_date.specs.Bytes.{first_is}
use Rattle.mail_date.specs.Fields.{ends_field, field_len, is_empty_line, past_name}

-- the text begins with these words, in upper or lower case
abbrev pub begins : (words : List ℕ) → (text : List ℕ) → Bool
begins words text = is_same (take (length words) text) words

-- they stand somewhere in the text
abbrev pub contains : (words : List ℕ) → (text : List ℕ) → Bool
contains words [] = begins words []
contains words (b ∷ bs) = begins words (b ∷ bs) || contains words bs

-- of the end of a line
abbrev pub ends_line : ℕ → Bool
ends_line b = (b == 13) || (b == 10)

-- without the CR and LF of its folds
abbrev pub unfolded : List ℕ → List ℕ
unfolded text = filter (λ b. not (ends_line b)) text

-- The fields before the first empty line, each of them with all that follows it; `starts` says that a field begins here.
abbrev pub fields_from : Bool → List ℕ → List (List ℕ)
fields_from starts [] = []
fields_from starts (b ∷ bs) =
    if starts && is_empty_line (b ∷ bs) then []
    else if starts then (b ∷ bs) ∷ fields_from (ends_field b bs) bs
    else fields_from (ends_field b bs) bs

-- what stands behind a field's name and colon has these words up to the field's end
abbrev pub body_has : (words : List ℕ) → Option (List ℕ) → Bool
body_has words None = false
body_has words (Some body) = contains words (unfolded (take (field_len body) body))

-- a field of this name has these words
abbrev pub in_field : (name words : List ℕ) → (text : List ℕ) → Bool
in_field name words text = list_any (λ field. body_has words (past_name name field)) (fields_from true text)

-- behind the LF of an empty line
abbrev pub past_line : List ℕ → List ℕ
past_line text = if first_is 10 text then drop 1 text else drop 2 text

-- What stands behind the first empty line, and nothing where there is none; `starts` says that a line begins here.
abbrev pub body_from : Bool → List ℕ → List ℕ
body_from starts [] = []
body_from starts (b ∷ bs) = if starts && is_empty_line (b ∷ bs) then past_line (b ∷ bs) else body_from (b == 10) bs

abbrev pub body : List ℕ → List ℕ
body text = body_from true text
