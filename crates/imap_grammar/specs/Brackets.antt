-- Texts in which brackets keep together what stands within them.
use Rattle.std.specs.Prelude.{ℕ, suc, Bool, false, List, [], ◌∷◌, take, drop, filter, ◌==◌, ◌&&◌, not, if◌then◌else◌}
use Rattle.std.specs.List.{onto_first}
use Rattle.envelope.specs.Reading.{has_bytes}

-- whether a bracket is open behind this byte
abbrev pub in_bracket : Bool → ℕ → Bool
in_bracket within b = if within then not (b == 93) else b == 91

-- how many bytes stand before the first such byte outside of brackets, or all
abbrev pub outside_len : ℕ → Bool → List ℕ → ℕ
outside_len c within [] = 0
outside_len c within (b ∷ bs) = if not within && (b == c) then 0 else suc (outside_len c (in_bracket within b) bs)

-- what stands before the first space outside of brackets, and the rest
abbrev pub item_word_at : List ℕ → List ℕ × List ℕ
item_word_at bytes = (take (outside_len 32 false bytes) bytes, drop (outside_len 32 false bytes) bytes)

-- the parts between spaces outside of brackets
abbrev pub cut_outside : Bool → List ℕ → List (List ℕ)
cut_outside within [] = [] ∷ []
cut_outside within (b ∷ bs) = if not within && (b == 32) then [] ∷ cut_outside false bs else onto_first b (cut_outside (in_bracket within b) bs)

-- and those of them that have bytes
abbrev pub item_words : List ℕ → List (List ℕ)
item_words text = filter has_bytes (cut_outside false text)
