-- The words that lines are made of: the names of flags, and a space between two words.
use Rattle.std.specs.Prelude.{ℕ, List, [], ◌∷◌, ◌++◌, if◌then◌else◌, codes}
use Rattle.change_ring.specs.declared.change.Flags.{Flags}

-- the names of the flags that are set (RFC 9051, 2.3.2)
abbrev pub flag_words : Flags → List (List ℕ)
flag_words f =
    (if f.answered then codes "\\Answered" ∷ [] else []) ++ (if f.flagged then codes "\\Flagged" ∷ [] else [])
    ++ (if f.deleted then codes "\\Deleted" ∷ [] else [])
    ++ (if f.seen then codes "\\Seen" ∷ [] else []) ++ (if f.draft then codes "\\Draft" ∷ [] else [])

-- the words with a space between two
abbrev pub spaced : List (List ℕ) → List ℕ
spaced [] = []
spaced (w ∷ []) = w
spaced (w ∷ v ∷ ws) = w ++ 32 ∷ spaced (v ∷ ws)
