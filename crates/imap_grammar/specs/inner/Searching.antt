-- How words are looked for in a text. No public clause speaks of it.
use Rattle.std.specs.Prelude.{ℕ, List, [], ◌∷◌, Option, Some, None}
use Rattle.std.specs.Char.{to_ascii_lowercase}
use Rattle.imap_grammar.specs.Contains.{unfolded}
use Rattle.imap_grammar.specs.declared.letters.Folds.{Folds}
use Rattle.imap_grammar.specs.declared.letters.Folds.TheVariants.{Kept, Dropped}

-- the text that is searched
abbrev pub searched : Folds → List ℕ → List ℕ
searched Kept text = text
searched Dropped text = unfolded text

-- the first of the words' bytes, in lower case
abbrev pub first_letter : List ℕ → Option ℕ
first_letter [] = None
first_letter (b ∷ bs) = Some (to_ascii_lowercase b)
