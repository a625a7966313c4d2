-- What bodies and proofs say besides: a script: what its lines are, what each does to the house, and what is written.
use Rattle.std.specs.Prelude.{◌≡◌, ℕ, ◌+◌, true, false, List, [], ◌∷◌, ◌++◌, length, drop, Option, Some, None}
use Rattle.std.specs.Borrow.{Bor}
use Rattle.std.specs.Str.{bytes_eq}
use Rattle.hex.specs.Hex.{decode_of}
use Rattle.line_io.specs.Wire.{crlf}
use Rattle.script.specs.declared.line.Said as said
use Rattle.script.specs.declared.line.Said.TheVariants as said_as
use Rattle.script.specs.Script.{ScriptLine, Bad, brought, begins}

-- ---- the lines of a script

-- what was cut off a line is its first word, said of a word with no space: whether the line begins with it and a space, and what stands behind that
abbrev pub IsCut : List ℕ → (word : List ℕ) → Option (Bor (List ℕ) × Bor (List ℕ)) → Type 0
IsCut line word None = begins (word ++ 32 ∷ []) line ≡ false
IsCut line word (Some (first, rest)) = (bytes_eq first.now word ≡ begins (word ++ 32 ∷ []) line)
    × (begins (word ++ 32 ∷ []) line ≡ true → rest.now ≡ drop (length word + 1) line)

-- what was read behind a number, as a line of the script
abbrev pub as_line : (brings : List ℕ → ScriptLine) → (gone : ScriptLine) → said.Said → ScriptLine
as_line brings gone (said_as.Text text) = brings (text.now ++ crlf)
as_line brings gone (said_as.Hex digits) = brought brings (decode_of digits.now)
as_line brings gone said_as.Gone = gone
as_line brings gone said_as.Other = Bad
