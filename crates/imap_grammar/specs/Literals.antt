-- Literals that a line announces at its end, and texts as quoted strings say them (RFC 9051, 4.3). What a line announces is
-- tied to the grammar by the law `literals_are_announced`, and what a text is in quotes by `quoted_texts_are_read`.
use Rattle.std.specs.Prelude.{ℕ, suc, Bool, codes, List, [], ◌∷◌, ◌++◌, length, drop, Option, Some, None, ◌==◌, if◌then◌else◌}
use Rattle.envelope.specs.Reading.{◌>>=◌}
use Rattle.imap_grammar.specs.Bytes.{is_special}
use Rattle.imap_grammar.specs.Reading.{literal_at}
use Rattle.imap_grammar.specs.declared.command.Literal.{Literal}

abbrev pub position_or : Option ℕ → Bool → Option ℕ
position_or (Some n) here = Some (suc n)
position_or None here = if here then Some 0 else None

-- where the last such byte stands
abbrev pub last_position : ℕ → List ℕ → Option ℕ
last_position b [] = None
last_position b (x ∷ xs) = position_or (last_position b xs) (x == b)

-- the literal at the front, if nothing comes after it
abbrev pub literal_alone : List ℕ → Option Literal
literal_alone bytes = literal_at bytes >>= λ read. if length read.1 == 0 then Some read.0 else None

-- the literal that ends the line, and how many bytes stand before it
unfoldable pub announced : List ℕ → Option (ℕ × Literal)
announced line = do
  n ← last_position 123 line
  literal ← literal_alone (drop n line)
  Some (n, literal)

-- with a backslash before each quote and before each backslash
abbrev pub backslashed : List ℕ → List ℕ
backslashed [] = []
backslashed (b ∷ bs) = if is_special b then 92 ∷ b ∷ backslashed bs else b ∷ backslashed bs

-- the quoted string that says the text
abbrev pub quoted : List ℕ → List ℕ
quoted text = codes "\"" ++ backslashed text ++ codes "\""
