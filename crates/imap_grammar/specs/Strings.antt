-- Strings at the front of a text: an atom, or a quoted string. Reading has these names too.
use Rattle.std.specs.Prelude.{ℕ, suc, Bool, false, List, [], ◌∷◌, take, drop, Option, Some, None, ◌==◌, ◌||◌, if◌then◌else◌}
use Rattle.std.specs.Option.{option_map}
use Rattle.envelope.specs.Names.{value_of}
use Rattle.envelope.specs.Reading.{◌>>=◌, first_is, some_len}
use Rattle.imap_grammar.specs.Bytes.{is_quotable, is_special}

-- a quoted string from behind its first quote, and with its last; after a backslash is `escaped`
abbrev pub quoted_len : Bool → List ℕ → Option ℕ
quoted_len escaped [] = None
quoted_len escaped (b ∷ bs) =
    if escaped then (if is_special b then option_map suc (quoted_len false bs) else None)
    else if b == 34 then Some 1
    else if (b == 92) || is_quotable b then option_map suc (quoted_len (b == 92) bs)
    else None

abbrev pub string_len : (ℕ → Bool) → List ℕ → Option ℕ
string_len class bytes = if first_is 34 bytes then option_map suc (quoted_len false (drop 1 bytes)) else some_len class bytes

-- a name or a pattern
abbrev pub string_at : (ℕ → Bool) → List ℕ → Option (List ℕ × List ℕ)
string_at class bytes = do
  n ← string_len class bytes
  Some (value_of (take n bytes), drop n bytes)
