-- How the value of a local part is read, byte by byte; nobody has to believe this file.
use Rattle.std.specs.Prelude.{ℕ, false, List, [], ◌∷◌, Option, Some, None, ◌||◌, not, if◌then◌else◌}
use Rattle.std.specs.Char.{eq_ignore_ascii_case}
use Rattle.envelope.specs.Names.{unquoted, is_plus}
use Rattle.envelope.specs.declared.local_part.LocalValue.{LocalValue}

-- what is left of a value
abbrev pub value_left : LocalValue → List ℕ
value_left v = if v.is_quoted then unquoted false v.spelled.now else v.spelled.now

-- what follows the user in a value that begins with that user, in upper or lower case, before its first +
abbrev pub past_user : List ℕ → List ℕ → Option (List ℕ)
past_user [] value = Some value
past_user (u ∷ us) [] = None
past_user (u ∷ us) (c ∷ cs) = if is_plus c || not (eq_ignore_ascii_case c u) then None else past_user us cs
