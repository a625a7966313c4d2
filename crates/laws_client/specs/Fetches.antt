-- What is asked of a view and of a FETCH, that the numbers in their answers can be printed.
use Rattle.std.specs.Prelude.{◌≡◌, ℕ, ◌+◌, ◌<◌, ◌^◌, ◌==◌, ◌||◌, Bool, true, List, [], ◌∷◌, length, Option, Some, None}
use Rattle.std.specs.List.{list_all}
use Rattle.imap_grammar.specs.Bytes.{is_field_byte}
use Rattle.imap_grammar.specs.declared.items.BodyPart.{BodyPart}
use Rattle.imap_grammar.specs.declared.items.BodyPart.TheVariants as parts
use Rattle.imap_grammar.specs.declared.items.Span.{Span}
use Rattle.imap_grammar.specs.declared.items.FetchItem.{FetchItem}
use Rattle.imap_grammar.specs.declared.items.FetchItem.TheVariants as fetch

-- the position where a part of a text begins (RFC 9051, 7.5.2) is told with it
abbrev pub IsToldSpan : Option Span → Type 0
IsToldSpan None = Unit {0}
IsToldSpan (Some span) = span.origin < 2 ^ 64

-- a byte of the name of a header field as it stands in a line: one of such names, or a quote around them (RFC 9051, 9: header-fld-name)
abbrev pub is_name_byte : ℕ → Bool
is_name_byte b = is_field_byte b || (b == 34)

-- and so are the names of header fields, of such bytes
abbrev pub AreToldNames : BodyPart → Type 0
AreToldNames (parts.Section which) = Unit {0}
AreToldNames (parts.Fields others names) = list_all (list_all is_name_byte) names ≡ true

abbrev pub IsToldPart : FetchItem → Type 0
IsToldPart (fetch.Body peek part span) = AreToldNames part × IsToldSpan span
IsToldPart item = Unit {0}

abbrev pub AreToldParts : List FetchItem → Type 0
AreToldParts [] = Unit {0}
AreToldParts (item ∷ items) = IsToldPart item × AreToldParts items

abbrev pub AreSmall : List ℕ → Type 0
AreSmall [] = Unit {0}
AreSmall (uid ∷ view) = (uid < 2 ^ 64) × AreSmall view

-- each UID and each position of a view
pub record IsNumbered (view : List ℕ) : Type 0 where
  pub few : length view + 1 < 2 ^ 64
  pub small : AreSmall view
