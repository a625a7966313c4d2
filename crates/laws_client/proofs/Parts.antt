-- The numbers of a FETCH that was read are such as can be printed.
use Rattle.std.proofs.Common.{ℕ, Bool, ◌==◌, inl, inr, List, [], ◌∷◌, ◌++◌, ◌∙◌, ap, arith, refl, subst, sym}
use Rattle.std.specs.Prelude.{◌≡◌, ◌||◌, true, codes, Option, Some, None, Result, Ok, Err}
use Rattle.envelope.specs.Grammar.{Gap}
use Rattle.imap_grammar.specs.Bytes.{is_field_byte}
use Rattle.imap_grammar.specs.Grammar.{FieldName, ItemIs, ItemsAre, Line, Others, PartIs, PartialIs, QuotedField, Reads, Separated}
use Rattle.imap_grammar.specs.declared.items.BodyPart.{BodyPart}
use Rattle.imap_grammar.specs.declared.items.BodyPart.TheVariants as parts
use Rattle.imap_grammar.specs.declared.items.Span.{Span}
use Rattle.envelope.proofs.Words.{all_of}
use Rattle.envelope.specs.Grammar.{Exactly, Some1}
use Rattle.std.proofs.lemmas.List.Folds.{list_all-append}
use Rattle.std.specs.List.{list_all}
use Rattle.imap_grammar.specs.Reading.{read}
use Rattle.imap_grammar.specs.declared.command.Command.{Command}
use Rattle.imap_grammar.specs.declared.command.Command.TheVariants as commands
use Rattle.imap_grammar.specs.declared.command.ImapFault.{ImapFault}
use Rattle.imap_grammar.specs.declared.items.FetchItem.{FetchItem}
use Rattle.imap_grammar.specs.declared.items.FetchItem.TheVariants as fetch
use Rattle.imap_grammar.proofs.LineLaw.{reads}
use Rattle.laws_client.specs.Fetches.{AreToldNames, AreToldParts, IsToldPart, IsToldSpan, is_name_byte}
use Rattle.laws_client.specs.Commands.{HasToldParts}

field_told : (text : List ℕ) → Some1 is_field_byte text → list_all is_name_byte text ≡ true
field_told text is = all_of is_field_byte is_name_byte text (λ b e. ap (λ (t : Bool). t || (b == 34)) e) is.1

-- a quote stands before it and behind it
quoted_told : (text : List ℕ) → QuotedField text → list_all is_name_byte text ≡ true
quoted_told text is =
    let name = is.second in
    let whole : text ≡ 34 ∷ (name.front ++ 34 ∷ []) = is.parts ∙ ap (λ (x : List ℕ). x ++ is.back) is.first ∙ ap (λ (x : List ℕ). 34 ∷ x) (name.parts ∙ ap (λ (x : List ℕ). name.front ++ x) name.second) in
    subst (λ (t : List ℕ). list_all is_name_byte t ≡ true) (sym whole) (list_all-append is_name_byte name.front (34 ∷ []) ∙ rw (field_told name.front name.first) refl)

name_told : (name text : List ℕ) → FieldName name text → list_all is_name_byte name ≡ true
name_told name text (same, inl plain) = subst (λ (t : List ℕ). list_all is_name_byte t ≡ true) same (field_told text plain)
name_told name text (same, inr quoted) = subst (λ (t : List ℕ). list_all is_name_byte t ≡ true) same (quoted_told text quoted)

names_told : (name : List ℕ) (names : List (List ℕ)) (text : List ℕ) → Separated (Exactly (codes " ")) FieldName (name ∷ names) text → list_all (list_all is_name_byte) (name ∷ names) ≡ true
names_told name [] text is = rw (name_told name is.front is.first) refl
names_told name (other ∷ names) text is = rw (name_told name is.front is.first) (names_told other names is.second.back is.second.second)

part_told : (part : BodyPart) (text : List ℕ) → PartIs part text → AreToldNames part
part_told (parts.Section section) text is = tt
part_told (parts.Fields others []) text is = absurd is.second.first
part_told (parts.Fields others (name ∷ names)) text is = names_told name names is.second.front is.second.first

span_told : (span : Option Span) (text : List ℕ) → PartialIs span text → IsToldSpan span
span_told None text is = tt
span_told (Some span) text is = omega (arith, is.second.first.1)

item_told : (item : FetchItem) (text : List ℕ) → ItemIs item text → IsToldPart item
item_told fetch.Uid text is = tt
item_told fetch.Flags text is = tt
item_told fetch.Size text is = tt
item_told fetch.InternalDate text is = tt
item_told (fetch.Rfc822 section) text is = tt
item_told (fetch.Body peek part span) text is = (part_told part is.second.front is.second.first, span_told span is.second.second.back is.second.second.second)

others_told : (items : List FetchItem) (text : List ℕ) → Others Gap ItemIs items text → AreToldParts items
others_told [] text are = tt
others_told (item ∷ items) text are = (item_told item are.second.front are.second.first, others_told items are.second.back are.second.second)

separated_told : (items : List FetchItem) (text : List ℕ) → Separated Gap ItemIs items text → AreToldParts items
separated_told [] text are = absurd are
separated_told (item ∷ items) text are = (item_told item are.front are.first, others_told items are.back are.second)

items_told : (items : List FetchItem) (text : List ℕ) → ItemsAre items text → AreToldParts items
items_told items text (inl (item, is, one)) = subst (λ (xs : List FetchItem). AreToldParts xs) (sym is) (item_told item text one, tt)
items_told items text (inr (inl (are, fast))) = subst (λ (xs : List FetchItem). AreToldParts xs) (sym are) (tt, (tt, (tt, tt)))
items_told items text (inr (inr many)) = separated_told items many.second.front many.second.first

line_told : (tag : List ℕ) (command : Command) (line : List ℕ) → Line tag command line → HasToldParts command
line_told tag (commands.Fetch f) line is = items_told f.items _ is.second.second.second.first.second.second.second
line_told tag _ line is = tt

abbrev pub HasTold : Result (List ℕ × Command) ImapFault → Type 0
HasTold (Ok line) = HasToldParts line.1
HasTold (Err fault) = Unit {0}

has_told : (line : List ℕ) (r : Result (List ℕ × Command) ImapFault) → Reads line r → HasTold r
has_told line (Ok read) is = line_told read.0 read.1 line is
has_told line (Err fault) is = tt

pub read_told : (line : List ℕ) → HasTold (read line)
read_told line = has_told line (read line) (reads line)
