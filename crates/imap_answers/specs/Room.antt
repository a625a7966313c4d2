-- How many bytes the answer to a FETCH has at most, told without writing it: a text has its length, what stands around it a fixed number.
use Rattle.std.specs.Prelude.{ℕ, ◌+◌, min, List, length, map, Option, Some, None}
use Rattle.std.specs.List.{sum}
use Rattle.change_ring.specs.Words.{spaced}
use Rattle.mailbox.specs.declared.clients.Row.{Row}
use Rattle.imap_grammar.specs.declared.items.Section.{Section}
use Rattle.imap_grammar.specs.declared.items.Section.TheVariants as sections
use Rattle.imap_grammar.specs.declared.items.BodyPart.{BodyPart}
use Rattle.imap_grammar.specs.declared.items.BodyPart.TheVariants as parts
use Rattle.imap_grammar.specs.declared.items.Span.{Span}
use Rattle.imap_grammar.specs.declared.items.FetchItem.{FetchItem}
use Rattle.imap_grammar.specs.declared.items.FetchItem.TheVariants as fetch
use Rattle.imap_answers.specs.Answers.{header}

-- Where a text begins isn't looked for: its header counts with it.
abbrev pub section_most : Section → List ℕ → ℕ
section_most sections.Whole text = length text
section_most sections.Header text = length (header text)
section_most sections.Text text = length text

abbrev pub part_most : BodyPart → List ℕ → ℕ
part_most (parts.Section which) text = section_most which text
part_most (parts.Fields others names) text = length (header text)

-- the names of fields, which are said as they were asked
abbrev pub names_most : BodyPart → ℕ
names_most (parts.Section which) = 0
names_most (parts.Fields others names) = length (spaced names)

abbrev pub span_most : Option Span → ℕ → ℕ
span_most None most = most
span_most (Some span) most = min span.count most

-- an item with the space before it: 80 bytes, and what it tells of the text
abbrev pub item_most : Row → FetchItem → ℕ
item_most row (fetch.Rfc822 which) = section_most which row.text.bytes + 80
item_most row (fetch.Body peek which span) = span_most span (part_most which row.text.bytes) + names_most which + 80
item_most row _ = 80

-- 100 bytes for what is said beside the items: its position, and UID and FLAGS where they weren't asked
abbrev pub row_most : List FetchItem → Row → ℕ
row_most items row = sum (map (item_most row) items) + 100
