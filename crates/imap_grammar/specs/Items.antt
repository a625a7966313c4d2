-- Items of FETCH and STATUS, and flags: how their words are read.
use Rattle.std.specs.Prelude.{ℕ, Bool, true, false, codes, List, [], ◌∷◌, length, Option, Some, None, is_some, ◌==◌, ◌&&◌, ◌||◌, not, if◌then◌else◌}
use Rattle.std.specs.List.{list_all, list_any, filter_map, slice_split}
use Rattle.std.specs.Str.{str_eq_ignore_ascii_case as is_same}
use Rattle.change_ring.specs.declared.change.Flags.{Flags}
use Rattle.envelope.specs.Bytes.{is_space}
use Rattle.envelope.specs.Reading.{◌>>=◌, words, past_byte, past_keyword}
use Rattle.imap_grammar.specs.Bytes.{is_atom, is_field_byte}
use Rattle.imap_grammar.specs.Brackets.{item_words}
use Rattle.imap_grammar.specs.Cuts.{cut_at}
use Rattle.imap_grammar.specs.Numbers.{number_up_to}
use Rattle.imap_grammar.specs.declared.items.Section.{Section}
use Rattle.imap_grammar.specs.declared.items.Section.TheVariants.{Whole, Header, Text}
use Rattle.imap_grammar.specs.declared.items.BodyPart.{BodyPart}
use Rattle.imap_grammar.specs.declared.items.BodyPart.TheVariants as parts
use Rattle.imap_grammar.specs.declared.items.Span.{Span}
use Rattle.imap_grammar.specs.declared.items.FetchItem.{FetchItem}
use Rattle.imap_grammar.specs.declared.items.FetchItem.TheVariants as fetch
use Rattle.imap_grammar.specs.declared.items.StatusItem.{StatusItem}
use Rattle.imap_grammar.specs.declared.items.StatusItem.TheVariants as status

-- one byte or more, all of the class
abbrev pub is_word_of : (ℕ → Bool) → List ℕ → Bool
is_word_of class word = list_all class word && not (length word == 0)

-- ---- FETCH

abbrev pub section_of : List ℕ → Option Section
section_of text =
    if length text == 0 then Some Whole
    else if is_same text (codes "HEADER") then Some Header
    else if is_same text (codes "TEXT") then Some Text
    else None

-- the name that stands between quotes
abbrev pub quoted_name : List ℕ → Option (List ℕ)
quoted_name word = do
  inner ← past_byte 34 word
  cut ← cut_at 34 inner
  if (length cut.1 == 0) && is_word_of is_field_byte cut.0 then Some cut.0 else None

-- the name of a header field, in quotes or without
abbrev pub is_field_name : List ℕ → Bool
is_field_name word = is_word_of is_field_byte word || is_some (quoted_name word)

abbrev pub name_or : Option (List ℕ) → List ℕ → List ℕ
name_or (Some name) word = name
name_or None word = word

-- the name that such a word says: without its quotes
abbrev pub name_said : List ℕ → List ℕ
name_said word = name_or (quoted_name word) word

-- the names of header fields, from behind the parenthesis that opens; one space stands between two of them
abbrev pub fields_of : Bool → List ℕ → Option BodyPart
fields_of others text = do
  cut ← cut_at 41 text
  if (length cut.1 == 0) && list_all is_field_name (slice_split is_space cut.0) then Some (parts.Fields others (slice_split is_space cut.0)) else None

abbrev pub fields_or : Option (List ℕ) → Option (List ℕ) → List ℕ → Option BodyPart
fields_or (Some rest) other text = fields_of false rest
fields_or None (Some rest) text = fields_of true rest
fields_or None None text = section_of text >>= λ section. Some (parts.Section section)

-- what stands between the brackets
abbrev pub part_of : List ℕ → Option BodyPart
part_of text = fields_or (past_keyword (codes "HEADER.FIELDS (") text) (past_keyword (codes "HEADER.FIELDS.NOT (") text) text

-- the greatest signed number of 64 bits
abbrev pub greatest_span : ℕ
greatest_span = 9223372036854775807

abbrev pub span_between : List ℕ × List ℕ → Option Span
span_between cut = do
  origin ← number_up_to greatest_span cut.0
  count ← number_up_to greatest_span cut.1
  if count == 0 then None else Some (record { origin = origin; count = count })

-- `<origin.count>`
abbrev pub span_of : List ℕ → Option Span
span_of text = do
  inner ← past_byte 60 text
  cut ← cut_at 62 inner
  numbers ← cut_at 46 cut.0
  if length cut.1 == 0 then span_between numbers else None

abbrev pub partial_of : List ℕ → Option (Option Span)
partial_of text = if length text == 0 then Some None else (span_of text >>= λ span. Some (Some span))

-- from behind the first bracket
abbrev pub body_of : Bool → List ℕ → Option FetchItem
body_of peek text = do
  cut ← cut_at 93 text
  part ← part_of cut.0
  span ← partial_of cut.1
  Some (fetch.Body peek part span)

abbrev pub body_or_peek : Option (List ℕ) → Option (List ℕ) → Option FetchItem
body_or_peek (Some rest) other = body_of false rest
body_or_peek None (Some rest) = body_of true rest
body_or_peek None None = None

abbrev pub fetch_item_of : List ℕ → Option FetchItem
fetch_item_of word =
    if is_same word (codes "UID") then Some fetch.Uid
    else if is_same word (codes "FLAGS") then Some fetch.Flags
    else if is_same word (codes "RFC822.SIZE") then Some fetch.Size
    else if is_same word (codes "INTERNALDATE") then Some fetch.InternalDate
    else if is_same word (codes "RFC822") then Some (fetch.Rfc822 Whole)
    else if is_same word (codes "RFC822.HEADER") then Some (fetch.Rfc822 Header)
    else if is_same word (codes "RFC822.TEXT") then Some (fetch.Rfc822 Text)
    else body_or_peek (past_keyword (codes "BODY[") word) (past_keyword (codes "BODY.PEEK[") word)

-- the items that the words of a text say
abbrev pub fetch_items_of : List ℕ → List FetchItem
fetch_items_of text = filter_map fetch_item_of (item_words text)

-- what FAST stands for (RFC 9051, 6.4.5)
abbrev pub fast_items : List FetchItem
fast_items = fetch.Flags ∷ fetch.InternalDate ∷ fetch.Size ∷ []

abbrev pub is_header : Section → Bool
is_header Header = true
is_header _ = false

-- the read of this item sets \Seen; of RFC822's items that of the header doesn't (RFC 3501, 6.4.5)
abbrev pub marks_seen : FetchItem → Bool
marks_seen (fetch.Body peek part span) = not peek
marks_seen (fetch.Rfc822 which) = not (is_header which)
marks_seen _ = false

-- the standard profile doesn't have this item
abbrev pub is_compatible : FetchItem → Bool
is_compatible fetch.InternalDate = true
is_compatible (fetch.Rfc822 which) = true
is_compatible (fetch.Body peek (parts.Fields others names) span) = true
is_compatible _ = false

-- ---- STATUS

abbrev pub status_item_of : List ℕ → Option StatusItem
status_item_of word =
    if is_same word (codes "MESSAGES") then Some status.Messages
    else if is_same word (codes "UIDNEXT") then Some status.UidNext
    else if is_same word (codes "UIDVALIDITY") then Some status.UidValidity
    else if is_same word (codes "UNSEEN") then Some status.Unseen
    else if is_same word (codes "DELETED") then Some status.Deleted
    else if is_same word (codes "SIZE") then Some status.Size
    else if is_same word (codes "RECENT") then Some status.Recent
    else None

abbrev pub status_items_of : List ℕ → List StatusItem
status_items_of text = filter_map status_item_of (words text)

abbrev pub is_recent : StatusItem → Bool
is_recent status.Recent = true
is_recent _ = false

-- ---- flags

abbrev pub is_flag_after : Option (List ℕ) → List ℕ → Bool
is_flag_after (Some rest) word = is_word_of is_atom rest
is_flag_after None word = is_word_of is_atom word

-- an atom, or one after a backslash
abbrev pub is_flag : List ℕ → Bool
is_flag word = is_flag_after (past_byte 92 word) word

abbrev pub has_word : List ℕ → List (List ℕ) → Bool
has_word word words = list_any (is_same word) words

-- the flags among these words; others are ignored
abbrev pub flags_among : List (List ℕ) → Flags
flags_among words = record {
  answered = has_word (codes "\\Answered") words;
  flagged = has_word (codes "\\Flagged") words;
  deleted = has_word (codes "\\Deleted") words;
  seen = has_word (codes "\\Seen") words;
  draft = has_word (codes "\\Draft") words;
}
