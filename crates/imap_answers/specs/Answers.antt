-- The answers that tell of messages and mailboxes (RFC 9051, 7).
use Rattle.std.specs.Prelude.{◌≡◌, ◌≢◌, ℕ, ◌+◌, min, max, Bool, true, false, codes, decimal, List, [], ◌∷◌, ◌++◌, length, take, drop, map, flat_map, Option, Some, None, is_some, ◌==◌, ◌&&◌, ◌||◌, not, if◌then◌else◌}
use Rattle.std.specs.List.{list_any}
use Rattle.std.specs.Str.{str_to_ascii_lowercase as lowercase, str_eq_ignore_ascii_case as is_same}
use Rattle.change_ring.specs.declared.change.Flags.{Flags}
use Rattle.mailbox.specs.declared.clients.Opening.{Opening}
use Rattle.mailbox.specs.declared.clients.Row.{Row}
use Rattle.mailbox.specs.declared.mailbox.Status.{Status}
use Rattle.change_ring.specs.Words.{flag_words, spaced}
use Rattle.envelope.specs.Bytes.{is_not_slash}
use Rattle.envelope.specs.Grammar.{Many}
use Rattle.envelope.specs.Reading.{first_is}
use Rattle.mail_date.specs.Bytes.{is_folded}
use Rattle.delivery_token.specs.Text.{Text, date_of}
use Rattle.mail_date.specs.Fields.{past_name}
use Rattle.mail_date.specs.Internal.{internal_text}
use Rattle.imap_grammar.specs.Grammar.{rfc822_word, section_word, status_word}
use Rattle.imap_grammar.specs.Items.{name_said}
use Rattle.imap_grammar.specs.declared.command.SearchReturns.{SearchReturns}
use Rattle.imap_grammar.specs.declared.items.Section.{Section}
use Rattle.imap_grammar.specs.declared.items.Section.TheVariants as sections
use Rattle.imap_grammar.specs.declared.items.BodyPart.{BodyPart}
use Rattle.imap_grammar.specs.declared.items.BodyPart.TheVariants as parts
use Rattle.imap_grammar.specs.declared.items.Span.{Span}
use Rattle.imap_grammar.specs.declared.items.FetchItem.{FetchItem}
use Rattle.imap_grammar.specs.declared.items.FetchItem.TheVariants as fetch
use Rattle.imap_grammar.specs.declared.items.StatusItem.{StatusItem}
use Rattle.imap_grammar.specs.declared.items.StatusItem.TheVariants as status
use Rattle.imap_answers.specs.declared.list.Listing.{Listing}
use Rattle.imap_answers.specs.declared.list.Listing.TheVariants.{All, Subscribed}

abbrev pub crlf : List ℕ
crlf = 13 ∷ 10 ∷ []

-- ---- parts of a text

-- a line ends here
abbrev pub is_crlf : List ℕ → Bool
is_crlf text = first_is 13 text && first_is 10 (drop 1 text)

-- a text up to and with its first empty line, or all of it; `fresh` where a line begins
abbrev pub header_from : Bool → List ℕ → List ℕ
header_from fresh [] = []
header_from fresh (b ∷ []) = b ∷ []
header_from fresh (b ∷ c ∷ bs) =
    if is_crlf (b ∷ c ∷ bs)
    then (if fresh then crlf else 13 ∷ 10 ∷ header_from true bs)
    else b ∷ header_from false (c ∷ bs)

abbrev pub header : List ℕ → List ℕ
header text = header_from true text

abbrev pub section : Section → List ℕ → List ℕ
section sections.Whole text = text
section sections.Header text = header text
section sections.Text text = drop (length (header text)) text

-- a field of one of these names begins here, which stand in quotes or without
abbrev pub is_named : List (List ℕ) → List ℕ → Bool
is_named names text = list_any (λ word. is_some (past_name (name_said word) text)) names

-- Of what begins here all is answered up to the next field: of a field by its name, and of the empty line always.
abbrev pub takes_field : Bool → List (List ℕ) → List ℕ → Bool
takes_field others names text = is_crlf text || (if others then not (is_named names text) else is_named names text)

-- The fields that are taken. `fresh` where one begins, else `taking` says whether the one that has begun is taken; `cr` behind a CR.
abbrev pub fields_from : (List ℕ → Bool) → Bool → Bool → Bool → List ℕ → List ℕ
fields_from takes fresh taking cr [] = []
fields_from takes fresh taking cr (b ∷ bs) =
    let now = if fresh then takes (b ∷ bs) else taking in
    (if now then b ∷ [] else []) ++ fields_from takes (cr && (b == 10) && not (is_folded bs)) now (b == 13) bs

-- the fields of a text's header that have these names, or others, with the header's empty line (RFC 9051, 6.4.5)
abbrev pub header_fields : Bool → List (List ℕ) → List ℕ → List ℕ
header_fields others names text = fields_from (takes_field others names) true false false (header text)

abbrev pub part_bytes : BodyPart → List ℕ → List ℕ
part_bytes (parts.Section which) text = section which text
part_bytes (parts.Fields others names) text = header_fields others names text

-- as it was asked
abbrev pub part_word : BodyPart → List ℕ
part_word (parts.Section which) = section_word which
part_word (parts.Fields others names) = (if others then codes "HEADER.FIELDS.NOT (" else codes "HEADER.FIELDS (") ++ spaced names ++ codes ")"

abbrev pub part : Option Span → List ℕ → List ℕ
part None bytes = bytes
part (Some span) bytes = take span.count (drop span.origin bytes)

abbrev pub origin_text : Option Span → List ℕ
origin_text None = []
origin_text (Some span) = codes "<" ++ decimal span.origin ++ codes ">"

-- a literal (RFC 9051, 4.3)
abbrev pub literal : List ℕ → List ℕ
literal bytes = codes "{" ++ decimal (length bytes) ++ codes "}\r\n" ++ bytes

-- ---- FETCH

abbrev pub flags_text : Flags → List ℕ
flags_text flags = codes "FLAGS (" ++ spaced (flag_words flags) ++ codes ")"

abbrev pub body_text : BodyPart → Option Span → List ℕ → List ℕ
body_text which span text =
    codes "BODY[" ++ part_word which ++ codes "]" ++ origin_text span ++ codes " " ++ literal (part span (part_bytes which text))

-- as RFC 3501 has it, 7.4.2
abbrev pub rfc822_text : Section → List ℕ → List ℕ
rfc822_text which text = rfc822_word which ++ codes " " ++ literal (section which text)

-- the date of the message with this text, in quotes (RFC 9051, 7.5.2)
abbrev pub date_item : Text → List ℕ
date_item text = codes "INTERNALDATE \"" ++ internal_text (date_of text) ++ codes "\""

abbrev pub item_text : Row → FetchItem → List ℕ
item_text row fetch.Uid = codes "UID " ++ decimal row.uid
item_text row fetch.Flags = flags_text row.flags
item_text row fetch.Size = codes "RFC822.SIZE " ++ decimal (length row.text.bytes)
item_text row fetch.InternalDate = date_item row.text
item_text row (fetch.Rfc822 which) = rfc822_text which row.text.bytes
item_text row (fetch.Body peek which span) = body_text which span row.text.bytes

abbrev pub is_uid : FetchItem → Bool
is_uid fetch.Uid = true
is_uid _ = false

abbrev pub is_flags : FetchItem → Bool
is_flags fetch.Flags = true
is_flags _ = false

-- UID is answered too under UID FETCH, and FLAGS too where \Seen is newly set
abbrev pub uid_first : Bool → List FetchItem → List FetchItem
uid_first by_uid items = if by_uid && not (list_any is_uid items) then fetch.Uid ∷ [] else []

abbrev pub flags_last : Bool → List FetchItem → List FetchItem
flags_last newly_seen items = if newly_seen && not (list_any is_flags items) then fetch.Flags ∷ [] else []

abbrev pub answered : Bool → Bool → List FetchItem → List FetchItem
answered by_uid newly_seen items = uid_first by_uid items ++ (items ++ flags_last newly_seen items)

abbrev pub fetch_answer : ℕ → List (List ℕ) → List ℕ
fetch_answer k texts = codes "* " ++ decimal k ++ codes " FETCH (" ++ spaced texts ++ codes ")\r\n"

-- the answer for the message at this position
abbrev pub row_answer : ℕ → Bool → List FetchItem → Row → List ℕ
row_answer k by_uid items row = fetch_answer k (map (item_text row) (answered by_uid row.newly_seen items))

-- ---- SEARCH

-- each behind a space
abbrev pub spaced_numbers : List ℕ → List ℕ
spaced_numbers numbers = flat_map (λ n. codes " " ++ decimal n) numbers

-- the numbers of the messages that were found (RFC 3501, 7.2.5)
abbrev pub search_answer : List ℕ → List ℕ
search_answer numbers = codes "* SEARCH" ++ spaced_numbers numbers ++ codes "\r\n"

-- ---- sets of UIDs

-- the numbers from one to another (RFC 9051, 9: seq-range)
abbrev pub range_text : (first last : ℕ) → List ℕ
range_text first last = if first == last then decimal first else decimal first ++ codes ":" ++ decimal last

-- what stands behind a run of numbers that follow one another: it goes on, or ends there
abbrev pub runs_text : (first last : ℕ) → List ℕ → List ℕ
runs_text first last [] = range_text first last
runs_text first last (uid ∷ uids) = if uid == last + 1 then runs_text first uid uids else range_text first last ++ codes "," ++ runs_text uid uid uids

-- a set of UIDs in their order, in which each run is one range (RFC 9051, 9: uid-set)
abbrev pub uid_set : List ℕ → List ℕ
uid_set [] = []
uid_set (uid ∷ uids) = runs_text uid uid uids

-- ---- searches that say what to return

-- the lowest of these numbers, and the highest
abbrev pub lowest : ℕ → List ℕ → ℕ
lowest n [] = n
lowest n (m ∷ ms) = lowest (min n m) ms

abbrev pub highest : ℕ → List ℕ → ℕ
highest n [] = n
highest n (m ∷ ms) = highest (max n m) ms

-- Where nothing was found only their count is told (RFC 9051, 6.4.4).
abbrev pub lowest_item : List ℕ → List ℕ
lowest_item [] = []
lowest_item (n ∷ ns) = codes " MIN " ++ decimal (lowest n ns)

abbrev pub highest_item : List ℕ → List ℕ
highest_item [] = []
highest_item (n ∷ ns) = codes " MAX " ++ decimal (highest n ns)

abbrev pub count_item : List ℕ → List ℕ
count_item numbers = codes " COUNT " ++ decimal (length numbers)

abbrev pub all_item : List ℕ → List ℕ
all_item [] = []
all_item (n ∷ ns) = codes " ALL " ++ uid_set (n ∷ ns)

abbrev pub if_asked : Bool → List ℕ → List ℕ
if_asked asked text = if asked then text else []

-- what is asked for, of these numbers
abbrev pub extended_items : SearchReturns → List ℕ → List ℕ
extended_items returns numbers =
    (if_asked returns.min (lowest_item numbers) ++ if_asked returns.max (highest_item numbers))
    ++ (if_asked returns.count (count_item numbers) ++ if_asked returns.all (all_item numbers))

-- which search is answered, and whether by UIDs
abbrev pub extended_front : (tag : List ℕ) → (by_uid : Bool) → List ℕ
extended_front tag by_uid = codes "* ESEARCH (TAG \"" ++ tag ++ (if by_uid then codes "\") UID" else codes "\")")

-- what is told of the messages that were found, under the tag of the search (RFC 9051, 7.3.4)
abbrev pub extended_answer : (tag : List ℕ) → (by_uid : Bool) → SearchReturns → List ℕ → List ℕ
extended_answer tag by_uid returns numbers = extended_front tag by_uid ++ extended_items returns numbers ++ codes "\r\n"

-- the answer to a search under this tag
abbrev pub found_answer : (tag : List ℕ) → (by_uid : Bool) → Option SearchReturns → List ℕ → List ℕ
found_answer tag by_uid None numbers = search_answer numbers
found_answer tag by_uid (Some returns) numbers = extended_answer tag by_uid returns numbers

-- ---- STORE

-- the flags of a message after a STORE, with its UID under UID STORE
abbrev pub flags_answer : Bool → ℕ → ℕ → Flags → List ℕ
flags_answer by_uid k uid flags =
    codes "* " ++ decimal k ++ codes " FETCH (" ++ (if by_uid then codes "UID " ++ decimal uid ++ codes " " else [])
    ++ codes "FLAGS (" ++ spaced (flag_words flags) ++ codes "))\r\n"

-- ---- SELECT

abbrev pub all_flags : List ℕ
all_flags = codes "\\Answered \\Flagged \\Deleted \\Seen \\Draft"

-- what is told of a mailbox that was entered
abbrev pub opening_text : Bool → List ℕ → Opening → List ℕ
opening_text read_only name opening =
    codes "* FLAGS (" ++ all_flags ++ codes ")\r\n* " ++ decimal opening.count ++ codes " EXISTS\r\n"
    ++ codes "* OK [UIDVALIDITY " ++ decimal opening.uidvalidity ++ codes "] UIDs valid\r\n"
    ++ codes "* OK [UIDNEXT " ++ decimal opening.uidnext ++ codes "] Predicted next UID\r\n"
    ++ codes "* OK [PERMANENTFLAGS (" ++ (if read_only then [] else all_flags) ++ codes ")] Flags kept\r\n"
    ++ codes "* LIST () \"/\" " ++ name ++ codes "\r\n"

-- ---- STATUS

abbrev pub status_number : Status → StatusItem → ℕ
status_number s status.Messages = s.messages
status_number s status.UidNext = s.uidnext
status_number s status.UidValidity = s.uidvalidity
status_number s status.Unseen = s.unseen
status_number s status.Deleted = s.deleted
status_number s status.Size = s.size
status_number s status.Recent = 0

abbrev pub status_text : Status → StatusItem → List ℕ
status_text s item = status_word item ++ codes " " ++ decimal (status_number s item)

abbrev pub status_answer : List ℕ → List StatusItem → Status → List ℕ
status_answer name items s =
    codes "* STATUS " ++ name ++ codes " (" ++ spaced (map (status_text s) items) ++ codes ")\r\n"

-- ---- LIST and LSUB

-- the names that a pattern stands for: `*` stands for any bytes, and `%` for any but `/`
pub data Glob : List ℕ → List ℕ → Type 0 where
  end : Glob [] []
  any : {pattern rest : List ℕ} (front : List ℕ) {name : List ℕ} → name ≡ front ++ rest → Glob pattern rest → Glob (42 ∷ pattern) name
  level : {pattern rest : List ℕ} (front : List ℕ) {name : List ℕ} → name ≡ front ++ rest → Many is_not_slash front → Glob pattern rest
      → Glob (37 ∷ pattern) name
  same : {b : ℕ} {pattern name : List ℕ} → b ≢ 42 → b ≢ 37 → Glob pattern name → Glob (b ∷ pattern) (b ∷ name)

-- the test passes on what is left after some bytes of the class
abbrev pub some_rest : (ℕ → Bool) → (List ℕ → Bool) → List ℕ → Bool
some_rest class test [] = test []
some_rest class test (b ∷ bs) = test (b ∷ bs) || (class b && some_rest class test bs)

abbrev pub after_byte : ℕ → (List ℕ → Bool) → List ℕ → Bool
after_byte p test [] = false
after_byte p test (b ∷ bs) = (b == p) && test bs

-- the same as a test
abbrev pub matches : List ℕ → List ℕ → Bool
matches [] name = length name == 0
matches (p ∷ ps) name =
    if p == 42 then some_rest (λ b. true) (matches ps) name
    else if p == 37 then some_rest is_not_slash (matches ps) name
    else after_byte p (matches ps) name

abbrev pub is_inbox : List ℕ → Bool
is_inbox name = is_same name (codes "INBOX")

-- INBOX is matched whatever the case
abbrev pub is_listed : List ℕ → List ℕ → Bool
is_listed pattern name = if is_inbox name then matches (lowercase pattern) (lowercase name) else matches pattern name

-- what stands before a name
abbrev pub list_front : Listing → List ℕ
list_front All = codes "* LIST () \"/\" "
list_front Subscribed = codes "* LSUB () \"/\" "

abbrev pub name_answer : Listing → List ℕ → List ℕ
name_answer listing name = list_front listing ++ name ++ crlf

abbrev pub listed : Listing → List ℕ → List ℕ → List ℕ
listed listing pattern name = if is_listed pattern name then name_answer listing name else []

-- the question what separates levels
abbrev pub asks_for_root : List ℕ → List ℕ → Bool
asks_for_root reference pattern = (length reference == 0) && (length pattern == 0)

abbrev pub root_answer : Listing → List ℕ
root_answer All = codes "* LIST (\\Noselect) \"/\" \"\"\r\n"
root_answer Subscribed = codes "* LSUB (\\Noselect) \"/\" \"\"\r\n"

-- what LIST or LSUB answers about these names
abbrev pub list_answer : Listing → List ℕ → List ℕ → List (List ℕ) → List ℕ
list_answer listing reference pattern names =
    if asks_for_root reference pattern then root_answer listing else flat_map (listed listing (reference ++ pattern)) names
