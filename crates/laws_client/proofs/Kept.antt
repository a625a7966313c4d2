-- What a client keeps of the line of a FETCH with literals in it.
use Rattle.std.proofs.Common.{zero, suc, ◌≡◌, ℕ, ◌^◌, ◌<◌, ◌≤◌, Bool, true, false, ◌&&◌, List, [], ◌∷◌, ◌++◌, length, take, drop, map, ap, ◌∙◌, sym, refl, arith, append_assoc}
use Rattle.std.specs.Prelude.{◌==◌, not, reverse, decimal, codes, Option, Some, None, if◌then◌else◌}
use Rattle.std.specs.List.{list_all}
use Rattle.std.proofs.lemmas.Bool.{false≢true}
use Rattle.std.proofs.lemmas.List.{append-nil, length-drop, reverse-append, reverse-reverse}
use Rattle.std.proofs.lemmas.List.Folds.{list_all-append}
use Rattle.change_ring.specs.Words.{spaced}
use Rattle.mailbox.specs.declared.clients.Row.{Row}
use Rattle.mail_date.proofs.Plain.{date_plain, is_date_byte, message_dated, time_plain, zone_plain}
use Rattle.mail_date.specs.Dates.{is_date}
use Rattle.delivery_token.specs.Text as stored
use Rattle.mail_date.specs.Fields.{date_or, message_date}
use Rattle.mail_date.specs.Internal.{date_text, internal_text, time_text, zone_text}
use Rattle.mail_date.specs.declared.stamp.Stamp.{Stamp}
use Rattle.imap_grammar.proofs.Tokens.{excludes, not_true}
use Rattle.imap_answers.specs.Answers.{crlf, date_item, is_crlf, flags_text, fields_from, header, header_from, item_text, literal, origin_text, part, part_bytes, part_word, section, takes_field}
use Rattle.imap_grammar.specs.Grammar.{rfc822_word}
use Rattle.imap_grammar.specs.declared.items.BodyPart.{BodyPart}
use Rattle.imap_grammar.specs.declared.items.BodyPart.TheVariants as parts
use Rattle.imap_grammar.specs.declared.items.FetchItem.{FetchItem}
use Rattle.imap_grammar.specs.declared.items.FetchItem.TheVariants as fetch
use Rattle.imap_grammar.specs.declared.items.Section.{Section}
use Rattle.imap_grammar.specs.declared.items.Section.TheVariants.{Whole, Header, Text}
use Rattle.imap_grammar.specs.declared.items.Span.{Span}
use Rattle.laws_client.specs.Client.{Client, Messages, knowing, reads, line_ends, literal_of}
use Rattle.laws_client.specs.ListTurns.{is_inner}
use Rattle.laws_client.specs.Fetches.{AreToldNames, IsToldPart, IsToldSpan, AreToldParts, is_name_byte}
use Rattle.laws_client.specs.ListLaws.{within}
use Rattle.mail_date.specs.Bytes.{is_folded}
use Rattle.laws_client.proofs.Reading.{told}
use Rattle.laws_client.proofs.Bytes.{both, first_of, rest_of, reads-append, inner_byte, inner_text, words_are_inner, decimal_word}
use Rattle.laws_client.proofs.LinesRead.{flags_inner, flags_part}
use Rattle.laws_client.proofs.Literals.{literal_leaves_its_count}

-- within a line, reading this text leaves these bytes
abbrev pub Keeping : List ℕ → List ℕ → Type 0
Keeping text kept = (o : Messages) (line : List ℕ) → reads (within o line) text ≡ within o (reverse kept ++ line)

pub inner_keeping : (text : List ℕ) → list_all is_inner text ≡ true → Keeping text text
inner_keeping text h o line = inner_text o line text h

pub both_keeping : (a ka b kb : List ℕ) → Keeping a ka → Keeping b kb → Keeping (a ++ b) (ka ++ kb)
both_keeping a ka b kb ha hb o line =
    reads-append (within o line) a b ∙ ap (λ (c : Client). reads c b) (ha o line) ∙ hb o (reverse ka ++ line)
    ∙ ap (within o) (sym (ap (λ (l : List ℕ). l ++ line) (reverse-append ka kb) ∙ append_assoc (reverse kb) (reverse ka) line))

number_keeping : (n : ℕ) → n < 2 ^ 64 → Keeping (decimal n) (decimal n)
number_keeping n h = inner_keeping (decimal n) (words_are_inner (decimal n) (decimal_word n h))

-- a line whose end is read
pub whole_kept : (o : Messages) (text kept : List ℕ) → Keeping text kept → literal_of (reverse kept) ≡ None → reads (knowing o) (text ++ 13 ∷ 10 ∷ []) ≡ knowing (told kept o)
whole_kept o text kept h none =
    reads-append (knowing o) text (13 ∷ 10 ∷ [])
    ∙ ap (λ (c : Client). reads c (13 ∷ 10 ∷ [])) (h o [] ∙ ap (within o) (append-nil (reverse kept)))
    ∙ ap (λ (c : Client). reads c (10 ∷ [])) (inner_byte o (reverse kept) 13 refl)
    ∙ ap (λ (n : Option ℕ). line_ends n o (reverse kept)) none
    ∙ ap (λ (t : List ℕ). knowing (told t o)) (reverse-reverse kept)

-- ---- items

-- of a literal its count is kept
abbrev pub count_kept : List ℕ → List ℕ
count_kept bytes = codes "{" ++ decimal (length bytes) ++ codes "}\r\n"

abbrev pub body_word : BodyPart → Option Span → List ℕ
body_word which span = codes "BODY[" ++ part_word which ++ codes "]" ++ origin_text span

abbrev pub item_kept : Row → FetchItem → List ℕ
item_kept row fetch.Uid = codes "UID " ++ decimal row.uid
item_kept row fetch.Flags = flags_text row.flags
item_kept row fetch.Size = codes "RFC822.SIZE " ++ decimal (length row.text.bytes)
item_kept row fetch.InternalDate = date_item row.text
item_kept row (fetch.Rfc822 which) = rfc822_word which ++ codes " " ++ count_kept (section which row.text.bytes)
item_kept row (fetch.Body peek which span) = body_word which span ++ codes " " ++ count_kept (part span (part_bytes which row.text.bytes))

-- the numbers of a row can be printed
pub record IsSmall (row : Row) : Type 0 where
  pub uid : row.uid < 2 ^ 64
  pub text : length row.text.bytes < 2 ^ 64

-- ---- dates

-- what is so of each byte of a date is so of all of them
pub each_date_byte : (q : ℕ → Bool) → ((b : ℕ) → is_date_byte b ≡ true → q b ≡ true) → (text : List ℕ) → list_all is_date_byte text ≡ true → list_all q text ≡ true
each_date_byte q f [] h = refl
each_date_byte q f (b ∷ bs) h = rw (f b (first_of is_date_byte b bs h), each_date_byte q f bs (rest_of is_date_byte b bs h)) refl

pub both_all : (q : ℕ → Bool) (a b : List ℕ) → list_all q a ≡ true → list_all q b ≡ true → list_all q (a ++ b) ≡ true
both_all q a b h k = list_all-append q a b ∙ rw (h, k) refl

date_byte_inner : (b : ℕ) → is_date_byte b ≡ true → is_inner b ≡ true
date_byte_inner b h = rw (not_true (b == 10) (excludes is_date_byte 10 refl b h)) refl

stamp_inner : (s : Stamp) → is_date s ≡ true → list_all is_inner (internal_text s) ≡ true
stamp_inner s h =
    let day : list_all is_inner (date_text s) ≡ true = each_date_byte is_inner date_byte_inner (date_text s) (date_plain s h) in
    let time : list_all is_inner (time_text s) ≡ true = each_date_byte is_inner date_byte_inner (time_text s) (time_plain s h) in
    let zone : list_all is_inner (zone_text s) ≡ true = each_date_byte is_inner date_byte_inner (zone_text s) (zone_plain s h) in
    both_all is_inner (date_text s ++ codes " " ++ time_text s ++ codes " ") (zone_text s)
    (both_all is_inner (date_text s ++ codes " " ++ time_text s) (codes " ")
    (both_all is_inner (date_text s ++ codes " ") (time_text s) (both_all is_inner (date_text s) (codes " ") day refl) time) refl) zone

-- the date of a message is one that the calendar and the clock have, whether it came with it or its header says it
pub text_dated : (text : stored.Text) → is_date (stored.date_of text) ≡ true
text_dated text = by text.date
  where
    given : (date : Stamp) (valid : Bool) → is_date date ≡ valid → is_date (if valid then date else message_date text.bytes) ≡ true
    given date true e = e
    given date false e = message_dated text.bytes

    by : (date : Option Stamp) → is_date (date_or date text.bytes) ≡ true
    by None = message_dated text.bytes
    by (Some date) = given date (is_date date) refl

-- no date ends a line
pub date_inner : (text : stored.Text) → list_all is_inner (date_item text) ≡ true
date_inner text =
    let date : List ℕ = internal_text (stored.date_of text) in
    both_all is_inner (codes "INTERNALDATE \"" ++ date) (codes "\"")
    (both_all is_inner (codes "INTERNALDATE \"") date refl (stamp_inner (stored.date_of text) (text_dated text))) refl

-- ---- names of header fields

-- what is so of a space and of each byte of a name is so of all names
pub each_name_byte : (q : ℕ → Bool) → ((b : ℕ) → is_name_byte b ≡ true → q b ≡ true) → q 32 ≡ true → (names : List (List ℕ)) → list_all (list_all is_name_byte) names ≡ true → list_all q (spaced names) ≡ true
each_name_byte q f s [] h = refl
each_name_byte q f s (n ∷ []) h = name_bytes n (both (list_all is_name_byte n) true h).0
  where
    name_bytes : (text : List ℕ) → list_all is_name_byte text ≡ true → list_all q text ≡ true
    name_bytes [] e = refl
    name_bytes (b ∷ bs) e = rw (f b (first_of is_name_byte b bs e), name_bytes bs (rest_of is_name_byte b bs e)) refl
each_name_byte q f s (n ∷ m ∷ names) h =
    let k = both (list_all is_name_byte n) (list_all (list_all is_name_byte) (m ∷ names)) h in
    both_all q n (32 ∷ spaced (m ∷ names)) (name_bytes n k.0) (rw (s, each_name_byte q f s (m ∷ names) k.1) refl)
  where
    name_bytes : (text : List ℕ) → list_all is_name_byte text ≡ true → list_all q text ≡ true
    name_bytes [] e = refl
    name_bytes (b ∷ bs) e = rw (f b (first_of is_name_byte b bs e), name_bytes bs (rest_of is_name_byte b bs e)) refl

name_byte_inner : (b : ℕ) → is_name_byte b ≡ true → is_inner b ≡ true
name_byte_inner b h = rw (not_true (b == 10) (excludes is_name_byte 10 refl b h)) refl

pub part_inner : (which : BodyPart) → AreToldNames which → list_all is_inner (part_word which) ≡ true
part_inner (parts.Section Whole) told = refl
part_inner (parts.Section Header) told = refl
part_inner (parts.Section Text) told = refl
part_inner (parts.Fields true names) told =
    both_all is_inner (codes "HEADER.FIELDS.NOT (" ++ spaced names) (codes ")")
    (both_all is_inner (codes "HEADER.FIELDS.NOT (") (spaced names) refl (each_name_byte is_inner name_byte_inner refl names told)) refl
part_inner (parts.Fields false names) told =
    both_all is_inner (codes "HEADER.FIELDS (" ++ spaced names) (codes ")")
    (both_all is_inner (codes "HEADER.FIELDS (") (spaced names) refl (each_name_byte is_inner name_byte_inner refl names told)) refl

front_inner : (which : BodyPart) → AreToldNames which → list_all is_inner (codes "BODY[" ++ part_word which ++ codes "]") ≡ true
front_inner which told =
    both_all is_inner (codes "BODY[" ++ part_word which) (codes "]") (both_all is_inner (codes "BODY[") (part_word which) refl (part_inner which told)) refl

-- ---- lengths

header_most : (fresh : Bool) (text : List ℕ) → length (header_from fresh text) ≤ length text
header_most fresh [] = omega arith
header_most fresh (b ∷ []) = omega arith
header_most fresh (b ∷ c ∷ bs) = by (is_crlf (b ∷ c ∷ bs)) fresh (header_most true bs) (header_most false (c ∷ bs))
  where
    by : (t f : Bool) → length (header_from true bs) ≤ length bs → length (header_from false (c ∷ bs)) ≤ length (c ∷ bs)
        → length (if t then (if f then crlf else 13 ∷ 10 ∷ header_from true bs) else b ∷ header_from false (c ∷ bs)) ≤ length (b ∷ c ∷ bs)
    by true true h k = omega arith
    by true false h k = omega (arith, h)
    by false f h k = omega (arith, k)

origin_keeping : (span : Option Span) → IsToldSpan span → Keeping (origin_text span) (origin_text span)
origin_keeping None small = inner_keeping [] refl
origin_keeping (Some span) small =
    both_keeping (codes "<" ++ decimal span.origin) (codes "<" ++ decimal span.origin) (codes ">") (codes ">")
    (both_keeping (codes "<") (codes "<") (decimal span.origin) (decimal span.origin) (inner_keeping (codes "<") refl) (number_keeping span.origin small)) (inner_keeping (codes ">") refl)

literal_keeping : (bytes : List ℕ) → length bytes < 2 ^ 64 → Keeping (literal bytes) (count_kept bytes)
literal_keeping bytes h o line = literal_leaves_its_count o line bytes h

take_most : (n : ℕ) (xs : List ℕ) → length (take n xs) ≤ length xs
take_most zero xs = omega arith
take_most (suc n) [] = omega arith
take_most (suc n) (x ∷ xs) = omega (arith, take_most n xs)

drop_most : (n : ℕ) (xs : List ℕ) → length (drop n xs) ≤ length xs
drop_most n xs = omega (arith, length-drop n xs)

section_most : (which : Section) (text : List ℕ) → length (section which text) ≤ length text
section_most Whole text = omega arith
section_most Header text = header_most true text
section_most Text text = drop_most (length (header text)) text

part_most : (span : Option Span) (bytes : List ℕ) → length (part span bytes) ≤ length bytes
part_most None bytes = omega arith
part_most (Some span) bytes = omega (arith, take_most span.count (drop span.origin bytes), drop_most span.origin bytes)

fields_most : (takes : List ℕ → Bool) (fresh taking cr : Bool) (bytes : List ℕ) → length (fields_from takes fresh taking cr bytes) ≤ length bytes
fields_most takes fresh taking cr [] = omega arith
fields_most takes fresh taking cr (b ∷ bs) =
    by (if fresh then takes (b ∷ bs) else taking) (λ next now. fields_most takes next now (b == 13) bs)
  where
    by : (now : Bool) → ((next taken : Bool) → length (fields_from takes next taken (b == 13) bs) ≤ length bs)
        → length ((if now then b ∷ [] else []) ++ fields_from takes (cr && (b == 10) && not (is_folded bs)) now (b == 13) bs) ≤ length (b ∷ bs)
    by true h = omega (arith, h (cr && (b == 10) && not (is_folded bs)) true)
    by false h = omega (arith, h (cr && (b == 10) && not (is_folded bs)) false)

bytes_most : (which : BodyPart) (text : List ℕ) → length (part_bytes which text) ≤ length text
bytes_most (parts.Section which) text = section_most which text
bytes_most (parts.Fields others names) text = omega (arith, fields_most (takes_field others names) true false false (header text), header_most true text)

pub part_small : (row : Row) (which : BodyPart) (span : Option Span) → IsSmall row → length (part span (part_bytes which row.text.bytes)) < 2 ^ 64
part_small row which span small = omega (arith, small.text, part_most span (part_bytes which row.text.bytes), bytes_most which row.text.bytes)

pub section_small : (row : Row) (which : Section) → IsSmall row → length (section which row.text.bytes) < 2 ^ 64
section_small row which small = omega (arith, small.text, section_most which row.text.bytes)

flags_all : (text : List ℕ) → list_all is_inner (text ++ 41 ∷ []) ≡ true → list_all is_inner text ≡ true
flags_all text h = by (list_all is_inner text) (sym (list_all-append is_inner text (41 ∷ [])) ∙ h)
  where
    by : (b : Bool) → (b && true) ≡ true → b ≡ true
    by true k = refl
    by false k = absurd (false≢true k)

pub rfc822_inner : (which : Section) → list_all is_inner (rfc822_word which ++ codes " ") ≡ true
rfc822_inner Whole = refl
rfc822_inner Header = refl
rfc822_inner Text = refl

pub item_keeping : (row : Row) (item : FetchItem) → IsSmall row → IsToldPart item → Keeping (item_text row item) (item_kept row item)
item_keeping row fetch.Uid small told = both_keeping (codes "UID ") (codes "UID ") (decimal row.uid) (decimal row.uid) (inner_keeping (codes "UID ") refl) (number_keeping row.uid small.uid)
item_keeping row fetch.Flags small told =
    inner_keeping (flags_part row.flags) (flags_all (flags_part row.flags) (flags_inner row.flags.answered row.flags.flagged row.flags.deleted row.flags.seen row.flags.draft))
item_keeping row fetch.Size small told =
    both_keeping (codes "RFC822.SIZE ") (codes "RFC822.SIZE ") (decimal (length row.text.bytes)) (decimal (length row.text.bytes)) (inner_keeping (codes "RFC822.SIZE ") refl) (number_keeping (length row.text.bytes) small.text)
item_keeping row fetch.InternalDate small told = inner_keeping (date_item row.text) (date_inner row.text)
item_keeping row (fetch.Rfc822 which) small told =
    let front : List ℕ = rfc822_word which ++ codes " " in
    let bytes : List ℕ = section which row.text.bytes in
    both_keeping front front (literal bytes) (count_kept bytes) (inner_keeping front (rfc822_inner which)) (literal_keeping bytes (section_small row which small))
item_keeping row (fetch.Body peek which span) small told =
    let front : List ℕ = codes "BODY[" ++ part_word which ++ codes "]" in
    let bytes : List ℕ = part span (part_bytes which row.text.bytes) in
    both_keeping (body_word which span ++ codes " ") (body_word which span ++ codes " ") (literal bytes) (count_kept bytes)
    (both_keeping (body_word which span) (body_word which span) (codes " ") (codes " ")
    (both_keeping front front (origin_text span) (origin_text span) (inner_keeping front (front_inner which told.0)) (origin_keeping span told.1)) (inner_keeping (codes " ") refl))
    (literal_keeping bytes (part_small row which span small))

pub items_keeping : (row : Row) (items : List FetchItem) → IsSmall row → AreToldParts items → Keeping (spaced (map (item_text row) items)) (spaced (map (item_kept row) items))
items_keeping row [] small told = inner_keeping [] refl
items_keeping row (item ∷ []) small told = item_keeping row item small told.0
items_keeping row (item ∷ other ∷ items) small told =
    let texts : List ℕ = spaced (map (item_text row) (other ∷ items)) in
    let kept : List ℕ = spaced (map (item_kept row) (other ∷ items)) in
    both_keeping (item_text row item) (item_kept row item) (32 ∷ texts) (32 ∷ kept) (item_keeping row item small told.0)
    (both_keeping (32 ∷ []) (32 ∷ []) texts kept (inner_keeping (32 ∷ []) refl) (items_keeping row (other ∷ items) small told.1))
