-- No answer to a FETCH is longer than its room.
use Rattle.std.proofs.Common.{◌≡◌, ℕ, ◌+◌, ◌-◌, ◌<◌, ◌≤◌, ◌^◌, Bool, true, false, List, [], ◌∷◌, ◌++◌, length, length-append, length-take, length-drop, take, drop, arith, min, map, ap, sym, ◌∙◌}
use Rattle.std.specs.Prelude.{codes, decimal, Option, Some, None, if◌then◌else◌, not, ◌&&◌}
use Rattle.std.specs.List.{sum, sum_by, list_any}
use Rattle.std.proofs.lemmas.List.Sums.{sum-map, sum_by-cons, sum_by-append}
use Rattle.std.proofs.Math.Nat.{min-le_left, min-le_right, le-min}
use Rattle.change_ring.specs.Words.{spaced}
use Rattle.mailbox.specs.declared.clients.Row.{Row}
use Rattle.imap_grammar.specs.Grammar.{rfc822_word, section_word}
use Rattle.imap_grammar.specs.declared.items.Section.{Section}
use Rattle.imap_grammar.specs.declared.items.Section.TheVariants as sections
use Rattle.imap_grammar.specs.declared.items.BodyPart.{BodyPart}
use Rattle.imap_grammar.specs.declared.items.BodyPart.TheVariants as parts
use Rattle.imap_grammar.specs.declared.items.Span.{Span}
use Rattle.imap_grammar.specs.declared.items.FetchItem.{FetchItem}
use Rattle.imap_grammar.specs.declared.items.FetchItem.TheVariants as fetch
use Rattle.imap_answers.specs.Answers.{literal, section, header, part, part_bytes, part_word, origin_text, body_text, rfc822_text, takes_field, item_text, is_uid, is_flags, uid_first, flags_last, answered, row_answer}
use Rattle.imap_answers.specs.Room.{section_most, part_most, names_most, span_most}
use Rattle.imap_answers.proofs.OpeningParts.{ten_digits, twenty_digits}
use Rattle.imap_answers.proofs.FieldSteps.{fields_within}
use Rattle.imap_answers.proofs.FlagWords.{flags_fit}

-- ---- an item

literal_within : (bytes : List ℕ) (most : ℕ) → length bytes ≤ most → most < 2 ^ 64 → length (literal bytes) ≤ most + 24
literal_within bytes most h fits =
    let digits = twenty_digits (length bytes) (omega (arith, h, fits)) in
    let one = length-append (codes "{" ++ decimal (length bytes) ++ codes "}\r\n") bytes in
    let two = length-append (codes "{" ++ decimal (length bytes)) (codes "}\r\n") in
    let three = length-append (codes "{") (decimal (length bytes)) in
    omega (arith, h, digits, one, two, three)

section_within : (which : Section) (text : List ℕ) → length (section which text) ≤ section_most which text
section_within sections.Whole text = omega arith
section_within sections.Header text = omega arith
section_within sections.Text text = omega (arith, length-drop (length (header text)) text)

rfc822_word_within : (which : Section) → length (rfc822_word which) ≤ 13
rfc822_word_within sections.Whole = omega arith
rfc822_word_within sections.Header = omega arith
rfc822_word_within sections.Text = omega arith

pub rfc822_within : (which : Section) (text : List ℕ) → section_most which text < 2 ^ 64 → length (rfc822_text which text) + 1 ≤ section_most which text + 80
rfc822_within which text fits =
    let bytes = literal_within (section which text) (section_most which text) (section_within which text) fits in
    let word = rfc822_word_within which in
    let one = length-append (rfc822_word which ++ codes " ") (literal (section which text)) in
    let two = length-append (rfc822_word which) (codes " ") in
    omega (arith, bytes, word, one, two)

section_word_within : (which : Section) → length (section_word which) ≤ 20
section_word_within sections.Whole = omega arith
section_word_within sections.Header = omega arith
section_word_within sections.Text = omega arith

word_within : (which : BodyPart) → length (part_word which) ≤ names_most which + 20
word_within (parts.Section which) = let word = section_word_within which in omega (arith, word)
word_within (parts.Fields others names) = either others
  where
    either : (t : Bool) → length ((if t then codes "HEADER.FIELDS.NOT (" else codes "HEADER.FIELDS (") ++ spaced names ++ codes ")") ≤ length (spaced names) + 20
    either true =
        omega (arith, length-append (codes "HEADER.FIELDS.NOT (" ++ spaced names) (codes ")"), length-append (codes "HEADER.FIELDS.NOT (") (spaced names))
    either false =
        omega (arith, length-append (codes "HEADER.FIELDS (" ++ spaced names) (codes ")"), length-append (codes "HEADER.FIELDS (") (spaced names))

bytes_within : (which : BodyPart) (text : List ℕ) → length (part_bytes which text) ≤ part_most which text
bytes_within (parts.Section which) text = section_within which text
bytes_within (parts.Fields others names) text = fields_within (takes_field others names) true false false (header text)

part_within : (partial : Option Span) (bytes : List ℕ) (most : ℕ) → length bytes ≤ most → length (part partial bytes) ≤ span_most partial most
part_within None bytes most h = h
part_within (Some span) bytes most h =
    let len = length (drop span.origin bytes) in
    let size : length (take span.count (drop span.origin bytes)) ≡ min span.count len = length-take span.count (drop span.origin bytes) in
    let low = min-le_left span.count len in
    let high = min-le_right span.count len in
    let left = length-drop span.origin bytes in
    le-min (omega (arith, size, low)) (omega (arith, size, high, left, h))

span_within : (partial : Option Span) (most : ℕ) → span_most partial most ≤ most
span_within None most = omega arith
span_within (Some span) most = min-le_right span.count most

pub body_within : (which : BodyPart) (partial : Option Span) (text : List ℕ) → part_most which text < 2 ^ 64 → length (origin_text partial) ≤ 22
    → length (body_text which partial text) + 1 ≤ span_most partial (part_most which text) + names_most which + 80
body_within which partial text fits origin =
    let most = span_most partial (part_most which text) in
    let less = span_within partial (part_most which text) in
    let told = literal (part partial (part_bytes which text)) in
    let bytes = literal_within (part partial (part_bytes which text)) most (part_within partial (part_bytes which text) (part_most which text) (bytes_within which text)) (omega (arith, less, fits)) in
    let word = word_within which in
    let one = length-append (codes "BODY[" ++ part_word which ++ codes "]" ++ origin_text partial ++ codes " ") told in
    let two = length-append (codes "BODY[" ++ part_word which ++ codes "]" ++ origin_text partial) (codes " ") in
    let three = length-append (codes "BODY[" ++ part_word which ++ codes "]") (origin_text partial) in
    let four = length-append (codes "BODY[" ++ part_word which) (codes "]") in
    let five = length-append (codes "BODY[") (part_word which) in
    omega (arith, bytes, word, origin, one, two, three, four, five)

pub origin_within : (origin : ℕ) → origin < 2 ^ 64 → length (codes "<" ++ decimal origin ++ codes ">") ≤ 22
origin_within origin h =
    omega (arith, twenty_digits origin h, length-append (codes "<" ++ decimal origin) (codes ">"), length-append (codes "<") (decimal origin))

-- ---- a row

-- an item with the space before it
abbrev spoken : Row → FetchItem → ℕ
spoken row item = length (item_text row item) + 1

abbrev pub total : Row → List FetchItem → ℕ
total row items = sum (map (spoken row) items)

total_more : (row : Row) (x : FetchItem) (xs : List FetchItem) → total row (x ∷ xs) ≡ spoken row x + total row xs
total_more row x xs = sum-map (spoken row) (x ∷ xs) ∙ sum_by-cons (spoken row) x xs ∙ ap (λ (n : ℕ). spoken row x + n) (sym (sum-map (spoken row) xs))

total_append : (row : Row) (xs ys : List FetchItem) → total row (xs ++ ys) ≡ total row xs + total row ys
total_append row xs ys =
    sum-map (spoken row) (xs ++ ys)
    ∙ sum_by-append (spoken row) xs ys
    ∙ ap (λ (n : ℕ). n + sum_by (spoken row) ys) (sym (sum-map (spoken row) xs))
    ∙ ap (λ (n : ℕ). total row xs + n) (sym (sum-map (spoken row) ys))

spaced_within : (row : Row) (items : List FetchItem) → length (spaced (map (item_text row) items)) ≤ total row items
spaced_within row [] = omega arith
spaced_within row (x ∷ []) = omega arith
spaced_within row (x ∷ y ∷ items) =
    let others : List ℕ = spaced (map (item_text row) (y ∷ items)) in
    let told : length (spaced (map (item_text row) (x ∷ y ∷ items))) ≡ length (item_text row x) + length (32 ∷ others) = length-append (item_text row x) (32 ∷ others) in
    let step : total row (x ∷ y ∷ items) ≡ length (item_text row x) + 1 + total row (y ∷ items) = total_more row x (y ∷ items) in
    let rest : length others ≤ total row (y ∷ items) = spaced_within row (y ∷ items) in
    omega (arith, told, step, rest)

uid_within : (row : Row) (by_uid : Bool) (items : List FetchItem) → row.uid < 2 ^ 32 → total row (uid_first by_uid items) ≤ 15
uid_within row by_uid items h = either (by_uid && not (list_any is_uid items))
  where
    either : (t : Bool) → total row (if t then fetch.Uid ∷ [] else []) ≤ 15
    either true = omega (arith, ten_digits row.uid h, length-append (codes "UID ") (decimal row.uid))
    either false = omega arith

seen_within : (row : Row) (items : List FetchItem) → total row (flags_last row.newly_seen items) ≤ 50
seen_within row items = either (row.newly_seen && not (list_any is_flags items))
  where
    either : (t : Bool) → total row (if t then fetch.Flags ∷ [] else []) ≤ 50
    either true = omega (arith, flags_fit row.flags)
    either false = omega arith

pub row_within : (position : ℕ) (by_uid : Bool) (items : List FetchItem) (row : Row) → position < 2 ^ 64 → row.uid < 2 ^ 32
    → length (row_answer position by_uid items row) ≤ total row items + 100
row_within position by_uid items row h fits =
    let uid = uid_first by_uid items in
    let seen = flags_last row.newly_seen items in
    let all = answered by_uid row.newly_seen items in
    let texts = spaced (map (item_text row) all) in
    let inner = spaced_within row all in
    let first = total_append row uid (items ++ seen) in
    let second = total_append row items seen in
    let told = uid_within row by_uid items fits in
    let last = seen_within row items in
    let digits = twenty_digits position h in
    let one = length-append (codes "* " ++ decimal position ++ codes " FETCH (" ++ texts) (codes ")\r\n") in
    let two = length-append (codes "* " ++ decimal position ++ codes " FETCH (") texts in
    let three = length-append (codes "* " ++ decimal position) (codes " FETCH (") in
    let four = length-append (codes "* ") (decimal position) in
    omega (arith, inner, first, second, told, last, digits, one, two, three, four)
