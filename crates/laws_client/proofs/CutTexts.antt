-- What a session writes before its last line, as a client that cuts reads it: it is passed over.
use Rattle.std.proofs.Common.{◌≡◌, ℕ, ◌+◌, ◌^◌, ◌<◌, Bool, true, false, ◌==◌, List, [], ◌∷◌, ◌++◌, length, map, ap, ap₂, ◌∙◌, sym, refl, subst, arith, append_assoc, append-nil}
use Rattle.std.specs.Prelude.{codes, decimal, flat_map, not, reverse, Option, Some, None, if◌then◌else◌}
use Rattle.std.specs.List.{list_all}
use Rattle.std.proofs.lemmas.Bool.{false≢true}
use Rattle.std.proofs.lemmas.List.{reverse-append, reverse-reverse}
use Rattle.change_ring.specs.declared.change.Change.{Change}
use Rattle.change_ring.specs.declared.change.Change.TheVariants.{Add, Gone, Flags as SetFlags}
use Rattle.change_ring.specs.declared.change.Flags.{Flags}
use Rattle.change_ring.specs.Log.{shown}
use Rattle.cursor_set.specs.Lines.{exists_line, line, lines}
use Rattle.change_ring.specs.View.{position}
use Rattle.change_ring.specs.Words.{flag_words, spaced}
use Rattle.line_io.specs.Wire.{crlf}
use Rattle.mailbox.specs.declared.clients.Opening.{Opening}
use Rattle.mailbox.specs.declared.clients.Row.{Row}
use Rattle.mailbox.specs.declared.mailbox.Status.{Status}
use Rattle.imap_answers.specs.Answers.{all_flags, answered, asks_for_root, date_item, flags_answer, is_listed, item_text, list_answer, listed, literal, name_answer, opening_text, origin_text, part, part_bytes, part_word, root_answer, row_answer, section, status_answer, status_number, status_text, found_answer, search_answer, spaced_numbers}
use Rattle.imap_grammar.specs.Grammar.{rfc822_word, status_word}
use Rattle.imap_grammar.specs.declared.items.FetchItem.{FetchItem}
use Rattle.imap_grammar.specs.declared.items.FetchItem.TheVariants as fetch
use Rattle.imap_grammar.specs.declared.items.Span.{Span}
use Rattle.imap_grammar.specs.declared.items.StatusItem.{StatusItem}
use Rattle.imap_session.specs.Exchange.{Folder, bye, continuing, tagged, untagged}
use Rattle.laws_client.specs.Client.{count_of, literal_of}
use Rattle.laws_client.specs.Commands.{AreNames}
use Rattle.laws_client.specs.ListTurns.{IsPlain, is_inner}
use Rattle.laws_client.specs.Fetches.{AreToldParts, IsToldPart}
use Rattle.laws_client.proofs.Fetched.{answered_told}
use Rattle.laws_client.proofs.Kept.{date_inner, part_inner, part_small, rfc822_inner, section_small}
use Rattle.laws_client.proofs.Opening.{flags_line, next_line, opening_shape, permanent_line, validity_line}
use Rattle.laws_client.proofs.Untold.{inner_both, plain_inner, word_inner}
use Rattle.laws_client.specs.Cuts.{Cutter, amid, between, cut_line, cuts, is_tagged}
use Rattle.laws_client.proofs.CutBytes.{Ends, Passes, both_pass, cuts-append, inner_text, line_end, literal_text, passes_none, whole_line}
use Rattle.laws_client.proofs.LastLines.{IsWord}
use Rattle.laws_client.proofs.LastLines.{tag_byte, word_inner as tag_inner}
use Rattle.laws_client.proofs.Decimals.{decimal_inner}
use Rattle.laws_client.proofs.LastTurns.{words_inner}
use Rattle.imap_session.specs.Texts.{response_text, server_text}
use Rattle.imap_session.specs.declared.texts.ResponseText.{ResponseText}
use Rattle.laws_client.proofs.TextRows.{row_inner, text_plain, server_inner, server_plain}
use Rattle.imap_answers.specs.declared.list.Listing.{Listing}
use Rattle.imap_answers.specs.declared.list.Listing.TheVariants.{All, Subscribed}
use Rattle.imap_session.specs.declared.texts.ServerText.{ServerText}
use Rattle.imap_grammar.specs.declared.command.SearchReturns.{SearchReturns}
use Rattle.laws_client.proofs.Sought.{extended_shape, found_plain, returned, returned_plain}

-- ---- lines

-- the last byte, which comes first here, isn't the brace that ends the count of a literal
abbrev pub plain_end : List ℕ → Bool
plain_end [] = false
plain_end (b ∷ bs) = not (b == 125)

pub literal_none : (front words : List ℕ) → plain_end (reverse words) ≡ true → literal_of (reverse (front ++ words)) ≡ None
literal_none front words h = ap literal_of (reverse-append front words) ∙ by (reverse words) h
  where
    by : (back : List ℕ) → plain_end back ≡ true → literal_of (back ++ reverse front) ≡ None
    by [] h = absurd (false≢true h)
    by (b ∷ bs) h = brace (b == 125) h
      where
        brace : (t : Bool) → not t ≡ true → (if t then count_of [] (bs ++ reverse front) else None) ≡ None
        brace true e = absurd (false≢true e)
        brace false e = refl

-- a line that begins with a star
pub star_passes : (rest words : List ℕ) → list_all is_inner rest ≡ true → list_all is_inner words ≡ true → plain_end (reverse words) ≡ true → Passes ((42 ∷ 32 ∷ rest) ++ (words ++ crlf))
star_passes rest words h k e begun answers =
    ap (cuts (between begun answers)) (sym (append_assoc (42 ∷ 32 ∷ rest) words crlf))
    ∙ whole_line ((42 ∷ 32 ∷ rest) ++ words) begun answers (inner_both (42 ∷ 32 ∷ rest) words h k) (literal_none (42 ∷ 32 ∷ rest) words e)
    ∙ ap (λ (x : List ℕ). between (begun ++ x) answers) (append_assoc (42 ∷ 32 ∷ rest) words crlf)

-- or with a plus
pub plus_passes : (words : List ℕ) → list_all is_inner words ≡ true → plain_end (reverse words) ≡ true → Passes ((43 ∷ 32 ∷ []) ++ (words ++ crlf))
plus_passes words k e begun answers = whole_line ((43 ∷ 32 ∷ []) ++ words) begun answers k (literal_none (43 ∷ 32 ∷ []) words e)

-- a tagged line
pub tagged_ends : (tag words : List ℕ) → IsWord tag → list_all is_inner words ≡ true → plain_end (reverse words) ≡ true → Ends (tagged tag words)
tagged_ends tag words h k e begun answers =
    whole_line (tag ++ codes " " ++ words) begun answers (inner_both (tag ++ codes " ") words (inner_both tag (codes " ") (tag_inner tag h) refl) k) (literal_none (tag ++ codes " ") words e)
    ∙ ap (λ (t : Bool). cut_line t (begun ++ ((tag ++ codes " " ++ words) ++ crlf)) answers) (by tag h)
  where
    by : (tag : List ℕ) → IsWord tag → is_tagged (tag ++ codes " " ++ words) ≡ true
    by [] h = absurd (false≢true h)
    by (b ∷ bs) h = rw (tag_byte b bs 42 refl h, tag_byte b bs 43 refl h) refl

pub plain_name : (name : List ℕ) → IsPlain name → plain_end (reverse name) ≡ true
plain_name name plain = ap (λ (x : List ℕ). plain_end (reverse x)) plain.is ∙ ap plain_end (reverse-append plain.front (plain.last ∷ [])) ∙ ap not plain.no_count

-- ---- the texts of the table

pub text_end : (text : ResponseText) → plain_end (reverse (response_text text)) ≡ true
text_end text = plain_name (response_text text) (text_plain text)

pub untagged_passes : (text : ResponseText) → Passes (untagged (response_text text))
untagged_passes text = star_passes [] (response_text text) refl (row_inner text) (text_end text)

-- and those that are said of the server
pub server_passes : (text : ServerText) → Passes (untagged (server_text text))
server_passes text = star_passes [] (server_text text) refl (server_inner text) (plain_name (server_text text) (server_plain text))

pub bye_passes : (text : ResponseText) → Passes (bye (response_text text))
bye_passes text = star_passes (codes "BYE ") (response_text text) refl (row_inner text) (text_end text)

-- an empty challenge
pub challenge_passes : Passes (continuing [])
challenge_passes begun answers = whole_line (43 ∷ 32 ∷ []) begun answers refl refl

pub continuing_passes : (text : ResponseText) → Passes (continuing (response_text text))
continuing_passes text = plus_passes (response_text text) (row_inner text) (text_end text)

-- ---- changes

line_passes : (view : List ℕ) (c : Change) → Passes (line view c)
line_passes view (Add uid) = star_passes (decimal (length view + 1)) (codes " EXISTS") (decimal_inner (length view + 1)) refl refl
line_passes view (Gone uid) = star_passes (decimal (position uid view)) (codes " EXPUNGE") (decimal_inner (position uid view)) refl refl
line_passes view (SetFlags uid flags) =
    star_passes (decimal (position uid view) ++ codes " FETCH (UID " ++ decimal uid ++ codes " FLAGS (" ++ spaced (flag_words flags)) (codes "))")
    (inner_both (decimal (position uid view) ++ codes " FETCH (UID " ++ decimal uid ++ codes " FLAGS (") (spaced (flag_words flags))
    (inner_both (decimal (position uid view) ++ codes " FETCH (UID " ++ decimal uid) (codes " FLAGS (")
    (inner_both (decimal (position uid view) ++ codes " FETCH (UID ") (decimal uid)
    (inner_both (decimal (position uid view)) (codes " FETCH (UID ") (decimal_inner (position uid view)) refl) (decimal_inner uid)) refl) (words_inner flags)) refl refl

pub lines_pass : (view : List ℕ) (changes : List Change) → Passes (lines view changes)
lines_pass view [] = passes_none
lines_pass view (c ∷ cs) = both_pass (line view c) (lines (shown view c) cs) (line_passes view c) (lines_pass (shown view c) cs)

-- ---- LIST, LSUB and STATUS

name_passes : (listing : Listing) (name : List ℕ) → IsPlain name → Passes (name_answer listing name)
name_passes All name plain = star_passes (codes "LIST () \"/\" ") name refl (plain_inner name plain) (plain_name name plain)
name_passes Subscribed name plain = star_passes (codes "LSUB () \"/\" ") name refl (plain_inner name plain) (plain_name name plain)

if_passes : (b : Bool) (one two : List ℕ) → Passes one → Passes two → Passes (if b then one else two)
if_passes true one two h k = h
if_passes false one two h k = k

names_pass : (listing : Listing) (pattern : List ℕ) (folders : List Folder) → AreNames folders → Passes (flat_map (listed listing pattern) (map (λ (folder : Folder). folder.name) folders))
names_pass listing pattern [] plain = passes_none
names_pass listing pattern (folder ∷ folders) plain =
    both_pass (listed listing pattern folder.name) (flat_map (listed listing pattern) (map (λ (f : Folder). f.name) folders))
    (if_passes (is_listed pattern folder.name) (name_answer listing folder.name) [] (name_passes listing folder.name plain.0) passes_none) (names_pass listing pattern folders plain.1)

root_passes : (listing : Listing) → Passes (root_answer listing)
root_passes All = star_passes (codes "LIST (\\Noselect) \"/\" ") (codes "\"\"") refl refl refl
root_passes Subscribed = star_passes (codes "LSUB (\\Noselect) \"/\" ") (codes "\"\"") refl refl refl

pub list_passes : (listing : Listing) (reference pattern : List ℕ) (folders : List Folder) → AreNames folders → Passes (list_answer listing reference pattern (map (λ (folder : Folder). folder.name) folders))
list_passes listing reference pattern folders plain = if_passes (asks_for_root reference pattern) (root_answer listing) _ (root_passes listing) (names_pass listing (reference ++ pattern) folders plain)

text_inner : (s : Status) (item : StatusItem) → list_all is_inner (status_text s item) ≡ true
text_inner s item = inner_both (status_word item ++ codes " ") (decimal (status_number s item)) (word_inner item) (decimal_inner (status_number s item))

texts_inner : (s : Status) (items : List StatusItem) → list_all is_inner (spaced (map (status_text s) items)) ≡ true
texts_inner s [] = refl
texts_inner s (item ∷ []) = text_inner s item
texts_inner s (item ∷ other ∷ items) = inner_both (status_text s item) (32 ∷ spaced (map (status_text s) (other ∷ items))) (text_inner s item) (texts_inner s (other ∷ items))

pub status_passes : (name : List ℕ) (items : List StatusItem) (s : Status) → IsPlain name → Passes (status_answer name items s)
status_passes name items s plain =
    star_passes (codes "STATUS " ++ name ++ codes " (" ++ spaced (map (status_text s) items)) (codes ")")
    (inner_both (codes "STATUS " ++ name ++ codes " (") (spaced (map (status_text s) items)) (inner_both (codes "STATUS " ++ name) (codes " (") (plain_inner name plain) refl) (texts_inner s items)) refl refl

-- ---- SEARCH

numbers_pass : (numbers : List ℕ) → Passes (search_answer numbers)
numbers_pass numbers =
    let p = found_plain numbers in
    star_passes (codes "SEARC") (72 ∷ spaced_numbers numbers) refl (plain_inner (72 ∷ spaced_numbers numbers) p) (plain_name (72 ∷ spaced_numbers numbers) p)

pub found_passes : (tag : List ℕ) → IsWord tag → (by_uid : Bool) (returns : Option SearchReturns) (numbers : List ℕ) → Passes (found_answer tag by_uid returns numbers)
found_passes tag word by_uid None numbers = numbers_pass numbers
found_passes tag word by_uid (Some returns) numbers =
    let behind : List ℕ = 34 ∷ returned by_uid returns numbers in
    let p = returned_plain by_uid returns numbers in
    subst Passes (sym (extended_shape tag by_uid returns numbers))
    (star_passes (codes "ESEARCH (TAG \"" ++ tag) behind (inner_both (codes "ESEARCH (TAG \"") tag refl (tag_inner tag word)) (plain_inner behind p) (plain_name behind p))

-- ---- SELECT

numbered_passes : (front words : List ℕ) (n : ℕ) → list_all is_inner front ≡ true → list_all is_inner words ≡ true → plain_end (reverse words) ≡ true → Passes ((42 ∷ 32 ∷ (front ++ decimal n)) ++ (words ++ crlf))
numbered_passes front words n h k e = star_passes (front ++ decimal n) words (inner_both front (decimal n) h (decimal_inner n)) k e

permanent_passes : (read_only : Bool) → Passes (permanent_line read_only)
permanent_passes true = star_passes (codes "OK [PERMANENTFLAGS (") (codes ")] Flags kept") refl refl refl
permanent_passes false = star_passes (codes "OK [PERMANENTFLAGS (" ++ all_flags) (codes ")] Flags kept") refl refl refl

pub opening_passes : (read_only : Bool) (name : List ℕ) (o : Opening) → IsPlain name → Passes (opening_text read_only name o)
opening_passes read_only name o plain =
    subst Passes (sym (opening_shape read_only name o))
    (both_pass flags_line _ (star_passes (codes "FLAGS (" ++ all_flags) (codes ")") refl refl refl)
    (both_pass (exists_line o.count) _ (star_passes (decimal o.count) (codes " EXISTS") (decimal_inner o.count) refl refl)
    (both_pass (validity_line o.uidvalidity) _ (numbered_passes (codes "OK [UIDVALIDITY ") (codes "] UIDs valid") o.uidvalidity refl refl refl)
    (both_pass (next_line o.uidnext) _ (numbered_passes (codes "OK [UIDNEXT ") (codes "] Predicted next UID") o.uidnext refl refl refl)
    (both_pass (permanent_line read_only) (name_answer All name) (permanent_passes read_only) (name_passes All name plain))))))

-- ---- FETCH and STORE

-- within a line it leads on within the line
abbrev IsItem : List ℕ → Type 0
IsItem text = (line begun : List ℕ) (answers : List (List ℕ)) → (new : List ℕ) × (cuts (amid line begun answers) text ≡ amid (new ++ line) (begun ++ text) answers)

item_inner : (text : List ℕ) → list_all is_inner text ≡ true → IsItem text
item_inner text h line begun answers = (reverse text, inner_text line text begun answers h)

item_both : (one two : List ℕ) → IsItem one → IsItem two → IsItem (one ++ two)
item_both one two p q line begun answers =
    let a = p line begun answers in
    let b = q (a.0 ++ line) (begun ++ one) answers in (
      b.0 ++ a.0,
      cuts-append (amid line begun answers) one two ∙ ap (λ (c : Cutter). cuts c two) a.1 ∙ b.1
          ∙ ap₂ (λ (x y : List ℕ). amid x y answers) (sym (append_assoc b.0 a.0 line)) (append_assoc begun one two),
    )

item_literal : (bytes : List ℕ) → length bytes < 2 ^ 64 → IsItem (literal bytes)
item_literal bytes h line begun answers =
    let d : List ℕ = reverse (decimal (length bytes)) in
    (10 ∷ 13 ∷ 125 ∷ (d ++ 123 ∷ []), literal_text line bytes begun answers h ∙ ap (λ (x : List ℕ). amid (10 ∷ 13 ∷ 125 ∷ x) (begun ++ literal bytes) answers) (sym (append_assoc d (123 ∷ []) line)))

span_inner : (span : Option Span) → list_all is_inner (origin_text span) ≡ true
span_inner None = refl
span_inner (Some span) = inner_both (codes "<" ++ decimal span.origin) (codes ">") (inner_both (codes "<") (decimal span.origin) refl (decimal_inner span.origin)) refl

one_item : (row : Row) (item : FetchItem) → length row.text.bytes < 2 ^ 64 → IsToldPart item → IsItem (item_text row item)
one_item row fetch.Uid h told = item_inner (codes "UID " ++ decimal row.uid) (inner_both (codes "UID ") (decimal row.uid) refl (decimal_inner row.uid))
one_item row fetch.Flags h told =
    item_inner (codes "FLAGS (" ++ spaced (flag_words row.flags) ++ codes ")") (inner_both (codes "FLAGS (" ++ spaced (flag_words row.flags)) (codes ")") (inner_both (codes "FLAGS (") (spaced (flag_words row.flags)) refl (words_inner row.flags)) refl)
one_item row fetch.Size h told = item_inner (codes "RFC822.SIZE " ++ decimal (length row.text.bytes)) (inner_both (codes "RFC822.SIZE ") (decimal (length row.text.bytes)) refl (decimal_inner (length row.text.bytes)))
one_item row fetch.InternalDate h told = item_inner (date_item row.text) (date_inner row.text)
one_item row (fetch.Rfc822 which) h told =
    let front : List ℕ = rfc822_word which ++ codes " " in
    item_both front (literal (section which row.text.bytes)) (item_inner front (rfc822_inner which))
    (item_literal (section which row.text.bytes) (section_small (record row { uid = 0 }) which (record { uid = omega arith; text = h })))
one_item row (fetch.Body peek which span) h told =
    let front : List ℕ = codes "BODY[" ++ part_word which ++ codes "]" ++ origin_text span ++ codes " " in
    item_both front (literal (part span (part_bytes which row.text.bytes)))
    (item_inner front (inner_both (codes "BODY[" ++ part_word which ++ codes "]" ++ origin_text span) (codes " ")
    (inner_both (codes "BODY[" ++ part_word which ++ codes "]") (origin_text span) (inner_both (codes "BODY[" ++ part_word which) (codes "]") (inner_both (codes "BODY[") (part_word which) refl (part_inner which told.0)) refl) (span_inner span)) refl))
    (item_literal (part span (part_bytes which row.text.bytes)) (part_small (record row { uid = 0 }) which span (record { uid = omega arith; text = h })))

items_go : (row : Row) (items : List FetchItem) → length row.text.bytes < 2 ^ 64 → AreToldParts items → IsItem (spaced (map (item_text row) items))
items_go row [] h told = item_inner [] refl
items_go row (item ∷ []) h told = one_item row item h told.0
items_go row (item ∷ other ∷ items) h told =
    item_both (item_text row item) (32 ∷ spaced (map (item_text row) (other ∷ items))) (one_item row item h told.0)
    (item_both (32 ∷ []) (spaced (map (item_text row) (other ∷ items))) (item_inner (32 ∷ []) refl) (items_go row (other ∷ items) h told.1))

-- a FETCH line, whatever its items
fetch_passes : (front text : List ℕ) → list_all is_inner front ≡ true → IsItem text → Passes ((42 ∷ 32 ∷ front) ++ text ++ codes ")\r\n")
fetch_passes front text h p begun answers =
    let whole : List ℕ = 42 ∷ 32 ∷ front in
    let a = p (reverse whole) (begun ++ whole) answers in
    let line : List ℕ = 41 ∷ (a.0 ++ reverse whole) in
    let first : List ℕ = (begun ++ whole) ++ text in
    cuts-append (between begun answers) (whole ++ text) (codes ")\r\n")
    ∙ ap (λ (c : Cutter). cuts c (codes ")\r\n"))
    (cuts-append (between begun answers) whole text ∙ ap (λ (c : Cutter). cuts c text) (inner_text [] whole begun answers h ∙ ap (λ (x : List ℕ). amid x (begun ++ whole) answers) (append-nil (reverse whole))) ∙ a.1)
    ∙ cuts-append (amid (a.0 ++ reverse whole) first answers) (41 ∷ []) crlf
    ∙ ap (λ (c : Cutter). cuts c crlf) (inner_text (a.0 ++ reverse whole) (41 ∷ []) first answers refl)
    ∙ line_end line (first ++ 41 ∷ []) answers refl
    ∙ ap (λ (t : Bool). cut_line t ((first ++ 41 ∷ []) ++ crlf) answers) (untagged a.0)
    ∙ ap (λ (x : List ℕ). between x answers) (regroup begun whole text (41 ∷ []) crlf)
  where
    regroup : (a b c d e : List ℕ) → (((a ++ b) ++ c) ++ d) ++ e ≡ a ++ ((b ++ c) ++ (d ++ e))
    regroup a b c d e = simp append_assoc refl

    untagged : (new : List ℕ) → is_tagged (reverse (41 ∷ (new ++ reverse (42 ∷ 32 ∷ front)))) ≡ false
    untagged new =
        ap is_tagged (reverse-append (41 ∷ new) (reverse (42 ∷ 32 ∷ front)) ∙ ap (λ (x : List ℕ). x ++ reverse (41 ∷ new)) (reverse-reverse (42 ∷ 32 ∷ front)))

pub row_passes : (k : ℕ) (by_uid : Bool) (items : List FetchItem) (row : Row) → length row.text.bytes < 2 ^ 64 → AreToldParts items → Passes (row_answer k by_uid items row)
row_passes k by_uid items row h told =
    fetch_passes (decimal k ++ codes " FETCH (") (spaced (map (item_text row) (answered by_uid row.newly_seen items))) (inner_both (decimal k) (codes " FETCH (") (decimal_inner k) refl) (items_go row (answered by_uid row.newly_seen items) h (answered_told by_uid row.newly_seen items told))

pub flags_pass : (by_uid : Bool) (k uid : ℕ) (flags : Flags) → Passes (flags_answer by_uid k uid flags)
flags_pass by_uid k uid flags =
    star_passes (decimal k ++ codes " FETCH (" ++ (if by_uid then codes "UID " ++ decimal uid ++ codes " " else []) ++ codes "FLAGS (" ++ spaced (flag_words flags)) (codes "))")
    (inner_both (decimal k ++ codes " FETCH (" ++ (if by_uid then codes "UID " ++ decimal uid ++ codes " " else []) ++ codes "FLAGS (") (spaced (flag_words flags))
    (inner_both (decimal k ++ codes " FETCH (" ++ (if by_uid then codes "UID " ++ decimal uid ++ codes " " else [])) (codes "FLAGS (")
    (inner_both (decimal k ++ codes " FETCH (") (if by_uid then codes "UID " ++ decimal uid ++ codes " " else []) (inner_both (decimal k) (codes " FETCH (") (decimal_inner k) refl) (uid_part by_uid)) refl) (words_inner flags)) refl refl
  where
    uid_part : (b : Bool) → list_all is_inner (if b then codes "UID " ++ decimal uid ++ codes " " else []) ≡ true
    uid_part true = inner_both (codes "UID " ++ decimal uid) (codes " ") (inner_both (codes "UID ") (decimal uid) refl (decimal_inner uid)) refl
    uid_part false = refl
