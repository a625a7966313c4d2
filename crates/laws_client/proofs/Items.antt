-- The words of a FETCH's items, as a client reads them: they tell of no UID but the message's own.
use Rattle.std.proofs.Common.{◌≡◌, ℕ, ◌^◌, ◌<◌, Bool, true, false, ◌==◌, ◌&&◌, List, [], ◌∷◌, ◌++◌, length, map, ap, ◌∙◌, sym, refl, subst, append_assoc}
use Rattle.std.specs.Prelude.{decimal, codes, not, Option, Some, None, if◌then◌else◌}
use Rattle.std.specs.List.{list_all}
use Rattle.std.proofs.lemmas.Bool.{false≢true}
use Rattle.std.proofs.lemmas.List.{append-nil}
use Rattle.std.proofs.lemmas.List.Folds.{list_all-append}
use Rattle.change_ring.specs.declared.change.Flags.{Flags}
use Rattle.change_ring.specs.Words.{flag_words, spaced}
use Rattle.mailbox.specs.declared.clients.Row.{Row}
use Rattle.mail_date.proofs.Plain.{date_plain, is_date_byte, time_digit_first, time_plain, zone_plain}
use Rattle.mail_date.specs.Dates.{is_date}
use Rattle.delivery_token.specs.Text as stored
use Rattle.mail_date.specs.Internal.{date_text, internal_text, sign, time_text, two_digits, zone_text}
use Rattle.mail_date.specs.declared.stamp.Stamp.{Stamp}
use Rattle.imap_answers.specs.Answers.{date_item, flags_text, origin_text, part, part_bytes, part_word, section}
use Rattle.imap_grammar.specs.Grammar.{rfc822_word}
use Rattle.imap_grammar.specs.declared.items.FetchItem.{FetchItem}
use Rattle.imap_grammar.specs.declared.items.FetchItem.TheVariants as fetch
use Rattle.imap_grammar.specs.declared.items.Section.{Section}
use Rattle.imap_grammar.specs.declared.items.Section.TheVariants.{Whole, Header, Text}
use Rattle.imap_grammar.specs.declared.items.Span.{Span}
use Rattle.std.proofs.lemmas.Bool.Decides.{Decides-eqb}
use Rattle.envelope.specs.Grammar.{Many}
use Rattle.imap_grammar.specs.Brackets.{in_bracket}
use Rattle.imap_grammar.specs.declared.items.BodyPart.{BodyPart}
use Rattle.imap_grammar.specs.declared.items.BodyPart.TheVariants as parts
use Rattle.imap_grammar.specs.Bytes.{is_digit}
use Rattle.imap_grammar.proofs.Cuts.{is_other as is_not}
use Rattle.imap_grammar.proofs.ItemWords.{Outside, open_behind}
use Rattle.imap_grammar.proofs.Outside.{both_behind, both_outside, outside_plain, outside_within}
use Rattle.imap_grammar.proofs.Tokens.{excludes, not_true}
use Rattle.laws_client.specs.Client.{Known, number, closing, items, unopened}
use Rattle.laws_client.specs.Clients.{IsOf}
use Rattle.laws_client.specs.Fetches.{AreToldNames, IsToldPart, IsToldSpan, AreToldParts, is_name_byte}
use Rattle.laws_client.proofs.Reading.{words, words_from, into_first, with_uid}
use Rattle.laws_client.proofs.Bytes.{both, is_word, decimal_word, decimal_digits, decimal_says, first_of, rest_of}
use Rattle.laws_client.proofs.Kept.{body_word, both_all, count_kept, each_date_byte, each_name_byte, item_kept, IsSmall, part_small, section_small, text_dated}

-- ---- words

abbrev is_unspaced : ℕ → Bool
is_unspaced b = if b == 32 then false else true

one_from : (inside : Bool) (w : List ℕ) → list_all is_unspaced w ≡ true → words_from inside w ≡ w ∷ []
one_from inside [] h = refl
one_from inside (b ∷ bs) h = by inside (b == 32) (first_of is_unspaced b bs h) (one_from (in_bracket inside b) bs (rest_of is_unspaced b bs h))
  where
    by : (i t : Bool) → (if t then false else true) ≡ true → words_from (in_bracket inside b) bs ≡ bs ∷ []
        → (if not i && t then [] ∷ words_from false bs else into_first b (words_from (in_bracket inside b) bs)) ≡ (b ∷ bs) ∷ []
    by i true e more = absurd (false≢true e)
    by true false e more = ap (into_first b) more
    by false false e more = ap (into_first b) more

one_word : (w : List ℕ) → list_all is_unspaced w ≡ true → words w ≡ w ∷ []
one_word w h = one_from false w h

-- a word within whose brackets spaces may stand
one_whole : (inside : Bool) (w : List ℕ) → Outside 32 inside w → words_from inside w ≡ w ∷ []
one_whole inside [] h = refl
one_whole inside (b ∷ bs) h =
    ap (λ (t : Bool). if t then [] ∷ words_from false bs else into_first b (words_from (in_bracket inside b) bs)) h.0 ∙ ap (into_first b) (one_whole (in_bracket inside b) bs h.1)

unspaced_byte : (b : ℕ) → is_word b ≡ true → is_unspaced b ≡ true
unspaced_byte b h = by (b == 32) (b == 91) (b == 10) h
  where
    by : (t u v : Bool) → (if t then false else (if u then false else (if v then false else true))) ≡ true → (if t then false else true) ≡ true
    by true u v e = absurd (false≢true e)
    by false u v e = refl

unspaced_word : (w : List ℕ) → list_all is_word w ≡ true → list_all is_unspaced w ≡ true
unspaced_word [] h = refl
unspaced_word (b ∷ bs) h = rw (unspaced_byte b (first_of is_word b bs h), unspaced_word bs (rest_of is_word b bs h)) refl

record HasWords (inside : Bool) (text : List ℕ) : Type 0 where
  first : List ℕ
  others : List (List ℕ)
  are : words_from inside text ≡ first ∷ others

has_words : (inside : Bool) (text : List ℕ) → HasWords inside text
has_words inside [] = record { first = []; others = []; are = refl }
has_words inside (b ∷ bs) = by (not inside && (b == 32)) refl (has_words (in_bracket inside b) bs)
  where
    by : (t : Bool) → (not inside && (b == 32)) ≡ t → HasWords (in_bracket inside b) bs → HasWords inside (b ∷ bs)
    by true e more = record { first = []; others = words_from false bs; are = rw e refl }
    by false e more = record { first = b ∷ more.first; others = more.others; are = rw e (ap (into_first b) more.are) }

-- a text is cut at each space of its own; each bracket that opens in it is closed in it
from_append : (inside : Bool) (a b : List ℕ) → open_behind inside a ≡ false → words_from inside (a ++ 32 ∷ b) ≡ words_from inside a ++ words b
from_append inside [] b h = ap (λ (i : Bool). if not i && true then [] ∷ words_from false b else into_first 32 (words_from (in_bracket i 32) b)) h
from_append inside (x ∷ a) b h = by (not inside && (x == 32)) refl (has_words (in_bracket inside x) a) (λ i e. from_append i a b e)
  where
    by : (t : Bool) → (not inside && (x == 32)) ≡ t → HasWords (in_bracket inside x) a → ((i : Bool) → open_behind i a ≡ false → words_from i (a ++ 32 ∷ b) ≡ words_from i a ++ words b)
        → (if t then [] ∷ words_from false (a ++ 32 ∷ b) else into_first x (words_from (in_bracket inside x) (a ++ 32 ∷ b)))
        ≡ (if t then [] ∷ words_from false a else into_first x (words_from (in_bracket inside x) a)) ++ words b
    by true e some more =
        let k = both (not inside) (x == 32) e in
        let out : inside ≡ false = not_true inside k.0 in
        let is : x ≡ 32 = (Decides-eqb x 32).0 k.1 in
        let still : in_bracket inside x ≡ false = ap (λ (i : Bool). in_bracket i x) out ∙ ap (in_bracket false) is in
        ap (λ (ws : List (List ℕ)). [] ∷ ws) (more false (ap (λ (i : Bool). open_behind i a) (sym still) ∙ h))
    by false e some more =
        ap (into_first x) (more (in_bracket inside x) h ∙ ap (λ (ws : List (List ℕ)). ws ++ words b) some.are) ∙ sym (ap (λ (ws : List (List ℕ)). into_first x ws ++ words b) some.are)

pub words_append : (a b : List ℕ) → open_behind false a ≡ false → words (a ++ 32 ∷ b) ≡ words a ++ words b
words_append a b h = from_append false a b h

-- ---- words that are neither UID nor FLAGS

-- by the first byte, which is neither U nor F
abbrev pub is_other : List ℕ → Bool
is_other [] = true
is_other (b ∷ bs) = not (b == 85) && not (b == 70)

pub other_passes : (word : List ℕ) (rest : List (List ℕ)) (m : Known) → is_other word ≡ true → items (word ∷ rest) m ≡ items rest m
other_passes [] rest m h = refl
other_passes (b ∷ bs) rest m h = by (b == 85) refl (b == 70) refl h
  where
    by : (t : Bool) → (b == 85) ≡ t → (u : Bool) → (b == 70) ≡ u → (not t && not u) ≡ true → items ((b ∷ bs) ∷ rest) m ≡ items rest m
    by true e u f g = absurd (false≢true g)
    by false e true f g = absurd (false≢true g)
    by false e false f g = rw (e, f) refl

-- words that keep a client right about a message, whatever comes behind them
abbrev pub Harmless : ℕ → List (List ℕ) → Type 0
Harmless uid ws = (rest : List (List ℕ)) → ((m : Known) → IsOf uid m → IsOf uid (items rest m)) → (m : Known) → IsOf uid m → IsOf uid (items (ws ++ rest) m)

others_harmless : (uid : ℕ) (ws : List (List ℕ)) → list_all is_other ws ≡ true → Harmless uid ws
others_harmless uid [] h rest behind m is = behind m is
others_harmless uid (w ∷ ws) h rest behind m is =
    subst (λ (k : Known). IsOf uid k) (sym (other_passes w (ws ++ rest) m (both (is_other w) (list_all is_other ws) h).0))
    (others_harmless uid ws (both (is_other w) (list_all is_other ws) h).1 rest behind m is)
  where
    both : (a b : Bool) → (a && b) ≡ true → (a ≡ true) × (b ≡ true)
    both true b e = (refl, e)
    both false b e = absurd (false≢true e)

harmless_append : (uid : ℕ) (one two : List (List ℕ)) → Harmless uid one → Harmless uid two → Harmless uid (one ++ two)
harmless_append uid one two h k rest behind m is =
    subst (λ (ws : List (List ℕ)). IsOf uid (items ws m)) (sym (append_assoc one two rest)) (h (two ++ rest) (k rest behind) m is)

-- ---- numbers, and what may close behind them

abbrev pub tail : Bool → List ℕ
tail false = []
tail true = 41 ∷ []

digit_is_other : (b : ℕ) → is_digit b ≡ true → (not (b == 85) && not (b == 70)) ≡ true
digit_is_other b h = rw (excludes is_digit 85 refl b h, excludes is_digit 70 refl b h) refl

pub digits_other : (ds : List ℕ) (last : Bool) → list_all is_digit ds ≡ true → is_other (ds ++ tail last) ≡ true
digits_other [] true h = refl
digits_other [] false h = refl
digits_other (b ∷ bs) last h = digit_is_other b (first_of is_digit b bs h)

tail_unspaced : (w : List ℕ) (last : Bool) → list_all is_unspaced w ≡ true → list_all is_unspaced (w ++ tail last) ≡ true
tail_unspaced w true h = list_all-append is_unspaced w (41 ∷ []) ∙ rw h refl
tail_unspaced w false h = ap (list_all is_unspaced) (append-nil w) ∙ h

-- the digits, with the parenthesis that closes behind them or without
pub digits_closed : (ds : List ℕ) (last : Bool) → list_all is_digit ds ≡ true → closing (ds ++ tail last) ≡ ((if last then 1 else 0), ds)
digits_closed [] true h = refl
digits_closed [] false h = refl
digits_closed (b ∷ bs) last h =
    let other : (b == 41) ≡ false = not_true (b == 41) (excludes is_digit 41 refl b (first_of is_digit b bs h)) in
    rw (other, digits_closed bs last (rest_of is_digit b bs h)) refl

pub number_words : (n : ℕ) (last : Bool) → n < 2 ^ 64 → words (decimal n ++ tail last) ≡ (decimal n ++ tail last) ∷ []
number_words n last h = one_word (decimal n ++ tail last) (tail_unspaced (decimal n) last (unspaced_word (decimal n) (decimal_word n h)))

-- ---- items

uid_is : (uid : ℕ) (m : Known) → IsOf uid (with_uid (Some uid) m)
uid_is uid m n e = sym (ap the_number e)
  where
    the_number : Option ℕ → ℕ
    the_number None = 0
    the_number (Some k) = k

uid_harmless : (uid : ℕ) (last : Bool) → uid < 2 ^ 64 → Harmless uid (codes "UID" ∷ (decimal uid ++ tail last) ∷ [])
uid_harmless uid last h rest behind m is =
    let word : List ℕ = decimal uid ++ tail last in
    let told : number (closing word).1 ≡ Some uid = ap (λ (p : ℕ × List ℕ). number p.1) (digits_closed (decimal uid) last (decimal_digits uid h)) ∙ decimal_says uid h in
    subst (λ (k : Known). IsOf uid k) (sym (ap (λ (n : Option ℕ). items (word ∷ rest) (with_uid n m)) told ∙ other_passes word rest (with_uid (Some uid) m) (digits_other (decimal uid) last (decimal_digits uid h))))
    (behind (with_uid (Some uid) m) (uid_is uid m))

abbrev pub flags_of : Bool → Bool → Bool → Bool → Bool → Flags
flags_of a b c d e = record { answered = a; flagged = b; deleted = c; seen = d; draft = e }

abbrev pub flag_list : Flags → Bool → List ℕ
flag_list f last = (40 ∷ (spaced (flag_words f) ++ 41 ∷ [])) ++ tail last

flag_words_other : (a b c d e : Bool) → (list_all is_other (words (flag_list (flags_of a b c d e) true)) ≡ true) × (list_all is_other (words (flag_list (flags_of a b c d e) false)) ≡ true)
flag_words_other true true true true true = (refl, refl)
flag_words_other true true true true false = (refl, refl)
flag_words_other true true true false true = (refl, refl)
flag_words_other true true true false false = (refl, refl)
flag_words_other true true false true true = (refl, refl)
flag_words_other true true false true false = (refl, refl)
flag_words_other true true false false true = (refl, refl)
flag_words_other true true false false false = (refl, refl)
flag_words_other true false true true true = (refl, refl)
flag_words_other true false true true false = (refl, refl)
flag_words_other true false true false true = (refl, refl)
flag_words_other true false true false false = (refl, refl)
flag_words_other true false false true true = (refl, refl)
flag_words_other true false false true false = (refl, refl)
flag_words_other true false false false true = (refl, refl)
flag_words_other true false false false false = (refl, refl)
flag_words_other false true true true true = (refl, refl)
flag_words_other false true true true false = (refl, refl)
flag_words_other false true true false true = (refl, refl)
flag_words_other false true true false false = (refl, refl)
flag_words_other false true false true true = (refl, refl)
flag_words_other false true false true false = (refl, refl)
flag_words_other false true false false true = (refl, refl)
flag_words_other false true false false false = (refl, refl)
flag_words_other false false true true true = (refl, refl)
flag_words_other false false true true false = (refl, refl)
flag_words_other false false true false true = (refl, refl)
flag_words_other false false true false false = (refl, refl)
flag_words_other false false false true true = (refl, refl)
flag_words_other false false false true false = (refl, refl)
flag_words_other false false false false true = (refl, refl)
flag_words_other false false false false false = (refl, refl)

pub flag_list_other : (f : Flags) (last : Bool) → list_all is_other (words (flag_list f last)) ≡ true
flag_list_other f true = (flag_words_other f.answered f.flagged f.deleted f.seen f.draft).0
flag_list_other f false = (flag_words_other f.answered f.flagged f.deleted f.seen f.draft).1

flags_harmless : (uid : ℕ) (f : Flags) (last : Bool) → Harmless uid (codes "FLAGS" ∷ words (flag_list f last))
flags_harmless uid f last rest behind m is =
    others_harmless uid (words (flag_list f last)) (flag_list_other f last) rest behind _ is

count_unspaced : (bytes : List ℕ) → length bytes < 2 ^ 64 → list_all is_unspaced (count_kept bytes) ≡ true
count_unspaced bytes h =
    list_all-append is_unspaced (codes "{" ++ decimal (length bytes)) (codes "}\r\n") ∙ rw (unspaced_word (decimal (length bytes)) (decimal_word (length bytes) h)) refl

regrouped : (a b c : List ℕ) → ((a ++ 32 ∷ []) ++ b) ++ c ≡ a ++ 32 ∷ (b ++ c)
regrouped a b c = simp append_assoc

-- a literal behind its name
named_words : (name bytes : List ℕ) (last : Bool) → Outside 32 false name → open_behind false name ≡ false → length bytes < 2 ^ 64
    → words ((name ++ codes " " ++ count_kept bytes) ++ tail last) ≡ name ∷ (count_kept bytes ++ tail last) ∷ []
named_words name bytes last whole closed h =
    ap words (regrouped name (count_kept bytes) (tail last)) ∙ words_append name (count_kept bytes ++ tail last) closed
    ∙ rw (one_whole false name whole, one_word (count_kept bytes ++ tail last) (tail_unspaced (count_kept bytes) last (count_unspaced bytes h))) refl

-- ---- brackets

abbrev no_bracket : ℕ → Bool
no_bracket b = not (b == 91)

abbrev no_close : ℕ → Bool
no_close b = not (b == 93)

each_other : (c : ℕ) (w : List ℕ) → list_all (λ b. not (b == c)) w ≡ true → Many (is_not c) w
each_other c [] h = tt
each_other c (b ∷ bs) h = (first_of (λ x. not (x == c)) b bs h, each_other c bs (rest_of (λ x. not (x == c)) b bs h))

closed_all : (w : List ℕ) → list_all no_bracket w ≡ true → open_behind false w ≡ false
closed_all w h = (outside_plain 91 w (each_other 91 w h) (each_other 91 w h)).1

digits_all : (q : ℕ → Bool) → ((b : ℕ) → is_digit b ≡ true → q b ≡ true) → (ds : List ℕ) → list_all is_digit ds ≡ true → list_all q ds ≡ true
digits_all q f [] h = refl
digits_all q f (b ∷ bs) h = rw (f b (first_of is_digit b bs h), digits_all q f bs (rest_of is_digit b bs h)) refl

number_open : (n : ℕ) → n < 2 ^ 64 → list_all no_bracket (decimal n) ≡ true
number_open n h = digits_all no_bracket (λ b e. excludes is_digit 91 refl b e) (decimal n) (decimal_digits n h)

number_whole : (n : ℕ) → n < 2 ^ 64 → list_all (λ b. not (b == 32)) (decimal n) ≡ true
number_whole n h = digits_all (λ b. not (b == 32)) (λ b e. excludes is_digit 32 refl b e) (decimal n) (decimal_digits n h)

count_open : (bytes : List ℕ) → length bytes < 2 ^ 64 → list_all no_bracket (count_kept bytes) ≡ true
count_open bytes h = both_all no_bracket (codes "{" ++ decimal (length bytes)) (codes "}\r\n") (both_all no_bracket (codes "{") (decimal (length bytes)) refl (number_open (length bytes) h)) refl

origin_open : (span : Option Span) → IsToldSpan span → list_all no_bracket (origin_text span) ≡ true
origin_open None h = refl
origin_open (Some span) h = both_all no_bracket (codes "<" ++ decimal span.origin) (codes ">") (both_all no_bracket (codes "<") (decimal span.origin) refl (number_open span.origin h)) refl

origin_whole : (span : Option Span) → IsToldSpan span → list_all (λ b. not (b == 32)) (origin_text span) ≡ true
origin_whole None h = refl
origin_whole (Some span) h =
    both_all (λ b. not (b == 32)) (codes "<" ++ decimal span.origin) (codes ">") (both_all (λ b. not (b == 32)) (codes "<") (decimal span.origin) refl (number_whole span.origin h)) refl

name_byte_open : (b : ℕ) → is_name_byte b ≡ true → no_close b ≡ true
name_byte_open b h = excludes is_name_byte 93 refl b h

part_open : (which : BodyPart) → AreToldNames which → list_all no_close (part_word which) ≡ true
part_open (parts.Section Whole) told = refl
part_open (parts.Section Header) told = refl
part_open (parts.Section Text) told = refl
part_open (parts.Fields true names) told =
    both_all no_close (codes "HEADER.FIELDS.NOT (" ++ spaced names) (codes ")")
    (both_all no_close (codes "HEADER.FIELDS.NOT (") (spaced names) refl (each_name_byte no_close name_byte_open refl names told)) refl
part_open (parts.Fields false names) told =
    both_all no_close (codes "HEADER.FIELDS (" ++ spaced names) (codes ")")
    (both_all no_close (codes "HEADER.FIELDS (") (spaced names) refl (each_name_byte no_close name_byte_open refl names told)) refl

-- what stands before a literal: spaces stand within brackets alone, and these are closed
record IsName (name : List ℕ) : Type 0 where
  whole : Outside 32 false name
  closed : open_behind false name ≡ false

body_name : (which : BodyPart) (span : Option Span) → AreToldNames which → IsToldSpan span → IsName (body_word which span)
body_name which span told small =
    let inner = outside_within 32 (part_word which) (each_other 93 (part_word which) (part_open which told)) in
    let front : List ℕ = codes "BODY[" ++ part_word which in
    let opened : open_behind false front ≡ true = inner.1 in
    let whole : Outside 32 false front = (refl, (refl, (refl, (refl, (refl, inner.0))))) in
    let closed : open_behind false (front ++ codes "]") ≡ false = both_behind false front (codes "]") true opened in
    let origin = outside_plain 32 (origin_text span) (each_other 32 (origin_text span) (origin_whole span small)) (each_other 91 (origin_text span) (origin_open span small)) in record {
      whole = both_outside 32 false (front ++ codes "]") (origin_text span) false (both_outside 32 false front (codes "]") true whole opened (refl, tt)) closed origin.0;
      closed = both_behind false (front ++ codes "]") (origin_text span) false closed ∙ origin.1;
    }

rfc822_name : (which : Section) → IsName (rfc822_word which)
rfc822_name Whole = record { whole = (refl, (refl, (refl, (refl, (refl, (refl, tt)))))); closed = refl }
rfc822_name Header = record { whole = (refl, (refl, (refl, (refl, (refl, (refl, (refl, (refl, (refl, (refl, (refl, (refl, (refl, tt))))))))))))); closed = refl }
rfc822_name Text = record { whole = (refl, (refl, (refl, (refl, (refl, (refl, (refl, (refl, (refl, (refl, (refl, tt))))))))))); closed = refl }

pub body_words : (which : BodyPart) (span : Option Span) (bytes : List ℕ) (last : Bool) → AreToldNames which → IsToldSpan span → length bytes < 2 ^ 64
    → words ((body_word which span ++ codes " " ++ count_kept bytes) ++ tail last) ≡ body_word which span ∷ (count_kept bytes ++ tail last) ∷ []
body_words which span bytes last told small h = let n = body_name which span told small in named_words (body_word which span) bytes last n.whole n.closed h

abbrev pub rfc822_words : Section → List ℕ → Bool → List (List ℕ)
rfc822_words which bytes last = rfc822_word which ∷ (count_kept bytes ++ tail last) ∷ []

-- what a client reads of a part of a text that RFC822 names, and no word of it is UID or FLAGS
pub rfc822_read : (row : Row) (which : Section) (last : Bool) → IsSmall row → words (item_kept row (fetch.Rfc822 which) ++ tail last) ≡ rfc822_words which (section which row.text.bytes) last
rfc822_read row which last small = let n = rfc822_name which in named_words (rfc822_word which) (section which row.text.bytes) last n.whole n.closed (section_small row which small)

pub rfc822_other : (which : Section) (bytes : List ℕ) (last : Bool) → list_all is_other (rfc822_words which bytes last) ≡ true
rfc822_other Whole bytes last = refl
rfc822_other Header bytes last = refl
rfc822_other Text bytes last = refl

-- ---- dates

date_byte_unspaced : (b : ℕ) → is_date_byte b ≡ true → is_unspaced b ≡ true
date_byte_unspaced b h = rw (not_true (b == 32) (excludes is_date_byte 32 refl b h)) refl

date_byte_open : (b : ℕ) → is_date_byte b ≡ true → no_bracket b ≡ true
date_byte_open b h = excludes is_date_byte 91 refl b h

date_shape : (front day time zone last end : List ℕ)
    → ((front ++ (day ++ 32 ∷ [] ++ time ++ 32 ∷ [] ++ zone)) ++ last) ++ end ≡ (front ++ day) ++ 32 ∷ (time ++ 32 ∷ ((zone ++ last) ++ end))
date_shape front day time zone last end = simp append_assoc

abbrev pub date_words : Stamp → Bool → List (List ℕ)
date_words s last = codes "INTERNALDATE" ∷ (34 ∷ date_text s) ∷ time_text s ∷ ((zone_text s ++ codes "\"") ++ tail last) ∷ []

-- what a client reads of a date, and no word of it is UID or FLAGS
pub date_read : (text : stored.Text) (last : Bool) → words (date_item text ++ tail last) ≡ date_words (stored.date_of text) last
date_read text last =
    let s : Stamp = stored.date_of text in
    let dated : is_date s ≡ true = text_dated text in
    let day : List ℕ = date_text s in
    let time : List ℕ = time_text s in
    let zone : List ℕ = (zone_text s ++ codes "\"") ++ tail last in
    let day_open : list_all no_bracket day ≡ true = each_date_byte no_bracket date_byte_open day (date_plain s dated) in
    let time_open : list_all no_bracket time ≡ true = each_date_byte no_bracket date_byte_open time (time_plain s dated) in
    let day_one : words (34 ∷ day) ≡ (34 ∷ day) ∷ [] = one_word (34 ∷ day) (each_date_byte is_unspaced date_byte_unspaced day (date_plain s dated)) in
    let time_one : words time ≡ time ∷ [] = one_word time (each_date_byte is_unspaced date_byte_unspaced time (time_plain s dated)) in
    let zone_unspaced : list_all is_unspaced (zone_text s ++ codes "\"") ≡ true =
    list_all-append is_unspaced (zone_text s) (codes "\"") ∙ rw (each_date_byte is_unspaced date_byte_unspaced (zone_text s) (zone_plain s dated)) refl in
    let zone_one : words zone ≡ zone ∷ [] = one_word zone (tail_unspaced (zone_text s ++ codes "\"") last zone_unspaced) in
    ap words (date_shape (codes "INTERNALDATE \"") day time (zone_text s) (codes "\"") (tail last))
    ∙ words_append (codes "INTERNALDATE \"" ++ day) (time ++ 32 ∷ zone) (closed_all (codes "INTERNALDATE \"" ++ day) (both_all no_bracket (codes "INTERNALDATE \"") day refl day_open))
    ∙ ap (λ (ws : List (List ℕ)). ws ++ words (time ++ 32 ∷ zone)) (words_append (codes "INTERNALDATE") (34 ∷ day) refl)
    ∙ rw (day_one, words_append time zone (closed_all time time_open)) (rw (time_one, zone_one) refl)

zone_other : (is_west : Bool) (hours minutes last end : List ℕ) → is_other (((sign is_west ++ hours ++ minutes) ++ last) ++ end) ≡ true
zone_other true hours minutes last end = refl
zone_other false hours minutes last end = refl

pub date_other : (s : Stamp) (last : Bool) → is_date s ≡ true → list_all is_other (date_words s last) ≡ true
date_other s last dated =
    let t = time_digit_first s dated in
    let time : is_other (time_text s) ≡ true = ap is_other t.2 ∙ digit_is_other t.0 t.3 in
    let zone : is_other ((zone_text s ++ codes "\"") ++ tail last) ≡ true = zone_other s.zone.is_west (two_digits s.zone.hours) (two_digits s.zone.minutes) (codes "\"") (tail last) in
    rw (time, zone) refl

pub item_harmless : (row : Row) (item : FetchItem) (last : Bool) → IsSmall row → IsToldPart item → Harmless row.uid (words (item_kept row item ++ tail last))
item_harmless row fetch.Uid last small told =
    subst (λ (ws : List (List ℕ)). Harmless row.uid (codes "UID" ∷ ws)) (sym (number_words row.uid last small.uid)) (uid_harmless row.uid last small.uid)
item_harmless row fetch.Flags last small told = flags_harmless row.uid row.flags last
item_harmless row fetch.Size last small told =
    let n : ℕ = length row.text.bytes in
    subst (λ (ws : List (List ℕ)). Harmless row.uid (codes "RFC822.SIZE" ∷ ws)) (sym (number_words n last small.text))
    (others_harmless row.uid (codes "RFC822.SIZE" ∷ (decimal n ++ tail last) ∷ []) (rw (digits_other (decimal n) last (decimal_digits n small.text)) refl))
item_harmless row fetch.InternalDate last small told =
    subst (λ (ws : List (List ℕ)). Harmless row.uid ws) (sym (date_read row.text last))
    (others_harmless row.uid (date_words (stored.date_of row.text) last) (date_other (stored.date_of row.text) last (text_dated row.text)))
item_harmless row (fetch.Rfc822 which) last small told =
    subst (λ (ws : List (List ℕ)). Harmless row.uid ws) (sym (rfc822_read row which last small))
    (others_harmless row.uid (rfc822_words which (section which row.text.bytes) last) (rfc822_other which (section which row.text.bytes) last))
item_harmless row (fetch.Body peek which span) last small told =
    let bytes : List ℕ = part span (part_bytes which row.text.bytes) in
    subst (λ (ws : List (List ℕ)). Harmless row.uid ws) (sym (body_words which span bytes last told.0 told.1 (part_small row which span small)))
    (others_harmless row.uid (body_word which span ∷ (count_kept bytes ++ tail last) ∷ []) refl)

-- ---- brackets of items

flags_closed : (a b c d e : Bool) → open_behind false (flags_text (flags_of a b c d e)) ≡ false
flags_closed true true true true true = refl
flags_closed true true true true false = refl
flags_closed true true true false true = refl
flags_closed true true true false false = refl
flags_closed true true false true true = refl
flags_closed true true false true false = refl
flags_closed true true false false true = refl
flags_closed true true false false false = refl
flags_closed true false true true true = refl
flags_closed true false true true false = refl
flags_closed true false true false true = refl
flags_closed true false true false false = refl
flags_closed true false false true true = refl
flags_closed true false false true false = refl
flags_closed true false false false true = refl
flags_closed true false false false false = refl
flags_closed false true true true true = refl
flags_closed false true true true false = refl
flags_closed false true true false true = refl
flags_closed false true true false false = refl
flags_closed false true false true true = refl
flags_closed false true false true false = refl
flags_closed false true false false true = refl
flags_closed false true false false false = refl
flags_closed false false true true true = refl
flags_closed false false true true false = refl
flags_closed false false true false true = refl
flags_closed false false true false false = refl
flags_closed false false false true true = refl
flags_closed false false false true false = refl
flags_closed false false false false true = refl
flags_closed false false false false false = refl

date_closed : (text : stored.Text) → open_behind false (date_item text) ≡ false
date_closed text =
    let s : Stamp = stored.date_of text in
    let dated : is_date s ≡ true = text_dated text in
    let day = each_date_byte no_bracket date_byte_open (date_text s) (date_plain s dated) in
    let time = each_date_byte no_bracket date_byte_open (time_text s) (time_plain s dated) in
    let zone = each_date_byte no_bracket date_byte_open (zone_text s) (zone_plain s dated) in
    closed_all (date_item text)
    (both_all no_bracket (codes "INTERNALDATE \"" ++ internal_text s) (codes "\"")
    (both_all no_bracket (codes "INTERNALDATE \"") (internal_text s) refl
    (both_all no_bracket (date_text s ++ codes " " ++ time_text s ++ codes " ") (zone_text s)
    (both_all no_bracket (date_text s ++ codes " " ++ time_text s) (codes " ")
    (both_all no_bracket (date_text s ++ codes " ") (time_text s) (both_all no_bracket (date_text s) (codes " ") day refl) time) refl) zone)) refl)

rfc822_open : (which : Section) → list_all no_bracket (rfc822_word which ++ codes " ") ≡ true
rfc822_open Whole = refl
rfc822_open Header = refl
rfc822_open Text = refl

pub item_closed : (row : Row) (item : FetchItem) → IsSmall row → IsToldPart item → open_behind false (item_kept row item) ≡ false
item_closed row fetch.Uid small told = closed_all (codes "UID " ++ decimal row.uid) (both_all no_bracket (codes "UID ") (decimal row.uid) refl (number_open row.uid small.uid))
item_closed row fetch.Flags small told = flags_closed row.flags.answered row.flags.flagged row.flags.deleted row.flags.seen row.flags.draft
item_closed row fetch.Size small told =
    closed_all (codes "RFC822.SIZE " ++ decimal (length row.text.bytes)) (both_all no_bracket (codes "RFC822.SIZE ") (decimal (length row.text.bytes)) refl (number_open (length row.text.bytes) small.text))
item_closed row fetch.InternalDate small told = date_closed row.text
item_closed row (fetch.Rfc822 which) small told =
    let bytes : List ℕ = section which row.text.bytes in
    closed_all (rfc822_word which ++ codes " " ++ count_kept bytes) (both_all no_bracket (rfc822_word which ++ codes " ") (count_kept bytes) (rfc822_open which) (count_open bytes (section_small row which small)))
item_closed row (fetch.Body peek which span) small told =
    let bytes : List ℕ = part span (part_bytes which row.text.bytes) in
    let name : List ℕ = body_word which span in
    let front : open_behind false (name ++ codes " ") ≡ false = both_behind false name (codes " ") false (body_name which span told.0 told.1).closed in
    both_behind false (name ++ codes " ") (count_kept bytes) false front ∙ closed_all (count_kept bytes) (count_open bytes (part_small row which span small))

pub items_harmless : (row : Row) (list : List FetchItem) → IsSmall row → AreToldParts list → Harmless row.uid (words (spaced (map (item_kept row) list) ++ 41 ∷ []))
items_harmless row [] small told = others_harmless row.uid ((41 ∷ []) ∷ []) refl
items_harmless row (item ∷ []) small told = item_harmless row item true small told.0
items_harmless row (item ∷ other ∷ list) small told =
    let kept : List ℕ = spaced (map (item_kept row) (other ∷ list)) ++ 41 ∷ [] in
    let first : Harmless row.uid (words (item_kept row item)) =
    subst (λ (t : List ℕ). Harmless row.uid (words t)) (append-nil (item_kept row item)) (item_harmless row item false small told.0) in
    subst (λ (ws : List (List ℕ)). Harmless row.uid ws)
    (sym (ap words (append_assoc (item_kept row item) (32 ∷ spaced (map (item_kept row) (other ∷ list))) (41 ∷ [])) ∙ words_append (item_kept row item) kept (item_closed row item small told.0)))
    (harmless_append row.uid (words (item_kept row item)) (words kept) first (items_harmless row (other ∷ list) small told.1))

-- the items of a FETCH, with the parenthesis that opens before the first
pub opened_harmless : (uid : ℕ) (ws : List (List ℕ)) → Harmless uid ws → (m : Known) → IsOf uid m → IsOf uid (items (unopened (into_first 40 ws)) m)
opened_harmless uid [] h m is = is
opened_harmless uid (w ∷ ws) h m is = subst (λ (list : List (List ℕ)). IsOf uid (items list m)) (append-nil (w ∷ ws)) (h [] (λ k same. same) m is)
