-- The lines that show changes, as a client reads them.
use Rattle.std.proofs.Common.{◌≡◌, ℕ, ◌^◌, ◌<◌, Bool, true, false, ◌==◌, List, [], ◌∷◌, ◌++◌, ap, ◌∙◌, sym, refl, subst, append_assoc}
use Rattle.std.specs.Prelude.{reverse, decimal, Option, Some, None, codes}
use Rattle.std.specs.List.{list_all}
use Rattle.std.specs.Str.{bytes_eq}
use Rattle.std.proofs.lemmas.Bool.{false≢true, eqb-true}
use Rattle.std.proofs.lemmas.List.{reverse-append}
use Rattle.std.proofs.lemmas.List.Folds.{list_all-append}
use Rattle.change_ring.specs.declared.change.Flags.{Flags}
use Rattle.cursor_set.specs.Lines.{exists_line, expunge_line, fetch_line}
use Rattle.change_ring.specs.Words.{flag_words, spaced}
use Rattle.imap_grammar.specs.Bytes.{is_digit}
use Rattle.laws_client.specs.Client.{Known, Messages, knowing, reads, literal_of, in_words, numbered, number, closing, items, exists}
use Rattle.laws_client.specs.ListTurns.{is_inner}
use Rattle.laws_client.proofs.Reading.{told, words, with_number, with_flags, with_uid, on_list, expunged, fetched}
use Rattle.laws_client.proofs.Bytes.{whole_line, words_cut, words_are_inner, decimal_word, decimal_says, decimal_digits, first_of, rest_of}

-- ---- any line that begins with a number

abbrev pub begun : ℕ → List ℕ → List ℕ
begun k rest = 42 ∷ 32 ∷ (decimal k ++ 32 ∷ rest)

pub numbered_told : (o : Messages) (k : ℕ) (rest : List ℕ) → k < 2 ^ 64 → told (begun k rest) o ≡ numbered k (words rest) o
numbered_told o k rest h =
    ap (λ (ws : List (List ℕ)). in_words ((42 ∷ []) ∷ ws) o) (words_cut (decimal k) rest (decimal_word k h))
    ∙ ap (λ (n : Option ℕ). with_number n (decimal k) (words rest) o) (decimal_says k h)

pub not_a_count : (front : List ℕ) (b : ℕ) → (b == 125) ≡ false → literal_of (reverse (front ++ b ∷ [])) ≡ None
not_a_count front b h = ap literal_of (reverse-append front (b ∷ [])) ∙ rw h refl

pub numbered_line : (o : Messages) (k : ℕ) (front : List ℕ) (b : ℕ) → k < 2 ^ 64 → (b == 125) ≡ false → list_all is_inner (front ++ b ∷ []) ≡ true
    → reads (knowing o) (begun k (front ++ b ∷ []) ++ 13 ∷ 10 ∷ []) ≡ knowing (numbered k (words (front ++ b ∷ [])) o)
numbered_line o k front b h other inner =
    let rest : List ℕ = front ++ b ∷ [] in
    whole_line o (begun k rest)
    (list_all-append is_inner (decimal k) (32 ∷ rest) ∙ rw (words_are_inner (decimal k) (decimal_word k h), inner) refl)
    (ap (λ (t : List ℕ). literal_of (reverse t)) (sym (append_assoc (42 ∷ 32 ∷ decimal k) (32 ∷ front) (b ∷ []))) ∙ not_a_count ((42 ∷ 32 ∷ decimal k) ++ 32 ∷ front) b other)
    ∙ ap knowing (numbered_told o k rest h)

-- ---- EXISTS and EXPUNGE

line_shape : (d front : List ℕ) (b : ℕ) → (42 ∷ 32 ∷ (d ++ 32 ∷ (front ++ b ∷ []))) ++ 13 ∷ 10 ∷ [] ≡ 42 ∷ 32 ∷ (d ++ 32 ∷ (front ++ b ∷ 13 ∷ 10 ∷ []))
line_shape d front b = ap (λ (t : List ℕ). 42 ∷ 32 ∷ t) (append_assoc d (32 ∷ (front ++ b ∷ [])) (13 ∷ 10 ∷ []) ∙ ap (λ (t : List ℕ). d ++ 32 ∷ t) (append_assoc front (b ∷ []) (13 ∷ 10 ∷ [])))

pub reads_exists : (o : Messages) (n : ℕ) → n < 2 ^ 64 → reads (knowing o) (exists_line n) ≡ knowing (on_list (exists n) o)
reads_exists o n h = ap (reads (knowing o)) (sym (line_shape (decimal n) (codes "EXIST") 83)) ∙ numbered_line o n (codes "EXIST") 83 h refl refl

pub reads_expunge : (o : Messages) (k : ℕ) → k < 2 ^ 64 → reads (knowing o) (expunge_line k) ≡ knowing (on_list (expunged k) o)
reads_expunge o k h = ap (reads (knowing o)) (sym (line_shape (decimal k) (codes "EXPUNG") 69)) ∙ numbered_line o k (codes "EXPUNG") 69 h refl refl

-- ---- FETCH

abbrev flags_of : Bool → Bool → Bool → Bool → Bool → Flags
flags_of a b c d e = record { answered = a; flagged = b; deleted = c; seen = d; draft = e }

abbrev pub flags_part : Flags → List ℕ
flags_part f = codes "FLAGS (" ++ (spaced (flag_words f) ++ 41 ∷ [])

abbrev pub told_of : ℕ → Flags → Known → Known
told_of uid f m = record { uid = Some uid; flags = Some (flag_words f) }

flags_told : (a b c d e : Bool) (m : Known) → items (words (flags_part (flags_of a b c d e) ++ 41 ∷ [])) m ≡ with_flags (flag_words (flags_of a b c d e)) m
flags_told true true true true true m = refl
flags_told true true true true false m = refl
flags_told true true true false true m = refl
flags_told true true true false false m = refl
flags_told true true false true true m = refl
flags_told true true false true false m = refl
flags_told true true false false true m = refl
flags_told true true false false false m = refl
flags_told true false true true true m = refl
flags_told true false true true false m = refl
flags_told true false true false true m = refl
flags_told true false true false false m = refl
flags_told true false false true true m = refl
flags_told true false false true false m = refl
flags_told true false false false true m = refl
flags_told true false false false false m = refl
flags_told false true true true true m = refl
flags_told false true true true false m = refl
flags_told false true true false true m = refl
flags_told false true true false false m = refl
flags_told false true false true true m = refl
flags_told false true false true false m = refl
flags_told false true false false true m = refl
flags_told false true false false false m = refl
flags_told false false true true true m = refl
flags_told false false true true false m = refl
flags_told false false true false true m = refl
flags_told false false true false false m = refl
flags_told false false false true true m = refl
flags_told false false false true false m = refl
flags_told false false false false true m = refl
flags_told false false false false false m = refl

pub flags_inner : (a b c d e : Bool) → list_all is_inner (flags_part (flags_of a b c d e) ++ 41 ∷ []) ≡ true
flags_inner true true true true true = refl
flags_inner true true true true false = refl
flags_inner true true true false true = refl
flags_inner true true true false false = refl
flags_inner true true false true true = refl
flags_inner true true false true false = refl
flags_inner true true false false true = refl
flags_inner true true false false false = refl
flags_inner true false true true true = refl
flags_inner true false true true false = refl
flags_inner true false true false true = refl
flags_inner true false true false false = refl
flags_inner true false false true true = refl
flags_inner true false false true false = refl
flags_inner true false false false true = refl
flags_inner true false false false false = refl
flags_inner false true true true true = refl
flags_inner false true true true false = refl
flags_inner false true true false true = refl
flags_inner false true true false false = refl
flags_inner false true false true true = refl
flags_inner false true false true false = refl
flags_inner false true false false true = refl
flags_inner false true false false false = refl
flags_inner false false true true true = refl
flags_inner false false true true false = refl
flags_inner false false true false true = refl
flags_inner false false true false false = refl
flags_inner false false false true true = refl
flags_inner false false false true false = refl
flags_inner false false false false true = refl
flags_inner false false false false false = refl

digits_closing : (ds : List ℕ) → list_all is_digit ds ≡ true → closing ds ≡ (0, ds)
digits_closing [] h = refl
digits_closing (b ∷ bs) h = by (b == 41) refl (digits_closing bs (rest_of is_digit b bs h))
  where
    by : (t : Bool) → (b == 41) ≡ t → closing bs ≡ (0, bs) → closing (b ∷ bs) ≡ (0, b ∷ bs)
    by true e more = absurd (false≢true (subst (λ (c : ℕ). is_digit c ≡ true) (eqb-true b 41 e) (first_of is_digit b bs h)))
    by false e more = rw (e, more) refl

-- digits are no word that begins with this letter
digits_differ : (ds : List ℕ) (c : ℕ) (cs : List ℕ) → is_digit c ≡ false → list_all is_digit ds ≡ true → bytes_eq ds (c ∷ cs) ≡ false
digits_differ [] c cs n h = refl
digits_differ (b ∷ bs) c cs n h = by (b == c) refl
  where
    by : (t : Bool) → (b == c) ≡ t → bytes_eq (b ∷ bs) (c ∷ cs) ≡ false
    by true e = absurd (false≢true (sym n ∙ subst (λ (x : ℕ). is_digit x ≡ true) (eqb-true b c e) (first_of is_digit b bs h)))
    by false e = rw e refl

pub items_told : (uid : ℕ) (f : Flags) (m : Known) → uid < 2 ^ 64
    → items (codes "UID" ∷ decimal uid ∷ words (flags_part f ++ 41 ∷ [])) m ≡ told_of uid f m
items_told uid f m h =
    let ws : List (List ℕ) = words (flags_part f ++ 41 ∷ []) in
    ap (λ (p : ℕ × List ℕ). items (decimal uid ∷ ws) (with_uid (number p.1) m)) (digits_closing (decimal uid) (decimal_digits uid h))
    ∙ ap (λ (n : Option ℕ). items (decimal uid ∷ ws) (with_uid n m)) (decimal_says uid h)
    ∙ rw (digits_differ (decimal uid) 85 (codes "ID") refl (decimal_digits uid h), digits_differ (decimal uid) 70 (codes "LAGS") refl (decimal_digits uid h))
    (flags_told f.answered f.flagged f.deleted f.seen f.draft (with_uid (Some uid) m))

abbrev fetch_part : ℕ → Flags → List ℕ
fetch_part uid f = codes "FETCH (UID " ++ (decimal uid ++ 32 ∷ flags_part f)

fetch_shape : (d u s : List ℕ)
    → (42 ∷ 32 ∷ (d ++ 32 ∷ ((codes "FETCH (UID " ++ (u ++ 32 ∷ (codes "FLAGS (" ++ (s ++ 41 ∷ [])))) ++ 41 ∷ []))) ++ 13 ∷ 10 ∷ []
    ≡ codes "* " ++ d ++ codes " FETCH (UID " ++ u ++ codes " FLAGS (" ++ s ++ codes "))\r\n"
fetch_shape d u s = simp append_assoc

part_shape : (uid : ℕ) (f : Flags) → fetch_part uid f ++ 41 ∷ [] ≡ codes "FETCH (UID " ++ (decimal uid ++ 32 ∷ (flags_part f ++ 41 ∷ []))
part_shape uid f = ap (λ (t : List ℕ). codes "FETCH (UID " ++ t) (append_assoc (decimal uid) (32 ∷ flags_part f) (41 ∷ []))

fetch_words : (uid : ℕ) (f : Flags) → uid < 2 ^ 64 → words (fetch_part uid f ++ 41 ∷ []) ≡ codes "FETCH" ∷ codes "(UID" ∷ decimal uid ∷ words (flags_part f ++ 41 ∷ [])
fetch_words uid f h =
    ap words (part_shape uid f)
    ∙ ap (λ (ws : List (List ℕ)). codes "FETCH" ∷ codes "(UID" ∷ ws) (words_cut (decimal uid) (flags_part f ++ 41 ∷ []) (decimal_word uid h))

fetch_inner : (uid : ℕ) (f : Flags) → uid < 2 ^ 64 → list_all is_inner (fetch_part uid f ++ 41 ∷ []) ≡ true
fetch_inner uid f h =
    ap (list_all is_inner) (part_shape uid f)
    ∙ list_all-append is_inner (decimal uid) (32 ∷ (flags_part f ++ 41 ∷ []))
    ∙ rw (words_are_inner (decimal uid) (decimal_word uid h), flags_inner f.answered f.flagged f.deleted f.seen f.draft) refl

pub reads_fetch : (o : Messages) (k uid : ℕ) (f : Flags) → k < 2 ^ 64 → uid < 2 ^ 64
    → reads (knowing o) (fetch_line k uid f) ≡ knowing (on_list (fetched k (told_of uid f)) o)
reads_fetch o k uid f h small =
    ap (reads (knowing o)) (sym (fetch_shape (decimal k) (decimal uid) (spaced (flag_words f))))
    ∙ numbered_line o k (fetch_part uid f) 41 h refl (fetch_inner uid f small)
    ∙ ap (λ (ws : List (List ℕ)). knowing (numbered k ws o)) (fetch_words uid f small)
    ∙ ap (λ (told : Known → Known). knowing (on_list (fetched k told) o)) (λ i m. items_told uid f m small i)
