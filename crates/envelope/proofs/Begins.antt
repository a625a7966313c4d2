-- The verb at the front of a line.
use Rattle.std.proofs.Common.{◌≡◌, ℕ, Bool, true, false, cond, List, [], ◌∷◌, ◌++◌, length, take, drop, refl, ap, sym, subst, ◌∙◌, arith, inl, inr}
use Rattle.std.specs.Prelude.{Option, Some, None, ◌==◌, not, map}
use Rattle.std.specs.Char.{to_ascii_lowercase}
use Rattle.std.specs.Str.{bytes_eq, str_eq_ignore_ascii_case as is_same}
use Rattle.std.proofs.lemmas.List.{take_at, drop_at}
use Rattle.std.proofs.lemmas.Bool.Decides.{Decides-eqb}
use Rattle.envelope.proofs.Case.{decides_false, is_same_decides}
use Rattle.envelope.proofs.Tokens.{Stops, span_len}
use Rattle.envelope.proofs.Sound.{either}
use Rattle.envelope.specs.declared.command.Verb.{Verb}
use Rattle.envelope.specs.declared.command.Verb.TheVariants as verbs
use Rattle.envelope.specs.Bytes.{is_space, is_not_space}
use Rattle.envelope.specs.Grammar.{Keyword, Many, Gap, AfterGap, Anything, name_of}
use Rattle.envelope.specs.Reading.{verb_of, verb_among, all_verbs, of_form, of_verb, form_of, read}

-- ---- keywords have no spaces

not_space_of : (x y : ℕ) → to_ascii_lowercase x ≡ y → is_not_space y ≡ true → is_not_space x ≡ true
not_space_of x y e h =
    ap not (decides_false (x == 32) (Decides-eqb x 32) (λ (k : x ≡ 32).
    let low : to_ascii_lowercase x ≡ 32 = ap to_ascii_lowercase k in
    let is : y ≡ 32 = cc in
    let both : is_not_space y ≡ false = ap is_not_space is in
    cc))

pub unspaced_word : (text word : List ℕ) → map to_ascii_lowercase text ≡ word → Many is_not_space word → Many is_not_space text
unspaced_word [] word e h = tt
unspaced_word (x ∷ xs) [] e h = absurd cc
unspaced_word (x ∷ xs) (y ∷ ys) e h =
    let one : to_ascii_lowercase x ≡ y = cc in
    let others : map to_ascii_lowercase xs ≡ ys = cc in
    (not_space_of x y one h.0, unspaced_word xs ys others h.1)

verb_unspaced : (v : Verb) → Many is_not_space (map to_ascii_lowercase (name_of v))
verb_unspaced verbs.Lhlo = (refl, (refl, (refl, (refl, tt))))
verb_unspaced verbs.Mail = (refl, (refl, (refl, (refl, tt))))
verb_unspaced verbs.Rcpt = (refl, (refl, (refl, (refl, tt))))
verb_unspaced verbs.Data = (refl, (refl, (refl, (refl, tt))))
verb_unspaced verbs.Rset = (refl, (refl, (refl, (refl, tt))))
verb_unspaced verbs.Quit = (refl, (refl, (refl, (refl, tt))))
verb_unspaced verbs.Noop = (refl, (refl, (refl, (refl, tt))))
verb_unspaced verbs.Vrfy = (refl, (refl, (refl, (refl, tt))))
verb_unspaced verbs.Expn = (refl, (refl, (refl, (refl, tt))))
verb_unspaced verbs.Help = (refl, (refl, (refl, (refl, tt))))

-- ---- the verb of a word

abbrev verb_by : List Verb → List ℕ → Option Verb
verb_by [] low = None
verb_by (v ∷ vs) low = cond (bytes_eq low (map to_ascii_lowercase (name_of v))) (Some v) (verb_by vs low)

among_by : (vs : List Verb) (text : List ℕ) → verb_among vs text ≡ verb_by vs (map to_ascii_lowercase text)
among_by [] text = refl
among_by (v ∷ vs) text = ap (λ (o : Option Verb). cond (is_same text (name_of v)) (Some v) o) (among_by vs text)

verb_named : (v : Verb) → verb_by all_verbs (map to_ascii_lowercase (name_of v)) ≡ Some v
verb_named verbs.Lhlo = refl
verb_named verbs.Mail = refl
verb_named verbs.Rcpt = refl
verb_named verbs.Data = refl
verb_named verbs.Rset = refl
verb_named verbs.Quit = refl
verb_named verbs.Noop = refl
verb_named verbs.Vrfy = refl
verb_named verbs.Expn = refl
verb_named verbs.Help = refl

pub verb_again : (v : Verb) (text : List ℕ) → Keyword (name_of v) text → verb_of text ≡ Some v
verb_again v text h = among_by all_verbs text ∙ ap (verb_by all_verbs) h ∙ verb_named v

some_verb : (u v : Verb) → Some u ≡ Some v → u ≡ v
some_verb u v e = cc

among_sound : (vs : List Verb) (text : List ℕ) (v : Verb) → verb_among vs text ≡ Some v → is_same text (name_of v) ≡ true
among_sound [] text v e = absurd cc
among_sound (u ∷ vs) text v e =
    elim (either (is_same text (name_of u)) (Some u) (verb_among vs text) (Some v) e) [
      | inl q ↦ ap (λ (w : Verb). is_same text (name_of w)) (sym (some_verb u v q.1)) ∙ q.0
      | inr q ↦ among_sound vs text v q.1
    ]

pub verb_sound : (text : List ℕ) (v : Verb) → verb_of text ≡ Some v → Keyword (name_of v) text
verb_sound text v e = (is_same_decides text (name_of v)).0 (among_sound all_verbs text v e)

-- ---- what follows the verb

pub gap_stops : (gap rest text : List ℕ) → text ≡ gap ++ rest → Gap gap → Stops is_not_space text
gap_stops [] rest text e h = absurd (omega (arith, h.0))
gap_stops (x ∷ gap) rest text e h = subst (Stops is_not_space) (sym e) (ap not h.1.0)

pub after_gap_stops : (P : List ℕ → Type 0) (text : List ℕ) → AfterGap P text → Stops is_not_space text
after_gap_stops P text (inl e) = subst (Stops is_not_space) (sym e) tt
after_gap_stops P text (inr q) = gap_stops q.front q.back text q.parts q.first

pub not_not : (b : Bool) → not b ≡ false → b ≡ true
not_not true e = refl
not_not false e = absurd cc

pub stopped_gap : (text : List ℕ) → Stops is_not_space text → AfterGap Anything text
stopped_gap [] s = inl refl
stopped_gap (x ∷ xs) s = inr (record { front = x ∷ []; back = xs; parts = refl; first = (omega arith, (not_not (is_space x) s, tt)); second = tt })

-- a line that begins with a verb is read by that verb
pub read_begins : (v : Verb) (text rest : List ℕ) → Keyword (name_of v) text → Stops is_not_space rest → read (text ++ rest) ≡ of_form v (form_of v rest)
unfolding read
read_begins v text rest h s =
    let n = span_len is_not_space text rest (unspaced_word text _ h (verb_unspaced v)) s in
    ap (λ (k : ℕ). of_verb (verb_of (take k (text ++ rest))) (drop k (text ++ rest))) n
    ∙ ap (λ (w : List ℕ). of_verb (verb_of w) (drop (length text) (text ++ rest))) (take_at text rest (length text) refl)
    ∙ ap (λ (r : List ℕ). of_verb (verb_of text) r) (drop_at text rest (length text) refl)
    ∙ ap (λ (o : Option Verb). of_verb o rest) (verb_again v text h)
