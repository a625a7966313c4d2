-- The field that is taken is the first Received field of the written rules.
use Rattle.std.proofs.Common.{◌≡◌, ℕ, suc, ◌+◌, Bool, true, false, cond, List, [], ◌∷◌, ◌++◌, length, take, drop, refl, ap, sym, subst, ◌∙◌, arith, inl, inr, ◌⊎◌}
use Rattle.std.specs.Prelude.{Option, Some, None, ◌==◌, ◌&&◌, ◌||◌, not, codes}
use Rattle.std.specs.List.{prefix_len}
use Rattle.std.specs.Str.{str_eq_ignore_ascii_case as is_same}
use Rattle.std.proofs.lemmas.List.{take-append-drop}
use Rattle.std.proofs.lemmas.Bool.Decides.{Decides-eqb}
use Rattle.mail_date.specs.Bytes.{is_blank, is_folded}
use Rattle.mail_date.specs.Fields.{ends_field, field_len, is_empty_line, past_word, past_colon, past_name, body_or, received_body}
use Rattle.mail_date.specs.Header.{Unbroken, AtEnd, Named, FirstReceived}
use Rattle.mail_date.specs.Header as header
use Rattle.mail_date.specs.Reading.{past_byte}
use Rattle.mail_date.proofs.Blanks.{bind_some, guard_some}
use Rattle.mail_date.proofs.Sound.{many_taken}
use Rattle.mail_date.proofs.HeaderAgain.{named_again, here_again, another_line, passed}

-- ---- the end of a field

-- a byte that ends no field, before a field's text
longer : (b : ℕ) (front tail : List ℕ) → ends_field b (front ++ tail) ≡ false → AtEnd tail → Unbroken front → Unbroken (b ∷ front)
longer b front tail e t u = by (b == 10) refl front tail e t u
  where
    first : (c : ℕ) (more : List ℕ) → not (is_folded (c ∷ more)) ≡ false → is_blank c ≡ true
    first c more h = opened (c == 32) (c == 9) h
      where
        opened : (p q : Bool) → not (p || q) ≡ false → (p || q) ≡ true
        opened true q h = refl
        opened false true h = refl
        opened false false h = absurd cc

    lf : (front tail : List ℕ) → not (is_folded (front ++ tail)) ≡ false → AtEnd tail → Unbroken front → Unbroken (10 ∷ front)
    lf [] [] h t u = absurd cc
    lf [] (c ∷ more) h (header.line k) u = absurd cc
    lf (c ∷ cs) tail h t u = header.fold (first c (cs ++ tail) h) u

    by : (t : Bool) → (b == 10) ≡ t → (front tail : List ℕ) → (t && not (is_folded (front ++ tail))) ≡ false → AtEnd tail → Unbroken front → Unbroken (b ∷ front)
    by true k front tail e t u = subst (λ (x : ℕ). Unbroken (x ∷ front)) (sym ((Decides-eqb b 10).0 k)) (lf front tail e t u)
    by false k front tail e t u = header.byte k u

-- an LF that ends a field
ended : (b : ℕ) (bs : List ℕ) → ends_field b bs ≡ true → (b ≡ 10) × (is_folded bs ≡ false)
ended b bs e = by (b == 10) (is_folded bs) refl e
  where
    by : (t f : Bool) → (b == 10) ≡ t → (t && not f) ≡ true → (b ≡ 10) × (f ≡ false)
    by true true k e = absurd cc
    by true false k e = ((Decides-eqb b 10).0 k, refl)
    by false f k e = absurd cc

pub field_sound : (bytes : List ℕ) → Unbroken (take (field_len bytes) bytes) × AtEnd (drop (field_len bytes) bytes)
field_sound [] = (header.end, header.text)
field_sound (b ∷ bs) = by (ends_field b bs) refl (field_sound bs)
  where
    by : (t : Bool) → ends_field b bs ≡ t → Unbroken (take (field_len bs) bs) × AtEnd (drop (field_len bs) bs)
        → Unbroken (take (cond t 0 (1 + field_len bs)) (b ∷ bs)) × AtEnd (drop (cond t 0 (1 + field_len bs)) (b ∷ bs))
    by true e h =
        let k = ended b bs e in
        (header.end, subst (λ (x : ℕ). AtEnd (x ∷ bs)) (sym k.0) (header.line k.1))
    by false e h =
        let n = field_len bs in
        let one : 1 + n ≡ suc n = omega arith in
        let same : take n bs ++ drop n bs ≡ bs = take-append-drop n bs in
        subst (λ (m : ℕ). Unbroken (take m (b ∷ bs)) × AtEnd (drop m (b ∷ bs))) (sym one)
        (longer b (take n bs) (drop n bs) (ap (ends_field b) same ∙ e) h.1 h.0, h.1)

-- ---- names

byte_first : (c : ℕ) (bytes rest : List ℕ) → past_byte c bytes ≡ Some rest → bytes ≡ c ∷ rest
byte_first c [] rest e = absurd cc
byte_first c (b ∷ bs) rest e =
    let g = guard_some (b == c) bs rest e in
    ap (λ (x : ℕ). x ∷ bs) ((Decides-eqb b c).0 g.0) ∙ ap (λ (l : List ℕ). c ∷ l) g.1

pub named_sound : (word text behind : List ℕ) → past_name word text ≡ Some behind → Named word text behind
named_sound word text behind e =
    let w = bind_some (past_word word text) past_colon behind e in
    let g = guard_some (is_same (take (length word) text) word) (drop (length word) text) w.0 w.1 in
    let n = prefix_len is_blank w.0 in
    let colon = byte_first 58 (drop n w.0) behind w.2 in
    let rest : w.0 ≡ take n w.0 ++ 58 ∷ behind = sym (take-append-drop n w.0) ∙ ap (λ (l : List ℕ). take n w.0 ++ l) colon in
    record {
      name = take (length word) text;
      blanks = take n w.0;
      parts = sym (take-append-drop (length word) text) ∙ ap (λ (l : List ℕ). take (length word) text ++ l) (g.1 ∙ rest);
      same = g.0;
      between = many_taken is_blank w.0;
    }

-- ---- the header

-- the rest of a field, and such a header behind it
record Behind (text body : List ℕ) : Type 0 where
  field : List ℕ
  more : List ℕ
  parts : text ≡ field ++ 10 ∷ more
  whole : Unbroken field
  unfolded : is_folded more ≡ false
  first : FirstReceived more body

one_further : (b : ℕ) (bs body : List ℕ) → ends_field b bs ≡ false → Behind bs body → Behind (b ∷ bs) body
one_further b bs body e h =
    record {
      field = b ∷ h.field;
      more = h.more;
      parts = ap (λ (l : List ℕ). b ∷ l) h.parts;
      whole = longer b h.field (10 ∷ h.more) (ap (ends_field b) (sym h.parts) ∙ e) (header.line h.unfolded) h.whole;
      unfolded = h.unfolded;
      first = h.first;
    }

abbrev Found : Bool → List ℕ → List ℕ → Type 0
Found true text body = FirstReceived text body
Found false text body = Behind text body

-- one byte further
further : (b : ℕ) (bs body : List ℕ) (t : Bool) → ends_field b bs ≡ t → Found t bs body → Behind (b ∷ bs) body
further b bs body true e h =
    let k = ended b bs e in
    record { field = []; more = bs; parts = ap (λ (x : ℕ). x ∷ bs) k.0; whole = header.end; unfolded = k.1; first = h }
further b bs body false e h = one_further b bs body e h

no_end : (t : Bool) (o : Option (List ℕ)) (body : List ℕ) → cond t None o ≡ Some body → (t ≡ false) × (o ≡ Some body)
no_end true o body e = absurd cc
no_end false o body e = (refl, e)

which : (o others : Option (List ℕ)) (body : List ℕ) → body_or o others ≡ Some body
    → ((v : List ℕ) × (o ≡ Some v) × (take (field_len v) v ≡ body)) ⊎ ((o ≡ None) × (others ≡ Some body))
which (Some v) others body e = inl (v, refl, cc)
which None others body e = inr (refl, e)

taken : (text v : List ℕ) → Named (codes "Received") text v → FirstReceived text (take (field_len v) v)
taken text v n =
    let f = field_sound v in
    header.here (take (field_len v) v) (drop (field_len v) v) (subst (Named (codes "Received") text) (sym (take-append-drop (field_len v) v)) n) f.0 f.1

differ : (o : Option (List ℕ)) (v : List ℕ) → o ≡ None → o ≡ Some v → ⊥
differ (Some w) v e f = absurd cc
differ None v e f = absurd cc

body_sound : (starts : Bool) (text body : List ℕ) → received_body starts text ≡ Some body → Found starts text body
body_sound true [] body e = absurd cc
body_sound false [] body e = absurd cc
body_sound false (b ∷ bs) body e = further b bs body (ends_field b bs) refl (body_sound (ends_field b bs) bs body e)
body_sound true (b ∷ bs) body e =
    let text = b ∷ bs in
    let others = received_body (ends_field b bs) bs in
    let l = no_end (is_empty_line text) (body_or (past_name (codes "Received") text) others) body e in
    elim (which (past_name (codes "Received") text) others body l.1) [
      | inl w ↦ subst (FirstReceived text) w.2 (taken text w.0 (named_sound (codes "Received") text w.0 w.1))
      | inr w ↦
          let h = further b bs body (ends_field b bs) refl (body_sound (ends_field b bs) bs body w.1) in
          header.later h.field h.more h.parts h.whole h.unfolded l.0 (λ v n. differ (past_name (codes "Received") text) v w.0 (named_again (codes "Received") text v n)) h.first
    ]

pub header_sound : (text body : List ℕ) → received_body true text ≡ Some body → FirstReceived text body
header_sound text body e = body_sound true text body e

-- ---- and the other way round

not_named : (text : List ℕ) (o : Option (List ℕ)) → past_name (codes "Received") text ≡ o → ((v : List ℕ) → Named (codes "Received") text v → ⊥) → o ≡ None
not_named text (Some v) e n = absurd (n v (named_sound (codes "Received") text v e))
not_named text None e n = refl

pub header_again : {text body : List ℕ} → FirstReceived text body → received_body true text ≡ Some body
header_again (header.here {text} body rest n u t) = here_again text body rest n u t
header_again (header.later {text} {body} field more e u k l n f) =
    another_line text l (not_named text (past_name (codes "Received") text) refl n)
    ∙ ap (received_body false) e
    ∙ passed u more k
    ∙ header_again f
