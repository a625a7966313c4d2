-- A header field by field, of which some are taken, and a span of what is taken.
use Rattle.std.proofs.Common.{◌≡◌, ℕ, zero, suc, ◌+◌, ◌-◌, ◌<◌, ◌≤◌, Bool, true, false, cond, List, [], ◌∷◌, ◌++◌, length, length-append, get_or, take, drop, arith, refl, ap, sym, ◌∙◌, eqb-true}
use Rattle.std.specs.Prelude.{◌==◌, ◌&&◌, not}
use Rattle.envelope.proofs.Steps.{drop_step}
use Rattle.mail_date.specs.Bytes.{is_folded}
use Rattle.imap_answers.specs.Answers.{fields_from}
use Rattle.imap_answers.specs.inner.Fields.{field_size}

-- ---- how long a field is

abbrev ends : Bool → ℕ → List ℕ → Bool
ends cr b bs = cr && (b == 10) && not (is_folded bs)

-- what is counted from a byte on, with what stands behind it
abbrev pub sized : Bool → ℕ → List ℕ → ℕ
sized cr b bs = cond (cr && (b == 10) && not (is_folded bs)) 1 (1 + field_size (b == 13) bs)

pub size_step : (cr : Bool) (xs : List ℕ) (i : ℕ) → i < length xs → field_size cr (drop i xs) ≡ sized cr (get_or xs i 0) (drop (i + 1) xs)
size_step cr xs i h = ap (field_size cr) (drop_step xs i h)

pub some_size : (xs : List ℕ) → 0 < length xs → 0 < field_size false xs
some_size [] h = absurd (omega (arith, h))
some_size (b ∷ bs) h = omega arith

-- ---- one field more

-- where a field begins nothing depends on the one before
begins_anew : (takes : List ℕ → Bool) (taking : Bool) (xs : List ℕ) → fields_from takes true taking false xs ≡ fields_from takes true false false xs
begins_anew takes taking [] = refl
begins_anew takes taking (b ∷ bs) = refl

-- LF isn't CR
behind_lf : (cr : Bool) (b : ℕ) (bs : List ℕ) → ends cr b bs ≡ true → (b == 13) ≡ false
behind_lf cr b bs e = ap (λ (n : ℕ). n == 13) (eqb-true b 10 (second cr (b == 10) (not (is_folded bs)) e))
  where
    second : (x y z : Bool) → (x && y && z) ≡ true → y ≡ true
    second true true z h = refl
    second true false z h = h
    second false true z h = refl
    second false false z h = h

-- a field that has begun, and those behind it
pub whole_field : (takes : List ℕ → Bool) (now cr : Bool) (xs : List ℕ)
    → fields_from takes false now cr xs ≡ cond now (take (field_size cr xs) xs) [] ++ fields_from takes true false false (drop (field_size cr xs) xs)
whole_field takes true cr [] = refl
whole_field takes false cr [] = refl
whole_field takes now cr (b ∷ bs) = at (whole_field takes now (b == 13) bs) (ends cr b bs) refl
  where
    m : ℕ
    m = field_size (b == 13) bs

    joins : (t : Bool) (l r : List ℕ) → cond t (b ∷ []) [] ++ (cond t l [] ++ r) ≡ cond t (b ∷ l) [] ++ r
    joins true l r = refl
    joins false l r = refl

    at : fields_from takes false now (b == 13) bs ≡ cond now (take m bs) [] ++ fields_from takes true false false (drop m bs)
        → (e : Bool) → ends cr b bs ≡ e
        → cond now (b ∷ []) [] ++ fields_from takes e now (b == 13) bs
        ≡ cond now (take (cond e 1 (1 + m)) (b ∷ bs)) [] ++ fields_from takes true false false (drop (cond e 1 (1 + m)) (b ∷ bs))
    at others true k =
        ap (λ (t : Bool). cond now (b ∷ []) [] ++ fields_from takes true now t bs) (behind_lf cr b bs k)
        ∙ ap (λ (l : List ℕ). cond now (b ∷ []) [] ++ l) (begins_anew takes now bs)
    at others false k =
        ap (λ (l : List ℕ). cond now (b ∷ []) [] ++ l) others
        ∙ joins now (take m bs) (fields_from takes true false false (drop m bs))
        ∙ (let one_more : suc m ≡ 1 + m = omega arith in
        ap (λ (n : ℕ). cond now (take n (b ∷ bs)) [] ++ fields_from takes true false false (drop n (b ∷ bs))) one_more)

pub first_taken : (takes : List ℕ → Bool) (xs : List ℕ)
    → fields_from takes true false false xs ≡ cond (takes xs) (take (field_size false xs) xs) [] ++ fields_from takes true false false (drop (field_size false xs) xs)
first_taken takes [] = none (takes [])
  where
    none : (t : Bool) → [] ≡ cond t (take 0 []) [] ++ fields_from takes true false false []
    none true = refl
    none false = refl
first_taken takes (b ∷ bs) = whole_field takes (takes (b ∷ bs)) false (b ∷ bs)

pub len_taken : (all one more : List ℕ) → all ≡ one ++ more → length all ≡ length one + length more
len_taken all one more e = ap length e ∙ length-append one more

-- ---- a span of what stands in two parts

-- so many bytes of two parts, and those that are left of the second
taken_of_two : (count : ℕ) (xs more : List ℕ) (left : ℕ) → left ≡ count - length (take count xs) → take count (xs ++ more) ≡ take count xs ++ take left more
taken_of_two zero xs more left e = ap (λ (k : ℕ). take k more) (sym e)
taken_of_two (suc n) [] more left e = let k : suc n ≡ left = omega (arith, e) in ap (λ (k : ℕ). take k more) k
taken_of_two (suc n) (x ∷ xs) more left e = ap (λ (l : List ℕ). x ∷ l) (taken_of_two n xs more left (omega (arith, e)))

spanned : (count origin : ℕ) (xs more : List ℕ) (left before : ℕ) → left ≡ count - length (take count (drop origin xs)) → before ≡ origin - length xs
    → take count (drop origin (xs ++ more)) ≡ take count (drop origin xs) ++ take left (drop before more)
spanned count zero xs more left before e f =
    let k : 0 ≡ before = omega (arith, f) in
    taken_of_two count xs more left e ∙ ap (λ (k : ℕ). take count xs ++ take left (drop k more)) k
spanned count (suc origin) [] more left before e f = nothing count e
  where
    nothing : (n : ℕ) → left ≡ n - length (take {A = ℕ} n []) → take n (drop (suc origin) more) ≡ take n [] ++ take left (drop before more)
    nothing zero e = let k : 0 ≡ left = omega (arith, e) in ap (λ (k : ℕ). take k (drop before more)) k
    nothing (suc n) e =
        let k : suc n ≡ left = omega (arith, e) in
        let b : suc origin ≡ before = omega (arith, f) in
        ap (λ (k : ℕ). take k (drop (suc origin) more)) k ∙ ap (λ (b : ℕ). take left (drop b more)) b
spanned count (suc origin) (x ∷ xs) more left before e f = spanned count origin xs more left before e (omega (arith, f))

pub span_step : (count origin : ℕ) (xs more : List ℕ)
    → take count (drop origin (xs ++ more)) ≡ take count (drop origin xs) ++ take (count - length (take count (drop origin xs))) (drop (origin - length xs) more)
span_step count origin xs more = spanned count origin xs more _ _ refl refl

-- ---- how much is taken at most

pub fields_within : (takes : List ℕ → Bool) (fresh taking cr : Bool) (xs : List ℕ) → length (fields_from takes fresh taking cr xs) ≤ length xs
fields_within takes fresh taking cr [] = omega arith
fields_within takes fresh taking cr (b ∷ bs) =
    one _ (cond fresh (takes (b ∷ bs)) taking) (fields_within takes (ends cr b bs) (cond fresh (takes (b ∷ bs)) taking) (b == 13) bs)
  where
    one : (more : List ℕ) (t : Bool) → length more ≤ length bs → length (cond t (b ∷ []) [] ++ more) ≤ length (b ∷ bs)
    one more true h = omega (arith, h)
    one more false h = omega (arith, h)
