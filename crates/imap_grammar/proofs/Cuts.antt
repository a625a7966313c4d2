-- Texts, cut at a byte.
use Rattle.std.proofs.Common.{◌≡◌, ℕ, suc, ◌+◌, Bool, true, false, cond, List, [], ◌∷◌, ◌++◌, length, take, drop, arith, refl, ap, sym, subst, ◌∙◌}
use Rattle.std.specs.Prelude.{Option, Some, None, ◌==◌, not, nat_lt}
use Rattle.std.specs.List.{slice_split, prefix_len, AllByRecursion}
use Rattle.std.specs.Option.{option_map}
use Rattle.std.proofs.lemmas.Bool.Decides.{Decides-eqb, nat_tests}
use Rattle.std.proofs.lemmas.List.Elements.{All-from_recursion}
use Rattle.std.proofs.lemmas.List.Splits.{slice_split_none, slice_split_at}
use Rattle.envelope.specs.Grammar.{Many}
use Rattle.imap_grammar.specs.Cuts.{cut_at}

-- any byte but this
abbrev pub is_other : ℕ → ℕ → Bool
is_other b x = not (x == b)

abbrev pub onto_cut : ℕ → List ℕ × List ℕ → List ℕ × List ℕ
onto_cut x cut = (x ∷ cut.0, cut.1)

abbrev cut_here : List ℕ → ℕ → List ℕ × List ℕ
cut_here text n = (take n text, drop (n + 1) text)

no_more : (t : Bool) (x k : ℕ) (xs : List ℕ)
    → option_map (cut_here (x ∷ xs)) (cond t (Some (suc k)) None) ≡ option_map (onto_cut x) (option_map (cut_here xs) (cond t (Some k) None))
no_more true x k xs =
    let e : suc k + 1 ≡ suc (k + 1) = omega arith in
    rw e refl
no_more false x k xs = refl

one_more : (t : Bool) (x k n : ℕ) (xs : List ℕ)
    → option_map (cut_here (x ∷ xs)) (cond (nat_lt (cond (not t) (1 + k) 0) (suc n)) (Some (cond (not t) (1 + k) 0)) None)
    ≡ cond t (Some ([], xs)) (option_map (onto_cut x) (option_map (cut_here xs) (cond (nat_lt k n) (Some k) None)))
one_more true x k n xs =
    let e : nat_lt 0 (suc n) ≡ true = grind (arith, nat_tests) in
    ap (λ (t : Bool). option_map (cut_here (x ∷ xs)) (cond t (Some 0) None)) e
one_more false x k n xs =
    let e : 1 + k ≡ suc k = omega arith in
    let f : nat_lt (suc k) (suc n) ≡ nat_lt k n = grind (arith, nat_tests) in
    ap (λ (j : ℕ). option_map (cut_here (x ∷ xs)) (cond (nat_lt j (suc n)) (Some j) None)) e
    ∙ ap (λ (t : Bool). option_map (cut_here (x ∷ xs)) (cond t (Some (suc k)) None)) f
    ∙ no_more (nat_lt k n) x k xs

pub cut_step : (b x : ℕ) (xs : List ℕ) → cut_at b (x ∷ xs) ≡ cond (x == b) (Some ([], xs)) (option_map (onto_cut x) (cut_at b xs))
cut_step b x xs = one_more (x == b) x (prefix_len (is_other b) xs) (length xs) xs

-- what stands before the first such byte, that byte, and what stands behind it
pub record IsCut (b : ℕ) (text part others : List ℕ) : Type 0 where
  pub whole : text ≡ part ++ b ∷ others
  pub clean : Many (is_other b) part

others_of : {A B : Type 0} (f : A → B) (o : Option A) (y : B) → option_map f o ≡ Some y → (x : A) × (o ≡ Some x) × (f x ≡ y)
others_of f (Some x) y e = (x, refl, cc)
others_of f None y e = absurd cc

cut_case : (t : Bool) (b x : ℕ) (xs part others : List ℕ) → (x == b) ≡ t
    → ((p o : List ℕ) → cut_at b xs ≡ Some (p, o) → IsCut b xs p o)
    → cond t (Some ([], xs)) (option_map (onto_cut x) (cut_at b xs)) ≡ Some (part, others) → IsCut b (x ∷ xs) part others
cut_case true b x xs part others e again h =
    let p : [] ≡ part = ap first h in
    let o : xs ≡ others = ap second h in
    let is : x ≡ b = (Decides-eqb x b).0 e in
    subst (λ (q : List ℕ). IsCut b (x ∷ xs) q others) p (record { whole = ap (λ (y : ℕ). y ∷ xs) is ∙ ap (λ (l : List ℕ). b ∷ l) o; clean = tt })
  where
    first : Option (List ℕ × List ℕ) → List ℕ
    first (Some c) = c.0
    first None = []

    second : Option (List ℕ × List ℕ) → List ℕ
    second (Some c) = c.1
    second None = []
cut_case false b x xs part others e again h =
    let r = others_of (onto_cut x) (cut_at b xs) (part, others) h in
    let k = again r.0.0 r.0.1 r.1 in
    let p : x ∷ r.0.0 ≡ part = ap (λ (c : List ℕ × List ℕ). c.0) r.2 in
    let o : r.0.1 ≡ others = ap (λ (c : List ℕ × List ℕ). c.1) r.2 in
    subst (λ (q : List ℕ). IsCut b (x ∷ xs) q others) p
    (record { whole = ap (λ (l : List ℕ). x ∷ l) (k.whole ∙ ap (λ (l : List ℕ). r.0.0 ++ b ∷ l) o); clean = (ap not e, k.clean) })

pub cut_sound : (b : ℕ) (text part others : List ℕ) → cut_at b text ≡ Some (part, others) → IsCut b text part others
cut_sound b [] part others h =
    let e : cut_at b [] ≡ None = refl in
    absurd cc
cut_sound b (x ∷ xs) part others h =
    cut_case (x == b) b x xs part others refl (λ p o k. cut_sound b xs p o k) (sym (cut_step b x xs) ∙ h)

pub cut_again : (b : ℕ) (part others : List ℕ) → Many (is_other b) part → cut_at b (part ++ b ∷ others) ≡ Some (part, others)
cut_again b [] others h =
    cut_step b b others ∙ ap (λ (t : Bool). cond t (Some ([], others)) (option_map (onto_cut b) (cut_at b others))) ((Decides-eqb b b).1 refl)
cut_again b (x ∷ xs) others h =
    cut_step b x (xs ++ b ∷ others)
    ∙ ap (λ (t : Bool). cond t (Some ([], xs ++ b ∷ others)) (option_map (onto_cut x) (cut_at b (xs ++ b ∷ others)))) (not_true (x == b) h.0)
    ∙ ap (option_map (onto_cut x)) (cut_again b xs others h.1)
  where
    not_true : (t : Bool) → not t ≡ true → t ≡ false
    not_true true e = absurd cc
    not_true false e = refl

-- where there is no such byte there is no cut, and the other way round
pub none_clean : (b : ℕ) (text : List ℕ) → cut_at b text ≡ None → Many (is_other b) text
none_clean b [] h = tt
none_clean b (x ∷ xs) h = at_case (x == b) refl (λ k. none_clean b xs k) (sym (cut_step b x xs) ∙ h)
  where
    none_of : {A B : Type 0} (f : A → B) (o : Option A) → option_map f o ≡ None → o ≡ None
    none_of f (Some y) e = absurd cc
    none_of f None e = refl

    at_case : (t : Bool) → (x == b) ≡ t → (cut_at b xs ≡ None → Many (is_other b) xs)
        → cond t (Some ([], xs)) (option_map (onto_cut x) (cut_at b xs)) ≡ None → Many (is_other b) (x ∷ xs)
    at_case true e again k = absurd cc
    at_case false e again k = (ap not e, again (none_of (onto_cut x) (cut_at b xs) k))

pub clean_none : (b : ℕ) (text : List ℕ) → Many (is_other b) text → cut_at b text ≡ None
clean_none b [] h = refl
clean_none b (x ∷ xs) h =
    cut_step b x xs
    ∙ ap (λ (t : Bool). cond t (Some ([], xs)) (option_map (onto_cut x) (cut_at b xs))) (not_true (x == b) h.0)
    ∙ ap (option_map (onto_cut x)) (clean_none b xs h.1)
  where
    not_true : (t : Bool) → not t ≡ true → t ≡ false
    not_true true e = absurd cc
    not_true false e = refl

-- ---- all parts

differs : (b : ℕ) (part : List ℕ) → Many (is_other b) part → AllByRecursion (λ x. (x == b) ≡ false) part
differs b [] h = tt
differs b (x ∷ xs) h = (not_true (x == b) h.0, differs b xs h.1)
  where
    not_true : (t : Bool) → not t ≡ true → t ≡ false
    not_true true e = absurd cc
    not_true false e = refl

pub split_clean : (b : ℕ) (part others : List ℕ) → Many (is_other b) part → slice_split (λ x. x == b) (part ++ b ∷ others) ≡ part ∷ slice_split (λ x. x == b) others
split_clean b part others h = slice_split_at (λ x. x == b) part b others (All-from_recursion _ part (differs b part h)) ((Decides-eqb b b).1 refl)

pub split_one : (b : ℕ) (part : List ℕ) → Many (is_other b) part → slice_split (λ x. x == b) part ≡ part ∷ []
split_one b part h = slice_split_none (λ x. x == b) part (All-from_recursion _ part (differs b part h))

pub split_cut : (b : ℕ) (text part others : List ℕ) → cut_at b text ≡ Some (part, others) → slice_split (λ x. x == b) text ≡ part ∷ slice_split (λ x. x == b) others
split_cut b text part others h =
    let c = cut_sound b text part others h in
    ap (slice_split (λ x. x == b)) c.whole ∙ split_clean b part others c.clean

pub split_end : (b : ℕ) (text : List ℕ) → cut_at b text ≡ None → slice_split (λ x. x == b) text ≡ text ∷ []
split_end b text h = split_one b text (none_clean b text h)
