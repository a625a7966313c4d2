-- Lists of which one element after another is changed.
use Rattle.std.proofs.Common.{◌≡◌, ℕ, zero, suc, ◌<◌, ◌+◌, ◌++◌, ◌∙◌, ap, refl, sym, subst, List, [], ◌∷◌, length, slice_index_or, slice_set, drop, arith, All, Vec, Global, append_assoc, append-nil, vec_len, vec_capacity}
use Rattle.std.proofs.lemmas.List.Elements.{All-nil, All-cons, All-head, All-tail}

abbrev pub list : {A : Type 0} → Vec A Global → List A
list v = v.items

-- the first i elements were changed, each in step with one of these
abbrev pub StepTo : {V S : Type 0} → (V → V → S → Type 0) → ℕ → List V → List V → List S → Type 0
StepTo R zero olds news [] = olds ≡ news
StepTo R zero olds news (s ∷ ss) = ⊥
StepTo R (suc i) [] news ss = ⊥
StepTo R (suc i) (o ∷ os) [] ss = ⊥
StepTo R (suc i) (o ∷ os) (n ∷ ns) [] = ⊥
StepTo R (suc i) (o ∷ os) (n ∷ ns) (s ∷ ss) = R o n s × StepTo R i os ns ss

module _ {V S : Type 0} (R : V → V → S → Type 0) where
  -- the others are as they were
  pub ahead : (i : ℕ) (olds news : List V) (ss : List S) → StepTo R i olds news ss → (d : V) → slice_index_or news i d ≡ slice_index_or olds i d
  ahead zero olds news [] h d = ap (λ l. slice_index_or l 0 d) (sym h)
  ahead zero olds news (s ∷ ss) h d = absurd h
  ahead (suc i) [] news ss h d = absurd h
  ahead (suc i) (o ∷ os) [] ss h d = absurd h
  ahead (suc i) (o ∷ os) (n ∷ ns) [] h d = absurd h
  ahead (suc i) (o ∷ os) (n ∷ ns) (s ∷ ss) h d = ahead i os ns ss h.1 d

  pub step_length : (i : ℕ) (olds news : List V) (ss : List S) → StepTo R i olds news ss → length news ≡ length olds
  step_length zero olds news [] h = ap length (sym h)
  step_length zero olds news (s ∷ ss) h = absurd h
  step_length (suc i) [] news ss h = absurd h
  step_length (suc i) (o ∷ os) [] ss h = absurd h
  step_length (suc i) (o ∷ os) (n ∷ ns) [] h = absurd h
  step_length (suc i) (o ∷ os) (n ∷ ns) (s ∷ ss) h = ap suc (step_length i os ns ss h.1)

  pub one_step : (i : ℕ) (olds news : List V) (ss : List S) → StepTo R i olds news ss → (d v : V) (s : S) → i < length news → R (slice_index_or news i d) v s
      → StepTo R (i + 1) olds (slice_set news i v) (ss ++ s ∷ [])
  one_step zero olds [] ss h d v s under r = absurd (omega arith)
  one_step zero olds (n ∷ ns) [] h d v s under r = subst (λ l. StepTo R 1 l (v ∷ ns) (s ∷ [])) (sym h) (r, refl)
  one_step zero olds (n ∷ ns) (x ∷ ss) h d v s under r = absurd h
  one_step (suc i) [] news ss h d v s under r = absurd h
  one_step (suc i) (o ∷ os) [] ss h d v s under r = absurd h
  one_step (suc i) (o ∷ os) (n ∷ ns) [] h d v s under r = absurd h
  one_step (suc i) (o ∷ os) (n ∷ ns) (x ∷ ss) h d v s under r =
      let e : suc i + 1 ≡ suc (i + 1) = omega arith in
      subst (λ k. StepTo R k (o ∷ os) (n ∷ slice_set ns i v) (x ∷ ss ++ s ∷ [])) (sym e) (h.0, one_step i os ns ss h.1 d v s (omega arith) r)

  pub weaker : (Q : V → V → S → Type 0) → ((o n : V) (s : S) → R o n s → Q o n s) → (i : ℕ) (olds news : List V) (ss : List S) → StepTo R i olds news ss → StepTo Q i olds news ss
  weaker Q less zero olds news [] h = h
  weaker Q less zero olds news (s ∷ ss) h = absurd h
  weaker Q less (suc i) [] news ss h = absurd h
  weaker Q less (suc i) (o ∷ os) [] ss h = absurd h
  weaker Q less (suc i) (o ∷ os) (n ∷ ns) [] h = absurd h
  weaker Q less (suc i) (o ∷ os) (n ∷ ns) (s ∷ ss) h = (less o n s h.0, weaker Q less i os ns ss h.1)

  -- what each step keeps is kept of all
  pub all_after : (P Q : V → Type 0) → ((o n : V) (s : S) → R o n s → P o → Q n) → (olds news : List V) (ss : List S) → StepTo R (length olds) olds news ss → All P olds → All Q news
  all_after P Q keep [] [] [] h all = All-nil Q
  all_after P Q keep [] (n ∷ ns) [] h all = absurd (let x : [] ≡ n ∷ ns = h in cc)
  all_after P Q keep [] news (s ∷ ss) h all = absurd h
  all_after P Q keep (o ∷ os) [] ss h all = absurd h
  all_after P Q keep (o ∷ os) (n ∷ ns) [] h all = absurd h
  all_after P Q keep (o ∷ os) (n ∷ ns) (s ∷ ss) h all = All-cons Q n ns (keep o n s h.0 (All-head P o os all)) (all_after P Q keep os ns ss h.1 (All-tail P o os all))

-- a list's first element, and the rest
pub front : {A : Type 0} (xs : List A) (x : A) → 0 < length xs → x ≡ slice_index_or xs 0 x → xs ≡ x ∷ drop 1 xs
front [] x some is = absurd (omega arith)
front (y ∷ ys) x some is = ap (λ k. k ∷ ys) (sym is)

pub removed : {A : Type 0} (xs less : List A) (x : A) → 0 < length xs → x ≡ slice_index_or xs 0 x → less ≡ drop 1 xs → xs ≡ x ∷ less
removed xs less x some is new = front xs x some is ∙ ap (λ l. x ∷ l) (sym new)

pub no_items : {A : Type 0} (xs : List A) → length xs ≡ 0 → xs ≡ []
no_items [] e = refl
no_items (x ∷ xs) e = absurd (omega (arith, e))

pub all_done : {V S : Type 0} (R : V → V → S → Type 0) (i : ℕ) (olds news : List V) (done rest all : List S) → StepTo R i olds news done → i ≡ length olds → length rest ≡ 0 → all ≡ done ++ rest
    → StepTo R (length olds) olds news all
all_done R i olds news done rest all h e none is =
    let so : done ≡ all = sym (is ∙ ap (λ l. done ++ l) (no_items rest none) ∙ append-nil done) in
    subst (λ n. StepTo R n olds news all) e (subst (StepTo R i olds news) so h)

-- one is taken from the front of a list and goes to the back of another
pub moved : {S : Type 0} (all done rest less : List S) (e : S) → all ≡ done ++ rest → 0 < length rest → e ≡ slice_index_or rest 0 e → less ≡ drop 1 rest → all ≡ (done ++ e ∷ []) ++ less
moved all done rest less e is some first new =
    is ∙ ap (λ l. done ++ l) (front rest e some first ∙ ap (λ l. e ∷ l) (sym new)) ∙ sym (append_assoc done (e ∷ []) less)

-- the first of a row is taken
pub row_step : {V S : Type 0} (f : V → List S) (i : ℕ) (olds news : List V) (ss : List S) → StepTo (λ o n s. f o ≡ s ∷ f n) i olds news ss → i < length news
    → (x y : V) (s : S) → x ≡ slice_index_or news i x → 0 < length (f x) → s ≡ slice_index_or (f x) 0 s → f y ≡ drop 1 (f x)
    → StepTo (λ o n s. f o ≡ s ∷ f n) (i + 1) olds (slice_set news i y) (ss ++ s ∷ [])
row_step f i olds news ss h under x y s xe some se ye =
    one_step (λ o n s. f o ≡ s ∷ f n) i olds news ss h x y s under (ap f (sym xe) ∙ front (f x) s some se ∙ ap (λ l. s ∷ l) (sym ye))

-- a list has one more, within its room
abbrev pub Grows : {S : Type 0} → Vec S Global → Vec S Global → S → Type 0
Grows o n e = (n.items ≡ o.items ++ e ∷ []) × (vec_len n ≡ vec_len o + 1) × (vec_capacity n ≡ vec_capacity o)
