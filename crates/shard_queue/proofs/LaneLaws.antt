-- A lane stays a merge under each put and take, and a closed lane is empty.
use Rattle.std.proofs.Common.{◌≡◌, ℕ, ◌<◌, ◌≤◌, ◌≢◌, ◌⊎◌, inl, inr, true, false, eqb, List, [], ◌∷◌, ◌++◌, length, refl, sym, ap, ◌∙◌, arith, append_assoc, append-nil, length-append}
use Rattle.std.proofs.lemmas.Bool.{cases_lt, eq-eqb}
use Rattle.std.proofs.lemmas.Bool.Decides.{eqb_tells}
use Rattle.std.proofs.lemmas.List.Elements.{filter-append}
use Rattle.shard_queue.specs.declared.lane.Entry.{Entry}
use Rattle.shard_queue.specs.declared.lane.Entry.TheVariants.{Item, End}
use Rattle.shard_queue.specs.Lane.{producer, of, has_end, Lane, empty_lane, put, took, IsLive, IsClosed, EndsLast, IsMerge, Move, Puts, Takes, ComesBy}
use Rattle.shard_queue.proofs.AtLaws.{at_cases}

pub of_append : {A : Type 0} (p : ℕ) (xs ys : List (Entry A)) → of p (xs ++ ys) ≡ of p xs ++ of p ys
of_append p xs ys = filter-append _ xs ys

pub of_own : {A : Type 0} (p : ℕ) (e : Entry A) (es : List (Entry A)) → p ≡ producer e → of p (e ∷ es) ≡ e ∷ of p es
of_own p e es h = rw (eq-eqb (producer e) p (sym h)) refl

pub of_other : {A : Type 0} (p : ℕ) (e : Entry A) (es : List (Entry A)) → p ≢ producer e → of p (e ∷ es) ≡ of p es
of_other p e es h = go (eqb_tells (producer e) p)
  where
    go : ((eqb (producer e) p ≡ true) × (producer e ≡ p)) ⊎ ((eqb (producer e) p ≡ false) × (producer e ≢ p)) → of p (e ∷ es) ≡ of p es
    go (inl (t, s)) = absurd (h (sym s))
    go (inr (t, s)) = rw t refl

pub ends_last_push : {A : Type 0} (xs : List (Entry A)) (e : Entry A) → EndsLast xs → has_end xs ≡ false → EndsLast (xs ++ e ∷ [])
ends_last_push [] (Item p x) h k = tt
ends_last_push [] (End p) h k = refl
ends_last_push (Item q y ∷ xs) e h k = ends_last_push xs e h k
ends_last_push (End q ∷ xs) e h k = absurd (cc)

pub after_end : {A : Type 0} (xs ys : List (Entry A)) → EndsLast (xs ++ ys) → has_end xs ≡ true → ys ≡ []
after_end [] ys h k = cc
after_end (Item p x ∷ xs) ys h k = after_end xs ys h k
after_end (End p ∷ []) ys h k = h
after_end (End p ∷ x ∷ xs) ys h k = absurd (cc)

pub empty_merge : {A : Type 0} (n room : ℕ) → IsMerge n room (empty_lane {A = A})
empty_merge n room = record { each = λ p. refl; known = λ p h. refl; within = omega arith; legal = λ p. tt }

pub merge_put : {A : Type 0} (n room : ℕ) (l : Lane A) (e : Entry A) → IsMerge n room l → producer e < n → IsLive l (producer e) → length l.waiting < room → IsMerge n room (put l e)
merge_put n room l e m h live r = record {
  each = λ p. at_cases (λ sent. of p (l.got ++ (l.waiting ++ e ∷ [])) ≡ sent) l.sent (producer e) _ p
      (λ s. sym (ap (of p) (append_assoc l.got l.waiting (e ∷ []))) ∙ (of_append p (l.got ++ l.waiting) (e ∷ []) ∙ rw (of_own p e [] s, m.each p, s) refl))
      (λ o. sym (ap (of p) (append_assoc l.got l.waiting (e ∷ []))) ∙ (of_append p (l.got ++ l.waiting) (e ∷ []) ∙ rw (of_other p e [] o, append-nil, m.each p) refl));
  known = λ p big. at_cases (λ sent. sent ≡ []) l.sent (producer e) _ p (λ s. absurd (omega arith)) (λ o. m.known p big);
  within = rw length-append (omega arith);
  legal = λ p. at_cases EndsLast l.sent (producer e) _ p (λ s. ends_last_push (l.sent (producer e)) e (m.legal (producer e)) live) (λ o. m.legal p);
}

pub merge_took : {A : Type 0} (n room : ℕ) (l : Lane A) (e : Entry A) (others : List (Entry A)) → IsMerge n room l → l.waiting ≡ e ∷ others → IsMerge n room (took l e others)
merge_took n room l e others m h = record {
  each = λ p. ap (of p) (append_assoc l.got (e ∷ []) others) ∙ (ap (λ w. of p (l.got ++ w)) (sym h) ∙ m.each p);
  known = m.known;
  within = omega (arith, m.within, ap length h);
  legal = m.legal;
}

no_nil : {A : Type 0} (xs : List A) (y : A) (ys : List A) → xs ++ y ∷ ys ≡ [] → ⊥
no_nil [] y ys h = cc
no_nil (x ∷ xs) y ys h = cc

-- an entry that waits is of a producer of the lane
pub front_known : {A : Type 0} (n room : ℕ) (l : Lane A) (e : Entry A) (others : List (Entry A)) → IsMerge n room l → l.waiting ≡ e ∷ others → producer e < n
front_known n room l e others m h = go (cases_lt (producer e) n)
  where
    go : (producer e < n) ⊎ (n ≤ producer e) → producer e < n
    go (inl lt) = lt
    go (inr le) = absurd (no_nil (of (producer e) l.got) e (of (producer e) others)
        (ap (λ es. of (producer e) l.got ++ es) (sym (of_own (producer e) e others refl))
        ∙ (sym (of_append (producer e) l.got (e ∷ others)) ∙ (ap (λ w. of (producer e) (l.got ++ w)) (sym h) ∙ (m.each (producer e) ∙ m.known (producer e) le)))))

-- what p has that waits comes after p's end
pub closed_waits_none : {A : Type 0} (n room : ℕ) (l : Lane A) → IsMerge n room l → (p : ℕ) → has_end (of p l.got) ≡ true → of p l.waiting ≡ []
closed_waits_none n room l m p h = after_end (of p l.got) (of p l.waiting) (rw (← of_append p l.got l.waiting, m.each p) (m.legal p)) h

pub closed_is_empty : {A : Type 0} (n room : ℕ) (l : Lane A) → IsMerge n room l → IsClosed n l → l.waiting ≡ []
closed_is_empty n room l m closed = go l.waiting refl
  where
    go : (es : List (Entry _)) → l.waiting ≡ es → l.waiting ≡ []
    go [] h = h
    go (e ∷ es) h = absurd (no_nil [] e (of (producer e) es)
        (sym (of_own (producer e) e es refl) ∙ (ap (of (producer e)) (sym h) ∙ closed_waits_none n room l m (producer e) (closed (producer e) (front_known n room l e es m h)))))

pub has_end_more : {A : Type 0} (xs ys : List (Entry A)) → has_end xs ≡ true → has_end (xs ++ ys) ≡ true
has_end_more [] ys h = absurd (cc)
has_end_more (Item p x ∷ xs) ys h = has_end_more xs ys h
has_end_more (End p ∷ xs) ys h = refl

-- a producer whose end was taken may put no more
pub closed_not_live : {A : Type 0} (n room : ℕ) (l : Lane A) → IsMerge n room l → IsClosed n l → (p : ℕ) → p < n → IsLive l p → ⊥
closed_not_live n room l m closed p h live =
    let e : has_end (l.sent p) ≡ true = ap has_end (sym (m.each p) ∙ of_append p l.got l.waiting) ∙ has_end_more (of p l.got) (of p l.waiting) (closed p h) in
    cc

pub comes_merge : {A : Type 0} (n room : ℕ) (l : Lane A) (moves : List (Move A)) (m : Lane A) → IsMerge n room l → ComesBy n room l moves m → IsMerge n room m
comes_merge n room l [] m M e = rw e M
comes_merge n room l (Puts x ∷ moves) m M (y, (known, live, free, e), others) = comes_merge n room y moves m (rw e (merge_put n room l x M known live free)) others
comes_merge n room l (Takes ∷ moves) m M (y, (x, back, front, e), others) = comes_merge n room y moves m (rw e (merge_took n room l x back M front)) others
