-- What the consumer's permit shows: the marks of the ends that were taken, and what is known when all of them were.
use Rattle.std.proofs.Common.{None, ◌≡◌, ◌≢◌, ◌⊎◌, inl, inr, ℕ, zero, suc, ◌≤◌, ◌<◌, ◌+◌, ◌==◌, Bool, true, false, true≢false, eqb, List, [], ◌∷◌, ◌++◌, length, set, replicate, slice_index_or, map, All, Any, append_assoc, sym, refl, ap, ◌∙◌, subst, arith, append-nil, length-append, lt_of_not-le, Option, Some}
use native.Mathlib.Decide.{ℕ_discrete, dec_le}
use Rattle.std.specs.List.{list_any}
use Rattle.std.proofs.lemmas.List.{map-append}
use Rattle.std.proofs.lemmas.Bool.Decides.{eqb_tells}
use Rattle.std.proofs.lemmas.List.Elements.{All-append, All-cons, All-nil}
use Rattle.std.proofs.lemmas.List.Folds.{Any-from_list_any}
use Rattle.std.proofs.Math.ListN.{get_or-append}
use Rattle.std.proofs.Math.Seq.{get_or-set_other}
use Rattle.crossbeam_queue.specs.Fifo.{Merges}
use Rattle.shard_queue.specs.declared.lane.Entry.{Entry}
use Rattle.shard_queue.specs.declared.lane.Entry.TheVariants.{Item, End}
use Rattle.shard_queue.specs.declared.shared.View.{View}
use Rattle.shard_queue.specs.declared.shared.View.TheVariants.{Consumer, Producer, Spent}
use Rattle.shard_queue.specs.Lane.{producer, of, has_end, Lane, IsMerge, EndsLast}
use Rattle.shard_queue.specs.Shared.{consumer, sender, spent, list_of, seen_of, IsSharedBy, Saw, IsStartOf, Takes, Puts, heard_out}
use Rattle.shard_queue.specs.Closing.{HasAllEnds, IsWhole}
use Rattle.shard_queue.specs.SharedLane.{AreMarks, numbers, WasEmpty}
use Rattle.shard_queue.proofs.LaneLaws.{of_append, of_own, of_other, closed_is_empty}
use Rattle.shard_queue.proofs.SharedLaws.{hears}

marked : (marks : List Bool) (p : ℕ) → p < length marks → slice_index_or (set marks p true) p false ≡ true
marked [] p h = absurd (omega arith)
marked (b ∷ marks) zero h = refl
marked (b ∷ marks) (suc p) h = marked marks p (omega arith)

module _ {T : Type 0} where
  -- after a put, as the permit sees it
  pub sent_more : (k p : ℕ) (sent seen : List (Entry T)) (v w : View T) (e : Entry T) → v ≡ sender k p sent seen → Puts v e w
      → (w ≡ sender k p (list_of w) (seen_of w)) × (list_of w ≡ sent ++ e ∷ []) × ((before : List (Entry T)) × (seen_of w ≡ before ++ e ∷ []) × IsStartOf seen before)
  sent_more k p sent seen v w e is new =
      let t : Puts (sender k p sent seen) e w = subst (λ x. Puts x e w) is new in
      (t.1 ∙ (λ i. sender k p (sym (ap list_of t.1) i) (sym (ap seen_of t.1) i)), ap list_of t.1, (t.0, ap seen_of t.1, t.2))

  pub item_no_end : (xs : List (Entry T)) (p : ℕ) (x : T) → has_end (xs ++ Item p x ∷ []) ≡ has_end xs
  item_no_end [] p x = refl
  item_no_end (Item q y ∷ xs) p x = item_no_end xs p x
  item_no_end (End q ∷ xs) p x = refl

  pub end_has_end : (xs : List (Entry T)) (p : ℕ) → has_end (xs ++ End p ∷ []) ≡ true
  end_has_end [] p = refl
  end_has_end (Item q y ∷ xs) p = end_has_end xs p
  end_has_end (End q ∷ xs) p = refl

  -- after a take, as the permit sees it
  pub took_one : (n m : ℕ) (got : List (Entry T)) (heard : Option (ℕ × List (Entry T))) (seen : List (Entry T)) (v w : View T) (e : Entry T) → v ≡ consumer n m got heard seen → Takes v e w
      → (w ≡ consumer n m (list_of w) heard (seen_of w)) × (list_of w ≡ got ++ e ∷ []) × (producer e < n) × ((others : List (Entry T)) × (seen_of w ≡ (got ++ e ∷ []) ++ others) × IsStartOf seen ((got ++ e ∷ []) ++ others))
  took_one n m got heard seen v w e is new =
      let t : Takes (consumer n m got heard seen) e w = subst (λ x. Takes x e w) is new in
      let r = t.1 in (r.1 ∙ (λ i. consumer n m (sym (ap list_of r.1) i) heard (sym (ap seen_of r.1) i)), ap list_of r.1, t.0, (r.0, ap seen_of r.1, r.2))

  -- what an empty lane tells
  none : (xs : List (Entry T)) → length xs ≡ 0 → xs ≡ []
  none [] e = refl
  none (x ∷ xs) e = absurd (omega arith)

  pub was_empty : (n room k : ℕ) (got : List (Entry T)) (heard : Option (ℕ × List (Entry T))) (seen : List (Entry T)) (v : View T) (waiting : List (Entry T)) → v ≡ consumer n k got heard seen → length waiting ≡ 0 → Saw v waiting → WasEmpty n room got seen
  was_empty n room k got heard seen v waiting is empty saw =
      let s : Saw (consumer n k got heard seen) waiting = subst (λ x. Saw x waiting) is saw in
      let m = s.4 in (
        s.2,
        subst (λ i. IsMerge i room s.2) (sym s.5.0) (record { each = m.each; known = m.known; within = (let a = ap length s.3 in omega arith); legal = m.legal }),
        s.3 ∙ none waiting empty,
        sym s.5.2,
        subst (IsStartOf seen) (ap (λ xs. s.2.got ++ xs) (s.3 ∙ none waiting empty) ∙ append-nil s.2.got ∙ sym s.5.2) s.5.4,
      )

  -- marks
  marks_of : (got : List (Entry T)) (e : Entry T) (q : ℕ) → q ≢ producer e → has_end (of q (got ++ e ∷ [])) ≡ has_end (of q got)
  marks_of got e q apart = ap has_end (of_append q got (e ∷ []) ∙ ap (λ xs. of q got ++ xs) (of_other q e [] apart) ∙ append-nil (of q got))

  marks_own : (got : List (Entry T)) (e : Entry T) (q : ℕ) → q ≡ producer e → has_end (of q (got ++ e ∷ [])) ≡ has_end (of q got ++ e ∷ [])
  marks_own got e q own = ap has_end (of_append q got (e ∷ []) ∙ ap (λ xs. of q got ++ xs) (of_own q e [] own))

  pub marks_item : (n : ℕ) (marks : List Bool) (got more : List (Entry T)) (p : ℕ) (x : T) → more ≡ got ++ Item p x ∷ [] → AreMarks n marks got → AreMarks n marks more
  marks_item n marks got more p x is m q less = m q less ∙ sym (ap (λ es. has_end (of q es)) is ∙ by_case (ℕ_discrete q p)) where
    by_case : Dec (q ≡ p) → has_end (of q (got ++ Item p x ∷ [])) ≡ has_end (of q got)
    by_case (yes d) = marks_own got (Item p x) q d ∙ item_no_end (of q got) p x
    by_case (no d) = marks_of got (Item p x) q d

  pub marks_end : (n : ℕ) (marks : List Bool) (got more : List (Entry T)) (p : ℕ) → more ≡ got ++ End p ∷ [] → p < length marks → AreMarks n marks got → AreMarks n (set marks p true) more
  marks_end n marks got more p is short m q less = by_case (ℕ_discrete q p) ∙ sym (ap (λ es. has_end (of q es)) is) where
    by_case : Dec (q ≡ p) → slice_index_or (set marks p true) q false ≡ has_end (of q (got ++ End p ∷ []))
    by_case (yes d) = ap (λ i. slice_index_or (set marks p true) i false) d ∙ marked marks p short ∙ sym (marks_own got (End p) q d ∙ end_has_end (of q got) p)
    by_case (no d) = get_or-set_other marks p q true false d ∙ m q less ∙ sym (marks_of got (End p) q d)

  -- the consumer's permit when each producer has its own
  pub all_permitted : (n k : ℕ) (v : View T) → v ≡ consumer n k [] None [] → k ≡ n → v ≡ consumer n n (list_of v) None (seen_of v)
  all_permitted n k v is all = is ∙ ap (λ i. consumer n i [] None []) all ∙ (λ i. consumer n n (sym (ap list_of is) i) None (sym (ap seen_of is) i))

  -- hearing a producer out
  pub hears_all : (n position : ℕ) (v : View T) (door i p : ℕ) (said late : List (Entry T)) (u : View T) → HasAllEnds n v → u ≡ sender i p said late → has_end said ≡ true → Merges IsSharedBy position v door u (heard_out v u) spent
  hears_all n position (Consumer k made got heard seen) door i p said late u all is ended = hears position k made (consumer k made got heard seen) got heard seen door i p said late u refl is ended
  hears_all n position (Producer k q more seen) door i p said late u all is ended = absurd all
  hears_all n position Spent door i p said late u all is ended = absurd all

  -- where every end was taken nothing waits, and what a producer has sent is what was taken of it
  empty_now : (n made : ℕ) (got : List (Entry T)) (k : ℕ) (l : Lane T) (room : ℕ) → made ≡ n → ((p : ℕ) → p < n → has_end (of p got) ≡ true) → IsMerge k room l → made ≡ k → got ≡ l.got → l.waiting ≡ []
  empty_now n made got k l room same all m count is = closed_is_empty k room l m (λ p less. ap (λ es. has_end (of p es)) (sym is) ∙ all p (omega arith))

  sent_is_taken : (k room : ℕ) (l : Lane T) (got : List (Entry T)) (p : ℕ) → IsMerge k room l → got ≡ l.got → l.waiting ≡ [] → l.sent p ≡ of p got
  sent_is_taken k room l got p m is empty = sym (m.each p) ∙ ap (λ es. of p (l.got ++ es)) empty ∙ ap (of p) (append-nil l.got) ∙ ap (of p) (sym is)

  pub told : (n : ℕ) (v : View T) (i p : ℕ) (said late waiting : List (Entry T)) (u w : View T) → HasAllEnds n v → u ≡ sender i p said late → w ≡ heard_out v u → Saw w waiting → said ≡ of p (list_of v)
  told n (Consumer k made got heard seen) i p said late waiting u w all is new saw =
      let s : Saw (consumer k made got (Some (p, said)) seen) waiting = subst (λ x. Saw x waiting) (new ∙ ap (heard_out (consumer k made got heard seen)) is) saw in
      s.5.3.0 ∙ sent_is_taken s.0 (length waiting) s.2 got p s.4 s.5.2 (empty_now n k got s.0 s.2 (length waiting) all.0 all.1 s.4 s.5.0 s.5.2)
  told n (Producer k q more seen) i p said late waiting u w all is new saw = absurd all
  told n Spent i p said late waiting u w all is new saw = absurd all

  pub whole : (n room : ℕ) (v : View T) (waiting es : List (Entry T)) → HasAllEnds n v → list_of v ≡ es → Saw v waiting → IsWhole n room es
  whole n room (Consumer k made got heard seen) waiting es all is saw =
      let m = saw.4 in
      let taken : (p : ℕ) → saw.2.sent p ≡ of p es = λ p. sent_is_taken saw.0 (length waiting) saw.2 got p m saw.5.2 (empty_now n k got saw.0 saw.2 (length waiting) all.0 all.1 m saw.5.0 saw.5.2) ∙ ap (of p) is in
      record {
        merge = record {
          each = λ p. ap (of p) (append-nil es);
          known = λ p big. sym (taken p) ∙ m.known p (let a = all.0 in let b = saw.5.0 in omega arith);
          within = omega arith;
          legal = λ p. subst EndsLast (taken p) (m.legal p);
        };
        closed = λ p less. ap (λ xs. has_end (of p xs)) (sym is) ∙ all.1 p less;
      }
  whole n room (Producer k q more seen) waiting es all is saw = absurd all
  whole n room Spent waiting es all is saw = absurd all

pub below_suc : (P : ℕ → Type 0) (k : ℕ) → ((p : ℕ) → p < k → P p) → P k → (p : ℕ) → p < k + 1 → P p
below_suc P k all here p less = by_case (dec_le k p) where
  by_case : Dec (k ≤ p) → P p
  by_case (yes d) = subst P (omega arith) here
  by_case (no d) = all p (lt_of_not-le d)

pub none_set : (n p : ℕ) → slice_index_or (replicate n false) p false ≡ false
none_set zero p = refl
none_set (suc n) zero = refl
none_set (suc n) (suc p) = none_set n p

numbers_push : (k n : ℕ) → numbers k (suc n) ≡ numbers k n ++ (k + n) ∷ []
numbers_push k zero = ap (λ (x : ℕ). x ∷ []) (omega arith)
numbers_push k (suc n) = ap (λ (l : List ℕ). k ∷ l) (numbers_push (suc k) n ∙ ap (λ (x : ℕ). numbers (suc k) n ++ x ∷ []) (omega arith))

module _ {S : Type 0} (number : S → ℕ) where
  pub some_numbered : (p : ℕ) (xs : List S) → list_any (λ x. number x == p) xs ≡ true → Any (λ x. number x ≡ p) xs
  some_numbered p xs h = let a = Any-from_list_any (λ x. number x == p) xs h in (a.0, a.1, a.2, a.3, same (eqb_tells (number a.1) p) a.4)
    where
      same : {i : ℕ} → ((eqb i p ≡ true) × (i ≡ p)) ⊎ ((eqb i p ≡ false) × (i ≢ p)) → eqb i p ≡ true → i ≡ p
      same (inl (t, e)) k = e
      same (inr (t, e)) k = absurd (true≢false (sym k ∙ t))

  pub one_more_number : (permits more : List S) (s : S) (n : ℕ) → map number permits ≡ numbers 0 n → number s ≡ n → more ≡ permits ++ s ∷ [] → map number more ≡ numbers 0 (n + 1)
  one_more_number permits more s n h is new =
      let zero_plus : n ≡ 0 + n = omega arith in
      let more_is : suc n ≡ n + 1 = omega arith in
      ap (map number) new ∙ map-append number permits (s ∷ []) ∙ (λ i. h i ++ is i ∷ []) ∙ ap (λ (x : ℕ). numbers 0 n ++ x ∷ []) zero_plus ∙ sym (numbers_push 0 n) ∙ ap (numbers 0) more_is

pub all_left : {X : Type 0} (P : X → Type 0) (xs ys : List X) → All P (xs ++ ys) → All P xs
all_left P xs ys all k d less = subst P (get_or-append xs ys d k less) (all k d (let a = length-append xs ys in omega arith))

-- of a list of which some elements were dealt with from the back, these are left, and each of the others has the property
abbrev pub IsBehind : {X : Type 0} → (X → Type 0) → List X → List X → Type 0
IsBehind {X} P left all = (done : List X) × (all ≡ left ++ done) × All P done

pub one_more_behind : {X : Type 0} (P : X → Type 0) (xs left all : List X) (x : X) → IsBehind P xs all → xs ≡ left ++ x ∷ [] → P x → IsBehind P left all
one_more_behind P xs left all x h is here = (x ∷ h.0, h.1 ∙ ap (λ l. l ++ h.0) is ∙ append_assoc left (x ∷ []) h.0, All-cons P x h.0 here h.2)

pub one_more_permit : {X : Type 0} (P : X → Type 0) (xs more : List X) (x : X) → All P xs → P x → more ≡ xs ++ x ∷ [] → All P more
one_more_permit P xs more x all here is = subst (All P) (sym is) (All-append P xs (x ∷ []) all (All-cons P x [] here (All-nil P)))
