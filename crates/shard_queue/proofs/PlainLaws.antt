-- A lane on one thread makes the moves of a lane.
use Rattle.std.proofs.Common.{◌≡◌, ◌≢◌, true, false, not, Bool, ℕ, zero, suc, ◌<◌, List, [], ◌∷◌, ◌++◌, length, get_or, set, get_or-set_same, get_or-set_other, length-set, refl, sym, ap, subst, ◌∙◌, arith, None}
use Rattle.std.specs.Prelude.{replicate}
use Rattle.std.proofs.lemmas.List.{length-replicate}
use Rattle.shard_queue.specs.declared.lane.Entry.{Entry}
use Rattle.shard_queue.specs.declared.lane.Entry.TheVariants.{Item, End}
use Rattle.shard_queue.specs.declared.lane.Taken.{Taken}
use Rattle.shard_queue.specs.declared.lane.Taken.TheVariants as took_one
use Rattle.shard_queue.specs.Lane.{Lane, empty_lane, has_end, put, took, Puts, Takes}
use Rattle.shard_queue.specs.Plain.{Makes, MayPutMore, StandsForLane, before_taking, taken_entry}
use Rattle.shard_queue.specs.PlainLane.{PlainLane}
use Rattle.shard_queue.proofs.AtLaws.{at_cases}

live_more : {A : Type 0} (es : List (Entry A)) (s : ℕ) (x : A) → has_end (es ++ Item s x ∷ []) ≡ has_end es
live_more [] s x = refl
live_more (Item p y ∷ es) s x = live_more es s x
live_more (End p ∷ es) s x = refl

-- a lane that took an item
pub lane_put : {A : Type 0} (n room s : ℕ) (x : A) (l l2 : PlainLane A) (w : Lane A) → StandsForLane n room l w → l2 ≡ record { capacity = l.capacity; live = l.live; waiting = l.waiting ++ Item s x ∷ [] } → StandsForLane n room l2 (put w (Item s x))
lane_put n room s x l l2 w S e = rw e (record {
  capacity = S.capacity;
  producers = S.producers;
  waiting = ap (λ es. es ++ Item s x ∷ []) S.waiting;
  live = λ q d h. at_cases (λ es. has_end es ≡ not (get_or l.live q d)) w.sent s (w.sent s ++ Item s x ∷ []) q
      (λ same. live_more (w.sent s) s x ∙ (ap (λ i. has_end (w.sent i)) (sym same) ∙ S.live q d h)) (λ _. S.live q d h);
})

end_last : {A : Type 0} (es : List (Entry A)) (p : ℕ) → has_end (es ++ End p ∷ []) ≡ true
end_last [] p = refl
end_last (Item q x ∷ es) p = end_last es p
end_last (End q ∷ es) p = refl

-- a lane that took an end
pub lane_end : {A : Type 0} (n room p : ℕ) (l l2 : PlainLane A) (w : Lane A) → StandsForLane n room l w → l2 ≡ record { capacity = l.capacity; live = set l.live p false; waiting = l.waiting ++ End p ∷ [] } → StandsForLane n room l2 (put w (End p))
lane_end n room p l l2 w S e = rw e (record {
  capacity = S.capacity;
  producers = length-set l.live p false ∙ S.producers;
  waiting = ap (λ es. es ++ End p ∷ []) S.waiting;
  live = λ q d h.
      let lt : q < length l.live = omega (arith, h, length-set l.live p false) in
      at_cases (λ es. has_end es ≡ not (get_or (set l.live p false) q d)) w.sent p (w.sent p ++ End p ∷ []) q
      (λ same. end_last (w.sent p) p ∙ ap not (sym (ap (λ i. get_or (set l.live p false) i d) same ∙ get_or-set_same l.live p false d (omega (arith, lt, same)))))
      (λ other. S.live q d lt ∙ ap not (sym (get_or-set_other l.live p q false d other)));
})

-- a lane whose first entry was taken
pub lane_took : {A : Type 0} (n room : ℕ) (e : Entry A) (l l2 : PlainLane A) (w : Lane A) → StandsForLane n room l w → l ≡ record { capacity = l2.capacity; live = l2.live; waiting = e ∷ l2.waiting } → StandsForLane n room l2 (took w e l2.waiting)
lane_took n room e l l2 w S front = record {
  capacity = sym (ap (λ x. x.capacity) front) ∙ S.capacity;
  producers = sym (ap (λ x. length x.live) front) ∙ S.producers;
  waiting = refl;
  live = subst (λ xs. (p : ℕ) (d : Bool) → p < length xs → has_end (w.sent p) ≡ not (get_or xs p d)) (ap (λ x. x.live) front) S.live;
}

all_live : (n p : ℕ) (d : Bool) → p < length (replicate n true) → get_or (replicate n true) p d ≡ true
all_live zero p d h = absurd (omega (arith, h))
all_live (suc n) zero d h = refl
all_live (suc n) (suc p) d h = all_live n p d (omega (arith, h))

pub lane_new : {A : Type 0} (room producers : ℕ) (l : PlainLane A) → l ≡ record { capacity = room; live = replicate producers true; waiting = [] } → StandsForLane producers room l empty_lane
lane_new room producers l is = rw is (record {
  capacity = refl;
  producers = length-replicate producers true;
  waiting = refl;
  live = λ p d h. sym (ap not (all_live producers p d h));
})

-- ---- as moves

may_still : {A : Type 0} (n room p : ℕ) (l : PlainLane A) (w : Lane A) → StandsForLane n room l w → MayPutMore l.live p → (p < n) × (has_end (w.sent p) ≡ false)
may_still n room p l w S may = (omega (arith, S.producers, within l.live p may), S.live p false (within l.live p may) ∙ ap not may)
  where
    within : (xs : List Bool) (q : ℕ) → get_or xs q false ≡ true → q < length xs
    within [] q h = cc
    within (x ∷ xs) zero h = omega arith
    within (x ∷ xs) (suc q) h = let lt = within xs q h in omega (arith, lt)

pub put_makes : {A : Type 0} (p : ℕ) (x : A) (l l2 : PlainLane A) → MayPutMore l.live p → length l.waiting < l.capacity → l2 ≡ record { capacity = l.capacity; live = l.live; waiting = l.waiting ++ Item p x ∷ [] } → Makes l (Puts (Item p x)) l2
put_makes p x l l2 may room is n most w S =
    let m = may_still n most p l w S may in
    (put w (Item p x), (m.0, m.1, omega (arith, room, S.capacity, ap length S.waiting), refl), lane_put n most p x l l2 w S is)

pub end_makes : {A : Type 0} (p : ℕ) (l l2 : PlainLane A) → MayPutMore l.live p → length l.waiting < l.capacity → l2 ≡ record { capacity = l.capacity; live = set l.live p false; waiting = l.waiting ++ End p ∷ [] } → Makes l (Puts (End p)) l2
end_makes p l l2 may room is n most w S =
    let m = may_still n most p l w S may in
    (put w (End p), (m.0, m.1, omega (arith, room, S.capacity, ap length S.waiting), refl), lane_end n most p l l2 w S is)

pub take_makes : {A : Type 0} (t : Taken A) (l l2 : PlainLane A) → l ≡ record { capacity = l2.capacity; live = l2.live; waiting = before_taking t l2.waiting } → taken_entry t ≢ None → Makes l Takes l2
take_makes (took_one.Item p x) l l2 is some n most w S = (took w (Item p x) l2.waiting, (Item p x, l2.waiting, sym S.waiting ∙ ap (λ v. v.waiting) is, refl), lane_took n most (Item p x) l l2 w S is)
take_makes (took_one.End p) l l2 is some n most w S = (took w (End p) l2.waiting, (End p, l2.waiting, sym S.waiting ∙ ap (λ v. v.waiting) is, refl), lane_took n most (End p) l l2 w S is)
take_makes took_one.Empty l l2 is some n most w S = absurd (some refl)
