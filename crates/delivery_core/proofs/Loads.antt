-- How much less is left to do after each call.
use Rattle.std.proofs.Common.{◌≡◌, ℕ, zero, suc, ◌+◌, ◌<◌, Bool, true, false, List, [], ◌∷◌, ◌++◌, length, map, get_or, set, ap, arith, Some}
use Rattle.std.specs.Prelude.{option_map, sum_by}
use Rattle.std.proofs.lemmas.List.{length-map, map-set}
use Rattle.std.proofs.lemmas.List.Sums.{sum_by-append, sum_by-cons, sum_by-set}
use Rattle.delivery_token.specs.declared.Job.{Job}
use Rattle.delivery_token.specs.declared.Refusal.{Refusal}
use Rattle.shard_queue.specs.Plain.{before_taking, taken_entry}
use Rattle.shard_queue.specs.PlainLane.{PlainLane}
use Rattle.shard_queue.specs.declared.lane.Entry.TheVariants.{Item, End}
use Rattle.shard_queue.specs.declared.lane.Taken.{Taken}
use Rattle.shard_queue.specs.declared.lane.Taken.TheVariants as took_one
use Rattle.world.specs.declared.hand.Hand.{Hand}
use Rattle.world.specs.World.{in_hand}
use Rattle.delivery_core.specs.Load.{end_load, entry_load, hand_load, lane_load}
use Rattle.delivery_core.specs.inner.Puts.{LanePuts, joins, has_no_room, has_no_memory, is_over}
use Rattle.delivery_core.proofs.Groups.{read_at}

-- one group is changed, and the sum changes by what it counts for
pub sum_changes : {A B : Type 0} (f : B → ℕ) (g : A → B) (xs : List A) (i : ℕ) (x y : A) → i < length xs → x ≡ get_or xs i x
    → sum_by f (map g (set xs i y)) + f (g x) ≡ sum_by f (map g xs) + f (g y)
sum_changes f g xs i x y within there =
    let all : sum_by f (set (map g xs) i (g y)) + f (get_or (map g xs) i (g x)) ≡ sum_by f (map g xs) + f (g y) = sum_by-set f (map g xs) i (g y) (g x) (omega (arith, within, length-map xs g)) in
    omega (arith, all, ap (sum_by f) (map-set g xs i y), ap f (read_at g xs i x there))

-- an entry went from the lane into the hand
pub take_less : (t : Taken Job) (l l2 : PlainLane Job) (hand : Hand) → l ≡ record { capacity = l2.capacity; live = l2.live; waiting = before_taking t l2.waiting }
    → Some hand ≡ option_map in_hand (taken_entry t) → lane_load l2 + hand_load hand < lane_load l
take_less (took_one.Item p x) l l2 hand was is = let load : hand_load hand ≡ 3 = cc in omega (arith, load, ap lane_load was, sum_by-cons entry_load (Item p x) l2.waiting)
take_less (took_one.End p) l l2 hand was is = let load : hand_load hand ≡ 0 = cc in omega (arith, load, ap lane_load was, sum_by-cons entry_load (End p) l2.waiting)
take_less took_one.Empty l l2 hand was is = absurd (cc)

-- a seat's end went into the lane
pub end_less : (p : ℕ) (l l2 : PlainLane Job) → get_or l.live p false ≡ true → l2 ≡ record { capacity = l.capacity; live = set l.live p false; waiting = l.waiting ++ End p ∷ [] } → lane_load l2 < lane_load l
end_less p l l2 live is =
    let there : p < length l.live = at_true l.live p live in
    let entries = sum_by-append entry_load l.waiting (End p ∷ []) in
    let ends = sum_by-set end_load l.live p false false there in
    omega (arith, ap lane_load is, entries, ends, ap end_load live)
  where
    at_true : (xs : List Bool) (i : ℕ) → get_or xs i false ≡ true → i < length xs
    at_true [] i e = absurd (cc)
    at_true (x ∷ xs) zero e = omega arith
    at_true (x ∷ xs) (suc i) e = let more = at_true xs i e in omega (arith, more)

-- a lane that refused a copy is as it was
pub refused_same : (l l2 : PlainLane Job) (p : ℕ) (c : Job) (why : Refusal) → LanePuts l p c l2 (Some why) → l2 ≡ l
refused_same l l2 p c why (joins live room e put_it) = absurd (cc)
refused_same l l2 p c why (has_no_room live full e same) = same
refused_same l l2 p c why (has_no_memory live room e same) = same
refused_same l l2 p c why (is_over over e same) = same
