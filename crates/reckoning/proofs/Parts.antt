-- What the consumers promise of themselves, said of their parts in lists of their own, and elements by their positions.
use Rattle.std.proofs.Common.{◌≡◌, ◌<◌, ◌+◌, ◌∙◌, ℕ, zero, suc, true, List, [], ◌∷◌, All, Some, length, map, drop, slice_get, refl, sym, ap, subst, arith}
use Rattle.std.proofs.lemmas.List.Elements.{All-head, All-tail}
use Rattle.shard_queue.specs.Permits.{got}
use Rattle.lane_work.specs.declared.consumer.Consumed.{Consumed}
use Rattle.lane_work.specs.LanePermits as rows
use Rattle.lane_work.specs.ChannelPermits.{AreSenderEndedHands}
use Rattle.house_shared.specs.Crew.{AllAt}
use Rattle.house_shared.specs.declared.shared.HouseShared.{HouseShared}
use Rattle.house_shared.specs.Left.{IsServiceOf}

-- an element at each position below the end
pub some_at : {A : Type 0} (xs : List A) (n : ℕ) → n < length xs → (x : A) × (slice_get xs n ≡ Some x)
some_at [] n under = absurd (omega arith)
some_at (x ∷ xs) zero under = (x, refl)
some_at (x ∷ xs) (suc n) under = some_at xs n (omega arith)

-- what is left from a position on begins with the element there
pub from_here : {A : Type 0} (xs : List A) (n : ℕ) (x : A) → slice_get xs n ≡ Some x → drop n xs ≡ x ∷ drop (suc n) xs
from_here [] n x is = absurd (cc)
from_here (y ∷ xs) zero x is = cc
from_here (y ∷ xs) (suc n) x is = from_here xs n x is

-- nothing is left behind the end
pub past_all : {A : Type 0} (xs : List A) (n : ℕ) → length xs ≡ n → drop n xs ≡ []
past_all [] n is = let e : n ≡ 0 = omega (arith, is) in ap (λ k. drop k []) e
past_all (x ∷ xs) zero is = absurd (cc)
past_all (x ∷ xs) (suc n) is = past_all xs n (omega (arith, is))

module _ {B : Type 0} (shared : HouseShared B) where
  pub consumers_of : (n : ℕ) (cs : List (Consumed B)) → AllAt (IsServiceOf shared) n cs → n + length cs ≡ length shared.intake.lanes.items → rows.AreConsumers (drop n shared.intake.lanes.items) (map (λ c. c.permit) cs)
  consumers_of n [] all count = subst (λ qs. rows.AreConsumers qs []) (sym (past_all shared.intake.lanes.items n (omega (arith, count)))) tt
  consumers_of n (c ∷ cs) all count =
      let lane = some_at shared.intake.lanes.items n (omega (arith, count)) in
      subst (λ qs. rows.AreConsumers qs (c.permit ∷ map (λ d. d.permit) cs)) (sym (from_here shared.intake.lanes.items n lane.0 lane.1))
      ((all.0.each lane.0 lane.1).2.permit, consumers_of (suc n) cs all.1 (omega (arith, count)))

  pub sender_hands_of : (n : ℕ) (cs : List (Consumed B)) → AllAt (IsServiceOf shared) n cs → n + length cs ≡ length shared.intake.lanes.items → AreSenderEndedHands shared.delivery.channels.items n (map (λ c. c.senders.items) cs)
  sender_hands_of n [] all count = tt
  sender_hands_of n (c ∷ cs) all count =
      let lane = some_at shared.intake.lanes.items n (omega (arith, count)) in
      ((all.0.each lane.0 lane.1).2.senders, sender_hands_of (suc n) cs all.1 (omega (arith, count)))

  -- where each kept all that it took, that is what was taken
  pub taken_of : (n : ℕ) (cs : List (Consumed B)) → AllAt (IsServiceOf shared) n cs → n + length cs ≡ length shared.intake.lanes.items → All (λ c. c.kept ≡ true) cs
      → map (λ c. c.taken.items) cs ≡ map (λ c. got c.permit) cs
  taken_of n [] all count kept = refl
  taken_of n (c ∷ cs) all count kept =
      let lane = some_at shared.intake.lanes.items n (omega (arith, count)) in
      ap (λ xs. xs ∷ map (λ d. d.taken.items) cs) ((all.0.each lane.0 lane.1).2.kept (All-head (λ (d : Consumed B). d.kept ≡ true) c cs kept))
      ∙ ap (λ xss. got c.permit ∷ xss) (taken_of (suc n) cs all.1 (omega (arith, count)) (All-tail (λ (d : Consumed B). d.kept ≡ true) c cs kept))
