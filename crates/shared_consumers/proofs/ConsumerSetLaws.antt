-- Shared consumers in a row.
use Rattle.std.proofs.Common.{◌≡◌, ◌≢◌, ◌⊎◌, inl, inr, ◌<◌, ◌+◌, ◌++◌, ℕ, suc, Bool, true, false, ◌&&◌, eqb, sym, subst, List, [], ◌∷◌, All, length, drop, map, slice_get, Some, zero, ap, refl, arith}
use Rattle.std.proofs.lemmas.Bool.Decides.{eqb_tells}
use Rattle.std.proofs.lemmas.List.Elements.{All-append}
use Rattle.delivery_token.specs.declared.Job.{Job}
use Rattle.shard_queue.specs.Permits.{ShardQueue}
use Rattle.lane_work.specs.LanePermits.{AreConsumers}
use Rattle.lane_work.specs.ChannelPermits.{AreSenderEndedHands}
use Rattle.lane_work.specs.declared.consumer.Consumed.{Consumed}
use Rattle.lane_work.specs.declared.consumer.Delivery.{Delivery}
use Rattle.house_shared.specs.Crew.{AllAt}
use Rattle.shared_consumers.specs.ConsumerSet.{IsService}

-- one more that has a property
pub one_more : {A : Type 0} (P : A → Type 0) (xs new : List A) (x : A) → new ≡ xs ++ x ∷ [] → All P xs → All P (x ∷ []) → All P new
one_more P xs new x is all here = subst (All P) (sym is) (All-append P xs (x ∷ []) all here)

-- all were in order, and this one is
pub in_order : (was : Bool) (n position : ℕ) → (was && eqb n position) ≡ true → (was ≡ true) × (n ≡ position)
in_order true n position so = (refl, go (eqb_tells n position)) where
  go : ((eqb n position ≡ true) × (n ≡ position)) ⊎ ((eqb n position ≡ false) × (n ≢ position)) → n ≡ position
  go (inl (yes_it, same)) = same
  go (inr (not_it, other)) = absurd (cc (so, not_it))
in_order false n position so = absurd (cc so)

-- an element at each position below the end
some_at : {A : Type 0} (xs : List A) (n : ℕ) → n < length xs → (x : A) × (slice_get xs n ≡ Some x)
some_at [] n under = absurd (omega arith)
some_at (x ∷ xs) zero under = (x, refl)
some_at (x ∷ xs) (suc n) under = some_at xs n (omega arith)

-- what is left from a position on begins with the element there
from_here : {A : Type 0} (xs : List A) (n : ℕ) (x : A) → slice_get xs n ≡ Some x → drop n xs ≡ x ∷ drop (suc n) xs
from_here [] n x is = absurd (cc)
from_here (y ∷ xs) zero x is = cc
from_here (y ∷ xs) (suc n) x is = from_here xs n x is

-- nothing is left behind the end
past_all : {A : Type 0} (xs : List A) (n : ℕ) → length xs ≡ n → drop n xs ≡ []
past_all [] n is = let e : n ≡ 0 = omega (arith, is) in ap (λ k. drop k []) e
past_all (x ∷ xs) zero is = absurd (cc)
past_all (x ∷ xs) (suc n) is = past_all xs n (omega (arith, is))

-- what all shared consumers left, said of their parts
module _ {B : Type 0} (lanes : List (ShardQueue Job)) (delivery : Delivery B) where
  pub consumers_of : (n : ℕ) (cs : List (Consumed B)) → AllAt (IsService lanes delivery) n cs → n + length cs ≡ length lanes → AreConsumers (drop n lanes) (map (λ c. c.permit) cs)
  consumers_of n [] all count = subst (λ qs. AreConsumers qs []) (sym (past_all lanes n (omega (arith, count)))) tt
  consumers_of n (c ∷ cs) all count =
      let lane = some_at lanes n (omega (arith, count)) in
      subst (λ qs. AreConsumers qs (c.permit ∷ map (λ d. d.permit) cs)) (sym (from_here lanes n lane.0 lane.1))
      ((all.0.each lane.0 lane.1).permit, consumers_of (suc n) cs all.1 (omega (arith, count)))

  pub sender_hands_of : (n : ℕ) (cs : List (Consumed B)) → AllAt (IsService lanes delivery) n cs → n + length cs ≡ length lanes → AreSenderEndedHands delivery.channels.items n (map (λ c. c.senders.items) cs)
  sender_hands_of n [] all count = tt
  sender_hands_of n (c ∷ cs) all count =
      let lane = some_at lanes n (omega (arith, count)) in
      ((all.0.each lane.0 lane.1).senders, sender_hands_of (suc n) cs all.1 (omega (arith, count)))
