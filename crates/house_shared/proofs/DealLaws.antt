-- What is dealt, as a property of each one's number.
use Rattle.std.proofs.Common.{◌≡◌, ◌+◌, ◌∙◌, ℕ, suc, ap, sym, subst, Vec, Global, List, [], ◌∷◌, Some, All, map, slice_get, arith}
use Rattle.delivery_token.specs.declared.Job.{Job}
use Rattle.delivery_token.specs.declared.log.Noted.{Noted}
use Rattle.shard_queue.specs.Permits.{ShardQueue}
use Rattle.lane_work.specs.declared.desk.LanePermit.{LanePermit}
use Rattle.shard_queue.specs.Reply.{ReplyChannel, SenderPermit, sent_on}
use Rattle.shard_queue.specs.declared.shared.View.{View}
use Rattle.shard_queue.specs.declared.permits.SharedLane.{SharedLane}
use Rattle.shard_queue.specs.declared.permits.ConsumersPermit.{ConsumersPermit}
use Rattle.shard_queue.specs.SharedLane.{IsConsumersPermit}
use Rattle.lane_work.specs.SharedLanes.{AreConsumers}
use Rattle.lane_work.proofs.PermitLaws.{new_permits, new_senders}
use Rattle.lane_work.specs.Permits.{ArePermits, AreSenders, IsNew}
use Rattle.lane_work.specs.LanePermits.{AreHands}
use Rattle.lane_work.specs.ChannelPermits.{AreSenderHands}
use Rattle.house_shared.specs.Crew.{AllAt}

-- a producer's permits on all lanes, which have put nothing
abbrev pub IsHand : List (ShardQueue Job) → ℕ → Vec (LanePermit Job) Global → Type 0
IsHand lanes n v = ArePermits lanes n v.items × All IsNew v.items

-- a consumer's on all channels, which have sent nothing
abbrev pub IsSenderHand : List (ReplyChannel Noted) → ℕ → Vec (SenderPermit Noted) Global → Type 0
IsSenderHand channels n v = AreSenders channels n v.items × All (λ s. sent_on s ≡ []) v.items

-- the end of the lane at this position
abbrev pub IsConsumerAt : {T C P : Type 0} → (P → View T) → (C → P → Type 0) → List (SharedLane C) → ℕ → ConsumersPermit P → Type 0
IsConsumerAt {C = C} view is_of lanes n permit = (lane : SharedLane C) → slice_get lanes n ≡ Some lane → IsConsumersPermit view is_of lane permit

pub hands_at : (lanes : List (ShardQueue Job)) (n : ℕ) (vs : List (Vec (LanePermit Job) Global)) → AreHands lanes n (map (λ v. v.items) vs) → AllAt (IsHand lanes) n vs
hands_at lanes n [] h = tt
hands_at lanes n (v ∷ vs) h = (new_permits lanes n v.items h.0, hands_at lanes (suc n) vs h.1)

pub sender_hands_at : (channels : List (ReplyChannel Noted)) (n : ℕ) (vs : List (Vec (SenderPermit Noted) Global)) → AreSenderHands channels n (map (λ v. v.items) vs) → AllAt (IsSenderHand channels) n vs
sender_hands_at channels n [] h = tt
sender_hands_at channels n (v ∷ vs) h = (new_senders channels n v.items h.0, sender_hands_at channels (suc n) vs h.1)

-- these are what stands in all from position n on
abbrev pub IsRest : {A : Type 0} → List A → ℕ → List A → Type 0
IsRest {A} all n xs = (i : ℕ) → slice_get all (n + i) ≡ slice_get xs i

module _ {A : Type 0} where
  head_of : (all : List A) (n : ℕ) (x : A) (xs : List A) → IsRest all n (x ∷ xs) → slice_get all n ≡ Some x
  head_of all n x xs rest = let e : n + 0 ≡ n = omega arith in sym (ap (slice_get all) e) ∙ rest 0

  tail_of : (all : List A) (n : ℕ) (x : A) (xs : List A) → IsRest all n (x ∷ xs) → IsRest all (suc n) xs
  tail_of all n x xs rest i = let e : suc n + i ≡ n + suc i = omega arith in ap (slice_get all) e ∙ rest (suc i)

  -- what is at a position is that value
  same_at : (all : List A) (n : ℕ) (x y : A) → slice_get all n ≡ Some x → slice_get all n ≡ Some y → x ≡ y
  same_at all n x y here there = let e : Some x ≡ Some y = sym here ∙ there in cc

  pub all_rest : (all : List A) → IsRest all 0 all
  all_rest all i = let e : 0 + i ≡ i = omega arith in ap (slice_get all) e

pub consumers_at : {T C P : Type 0} (view : P → View T) (is_of : C → P → Type 0) (all : List (SharedLane C)) (n : ℕ) (ls : List (SharedLane C)) (ss : List (ConsumersPermit P))
    → IsRest all n ls → AreConsumers view is_of ls ss → AllAt (IsConsumerAt view is_of all) n ss
consumers_at view is_of all n [] [] rest h = tt
consumers_at view is_of all n [] (s ∷ ss) rest h = absurd h
consumers_at view is_of all n (l ∷ ls) [] rest h = tt
consumers_at view is_of all n (l ∷ ls) (s ∷ ss) rest h =
    ((λ lane e. subst (λ q. IsConsumersPermit view is_of q s) (same_at all n l lane (head_of all n l ls rest) e) h.0), consumers_at view is_of all (suc n) ls ss (tail_of all n l ls rest) h.1)
