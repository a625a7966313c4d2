-- What `open` and `run_threads` promise is what a run that came to nothing is abandoned by.
use Rattle.std.proofs.Common.{◌≡◌, ◌≤◌, ◌+◌, ℕ, suc, List, [], ◌∷◌, All, length, vec_len, arith}
use Rattle.std.proofs.lemmas.List.Elements.{All-cons, All-nil}
use Rattle.lane_work.proofs.RowLaws as lanes
use Rattle.shard_queue.specs.Permits as queues
use Rattle.shard_queue.specs.Reply as replies
use Rattle.lane_work.specs.declared.consumer.Consumed.{Consumed}
use Rattle.lane_work.specs.declared.worker.Worked.{Worked}
use Rattle.house_shared.specs.Crew.{AllAt, IsHouse}
use Rattle.house_shared.specs.declared.shared.HouseShared.{HouseShared}
use Rattle.house_shared.specs.declared.shared.Guest.{Guest}
use Rattle.house_shared.specs.Left.{IsServiceOf, IsSpendable}
use Rattle.running_house.specs.Produced.{IsProduceOf, Plans}
use Rattle.house_shared.specs.declared.left.Ran.{Ran}
use Rattle.reckoning.proofs.Parts.{some_at}

-- a producer that had its turn has left something of each of its permits
ended_lengths : {B : Type 0} (shared : HouseShared B) (plans : Plans) (guests : List Guest) (n : ℕ) (ws : List (Worked B)) → AllAt (IsProduceOf shared plans guests) n ws
    → All (λ (w : Worked B). vec_len w.ended ≡ length shared.intake.lanes.items) ws
ended_lengths shared plans guests n [] all = All-nil (λ (w : Worked _). vec_len w.ended ≡ length shared.intake.lanes.items)
ended_lengths shared plans guests n (w ∷ ws) all =
    let own = lanes.ended_hand_length queues.view queues.is_of shared.intake.lanes.items n w.ended.items all.0.ended in
    let o = w.ended.ok.0 in
    All-cons (λ (w : Worked _). vec_len w.ended ≡ length shared.intake.lanes.items) w ws (omega (arith, own, o)) (ended_lengths shared plans guests (suc n) ws all.1)

-- the same of a consumer
senders_lengths : {B : Type 0} (shared : HouseShared B) (n : ℕ) (cs : List (Consumed B)) → AllAt (IsServiceOf shared) n cs → n + length cs ≤ length shared.intake.lanes.items
    → All (λ (c : Consumed B). vec_len c.senders ≡ length shared.delivery.channels.items) cs
senders_lengths shared n [] all few = All-nil (λ (c : Consumed _). vec_len c.senders ≡ length shared.delivery.channels.items)
senders_lengths shared n (c ∷ cs) all few =
    let lane = some_at shared.intake.lanes.items n (omega (arith, few)) in
    let own = lanes.ended_hand_length replies.view replies.is_of shared.delivery.channels.items n c.senders.items (all.0.each lane.0 lane.1).2.senders in
    let o = c.senders.ok.0 in
    All-cons (λ (c : Consumed _). vec_len c.senders ≡ length shared.delivery.channels.items) c cs (omega (arith, own, o)) (senders_lengths shared (suc n) cs all.1 (omega (arith, few)))

-- The clauses of `abandon`, in their order, in a house with so many producers.
module _ {B : Type 0} (shared : HouseShared B) (producers : ℕ) (house : IsHouse shared producers) where
  pub worked_for : (plans : Plans) (guests : List Guest) (ran : Ran B) → AllAt (IsProduceOf shared plans guests) 0 ran.worked.items
      → All (λ (w : Worked B). vec_len w.ended ≡ length shared.intake.lanes.items) ran.worked.items
  worked_for plans guests ran all = ended_lengths shared plans guests 0 ran.worked.items all

  pub consumed_for : (ran : Ran B) → AllAt (IsServiceOf shared) 0 ran.consumed.items → IsSpendable shared producers ran
      → All (λ (c : Consumed B). vec_len c.senders ≡ length shared.delivery.channels.items) ran.consumed.items
  consumed_for ran all left =
      let each = left.each_lane in
      let o = ran.consumed.ok.0 in
      senders_lengths shared 0 ran.consumed.items all (omega (arith, each, o))
