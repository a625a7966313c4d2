-- What bodies and proofs say besides: what a report says of a run: how what the threads left agrees.
use Rattle.std.specs.Prelude.{◌≡◌, ◌<◌, ℕ, true, List, [], ◌∷◌, length, map, All, Vec}
use Rattle.std.specs.List.{list_all}
use Rattle.std.specs.Global.{Global}
use Rattle.shard_queue.specs.Reply.{senders_of}
use Rattle.shard_queue.specs.Permits.{capacity_of, history, producers_of}
use Rattle.lane_work.specs.Speaking.{premises_of}
use Rattle.mailbox.specs.declared.history.History.TheVariants.{Kept}
use Rattle.house_shared.specs.Crew.{IsHouse}
use Rattle.house_shared.specs.declared.shared.HouseShared.{HouseShared}
use Rattle.house_shared.specs.declared.opening.Sizes.{Sizes}
use Rattle.reckoning.specs.Shelves.{AreNumbered, AreToldOnce}
use Rattle.running_house.specs.inner.Begun.{begins_at}
use Rattle.running_house.specs.Plan.{premises_for, producers_in}
use Rattle.running_house.specs.declared.plan.Plan.{Plan}
use Rattle.running_house.specs.Report.{Report}

-- ---- the house

-- the sizes of this plan's house
pub record AreSizesFor (plan : Plan) (sizes : Sizes) : Type 0 where
  pub host : sizes.host.now ≡ plan.config.host.items
  pub max_message : sizes.max_message ≡ plan.config.max_message
  pub producers : sizes.producers ≡ producers_in plan
  pub depth : sizes.depth ≡ plan.config.depth
  pub ring : 0 < sizes.limits.ring
  -- what was accepted is compared, so it is kept
  pub history : sizes.history ≡ Kept
  pub turns : sizes.turns ≡ plan.turns
  pub closings : map (λ c. c.items) sizes.closings.now ≡ map (λ c. c.items) plan.closings.items

-- this is the shared state of this plan's house
pub record IsHouseSharedFor {B : Type 0} (plan : Plan) (shared : HouseShared B) : Type 0 where
  pub house : IsHouse shared (producers_in plan)
  pub premises : premises_of shared.intake ≡ premises_for plan
  pub mailboxes : length shared.delivery.mailboxes.items ≡ length (premises_for plan).directory.homes
  pub turns : shared.turns ≡ plan.turns
  pub lanes : All (λ q. (capacity_of q ≡ plan.config.depth) × (producers_of q ≡ producers_in plan)) shared.intake.lanes.items
  pub channels : All (λ c. senders_of c ≡ plan.config.shards) shared.delivery.channels.items

-- ---- what the sessions said

-- these are the texts of those that said one
abbrev pub AreTexts : List (Vec (Vec ℕ Global) Global) → List (Vec ℕ Global) → Type 0
AreTexts [] [] = Unit {0}
AreTexts [] (t ∷ ts) = ⊥
AreTexts (s ∷ ss) [] = ⊥
AreTexts (s ∷ ss) (t ∷ ts) = ((text : Vec ℕ Global) → s.items ≡ text ∷ [] → t ≡ text) × AreTexts ss ts

-- ---- what the mailboxes hold

-- what each accepted is numbered from this UID on, and what is there is told once
pub record IsNumbered (first : ℕ) (r : Report) : Type 0 where
  pub accepted : All (λ v. AreNumbered v.items) r.accepted.items
  pub begins : list_all (λ v. begins_at first v.items) r.accepted.items ≡ true
  pub once : All (λ v. AreToldOnce v.items) r.texts.items
