-- The shared state of a plan's house.
use Rattle.std.proofs.Common.{map, ◌≡◌, ◌+◌, ◌∙◌, ℕ, List, [], ◌∷◌, All, replicate, length, refl, sym, ap, ap₂, subst}
use Rattle.std.proofs.lemmas.List.Elements.{All-head, All-tail, All-weaker}
use Rattle.settings.specs.Settings.{directory_for}
use Rattle.delivery_token.specs.declared.Job.{Job}
use Rattle.envelope.specs.Names.{Directory}
use Rattle.shard_queue.specs.Reply.{ReplyChannel, senders_of}
use Rattle.delivery_token.specs.declared.log.Noted.{Noted}
use Rattle.shard_queue.specs.Permits.{ShardQueue, capacity_of, producers_of}
use Rattle.lane_work.specs.Account.{Premises, Room, rooms_of}
use Rattle.house_shared.specs.Crew.{IsHouse}
use Rattle.house_shared.specs.Opening.{IsHouseShared}
use Rattle.house_shared.specs.declared.shared.HouseShared.{HouseShared}
use Rattle.house_shared.specs.declared.shared.Guest.{Guest}
use Rattle.house_shared.specs.declared.opening.Sizes.{Sizes}
use Rattle.running_house.specs.Produced.{Plans}
use Rattle.running_house.specs.inner.Agree.{AreSizesFor, IsHouseSharedFor}
use Rattle.running_house.specs.Plan.{premises_for, producers_in}
use Rattle.running_house.specs.declared.plan.Plan.{Plan}

-- lanes of one size have rooms of one size
pub same_rooms : (depth producers : ℕ) (qs : List (ShardQueue Job)) → All (λ q. (capacity_of q ≡ depth) × (producers_of q ≡ producers)) qs
    → rooms_of qs ≡ replicate (length qs) (record { producers = producers; capacity = depth })
same_rooms depth producers [] all = refl
same_rooms depth producers (q ∷ qs) all =
    let here = All-head (λ (x : ShardQueue Job). (capacity_of x ≡ depth) × (producers_of x ≡ producers)) q qs all in
    let rest = same_rooms depth producers qs (All-tail (λ (x : ShardQueue Job). (capacity_of x ≡ depth) × (producers_of x ≡ producers)) q qs all) in
    ap₂ (λ (room : Room) (rooms : List Room). room ∷ rooms)
    (ap (λ n. let r : Room = record { producers = n; capacity = capacity_of q } in r) here.1 ∙ ap (λ n. let r : Room = record { producers = producers; capacity = n } in r) here.0) rest

pub shared_for : {B : Type 0} (plan : Plan) (directory : Directory) (sizes : Sizes) (shared : HouseShared B) → directory ≡ directory_for plan.config → AreSizesFor plan sizes → IsHouseShared directory sizes shared → IsHouseSharedFor plan shared
shared_for plan directory sizes shared same are is =
    let as_large = All-weaker (λ (q : ShardQueue Job). (capacity_of q ≡ sizes.depth) × (producers_of q ≡ sizes.producers)) (λ q. (capacity_of q ≡ plan.config.depth) × (producers_of q ≡ producers_in plan))
    (λ q h. (h.0 ∙ are.depth, h.1 ∙ are.producers)) shared.intake.lanes.items is.lanes in
    let shards : directory.shards ≡ plan.config.shards = ap (λ d. d.shards) same in
    let many : length shared.intake.lanes.items ≡ plan.config.shards = sym is.house.shards ∙ ap (λ d. d.shards) is.is ∙ shards in
    let rooms : rooms_of shared.intake.lanes.items ≡ replicate plan.config.shards (record { producers = producers_in plan; capacity = plan.config.depth }) =
    same_rooms plan.config.depth (producers_in plan) shared.intake.lanes.items as_large
    ∙ ap (λ n. let rs : List Room = replicate n (record { producers = producers_in plan; capacity = plan.config.depth }) in rs) many in
    let shut = map (λ c. c.items) shared.intake.closings.items in
    record {
      house = subst (IsHouse shared) are.producers is.house;
      premises =
          ap (λ d. let h : Premises = record { directory = d; rooms = rooms_of shared.intake.lanes.items; host = shared.intake.host.items; max_message = shared.intake.max_message; closings = shut } in h) (is.is ∙ same)
          ∙ ap (λ rs. let h : Premises = record { directory = directory_for plan.config; rooms = rs; host = shared.intake.host.items; max_message = shared.intake.max_message; closings = shut } in h) rooms
          ∙ ap (λ bs. let h : Premises = record { directory = directory_for plan.config; rooms = (premises_for plan).rooms; host = bs; max_message = shared.intake.max_message; closings = shut } in h) (is.host ∙ are.host)
          ∙ ap (λ n. let h : Premises = record { directory = directory_for plan.config; rooms = (premises_for plan).rooms; host = plan.config.host.items; max_message = n; closings = shut } in h) (is.max_message ∙ are.max_message)
          ∙ ap (λ cs. let h : Premises = record { directory = directory_for plan.config; rooms = (premises_for plan).rooms; host = plan.config.host.items; max_message = plan.config.max_message; closings = cs } in h) (is.closings ∙ are.closings);
      mailboxes = is.mailboxes ∙ ap (λ d. length d.homes) same;
      turns = is.turns ∙ are.turns;
      lanes = as_large;
      channels = All-weaker (λ (c : ReplyChannel Noted). senders_of c ≡ directory.shards) (λ c. senders_of c ≡ plan.config.shards)
          (λ c h. h ∙ shards) shared.delivery.channels.items is.channels;
    }

-- it has as many producers as there are of these
pub house_of : {B : Type 0} (plan : Plan) (shared : HouseShared B) → IsHouseSharedFor plan shared → (plans : Plans) (guests : List Guest) → plans ≡ plan.workers.items → guests ≡ plan.sessions.items → IsHouse shared (length plans + length guests)
house_of plan shared is plans guests same as_well = subst (λ n. IsHouse shared (n + length guests)) (sym (ap length same)) (subst (λ n. IsHouse shared (length plan.workers.items + n)) (sym (ap length as_well)) is.house)
