-- What bodies and proofs say besides: what each thread of a house leaves.
use Rattle.std.specs.Prelude.{◌≡◌, ℕ, List, Some, length, map}
use Rattle.std.specs.Mem.{manually_drop_value}
use Rattle.house_shared.specs.declared.shared.HouseShared.{HouseShared}
use Rattle.house_shared.specs.declared.shared.Guest.{Guest}
use Rattle.running_house.specs.declared.producers.Produces.{Produces}
use Rattle.running_house.specs.declared.producers.Spawned.{Spawned}
use Rattle.running_house.specs.declared.producers.Spawned.TheVariants.{There, Here}
use Rattle.running_house.specs.declared.consumers.Serves.{Serves}
use Rattle.running_house.specs.declared.consumers.Kept.{Kept}
use Rattle.running_house.specs.declared.consumers.Kept.TheVariants as kept
use Rattle.workers_sync.specs.Carried.{Carried}
use Rattle.imap_session.specs.Commands.{greeting}
use Rattle.imap_session.specs.declared.standing.Profile.TheVariants.{Standard}
use Rattle.session_thread.specs.Life.{Lives, Moment, greeted_at}
use Rattle.session_thread.specs.Locks.{LockedStore}
use Rattle.imap_session.specs.Folders.{folders_of}
use Rattle.delivery_token.specs.declared.log.Noted.{Noted}
use Rattle.lane_work.specs.declared.worker.Fate.TheVariants.{Whole}
use Rattle.lane_work.specs.declared.worker.Worked.{Worked}
use Rattle.lane_work.specs.Backing.{IsBackedBy}
use Rattle.lane_work.specs.Awaiting.{copies_in, verdicts_in}
use Rattle.lane_work.specs.Permits.{AreEnded}
use Rattle.lane_work.specs.Speaking.{premises_of}
use Rattle.shard_queue.specs.Reply.{ReplyChannel}
use Rattle.shard_queue.specs.Reply.{IsReceiver, received}
use Rattle.shard_queue.specs.Permits.{said}
use Rattle.house_shared.specs.Left.{IsServiceOf, most_of}
use Rattle.running_house.specs.Produced.{IsProduceOf, Plans, SessionAccount}

-- ---- promises

-- this promise is producer n's, consumer n's
abbrev pub IsProduces : {B : Type 0} → HouseShared B → Plans → List Guest → ℕ → Produces B → Type 0
IsProduces shared plans guests n p = (p.shared.now ≡ shared) × (p.plans.now ≡ plans) × (p.guests.now ≡ guests) × (p.number ≡ n)

abbrev pub IsServes : {B : Type 0} → HouseShared B → ℕ → Serves B → Type 0
IsServes shared n p = (p.shared.now ≡ shared) × (p.shard ≡ n)

-- its thread will leave what producer n is to leave, or that is there
abbrev pub IsSpawned : {B : Type 0} → HouseShared B → Plans → List Guest → ℕ → Spawned B → Type 0
IsSpawned shared plans guests n (There h) = IsProduces shared plans guests n h.promise
IsSpawned shared plans guests n (Here w) = IsProduceOf shared plans guests n (manually_drop_value w)

abbrev pub IsKept : {B : Type 0} → HouseShared B → ℕ → Kept B → Type 0
IsKept shared n (kept.There h) = IsServes shared n h.promise
IsKept shared n (kept.Here c) = IsServiceOf shared n (manually_drop_value c)

-- ---- a session

-- the session that had this selection, of a user with this name, lived through these steps, and said this
pub record HasLived {B : Type 0} (shared : HouseShared B) (user : List ℕ) (selection : LockedStore) (guest : Guest) (carried : List Carried)
    (text : List ℕ) : Type 0 where
  pub last : Moment
  pub lives : Lives shared.turns (greeted_at (Some (most_of shared.intake.max_message)) (folders_of shared.intake.directory user) selection
      (greeting Standard)) guest.steps.items carried last
  pub wrote : text ≡ last.text

-- What a session leaves: its ended permits are its own on each lane, its receiver is of its channel, and where it made all its steps, it heard as
-- many verdicts as it put copies, this is its account of them, and the history has what it put and heard.
abbrev pub IsAttended : {B : Type 0} → HouseShared B → ReplyChannel Noted → ℕ → Guest → Worked B → Type 0
IsAttended shared channel seat guest w =
    AreEnded shared.intake.lanes.items seat w.ended.items × IsReceiver channel w.receiver × (w.log.seat ≡ seat)
    × (w.fate ≡ Whole → verdicts_in (received w.receiver) ≡ copies_in (map said w.ended.items))
    × (w.fate ≡ Whole → SessionAccount (premises_of shared.intake) (length shared.delivery.mailboxes.items) shared.turns seat guest
    (map (λ b. b.items) w.replies.items) w.log.notes (received w.receiver) (map said w.ended.items))
    × (w.fate ≡ Whole → IsBackedBy seat w.dispatch (received w.receiver) (map said w.ended.items))
