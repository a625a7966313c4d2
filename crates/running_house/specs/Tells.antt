-- What a report says of each worker, and of every producer's copies: of each that was stored and of each that was taken.
use Rattle.std.specs.Prelude.{◌≡◌, ℕ, ◌<◌, [], length, map, slice_index_or, Contains}
use Rattle.delivery_token.specs.declared.Job.{Job}
use Rattle.delivery_token.specs.declared.Verdict.TheVariants.{Stored}
use Rattle.delivery_token.specs.declared.log.Noted.{Noted}
use Rattle.envelope.specs.Names.{shard_of}
use Rattle.shard_queue.specs.declared.lane.Entry.TheVariants.{Item}
use Rattle.shard_queue.specs.Lane.{of}
use Rattle.running_house.specs.Accounting.{AccountOfLines}
use Rattle.running_house.specs.Agree.{Agrees, accepted_of, answers, histories, notes_of, replies_of}
use Rattle.running_house.specs.Plan.{connections_of, premises_for, producers_in}
use Rattle.running_house.specs.declared.plan.Plan.{Plan}
use Rattle.running_house.specs.Report.{Report}

-- worker p's account: its connections by the whole lines of their whole strings, what its log has of their messages, and what was taken of it from
-- each lane
abbrev pub AccountOf : Plan → Report → ℕ → Type 0
AccountOf plan r p =
    AccountOfLines (premises_for plan) p (slice_index_or (connections_of plan) p []) (slice_index_or (replies_of r) p [])
    (slice_index_or (notes_of r) p [])
    (slice_index_or (answers r) p []) (map (of p) (histories r))

-- A copy that producer p's log has as stored was taken from its mailbox's lane, and its mailbox accepted it, under that UID.
pub record IsStored (plan : Plan) (r : Report) (p : ℕ) (noted : Noted) (uid : ℕ) : Type 0 where
  pub copy : Job
  pub same_key : copy.key ≡ noted.key
  pub same_mailbox : copy.mailbox ≡ noted.mailbox
  pub taken : Contains (slice_index_or (histories r) (shard_of (premises_for plan).directory noted.mailbox) []) (Item p copy)
  pub accepted : Contains (slice_index_or (accepted_of r) noted.mailbox []) (noted.key, uid)

-- ---- laws

abbrev pub AccountsAreOfLines : Type 0
AccountsAreOfLines = (plan : Plan) (r : Report) → Agrees plan r → (p : ℕ) → p < length (connections_of plan) → AccountOf plan r p

-- the same of a worker and of a session
abbrev pub StoredWasAccepted : Type 0
StoredWasAccepted = (plan : Plan) (r : Report) → Agrees plan r → 0 < plan.config.shards → (p : ℕ) → p < producers_in plan
    → (noted : Noted) (uid : ℕ) → Contains (slice_index_or (notes_of r) p []) noted → noted.verdict ≡ Stored uid
    → noted.mailbox < length (premises_for plan).directory.homes
    → IsStored plan r p noted uid

-- what was taken from a lane is a producer's, and the producer's account has it among what it said there
abbrev pub TakenIsAProducers : Type 0
TakenIsAProducers = (plan : Plan) (r : Report) → Agrees plan r → (lane p : ℕ) (copy : Job) → lane < length (histories r)
    → Contains (slice_index_or (histories r) lane []) (Item p copy)
    → (p < producers_in plan) × Contains (slice_index_or (map (of p) (histories r)) lane []) (Item p copy)
