-- What a report of a run says to those who sent mail.
use Rattle.std.specs.Prelude.{◌≡◌, ◌⊎◌, ◌+◌, ◌<◌, ℕ, None, [], length, Contains, slice_index_or}
use Rattle.delivery_token.specs.declared.CopyKey.{CopyKey}
use Rattle.running_house.specs.Lists.{IsEachThere}
use Rattle.settings.specs.Settings.{IsInRange}
use Rattle.running_house.specs.Agree.{Agrees, accepted_of, replies_of, texts_of}
use Rattle.running_house.specs.Plan.{connections_of, plan_fault, premises_for}
use Rattle.running_house.specs.declared.plan.Plan.{Plan}
use Rattle.running_house.specs.Report.{Report}
use Rattle.laws_relay.specs.Concluding.{RelaysConclude}
use Rattle.laws_relay.specs.AccountLaws.{ClosedHaveNothing}

-- a key of a session's messages: its seat is behind those of the workers
abbrev pub IsSessions : Plan → CopyKey → Type 0
IsSessions plan key = (n : ℕ) × (n < length plan.sessions.items) × (key.seat ≡ length plan.workers.items + n)

-- Whatever plan was run, for each worker and each of its connections: `connections_of` are the bytes that the plan has its peers send, `replies_of`
-- those that they were replied.
pub record ReportConcludes (plan : Plan) (r : Report) : Type 0 where
  pub workers : (w : ℕ) → w < length (connections_of plan)
      → RelaysConclude (premises_for plan).directory w (slice_index_or (connections_of plan) w []) (slice_index_or (replies_of r) w [])
      (accepted_of r) (texts_of r)
  -- nothing was accepted of a worker for a shard that it had closed by then
  pub closed : (w : ℕ) → w < length (connections_of plan) → ClosedHaveNothing (premises_for plan) w (accepted_of r)
  -- what else was accepted are messages that clients of sessions appended
  pub nobody_else : (mailbox uid : ℕ) (key : CopyKey) → Contains (slice_index_or (accepted_of r) mailbox []) (key, uid)
      → (key.seat < length (connections_of plan)) ⊎ IsSessions plan key
  -- where there were no sessions, who alone remove messages, there is a message of each copy that was accepted, in their order
  pub all_there : length plan.sessions.items ≡ 0 → (mailbox : ℕ) → mailbox < length (premises_for plan).directory.homes
      → IsEachThere (slice_index_or (accepted_of r) mailbox []) (slice_index_or (texts_of r) mailbox [])

-- So it is of each report that `run_house` gives: it asks for settings that are in range, and answers Ok only of a plan with nothing wrong, with a
-- report that agrees.
abbrev pub ReportsConclude : Type 0
ReportsConclude = (plan : Plan) (r : Report) → IsInRange plan.config → plan_fault plan ≡ None → Agrees plan r → ReportConcludes plan r
