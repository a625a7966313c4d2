-- What bodies and proofs say besides: whether a producer may put the copies of a message.
use Rattle.std.specs.Prelude.{◌≡◌, ℕ, false, List, All, slice_index_or}
use Rattle.envelope.specs.Names.{Directory, shard_of}
use Rattle.delivery_token.specs.declared.Job.{Job}
use Rattle.lane_work.specs.declared.desk.LanePermit.{LanePermit}
use Rattle.lane_work.specs.Permits.{overs}

-- the permits on the lanes of these mailboxes aren't over
abbrev pub AreOpenTo : Directory → (mailboxes : List ℕ) → List (LanePermit Job) → Type 0
AreOpenTo directory mailboxes permits = All (λ mailbox. slice_index_or (overs permits) (shard_of directory mailbox) false ≡ false) mailboxes
