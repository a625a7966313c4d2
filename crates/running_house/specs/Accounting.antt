-- What a worker's account comes to, with no pieces and no turns in it.
use Rattle.std.specs.Prelude.{◌≡◌, ℕ, ◌<◌, List, [], Contains, length, slice_index_or}
use Rattle.delivery_token.specs.declared.Job.{Job}
use Rattle.delivery_token.specs.declared.Verdict.TheVariants.{Stored}
use Rattle.delivery_token.specs.declared.log.Noted.{Noted}
use Rattle.envelope.specs.Names.{shard_of}
use Rattle.lane_work.specs.Account.{Premises}
use Rattle.lane_work.specs.Talk.{Judged}
use Rattle.shard_queue.specs.declared.lane.Entry.{Entry}
use Rattle.shard_queue.specs.declared.lane.Entry.TheVariants.{Item}
use Rattle.running_house.specs.Conversing.{AreDialogues}
use Rattle.running_house.specs.Storing.{AreVerdicts, WasPut, WasSubmitted}

-- There are messages, with verdicts, that these connections submitted; the log tells of each of their copies once. What it tells as stored was put on
-- its mailbox's lane and heard, and what was put on a lane is one of those copies.
pub record AccountOfLines (house : Premises) (seat : ℕ) (connections replies : List (List ℕ)) (notes : List Noted) (heard : List (Entry Noted))
    (said : List (List (Entry Job))) : Type 0 where
  pub judged : List Judged
  pub dialogues : AreDialogues house seat connections replies judged
  pub verdicts : AreVerdicts judged notes
  pub stored : (noted : Noted) (uid lane : ℕ) → Contains notes noted → noted.verdict ≡ Stored uid → shard_of house.directory noted.mailbox ≡ lane
      → lane < length said
      → WasPut seat (slice_index_or said lane []) heard noted
  pub put : (lane p : ℕ) (copy : Job) → lane < length said → Contains (slice_index_or said lane []) (Item p copy)
      → (p ≡ seat) × WasSubmitted house.directory judged notes heard lane copy
