-- What bodies and proofs say besides: what one worker's thread says: of its own permits, its own log and its own replies.
use Rattle.std.specs.Prelude.{ℕ, List}
use Rattle.delivery_token.specs.declared.Job.{Job}
use Rattle.delivery_token.specs.declared.Verdict.{Verdict}
use Rattle.delivery_token.specs.declared.log.Noted.{Noted}
use Rattle.shard_queue.specs.declared.lane.Entry.{Entry}
use Rattle.lane_work.specs.Talk.{Judged}
use Rattle.lane_work.specs.Account.{Premises, HaveTalked, AreBooks}

-- The same before the ends are put.
pub record HasServed (house : Premises) (seat : ℕ) (connections replies : List (List ℕ)) (keeps : List (Job × Verdict) → Type 0)
    (heard : List (Entry Noted)) (sent : List (List (Entry Job))) : Type 0 where
  pub judged : List Judged
  pub talked : HaveTalked house seat connections replies judged
  pub books : AreBooks house.directory house.rooms seat judged keeps heard sent
