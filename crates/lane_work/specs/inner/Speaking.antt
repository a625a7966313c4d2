-- What bodies and proofs say besides: how far a worker came with one connection.
use Rattle.std.specs.Prelude.{◌≡◌, ℕ, List, ◌++◌}
use Rattle.delivery_token.specs.declared.Job.{Job}
use Rattle.delivery_token.specs.declared.Verdict.{Verdict}
use Rattle.delivery_token.specs.declared.log.Noted.{Noted}
use Rattle.envelope.specs.Names.{Directory}
use Rattle.lmtp_machine.specs.declared.reply.Reply.{Reply}
use Rattle.lmtp_machine.specs.Dialogue.{Setting, wire}
use Rattle.shard_queue.specs.declared.lane.Entry.{Entry}
use Rattle.lane_work.specs.Talk.{Judged, WholeTalk}
use Rattle.lane_work.specs.Account.{AreBooks, Room}

-- The connection is over: all that its peer sent was taken, or the dialogue ended before.
pub record Spoke (own directory : Directory) (rooms : List Room) (seat : ℕ) (done : List Judged) (bytes : List ℕ) (setting : Setting)
    (host out : List ℕ) (keeps : List (Job × Verdict) → Type 0) (heard : List (Entry Noted)) (sent : List (List (Entry Job))) : Type 0 where
  pub said : List Reply
  pub judged : List Judged
  pub talk : WholeTalk setting own bytes said judged
  pub replies : out ≡ wire host said
  pub books : AreBooks directory rooms seat (done ++ judged) keeps heard sent
