-- How far a worker came with one connection.
use Rattle.std.specs.Prelude.{◌≡◌, ℕ, Bool, true, false, List, ◌++◌, map}
use Rattle.delivery_token.specs.declared.Job.{Job}
use Rattle.delivery_token.specs.declared.Verdict.{Verdict}
use Rattle.delivery_token.specs.declared.log.Noted.{Noted}
use Rattle.envelope.specs.Names.{Directory}
use Rattle.lmtp_machine.specs.declared.connection.What.{What}
use Rattle.lmtp_machine.specs.declared.connection.What.TheVariants.{More, Submit, Quit}
use Rattle.lmtp_machine.specs.declared.reply.Reply.{Reply}
use Rattle.lmtp_machine.specs.Conversation.{Conversation}
use Rattle.lmtp_machine.specs.Dialogue.{Ended, wire}
use Rattle.lmtp_machine.specs.LmtpMachine.{LmtpMachine, StandsFor}
use Rattle.shard_queue.specs.declared.lane.Entry.{Entry}
use Rattle.lane_work.specs.declared.desk.Intake.{Intake}
use Rattle.lane_work.specs.Talk.{Judged, HasTaken}
use Rattle.lane_work.specs.Account.{AreBooks, Premises, Room, rooms_of}

abbrev pub premises_of : {B : Type 0} → Intake B → Premises
premises_of intake = record {
  directory = intake.directory;
  rooms = rooms_of intake.lanes.items;
  host = intake.host.items;
  max_message = intake.max_message;
  closings = map (λ c. c.items) intake.closings.items;
}

abbrev pub is_quit : What → Bool
is_quit More = false
is_quit Submit = false
is_quit Quit = true

-- The connection has taken these bytes, by the producer's own directory; its replies are in `out`, and what it submitted stands in the books, behind
-- what was done before it.
pub record Stands (own directory : Directory) (rooms : List Room) (seat : ℕ) (done : List Judged) (bytes : List ℕ) (over : Bool) (m : LmtpMachine)
    (out : List ℕ) (keeps : List (Job × Verdict) → Type 0) (heard : List (Entry Noted)) (sent : List (List (Entry Job))) : Type 0 where
  pub said : List Reply
  pub judged : List Judged
  pub at : Conversation
  pub talk : HasTaken m.setting own bytes said judged at
  pub machine : StandsFor m at
  pub ended : over ≡ true → at.standing.phase ≡ Ended
  pub replies : out ≡ wire m.host said
  pub books : AreBooks directory rooms seat (done ++ judged) keeps heard sent
