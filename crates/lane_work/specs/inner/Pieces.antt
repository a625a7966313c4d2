-- How far a connection came with one piece of what was read.
use Rattle.std.specs.Prelude.{◌≡◌, ◌⊎◌, ℕ, Bool, true, List, [], ◌++◌}
use Rattle.delivery_token.specs.declared.Job.{Job}
use Rattle.delivery_token.specs.declared.Verdict.{Verdict}
use Rattle.delivery_token.specs.declared.log.Noted.{Noted}
use Rattle.envelope.specs.Names.{Directory}
use Rattle.lmtp_machine.specs.declared.reply.Reply.{Reply}
use Rattle.lmtp_machine.specs.Conversation.{Conversation}
use Rattle.lmtp_machine.specs.Dialogue.{Setting, wire}
use Rattle.lmtp_machine.specs.LmtpMachine.{LmtpMachine}
use Rattle.shard_queue.specs.declared.lane.Entry.{Entry}
use Rattle.lane_work.specs.Talk.{Judged, HasTaken}
use Rattle.lane_work.specs.Account.{AreBooks, Room}
use Rattle.lane_work.specs.Speaking.{Stands}
use Rattle.lane_work.specs.declared.piece.Next.{Next}
use Rattle.lane_work.specs.declared.piece.Next.TheVariants as nexts

-- Of this piece, behind the bytes that came before it, the connection has taken the front: all of it, where the next bytes may be read and the
-- dialogue hasn't ended.
pub record TookPiece (directory : Directory) (rooms : List Room) (seat : ℕ) (done : List Judged) (bytes piece : List ℕ) (next : Next)
    (m : LmtpMachine) (out : List ℕ) (keeps : List (Job × Verdict) → Type 0) (heard : List (Entry Noted))
    (sent : List (List (Entry Job))) : Type 0 where
  pub taken : List ℕ
  pub left : List ℕ
  pub over : Bool
  pub whole : piece ≡ taken ++ left
  pub all : next ≡ nexts.Read → (left ≡ []) ⊎ (over ≡ true)
  pub stands : Stands directory directory rooms seat done (bytes ++ taken) over m out keeps heard sent

-- Memory was refused when the front of the piece had been taken; these are the replies to that, and what it submitted stands in the books.
pub record SaidByThen (setting : Setting) (host : List ℕ) (directory : Directory) (rooms : List Room) (seat : ℕ) (done : List Judged)
    (bytes piece out : List ℕ) (keeps : List (Job × Verdict) → Type 0) (heard : List (Entry Noted)) (sent : List (List (Entry Job))) : Type 0 where
  pub taken : List ℕ
  pub left : List ℕ
  pub said : List Reply
  pub judged : List Judged
  pub at : Conversation
  pub whole : piece ≡ taken ++ left
  pub talk : HasTaken setting directory (bytes ++ taken) said judged at
  pub replies : out ≡ wire host said
  pub books : AreBooks directory rooms seat (done ++ judged) keeps heard sent
