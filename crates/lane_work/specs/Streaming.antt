-- One connection over a reader and a sink: what it comes to, and what was sent by then.
use Rattle.std.specs.Prelude.{◌≡◌, ◌≢◌, ◌⊎◌, ℕ, ◌<◌, Bool, true, false, List, [], ◌∷◌, ◌++◌, length, take, Option, Result, Ok, Err}
use Rattle.std.specs.Io.KnownBytes.{Appends, Consumes, IsAtEnd}
use Rattle.delivery_token.specs.declared.Job.{Job}
use Rattle.delivery_token.specs.declared.Verdict.{Verdict}
use Rattle.delivery_token.specs.declared.log.Noted.{Noted}
use Rattle.lmtp_machine.specs.declared.reply.Reply.{Reply}
use Rattle.lmtp_machine.specs.Conversation.{Conversation}
use Rattle.lmtp_machine.specs.Dialogue.{Phase, Ended, Setting, wire}
use Rattle.shard_queue.specs.declared.lane.Entry.{Entry}
use Rattle.lane_work.specs.Talk.{Judged, HasTaken, last_words}
use Rattle.lane_work.specs.Account.{AreBooks, Premises}
use Rattle.lane_work.specs.declared.outcome.Ending.{Ending}
use Rattle.lane_work.specs.declared.outcome.Ending.TheVariants.{Quit, Gone, Stopped}
use Rattle.lane_work.specs.declared.outcome.TalkFault.{TalkFault}
use Rattle.lane_work.specs.declared.outcome.TalkFault.TheVariants.{Read, Write, NoMemory, Torn}

-- What a sink has taken before and after, where it tells that, and whether it has failed then.
module _ (before after : Option (List ℕ)) (failed : Bool) where
  -- it took all these bytes
  abbrev pub AreSent : List ℕ → Type 0
  AreSent bytes = (failed ≡ false) × Appends before after bytes

  -- it failed when it had taken the front of these bytes, and not all
  abbrev pub AreCutShort : List ℕ → Type 0
  AreCutShort bytes = (failed ≡ true) × (n : ℕ) × (n < length bytes) × Appends before after (take n bytes)

  -- they were offered to it: it took all, or failed
  abbrev pub AreGivenUp : List ℕ → Type 0
  AreGivenUp bytes = AreSent bytes ⊎ AreCutShort bytes

  -- What is said last was sent behind what was said before, or it was not for the sink's failure or for want of memory.
  abbrev pub SaysLast : (host out : List ℕ) → Phase → Result Ending TalkFault → Type 0
  SaysLast host out phase (Ok Quit) = ⊥
  SaysLast host out phase (Ok Gone) = ⊥
  SaysLast host out phase (Ok Stopped) = AreSent (out ++ wire host (last_words phase))
  SaysLast host out phase (Err Read) = ⊥
  SaysLast host out phase (Err Write) = AreCutShort (out ++ wire host (last_words phase))
  SaysLast host out phase (Err NoMemory) = AreGivenUp out
  SaysLast host out phase (Err Torn) = ⊥

  module _ (host : List ℕ) (rest : Option (List ℕ)) (came dropped : List ℕ) where
    -- How a connection ended that has said these replies and stands in this phase: what of it was sent, and whether anything that came was dropped.
    -- `rest` is what the reader has left, where it tells that.
    abbrev pub EndsBy : (said : List Reply) → Phase → Result Ending TalkFault → Type 0
    EndsBy said phase (Ok Quit) = (phase ≡ Ended) × AreSent (wire host said)
    EndsBy said phase (Ok Gone) = (phase ≢ Ended) × (dropped ≡ []) × IsAtEnd rest × AreSent (wire host said)
    EndsBy said phase (Ok Stopped) = AreSent (wire host (said ++ last_words phase))
    EndsBy said phase (Err Read) = (phase ≢ Ended) × (dropped ≡ []) × AreSent (wire host said)
    EndsBy said phase (Err Write) = AreCutShort (wire host said) ⊎ AreCutShort (wire host (said ++ last_words phase))
    -- what was said by then was offered; or memory was refused before it was greeted
    EndsBy said phase (Err NoMemory) = AreGivenUp (wire host said) ⊎ ((came ≡ []) × AreSent [])
    -- of what was read last nothing counts as taken, and of its replies nothing was sent
    EndsBy said phase (Err Torn) = AreSent (wire host said)

-- A connection of this serial, behind these messages of its seat, whose input and output went on so.
module _ (house : Premises) (setting : Setting) (seat : ℕ) (done : List Judged) (stream rest before after : Option (List ℕ)) (failed : Bool) where
  -- A connection was played over a stream, whose reader had these bytes before and has those left, where it tells them. The front of what came was
  -- taken; that is a conversation of this setting, its replies were sent as far as `ends` says, and what it submitted stands in the books, behind
  -- what was done before it.
  pub record IsPlayed (keeps : List (Job × Verdict) → Type 0) (heard : List (Entry Noted)) (sent : List (List (Entry Job)))
      (result : Result Ending TalkFault) : Type 0 where
    pub came : List ℕ
    pub taken : List ℕ
    pub dropped : List ℕ
    pub said : List Reply
    pub judged : List Judged
    pub at : Conversation
    pub read : Consumes stream rest came
    pub whole : came ≡ taken ++ dropped
    pub talk : HasTaken setting house.directory taken said judged at
    pub ends : EndsBy before after failed house.host rest came dropped said at.standing.phase result
    pub books : result ≢ Err Torn → AreBooks house.directory house.rooms seat (done ++ judged) keeps heard sent
