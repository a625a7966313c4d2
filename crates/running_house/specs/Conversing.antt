-- All connections of a worker, each by the whole lines of its whole string.
use Rattle.std.specs.Prelude.{◌≡◌, ℕ, ◌<◌, List, [], ◌∷◌, ◌++◌, length, flat_map, slice_index_or}
use Rattle.envelope.specs.Names.{Directory}
use Rattle.lane_work.specs.Account.{IsMarkedBy, Premises, closings_of, setting_at}
use Rattle.lane_work.specs.Talk.{Judged}
use Rattle.lmtp_machine.specs.declared.reply.Reply.{Reply}
use Rattle.lmtp_machine.specs.Dialogue.{wire}
use Rattle.running_house.specs.Woven.{IsWholeDialogue}

-- Connections one after another: these bytes came, these were the replies, and these messages were judged. Each goes by the closings before it.
pub data HaveConversed (house : Premises) (seat : ℕ) : List (List ℕ) → List (List ℕ) → List Judged → Type 0 where
  none : HaveConversed house seat [] [] []
  next : {connections : List (List ℕ)} {replies : List (List ℕ)} {judged : List Judged} (bytes : List ℕ) (own : Directory) (said : List Reply)
      (more : List Judged)
      → HaveConversed house seat connections replies judged
      → IsMarkedBy (closings_of house seat) (length connections) house.directory own
      → IsWholeDialogue (setting_at house seat (length connections)) own bytes said more
      → HaveConversed house seat (connections ++ bytes ∷ []) (replies ++ wire house.host said ∷ []) (judged ++ more)

-- The connection of this serial number: it was a whole dialogue, in which these messages were judged, and its replies are these bytes.
pub record IsConnection (house : Premises) (seat serial : ℕ) (bytes replied : List ℕ) (judged : List Judged) : Type 0 where
  pub said : List Reply
  -- the directory with the marks of the shards that the worker has closed by then
  pub own : Directory
  pub marked : IsMarkedBy (closings_of house seat) serial house.directory own
  pub dialogue : IsWholeDialogue (setting_at house seat serial) own bytes said judged
  pub replies : replied ≡ wire house.host said

-- The same by number: each connection has its replies and its part of what was judged, and the parts behind one another are all of it.
pub record AreDialogues (house : Premises) (seat : ℕ) (connections replies : List (List ℕ)) (judged : List Judged) : Type 0 where
  pub parts : List (List Judged)
  pub as_many_replies : length replies ≡ length connections
  pub as_many_parts : length parts ≡ length connections
  pub together : judged ≡ flat_map (λ (part : List Judged). part) parts
  pub each : (i : ℕ) → i < length connections → IsConnection house seat i (slice_index_or connections i []) (slice_index_or replies i [])
      (slice_index_or parts i [])
