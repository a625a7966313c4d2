-- What a whole connection comes to: its bytes lead from turn to turn, and behind each message that it submits come the verdicts on its copies.
use Rattle.std.specs.Prelude.{◌≡◌, ◌⊎◌, ℕ, List, [], ◌∷◌, ◌++◌, length, map}
use Rattle.delivery_token.specs.declared.Verdict.{Verdict}
use Rattle.envelope.specs.Names.{Directory}
use Rattle.lmtp_machine.specs.declared.reply.Reply.{Reply}
use Rattle.lmtp_machine.specs.declared.reply.Reply.TheVariants.{Greeting, ShuttingDown}
use Rattle.lmtp_machine.specs.Dialogue.{Event, Setting, Submission, Turn, Ended, dialogue, verdict_reply, Phase, Start, Ready, Transaction, Data, Waiting}
use Rattle.lmtp_machine.specs.Dialogue as on
use Rattle.lmtp_machine.specs.Conversation.{Conversation, Leads, led_by, opened, IsQuiet}

-- a message that was submitted, with the verdicts on its copies, one for each recipient
pub record Judged : Type 0 where
  pub message : Submission
  pub verdicts : List Verdict

-- A new connection was greeted and has taken these bytes: this was said, these messages were submitted and judged, and it stands here.
pub data HasTaken (setting : Setting) (directory : Directory) : List ℕ → List Reply → List Judged → Conversation → Type 0 where
  greeted : HasTaken setting directory [] (Greeting ∷ []) [] opened
  -- more bytes came, and no message was submitted
  goes_on : {bytes : List ℕ} {said : List Reply} {judged : List Judged} {c : Conversation} (taken : List ℕ) (turn : Turn) (after : Conversation)
      → HasTaken setting directory bytes said judged c
      → Leads setting directory c taken turn after → turn.submissions ≡ []
      → HasTaken setting directory (bytes ++ taken) (said ++ turn.replies) judged after
  -- the last line that came ended a message's data, and its verdicts are told before anything more is taken
  submits : {bytes : List ℕ} {said : List Reply} {judged : List Judged} {c : Conversation} (taken : List ℕ) (turn : Turn) (after : Conversation)
      (message : Submission) (verdicts : List Verdict)
      → HasTaken setting directory bytes said judged c
      → (leads : Leads setting directory c taken turn after) → turn.submissions ≡ message ∷ []
      → ((events : List Event) (last : Event) → leads.events ≡ events ++ last ∷ [] → IsQuiet (dialogue setting directory c.standing events))
      → length verdicts ≡ length message.keys
      → HasTaken setting directory (bytes ++ taken) ((said ++ turn.replies) ++ map verdict_reply verdicts)
      (judged ++ record { message = message; verdicts = verdicts } ∷ [])
      (led_by setting directory after (on.Answered verdicts))

module _ (setting : Setting) (directory : Directory) where
  -- A connection whose peer sends these bytes and then goes: all were taken, or the dialogue ended before.
  pub record WholeTalk (bytes : List ℕ) (said : List Reply) (judged : List Judged) : Type 0 where
    pub taken : List ℕ
    pub left : List ℕ
    pub last : Conversation
    pub whole : bytes ≡ taken ++ left
    pub talk : HasTaken setting directory taken said judged last
    pub ended : (left ≡ []) ⊎ (last.standing.phase ≡ Ended)

-- What a house that stops says last: that it shuts down (RFC 5321, 3.8). Within a message's data, and where the dialogue has ended, it says nothing.
abbrev pub last_words : Phase → List Reply
last_words (Data sender recipients lines) = []
last_words Ended = []
last_words phase = ShuttingDown ∷ []
