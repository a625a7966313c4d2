-- What the calls of a connection answer.
use Rattle.std.specs.Prelude.{◌≡◌, ℕ, List, [], ◌∷◌, ◌++◌, length, take, ◌<◌, ◌⊎◌}
use Rattle.envelope.specs.Names.{Directory}
use Rattle.lmtp_machine.specs.declared.connection.What.{What}
use Rattle.lmtp_machine.specs.declared.connection.What.TheVariants.{More, Submit, Quit}
use Rattle.lmtp_machine.specs.declared.connection.Fed.{Fed}
use Rattle.lmtp_machine.specs.declared.connection.Submission as code
use Rattle.lmtp_machine.specs.Dialogue.{wire, Waiting, Ended, Setting, Submission, Event, Turn, dialogue, on_event}
use Rattle.lmtp_machine.specs.Conversation.{Conversation, IsListening, Leads, led_by, IsQuiet}

-- a submission of the code, as one of the dialogue
abbrev pub submission_of : code.Submission → Submission
submission_of s = record { keys = s.keys.items; mailboxes = s.mailboxes.items; text = s.text }

-- a message was submitted, and a verdict for each of its keys is awaited
pub record Submits (turn : Turn) : Type 0 where
  pub submission : Submission
  pub only : turn.submissions ≡ submission ∷ []
  pub waits : turn.standing.phase ≡ Waiting (length submission.keys)

-- what the call tells of the turn
abbrev pub Tells : What → Turn → Type 0
Tells More turn = (turn.submissions ≡ []) × IsListening turn.standing.phase
Tells Submit turn = Submits turn
Tells Quit turn = (turn.submissions ≡ []) × (turn.standing.phase ≡ Ended)

-- bytes are left over only where a line was answered, a message was submitted or the dialogue has ended
abbrev pub Stops : ℕ → List ℕ → Turn → Type 0
Stops used piece turn = used < length piece → (0 < length turn.replies) ⊎ (0 < length turn.submissions) ⊎ (turn.standing.phase ≡ Ended)

-- whether verdicts are awaited after the call
abbrev pub Awaits : What → List Submission → Type 0
Awaits More pending = pending ≡ []
Awaits Submit pending = length pending ≡ 1
Awaits Quit pending = pending ≡ []

-- it goes on while there is something to take
abbrev pub Moves : ℕ → What → List ℕ → Type 0
Moves used More piece = 0 < length piece → 0 < used
Moves used Submit piece = 0 < used
Moves used Quit piece = Unit {0}

-- The bytes used lead from the conversation before the call to one for which the connection stands now,
-- and what was written is what is said on the way.
pub record Follows (Stands : Conversation → Type 0) (setting : Setting) (host : List ℕ) (directory : Directory) (before : Conversation)
    (piece : List ℕ) (fed : Fed)
    (old new : List ℕ) (pending : List Submission) : Type 0 where
  pub turn : Turn
  pub after : Conversation
  pub leads : Leads setting directory before (take fed.used piece) turn after
  pub stands : Stands after
  pub said : new ≡ old ++ wire host turn.replies
  pub tells : Tells fed.what turn
  pub submits : pending ≡ turn.submissions
  pub stops : Stops fed.used piece turn
  -- nothing was said or submitted before the last line
  pub one : (events : List Event) (last : Event) → leads.events ≡ events ++ last ∷ [] → IsQuiet (dialogue setting directory before.standing events)
  -- it takes nothing once the dialogue has ended
  pub ended : before.standing.phase ≡ Ended → fed.used ≡ 0

-- an event of the server's own
pub record Happens (Stands : Conversation → Type 0) (setting : Setting) (host : List ℕ) (directory : Directory) (before : Conversation)
    (event : Event) (old new : List ℕ) : Type 0 where
  pub stands : Stands (led_by setting directory before event)
  pub said : new ≡ old ++ wire host (on_event setting directory before.standing event).replies
