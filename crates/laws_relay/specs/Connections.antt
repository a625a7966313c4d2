-- A connection as it goes on, call by call: what came, what was said and what was submitted so far, and what a relay at its other end may conclude of
-- that.
use Rattle.std.specs.Prelude.{◌≡◌, ℕ, ◌<◌, Bool, List, [], ◌∷◌, ◌++◌, length, map, slice_index_or}
use Rattle.delivery_token.specs.declared.Verdict.{Verdict}
use Rattle.envelope.specs.Names.{Directory, marked}
use Rattle.line_io.specs.Wire.{IsCut}
use Rattle.lmtp_machine.specs.declared.reply.Reply.{Reply}
use Rattle.lmtp_machine.specs.declared.reply.Reply.TheVariants.{Greeting, ShuttingDown}
use Rattle.lmtp_machine.specs.Conversation.{Conversation, IsListening, Leads, led_by, opened}
use Rattle.lmtp_machine.specs.Dialogue.{Waiting, Setting, Submission, Answered, Shut, Turn, fresh, verdict_reply, wire}
use Rattle.lmtp_machine.specs.Kept.{IsMessage}
use Rattle.laws_relay.specs.Handed.{IsInLine, handed_over}
use Rattle.laws_relay.specs.Fates.{answers_of, lines_of}
use Rattle.laws_relay.specs.Moments.{Moment, EachMomentMayHappen, dialogue_over, events_of}
use Rattle.laws_relay.specs.Conclusions.{MayForget}
use Rattle.laws_relay.specs.Numbers.{no_submission}

-- A connection has come so far: these bytes were taken, these replies said behind the greeting, these messages submitted, and these verdicts told, of
-- a dialogue that stands here now. Which shards were shut may have changed on the way.
pub record HasCome (setting : Setting) (directory : Directory) (taken : List ℕ) (said : List Reply) (submitted : List Submission)
    (told : List (List Verdict)) (c : Conversation) : Type 0 where
  pub moments : List Moment
  pub may : EachMomentMayHappen setting directory fresh moments
  pub cut : IsCut taken (lines_of (events_of moments)) c.unfinished
  pub stands : (dialogue_over setting directory fresh moments).standing ≡ c.standing
  pub said_is : (dialogue_over setting directory fresh moments).replies ≡ said
  pub submitted_is : (dialogue_over setting directory fresh moments).submissions ≡ submitted
  pub told_is : answers_of (events_of moments) ≡ told

-- a connection that was opened
abbrev pub Begins : Type 0
Begins = (setting : Setting) (directory : Directory) → HasCome setting directory [] [] [] [] opened

-- bytes are taken, in whatever pieces, whichever shards are shut then
abbrev pub TakesBytes : Type 0
TakesBytes = (setting : Setting) (directory : Directory) (taken : List ℕ) (said : List Reply) (submitted : List Submission)
    (told : List (List Verdict)) (before after : Conversation)
    → HasCome setting directory taken said submitted told before
    → (shut : List Bool) (more : List ℕ) (turn : Turn) → Leads setting (marked shut directory) before more turn after
    → HasCome setting directory (taken ++ more) (said ++ turn.replies) (submitted ++ turn.submissions) told after

-- the verdicts that are awaited are told
abbrev pub TellsVerdicts : Type 0
TellsVerdicts = (setting : Setting) (directory : Directory) (taken : List ℕ) (said : List Reply) (submitted : List Submission)
    (told : List (List Verdict)) (c : Conversation)
    → HasCome setting directory taken said submitted told c
    → (shut : List Bool) (verdicts : List Verdict) → c.standing.phase ≡ Waiting (length verdicts)
    → HasCome setting directory taken (said ++ map verdict_reply verdicts) submitted (told ++ verdicts ∷ [])
    (led_by setting (marked shut directory) c (Answered verdicts))

-- the server shuts down while it listens
abbrev pub ShutsDown : Type 0
ShutsDown = (setting : Setting) (directory : Directory) (taken : List ℕ) (said : List Reply) (submitted : List Submission)
    (told : List (List Verdict)) (c : Conversation)
    → HasCome setting directory taken said submitted told c
    → (shut : List Bool) → IsListening c.standing.phase
    → HasCome setting directory taken (said ++ ShuttingDown ∷ []) submitted told (led_by setting (marked shut directory) c Shut)

-- What the relay may conclude then: it sent the bytes that were taken and perhaps more, and was told a front of what was said.
abbrev pub Concludes : Type 0
Concludes = (host : List ℕ) (setting : Setting) (directory : Directory) (taken : List ℕ) (said : List Reply) (submitted : List Submission)
    (told : List (List Verdict)) (c : Conversation) → IsInLine host
    → HasCome setting directory taken said submitted told c
    → (waiting heard unheard : List ℕ) → heard ++ unheard ≡ wire host (Greeting ∷ said)
    → MayForget host directory (handed_over (taken ++ waiting) heard) (handed_over (taken ++ waiting) (heard ++ unheard)) submitted told

-- The n-th message that was submitted is the connection's message of the number n: with the fates' numbers it is known which keys have the copies of
-- each message that the relay handed over.
abbrev pub NumbersMessages : Type 0
NumbersMessages = (setting : Setting) (directory : Directory) (taken : List ℕ) (said : List Reply) (submitted : List Submission)
    (told : List (List Verdict)) (c : Conversation)
    → HasCome setting directory taken said submitted told c
    → (n : ℕ) → n < length submitted → IsMessage setting (length directory.homes) n (slice_index_or submitted n no_submission)
