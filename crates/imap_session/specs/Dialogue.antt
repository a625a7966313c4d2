-- The bytes of an IMAP client, cut into lines and the literals behind them, and what is answered to each of these.
use Rattle.std.specs.Prelude.{◌≡◌, ℕ, ◌+◌, ◌<◌, ◌≤◌, List, [], ◌∷◌, ◌++◌, ◌⊎◌, length, take, flat_map, Bool, true, false, Option, Some, None}
use Rattle.delivery_token.specs.declared.Verdict.{Verdict}
use Rattle.line_io.specs.Wire.{IsUncut, crlf}
use Rattle.line_io.specs.Cutting as cutting
use Rattle.imap_session.specs.declared.standing.After.{After}
use Rattle.imap_session.specs.declared.standing.After.TheVariants.{Bye, Submit}
use Rattle.imap_session.specs.declared.connection.Fed.{Fed}
use Rattle.imap_session.specs.declared.connection.Progress.{Progress}
use Rattle.imap_session.specs.Exchange.{Call, Answer, Event, Standing, waits_for}
use Rattle.imap_session.specs.Commands.{due_of, turn_of_long_line}
use Rattle.imap_session.specs.Store.{Answers, AnswersVerdict, IdleTurns, Met, TakesBytes}

-- the most bytes of a line, with its CRLF
abbrev pub most_bytes : ℕ
most_bytes = 8192

-- where a client's dialogue stands: where its session does, and the bytes of the line that has not ended yet
pub record Dialogue : Type 0 where
  pub standing : Standing
  pub begun : List ℕ

-- what a connection holds, as contracts see it
pub record ImapConnection : Type 0 where
  pub session : Standing
  pub cutter : cutting.LineCutter

-- The connection stands for a dialogue. No line has begun where bytes of a literal are due.
pub record StandsFor (link : ImapConnection) (d : Dialogue) : Type 0 where
  pub session : link.session ≡ d.standing
  pub cutter : cutting.StandsFor link.cutter d.begun
  pub uncut : IsUncut d.begun
  pub alone : 0 < due_of d.standing.mailing.begun → d.begun ≡ []

-- ---- what is sent

-- what a client sends: a line, without its CRLF, or bytes of a literal
pub data Sends : Type 0 where
  Line : List ℕ → Sends
  Bytes : List ℕ → Sends

-- the bytes of that
abbrev pub spelled : Sends → List ℕ
spelled (Line line) = line ++ crlf
spelled (Bytes bytes) = bytes

-- more may be sent: the session goes on, and awaits no verdict
abbrev pub may_follow : After → Bool
may_follow Bye = false
may_follow Submit = false
may_follow how = true

module _ {S : Type 0} (step : S → Call → Answer → S → Type 0) (now : Standing) (line : List ℕ) (old new : S) where
  -- A line, without its CRLF, was answered over a store: by the session, or, where it is too long, by that.
  pub data AnswersLine (before after : List ℕ) (how : After) (next : Standing) : Type 0 where
    reads : length line + 2 ≤ most_bytes → Answers step now line old new before after how next → AnswersLine before after how next
    too_long : most_bytes < length line + 2 → new ≡ old → after ≡ before ++ (turn_of_long_line now).bytes → how ≡ (turn_of_long_line now).after
        → next ≡ (turn_of_long_line now).standing → AnswersLine before after how next

module _ {S : Type 0} (now : Standing) (bytes : List ℕ) (old new : S) where
  -- Bytes of a literal were taken, some and no more than were due, by a session that goes on. Nothing is said of them, and the store isn't asked.
  pub record TakesLiteral (before after : List ℕ) (how : After) (next : Standing) : Type 0 where
    pub goes : now.ended ≡ false
    pub some : 0 < length bytes
    pub due : length bytes ≤ due_of now.mailing.begun
    pub takes : TakesBytes now bytes next
    pub unasked : new ≡ old
    pub silent : after ≡ before
    pub waits : how ≡ waits_for next

-- What a client sent was answered, by a session that goes on: nothing is answered behind its end. It is no line where bytes of a literal are due, and
-- one line, which has no CRLF within.
abbrev pub AnswersOne : {S : Type 0} → (S → Call → Answer → S → Type 0) → Standing → Sends → S → S → List ℕ → List ℕ → After → Standing → Type 0
AnswersOne step now (Line line) old new before after how next = (now.ended ≡ false) × (due_of now.mailing.begun ≡ 0)
    × AnswersLine step now line old new before after how next × IsUncut line
AnswersOne step now (Bytes bytes) old new before after how next = TakesLiteral now bytes old new before after how next

module _ {S : Type 0} (step : S → Call → Answer → S → Type 0) (d : Dialogue) (piece : List ℕ) (old new : S) where
  -- What a call took of a piece: nothing where the session has ended, all of it where no line ends in it, the end of the line that has begun, which
  -- was answered, or bytes of the literal that is due.
  pub data Takes (before after : List ℕ) (fed : Fed) (link : ImapConnection) : Type 0 where
    has_ended : d.standing.ended ≡ true → fed.used ≡ 0 → fed.after ≡ Bye → new ≡ old → after ≡ before → StandsFor link d → Takes before after fed link
    begins : d.standing.ended ≡ false → fed.used ≡ length piece → fed.after ≡ waits_for d.standing → new ≡ old → after ≡ before
        → StandsFor link (record { standing = d.standing; begun = d.begun ++ piece }) → Takes before after fed link
    ends : (line : List ℕ) (next : Standing) → d.standing.ended ≡ false → d.begun ++ take fed.used piece ≡ line ++ crlf → IsUncut line
        → due_of d.standing.mailing.begun ≡ 0
        → AnswersLine step d.standing line old new before after fed.after next → StandsFor link (record { standing = next; begun = [] })
        → Takes before after fed link
    takes : (next : Standing) → d.standing.ended ≡ false → d.begun ≡ []
        → TakesLiteral d.standing (take fed.used piece) old new before after fed.after next
        → StandsFor link (record { standing = next; begun = [] }) → Takes before after fed link

-- ---- one after the other

-- All this was sent and answered over a store, one after the other, and this was said. After each the client may send more, but the last may end the
-- session, or submit a message, and then nothing is taken before the verdict.
pub data Converses {S : Type 0} (step : S → Call → Answer → S → Type 0) : Standing → List Sends → S → S → List ℕ → After → Standing → Type 0 where
  silent : (now : Standing) (old : S) → Converses step now [] old old [] (waits_for now) now
  parts : (now next : Standing) (one : Sends) (old new : S) (said : List ℕ) (how : After) → may_follow how ≡ false
      → AnswersOne step now one old new [] said how next → Converses step now (one ∷ []) old new said how next
  goes_on : (now between next : Standing) (one : Sends) (others : List Sends) (old mid new : S) (first second : List ℕ) (how : After)
      → may_follow (waits_for between) ≡ true → AnswersOne step now one old mid [] first (waits_for between) between
      → Converses step between others mid new second how next → Converses step now (one ∷ others) old new (first ++ second) how next

module _ {S : Type 0} (step : S → Call → Answer → S → Type 0) (d : Dialogue) (bytes : List ℕ) (old new : S) where
  -- What had begun and these bytes were sent so and answered, and with the rest a line has begun. After the end of the session the rest says nothing.
  pub record Answered (said : List ℕ) (how : After) (next : Dialogue) : Type 0 where
    pub sent : List Sends
    pub whole : d.begun ++ bytes ≡ flat_map spelled sent ++ next.begun
    pub converses : Converses step d.standing sent old new said how next.standing

-- So it is with the first bytes of a piece, and the connection stands for what they lead to.
pub record Took {S : Type 0} (step : S → Call → Answer → S → Type 0) (d : Dialogue) (piece : List ℕ) (old new : S) (before after : List ℕ)
    (progress : Progress) (link : ImapConnection) : Type 0 where
  pub said : List ℕ
  pub how : After
  pub next : Dialogue
  pub answered : Answered step d (take progress.used piece) old new said how next
  pub stands : StandsFor link next
  pub wrote : after ≡ before ++ said
  pub is : progress.after ≡ None ⊎ (progress.after ≡ Some how)

-- ---- turns while it idles

-- The session had a turn over a store, while it idles, and showed so many changes; the connection stands for what that leads to.
pub record Turns {S : Type 0} (step : S → Call → Answer → S → Type 0) (d : Dialogue) (old new : S) (before after : List ℕ) (count : ℕ)
    (link : ImapConnection) : Type 0 where
  pub next : Standing
  pub turned : IdleTurns step d.standing old new before after count next
  pub stands : StandsFor link (record { standing = next; begun = d.begun })

-- ---- verdicts

-- The verdict that the session waits for was answered over a store; the connection stands for what that leads to.
pub record Hears {S : Type 0} (step : S → Call → Answer → S → Type 0) (d : Dialogue) (verdict : Verdict) (old new : S) (before after : List ℕ)
    (how : After) (link : ImapConnection) : Type 0 where
  pub next : Standing
  pub answered : AnswersVerdict step d.standing verdict old new before after how next
  pub stands : StandsFor link (record { standing = next; begun = d.begun })

-- ---- the store

-- the store was asked some calls, one after the other
abbrev pub Asks : {S : Type 0} → (S → Call → Answer → S → Type 0) → S → S → Type 0
Asks step old new = (events : List Event) × Met step old events new
