-- A connection by the whole lines of its whole string: which of them were heard, as what, and where verdicts stand among them. It knows nothing of
-- pieces.
use Rattle.std.specs.Prelude.{◌≡◌, ◌⊎◌, ℕ, codes, List, [], ◌∷◌, ◌++◌, ◌+◌, length, map}
use Rattle.delivery_token.specs.declared.Verdict.{Verdict}
use Rattle.envelope.specs.Names.{Directory}
use Rattle.lane_work.specs.Talk.{Judged}
use Rattle.line_io.specs.Wire.{IsCut, wire_lines}
use Rattle.lmtp_machine.specs.declared.reply.Reply.{Reply}
use Rattle.lmtp_machine.specs.declared.reply.Reply.TheVariants.{Greeting}
use Rattle.lmtp_machine.specs.Conversation.{MayHear}
use Rattle.lmtp_machine.specs.Dialogue.{Waiting, Ended, Standing, Setting, Submission, Event, Opened, Line, Starved, Answered, Shut, dialogue, on_event, fresh}

-- A line is heard as itself; the one that ends a message's data may be heard as the one for whose text memory was refused.
abbrev pub IsHeardAs : List ℕ → Event → Type 0
IsHeardAs l Opened = ⊥
IsHeardAs l (Line heard) = heard ≡ l
IsHeardAs l Starved = l ≡ codes "."
IsHeardAs l (Answered verdicts) = ⊥
IsHeardAs l Shut = ⊥

-- From one standing on these lines were heard, each as one event and where the dialogue may hear it. Behind each that submits a message, and before
-- the next line, stands the answer with its verdicts, one for each recipient; nothing else happened, and it leads to the other standing.
pub data Woven (setting : Setting) (directory : Directory) : Standing → List (List ℕ) → List Judged → List Event → Standing → Type 0 where
  none : {s : Standing} → Woven setting directory s [] [] [] s
  line : {s last : Standing} {lines : List (List ℕ)} {judged : List Judged} {events : List Event} (l : List ℕ) (event : Event)
      → IsHeardAs l event → MayHear s.phase event
      → (on_event setting directory s event).submissions ≡ []
      → Woven setting directory (on_event setting directory s event).standing lines judged events last
      → Woven setting directory s (l ∷ lines) judged (event ∷ events) last
  submits : {s last : Standing} {lines : List (List ℕ)} {judged : List Judged} {events : List Event} (l : List ℕ) (event : Event)
      (message : Submission) (verdicts : List Verdict)
      → IsHeardAs l event → MayHear s.phase event
      → (on_event setting directory s event).submissions ≡ message ∷ []
      → length verdicts ≡ length message.keys
      → Woven setting directory (on_event setting directory (on_event setting directory s event).standing (Answered verdicts)).standing lines judged
      events last
      → Woven setting directory s (l ∷ lines) (record { message = message; verdicts = verdicts } ∷ judged) (event ∷ Answered verdicts ∷ events) last

-- the lines that these events are
abbrev pub lines_of : List Event → List (List ℕ)
lines_of [] = []
lines_of (Opened ∷ events) = lines_of events
lines_of (Line l ∷ events) = l ∷ lines_of events
lines_of (Starved ∷ events) = codes "." ∷ lines_of events
lines_of (Answered verdicts ∷ events) = lines_of events
lines_of (Shut ∷ events) = lines_of events

-- the verdicts that are told at these events
abbrev pub answers_of : List Event → List (List Verdict)
answers_of [] = []
answers_of (Opened ∷ events) = answers_of events
answers_of (Line l ∷ events) = answers_of events
answers_of (Starved ∷ events) = answers_of events
answers_of (Answered verdicts ∷ events) = verdicts ∷ answers_of events
answers_of (Shut ∷ events) = answers_of events

-- Each line is one of the events, in their order, and each event is a line or an answer. The answers are those to the messages that were submitted,
-- in their order, and each stands where as many verdicts are awaited as it has.
pub record AreTold (setting : Setting) (directory : Directory) (s : Standing) (lines : List (List ℕ)) (judged : List Judged)
    (events : List Event) : Type 0 where
  pub each : lines_of events ≡ lines
  pub as_many : length events ≡ length lines + length judged
  pub answers : answers_of events ≡ map (λ (j : Judged). j.verdicts) judged
  pub messages : map (λ (j : Judged). j.message) judged ≡ (dialogue setting directory s events).submissions
  pub awaited : (before : List Event) (verdicts : List Verdict) (after : List Event) → events ≡ before ++ Answered verdicts ∷ after
      → (dialogue setting directory s before).standing.phase ≡ Waiting (length verdicts)

-- A connection whose peer sends these bytes and then goes: of their whole lines the first were heard, all of them unless the dialogue ended before.
-- What was said is the greeting and what the dialogue says of them and of the verdicts, and what was judged is what it submitted.
pub record IsWholeDialogue (setting : Setting) (directory : Directory) (bytes : List ℕ) (said : List Reply) (judged : List Judged) : Type 0 where
  pub lines : List (List ℕ)
  -- whole lines that came behind the dialogue's end
  pub unheard : List (List ℕ)
  pub events : List Event
  pub last : Standing
  pub whole : wire_lines bytes ≡ lines ++ unheard
  pub woven : Woven setting directory fresh lines judged events last
  pub replies : said ≡ Greeting ∷ (dialogue setting directory fresh events).replies
  pub messages : map (λ (j : Judged). j.message) judged ≡ (dialogue setting directory fresh events).submissions
  pub stands : (dialogue setting directory fresh events).standing ≡ last
  pub ended : (unheard ≡ []) ⊎ (last.phase ≡ Ended)

-- The same of the bytes: they begin with these lines, each with its CRLF, and what comes behind them is within one line, or comes behind the
-- dialogue's end.
pub record AreFirstLines (bytes : List ℕ) (lines : List (List ℕ)) (last : Standing) : Type 0 where
  pub taken : List ℕ
  pub left : List ℕ
  pub rest : List ℕ
  pub whole : bytes ≡ taken ++ left
  pub cut : IsCut taken lines rest
  pub ended : (left ≡ []) ⊎ ((last.phase ≡ Ended) × (rest ≡ []))
