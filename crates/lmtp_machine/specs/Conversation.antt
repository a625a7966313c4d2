-- A connection's bytes and what comes of them, in whatever pieces they come.
use Rattle.std.specs.Prelude.{◌≡◌, ◌⊎◌, ℕ, codes, List, [], ◌∷◌, ◌++◌}
use Rattle.envelope.specs.Names.{Directory}
use Rattle.line_io.specs.Wire.{IsCut}
use Rattle.lmtp_machine.specs.Dialogue.{Phase, Start, Ready, Transaction, Data, Waiting, Ended, Standing, Setting, Event, Opened, Line, Starved, Answered, Shut, Turn, dialogue, on_event, fresh}

-- where the dialogue stands, and what has come of the next line
pub record Conversation : Type 0 where
  pub standing : Standing
  pub unfinished : List ℕ

-- a line is an event; at the one that ends the data memory may have been refused
pub data Heard : List (List ℕ) → List Event → Type 0 where
  none : Heard [] []
  line : {lines : List (List ℕ)} {events : List Event} (l : List ℕ) → Heard lines events → Heard (l ∷ lines) (Line l ∷ events)
  starved : {lines : List (List ℕ)} {events : List Event} → Heard lines events → Heard (codes "." ∷ lines) (Starved ∷ events)

-- the next bytes may come: the dialogue goes on and awaits no verdicts
abbrev pub IsListening : Phase → Type 0
IsListening Start = Unit {0}
IsListening Ready = Unit {0}
IsListening (Transaction sender recipients) = Unit {0}
IsListening (Data sender recipients lines) = Unit {0}
IsListening (Waiting count) = ⊥
IsListening Ended = ⊥

-- lines are those of a message's data
abbrev pub IsInData : Phase → Type 0
IsInData Start = ⊥
IsInData Ready = ⊥
IsInData (Transaction sender recipients) = ⊥
IsInData (Data sender recipients lines) = Unit {0}
IsInData (Waiting count) = ⊥
IsInData Ended = ⊥

-- A line is heard only while the dialogue listens, and memory is refused only for a message's text. What isn't a line isn't heard.
abbrev pub MayHear : Phase → Event → Type 0
MayHear phase Opened = ⊥
MayHear phase (Line l) = IsListening phase
MayHear phase Starved = IsInData phase
MayHear phase (Answered verdicts) = ⊥
MayHear phase Shut = ⊥

-- each of these events may be heard where those before it lead
abbrev pub EachMayBeHeard : Setting → Directory → Standing → List Event → Type 0
EachMayBeHeard setting directory s [] = Unit {0}
EachMayBeHeard setting directory s (event ∷ events) =
    MayHear s.phase event × EachMayBeHeard setting directory (on_event setting directory s event).standing events

module _ (setting : Setting) (directory : Directory) where
  -- Taking these bytes leads from one conversation to another, with all that is said and submitted on the way: what had come of the
  -- next line, and then these bytes, are whole lines, each an event, and the beginning of another line. Only while the dialogue listens
  -- are lines heard and more bytes taken: so nothing behind the end of a message's data is taken before its verdicts were said.
  pub record Leads (before : Conversation) (taken : List ℕ) (turn : Turn) (after : Conversation) : Type 0 where
    pub lines : List (List ℕ)
    pub events : List Event
    pub cut : IsCut (before.unfinished ++ taken) lines after.unfinished
    pub heard : Heard lines events
    pub may : EachMayBeHeard setting directory before.standing events
    pub turns : turn ≡ dialogue setting directory before.standing events
    pub stands : after.standing ≡ turn.standing
    -- behind the last of the lines, bytes are taken only while it listens still
    pub behind : IsListening turn.standing.phase ⊎ (taken ≡ []) ⊎ (after.unfinished ≡ [])

-- one turn after the other
infixr 12 ◌⨾◌
abbrev pub ◌⨾◌ : Turn → Turn → Turn
first ⨾ second = record {
  standing = second.standing;
  replies = first.replies ++ second.replies;
  submissions = first.submissions ++ second.submissions;
}

-- where an event that isn't a line leads
abbrev pub led_by : Setting → Directory → Conversation → Event → Conversation
led_by setting directory c event = record { standing = (on_event setting directory c.standing event).standing; unfinished = c.unfinished }

-- a new connection
abbrev pub opened : Conversation
opened = record { standing = fresh; unfinished = [] }

-- nothing is said and nothing submitted
abbrev pub IsQuiet : Turn → Type 0
IsQuiet turn = (turn.replies ≡ []) × (turn.submissions ≡ [])
