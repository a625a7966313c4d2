-- Lines of a command, answered once they are whole or a part of them is awaited.
use Rattle.std.specs.Global.{Global}
use Rattle.std.specs.Prelude.{◌≡◌, ◌<◌, ℕ, Bool, true, false, List, length, ◌++◌, Option, Some, None, Vec}
use Rattle.imap_session.specs.declared.standing.After.{After}
use Rattle.imap_session.specs.Exchange.{Answer, Call, Event, Message, PendingLiteral, Purpose, Standing, Turn}
use Rattle.imap_session.specs.Commands.{most_line, on_joined, on_rest_of, on_text_line}
use Rattle.imap_session.specs.Store.{Met}

-- with some answers the turn is such, and was had over the store
pub record Had {S : Type 0} (turn : List Answer → Option Turn) (step : S → Call → Answer → S → Type 0) (old new : S) (before after : List ℕ)
    (how : After) (next : Standing) : Type 0 where
  pub answers : List Answer
  pub events : List Event
  pub bytes : List ℕ
  pub played : turn answers ≡ Some (record { events = events; bytes = bytes; after = how; standing = next })
  pub met : Met step old events new
  pub wrote : after ≡ before ++ bytes

-- from the standing `now` a line was answered as one of a command
abbrev pub AnswersText : {S : Type 0} → (S → Call → Answer → S → Type 0) → Standing → List ℕ → S → S → List ℕ → List ℕ → After → Standing → Type 0
AnswersText step now line old new before after how next = Had (on_text_line now line) step old new before after how next

-- the same of one with its literals in it, under this tag, which ends so
abbrev pub AnswersJoined : {S : Type 0} → (S → Call → Answer → S → Type 0) → List ℕ → Standing → List ℕ → List ℕ → S → S → List ℕ → List ℕ → After
    → Standing → Type 0
AnswersJoined step tag now line rest old new before after how next = Had (on_joined tag now line rest) step old new before after how next

-- the line that was joined, or one that is too long to be
abbrev pub IsJoined : Option (Vec ℕ Global) → List ℕ → Type 0
IsJoined (Some line) whole = line.items ≡ whole
IsJoined None whole = most_line < length whole

abbrev pub is_message : Purpose → Bool
is_message (Message mailbox flags date) = true
is_message purpose = false

-- the rest of a line behind a literal, once that isn't awaited any more
abbrev pub on_rest_part : PendingLiteral → Standing → List ℕ → List Answer → Option Turn
on_rest_part a now line answers = on_rest_of a.purpose a now line answers
