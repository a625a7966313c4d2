-- What a visitor's place holds, as contracts see it, and when it stands for a visitor.
use Rattle.std.specs.Prelude.{◌≡◌, ℕ, Bool, true, List, [], ◌++◌}
use Rattle.imap_session.specs.Exchange.{Call, Answer}
use Rattle.imap_session.specs.Dialogue as dialogue
use Rattle.imap_session.specs.Dialogue.{ImapConnection}
use Rattle.house_peers.specs.Visitor.{Visitor, Answers, HasAnswered}
use Rattle.imap_session.specs.Store.{AnswersVerdict, IdleTurns}
use Rattle.imap_session.specs.declared.standing.After.{After}
use Rattle.delivery_token.specs.declared.Verdict.{Verdict}

-- its connection, the bytes that came and were not taken by it, and what was said and isn't printed yet
pub record HouseSession : Type 0 where
  pub link : ImapConnection
  pub came : List ℕ
  pub unsaid : List ℕ

pub record StandsFor (p : HouseSession) (v : Visitor) : Type 0 where
  -- the line that has begun
  pub begun : List ℕ
  pub connection : dialogue.StandsFor p.link (record { standing = v.standing; begun = begun })
  pub waits : v.waits ≡ begun ++ p.came
  pub unsaid : p.unsaid ≡ v.unsaid

-- these bytes came and wait
abbrev pub with_more : List ℕ → HouseSession → HouseSession
with_more piece p = record { link = p.link; came = p.came ++ piece; unsaid = p.unsaid }

-- what came and wasn't taken, and what was still to be printed, is dropped
abbrev pub with_nothing_left : HouseSession → HouseSession
with_nothing_left p = record { link = p.link; came = []; unsaid = [] }

-- all that was said is printed
abbrev pub with_all_said : HouseSession → HouseSession
with_all_said p = record { link = p.link; came = p.came; unsaid = [] }

-- From this visitor its place answered what waited, and nothing of that is printed yet.
pub record Answered {S : Type 0} (step : S → Call → Answer → S → Type 0) (whole : Bool) (before : Visitor) (old new : S)
    (p : HouseSession) : Type 0 where
  pub after : Visitor
  pub said : List ℕ
  pub answers : Answers step before old new after said
  pub kept : after.unsaid ≡ before.unsaid ++ said
  pub all : whole ≡ true → HasAnswered after
  pub stands : StandsFor p after

-- For whichever visitor the place stands: its session had a turn over a store, and showed so many changes.
abbrev pub HadTurn : {S : Type 0} → (S → Call → Answer → S → Type 0) → HouseSession → S → S → ℕ → HouseSession → Type 0
HadTurn step before old new count after = (said : List ℕ) × IdleTurns step before.link.session old new [] said count after.link.session

-- From this visitor its session had a turn, which showed so many changes, and nothing of that is printed yet.
pub record Turned {S : Type 0} (step : S → Call → Answer → S → Type 0) (count : ℕ) (before : Visitor) (old new : S) (p : HouseSession) : Type 0 where
  pub after : Visitor
  pub said : List ℕ
  pub turned : IdleTurns step before.standing old new [] said count after.standing
  pub kept : after.unsaid ≡ before.unsaid ++ said
  pub waits : after.waits ≡ before.waits
  pub stands : StandsFor p after

-- From this visitor the verdict on its message was answered over a store, and nothing of that is printed yet.
pub record AnsweredVerdict {S : Type 0} (step : S → Call → Answer → S → Type 0) (verdict : Verdict) (before : Visitor) (old new : S)
    (p : HouseSession) : Type 0 where
  pub after : Visitor
  pub said : List ℕ
  pub how : After
  pub answered : AnswersVerdict step before.standing verdict old new [] said how after.standing
  pub kept : after.unsaid ≡ before.unsaid ++ said
  pub waits : after.waits ≡ before.waits
  pub stands : StandsFor p after
