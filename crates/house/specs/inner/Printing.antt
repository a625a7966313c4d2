-- What bodies and proofs say besides: what connections and sessions say, as the house prints it: each line with a mark that tells who said it.
use Rattle.std.specs.Prelude.{◌≡◌, ◌⊎◌, ℕ, Bool, true, false, List, [], ◌++◌}
use Rattle.delivery_token.specs.declared.CopyKey.{CopyKey}
use Rattle.delivery_token.specs.declared.log.Noted.{Noted}
use Rattle.imap_session.specs.Exchange.{Call, Answer}
use Rattle.imap_session.specs.Store.{Starves}
use Rattle.house_peers.specs.Visitor.{Visitor, SeatedVisitor}
use Rattle.house_peers.specs.SeatedSession.{SeatedSession, StandsForSeated}
use Rattle.house.specs.Printing.{Speaks, Idles, IsWhole, with_session}

-- ---- sessions

-- so much of what it said is still to be printed
abbrev pub still_unsaid : List ℕ → SeatedVisitor → SeatedVisitor
still_unsaid unsaid v = with_session (record v.session { unsaid = unsaid }) v

-- From this session, whose client is there, its seat went on over a store and printed this, and stands for the session after it.
pub record WentOn {S : Type 0} (step : S → Call → Answer → S → Type 0) (whole : Bool) (seat n : ℕ) (next : CopyKey) (heard : List Noted)
    (before : SeatedVisitor) (old new : S) (text text_after : List ℕ) (p : SeatedSession) : Type 0 where
  pub after : SeatedVisitor
  pub printed : List ℕ
  pub speaks : Speaks step whole seat n heard before old new after printed
  pub all : whole ≡ true → IsWhole after.session
  pub stands : StandsForSeated seat next heard p after
  pub out : text_after ≡ text ++ printed

-- From this session its seat had a turn while it idles, which showed so many changes, and printed this; it stands for the session after it. Where
-- the turn was made whole, all that was said is printed.
pub record Idled {S : Type 0} (step : S → Call → Answer → S → Type 0) (whole : Bool) (seat n : ℕ) (count : ℕ) (next : CopyKey) (heard : List Noted)
    (before : SeatedVisitor) (old new : S) (text text_after : List ℕ) (p : SeatedSession) : Type 0 where
  pub after : Visitor
  pub printed : List ℕ
  pub idles : Idles step n before.session old new after count printed
  pub all : whole ≡ true → after.unsaid ≡ []
  pub stands : StandsForSeated seat next heard p (with_session after before)
  pub out : text_after ≡ text ++ printed

-- Memory was refused for a turn: the seat stands for the session as it was, and nothing was printed.
pub record Missed {S : Type 0} (step : S → Call → Answer → S → Type 0) (seat : ℕ) (next : CopyKey) (heard : List Noted) (before : SeatedVisitor)
    (old new : S) (text text_after : List ℕ) (p : SeatedSession) : Type 0 where
  pub starves : Starves step old new
  pub stands : StandsForSeated seat next heard p before
  pub out : text_after ≡ text

-- The same, or the turn was made, and its words wait to be printed.
abbrev pub IdledInPart : {S : Type 0} → (S → Call → Answer → S → Type 0) → (seat n : ℕ) → CopyKey → List Noted → SeatedVisitor → S → S → List ℕ
    → List ℕ → SeatedSession → Type 0
IdledInPart step seat n next heard before old new text text_after p = Missed step seat next heard before old new text text_after p
    ⊎ ((count : ℕ) × Idled step false seat n count next heard before old new text text_after p)
