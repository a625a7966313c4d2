-- What a session's store answers, so that a client may believe what it is told of flags.
use Rattle.std.specs.Prelude.{◌≡◌, ℕ, ◌+◌, ◌≤◌, List, [], ◌∷◌, ◌++◌, length, drop, Some}
use Rattle.change_ring.specs.declared.change.Change.{Change}
use Rattle.change_ring.specs.Log.{IsLegalLog}
use Rattle.imap_session.specs.Exchange.{Call, Answer, Event, Entered, Found, Fed, Expunged, Altered, Left, Read, Alter}
use Rattle.session_thread.specs.ByHistory.{flags_in}
use Rattle.laws_client.specs.Beliefs.{Follows}
use Rattle.laws_client.specs.Client.{Known}
use Rattle.laws_client.specs.ListTurns.{Sees}
use Rattle.laws_client.specs.Flags.{Believes, KnowsFlags, Point, counted}

-- the changes that an answer shows
abbrev pub shown_in : Answer → List Change
shown_in (Fed met changes) = changes
shown_in (Expunged met changes gone) = changes
shown_in answer = []

-- The flags in an answer are those that the message has when all was logged that the call led to: of a row that was read, also where that set \Seen,
-- and of a message whose flags were altered.
abbrev pub TellsFlags : Point → Call → Answer → Type 0
TellsFlags p (Read uid mark) (Found (Some row)) = flags_in uid p.log ≡ Some row.flags
TellsFlags p (Alter uid change) (Altered (Some flags)) = flags_in uid p.log ≡ Some flags
TellsFlags p call answer = Unit {0}

-- From this point a call and its answer lead to that one.
pub record SeesFlags (p : Point) (event : Event) (q : Point) : Type 0 where
  -- of UIDs and numbers it is as it has to be
  pub sees : Sees (counted p) event (counted q)
  pub legal : IsLegalLog p.log
  pub within : p.cursor ≤ length p.log
  -- what is shown are the first of the changes that were pending, and the cursor moves over these
  pub rest : List Change
  pub shows : drop p.cursor p.log ≡ shown_in event.answer ++ rest
  pub cursor : q.cursor ≡ p.cursor + length (shown_in event.answer)
  -- the log grows
  pub later : List Change
  pub log : q.log ≡ p.log ++ later
  pub tells : TellsFlags q event.call event.answer

-- unless a mailbox is entered or left, where nothing is asked: what is known of flags ends there, or begins
abbrev pub IfInside : Answer → Type 0 → Type 0
IfInside (Entered opening) P = Unit {0}
IfInside (Left gone) P = Unit {0}
IfInside answer P = P

-- and so do these, one after the other, with nothing else between them
abbrev pub SeesAllFlags : Point → List Event → Point → Type 0
SeesAllFlags p [] q = q ≡ p
SeesAllFlags p (event ∷ events) q = (mid : Point) × IfInside event.answer (SeesFlags p event mid) × SeesAllFlags mid events q

-- each client that is right about flags at the one point reads these bytes, and is right about them at the other
abbrev pub LeadsFlags : Point → List ℕ → Point → Type 0
LeadsFlags p bytes q = (list : List Known) → KnowsFlags p list → Follows (Believes q) list bytes (counted q)

-- a text after which it is as right as before
abbrev pub LeavesFlags : Point → List ℕ → Type 0
LeavesFlags p text = LeadsFlags p text p
