-- What a session at its seat holds, as contracts see it, and when that stands for one.
use Rattle.std.specs.Option.{is_some}
use Rattle.std.specs.Prelude.{◌≡◌, ◌<◌, ℕ, ◌+◌, ◌*◌, ◌⊎◌, Bool, true, false, List, [], ◌∷◌, ◌++◌, length, Option, Some, None}
use Rattle.delivery_token.specs.declared.CopyKey.{CopyKey}
use Rattle.delivery_token.specs.Keys.{AtLeast}
use Rattle.delivery_token.specs.declared.Job.{Job}
use Rattle.delivery_token.specs.declared.Verdict.{Verdict}
use Rattle.delivery_token.specs.declared.log.Noted.{Noted}
use Rattle.delivery_token.specs.Copies as submission
use Rattle.delivery_token.specs.Copies.{put_effort, SlotsFor}
use Rattle.delivery_token.specs.Verdicts as verdicts
use Rattle.delivery_token.specs.Verdicts.{Hears}
use Rattle.imap_session.specs.Exchange.{Call, Answer, Sent}
use Rattle.imap_session.specs.Store.{IdleTurns, to_follow}
use Rattle.house_peers.specs.Visitor.{HasAnswered, Visitor, Proceeds, SeatedVisitor, copies_of, keys_of, sent_by}
use Rattle.house_peers.specs.HouseSession as place
use Rattle.house_peers.specs.HouseSession.{HouseSession}

-- the session at its place, its seat and serial, whether its client is gone, and of the copy that was put the verdict, or None while that is awaited
pub record SeatedSession : Type 0 where
  pub place : HouseSession
  pub number : ℕ
  pub serial : ℕ
  pub gone : Bool
  pub slots : List (Option Verdict)

abbrev pub submitted_at : SeatedSession → Option Sent
submitted_at p = p.place.link.session.mailing.sent

-- the copy of the message at hand, where that is still to be put
abbrev pub due : SeatedSession → List Job
due p = submission.due (copies_of p.number p.serial (submitted_at p)) p.slots

-- How much is left to do for a session. Each copy that is put counts 5 (`put_effort`): that of the message at hand, where it is to be put, and those
-- that follow it. A byte that waits may end a command that copies 32,768 messages, so it counts more than all of these, and it becomes less by each
-- that is taken.
abbrev pub seat_effort : SeatedSession → ℕ
seat_effort p = 163841 * length p.place.came + (put_effort (due p) + 5 * to_follow (submitted_at p))

module _ (seat serial number : ℕ) where
  -- the key of the next copy: of the message that was submitted, or of the next one
  abbrev pub key_with : Option Sent → List (Option Verdict) → CopyKey
  key_with None slots = record { seat = seat; serial = serial; message = number; recipient = 0 }
  key_with (Some sent) slots = record { seat = seat; serial = serial; message = sent.append.message; recipient = length slots }

module _ (seat : ℕ) (next : CopyKey) (heard : List Noted) where
  -- At this seat, which has heard these verdicts and may use keys from `next` on, it stands for this session. Of one whose client is gone only the
  -- message that it submitted matters.
  pub record StandsForSeated (p : SeatedSession) (v : SeatedVisitor) : Type 0 where
    pub place : p.gone ≡ false → place.StandsFor p.place v.session
    pub submitted : submitted_at p ≡ sent_by v
    pub number : p.number ≡ seat
    pub serial : p.serial ≡ v.serial
    pub gone : p.gone ≡ v.gone
    pub to_put : v.to_put ≡ submission.due (copies_of seat v.serial (sent_by v)) p.slots
    pub verdicts : SlotsFor heard (keys_of seat v.serial (sent_by v)) p.slots
    -- the message that was submitted has a number below the next one's
    pub numbered : (sent : Sent) → sent_by v ≡ Some sent → sent.append.message < v.session.standing.mailing.number
    pub ahead : AtLeast next (key_with seat v.serial v.session.standing.mailing.number (sent_by v) p.slots)

abbrev pub with_slots : List (Option Verdict) → SeatedSession → SeatedSession
with_slots slots p = record { place = p.place; number = p.number; serial = p.serial; gone = p.gone; slots = slots }

abbrev pub with_place : HouseSession → SeatedSession → SeatedSession
with_place new p = record { place = new; number = p.number; serial = p.serial; gone = p.gone; slots = p.slots }

-- The verdict is noted at its copy's position, where it is awaited, and nothing else is changed.
pub record HearsVerdict (p : SeatedSession) (r : Noted) (new : SeatedSession) : Type 0 where
  pub hears : Hears (keys_of p.number p.serial (submitted_at p)) p.slots r new.slots
  pub rest : new ≡ with_slots new.slots p

-- the copy was put, and this was heard of it at once
abbrev pub noted_put : Option Verdict → SeatedSession → SeatedSession
noted_put verdict p = with_slots (verdicts.noted_put verdict p.slots) p

-- its client is gone: what waited and what was still to be printed is dropped
abbrev pub with_nobody_there : SeatedSession → SeatedSession
with_nobody_there p = record {
  place = record { link = p.place.link; came = []; unsaid = [] };
  number = p.number;
  serial = p.serial;
  gone = true;
  slots = p.slots;
}

-- the verdict on the message at hand is known
abbrev pub IsHeard : SeatedSession → Type 0
IsHeard p = (v : Verdict) × verdicts.AreKnown 1 p.slots (v ∷ [])

-- There is something to be done: the session goes on, and bytes wait and no verdict is awaited, or the one that is awaited is known.
pub record HasWork (p : SeatedSession) : Type 0 where
  pub there : p.gone ≡ false
  pub going : p.place.link.session.ended ≡ false
  pub what : ((submitted_at p ≡ None) × (0 < length p.place.came)) ⊎ ((is_some (submitted_at p) ≡ true) × IsHeard p)

-- From this session at its seat what could be done was done, and nothing of what it said is printed yet.
pub record Proceeded {S : Type 0} (step : S → Call → Answer → S → Type 0) (whole : Bool) (seat : ℕ) (next : CopyKey) (heard : List Noted)
    (before : SeatedVisitor) (old new : S) (p : SeatedSession) : Type 0 where
  pub after : SeatedVisitor
  pub said : List ℕ
  pub proceeds : Proceeds step whole seat heard before old new after said
  pub kept : after.session.unsaid ≡ before.session.unsaid ++ said
  pub all : whole ≡ true → before.gone ≡ false → HasAnswered after.session
  pub stands : StandsForSeated seat next heard p after

-- From this session at its seat it had a turn while it idles, which showed so many changes, and nothing of that is printed yet.
pub record SeatedTurned {S : Type 0} (step : S → Call → Answer → S → Type 0) (count : ℕ) (seat : ℕ) (next : CopyKey) (heard : List Noted)
    (before : SeatedVisitor) (old new : S) (p : SeatedSession) : Type 0 where
  pub session : Visitor
  pub said : List ℕ
  pub turned : IdleTurns step before.session.standing old new [] said count session.standing
  pub kept : session.unsaid ≡ before.session.unsaid ++ said
  pub waits : session.waits ≡ before.session.waits
  pub stands : StandsForSeated seat next heard p (record { session = session; serial = before.serial; gone = before.gone; to_put = before.to_put })
