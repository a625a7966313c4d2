-- The life of a session's thread: its steps, one after another, over mailboxes behind locks.
use Rattle.std.specs.Prelude.{◌≡◌, ℕ, suc, ◌+◌, ◌<◌, ◌≤◌, ◌⊎◌, Bool, true, false, List, [], ◌∷◌, ◌++◌, length, take, drop, Option, None, Some}
use Rattle.delivery_token.specs.declared.Verdict.{Verdict}
use Rattle.workers_sync.specs.Carried.{Carried}
use Rattle.workers_sync.specs.declared.courier.Lost.{Lost}
use Rattle.workers_sync.specs.declared.courier.Lost.TheVariants as lost
use Rattle.mailbox.specs.declared.clients.MailFault.TheVariants.{NoMemory}
use Rattle.mailbox.specs.Events.{IsStranger}
use Rattle.mailbox.specs.Mailbox.{IsKept}
use Rattle.workers_sync.specs.Holds.{UnderLock}
use Rattle.imap_session.specs.declared.standing.After.{After}
use Rattle.imap_session.specs.declared.standing.After.TheVariants.{Submit}
use Rattle.imap_session.specs.declared.standing.Append.{Append}
use Rattle.imap_session.specs.declared.standing.Profile.TheVariants.{Standard}
use Rattle.imap_session.specs.Exchange.{Admission, Feed, Folder, Leave, Left, Refused, Sent, Standing, begun_with, is_idling, may_send}
use Rattle.imap_session.specs.Happenings.{kept_tag, answer_room, tag_len}
use Rattle.imap_session.specs.Commands.{most_changes}
use Rattle.imap_session.specs.Store.{AnswersVerdict, IdleTurns}
use Rattle.imap_session.specs.Dialogue.{Answered, Dialogue, may_follow}
use Rattle.house_history.specs.Legal.{HasUid}
use Rattle.settings.specs.declared.step.Step.{Step}
use Rattle.settings.specs.declared.step.Step.TheVariants.{Say, Await}
use Rattle.session_thread.specs.Locks.{Holds, In, LockedStore, shown_in}

-- where a session stands: its client's dialogue, its handle, and all that was written
pub record Moment : Type 0 where
  pub dialogue : Dialogue
  pub selection : LockedStore
  pub text : List ℕ

abbrev pub moment : Dialogue → LockedStore → List ℕ → Moment
moment dialogue selection text = record { dialogue = dialogue; selection = selection; text = text }

-- A session of a plan has the standard profile, and its client is known already. It takes messages of at most so many bytes, or none
abbrev pub known_client : Option ℕ → Admission
known_client most = record { most = most; profile = Standard; login = None }

-- the first moment of such a session with these mailboxes, which has been greeted
abbrev pub greeted_at : Option ℕ → List Folder → LockedStore → List ℕ → Moment
greeted_at most folders selection text = record {
  dialogue = record { standing = begun_with (known_client most) folders; begun = [] };
  selection = selection;
  text = text;
}

-- its client may send more: it goes on, and awaits no verdict on a message
abbrev pub takes_more : Standing → Bool
takes_more now = may_follow (may_send now)

-- ---- turns

-- The session had one turn while it idles.
pub record HasTurn (before after : Moment) : Type 0 where
  pub count : ℕ
  pub turned : IdleTurns Holds before.dialogue.standing before.selection after.selection before.text after.text count after.dialogue.standing
  pub begun : after.dialogue.begun ≡ before.dialogue.begun

-- The session idled, and had one turn, which showed so many changes.
abbrev pub HasShown : ℕ → Moment → Moment → Type 0
HasShown count before after = (is_idling before.dialogue.standing ≡ true) × ((turn : HasTurn before after) × (turn.count ≡ count))

-- Nothing is left to wait for: so many changes were shown since the mailbox was selected, or the session doesn't idle, or has ended.
abbrev pub IsOver : ℕ → Moment → Type 0
IsOver count now = (count ≤ shown_in now.selection.entered) ⊎ (is_idling now.dialogue.standing ≡ false)

-- So many turns were had, one after another, each while there was something to wait for.
pub data Turns (count : ℕ) (first : Moment) : ℕ → Moment → Type 0 where
  none : Turns count first 0 first
  another : (k : ℕ) (now next : Moment) → Turns count first k now → (IsOver count now → ⊥) → HasTurn now next → Turns count first (suc k) next

-- ---- what the client says

-- So many of these bytes were taken, from the front, and each line that ended in them was answered.
pub record SaysFirst (bytes : List ℕ) (used : ℕ) (before after : Moment) : Type 0 where
  pub within : used ≤ length bytes
  pub said : List ℕ
  pub how : After
  pub answered : Answered Holds before.dialogue (take used bytes) before.selection after.selection said how after.dialogue
  pub wrote : after.text ≡ before.text ++ said

-- a message that was submitted, with what became of it
abbrev pub carried_of : Append → Verdict → Carried
carried_of append verdict = record { message = append.message; mailbox = append.mailbox; text = append.text; flags = append.flags; verdict = verdict }

-- The message that was submitted was carried to its mailbox, and the verdict on it was answered.
pub record TellsVerdict (one : Carried) (before after : Moment) : Type 0 where
  pub sent : Sent
  pub awaited : before.dialogue.standing.mailing.sent ≡ Some sent
  pub carries : one ≡ carried_of sent.append one.verdict
  pub uid : HasUid one.verdict
  pub how : After
  pub answered : AnswersVerdict Holds before.dialogue.standing one.verdict before.selection after.selection before.text after.text how
      after.dialogue.standing
  pub begun : after.dialogue.begun ≡ before.dialogue.begun

-- So many of these bytes were taken, in one go or in several. Each line that ended in them was answered, and so was, before anything more was taken,
-- the verdict on each message that was submitted there: these, in this order.
pub data Speaks (bytes : List ℕ) (first : Moment) : ℕ → List Carried → Moment → Type 0 where
  silent : Speaks bytes first 0 [] first
  takes : (used more : ℕ) (carried : List Carried) (now next : Moment) → Speaks bytes first used carried now → takes_more now.dialogue.standing ≡ true
      → SaysFirst (drop used bytes) more now next → Speaks bytes first (used + more) carried next
  hears : (used : ℕ) (carried : List Carried) (one : Carried) (now next : Moment) → Speaks bytes first used carried now → TellsVerdict one now next
      → Speaks bytes first used (carried ++ one ∷ []) next

-- The bytes were taken, to their end or to the line that ended the session, and no verdict is awaited any more.
pub record Says (bytes : List ℕ) (carried : List Carried) (before after : Moment) : Type 0 where
  pub used : ℕ
  pub speaks : Speaks bytes before used carried after
  pub all : ((used ≡ length bytes) × (takes_more after.dialogue.standing ≡ true)) ⊎ (after.dialogue.standing.ended ≡ true)

-- ---- steps

-- Turns were had until enough was shown, the session idled no more, or its turns were spent.
pub record Awaits (turns count : ℕ) (before after : Moment) : Type 0 where
  pub had : ℕ
  pub within : had ≤ turns
  pub turned : Turns count before had after
  pub enough : (had ≡ turns) ⊎ IsOver count after

module _ (turns : ℕ) where
  -- what a step of a session does whose client may send more, and which messages it carried
  abbrev pub Does : Step → List Carried → Moment → Moment → Type 0
  Does (Say bytes) carried before after = Says bytes.items carried before after
  Does (Await count) carried before after = (carried ≡ []) × Awaits turns count before after

  -- One step: a session that has ended, or awaits a verdict, does nothing.
  abbrev pub Steps : Step → List Carried → Moment → Moment → Type 0
  Steps step carried before after =
      ((takes_more before.dialogue.standing ≡ false) × (carried ≡ []) × (after ≡ before))
      ⊎ ((takes_more before.dialogue.standing ≡ true) × Does step carried before after)

-- These steps were made, and these messages were carried on the way, in this order.
pub data Lives (turns : ℕ) (first : Moment) : List Step → List Carried → Moment → Type 0 where
  begins : Lives turns first [] [] first
  goes_on : (steps : List Step) (step : Step) (carried more : List Carried) (now next : Moment) → Lives turns first steps carried now
      → Steps turns step more now next
      → Lives turns first (steps ++ step ∷ []) (carried ++ more) next

-- ---- where it stops

-- A session is short of room where it stands: what it writes to takes so many bytes more, too few for the next line's last words and their like.
abbrev pub IsShort : ℕ → Moment → Type 0
IsShort room now = room < answer_room + tag_len (kept_tag now.dialogue.standing)

-- A turn was refused memory where the session stands: it is short of room, or its mailbox refused the turn.
abbrev pub IsShortInTurn : ℕ → Moment → Type 0
IsShortInTurn room now = IsShort room now ⊎ Holds now.selection (Feed most_changes) (Refused NoMemory) now.selection

module _ (room : ℕ) (bytes : List ℕ) (why : Lost) where
  -- Of these bytes some were taken, and then the session stopped: it was short of room, or no verdict came on the message that it had submitted.
  pub data SaysInPart (before after : Moment) : Type 0 where
    short : (used : ℕ) (carried : List Carried) → Speaks bytes before used carried after → IsShort room after → why ≡ lost.NoMemory
        → SaysInPart before after
    unheard : (used : ℕ) (carried : List Carried) → Speaks bytes before used carried after → may_send after.dialogue.standing ≡ Submit
        → SaysInPart before after

-- A step was begun, and the session stopped in it: so it was with its bytes; or some of its turns were had, memory was refused, and there was still
-- something to wait for.
abbrev pub StopsIn : ℕ → ℕ → Step → Lost → Moment → Moment → Type 0
StopsIn turns room (Say bytes) why before after = SaysInPart room bytes.items why before after
StopsIn turns room (Await count) why before after =
    (had : ℕ) × (had < turns) × Turns count before had after × (IsOver count after → ⊥) × IsShortInTurn room after × (why ≡ lost.NoMemory)

-- The first of these steps were made, and in the next the session stopped.
pub record LivesInPart (turns room : ℕ) (first : Moment) (steps : List Step) (why : Lost) (last : Moment) : Type 0 where
  pub made : List Step
  pub step : Step
  pub others : List Step
  pub are : steps ≡ made ++ step ∷ others
  pub carried : List Carried
  pub now : Moment
  pub lives : Lives turns first made carried now
  pub goes : takes_more now.dialogue.standing ≡ true
  pub stops : StopsIn turns room step why now last

-- ---- the end

-- How a session goes: it was in no mailbox, and no lock was taken; or it left the one that it was in, without removal, in one hold.
abbrev pub Departs : LockedStore → LockedStore → Type 0
Departs old new = ((old.entered ≡ None) × (new ≡ old)) ⊎ ((gone : ℕ) × Holds old (Leave false) (Left gone) new)

-- The mailbox that was found doesn't know the handle of the session, and was left as it was; the session has its handle still.
abbrev pub IsForgotten : LockedStore → LockedStore → Type 0
IsForgotten old new = (new ≡ old) × In old (λ here. UnderLock (λ found left. IsKept found × (left ≡ found) × IsStranger found here.handle))
