-- A mailbox under its lock, beside the right to say what happens there.
use Rattle.std.specs.Prelude.{◌≡◌, ℕ, ◌<◌, ◌++◌, ◌∷◌, [], ◌⊎◌, List, length, slice_index_or, slice_set, Result, Ok, Err, Option, Some, None, All}
use Rattle.std.specs.Borrow.{MutBor}
use Rattle.std.specs.Fn.{Once}
use mathlib.Core.List.{IsPrefix}
use Rattle.delivery_token.specs.declared.CopyKey.{CopyKey}
use Rattle.delivery_token.specs.declared.Job.{Job}
use Rattle.delivery_token.specs.declared.Refusal.{Refusal}
use Rattle.delivery_token.specs.declared.Refusal.TheVariants.{NoMemory}
use Rattle.delivery_token.specs.declared.Verdict.{Verdict}
use Rattle.delivery_token.specs.declared.Verdict.TheVariants.{Refused}
use Rattle.delivery_token.specs.Keys.{Below, Precedes}
use Rattle.mailbox.specs.Answers.{verdict_of}
use Rattle.mailbox.specs.declared.mailbox.Receipt.{Receipt}
use Rattle.mailbox.specs.Mailbox.{Mailbox, Message, Stands}
use Rattle.workers_sync.specs.Holds.{DoesDeliver}
use Rattle.shared_history.specs.Pages.{part}
use Rattle.house_history.specs.declared.event.Event.{Event}
use Rattle.house_history.specs.declared.event.Event.TheVariants.{Judged}
use Rattle.house_history.specs.Events.{accepted_in, changes_in, concerns, judged_in}
use Rattle.house_history.specs.Legal.{HasText, Legal, WasJudged}

-- What contracts see: the mailbox, all that happened there, of each seat the last key on which there was a verdict there, and how the history begins
-- that was seen at the last delivery.
pub record LockedMailbox : Type 0 where
  pub mailbox : Mailbox
  pub events : List Event
  pub last : List (Option CopyKey)
  pub history : List Event

-- the key isn't above the last one
abbrev pub NotAbove : Option CopyKey → CopyKey → Type 0
NotAbove None key = ⊥
NotAbove (Some last) key = (key ≡ last) ⊎ Below key last

-- The mailbox is as these events leave it: it stands for their log, has accepted just their copies, and the text of each message that is there is
-- that of the copy which was stored under its UID. Of each seat, no key on which there was a verdict is above the last one that is kept.
pub record Keeps (m : Mailbox) (number : ℕ) (events : List Event) (last : List (Option CopyKey)) : Type 0 where
  pub here : number ≡ m.number
  pub log : Stands m (changes_in number events)
  pub accepted : m.accepted ≡ accepted_in number events
  pub texts : All (λ (message : Message). HasText events number message.uid message.text) m.messages
  pub above : (p : ℕ) → All (λ j. NotAbove (slice_index_or last p None) j.key) (judged_in number p events)

-- ---- deliveries

-- the copy is for this mailbox, its seat is one of the house, and its key is above the last one of that seat
pub record IsNext (found : LockedMailbox) (job : Job) : Type 0 where
  pub here : job.mailbox ≡ found.mailbox.number
  pub seat : job.key.seat < length found.last
  pub above : (last : CopyKey) → slice_index_or found.last job.key.seat None ≡ Some last → Precedes last job.key

-- The copy was delivered, and nothing else was done; the verdict is that delivery's answer.
pub record IsDelivered (job : Job) (verdict : Verdict) (found left : Mailbox) : Type 0 where
  pub delivered : Result Receipt Refusal
  pub does : DoesDeliver found job delivered left
  pub tells : verdict ≡ verdict_of delivered

-- The copy was delivered, and this alone was said of it: the verdict on it, which is that delivery's answer. Who looks at what is known here finds
-- the verdict there, and all that has happened here.
pub record Judges (job : Job) (verdict : Verdict) (found left : LockedMailbox) : Type 0 where
  pub delivered : IsDelivered job verdict found.mailbox left.mailbox
  pub said : (ticket : ℕ) × (left.events ≡ found.events ++ Judged job verdict ticket ∷ [])
  pub last : left.last ≡ slice_set found.last job.key.seat (Some job.key)
  pub goes_on : IsPrefix found.history left.history
  pub legal : Legal left.history
  pub told : WasJudged left.history job verdict
  pub own : part concerns found.mailbox.number left.history ≡ left.events

-- By the copy: the next one is delivered; of any other nothing is done and nothing is said, and it is refused.
pub data Answers (job : Job) (verdict : Verdict) (found left : LockedMailbox) : Type 0 where
  judges : IsNext found job → Judges job verdict found left → Answers job verdict found left
  declines : (IsNext found job → ⊥) → verdict ≡ Refused NoMemory → left ≡ found → Answers job verdict found left

-- A lock was taken: this was found, this was done to it, it was left like that, and the lock was let go. Of what one hold leaves and the next one
-- finds nothing is said.
abbrev pub InOneHold : {V : Type 0} → (V → V → Type 0) → Type 0
InOneHold {V} P = (found : V) × (left : V) × P found left

-- at `&mut`s to x and y the call may give r, and leave x' and y' there
pub record ReturnsLent {F T A R : Type 0} (g : Once F (MutBor T × (MutBor A × Unit {0})) (R × (MutBor T × (MutBor A × Unit {0})))) (f : F) (x : T)
    (y : A) (r : R) (x' : T) (y' : A) : Type 0 where
  pub shown : MutBor T
  pub shows : shown.now ≡ x
  pub lent : MutBor A
  pub lends : lent.now ≡ y
  pub left : MutBor T
  pub back : MutBor A
  pub met : g.post f (shown, (lent, tt)) (r, (left, (back, tt)))
  pub leaves : left.now ≡ x'
  pub gives : back.now ≡ y'

-- ---- what clients do

-- what is said of a call: its event where it was Ok, and nothing where it was refused
abbrev pub on_ok : {A F : Type 0} → Result A F → Event → List Event
on_ok (Ok x) event = event ∷ []
on_ok (Err fault) event = []

module _ (found left : LockedMailbox) where
  -- Who held the mailbox knows how the history begins, with all that has happened here: what had happened when it was found, with all that was known
  -- before, and then just what was said. The mailbox that was found stood for the log that its events had made; the one that was left stands for the
  -- log that they make now, which is the history's.
  pub record Knows (said : List Event) (before after : List Event) : Type 0 where
    pub goes_on : IsPrefix before after
    pub legal : Legal after
    pub same : left.mailbox.number ≡ found.mailbox.number
    pub last : left.last ≡ found.last
    pub history : left.history ≡ found.history
    pub seen : IsPrefix (part concerns found.mailbox.number before) found.events
    pub events : left.events ≡ found.events ++ said
    pub own : part concerns found.mailbox.number after ≡ left.events
    pub all : changes_in found.mailbox.number after ≡ changes_in found.mailbox.number left.events
    pub found_log : Stands found.mailbox (changes_in found.mailbox.number found.events)
    pub left_log : Stands left.mailbox (changes_in found.mailbox.number left.events)
