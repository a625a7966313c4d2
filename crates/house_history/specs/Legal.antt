-- Which histories are legal, and what follows of them.
use Rattle.std.specs.Prelude.{◌≡◌, ◌<◌, ◌^◌, ℕ, List, [], ◌∷◌, All, AllPairs, Contains}
use Rattle.change_ring.specs.Log.{IsLegalLog}
use Rattle.delivery_token.specs.Keys.{Below}
use Rattle.delivery_token.specs.Text.{Text}
use Rattle.delivery_token.specs.declared.Job.{Job}
use Rattle.delivery_token.specs.declared.Verdict.{Verdict}
use Rattle.delivery_token.specs.declared.Verdict.TheVariants.{Stored, Refused}
use Rattle.house_history.specs.declared.event.Event.{Event}
use Rattle.house_history.specs.declared.event.Event.TheVariants.{Sent, Withdrawn, Judged, Changed}
use Rattle.house_history.specs.Events.{changes_in, judged_in, life, sent_by, accepted_in}
use Rattle.world.specs.Law.{StandsOnce}

-- of one seat, i is before j
abbrev pub IsBefore : Job → Job → Type 0
IsBefore i j = Below i.key j.key

-- What may become of a copy: it is sent, and then judged once, as the very copy that was sent, or withdrawn. What it was sent with, its mailbox, its
-- text and its flags, is in j.
pub data IsLife (t : ℕ) : List Event → Type 0 where
  unused : IsLife t []
  under_way : (j : Job) → IsLife t (Sent j t ∷ [])
  judged : (j : Job) (v : Verdict) → IsLife t (Sent j t ∷ Judged j v t ∷ [])
  withdrawn : (j : Job) → IsLife t (Sent j t ∷ Withdrawn t ∷ [])

-- A UID is a number of 32 bits (RFC 9051, 2.3.1.1).
abbrev pub HasUid : Verdict → Type 0
HasUid (Stored uid) = uid < 2 ^ 32
HasUid (Refused why) = Unit {0}

abbrev pub GivesUid : Event → Type 0
GivesUid (Judged j v t) = HasUid v
GivesUid event = Unit {0}

pub record Legal (log : List Event) : Type 0 where
  -- of each seat, the keys of what it sent rise
  pub sent_rise : (p : ℕ) → AllPairs (λ a b. IsBefore a.0 b.0) (sent_by p log)
  -- each copy is sent once, before it is judged, and judged once at most; one that is withdrawn is never judged
  pub lives : (t : ℕ) → IsLife t (life t log)
  -- of each seat, in each mailbox, the keys of what was judged rise
  pub judged_rise : (m p : ℕ) → AllPairs IsBefore (judged_in m p log)
  -- of each mailbox, the UIDs that it gave rise, and no change speaks of a message that isn't there
  pub logs : (m : ℕ) → IsLegalLog (changes_in m log)
  -- and each of them is one
  pub uids : All GivesUid log

-- Words for what a history says of a copy. Each holds of any longer history too.

-- there is this verdict on the copy
abbrev pub WasJudged : List Event → Job → Verdict → Type 0
WasJudged log j v = (t : ℕ) × Contains log (Judged j v t)

-- the copy was stored in its mailbox under this UID, whether its message is gone since or not
abbrev pub Stands : List Event → Job → ℕ → Type 0
Stands log j u = WasJudged log j (Stored u)

-- its seat has sent it, and withdrawn it
abbrev pub WasWithdrawn : List Event → Job → Type 0
WasWithdrawn log j = (t : ℕ) × Contains (sent_by j.key.seat log) (j, t) × Contains log (Withdrawn t)

-- the message with this UID in mailbox m has this text: that of the copy which was stored there under it
abbrev pub HasText : List Event → ℕ → ℕ → Text → Type 0
HasText log m uid text = (j : Job) × (j.mailbox ≡ m) × (j.text ≡ text) × Stands log j uid

-- ---- what follows of a legal history

-- The copy's key stands among those that its mailbox accepted under this UID, at one position; under any other UID it doesn't stand there, and in any
-- other mailbox it doesn't stand at all.
pub record StandsAlone (log : List Event) (j : Job) (uid : ℕ) : Type 0 where
  pub once : StandsOnce (accepted_in j.mailbox log) j.key uid
  pub nowhere_else : (m w : ℕ) → Contains (accepted_in m log) (j.key, w) → (m ≡ j.mailbox) × (w ≡ uid)
