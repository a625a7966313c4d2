-- The copies of a message that was submitted, and the verdicts on them.
use Rattle.std.specs.Prelude.{ℕ, ◌*◌, List, [], ◌∷◌, drop, length, Option, ◌≡◌, ◌<◌, ◌≤◌, slice_index_or, Contains, Some, None, filter_map, ◌==◌, if◌then◌else◌}
use Rattle.change_ring.specs.declared.change.Flags.{Flags}
use Rattle.delivery_token.specs.declared.CopyKey.{CopyKey}
use Rattle.delivery_token.specs.Text.{Text}
use Rattle.delivery_token.specs.declared.Job.{Job}
use Rattle.delivery_token.specs.declared.Verdict.{Verdict}
use Rattle.delivery_token.specs.declared.log.Noted.{Noted}
use Rattle.delivery_token.specs.declared.Refusal.{Refusal}
use Rattle.delivery_token.specs.declared.Verdict.TheVariants.{Stored, Refused}

-- the copies of a message, in the order of its recipients: the i-th key and the i-th mailbox are those of the i-th, and all have this text and these
-- flags
abbrev pub copies : List CopyKey → List ℕ → Text → Flags → List Job
copies [] mailboxes text flags = []
copies (key ∷ keys) [] text flags = []
copies (key ∷ keys) (mailbox ∷ mailboxes) text flags = record { key = key; mailbox = mailbox; text = text; flags = flags }
    ∷ copies keys mailboxes text flags

-- Those that are still to be put: of each that was put there is a slot, with the verdict on it or with none yet.
abbrev pub due : List Job → List (Option Verdict) → List Job
due copies slots = drop (length slots) copies

-- how much is left to do for them: each is put, taken, delivered, answered and heard
abbrev pub put_effort : List Job → ℕ
put_effort copies = 5 * length copies

-- ---- the verdicts on a message's copies, by what its seat has heard

-- what was heard for a key: this verdict, or none yet
abbrev pub SlotFor : List Noted → CopyKey → Option Verdict → Type 0
SlotFor heard key (Some v) = (m : ℕ) × Contains heard (record { key = key; mailbox = m; verdict = v })
SlotFor heard key None = (r : Noted) → Contains heard r → r.key ≡ key → ⊥

-- the same for the first of these keys, as many as there are slots
pub record SlotsFor (heard : List Noted) (keys : List CopyKey) (slots : List (Option Verdict)) : Type 0 where
  pub few : length slots ≤ length keys
  pub each : (i : ℕ) (key : CopyKey) (slot : Option Verdict) → i < length slots
      → SlotFor heard (slice_index_or keys i key) (slice_index_or slots i slot)

-- the i-th verdict is the one that was heard for the i-th key
abbrev pub HeardFor : List Noted → List CopyKey → List Verdict → Type 0
HeardFor heard [] [] = Unit {0}
HeardFor heard [] (v ∷ vs) = ⊥
HeardFor heard (key ∷ keys) [] = ⊥
HeardFor heard (key ∷ keys) (v ∷ vs) = ((m : ℕ) × Contains heard (record { key = key; mailbox = m; verdict = v })) × HeardFor heard keys vs

-- every copy of the message was put, and for each key a verdict was heard
pub record AreAnswered (heard : List Noted) (to_put : List Job) (keys : List CopyKey) (verdicts : List Verdict) : Type 0 where
  pub put : to_put ≡ []
  pub each : HeardFor heard keys verdicts

-- ---- what the verdicts that were noted say of a mailbox

-- key and UID of a note with this verdict, if it says that its copy was stored in the mailbox
abbrev pub stored_pair : ℕ → Noted → Verdict → Option (CopyKey × ℕ)
stored_pair mailbox noted (Stored uid) = if noted.mailbox == mailbox then Some (noted.key, uid) else None
stored_pair mailbox noted (Refused why) = None

-- key and UID, if the copy was stored in the mailbox
abbrev pub stored_for : ℕ → Noted → Option (CopyKey × ℕ)
stored_for mailbox noted = stored_pair mailbox noted noted.verdict

-- key and UID of each copy that was stored in the mailbox, in the order of the notes
abbrev pub stored_in : ℕ → List Noted → List (CopyKey × ℕ)
stored_in mailbox notes = filter_map (stored_for mailbox) notes

-- what a seat hears at once of a copy that it put: that it was refused, where it was
abbrev pub heard_at_once : CopyKey → ℕ → Option Refusal → List Noted
heard_at_once key mailbox None = []
heard_at_once key mailbox (Some why) = record { key = key; mailbox = mailbox; verdict = Refused why } ∷ []
