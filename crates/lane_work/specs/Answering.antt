-- What a consumer does with the copies that it takes: each is delivered under a lock, and its producer is told.
use Rattle.std.specs.Prelude.{◌≡◌, ◌⊎◌, ℕ, ◌<◌, ◌≤◌, List, [], ◌∷◌, ◌++◌, map, slice_index_or, slice_set, Bool, false, not, nat_lt, ◌&&◌}
use Rattle.delivery_token.specs.declared.Job.{Job}
use Rattle.delivery_token.specs.declared.Refusal.TheVariants.{NoMemory}
use Rattle.delivery_token.specs.declared.Verdict.{Verdict}
use Rattle.delivery_token.specs.declared.Verdict.TheVariants.{Refused}
use Rattle.delivery_token.specs.declared.log.Noted.{Noted}
use Rattle.locked_mailbox.specs.Locking.{Answers, InOneHold}
use Rattle.shard_queue.specs.declared.lane.Entry.{Entry}
use Rattle.shard_queue.specs.declared.lane.Entry.TheVariants.{Item, End}

-- The verdict on a copy, in a house of so many mailboxes: what was answered in one hold of its mailbox's lock, in which nothing else was done. Which
-- copies are delivered, and which are refused, `Answers` says. Where its mailbox isn't there it is refused.
pub data IsVerdict (mailboxes : ℕ) (job : Job) (verdict : Verdict) : Type 0 where
  held : job.mailbox < mailboxes → InOneHold (Answers job verdict) → IsVerdict mailboxes job verdict
  nowhere : mailboxes ≤ job.mailbox → verdict ≡ Refused NoMemory → IsVerdict mailboxes job verdict

-- whether it is a copy of a house with so many mailboxes and channels: its producer has a channel, and its mailbox is there
abbrev pub is_ours : (mailboxes channels producer : ℕ) → Job → Bool
is_ours mailboxes channels producer job = nat_lt producer channels && nat_lt job.mailbox mailboxes

-- whether the entry is a copy of none
abbrev pub is_nobodys : (mailboxes channels : ℕ) → Entry Job → Bool
is_nobodys mailboxes channels (Item producer job) = not (is_ours mailboxes channels producer job)
is_nobodys mailboxes channels (End producer) = false

-- what the producer of a copy is told, by the sender of this number
abbrev pub telling : ℕ → Job → Verdict → Entry Noted
telling shard job verdict = Item shard (record { key = job.key; mailbox = job.mailbox; verdict = verdict })

-- One copy of a producer was served: the producer was told the verdict, behind what it had been told, and nobody else was told anything. Where the
-- producer has no channel nobody was.
abbrev pub Serves : (mailboxes channels shard producer : ℕ) → Job → (before after : List (List (Entry Noted))) → Type 0
Serves mailboxes channels shard producer job before after =
    ((producer < channels) × (verdict : Verdict) × IsVerdict mailboxes job verdict
    × (after ≡ slice_set before producer (slice_index_or before producer [] ++ telling shard job verdict ∷ [])))
    ⊎ ((channels ≤ producer) × (after ≡ before))

-- the entry is a copy that this producer put
abbrev pub IsCopyOf : ℕ → Entry Job → Type 0
IsCopyOf p (Item q job) = q ≡ p
IsCopyOf p (End q) = ⊥

-- Of these entries, each copy that producer p put was answered once, in their order.
pub data WereAnswered (mailboxes shard p : ℕ) : List (Entry Job) → List (Entry Noted) → Type 0 where
  none : WereAnswered mailboxes shard p [] []
  answered : {got : List (Entry Job)} {told : List (Entry Noted)} (job : Job) (verdict : Verdict)
      → WereAnswered mailboxes shard p got told → IsVerdict mailboxes job verdict
      → WereAnswered mailboxes shard p (got ++ Item p job ∷ []) (told ++ telling shard job verdict ∷ [])
  passed : {got : List (Entry Job)} {told : List (Entry Noted)} (entry : Entry Job)
      → WereAnswered mailboxes shard p got told → (IsCopyOf p entry → ⊥)
      → WereAnswered mailboxes shard p (got ++ entry ∷ []) told

-- each list has the sender's end behind it
abbrev pub HaveClosed : ℕ → (before after : List (List (Entry Noted))) → Type 0
HaveClosed shard before after = after ≡ map (λ entries. entries ++ End shard ∷ []) before
