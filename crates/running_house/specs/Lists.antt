-- When the lists that a run leaves agree: what the mailboxes accepted, what the workers heard, what the consumers took, and which messages
-- are there.
use Rattle.std.specs.Prelude.{◌≡◌, ◌==◌, Bool, true, ℕ, ◌<◌, List, [], ◌∷◌, length, map, filter, All, Contains, slice_index_or}
use Rattle.delivery_token.specs.Text.{Text}
use Rattle.delivery_token.specs.declared.CopyKey.{CopyKey}
use Rattle.delivery_token.specs.declared.Job.{Job}
use Rattle.delivery_token.specs.declared.log.Noted.{Noted}
use Rattle.delivery_token.specs.Keys.{Precedes}
use Rattle.delivery_token.specs.Copies.{stored_in}
use Rattle.envelope.specs.Names.{Directory, shard_of}

-- ---- lists of accepted copies: each with its key and its UID

-- those of one seat, in their order
abbrev pub of_seat : ℕ → List (CopyKey × ℕ) → List (CopyKey × ℕ)
of_seat p pairs = filter (λ pair. pair.0.seat == p) pairs

abbrev pub keys_of : List (CopyKey × ℕ) → List CopyKey
keys_of pairs = map (λ pair. pair.0) pairs

-- each key comes before the next
abbrev pub Rise : List CopyKey → Type 0
Rise [] = Unit {0}
Rise (a ∷ []) = Unit {0}
Rise (a ∷ b ∷ keys) = Precedes a b × Rise (b ∷ keys)

-- What a mailbox accepted of a worker is what the worker's log has as stored there, under the same UIDs, in the same order; and the keys rise.
pub record IsTold (mailbox : ℕ) (accepted : List (CopyKey × ℕ)) (p : ℕ) (notes : List Noted) : Type 0 where
  pub stored : of_seat p accepted ≡ stored_in mailbox notes
  pub rising : Rise (keys_of (of_seat p accepted))

-- So it is of each worker, and nothing was accepted that is no worker's.
pub record AreTold (logs : List (List Noted)) (mailbox : ℕ) (accepted : List (CopyKey × ℕ)) : Type 0 where
  pub told : (p : ℕ) → p < length logs → IsTold mailbox accepted p (slice_index_or logs p [])
  pub owned : All (λ pair. pair.0.seat < length logs) accepted

-- ---- the messages that are there: each with its UID and its text

-- A message's UID is that of an accepted copy, and its text is the one of the copy with that key which was taken from the lane.
pub record IsOfCopy (mailbox : ℕ) (accepted : List (CopyKey × ℕ)) (copies : List Job) (message : ℕ × Text) : Type 0 where
  pub copy : Job
  pub taken : Contains copies copy
  pub here : copy.mailbox ≡ mailbox
  pub pair : Contains accepted (copy.key, message.0)
  pub text : message.1 ≡ copy.text

-- there is a message of each accepted copy, in the same order
abbrev pub IsEachThere : List (CopyKey × ℕ) → List (ℕ × Text) → Type 0
IsEachThere accepted texts = map (λ t. t.0) texts ≡ map (λ pair. pair.1) accepted

-- ---- one mailbox and all

module _ (whole : Bool) (logs : List (List Noted)) where
  -- `logs`: what each worker heard; `copies`: what was taken from the lane of the mailbox's shard; `whole`: nobody could have removed a message
  pub record MailboxAgrees (copies : List Job) (mailbox : ℕ) (accepted : List (CopyKey × ℕ)) (texts : List (ℕ × Text)) : Type 0 where
    pub told : AreTold logs mailbox accepted
    pub there : All (IsOfCopy mailbox accepted copies) texts
    pub each : whole ≡ true → IsEachThere accepted texts

module _ (directory : Directory) (whole : Bool) (logs : List (List Noted)) where
  -- `copies`: what was taken from each shard's lane; `accepted` and `texts`: what each mailbox accepted, and what is there
  pub record ListsAgree (copies : List (List Job)) (accepted : List (List (CopyKey × ℕ))) (texts : List (List (ℕ × Text))) : Type 0 where
    pub mailboxes : (length accepted ≡ length directory.homes) × (length texts ≡ length directory.homes)
    pub mailbox : (m : ℕ) → m < length directory.homes
        → MailboxAgrees whole logs (slice_index_or copies (shard_of directory m) []) m
        (slice_index_or accepted m []) (slice_index_or texts m [])
