-- Where a copy stands among what the mailboxes of a house accepted.
use Rattle.std.specs.Prelude.{◌≡◌, ◌==◌, ℕ, List, [], ◌∷◌, filter, slice_index_or}
use Rattle.delivery_token.specs.declared.CopyKey.{CopyKey}
use Rattle.running_house.specs.Walk.{is_key}

-- of the copies that a mailbox accepted, those with this key, each with its UID
abbrev pub with_key : CopyKey → List (CopyKey × ℕ) → List (CopyKey × ℕ)
with_key key pairs = filter (λ pair. is_key pair.0 key) pairs

-- and those under this UID
abbrev pub with_uid : ℕ → List (CopyKey × ℕ) → List (CopyKey × ℕ)
with_uid uid pairs = filter (λ pair. pair.1 == uid) pairs

-- Just one copy with this key was accepted in the whole house: by this mailbox, under this UID. `accepted`: what each mailbox accepted
pub record StandsOnce (accepted : List (List (CopyKey × ℕ))) (key : CopyKey) (mailbox uid : ℕ) : Type 0 where
  pub here : with_key key (slice_index_or accepted mailbox []) ≡ (key, uid) ∷ []
  pub elsewhere : (other : ℕ) → (other ≡ mailbox → ⊥) → with_key key (slice_index_or accepted other []) ≡ []

-- and with this key none
abbrev pub StandsNowhere : List (List (CopyKey × ℕ)) → CopyKey → Type 0
StandsNowhere accepted key = (mailbox : ℕ) → with_key key (slice_index_or accepted mailbox []) ≡ []
