-- What bodies and proofs say besides: which of its keys a seat keeps.
use Rattle.std.specs.Prelude.{◌≡◌, ℕ, List, [], Option, Some, None, All, Contains}
use Rattle.delivery_token.specs.declared.CopyKey.{CopyKey}
use Rattle.delivery_token.specs.declared.Job.{Job}
use Rattle.delivery_token.specs.Keys.{AtLeast, Precedes}

-- it is the highest key of these copies, and of the seat; there is none where nothing was sent
abbrev pub IsLast : ℕ → Option CopyKey → List (Job × ℕ) → Type 0
IsLast number None sent = sent ≡ []
IsLast number (Some last) sent = (last.seat ≡ number) × ((one : Job × ℕ) × Contains sent one × (one.0.key ≡ last))
    × All (λ (one : Job × ℕ). AtLeast one.0.key last) sent

-- the key is the seat's, and behind this one
pub record IsBehind (number : ℕ) (last : Option CopyKey) (key : CopyKey) : Type 0 where
  pub own : key.seat ≡ number
  pub above : (k : CopyKey) → last ≡ Some k → Precedes k key
