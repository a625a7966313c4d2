-- What bodies and proofs say besides: a list more.
use Rattle.std.specs.Prelude.{◌≡◌, ◌++◌, ◌∷◌, [], ℕ, List, Vec}
use Rattle.std.specs.Global.{Global}
use Rattle.delivery_token.specs.declared.CopyKey.{CopyKey}

-- one list more, which has these copies
abbrev pub Adds : List (CopyKey × ℕ) → (old new : List (Vec (CopyKey × ℕ) Global)) → Type 0
Adds copies old new = (own : Vec (CopyKey × ℕ) Global) × (new ≡ old ++ own ∷ []) × (own.items ≡ copies)
