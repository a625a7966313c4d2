-- What is compared beside the lists: where UIDs begin.
use Rattle.std.specs.Prelude.{ℕ, ◌==◌, Bool, true, List, [], ◌∷◌}
use Rattle.delivery_token.specs.declared.CopyKey.{CopyKey}

-- the first of these copies, if there is one, has this UID
abbrev pub begins_at : ℕ → List (CopyKey × ℕ) → Bool
begins_at uid [] = true
begins_at uid (pair ∷ pairs) = pair.1 == uid
