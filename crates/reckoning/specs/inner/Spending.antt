-- What is spent of a run that came to nothing.
use Rattle.std.specs.Prelude.{◌≡◌, ◌≤◌, ◌+◌, ℕ, Vec, vec_len, vec_capacity}
use Rattle.std.specs.Global.{Global}

-- so many more lie in a list, which has taken no memory for them
abbrev pub HasGrown : {T : Type 0} → ℕ → Vec T Global → Vec T Global → Type 0
HasGrown n old new = (vec_len new ≡ vec_len old + n) × (vec_capacity new ≡ vec_capacity old)

-- a list has at most so many more, within its room
abbrev pub HasGrownAtMost : {T : Type 0} → ℕ → Vec T Global → Vec T Global → Type 0
HasGrownAtMost n old new = (vec_len new ≤ vec_len old + n) × (vec_capacity new ≡ vec_capacity old)
