-- Which messages go, as the code says it.
use Rattle.std.specs.Prelude.{ℕ, ◌==◌, Bool, true}
use Rattle.std.specs.List.{list_any}
use Rattle.std.specs.List.Sorted.{IsNonDecreasing}
use Rattle.mailbox.specs.declared.choice.Choice.{Choice}
use Rattle.mailbox.specs.declared.choice.Choice.TheVariants.{Any, Rising, Listed}

-- the choice has this UID
abbrev pub passes : Choice → ℕ → Bool
passes Any uid = true
passes (Rising uids) uid = list_any (λ u. u == uid) uids.now
passes (Listed uids) uid = list_any (λ u. u == uid) uids.now

-- UIDs that are said not to fall don't
abbrev pub IsFound : Choice → Type 0
IsFound Any = Unit {0}
IsFound (Rising uids) = IsNonDecreasing uids.now
IsFound (Listed uids) = Unit {0}
