-- When a budget charges, and when it refuses.
use Rattle.std.specs.Prelude.{◌≡◌, ℕ, ◌<◌, ◌≤◌, ◌+◌, ◌%◌, ◌^◌, Option, Some, None, ⊤}
use Rattle.budget.specs.Limits.{Limited, Found, Charged}
use Rattle.budget.specs.declared.ChargeFault.{ChargeFault}
use Rattle.budget.specs.declared.ChargeFault.TheVariants.{Over, NoMemory}

-- So many bytes fit beside what the word showed, which is reckoned modulo 2^64.
abbrev pub Fits : ℕ → ℕ → Found → Type 0
Fits limit bytes found = found.before % 2 ^ 64 + bytes ≤ limit

-- They are counted where there is a limit, by the table of that budget, and fit beside what was found there.
abbrev pub IsCharged : Option Limited → ℕ → Charged → Type 0
IsCharged None bytes charge = charge ≡ record { bytes = bytes; counted = None }
IsCharged (Some under) bytes charge = (found : Found) × (charge ≡ record { bytes = bytes; counted = Some found }) × (found.table ≡ under.table)
    × Fits under.limit bytes found

-- They don't fit beside what was found in the table of that budget, where that is why they aren't charged.
abbrev pub IsRefused : Option Limited → ℕ → ChargeFault → Type 0
IsRefused limit bytes NoMemory = ⊤
IsRefused None bytes (Over found) = ⊥
IsRefused (Some under) bytes (Over found) = (found.table ≡ under.table) × (under.limit < found.before % 2 ^ 64 + bytes)
