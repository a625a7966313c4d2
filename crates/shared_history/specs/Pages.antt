-- A history as plain data: a list that only grows, and of each owner the entries that concern it.
use Rattle.core.specs.Prelude.{◌≡◌, ◌⊎◌, ℕ, Bool, true, List, [], ◌∷◌, ◌++◌}
use Rattle.std.specs.List.{filter}
use mathlib.Core.List.{IsPrefix}

-- which history it is, by the names that it has in proofs: two that are equal are one history
pub record Book : Type 0 where
  pub number : ℕ  -- that of the invariant which keeps it
  pub log_name : ℕ
  pub owner_names : List ℕ  -- one for each owner, the owner 0 first

-- the entries that concern the owner k, in their order
abbrev pub part : {E : Type 0} → (ℕ → E → Bool) → ℕ → List E → List E
part concerns k log = filter (concerns k) log

-- the entry was added behind all that had been seen before, and maybe behind more
abbrev pub Adds : {E : Type 0} → List E → List E → E → Type 0
Adds {E} before after e = (log : List E) × IsPrefix before log × (after ≡ log ++ e ∷ [])

-- it concerns the owner k, and nobody else
abbrev pub ConcernsOne : {E : Type 0} → (ℕ → E → Bool) → ℕ → E → Type 0
ConcernsOne concerns k e = (concerns k e ≡ true) × ((m : ℕ) → concerns m e ≡ true → m ≡ k)

-- it concerns the owners k and j, and nobody else
abbrev pub ConcernsTwo : {E : Type 0} → (ℕ → E → Bool) → ℕ → ℕ → E → Type 0
ConcernsTwo concerns k j e = (concerns k e ≡ true) × (concerns j e ≡ true)
    × ((m : ℕ) → concerns m e ≡ true → (m ≡ k) ⊎ (m ≡ j))

-- Whatever others have added since, the entry may come next: by one who has seen this much, and who
-- owns what concerns the owner k, of which just this stands
abbrev pub MayFollow : {E : Type 0} → (List E → Type 0) → (ℕ → E → Bool) → List E → ℕ → List E → E → Type 0
MayFollow {E} holds concerns seen k own e = (log : List E) → holds log → IsPrefix seen log
    → part concerns k log ≡ own → holds (log ++ e ∷ [])

-- The same by one who owns what concerns the owners k and j
abbrev pub MayFollowBoth : {E : Type 0} → (List E → Type 0) → (ℕ → E → Bool) → List E → ℕ → List E → ℕ → List E → E → Type 0
MayFollowBoth {E} holds concerns seen k own j other e = (log : List E) → holds log → IsPrefix seen log
    → part concerns k log ≡ own → part concerns j log ≡ other → holds (log ++ e ∷ [])
