-- What a budget counts: the bytes of all charges that stand, and of those that are being refused.
use Rattle.std.specs.Prelude.{◌≡◌, ℕ, ◌+◌, ◌%◌, ◌^◌, ◌<◌, ◌≤◌, List, [], ◌∷◌, All}
use Rattle.atomic_table.specs.Table.{State}
use Rattle.budget.specs.declared.counting.Stay.{Stay}

-- What seats hold together.
abbrev pub held : List Stay → ℕ
held [] = 0
held (one ∷ more) = (one.charged + one.refused) + held more

-- What they hold for charges that stand.
abbrev pub charged : List Stay → ℕ
charged [] = 0
charged (one ∷ more) = one.charged + charged more

-- The word showed the seat all that was held: it is reckoned as a processor does, modulo 2^64.
abbrev pub IsShown : Stay → Type 0
IsShown stay = stay.before < 2 ^ 64

-- The word is what all seats hold together. Where it showed each of them all that was held, those charges that stand hold no more than the limit.
abbrev pub IsCounted : {S : Type 0} → ℕ → State S Stay → Type 0
IsCounted limit s = (s.words ≡ (held s.views % 2 ^ 64) ∷ []) × (All IsShown s.views → charged s.views ≤ limit)

-- A seat that holds nothing yet, under this limit.
abbrev pub newcomer : ℕ → Stay
newcomer limit = record { limit = limit; charged = 0; refused = 0; before = 0 }

-- The seat took so many bytes, and the word showed so many: they are charged where they fit beside those, and else they are being refused.
abbrev pub IsTaken : Stay → ℕ → ℕ → Stay → Type 0
IsTaken stay bytes shown after = (shown ≡ after.before % 2 ^ 64)
    × (shown + bytes ≤ stay.limit → after ≡ record { limit = stay.limit; charged = bytes; refused = 0; before = after.before })
    × (stay.limit < shown + bytes → after ≡ record { limit = stay.limit; charged = 0; refused = bytes; before = after.before })

-- The seat has given back what it took.
abbrev pub gone : Stay → Stay
gone stay = record { limit = stay.limit; charged = 0; refused = 0; before = stay.before }
