-- Which of the messages that a command named were found.
use Rattle.std.specs.Prelude.{ℕ, List, [], ◌∷◌}

-- some of these, in their order: each was found, or it was gone
pub data AreSomeOf : (some all : List ℕ) → Type 0 where
  none_named : AreSomeOf [] []
  one_found : (uid : ℕ) (some all : List ℕ) → AreSomeOf some all → AreSomeOf (uid ∷ some) (uid ∷ all)
  one_gone : (uid : ℕ) (some all : List ℕ) → AreSomeOf some all → AreSomeOf some (uid ∷ all)
