-- Where a message stands in a client's view.
use Rattle.std.specs.Prelude.{ℕ, ◌+◌, ◌==◌, List, [], ◌∷◌, if◌then◌else◌}

-- a message's sequence number: its position in the view, counted from 1; one past the last where it isn't there
abbrev pub position : ℕ → List ℕ → ℕ
position uid [] = 1
position uid (u ∷ uids) = if u == uid then 1 else position uid uids + 1
