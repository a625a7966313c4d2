-- What bodies and proofs say besides: how changes lie in the cells of a block, and in what order a ring has them.
use Rattle.std.specs.Prelude.{ℕ, List, ◌++◌, take, drop}
use Rattle.change_ring.specs.declared.change.Change.{Change}

-- the changes from the cell `start` on, and then those before it
abbrev pub around : ℕ → List Change → List Change
around start changes = drop start changes ++ take start changes
