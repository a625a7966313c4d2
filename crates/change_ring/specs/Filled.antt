-- How changes lie in the cells of a block, and in what order a ring has them.
use Rattle.std.specs.Prelude.{ℕ, List}
use Rattle.change_ring.specs.declared.change.Change.{Change}

-- what the first cells hold, one each, and how many cells there are
pub record Filled : Type 0 where
  pub written : List Change
  pub capacity : ℕ
