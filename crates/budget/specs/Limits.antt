-- What budgets and charges stand for.
use Rattle.std.specs.Prelude.{ℕ, Option, option_map}
use Rattle.atomic_table.specs.Seated.{TableId}

-- A limit, and the table whose word counts what is held under it.
pub record Limited : Type 0 where
  pub limit : ℕ
  pub table : TableId

abbrev pub limit_of : Option Limited → Option ℕ
limit_of budget = option_map (λ (l : Limited). l.limit) budget

-- So many bytes were held in the table when a seat of it took its own.
pub record Found : Type 0 where
  pub table : TableId
  pub before : ℕ

-- So many bytes are charged. Where they are counted, a seat of the table holds as many.
pub record Charged : Type 0 where
  pub bytes : ℕ
  pub counted : Option Found
