-- What the owner of a block has, and what a `&` to it lends, at items of the row R.
-- Below, t is the allocator's token for a block: what `deallocate` asks for to take the block back.
use Rattle.std.specs.Prelude.{ℕ, ◌*◌, ◌^◌, List, length}
use Rattle.std.specs.Mem.{type_size}
use Rattle.core.specs.Allocator.{block_with_items}
use base.Fml.{Lft, Fml, fsep, flt}
use mir.Syntax.{Ty}
use denote.Array.{Array}
use denote.RattleType.{RattleType}
use denote.RawPtr.{Ptr}
use denote.Sharing.{said, beside}
use denote.Struct.Lending.{lent_at}

-- at p a block of n cells, of fewer than 2 ^ 63 bytes, whose first cells hold xs, with its token
abbrev pub cells_own : (Ty → Ptr → Fml) → (R : RattleType) → Ptr → ℕ → List R.Denot → Fml
cells_own t R p n xs = fsep (flt (n * type_size R) (2 ^ 63)) (block_with_items t R p (length xs) n xs)

-- the bound on its bytes, and the items
abbrev pub cells_lent : (R : RattleType) → Ptr → ℕ → List R.Denot → Lft → Fml
cells_lent R p n xs = beside (said (flt (n * type_size R) (2 ^ 63))) (lent_at (Array R (length xs)) p xs)
