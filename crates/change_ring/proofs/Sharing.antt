-- A `&` to the owner of a block lends the bound on its bytes and its items, and neither the room behind them nor the token. Assumes `Logic`.
use Prim.Native.Nat.{ℕ, ◌-◌, ◌*◌, ◌^◌}
use mathlib.Core.Path.{sym, subst}
use mathlib.Core.List.{List}
use lib.ListN.{length}
use seplogic.Ra.Ura.{Ura}
use base.Fraction.{full_share}
use base.Fml.{Fml, fsep, flt}
use mir.Syntax.{Ty}
use types.Logic.{Logic}
use base.Fml.{Lft}
use denote.Array.{Array, Array-row_laws}
use denote.ArrayMemory.{Single}
use denote.Param.Laws.{Laws}
use denote.RattleType.{RattleType, RowLaws}
use denote.RawPtr.{Ptr, lies_at, room_for, ◌+ₚ◌}
use denote.Shares.{Shares, Shares-Array}
use denote.Sharing.{ShrLaws, said}
use denote.SharingLaws.{beside_shr_laws, said_shr_laws}
use denote.Struct.Lending.{lent_at, lent_at_shr_laws, Lends, Lends-lies, Lends-said, Lends-first, Lends-both}
use Rattle.core.specs.Mem.{type_size}
use Rattle.core.specs.Allocator.{array_of, block_with_items}
use Rattle.change_ring.specs.inner.Ownership.{cells_own, cells_lent}

pub cells_lent_laws : (R : RattleType) → RowLaws R → (p : Ptr) (n : ℕ) (xs : List R.Denot) → ShrLaws (cells_lent R p n xs)
cells_lent_laws R L p n xs =
    let small : Fml = flt (n * type_size R) (2 ^ 63) in
    beside_shr_laws (said small) (lent_at (Array R (length xs)) p xs) (said_shr_laws small tt) (lent_at_shr_laws (Array R (length xs)) (Array-row_laws R L (length xs)) p xs)

pub Lends-cells : {M : Type 1} {𝓤 : Ura M} (𝓛 : Logic 𝓤) (t : Ty → Ptr → Fml) (R : RattleType) → Laws R → (l : Lft) → Shares 𝓛 R l → (p : Ptr) (n : ℕ) (xs : List R.Denot)
    → Lends 𝓛 (cells_own t R p n xs) (cells_lent R p n xs) l
Lends-cells 𝓛 t R L l s p n xs =
    let m : ℕ = length xs in
    let small : Fml = flt (n * type_size R) (2 ^ 63) in
    Lends-both 𝓛 small (block_with_items t R p m n xs) (said small) (lent_at (Array R m) p xs) l (Lends-said 𝓛 small tt l)
    (Lends-first 𝓛 (lies_at (Array R m) full_share p xs) (fsep (room_for (array_of R (n - m)) (p +ₚ m * type_size R)) (t (array_of R n) p)) (lent_at (Array R m) p xs) l
    (Lends-lies 𝓛 (Array R m) l p xs (Shares-Array 𝓛 R (subst Single (sym L.one) tt) m l s xs)))
