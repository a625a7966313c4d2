-- A `&` to the owner of a block reaches each item. Assumes `Logic`.
use mathlib.Core.List.{[], ◌++◌}
use base.Fml.{Incl-trans}
use contract.BorrowLft.{meet_⊑_left}
use denote.RattleType.{RattleType}
use denote.RawPtr.{RawPtr}
use denote.Param.Laws.{Laws}
use denote.Param.Shared.{copy_shared}
use denote.Shares.{Shares-less}
use denote.Struct.Laws.{field_copy}
use denote.Struct.Lending.{of_Lends}
use Rattle.core.specs.declared.alloc.Allocator.{Ghosts}
use Rattle.core.specs.contracts.marker.PhantomData as marker
use Rattle.change_ring.specs.contracts.cells.Cells as C
use Rattle.change_ring.proofs.cells.Cells.TheLaw.Statement.{statement}
use Rattle.change_ring.proofs.Sharing.{cells_lent_laws, Lends-cells}

pub shares : (R A : RattleType) (g : Ghosts A.Denot) (L : Laws R) (K : Laws A) → statement R A g L K
shares R A g L K =
    of_Lends (C.struct R A g) (C.the_codes R.Denot A.Denot R.coded A.coded (marker.the_row RawPtr).coded) (C.the_heap R A g) (C.the_lent R A g)
    (λ d p. cells_lent_laws R L.shr_laws d.at d.capacity d.written) (copy_shared (marker.the_field RawPtr) (field_copy (marker.the_type RawPtr) tt), tt)
    (λ M 𝓤 𝓛 d p.
    let l = (C.the_row R A g).lives in
    Lends-cells 𝓛 (g.dealloc_token d.alloc) R L l (Shares-less 𝓛 R R.lives l (Incl-trans (meet_⊑_left (R.lives ++ (A.lives ++ [])) _) (meet_⊑_left R.lives (A.lives ++ []))) (L.shares 𝓛)) d.at d.capacity d.written)
