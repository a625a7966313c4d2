use denote.RattleType.{RattleType}
use denote.Param.Send.{IsSync}
use Rattle.core.specs.declared.alloc.Allocator.{Ghosts}
use Rattle.change_ring.proofs.Crosses.{Cells-sync}
use Rattle.change_ring.specs.contracts.cells.Cells.{the_row}

pub sync : (R A : RattleType) (g : Ghosts A.Denot) → IsSync R → IsSync (the_row R A g)
sync R A g y = Cells-sync R A g y
