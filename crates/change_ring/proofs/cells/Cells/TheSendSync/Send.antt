use denote.RattleType.{RattleType}
use denote.Param.Send.{IsSend, Frees}
use Rattle.core.specs.declared.alloc.Allocator.{Ghosts}
use Rattle.change_ring.proofs.Crosses.{Cells-send}
use Rattle.change_ring.specs.contracts.cells.Cells.{the_row}

pub send : (R A : RattleType) (g : Ghosts A.Denot) → IsSend R → IsSend A → Frees g g.dealloc_token → IsSend (the_row R A g)
send R A g s a f = Cells-send R A g s f
