-- The owner of a block may cross threads as its items and its allocator may.
use Prim.Native.Nat.{ℕ, ◌-◌, ◌*◌}
use lib.ListN.{length}
use base.Shift.{Keyless}
use mir.Syntax.{Ty}
use denote.Array.{Array}
use denote.RattleType.{RattleType}
use denote.RawPtr.{Ptr, block_ptr, null_ptr, room_for, ◌+ₚ◌}
use denote.Struct.Struct.{exits_of}
use denote.Struct.Owning.{shape, fields, to}
use denote.Param.Send.{IsSend, IsSync, AllSend, array_send, array_sync, owning_send, struct_send, struct_sync, sendable}
use Rattle.core.specs.Allocator.{array_of}
use Rattle.core.specs.Mem.{type_size}
use Rattle.core.specs.declared.alloc.Allocator.{Ghosts}
use Rattle.std_alloc.proofs.SendSync.{FreesAnywhere, lies, quiet, seen}
use Rattle.change_ring.specs.contracts.cells.Cells as Cells

room : (τ : Ty) (p : Ptr) → Keyless (room_for τ p)
room τ (block_ptr b o) = tt
room τ null_ptr = tt

module _ (R A : RattleType) (g : Ghosts A.Denot) where
  pub Cells-send : IsSend R → FreesAnywhere A.Denot g → IsSend (Cells.the_row R A g)
  Cells-send s f =
      let O = Cells.the_type R A g in let all : AllSend (fields O) = (search sendable, tt) in
      owning_send O all
      (λ d. let n : ℕ = length d.written in (
        tt,
        (lies (Array R n) (array_send R n s) d.at d.written, (room (array_of R (d.capacity - n)) (d.at +ₚ n * type_size R), f.frees d.alloc (array_of R d.capacity) d.at)),
      ))
      (λ k. quiet (to O) (exits_of k (fields O)) ((struct_send (shape O) all).leaving k))

  pub Cells-sync : IsSync R → IsSync (Cells.the_row R A g)
  Cells-sync y =
      let O = Cells.the_type R A g in
      record { shared = λ d b o κ. let n : ℕ = length d.written in ((struct_sync (shape O) (search sendable, tt)).shared (to O d) b o κ, (tt, seen (Array R n) (array_sync R n y) d.at d.written κ)) }
