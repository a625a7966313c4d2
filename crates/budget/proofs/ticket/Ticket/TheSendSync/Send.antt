use denote.Param.Send.{IsSend, sendable}
use denote.Struct.Struct.{Struct}
use denote.Struct.Owning.{shape}
use Rattle.atomic_table.proofs.shared.Seat.TheSendSync.{the_send}
use Rattle.budget.specs.contracts.ticket.Ticket.{the_row, the_type}

pub send : IsSend the_row
send = let fields : IsSend (Struct (shape the_type)) = search (sendable, the_send) depth 20 in
    record { owned = λ d vs. (fields.owned (d.seat, tt) vs, tt); leaving = λ k d. fields.leaving k (d.seat, tt) }
