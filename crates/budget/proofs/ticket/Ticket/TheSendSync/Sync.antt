use denote.Param.Send.{IsSync, part_keyless}
use Rattle.budget.specs.contracts.ticket.Ticket.{the_row}
use Rattle.budget.proofs.ticket.Ticket.TheSendSync.Send.{send}

pub sync : IsSync the_row
sync = record { shared = λ d b o κ q. part_keyless the_row send q d b o }
