use Rattle.imap_stream.proofs.Living.{parted_life}
use Rattle.imap_stream.proofs.client_slot.ClientSlot.attend.Goals as goal

pub returns-clause-lived : goal.returns-clause-lived
returns-clause-lived g c admission folders store taken legal none greeted =
    parted_life (g.I.Read.remaining c.args.input.now) (g.I.Read.remaining c.serve-parting.new.input) c.serve-parting.result c.leave.result admission folders store taken c.args.visit.now c.serve-parting.new.visit
    c.leave.new.self legal none greeted c.serve-parting.ensures.out c.leave.ensures.departs c.leave.ensures.forgotten c.leave.ensures.rest
