use Rattle.imap_stream.proofs.Attending.{hears_read, nothing_came}
use Rattle.imap_stream.proofs.client_slot.ClientSlot.go_on.Goals as goal

pub returns-then-eq-2-clause-on : goal.returns-then-eq-2-clause-on
returns-then-eq-2-clause-on g c none =
    hears_read c.show.ensures (c.is_stopped.ensures.goes_on c.if-is_stopped.false) c.requires.takes (nothing_came (g.I.Read.remaining c.args.input.now) (g.I.Read.remaining c.wait.new.self) c.wait.ensures)
