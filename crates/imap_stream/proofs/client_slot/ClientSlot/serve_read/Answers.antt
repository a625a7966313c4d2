use Rattle.imap_stream.proofs.Attending.{hears_read, hears_still, was_read}
use Rattle.imap_stream.proofs.client_slot.ClientSlot.serve_read.Goals as goal

pub returns-then-is_stopped-clause-out : goal.returns-then-is_stopped-clause-out
returns-then-is_stopped-clause-out g c =
    let r = c.read_once-read in
    let came = was_read (g.I.Read.remaining c.args.input.now) (g.I.Read.remaining r.new.input) r.new.buffer.items r.result r.ensures.came r.ensures.none in (came.0, came.1, c.is_stopped.ensures.stops c.if-is_stopped.true)

pub returns-in-Ok-clause-on : goal.returns-in-Ok-clause-on
returns-in-Ok-clause-on g c none = hears_read c.hear.ensures.called (c.is_stopped.ensures.goes_on c.if-is_stopped.false) c.requires.takes c.in-Ok.ensures.came

pub returns-in-Err-clause-on : goal.returns-in-Err-clause-on
returns-in-Err-clause-on g c none = hears_still (c.is_stopped.ensures.goes_on c.if-is_stopped.false) c.in-Err.ensures.none
