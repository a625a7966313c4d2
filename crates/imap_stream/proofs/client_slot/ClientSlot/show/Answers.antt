use Rattle.imap_stream.proofs.Attending.{by_looking}
use Rattle.imap_stream.proofs.client_slot.ClientSlot.show.Goals as goal

pub returns : goal.returns
returns g c =
    let l = c.look.ensures in
    by_looking c.look.result c.args.visit.now c.look.new.self c.requires.takes l.untorn l.ok l.goes_on l.waits l.short l.cut
