use Rattle.mailbox.specs.inner.Seen.{mail_of}
use Rattle.mailbox.proofs.StandsLaws.{Stands-shown_rises}
use Rattle.mailbox.proofs.mailbox.Mailbox.view.Goals as goal

pub rising-requires : goal.rising-requires
rising-requires c =
    let sound = c.self.invariant.2 in
    Stands-shown_rises (mail_of c.self.inside) sound.0 sound.1 c.args.handle.now c.in_ok-uids.uids.now c.in_ok-uids.ensures.ok
