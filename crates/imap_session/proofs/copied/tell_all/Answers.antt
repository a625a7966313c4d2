use Rattle.mailbox.specs.declared.mailbox.Status.{Status}
use Rattle.imap_session.specs.Exchange.{Exchange}
use Rattle.imap_session.specs.Commands.{told_copied, with_validity}
use Rattle.imap_session.specs.inner.Seen.{batch_of}
use Rattle.imap_session.proofs.Ending.{plays_counted, plays_stopped}
use Rattle.imap_session.proofs.Runs.{stops_count}
use Rattle.imap_session.proofs.copied.tell_all.Goals as goal

pub returns-in-Ok-clause-plays : goal.returns-in-Ok-clause-plays
returns-in-Ok-clause-plays g c now =
    let next : Status → Exchange = λ status. told_copied c.args.selected (batch_of c.args.batch.now) status.uidvalidity in
    plays_counted g.S.Store.step c.args.response.tag now now c.args.mailbox next c.in-Ok.status _ _ _ _ _ _ c.in-Ok.ensures.event (c.tell_batch.ensures.plays now)

pub returns-in-Err-clause-plays : goal.returns-in-Err-clause-plays
returns-in-Err-clause-plays g c now =
    plays_stopped g.S.Store.step now (with_validity c.args.mailbox (told_copied c.args.selected (batch_of c.args.batch.now))) c.in-Err.fault _ _ c.args.response _ _ c.conclude.result
    (stops_count g.S.Store.step c.args.response.tag now c.args.mailbox _ _ _ _ _ c.in-Err.ensures.event) c.conclude.ensures.text c.conclude.ensures.after
