use Rattle.std.proofs.Common.{◌∙◌}
use Rattle.imap_session.specs.inner.Copies.{removing}
use Rattle.imap_session.proofs.Lots.{does_lot}
use Rattle.imap_session.specs.Commands.{moving}
use Rattle.imap_session.specs.inner.Seen.{batch_of}
use Rattle.imap_session.specs.inner.Store.{last}
use Rattle.imap_session.proofs.Copies.{plays_done}
use Rattle.imap_session.proofs.Runs.{reaches_put}
use Rattle.imap_session.proofs.Saying.{does_then}
use Rattle.imap_session.proofs.copied.tell_moved.Goals as goal

pub returns-clause-plays : goal.returns-clause-plays
returns-clause-plays g c now =
    let x = moving c.args.selected c.args.uidvalidity (batch_of c.args.batch.now) in
    rw c.requires.moves (plays_done g.S.Store.step now x _ _ c.args.response _ _ c.remove_moved-done.result c.conclude.result
    (does_then g.S.Store.step x _ last _ _ _ c.args.response _ _ c.remove_moved-done.result
    (λ tag now. reaches_put g.S.Store.step tag now _ _ _ _ _ c.put_moved.ensures) c.remove_moved-done.ensures)
    c.conclude.ensures.text c.conclude.ensures.after)

pub returns-clause-lot : goal.returns-clause-lot
returns-clause-lot g c =
    let d = c.remove_moved-done in
    c.conclude.ensures.lot
    ∙ (does_lot g.S.Store.step (removing c.args.selected (batch_of c.args.batch.now)) last c.args.store.now d.new.store c.put_moved.new.self d.new.response d.result d.ensures ∙ c.put_moved.ensures.1)
