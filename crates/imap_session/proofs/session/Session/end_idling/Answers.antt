use Rattle.std.proofs.Common.{◌∙◌}
use Rattle.imap_session.proofs.Lots.{does_lot}
use Rattle.imap_session.specs.Commands.{on_idle_line}
use Rattle.imap_session.specs.inner.Store.{last}
use Rattle.std.proofs.Common.{ap}
use Rattle.imap_session.specs.Exchange.{Standing}
use Rattle.imap_session.proofs.Lines.{plays_idle_line}
use Rattle.imap_session.proofs.session.Session.end_idling.Goals as goal

pub returns-clause-plays : goal.returns-clause-plays
returns-clause-plays g c =
    plays_idle_line g.S.Store.step c.args.self.now c.args.line.now _ _ _ _ _ c.end_idle-done.result c.conclude-after.result
    (rw (ap (λ (s : Standing). s.selected) c.self.view_is) at c.end_idle-done.ensures) c.conclude-after.ensures.text c.conclude-after.ensures.after

pub returns-clause-lot : goal.returns-clause-lot
returns-clause-lot g c =
    let d = c.end_idle-done in
    c.conclude-after.ensures.lot ∙ does_lot g.S.Store.step (on_idle_line c.self.inside.selected c.args.line.now) last c.args.store.now d.new.store c.args.response d.new.response d.result d.ensures
