use Rattle.std.proofs.Common.{subst}
use Rattle.imap_session.specs.inner.Lines.{IsJoined}
use Rattle.imap_session.proofs.Lines.{joined_too_long}
use Rattle.imap_session.proofs.session.Session.joined_line.Goals as goal

pub returns-in-None-clause-answered : goal.returns-in-None-clause-answered
returns-in-None-clause-answered g c whole is =
    joined_too_long g.S.Store.step c.args.tag.now c.args.self.now c.give_up.new.self whole c.args.rest.now c.args.store.now (g.O.Outlet.said c.args.out.now) (g.O.Outlet.said c.give_up.new.out) c.give_up.result
    (subst (λ l. IsJoined l whole) c.in-None.is is) c.give_up.ensures.leads
