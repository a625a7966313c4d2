use Rattle.std.proofs.Common.{List, ℕ, subst}
use Rattle.imap_session.specs.Commands.{on_idle_line}
use Rattle.imap_session.specs.Response.{Response}
use Rattle.imap_session.specs.inner.Store.{Plays}
use Rattle.imap_session.proofs.Lines.{answers_idle_line}
use Rattle.imap_session.proofs.session.Session.idle_line.Goals as goal

pub returns-clause-answered : goal.returns-clause-answered
returns-clause-answered g c =
    let at : List ℕ → List ℕ → Type 0 = λ tag before. Plays g.S.Store.step tag c.args.self.now c.args.self.now (on_idle_line c.args.self.now.selected c.args.line.now) c.args.store.now c.end_idling.new.store before
    (g.O.Outlet.said c.end_idling.new.out) c.end_idling.result in
    let plays = subst (at c.args.tag) c.hold.ensures.said (subst (λ (tag : List ℕ). at tag (g.O.Outlet.said c.hold.new.self)) c.as_slice-2.ensures
    (subst (λ (r : Response). at r.tag r.text) c.new-response.ensures c.end_idling.ensures.plays)) in
    answers_idle_line g.S.Store.step c.args.self.now c.end_idling.new.self c.args.tag c.args.line.now c.args.store.now c.end_idling.new.store (g.O.Outlet.said c.args.out.now) (g.O.Outlet.said c.end_idling.new.out) c.end_idling.result
    c.requires.alone c.requires.awake plays c.end_idling.ensures.standing
