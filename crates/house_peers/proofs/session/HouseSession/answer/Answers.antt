use Rattle.std.proofs.Common.{sym, subst}
use Rattle.house_peers.specs.HouseSession.{HouseSession, StandsFor}
use Rattle.imap_session.specs.Store.{Follows}
use Rattle.imap_session.proofs.Following.{verdict_follows}
use Rattle.house_peers.proofs.Going.{verdict_answered}
use Rattle.house_peers.proofs.session.HouseSession.answer.Goals as goal

pub returns-in-Ok-clause-ok : goal.returns-in-Ok-clause-ok
returns-in-Ok-clause-ok g c v s =
    verdict_answered g.S.Store.step c.args.verdict v c.args.store.now c.appended.new.store c.self.inside.connection c.appended.new.self c.self.inside.incoming c.self.inside.unsaid.items c.appended.new.out.items _
    (subst (λ (p : HouseSession). StandsFor p v) (sym c.self.view_is) s) c.in-Ok.ensures.heard

pub returns-in-Ok-clause-follows : goal.returns-in-Ok-clause-follows
returns-in-Ok-clause-follows g c =
    subst (λ (p : HouseSession). Follows p.link.session.mailing.sent c.appended.new.self.session.mailing.sent) c.self.view_is
    (verdict_follows g.S.Store.step c.self.inside.connection.session c.args.verdict c.args.store.now c.appended.new.store c.self.inside.unsaid.items c.appended.new.out.items _ c.appended.new.self.session c.in-Ok.ensures.session)
