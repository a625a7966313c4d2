use Rattle.std.proofs.Common.{◌∙◌, ap, subst, sym}
use Rattle.house_peers.specs.HouseSession.{HadTurn, HouseSession, StandsFor}
use Rattle.house_peers.proofs.Going.{had_none, had_turn, turned, turned_ended}
use Rattle.house_peers.proofs.session.HouseSession.idle_turn.Goals as goal

pub returns-then-has_ended-clause-ok : goal.returns-then-has_ended-clause-ok
returns-then-has_ended-clause-ok g c v s =
    turned_ended g.S.Store.step v c.args.store.now c.args.self.now s (ap (λ (p : HouseSession). p.link.session.ended) (sym c.self.view_is) ∙ sym c.has_ended.ensures ∙ c.if-has_ended.true)

pub returns-in-Ok-clause-ok : goal.returns-in-Ok-clause-ok
returns-in-Ok-clause-ok g c v s =
    turned g.S.Store.step v c.args.store.now c.idle_turn.new.store c.self.inside.connection c.idle_turn.new.self c.self.inside.incoming c.self.inside.unsaid.items c.idle_turn.new.out.items c.in-Ok.count
    (subst (λ (p : HouseSession). StandsFor p v) (sym c.self.view_is) s) c.in-Ok.ensures.turned

pub returns-then-has_ended-clause-session : goal.returns-then-has_ended-clause-session
returns-then-has_ended-clause-session g c =
    had_none g.S.Store.step c.args.store.now c.args.self.now (ap (λ (p : HouseSession). p.link.session.ended) (sym c.self.view_is) ∙ sym c.has_ended.ensures ∙ c.if-has_ended.true)

pub returns-in-Ok-clause-session : goal.returns-in-Ok-clause-session
returns-in-Ok-clause-session g c =
    let i = c.self.inside in
    let before : HouseSession = record { link = i.connection; came = i.incoming; unsaid = i.unsaid.items } in
    let after : HouseSession = record { link = c.idle_turn.new.self; came = i.incoming; unsaid = c.idle_turn.new.out.items } in
    subst (λ (p : HouseSession). HadTurn g.S.Store.step p c.args.store.now c.idle_turn.new.store c.in-Ok.count after) c.self.view_is
    (had_turn g.S.Store.step before after c.args.store.now c.idle_turn.new.store i.unsaid.items c.idle_turn.new.out.items c.in-Ok.count c.in-Ok.ensures.session)
