use Rattle.std.proofs.Common.{◌≡◌, ◌-◌, ◌<◌, ◌∙◌, [], ap, append-nil, arith, false, IsSome, length, ℕ, None, Option, Some, subst, sym, get_or}
use Rattle.std.specs.Option.{option_map}
use Rattle.imap_session.specs.Exchange.{Left}
use Rattle.imap_session.specs.Store.{answer}
use Rattle.delivery_core.proofs.Follow.{get_or-any}
use Rattle.house_peers.specs.SeatedSession.{SeatedSession, with_nobody_there}
use Rattle.house.specs.House.{House}
use Rattle.house.specs.Stands.{StandsFor}
use Rattle.house.specs.Steps.{is_left}
use Rattle.house.specs.inner.Steps.{StandsForSomebody}
use Rattle.house.proofs.SessionEvents.{left_place, somebody}
use Rattle.house.proofs.Visiting.{with_visits}
use Rattle.house.specs.contracts.house.House.{the_view}
use Rattle.house.proofs.house.House.part.Goals as goal

pub returns : goal.returns
returns c k s old st =
    let i = c.self.inside in
    let h : House = the_view i in
    let st1 = subst (λ (x : House). StandsFor k x s) (sym c.self.view_is) st in
    let many = ap (λ (x : House). length x.visitors) c.self.view_is in
    let e1 = c.index_of.ensures in
    let lt : c.args.session - 1 < length i.sessions.peers.items = let n = c.requires.there.number in let m = c.requires.there.place in omega (arith, many, n, m) in
    let who = subst (λ (x : House). IsSome (get_or x.visitors (c.args.session - 1) None)) (sym c.self.view_is) c.requires.there.who in
    let read = subst (λ (x : House). is_left (get_or x.visitors (c.args.session - 1) None) ≡ false) (sym c.self.view_is) c.requires.there.read in
    let g = somebody (get_or i.sessions.peers.items (c.args.session - 1) None) who read in
    let at = c.vanishes.ensures ∙ ap (option_map with_nobody_there) (c.index_mut-place.ensures.value ∙ get_or-any i.sessions.peers.items c.index_of.result _ None (subst (λ (n : ℕ). n < length i.sessions.peers.items) (sym e1) lt) ∙ subst (λ (n : ℕ). ◌≡◌ {A = Option SeatedSession} (get_or i.sessions.peers.items n None) (Some g.0)) (sym e1) g.1) in
    let r = left_place k h s (c.args.session - 1) g.0 c.visitor_lingers.new.place c.leave.new.self (answer Left c.leave.result) st1 lt g.1 g.2 c.leave.ensures
    (λ seat next heard b is. c.visitor_lingers.ensures.who seat next heard b (subst (λ (o : Option SeatedSession). StandsForSomebody seat next heard o (Some b)) (sym at) is)) in
    record { after = r.0; printed = []; plays = r.1; stands = subst (λ (n : ℕ). StandsFor k (with_visits h c.leave.new.self.core n c.visitor_lingers.new.place i.sessions.serials.items) r.0) (sym e1) r.2; out = sym (append-nil old) }
