use Rattle.std.proofs.Common.{◌≡◌, ◌-◌, ◌<◌, ◌⊎◌, ◌∙◌, set, ap, arith, false, inl, length, ℕ, None, Option, Some, IsSome, subst, sym, true, get_or}
use Rattle.std.specs.Option.{option_map}
use Rattle.delivery_core.proofs.Follow.{get_or-any}
use Rattle.house.specs.House.{House}
use Rattle.house.specs.Setup.{session_seat}
use Rattle.house.specs.Scene.{SayPlay}
use Rattle.house.specs.Stands.{StandsFor}
use Rattle.house.specs.Steps.{is_left}
use Rattle.house.specs.inner.Steps.{PlaceTalked, StandsForSomebody, with_more_came}
use Rattle.house_peers.specs.SeatedSession.{SeatedSession}
use Rattle.house.proofs.SessionEvents.{said, somebody}
use Rattle.house.proofs.Settlement.{on_err}
use Rattle.house.specs.Steps.{VisitorWants}
use Rattle.house.proofs.Wanting.{visitor_wants}
use Rattle.house.specs.contracts.house.House.{the_view}
use Rattle.house.proofs.house.House.listen.Goals as goal

pub returns-in_err-visitor_talks-clause-no_memory : goal.returns-in_err-visitor_talks-clause-no_memory
returns-in_err-visitor_talks-clause-no_memory c =
    on_err c.from_residual-in_err-visitor_talks.result _ λ k s st.
    let i = c.self.inside in
    let h : House = the_view i in
    let st1 = subst (λ (x : House). StandsFor k x s) (sym c.self.view_is) st in
    let many = ap (λ (x : House). length x.visitors) c.self.view_is in
    let e1 = c.index_of.ensures in
    let lt : c.index_of.result < length i.sessions.peers.items = let n = c.requires.there.number in let m = c.requires.there.place in omega (arith, e1, many, n, m) in
    let who = subst (λ (n : ℕ). IsSome (get_or i.sessions.peers.items n None)) (sym e1) (subst (λ (x : House). IsSome (get_or x.visitors (c.args.session - 1) None)) (sym c.self.view_is) c.requires.there.who) in
    let read = subst (λ (n : ℕ). is_left (get_or i.sessions.peers.items n None) ≡ false) (sym e1) (subst (λ (x : House). is_left (get_or x.visitors (c.args.session - 1) None) ≡ false) (sym c.self.view_is) c.requires.there.read) in
    let g = somebody (get_or i.sessions.peers.items c.index_of.result None) who read in
    let at = c.in_ok-append_to.ensures.ok ∙ ap (option_map (with_more_came c.args.piece.now)) (c.index_mut-place.ensures.value ∙ get_or-any i.sessions.peers.items c.index_of.result _ None lt ∙ g.1) in
    let r = said k false h s c.index_of.result c.args.piece.now g.0 c.visitor_talks.new.place c.visitor_talks.new.store.core c.args.out.now.items c.visitor_talks.new.out.items st1 lt g.1 g.2 c.visitor_talks.ensures.delivery
    (λ next heard w b stands is. subst (λ (n : ℕ). PlaceTalked k false n next heard w b c.visitor_talks.new.place c.visitor_talks.new.store.core c.args.out.now.items c.visitor_talks.new.out.items) (sym e1)
    (c.in_err-visitor_talks.ensures.err k next heard w b stands (subst (λ (n : ℕ). StandsForSomebody (session_seat k n) next heard c.append_to.new.occupant (Some b)) e1 (subst (λ (o : Option SeatedSession). StandsForSomebody (session_seat k c.index_of.result) next heard o (Some b)) (sym at) is)))) in
    inl (record { after = r.0; printed = r.1; plays = subst (λ (n : ℕ). SayPlay k false s n c.args.piece.now r.0 r.1) e1 r.2; stands = r.3; out = r.4 })

pub returns-clause-follows : goal.returns-clause-follows
returns-clause-follows c k s st =
    let i = c.self.inside in
    let h : House = the_view i in
    let st1 = subst (λ (x : House). StandsFor k x s) (sym c.self.view_is) st in
    let many = ap (λ (x : House). length x.visitors) c.self.view_is in
    let e1 = c.index_of.ensures in
    let lt : c.index_of.result < length i.sessions.peers.items = let n = c.requires.there.number in let m = c.requires.there.place in omega (arith, e1, many, n, m) in
    let who = subst (λ (n : ℕ). IsSome (get_or i.sessions.peers.items n None)) (sym e1) (subst (λ (x : House). IsSome (get_or x.visitors (c.args.session - 1) None)) (sym c.self.view_is) c.requires.there.who) in
    let read = subst (λ (n : ℕ). is_left (get_or i.sessions.peers.items n None) ≡ false) (sym e1) (subst (λ (x : House). is_left (get_or x.visitors (c.args.session - 1) None) ≡ false) (sym c.self.view_is) c.requires.there.read) in
    let g = somebody (get_or i.sessions.peers.items c.index_of.result None) who read in
    let at = c.in_ok-append_to.ensures.ok ∙ ap (option_map (with_more_came c.args.piece.now)) (c.index_mut-place.ensures.value ∙ get_or-any i.sessions.peers.items c.index_of.result _ None lt ∙ g.1) in
    let r = said k true h s c.index_of.result c.args.piece.now g.0 c.visitor_talks.new.place c.visitor_talks.new.store.core c.args.out.now.items c.visitor_talks.new.out.items st1 lt g.1 g.2 c.visitor_talks.ensures.delivery
    (λ next heard w b stands is. subst (λ (n : ℕ). PlaceTalked k true n next heard w b c.visitor_talks.new.place c.visitor_talks.new.store.core c.args.out.now.items c.visitor_talks.new.out.items) (sym e1)
    (c.in_ok-visitor_talks.ensures.ok k next heard w b stands (subst (λ (n : ℕ). StandsForSomebody (session_seat k n) next heard c.append_to.new.occupant (Some b)) e1 (subst (λ (o : Option SeatedSession). StandsForSomebody (session_seat k c.index_of.result) next heard o (Some b)) (sym at) is)))) in
    record { after = r.0; printed = r.1; plays = subst (λ (n : ℕ). SayPlay k true s n c.args.piece.now r.0 r.1) e1 r.2; stands = r.3; out = r.4 }

pub returns-in_err-append_to-clause-asks : goal.returns-in_err-append_to-clause-asks
returns-in_err-append_to-clause-asks c = on_err c.from_residual.result _ (inl c.in_err-append_to.ensures.asks)

pub returns-in_err-visitor_talks-clause-asks : goal.returns-in_err-visitor_talks-clause-asks
returns-in_err-visitor_talks-clause-asks c =
    let i = c.self.inside in
    let many = ap (λ (x : House). length x.visitors) c.self.view_is in
    let e = c.index_of.ensures in
    let n = c.requires.there.number in
    let m = c.requires.there.place in
    let lt : c.index_of.result < length i.sessions.peers.items = omega (arith, n, m, e, many) in
    let at = c.in_ok-append_to.ensures.ok ∙ ap (option_map (with_more_came c.args.piece.now)) (c.index_mut-place.ensures.value ∙ get_or-any i.sessions.peers.items c.index_of.result _ None lt) in
    let now = set i.sessions.peers.items c.index_of.result c.visitor_talks.new.place in
    on_err c.from_residual-in_err-visitor_talks.result _ (subst (λ (x : House). (0 < length c.args.piece.now) ⊎ VisitorWants (get_or x.visitors (c.args.session - 1) None) (get_or now (c.args.session - 1) None)) c.self.view_is
    (subst (λ (n : ℕ). (0 < length c.args.piece.now) ⊎ VisitorWants (get_or i.sessions.peers.items n None) (get_or now n None)) e
    (visitor_wants i.sessions.peers.items c.index_of.result c.args.piece.now c.append_to.new.occupant c.visitor_talks.new.place lt at c.in_err-visitor_talks.ensures.works)))
