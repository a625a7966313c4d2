use Rattle.std.proofs.Common.{◌≡◌, ◌+◌, ◌-◌, ◌<◌, ◌∙◌, ap, arith, false, inl, length, ℕ, not, None, Option, Some, Err, subst, sym, true, get_or, [], ◌∷◌}
use Rattle.delivery_core.proofs.Follow.{get_or-any}
use Rattle.delivery_core.specs.Changes.{Hears}
use Rattle.delivery_core.specs.Stands as core
use Rattle.world.specs.World as world
use Rattle.house_peers.specs.SeatedSession.{HearsVerdict, SeatedSession}
use Rattle.house.specs.House.{House}
use Rattle.house.specs.Setup.{session_seat}
use Rattle.house.specs.Scene.{HearPlay, session_hears}
use Rattle.house.specs.Stands.{StandsFor}
use Rattle.house.specs.inner.Steps.{PlaceVisited, StandsForSomebody}
use Rattle.house.proofs.SessionEvents.{heard_led, hears_none}
use Rattle.house.proofs.Occupants.{heard_at, somebody_there}
use Rattle.house.specs.contracts.house.House.{the_view}
use Rattle.house.proofs.house.House.hear_of_session.Goals as goal

pub returns-in_err-visitor_goes_on-clause-no_memory : goal.returns-in_err-visitor_goes_on-clause-no_memory
returns-in_err-visitor_goes_on-clause-no_memory c e k s st =
    let i = c.self.inside in
    let h : House = the_view i in
    let st1 = subst (λ (x : House). StandsFor k x s) (sym c.self.view_is) st in
    let many = ap (λ (x : House). length x.visitors) c.self.view_is in
    let first = ap (λ (x : House). length x.callers) c.self.view_is in
    let place = c.index_of-place.result in
    let counted = c.len.ensures in
    let number = c.index_of-place.ensures in
    let at : c.args.number - 1 ≡ length i.connections.peers.items + place = let b = c.requires.number.behind in omega (arith, b, first, counted, number) in
    let lt : place < length i.sessions.peers.items = let b = c.requires.number.behind in let w = c.requires.number.within in omega (arith, b, w, first, many, counted, number) in
    let mine : c.args.number - 1 ≡ session_seat k place = at ∙ ap (λ (n : ℕ). n + place) st1.connections in
    let g = somebody_there c.index.result.now (c.is_none.ensures ∙ ap not c.if-is_none.false) in
    let some : ◌≡◌ {A = Option SeatedSession} (get_or i.sessions.peers.items place None) (Some g.0) = get_or-any i.sessions.peers.items place None c.index.result.now lt ∙ sym c.index.ensures ∙ g.1 in
    let q = heard_at HearsVerdict c.index_mut-here.result.now c.hears.new.occupant c.in-Ok.noted g.0 (c.index_mut-here.ensures.value ∙ get_or-any i.sessions.peers.items place _ None lt ∙ some) c.hears.ensures in
    let f = c.in-Ok.ensures in
    let r = heard_led k false h s place g.0 c.hear.new.self c.visitor_goes_on.new.store.core c.in-Ok.noted q.0 c.visitor_goes_on.new.place c.args.out.now.items c.visitor_goes_on.new.out.items st1 lt some
    (subst (λ (n : ℕ). (x : world.Config) → core.Follows x i.store.core (world.Hear n ∷ []) c.hear.new.self) mine f.follows) (subst (λ (n : ℕ). Hears i.store.core c.hear.new.self n (c.in-Ok.noted ∷ [])) mine f.heard) f.next q.2 c.visitor_goes_on.ensures.delivery
    (λ next heard w b stands is. subst (λ (n : ℕ). PlaceVisited k false n next heard w b c.visitor_goes_on.new.place c.visitor_goes_on.new.store.core c.args.out.now.items c.visitor_goes_on.new.out.items) (sym number)
    (c.in_err-visitor_goes_on.ensures.err k next heard w b stands (subst (λ (n : ℕ). StandsForSomebody (session_seat k n) next heard c.hears.new.occupant (Some b)) number (subst (λ (o : Option SeatedSession). StandsForSomebody (session_seat k place) next heard o (Some b)) (sym q.1) is)))) in
    inl (record { after = r.0; printed = r.1; plays = session_hears place mine r.2; stands = r.3; out = r.4 })

pub returns-clause-follows : goal.returns-clause-follows
returns-clause-follows c k s st =
    let i = c.self.inside in
    let h : House = the_view i in
    let st1 = subst (λ (x : House). StandsFor k x s) (sym c.self.view_is) st in
    let many = ap (λ (x : House). length x.visitors) c.self.view_is in
    let first = ap (λ (x : House). length x.callers) c.self.view_is in
    let place = c.index_of-place.result in
    let counted = c.len.ensures in
    let number = c.index_of-place.ensures in
    let at : c.args.number - 1 ≡ length i.connections.peers.items + place = let b = c.requires.number.behind in omega (arith, b, first, counted, number) in
    let lt : place < length i.sessions.peers.items = let b = c.requires.number.behind in let w = c.requires.number.within in omega (arith, b, w, first, many, counted, number) in
    let mine : c.args.number - 1 ≡ session_seat k place = at ∙ ap (λ (n : ℕ). n + place) st1.connections in
    let g = somebody_there c.index.result.now (c.is_none.ensures ∙ ap not c.if-is_none.false) in
    let some : ◌≡◌ {A = Option SeatedSession} (get_or i.sessions.peers.items place None) (Some g.0) = get_or-any i.sessions.peers.items place None c.index.result.now lt ∙ sym c.index.ensures ∙ g.1 in
    let q = heard_at HearsVerdict c.index_mut-here.result.now c.hears.new.occupant c.in-Ok.noted g.0 (c.index_mut-here.ensures.value ∙ get_or-any i.sessions.peers.items place _ None lt ∙ some) c.hears.ensures in
    let f = c.in-Ok.ensures in
    let r = heard_led k true h s place g.0 c.hear.new.self c.visitor_goes_on.new.store.core c.in-Ok.noted q.0 c.visitor_goes_on.new.place c.args.out.now.items c.visitor_goes_on.new.out.items st1 lt some
    (subst (λ (n : ℕ). (x : world.Config) → core.Follows x i.store.core (world.Hear n ∷ []) c.hear.new.self) mine f.follows) (subst (λ (n : ℕ). Hears i.store.core c.hear.new.self n (c.in-Ok.noted ∷ [])) mine f.heard) f.next q.2 c.visitor_goes_on.ensures.delivery
    (λ next heard w b stands is. subst (λ (n : ℕ). PlaceVisited k true n next heard w b c.visitor_goes_on.new.place c.visitor_goes_on.new.store.core c.args.out.now.items c.visitor_goes_on.new.out.items) (sym number)
    (c.in_ok-visitor_goes_on.ensures.ok k next heard w b stands (subst (λ (n : ℕ). StandsForSomebody (session_seat k n) next heard c.hears.new.occupant (Some b)) number (subst (λ (o : Option SeatedSession). StandsForSomebody (session_seat k place) next heard o (Some b)) (sym q.1) is)))) in
    record { after = r.0; printed = r.1; plays = session_hears place mine r.2; stands = r.3; out = r.4 }

pub returns-in-Err-Nothing-clause-changes_nothing : goal.returns-in-Err-Nothing-clause-changes_nothing
returns-in-Err-Nothing-clause-changes_nothing c e k s st t printed p =
    let i = c.self.inside in
    let h : House = the_view i in
    let st1 = subst (λ (x : House). StandsFor k x s) (sym c.self.view_is) st in
    let many = ap (λ (x : House). length x.visitors) c.self.view_is in
    let first = ap (λ (x : House). length x.callers) c.self.view_is in
    let place = c.index_of-place.result in
    let counted = c.len.ensures in
    let number = c.index_of-place.ensures in
    let at : c.args.number - 1 ≡ length i.connections.peers.items + place = let b = c.requires.number.behind in omega (arith, b, first, counted, number) in
    let lt : place < length i.sessions.peers.items = let b = c.requires.number.behind in let w = c.requires.number.within in omega (arith, b, w, first, many, counted, number) in
    let mine : c.args.number - 1 ≡ session_seat k place = at ∙ ap (λ (n : ℕ). n + place) st1.connections in
    absurd (hears_none k h s place t printed st1 (subst (λ (n : ℕ). (x : world.Config) → core.ChangesNothing x i.store.core (world.Hear n)) mine (c.in-Err-Nothing.ensures.changes_nothing (ap (λ x. Err x) c.in-Err-Nothing.field-0-is)))
    (subst (λ (x : ℕ). HearPlay k true s x t printed) mine p))
