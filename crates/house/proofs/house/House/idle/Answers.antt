use Rattle.std.proofs.Common.{◌≡◌, ◌<◌, ◌∙◌, ap, arith, false, inl, inr, length, ℕ, None, Option, Some, subst, sym, true}
use Rattle.std.specs.Prelude.{slice_index_or}
use Rattle.delivery_core.proofs.Follow.{get_or-any}
use Rattle.house.specs.House.{House}
use Rattle.house.specs.Scene.{IdlePlay}
use Rattle.house.specs.Stands.{StandsFor}
use Rattle.house.specs.Steps.{MayIdle}
use Rattle.house.specs.inner.Steps.{HasNoTurn, PlaceIdled, PlaceIdledInPart}
use Rattle.house_peers.specs.SeatedSession.{SeatedSession}
use Rattle.house.specs.Setup.{session_seat}
use Rattle.house.specs.inner.Steps.{StandsForSomebody}
use Rattle.house.proofs.Visiting.{has_place}
use Rattle.house.proofs.IdleTurn.{idle_led, idle_led_in_part, idle_none}
use Rattle.house.specs.contracts.house.House.{the_view}
use Rattle.house.proofs.house.House.idle.Goals as goal

pub returns-then-not-has_turn-clause-changes_nothing : goal.returns-then-not-has_turn-clause-changes_nothing
returns-then-not-has_turn-clause-changes_nothing c e k s st t printed play =
    let i = c.self.inside in
    let h : House = the_view i in
    let st1 = subst (λ (x : House). StandsFor k x s) (sym c.self.view_is) st in
    let many = ap (λ (x : House). length x.visitors) c.self.view_is in
    let e1 = c.index_of.ensures in
    let there = has_place c.args.self.now c.args.session c.has_no_place.result c.has_no_place.ensures c.if-has_no_place.false in
    let lt : c.index_of.result < length i.sessions.peers.items = omega (arith, e1, many, there.0, there.1) in
    let some : ◌≡◌ {A = Option SeatedSession} (slice_index_or i.sessions.peers.items c.index_of.result None) (Some c.in-Some.visitor) = get_or-any i.sessions.peers.items c.index_of.result None _ lt ∙ sym c.index_mut-place.ensures.value ∙ c.in-Some.is in
    let none = subst (λ (n : ℕ). HasNoTurn n (Some c.in-Some.visitor) i.store.core) (sym e1) (c.has_turn.ensures.none c.if-not-has_turn.true) in
    absurd (idle_none k h s c.index_of.result c.in-Some.visitor t printed st1 lt some none (subst (λ (n : ℕ). IdlePlay k true s n t printed) (sym e1) play))

pub returns-in_err-turn_at-clause-no_memory : goal.returns-in_err-turn_at-clause-no_memory
returns-in_err-turn_at-clause-no_memory c e k s st =
    let i = c.self.inside in
    let h : House = the_view i in
    let st1 = subst (λ (x : House). StandsFor k x s) (sym c.self.view_is) st in
    let many = ap (λ (x : House). length x.visitors) c.self.view_is in
    let e1 = c.index_of.ensures in
    let there = has_place c.args.self.now c.args.session c.has_no_place.result c.has_no_place.ensures c.if-has_no_place.false in
    let lt : c.index_of.result < length i.sessions.peers.items = omega (arith, e1, many, there.0, there.1) in
    let some : ◌≡◌ {A = Option SeatedSession} (slice_index_or i.sessions.peers.items c.index_of.result None) (Some c.in-Some.visitor) = get_or-any i.sessions.peers.items c.index_of.result None _ lt ∙ sym c.index_mut-place.ensures.value ∙ c.in-Some.is in
    let r = idle_led_in_part k h s c.index_of.result c.in-Some.visitor c.turn_at.new.place c.turn_at.new.store.core c.args.out.now.items c.turn_at.new.out.items st1 lt some
    (λ next heard w b stands is. subst (λ (n : ℕ). PlaceIdledInPart k n next heard w b i.store.core c.turn_at.new.place c.turn_at.new.store.core c.args.out.now.items c.turn_at.new.out.items) (sym e1)
    (c.in_err-turn_at.ensures.err k next heard w b stands (subst (λ (n : ℕ). StandsForSomebody (session_seat k n) next heard (Some c.in-Some.visitor) (Some b)) e1 is))) in
    elim r [
      | inl m ↦ inl (record { after = m.0; printed = m.1; plays = subst (λ (n : ℕ). IdlePlay k false s n m.0 m.1) e1 m.2; stands = m.3; out = m.4 })
      | inr m ↦ inr m
    ]

pub returns-clause-follows : goal.returns-clause-follows
returns-clause-follows c k s st =
    let i = c.self.inside in
    let h : House = the_view i in
    let st1 = subst (λ (x : House). StandsFor k x s) (sym c.self.view_is) st in
    let many = ap (λ (x : House). length x.visitors) c.self.view_is in
    let e1 = c.index_of.ensures in
    let there = has_place c.args.self.now c.args.session c.has_no_place.result c.has_no_place.ensures c.if-has_no_place.false in
    let lt : c.index_of.result < length i.sessions.peers.items = omega (arith, e1, many, there.0, there.1) in
    let some : ◌≡◌ {A = Option SeatedSession} (slice_index_or i.sessions.peers.items c.index_of.result None) (Some c.in-Some.visitor) = get_or-any i.sessions.peers.items c.index_of.result None _ lt ∙ sym c.index_mut-place.ensures.value ∙ c.in-Some.is in
    let r = idle_led k true h s c.index_of.result c.in-Some.visitor c.turn_at.new.place c.turn_at.new.store.core c.args.out.now.items c.turn_at.new.out.items st1 lt some
    (λ next heard w b stands is. subst (λ (n : ℕ). PlaceIdled k true n next heard w b i.store.core c.turn_at.new.place c.turn_at.new.store.core c.args.out.now.items c.turn_at.new.out.items) (sym e1)
    (c.in_ok-turn_at.ensures.ok k next heard w b stands (subst (λ (n : ℕ). StandsForSomebody (session_seat k n) next heard (Some c.in-Some.visitor) (Some b)) e1 is))) in
    record { after = r.0; printed = r.1; plays = subst (λ (n : ℕ). IdlePlay k true s n r.0 r.1) e1 r.2; stands = r.3; out = r.4 }

pub returns-in_err-turn_at-clause-asks : goal.returns-in_err-turn_at-clause-asks
returns-in_err-turn_at-clause-asks c e =
    let i = c.self.inside in
    let many = ap (λ (x : House). length x.visitors) c.self.view_is in
    let e1 = c.index_of.ensures in
    let there = has_place c.args.self.now c.args.session c.has_no_place.result c.has_no_place.ensures c.if-has_no_place.false in
    let lt : c.index_of.result < length i.sessions.peers.items = omega (arith, e1, many, there.0, there.1) in
    let some : ◌≡◌ {A = Option SeatedSession} (slice_index_or i.sessions.peers.items c.index_of.result None) (Some c.in-Some.visitor) = get_or-any i.sessions.peers.items c.index_of.result None _ lt ∙ sym c.index_mut-place.ensures.value ∙ c.in-Some.is in
    let may = subst (λ (n : ℕ). MayIdle c.in-Some.visitor n i.store.core) (sym e1) (c.has_turn.ensures.some c.if-not-has_turn.false) in
    rw (← c.self.view_is, ← e1) (c.in-Some.visitor, some, may)
