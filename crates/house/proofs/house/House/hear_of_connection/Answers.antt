use Rattle.std.proofs.Common.{◌≡◌, ◌+◌, ◌<◌, inl, inr, sym, subst, ap, ◌∙◌, not, Some, None, Option, Err, ℕ, length, arith, [], ◌∷◌, true, false, refl}
use Rattle.world.specs.World as world
use Rattle.delivery_core.specs.Stands as core
use Rattle.delivery_core.proofs.Follow.{get_or-any}
use Rattle.house_peers.specs.HouseConnection.{HouseConnection}
use Rattle.house_peers.specs.Taking.{HearsVerdict}
use Rattle.house.specs.House.{House}
use Rattle.house.specs.Scene.{HearPlay, connection_hears, seat_of}
use Rattle.house.specs.Stands.{StandsFor}
use Rattle.house.specs.inner.Steps.{StandsForMaybe}
use Rattle.delivery_core.specs.Changes.{Hears}
use Rattle.house.proofs.Turns.{heard_led, hears_none}
use Rattle.house.specs.contracts.house.House.{the_view}
use Rattle.house.proofs.Occupants.{heard_at, somebody_there}
use Rattle.house.proofs.house.House.hear_of_connection.Goals as goal

pub returns-in_err-caller_goes_on-clause-no_memory : goal.returns-in_err-caller_goes_on-clause-no_memory
returns-in_err-caller_goes_on-clause-no_memory c e k s st =
    let i = c.self.inside in
    let h : House = the_view i in
    let st1 = subst (λ (x : House). StandsFor k x s) (sym c.self.view_is) st in
    let many = ap (λ (x : House). length x.callers) c.self.view_is in
    let e1 = c.index_of-seat.ensures in
    let number : c.args.connection ≡ c.index_of-seat.result + 1 = let n = c.requires.seat.number in omega (arith, n, e1) in
    let lt : c.index_of-seat.result < length i.connections.peers.items = let m = c.requires.seat.seat in omega (arith, number, m, many) in
    let g = somebody_there c.index.result.now (c.is_none.ensures ∙ ap not c.if-is_none.false) in
    let some = get_or-any i.connections.peers.items c.index_of-seat.result None c.index.result.now lt ∙ sym c.index.ensures ∙ g.1 in
    let q = heard_at HearsVerdict c.index_mut-occupant.result.now c.hears.new.occupant c.in-Ok.noted g.0 (c.index_mut-occupant.ensures.value ∙ get_or-any i.connections.peers.items c.index_of-seat.result _ None lt ∙ some) c.hears.ensures in
    let f = c.in-Ok.ensures in
    let r = heard_led k h s c.args.connection c.index_of-seat.result i.directory g.0 c.hear.new.self c.in-Ok.noted q.0 c.caller_goes_on.new.occupant false c.args.out.now.items c.caller_goes_on.new.out.items
    st1 number refl lt some (subst (λ (n : ℕ). (x : world.Config) → core.Follows x i.store.core (world.Hear n ∷ []) c.hear.new.self) (sym e1) f.follows) (subst (λ (n : ℕ). Hears i.store.core c.hear.new.self n (c.in-Ok.noted ∷ [])) (sym e1) f.heard) f.next q.2
    (λ x p next heard b of m. c.in_err-caller_goes_on.ensures.err x p next heard b of (subst (λ (o : Option HouseConnection). StandsForMaybe x p next heard o (Some b)) (sym q.1) m)) in
    inl (record { after = r.0; printed = r.1; plays = subst (λ (n : ℕ). HearPlay k false s n r.0 r.1) e1 (connection_hears (let b = st1.connections in omega (arith, lt, b)) r.2); stands = r.3; out = r.4 })

pub returns-clause-follows : goal.returns-clause-follows
returns-clause-follows c k s st =
    let i = c.self.inside in
    let h : House = the_view i in
    let st1 = subst (λ (x : House). StandsFor k x s) (sym c.self.view_is) st in
    let many = ap (λ (x : House). length x.callers) c.self.view_is in
    let e1 = c.index_of-seat.ensures in
    let number : c.args.connection ≡ c.index_of-seat.result + 1 = let n = c.requires.seat.number in omega (arith, n, e1) in
    let lt : c.index_of-seat.result < length i.connections.peers.items = let m = c.requires.seat.seat in omega (arith, number, m, many) in
    let g = somebody_there c.index.result.now (c.is_none.ensures ∙ ap not c.if-is_none.false) in
    let some = get_or-any i.connections.peers.items c.index_of-seat.result None c.index.result.now lt ∙ sym c.index.ensures ∙ g.1 in
    let q = heard_at HearsVerdict c.index_mut-occupant.result.now c.hears.new.occupant c.in-Ok.noted g.0 (c.index_mut-occupant.ensures.value ∙ get_or-any i.connections.peers.items c.index_of-seat.result _ None lt ∙ some) c.hears.ensures in
    let f = c.in-Ok.ensures in
    let r = heard_led k h s c.args.connection c.index_of-seat.result i.directory g.0 c.hear.new.self c.in-Ok.noted q.0 c.caller_goes_on.new.occupant true c.args.out.now.items c.caller_goes_on.new.out.items
    st1 number refl lt some (subst (λ (n : ℕ). (x : world.Config) → core.Follows x i.store.core (world.Hear n ∷ []) c.hear.new.self) (sym e1) f.follows) (subst (λ (n : ℕ). Hears i.store.core c.hear.new.self n (c.in-Ok.noted ∷ [])) (sym e1) f.heard) f.next q.2
    (λ x p next heard b of m. c.in_ok-caller_goes_on.ensures.ok x p next heard b of (subst (λ (o : Option HouseConnection). StandsForMaybe x p next heard o (Some b)) (sym q.1) m)) in
    record { after = r.0; printed = r.1; plays = subst (λ (n : ℕ). HearPlay k true s n r.0 r.1) e1 (connection_hears (let b = st1.connections in omega (arith, lt, b)) r.2); stands = r.3; out = r.4 }

pub returns-in-Err-Nothing-clause-changes_nothing : goal.returns-in-Err-Nothing-clause-changes_nothing
returns-in-Err-Nothing-clause-changes_nothing c e k s st t printed p =
    let i = c.self.inside in
    let h : House = the_view i in
    let st1 = subst (λ (x : House). StandsFor k x s) (sym c.self.view_is) st in
    let many = ap (λ (x : House). length x.callers) c.self.view_is in
    let lt : seat_of c.args.connection < length i.connections.peers.items = let n = c.requires.seat.number in let m = c.requires.seat.seat in omega (arith, n, m, many) in
    absurd (hears_none k h s (seat_of c.args.connection) t printed st1 lt (c.in-Err-Nothing.ensures.changes_nothing (ap (λ x. Err x) c.in-Err-Nothing.field-0-is)) p)

pub returns-in_err-caller_goes_on-clause-asks : goal.returns-in_err-caller_goes_on-clause-asks
returns-in_err-caller_goes_on-clause-asks c e = rw (← c.self.view_is) (inr (c.in-Ok.noted, c.in-Ok.ensures.heard))

pub returns-in-Err-NoMemory-clause-asks : goal.returns-in-Err-NoMemory-clause-asks
returns-in-Err-NoMemory-clause-asks c e = rw (← c.self.view_is) (inl (c.in-Err-NoMemory.ensures.memory (ap (λ x. Err x) c.in-Err-NoMemory.field-0-is)))
