use Rattle.std.proofs.Common.{◌≡◌, ◌+◌, ◌-◌, ◌<◌, refl, sym, subst, ap, ◌∙◌, true, false, Option, None, Some, Result, Ok, Err, OnOk, OnErr, IfSome, ℕ, length, arith, get_or, IsSome, true≢false}
use Rattle.std.specs.declared.alloc.AllocError.{AllocError}
use Rattle.house_peers.specs.HouseConnection.{HouseConnection}
use Rattle.std.specs.Option.{option_map}
use Rattle.delivery_core.proofs.Follow.{get_or-any}
use Rattle.house_peers.specs.Taking.{with_nobody_there}
use Rattle.house.specs.House.{House}
use Rattle.house.specs.Scene.{VanishPlay}
use Rattle.house.specs.Stands.{StandsFor}
use Rattle.house.specs.Steps.{is_unread}
use Rattle.house.proofs.Events.{vanished}
use Rattle.house.specs.contracts.house.House.{the_view}
use Rattle.house.proofs.house.House.lose.Goals as goal

-- a peer that is gone is told nothing, and memory may be asked for only for one that is there
sure : (P : Type 0) (r : Result Unit AllocError) (before after : Option HouseConnection) → IsSome before → after ≡ option_map with_nobody_there before → OnErr r (IfSome after (λ h. h.gone ≡ false)) → OnOk r P → P
sure P (Ok done) before after some e asks ok = ok
sure P (Err fault) (Some h) after some e asks ok = absurd (true≢false (subst (λ (x : Option HouseConnection). IfSome x (λ l. l.gone ≡ false)) e asks))
sure P (Err fault) None after some e asks ok = absurd (true≢false (sym some))

pub returns : goal.returns
returns c k s st =
    let i = c.self.inside in
    let h : House = the_view i in
    let st1 = subst (λ (x : House). StandsFor k x s) (sym c.self.view_is) st in
    let many = ap (λ (x : House). length x.callers) c.self.view_is in
    let e = c.index_of.ensures in
    let who = subst (λ (n : ℕ). IsSome (get_or i.connections.peers.items n None)) (sym e) (subst (λ (x : House). IsSome (get_or x.callers (c.args.connection - 1) None)) (sym c.self.view_is) c.requires.there.who) in
    let read = subst (λ (n : ℕ). is_unread (get_or i.connections.peers.items n None) ≡ false) (sym e) (subst (λ (x : House). is_unread (get_or x.callers (c.args.connection - 1) None) ≡ false) (sym c.self.view_is) c.requires.there.read) in
    let number : c.args.connection ≡ c.index_of.result + 1 = let n = c.requires.there.number in omega (arith, n, e) in
    let lt : c.index_of.result < length i.connections.peers.items = let m = c.requires.there.seat in omega (arith, number, m, many) in
    let at = c.vanishes.ensures ∙ ap (option_map with_nobody_there) (c.index_mut-occupant.ensures.value ∙ get_or-any i.connections.peers.items c.index_of.result _ None lt) in
    let went = sure _ c.caller_goes_on.result _ _ who at c.caller_goes_on.ensures.asks c.caller_goes_on.ensures.ok in
    let r = vanished k h s c.args.connection c.index_of.result i.directory c.caller_goes_on.new.occupant c.vanishes.new.occupant true c.args.out.now.items c.caller_goes_on.new.out.items st1
    number refl lt who read at went in
    record { after = r.0; printed = r.1; plays = subst (λ (n : ℕ). VanishPlay k true s n r.0 r.1) e r.2; stands = r.3; out = r.4 }
