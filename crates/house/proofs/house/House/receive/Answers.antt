use Rattle.std.proofs.Common.{◌≡◌, ◌+◌, ◌-◌, ◌<◌, ◌⊎◌, inl, inr, set, refl, sym, subst, ap, ◌∙◌, true, false, None, ℕ, length, arith, get_or, IsSome}
use Rattle.std.specs.Option.{option_map}
use Rattle.delivery_core.proofs.Follow.{get_or-any}
use Rattle.house_peers.specs.Taking.{with_more}
use Rattle.house.specs.House.{House}
use Rattle.house.specs.Scene.{BytesPlay}
use Rattle.house.specs.Stands.{StandsFor}
use Rattle.house.specs.Steps.{is_unread}
use Rattle.house.proofs.Events.{received}
use Rattle.house.proofs.Settlement.{on_err}
use Rattle.house.specs.Steps.{CallerWants}
use Rattle.house.proofs.Wanting.{caller_wants}
use Rattle.house.specs.contracts.house.House.{the_view}
use Rattle.house.proofs.house.House.receive.Goals as goal

pub returns-in_err-caller_goes_on-clause-no_memory : goal.returns-in_err-caller_goes_on-clause-no_memory
returns-in_err-caller_goes_on-clause-no_memory c =
    on_err c.from_residual-in_err-caller_goes_on.result _ λ k s st.
    let i = c.self.inside in
    let h : House = the_view i in
    let st1 = subst (λ (x : House). StandsFor k x s) (sym c.self.view_is) st in
    let many = ap (λ (x : House). length x.callers) c.self.view_is in
    let e = c.index_of.ensures in
    let who = subst (λ (n : ℕ). IsSome (get_or i.connections.peers.items n None)) (sym e) (subst (λ (x : House). IsSome (get_or x.callers (c.args.connection - 1) None)) (sym c.self.view_is) c.requires.there.who) in
    let read = subst (λ (n : ℕ). is_unread (get_or i.connections.peers.items n None) ≡ false) (sym e) (subst (λ (x : House). is_unread (get_or x.callers (c.args.connection - 1) None) ≡ false) (sym c.self.view_is) c.requires.there.read) in
    let number : c.args.connection ≡ c.index_of.result + 1 = let n = c.requires.there.number in omega (arith, n, e) in
    let lt : c.index_of.result < length i.connections.peers.items = let m = c.requires.there.seat in omega (arith, number, m, many) in
    let at = c.in_ok-append_to.ensures.ok ∙ ap (option_map (with_more c.args.piece.now)) (c.index_mut-occupant.ensures.value ∙ get_or-any i.connections.peers.items c.index_of.result _ None lt) in
    let r = received k h s c.args.connection c.index_of.result c.args.piece.now i.directory c.caller_goes_on.new.occupant c.append_to.new.occupant false c.args.out.now.items c.caller_goes_on.new.out.items st1
    number refl lt who read at c.in_err-caller_goes_on.ensures.err in
    inl (record { after = r.0; printed = r.1; plays = subst (λ (n : ℕ). BytesPlay k false s n c.args.piece.now r.0 r.1) e r.2; stands = r.3; out = r.4 })

pub returns-clause-follows : goal.returns-clause-follows
returns-clause-follows c k s st =
    let i = c.self.inside in
    let h : House = the_view i in
    let st1 = subst (λ (x : House). StandsFor k x s) (sym c.self.view_is) st in
    let many = ap (λ (x : House). length x.callers) c.self.view_is in
    let e = c.index_of.ensures in
    let who = subst (λ (n : ℕ). IsSome (get_or i.connections.peers.items n None)) (sym e) (subst (λ (x : House). IsSome (get_or x.callers (c.args.connection - 1) None)) (sym c.self.view_is) c.requires.there.who) in
    let read = subst (λ (n : ℕ). is_unread (get_or i.connections.peers.items n None) ≡ false) (sym e) (subst (λ (x : House). is_unread (get_or x.callers (c.args.connection - 1) None) ≡ false) (sym c.self.view_is) c.requires.there.read) in
    let number : c.args.connection ≡ c.index_of.result + 1 = let n = c.requires.there.number in omega (arith, n, e) in
    let lt : c.index_of.result < length i.connections.peers.items = let m = c.requires.there.seat in omega (arith, number, m, many) in
    let at = c.in_ok-append_to.ensures.ok ∙ ap (option_map (with_more c.args.piece.now)) (c.index_mut-occupant.ensures.value ∙ get_or-any i.connections.peers.items c.index_of.result _ None lt) in
    let r = received k h s c.args.connection c.index_of.result c.args.piece.now i.directory c.caller_goes_on.new.occupant c.append_to.new.occupant true c.args.out.now.items c.caller_goes_on.new.out.items st1
    number refl lt who read at c.in_ok-caller_goes_on.ensures.ok in
    record { after = r.0; printed = r.1; plays = subst (λ (n : ℕ). BytesPlay k true s n c.args.piece.now r.0 r.1) e r.2; stands = r.3; out = r.4 }

pub returns-in_err-append_to-clause-asks : goal.returns-in_err-append_to-clause-asks
returns-in_err-append_to-clause-asks c = on_err c.from_residual.result _ (inr (inl c.in_err-append_to.ensures.asks))

pub returns-in_err-caller_goes_on-clause-asks : goal.returns-in_err-caller_goes_on-clause-asks
returns-in_err-caller_goes_on-clause-asks c =
    let i = c.self.inside in
    let many = ap (λ (x : House). length x.callers) c.self.view_is in
    let e = c.index_of.ensures in
    let n = c.requires.there.number in
    let m = c.requires.there.seat in
    let lt : c.index_of.result < length i.connections.peers.items = omega (arith, n, m, e, many) in
    let at = c.in_ok-append_to.ensures.ok ∙ ap (option_map (with_more c.args.piece.now)) (c.index_mut-occupant.ensures.value ∙ get_or-any i.connections.peers.items c.index_of.result _ None lt) in
    let now = set i.connections.peers.items c.index_of.result c.caller_goes_on.new.occupant in
    on_err c.from_residual-in_err-caller_goes_on.result _ (inr (subst (λ (x : House). (0 < length c.args.piece.now) ⊎ CallerWants (get_or x.callers (c.args.connection - 1) None) (get_or now (c.args.connection - 1) None)) c.self.view_is
    (subst (λ (n : ℕ). (0 < length c.args.piece.now) ⊎ CallerWants (get_or i.connections.peers.items n None) (get_or now n None)) e
    (caller_wants i.connections.peers.items c.index_of.result c.args.piece.now c.append_to.new.occupant c.caller_goes_on.new.occupant lt at c.in_err-caller_goes_on.ensures.works))))
