use Rattle.std.proofs.Common.{◌≡◌, ◌+◌, ◌-◌, ◌<◌, inl, refl, sym, subst, ap, ◌∙◌, true, false, None, List, ℕ, length, arith, get_or, set}
use Rattle.delivery_core.proofs.Follow.{get_or-any}
use Rattle.house.specs.House.{House}
use Rattle.house.specs.Scene.{BytesPlay, most_serials}
use Rattle.house.specs.Stands.{StandsFor}
use Rattle.house.proofs.Events.{welcomed}
use Rattle.house_peers.specs.Caller.{Terms, greeted, more_waits}
use Rattle.house_peers.specs.ConnectionStands.{StandsForConnection}
use Rattle.delivery_token.specs.Keys.{AtLeast}
use Rattle.delivery_token.specs.declared.CopyKey.{CopyKey}
use Rattle.delivery_token.specs.declared.log.Noted.{Noted}
use Rattle.house.proofs.Settlement.{on_err}
use Rattle.house.specs.contracts.house.House.{the_view}
use Rattle.house.proofs.house.House.welcome.Goals as goal

pub returns-in_err-caller_goes_on-clause-no_memory : goal.returns-in_err-caller_goes_on-clause-no_memory
returns-in_err-caller_goes_on-clause-no_memory c =
    on_err c.from_residual-in_err-caller_goes_on.result _ λ k s st.
    let i = c.self.inside in
    let h : House = the_view i in
    let st1 = subst (λ (x : House). StandsFor k x s) (sym c.self.view_is) st in
    let many = ap (λ (x : House). length x.callers) c.self.view_is in
    let e1 = c.index_of-seat.ensures in
    let seat = c.index_of-seat.result in
    let number : c.args.connection ≡ seat + 1 = let n = c.requires.vacant.number in omega (arith, n, e1) in
    let lt : seat < length i.connections.peers.items = let m = c.requires.vacant.seat in omega (arith, number, m, many) in
    let none : get_or i.connections.peers.items seat None ≡ None = subst (λ (n : ℕ). get_or i.connections.peers.items n None ≡ None) (sym e1) (subst (λ (x : House). get_or x.callers (c.args.connection - 1) None ≡ None) (sym c.self.view_is) c.requires.vacant.empty) in
    let more = subst (λ (n : ℕ). get_or i.connections.serials.items n 0 < most_serials) (sym e1) (subst (λ (x : House). get_or x.serials (c.args.connection - 1) 0 < most_serials) (sym c.self.view_is) c.requires.vacant.more) in
    let ls : seat < length i.connections.serials.items = let z = c.self.invariant.0 in omega (arith, lt, z) in
    let serial : c.index-serial.result.now ≡ get_or i.connections.serials.items seat 0 = c.index-serial.ensures ∙ get_or-any i.connections.serials.items seat c.index-serial.result.now 0 ls in
    let opened = λ (x : Terms) (next : CopyKey) (heard : List Noted) (a : x.host ≡ i.host.items) (b : x.max_message ≡ i.max_message) (l : AtLeast next (record { seat = seat; serial = get_or i.connections.serials.items seat 0; message = 0; recipient = 0 })).
    subst (λ (n : ℕ). StandsForConnection x seat next heard c.in_ok-caller.caller (more_waits (greeted x seat n) c.args.piece.now)) serial
    (subst (λ (n : ℕ). StandsForConnection x n next heard c.in_ok-caller.caller (more_waits (greeted x n c.index-serial.result.now) c.args.piece.now)) (sym e1)
    (c.in_ok-caller.ensures x next heard (a ∙ sym c.deref.ensures.value) b
    (subst (λ (n : ℕ). AtLeast next (record { seat = n; serial = c.index-serial.result.now; message = 0; recipient = 0 })) e1 (subst (λ (n : ℕ). AtLeast next (record { seat = seat; serial = n; message = 0; recipient = 0 })) (sym serial) l)))) in
    let r = welcomed k h s c.args.connection seat c.args.piece.now i.directory c.caller_goes_on.new.occupant c.in_ok-caller.caller false c.args.out.now.items c.caller_goes_on.new.out.items
    st1 number refl lt none more opened c.in_err-caller_goes_on.ensures.err in
    inl (record {
      after = r.0;
      printed = r.1;
      plays = subst (λ (n : ℕ). BytesPlay k false s n c.args.piece.now r.0 r.1) e1 r.2;
      stands = subst (λ (n : ℕ). StandsFor k (record { core = i.store.core; callers = set i.connections.peers.items seat c.caller_goes_on.new.occupant; serials = set i.connections.serials.items seat (n + 1); visitors = i.sessions.peers.items; entered = i.sessions.serials.items; directory = i.directory; host = i.host.items; max_message = i.max_message; compatible = i.compatible }) r.0) (sym serial) r.3;
      out = r.4;
    })

pub returns-clause-follows : goal.returns-clause-follows
returns-clause-follows c k s st =
    let i = c.self.inside in
    let h : House = the_view i in
    let st1 = subst (λ (x : House). StandsFor k x s) (sym c.self.view_is) st in
    let many = ap (λ (x : House). length x.callers) c.self.view_is in
    let e1 = c.index_of-seat.ensures in
    let seat = c.index_of-seat.result in
    let number : c.args.connection ≡ seat + 1 = let n = c.requires.vacant.number in omega (arith, n, e1) in
    let lt : seat < length i.connections.peers.items = let m = c.requires.vacant.seat in omega (arith, number, m, many) in
    let none : get_or i.connections.peers.items seat None ≡ None = subst (λ (n : ℕ). get_or i.connections.peers.items n None ≡ None) (sym e1) (subst (λ (x : House). get_or x.callers (c.args.connection - 1) None ≡ None) (sym c.self.view_is) c.requires.vacant.empty) in
    let more = subst (λ (n : ℕ). get_or i.connections.serials.items n 0 < most_serials) (sym e1) (subst (λ (x : House). get_or x.serials (c.args.connection - 1) 0 < most_serials) (sym c.self.view_is) c.requires.vacant.more) in
    let ls : seat < length i.connections.serials.items = let z = c.self.invariant.0 in omega (arith, lt, z) in
    let serial : c.index-serial.result.now ≡ get_or i.connections.serials.items seat 0 = c.index-serial.ensures ∙ get_or-any i.connections.serials.items seat c.index-serial.result.now 0 ls in
    let opened = λ (x : Terms) (next : CopyKey) (heard : List Noted) (a : x.host ≡ i.host.items) (b : x.max_message ≡ i.max_message) (l : AtLeast next (record { seat = seat; serial = get_or i.connections.serials.items seat 0; message = 0; recipient = 0 })).
    subst (λ (n : ℕ). StandsForConnection x seat next heard c.in_ok-caller.caller (more_waits (greeted x seat n) c.args.piece.now)) serial
    (subst (λ (n : ℕ). StandsForConnection x n next heard c.in_ok-caller.caller (more_waits (greeted x n c.index-serial.result.now) c.args.piece.now)) (sym e1)
    (c.in_ok-caller.ensures x next heard (a ∙ sym c.deref.ensures.value) b
    (subst (λ (n : ℕ). AtLeast next (record { seat = n; serial = c.index-serial.result.now; message = 0; recipient = 0 })) e1 (subst (λ (n : ℕ). AtLeast next (record { seat = seat; serial = n; message = 0; recipient = 0 })) (sym serial) l)))) in
    let r = welcomed k h s c.args.connection seat c.args.piece.now i.directory c.caller_goes_on.new.occupant c.in_ok-caller.caller true c.args.out.now.items c.caller_goes_on.new.out.items
    st1 number refl lt none more opened c.in_ok-caller_goes_on.ensures.ok in
    record {
      after = r.0;
      printed = r.1;
      plays = subst (λ (n : ℕ). BytesPlay k true s n c.args.piece.now r.0 r.1) e1 r.2;
      stands = subst (λ (n : ℕ). StandsFor k (record { core = i.store.core; callers = set i.connections.peers.items seat c.caller_goes_on.new.occupant; serials = set i.connections.serials.items seat (n + 1); visitors = i.sessions.peers.items; entered = i.sessions.serials.items; directory = i.directory; host = i.host.items; max_message = i.max_message; compatible = i.compatible }) r.0) (sym serial) r.3;
      out = r.4;
    }
