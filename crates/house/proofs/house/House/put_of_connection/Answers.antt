use Rattle.std.proofs.Common.{◌≡◌, ◌+◌, ◌<◌, inl, inr, refl, sym, subst, ap, ◌∙◌, true, false, None, Err, ℕ, length, arith}
use Rattle.std.specs.Option.{option_map}
use Rattle.std.proofs.lemmas.Result.{err_from_is_err_and}
use Rattle.delivery_core.proofs.Follow.{get_or-any}
use Rattle.house.specs.declared.event.HouseFault.TheVariants as house_faults
use Rattle.house.specs.House.{House}
use Rattle.house.specs.Scene.{PutPlay, connection_puts}
use Rattle.house_peers.specs.Taking.{noted_put}
use Rattle.delivery_token.specs.inner.Verdicts.{heard_verdict}
use Rattle.house.specs.Stands.{StandsFor}
use Rattle.house.proofs.Serving.{same_delivery}
use Rattle.house.proofs.Ended.{due_first}
use Rattle.house.proofs.Turns.{put_led, puts_none}
use Rattle.house.specs.contracts.house.House.{the_view}
use Rattle.house.proofs.house.House.put_of_connection.Goals as goal

pub returns-in_err-caller_goes_on-clause-no_memory : goal.returns-in_err-caller_goes_on-clause-no_memory
returns-in_err-caller_goes_on-clause-no_memory c e k s st =
    let i = c.self.inside in
    let h : House = the_view i in
    let st1 = subst (λ (x : House). StandsFor k x s) (sym c.self.view_is) st in
    let many = ap (λ (x : House). length x.callers) c.self.view_is in
    let e1 = c.index_of-seat.ensures in
    let number : c.args.connection ≡ c.index_of-seat.result + 1 = let n = c.requires.seat.number in omega (arith, n, e1) in
    let lt : c.index_of-seat.result < length i.connections.peers.items = let m = c.requires.seat.seat in omega (arith, number, m, many) in
    let p = c.in_ok-why.ensures.puts in
    let some = get_or-any i.connections.peers.items c.index_of-seat.result None c.index.result.now lt ∙ sym c.index.ensures ∙ p.1 in
    let at = c.notes_put.ensures ∙ ap (option_map (noted_put (heard_verdict c.in_ok-why.why))) (c.index_mut-occupant.ensures.value ∙ get_or-any i.connections.peers.items c.index_of-seat.result _ None lt ∙ some) in
    let r = put_led k h s c.args.connection c.index_of-seat.result i.directory p.0 c.put_next.new.core c.in_ok-why.why c.notes_put.new.occupant c.caller_goes_on.new.occupant false c.args.out.now.items c.caller_goes_on.new.out.items
    st1 number refl lt some p.2 at c.in_err-caller_goes_on.ensures.err in
    inl (record { after = r.0; printed = r.1; plays = subst (λ (n : ℕ). PutPlay k false s n r.0 r.1) e1 (connection_puts (let b = st1.connections in omega (arith, lt, b)) r.2); stands = r.3; out = r.4 })

pub returns-clause-follows : goal.returns-clause-follows
returns-clause-follows c k s st =
    let i = c.self.inside in
    let h : House = the_view i in
    let st1 = subst (λ (x : House). StandsFor k x s) (sym c.self.view_is) st in
    let many = ap (λ (x : House). length x.callers) c.self.view_is in
    let e1 = c.index_of-seat.ensures in
    let number : c.args.connection ≡ c.index_of-seat.result + 1 = let n = c.requires.seat.number in omega (arith, n, e1) in
    let lt : c.index_of-seat.result < length i.connections.peers.items = let m = c.requires.seat.seat in omega (arith, number, m, many) in
    let p = c.in_ok-why.ensures.puts in
    let some = get_or-any i.connections.peers.items c.index_of-seat.result None c.index.result.now lt ∙ sym c.index.ensures ∙ p.1 in
    let at = c.notes_put.ensures ∙ ap (option_map (noted_put (heard_verdict c.in_ok-why.why))) (c.index_mut-occupant.ensures.value ∙ get_or-any i.connections.peers.items c.index_of-seat.result _ None lt ∙ some) in
    let r = put_led k h s c.args.connection c.index_of-seat.result i.directory p.0 c.put_next.new.core c.in_ok-why.why c.notes_put.new.occupant c.caller_goes_on.new.occupant true c.args.out.now.items c.caller_goes_on.new.out.items
    st1 number refl lt some p.2 at c.in_ok-caller_goes_on.ensures.ok in
    record { after = r.0; printed = r.1; plays = subst (λ (n : ℕ). PutPlay k true s n r.0 r.1) e1 (connection_puts (let b = st1.connections in omega (arith, lt, b)) r.2); stands = r.3; out = r.4 }

pub returns-in_err-why-clause-changes_nothing : goal.returns-in_err-why-clause-changes_nothing
returns-in_err-why-clause-changes_nothing c e k s st t printed p =
    let i = c.self.inside in
    let h : House = the_view i in
    let st1 = subst (λ (x : House). StandsFor k x s) (sym c.self.view_is) st in
    let many = ap (λ (x : House). length x.callers) c.self.view_is in
    let e1 = c.index_of-seat.ensures in
    let number : c.args.connection ≡ c.index_of-seat.result + 1 = let n = c.requires.seat.number in omega (arith, n, e1) in
    let lt : c.index_of-seat.result < length i.connections.peers.items = let m = c.requires.seat.seat in omega (arith, number, m, many) in
    let told = err_from_is_err_and c.from_residual.result c.from_residual.ensures.1 in
    let is : c.in_err-why.field-0.0 ≡ house_faults.Nothing = let e2 = e in let from = told.1 in let same = told.2 in cc in
    let n = c.in_err-why.ensures.nothing (ap (λ x. Err x) is) in
    let some = get_or-any i.connections.peers.items c.index_of-seat.result None c.index.result.now lt ∙ sym c.index.ensures ∙ n.1 in
    absurd (puts_none k h s c.index_of-seat.result n.0 t printed st1 lt some n.2 (subst (λ (x : ℕ). PutPlay k true s x t printed) (sym e1) p))

pub returns-in_err-caller_goes_on-clause-asks : goal.returns-in_err-caller_goes_on-clause-asks
returns-in_err-caller_goes_on-clause-asks c e =
    let i = c.self.inside in
    let h : House = the_view i in
    let many = ap (λ (x : House). length x.callers) c.self.view_is in
    let e1 = c.index_of-seat.ensures in
    let number : c.args.connection ≡ c.index_of-seat.result + 1 = let n = c.requires.seat.number in omega (arith, n, e1) in
    let lt : c.index_of-seat.result < length i.connections.peers.items = let m = c.requires.seat.seat in omega (arith, number, m, many) in
    let p = c.in_ok-why.ensures.puts in
    let some = get_or-any i.connections.peers.items c.index_of-seat.result None c.index.result.now lt ∙ sym c.index.ensures ∙ p.1 in
    rw (← c.self.view_is, ← e1, due_first h c.index_of-seat.result p.0 lt some) (inr (c.put_next.new.core, c.in_ok-why.why, p.2, same_delivery c.put_next.new.core))

pub returns-in_err-why-clause-asks : goal.returns-in_err-why-clause-asks
returns-in_err-why-clause-asks c e =
    let i = c.self.inside in
    let h : House = the_view i in
    let many = ap (λ (x : House). length x.callers) c.self.view_is in
    let e1 = c.index_of-seat.ensures in
    let number : c.args.connection ≡ c.index_of-seat.result + 1 = let n = c.requires.seat.number in omega (arith, n, e1) in
    let lt : c.index_of-seat.result < length i.connections.peers.items = let m = c.requires.seat.seat in omega (arith, number, m, many) in
    let told = err_from_is_err_and c.from_residual.result c.from_residual.ensures.1 in
    let is : c.in_err-why.field-0.0 ≡ house_faults.NoMemory = let e2 = e in let from = told.1 in let same = told.2 in cc in
    let n = c.in_err-why.ensures.memory (ap (λ x. Err x) is) in
    let some = get_or-any i.connections.peers.items c.index_of-seat.result None c.index.result.now lt ∙ sym c.index.ensures ∙ n.1 in
    rw (← c.self.view_is, ← e1, due_first h c.index_of-seat.result n.0 lt some) (inl n.2)
