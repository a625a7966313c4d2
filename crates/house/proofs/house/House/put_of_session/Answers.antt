use Rattle.std.proofs.Common.{◌≡◌, ◌+◌, ◌-◌, ◌<◌, ◌∙◌, ap, arith, false, inl, inr, length, ℕ, None, Option, Some, Err, subst, sym, true, get_or}
use Rattle.std.proofs.lemmas.Result.{err_from_is_err_and}
use Rattle.std.specs.Option.{option_map}
use Rattle.delivery_core.proofs.Follow.{get_or-any}
use Rattle.house_peers.specs.SeatedSession.{SeatedSession, noted_put}
use Rattle.delivery_token.specs.inner.Verdicts.{heard_verdict}
use Rattle.house.specs.declared.event.HouseFault.TheVariants as house_faults
use Rattle.house.specs.House.{House}
use Rattle.house.specs.Setup.{session_seat}
use Rattle.house.specs.Scene.{PutPlay, session_puts}
use Rattle.house.specs.Stands.{StandsFor}
use Rattle.house.specs.inner.Steps.{PlaceVisited, StandsForSomebody}
use Rattle.house.proofs.Ended.{due_behind}
use Rattle.house.proofs.SessionEvents.{put_led, puts_none}
use Rattle.house.specs.contracts.house.House.{the_view}
use Rattle.house.proofs.house.House.put_of_session.Goals as goal

pub returns-in_err-visitor_goes_on-clause-no_memory : goal.returns-in_err-visitor_goes_on-clause-no_memory
returns-in_err-visitor_goes_on-clause-no_memory c e k s st =
    let i = c.self.inside in
    let h : House = the_view i in
    let st1 = subst (λ (x : House). StandsFor k x s) (sym c.self.view_is) st in
    let many = ap (λ (x : House). length x.visitors) c.self.view_is in
    let first = ap (λ (x : House). length x.callers) c.self.view_is in
    let place = c.index_of-place.result in
    let counted = c.len.ensures in
    let number = c.index_of-place.ensures in
    let at : c.args.number - 1 ≡ length i.connections.peers.items + place = let b = c.requires.number.behind in omega (arith, b, first, counted, number) in
    let lt : place < length i.sessions.peers.items = let b = c.requires.number.behind in let w = c.requires.number.within in omega (arith, b, w, first, many, counted, number) in
    let mine : c.args.number - 1 ≡ session_seat k place = at ∙ ap (λ (n : ℕ). n + place) st1.connections in
    let p = c.in_ok-why.ensures.puts in
    let some : ◌≡◌ {A = Option SeatedSession} (get_or i.sessions.peers.items place None) (Some p.0) = get_or-any i.sessions.peers.items place None c.index.result.now lt ∙ sym c.index.ensures ∙ p.1 in
    let here = c.notes_put.ensures ∙ ap (option_map (noted_put (heard_verdict c.in_ok-why.why))) (c.index_mut-here.ensures.value ∙ get_or-any i.sessions.peers.items place _ None lt ∙ some) in
    let r = put_led k false h s place p.0 c.put_next.new.core c.visitor_goes_on.new.store.core c.in_ok-why.why c.notes_put.new.occupant c.visitor_goes_on.new.place c.args.out.now.items c.visitor_goes_on.new.out.items st1 lt some p.2 here c.visitor_goes_on.ensures.delivery
    (λ next heard w b stands is. subst (λ (n : ℕ). PlaceVisited k false n next heard w b c.visitor_goes_on.new.place c.visitor_goes_on.new.store.core c.args.out.now.items c.visitor_goes_on.new.out.items) (sym number)
    (c.in_err-visitor_goes_on.ensures.err k next heard w b stands (subst (λ (n : ℕ). StandsForSomebody (session_seat k n) next heard c.notes_put.new.occupant (Some b)) number is))) in
    inl (record { after = r.0; printed = r.1; plays = session_puts place mine r.2; stands = r.3; out = r.4 })

pub returns-clause-follows : goal.returns-clause-follows
returns-clause-follows c k s st =
    let i = c.self.inside in
    let h : House = the_view i in
    let st1 = subst (λ (x : House). StandsFor k x s) (sym c.self.view_is) st in
    let many = ap (λ (x : House). length x.visitors) c.self.view_is in
    let first = ap (λ (x : House). length x.callers) c.self.view_is in
    let place = c.index_of-place.result in
    let counted = c.len.ensures in
    let number = c.index_of-place.ensures in
    let at : c.args.number - 1 ≡ length i.connections.peers.items + place = let b = c.requires.number.behind in omega (arith, b, first, counted, number) in
    let lt : place < length i.sessions.peers.items = let b = c.requires.number.behind in let w = c.requires.number.within in omega (arith, b, w, first, many, counted, number) in
    let mine : c.args.number - 1 ≡ session_seat k place = at ∙ ap (λ (n : ℕ). n + place) st1.connections in
    let p = c.in_ok-why.ensures.puts in
    let some : ◌≡◌ {A = Option SeatedSession} (get_or i.sessions.peers.items place None) (Some p.0) = get_or-any i.sessions.peers.items place None c.index.result.now lt ∙ sym c.index.ensures ∙ p.1 in
    let here = c.notes_put.ensures ∙ ap (option_map (noted_put (heard_verdict c.in_ok-why.why))) (c.index_mut-here.ensures.value ∙ get_or-any i.sessions.peers.items place _ None lt ∙ some) in
    let r = put_led k true h s place p.0 c.put_next.new.core c.visitor_goes_on.new.store.core c.in_ok-why.why c.notes_put.new.occupant c.visitor_goes_on.new.place c.args.out.now.items c.visitor_goes_on.new.out.items st1 lt some p.2 here c.visitor_goes_on.ensures.delivery
    (λ next heard w b stands is. subst (λ (n : ℕ). PlaceVisited k true n next heard w b c.visitor_goes_on.new.place c.visitor_goes_on.new.store.core c.args.out.now.items c.visitor_goes_on.new.out.items) (sym number)
    (c.in_ok-visitor_goes_on.ensures.ok k next heard w b stands (subst (λ (n : ℕ). StandsForSomebody (session_seat k n) next heard c.notes_put.new.occupant (Some b)) number is))) in
    record { after = r.0; printed = r.1; plays = session_puts place mine r.2; stands = r.3; out = r.4 }

pub returns-in_err-why-clause-changes_nothing : goal.returns-in_err-why-clause-changes_nothing
returns-in_err-why-clause-changes_nothing c e k s st t printed p =
    let i = c.self.inside in
    let h : House = the_view i in
    let st1 = subst (λ (x : House). StandsFor k x s) (sym c.self.view_is) st in
    let many = ap (λ (x : House). length x.visitors) c.self.view_is in
    let first = ap (λ (x : House). length x.callers) c.self.view_is in
    let place = c.index_of-place.result in
    let counted = c.len.ensures in
    let number = c.index_of-place.ensures in
    let at : c.args.number - 1 ≡ length i.connections.peers.items + place = let b = c.requires.number.behind in omega (arith, b, first, counted, number) in
    let lt : place < length i.sessions.peers.items = let b = c.requires.number.behind in let w = c.requires.number.within in omega (arith, b, w, first, many, counted, number) in
    let mine : c.args.number - 1 ≡ session_seat k place = at ∙ ap (λ (n : ℕ). n + place) st1.connections in
    let told = err_from_is_err_and c.from_residual.result c.from_residual.ensures.1 in
    let is : c.in_err-why.field-0.0 ≡ house_faults.Nothing = let e2 = e in let from = told.1 in let same = told.2 in cc in
    let n = c.in_err-why.ensures.nothing (ap (λ x. Err x) is) in
    let some : ◌≡◌ {A = Option SeatedSession} (get_or i.sessions.peers.items place None) (Some n.0) = get_or-any i.sessions.peers.items place None c.index.result.now lt ∙ sym c.index.ensures ∙ n.1 in
    absurd (puts_none k h s place n.0 t printed st1 lt some n.2 (subst (λ (x : ℕ). PutPlay k true s x t printed) mine p))

pub returns-in_err-visitor_goes_on-clause-asks : goal.returns-in_err-visitor_goes_on-clause-asks
returns-in_err-visitor_goes_on-clause-asks c e =
    let i = c.self.inside in
    let h : House = the_view i in
    let many = ap (λ (x : House). length x.visitors) c.self.view_is in
    let first = ap (λ (x : House). length x.callers) c.self.view_is in
    let place = c.index_of-place.result in
    let counted = c.len.ensures in
    let number = c.index_of-place.ensures in
    let at : c.args.number - 1 ≡ length i.connections.peers.items + place = let b = c.requires.number.behind in omega (arith, b, first, counted, number) in
    let lt : place < length i.sessions.peers.items = let b = c.requires.number.behind in let w = c.requires.number.within in omega (arith, b, w, first, many, counted, number) in
    let p = c.in_ok-why.ensures.puts in
    let some : ◌≡◌ {A = Option SeatedSession} (get_or i.sessions.peers.items place None) (Some p.0) = get_or-any i.sessions.peers.items place None c.index.result.now lt ∙ sym c.index.ensures ∙ p.1 in
    rw (← c.self.view_is, due_behind h (c.args.number - 1) place p.0 at some) (inr (c.put_next.new.core, c.in_ok-why.why, p.2, c.visitor_goes_on.ensures.delivery))

pub returns-in_err-why-clause-asks : goal.returns-in_err-why-clause-asks
returns-in_err-why-clause-asks c e =
    let i = c.self.inside in
    let h : House = the_view i in
    let many = ap (λ (x : House). length x.visitors) c.self.view_is in
    let first = ap (λ (x : House). length x.callers) c.self.view_is in
    let place = c.index_of-place.result in
    let counted = c.len.ensures in
    let number = c.index_of-place.ensures in
    let at : c.args.number - 1 ≡ length i.connections.peers.items + place = let b = c.requires.number.behind in omega (arith, b, first, counted, number) in
    let lt : place < length i.sessions.peers.items = let b = c.requires.number.behind in let w = c.requires.number.within in omega (arith, b, w, first, many, counted, number) in
    let told = err_from_is_err_and c.from_residual.result c.from_residual.ensures.1 in
    let is : c.in_err-why.field-0.0 ≡ house_faults.NoMemory = let e2 = e in let from = told.1 in let same = told.2 in cc in
    let n = c.in_err-why.ensures.memory (ap (λ x. Err x) is) in
    let some : ◌≡◌ {A = Option SeatedSession} (get_or i.sessions.peers.items place None) (Some n.0) = get_or-any i.sessions.peers.items place None c.index.result.now lt ∙ sym c.index.ensures ∙ n.1 in
    rw (← c.self.view_is, due_behind h (c.args.number - 1) place n.0 at some) (inl n.2)
