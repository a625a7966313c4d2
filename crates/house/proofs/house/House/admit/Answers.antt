use Rattle.std.proofs.Common.{◌≡◌, ◌+◌, ◌-◌, ◌<◌, ◌∙◌, ap, arith, false, inl, length, List, ℕ, None, Option, Some, subst, sym, true, get_or}
use Rattle.delivery_core.proofs.Follow.{get_or-any}
use Rattle.imap_session.specs.Exchange.{Folder}
use Rattle.imap_session.specs.Folders.{has_user}
use Rattle.house_peers.specs.SeatedSession.{SeatedSession, StandsForSeated}
use Rattle.house_peers.specs.Visitor.{seated_greeted}
use Rattle.house.specs.House.{House}
use Rattle.house.specs.Setup.{session_seat}
use Rattle.house.specs.Scene.{EnterPlay, most_serials}
use Rattle.house.specs.Stands.{StandsFor}
use Rattle.house.specs.inner.Steps.{PlaceTalked, StandsForSomebody}
use Rattle.house.proofs.SessionEvents.{entered}
use Rattle.house.proofs.Settlement.{on_err}
use Rattle.house.specs.contracts.house.House.{the_view}
use Rattle.house.proofs.house.House.admit.Goals as goal

pub returns-in_err-visitor_talks-clause-no_memory : goal.returns-in_err-visitor_talks-clause-no_memory
returns-in_err-visitor_talks-clause-no_memory c =
    on_err c.from_residual-in_err-visitor_talks.result _ λ k s st.
    let i = c.self.inside in
    let h : House = the_view i in
    let st1 = subst (λ (x : House). StandsFor k x s) (sym c.self.view_is) st in
    let many = ap (λ (x : House). length x.visitors) c.self.view_is in
    let first = ap (λ (x : House). length x.callers) c.self.view_is in
    let e1 = c.index_of-place.ensures in
    let place = c.index_of-place.result in
    let lt : place < length i.sessions.peers.items = let n = c.requires.free.number in let m = c.requires.free.place in omega (arith, e1, many, n, m) in
    let ls : place < length i.sessions.serials.items = let z = c.self.invariant.3 in omega (arith, lt, z) in
    let free : ◌≡◌ {A = Option SeatedSession} (get_or i.sessions.peers.items place None) None = subst (λ (n : ℕ). ◌≡◌ {A = Option SeatedSession} (get_or i.sessions.peers.items n None) None) (sym e1) (subst (λ (x : House). ◌≡◌ {A = Option SeatedSession} (get_or x.visitors (c.args.session - 1) None) None) (sym c.self.view_is) c.requires.free.free) in
    let known : has_user i.directory c.args.user.now ≡ true = subst (λ (x : House). has_user x.directory c.args.user.now ≡ true) (sym c.self.view_is) c.requires.free.known in
    let more = subst (λ (n : ℕ). get_or i.sessions.serials.items n 0 < most_serials) (sym e1) (subst (λ (x : House). get_or x.entered (c.args.session - 1) 0 < most_serials) (sym c.self.view_is) c.requires.free.more) in
    let seat : c.session_seat-seat.result ≡ length i.connections.peers.items + place = c.session_seat-seat.ensures ∙ ap (λ (n : ℕ). n + (c.args.session - 1)) (sym first) ∙ ap (λ (n : ℕ). length i.connections.peers.items + n) (sym e1) in
    let serial : c.index-serial.result.now ≡ get_or i.sessions.serials.items place 0 = c.index-serial.ensures ∙ get_or-any i.sessions.serials.items place c.index-serial.result.now 0 ls in
    let r = entered k false h s place c.session_seat-seat.result c.index-serial.result.now c.in_ok-admission.admission c.args.user.now c.in_ok-visitor.visitor c.visitor_talks.new.place c.visitor_talks.new.store.core c.args.out.now.items c.visitor_talks.new.out.items
    st1 lt seat free known serial (subst (λ (n : ℕ). n < most_serials) (sym serial) more) c.in_ok-admission.ensures.is c.visitor_talks.ensures.delivery
    (λ next heard l. subst (λ (f : List Folder). StandsForSeated c.session_seat-seat.result next heard c.in_ok-visitor.visitor (seated_greeted c.index-serial.result.now c.in_ok-admission.admission f)) c.in_ok-folders.ensures (c.in_ok-visitor.ensures.1 next heard l))
    (λ next heard w b stands is. subst (λ (n : ℕ). PlaceTalked k false n next heard w b c.visitor_talks.new.place c.visitor_talks.new.store.core c.args.out.now.items c.visitor_talks.new.out.items) (sym e1)
    (c.in_err-visitor_talks.ensures.err k next heard w b stands (subst (λ (n : ℕ). StandsForSomebody (session_seat k n) next heard (Some c.in_ok-visitor.visitor) (Some b)) e1 is))) in
    inl (record {
      after = r.0;
      printed = r.1;
      plays = subst (λ (n : ℕ). EnterPlay k false s n c.args.user.now r.0 r.1) e1 r.2;
      stands = r.3;
      out = r.4;
    })

pub returns-clause-follows : goal.returns-clause-follows
returns-clause-follows c k s st =
    let i = c.self.inside in
    let h : House = the_view i in
    let st1 = subst (λ (x : House). StandsFor k x s) (sym c.self.view_is) st in
    let many = ap (λ (x : House). length x.visitors) c.self.view_is in
    let first = ap (λ (x : House). length x.callers) c.self.view_is in
    let e1 = c.index_of-place.ensures in
    let place = c.index_of-place.result in
    let lt : place < length i.sessions.peers.items = let n = c.requires.free.number in let m = c.requires.free.place in omega (arith, e1, many, n, m) in
    let ls : place < length i.sessions.serials.items = let z = c.self.invariant.3 in omega (arith, lt, z) in
    let free : ◌≡◌ {A = Option SeatedSession} (get_or i.sessions.peers.items place None) None = subst (λ (n : ℕ). ◌≡◌ {A = Option SeatedSession} (get_or i.sessions.peers.items n None) None) (sym e1) (subst (λ (x : House). ◌≡◌ {A = Option SeatedSession} (get_or x.visitors (c.args.session - 1) None) None) (sym c.self.view_is) c.requires.free.free) in
    let known : has_user i.directory c.args.user.now ≡ true = subst (λ (x : House). has_user x.directory c.args.user.now ≡ true) (sym c.self.view_is) c.requires.free.known in
    let more = subst (λ (n : ℕ). get_or i.sessions.serials.items n 0 < most_serials) (sym e1) (subst (λ (x : House). get_or x.entered (c.args.session - 1) 0 < most_serials) (sym c.self.view_is) c.requires.free.more) in
    let seat : c.session_seat-seat.result ≡ length i.connections.peers.items + place = c.session_seat-seat.ensures ∙ ap (λ (n : ℕ). n + (c.args.session - 1)) (sym first) ∙ ap (λ (n : ℕ). length i.connections.peers.items + n) (sym e1) in
    let serial : c.index-serial.result.now ≡ get_or i.sessions.serials.items place 0 = c.index-serial.ensures ∙ get_or-any i.sessions.serials.items place c.index-serial.result.now 0 ls in
    let r = entered k true h s place c.session_seat-seat.result c.index-serial.result.now c.in_ok-admission.admission c.args.user.now c.in_ok-visitor.visitor c.visitor_talks.new.place c.visitor_talks.new.store.core c.args.out.now.items c.visitor_talks.new.out.items
    st1 lt seat free known serial (subst (λ (n : ℕ). n < most_serials) (sym serial) more) c.in_ok-admission.ensures.is c.visitor_talks.ensures.delivery
    (λ next heard l. subst (λ (f : List Folder). StandsForSeated c.session_seat-seat.result next heard c.in_ok-visitor.visitor (seated_greeted c.index-serial.result.now c.in_ok-admission.admission f)) c.in_ok-folders.ensures (c.in_ok-visitor.ensures.1 next heard l))
    (λ next heard w b stands is. subst (λ (n : ℕ). PlaceTalked k true n next heard w b c.visitor_talks.new.place c.visitor_talks.new.store.core c.args.out.now.items c.visitor_talks.new.out.items) (sym e1)
    (c.in_ok-visitor_talks.ensures.ok k next heard w b stands (subst (λ (n : ℕ). StandsForSomebody (session_seat k n) next heard (Some c.in_ok-visitor.visitor) (Some b)) e1 is))) in
    record {
      after = r.0;
      printed = r.1;
      plays = subst (λ (n : ℕ). EnterPlay k true s n c.args.user.now r.0 r.1) e1 r.2;
      stands = r.3;
      out = r.4;
    }
