use Rattle.std.proofs.Common.{◌≡◌, ◌++◌, List, ℕ, [], true, Some, ap, sym, ◌∙◌}
use Rattle.cursor_set.specs.Lines.{lines}
use Rattle.mailbox.specs.declared.clients.MailFault.TheVariants.{Lapped, Stranger}
use Rattle.imap_session.specs.Exchange.{Standing, is_idling, refusal_text}
use Rattle.imap_session.specs.Response.{Response}
use Rattle.imap_session.specs.Commands.{wrong_state}
use Rattle.imap_session.proofs.Lots.{anybody}
use Rattle.imap_session.proofs.Turns.{turns_awake, turns_lapped, turns_shown, turns_unknown, turns_unselected}
use Rattle.imap_session.proofs.session.Session.idle_turn.Goals as goal

pub returns-then-not-is_idling-clause-turned : goal.returns-then-not-is_idling-clause-turned
returns-then-not-is_idling-clause-turned g c = turns_awake g.S.Store.step c.args.self.now c.args.store.now (g.O.Outlet.said c.args.out.now) (sym c.is_idling.ensures ∙ c.if-not-is_idling.true)

pub returns-in_default-clause-turned : goal.returns-in_default-clause-turned
returns-in_default-clause-turned g c =
    turns_unselected g.S.Store.step c.args.self.now c.args.store.now (g.O.Outlet.said c.args.out.now) (ap (λ (s : Standing). s.selected) (sym c.self.view_is) ∙ c.in_default.is)

pub returns-in-Ok-clause-turned : goal.returns-in-Ok-clause-turned
returns-in-Ok-clause-turned g c =
    let there : c.args.self.now.selected ≡ Some c.in-Some.field-0 = ap (λ (s : Standing). s.selected) (sym c.self.view_is) ∙ c.in-Some.is in
    let idles : is_idling c.args.self.now ≡ true = sym c.is_idling.ensures ∙ c.if-not-is_idling.false in
    let kept : c.new-response.result.text ≡ (g.O.Outlet.said c.args.out.now) = ap (λ (r : Response). r.text) c.new-response.ensures ∙ c.hold.ensures.said in
    let e = c.in-Ok.ensures.event in
    turns_shown g.S.Store.step c.args.self.now c.in-Some.field-0 c.args.store.now c.show.new.store e.0 e.1 c.in-Ok.count (g.O.Outlet.said c.args.out.now) (g.O.Outlet.said c.release.new.out) there idles e.2 e.3
    (c.release.ensures.text ∙ e.5 ∙ ap (λ (t : List ℕ). t ++ lines e.0 e.1) kept)

pub returns-in-Err-Stranger-clause-turned : goal.returns-in-Err-Stranger-clause-turned
returns-in-Err-Stranger-clause-turned g c =
    let there : c.args.self.now.selected ≡ Some c.in-Some.field-0 = ap (λ (s : Standing). s.selected) (sym c.self.view_is) ∙ c.in-Some.is in
    let idles : is_idling c.args.self.now ≡ true = sym c.is_idling.ensures ∙ c.if-not-is_idling.false in
    let kept : c.new-response.result.text ≡ (g.O.Outlet.said c.args.out.now) = ap (λ (r : Response). r.text) c.new-response.ensures ∙ c.hold.ensures.said in
    let e = c.in-Err-Stranger.ensures.event in
    turns_unknown g.S.Store.step c.args.self.now c.part.new.self c.in-Some.field-0 c.args.store.now c.show.new.store (g.O.Outlet.said c.args.out.now) (g.O.Outlet.said c.part.new.out) there idles (rw c.in-Err-Stranger.field-0-is at e.0)
    (c.part.ensures.text ∙ ap (λ (l : List ℕ). l ++ refusal_text [] Stranger) (e.1 ∙ kept)) c.part.ensures.standing

pub returns-in-Err-Lapped-clause-turned : goal.returns-in-Err-Lapped-clause-turned
returns-in-Err-Lapped-clause-turned g c =
    let there : c.args.self.now.selected ≡ Some c.in-Some.field-0 = ap (λ (s : Standing). s.selected) (sym c.self.view_is) ∙ c.in-Some.is in
    let idles : is_idling c.args.self.now ≡ true = sym c.is_idling.ensures ∙ c.if-not-is_idling.false in
    let kept : c.new-response.result.text ≡ (g.O.Outlet.said c.args.out.now) = ap (λ (r : Response). r.text) c.new-response.ensures ∙ c.hold.ensures.said in
    let e = c.in-Err-Lapped.ensures.event in
    turns_lapped g.S.Store.step c.args.self.now c.part-in-Err-Lapped.new.self c.in-Some.field-0 c.args.store.now c.show.new.store (g.O.Outlet.said c.args.out.now) (g.O.Outlet.said c.part-in-Err-Lapped.new.out) there idles
    (rw c.in-Err-Lapped.field-0-is at e.0)
    (c.part-in-Err-Lapped.ensures.text ∙ ap (λ (l : List ℕ). l ++ refusal_text [] Lapped) (e.1 ∙ kept)) c.part-in-Err-Lapped.ensures.standing

pub returns-in-Ok-clause-lot : goal.returns-in-Ok-clause-lot
returns-in-Ok-clause-lot g c =
    c.release.ensures.lot ∙ ((c.in-Ok.ensures.done wrong_state [] anybody).wrote.1 ∙ (ap (λ (r : Response). r.lot) c.new-response.ensures ∙ c.hold.ensures.lot))

pub returns-in-Err-Stranger-clause-lot : goal.returns-in-Err-Stranger-clause-lot
returns-in-Err-Stranger-clause-lot g c =
    c.part.ensures.lot ∙ ((c.in-Err-Stranger.ensures.done wrong_state [] anybody).wrote.1 ∙ (ap (λ (r : Response). r.lot) c.new-response.ensures ∙ c.hold.ensures.lot))

pub returns-in-Err-Lapped-clause-lot : goal.returns-in-Err-Lapped-clause-lot
returns-in-Err-Lapped-clause-lot g c =
    c.part-in-Err-Lapped.ensures.lot ∙ ((c.in-Err-Lapped.ensures.done wrong_state [] anybody).wrote.1 ∙ (ap (λ (r : Response). r.lot) c.new-response.ensures ∙ c.hold.ensures.lot))

pub returns-in-Err-NoMemory-clause-lot : goal.returns-in-Err-NoMemory-clause-lot
returns-in-Err-NoMemory-clause-lot g c =
    c.release-in-Err-NoMemory.ensures.lot ∙ ((c.in-Err-NoMemory.ensures.done wrong_state [] anybody).wrote.1 ∙ (ap (λ (r : Response). r.lot) c.new-response.ensures ∙ c.hold.ensures.lot))
