use Rattle.std.proofs.Common.{◌≡◌, ◌∙◌, ap, subst, sym, refl, List, [], ◌∷◌, Bool, true, false, not, Option, Some, None}
use Rattle.std.specs.Prelude.{IfSome}
use Rattle.std.specs.Option.{is_some}
use Rattle.delivery_token.specs.declared.Verdict.{Verdict}
use Rattle.delivery_token.specs.Verdicts.{AreKnown}
use Rattle.house_peers.specs.SeatedSession.{SeatedSession}
use Rattle.house_peers.proofs.Seating.{awaits, is_settled}
use Rattle.house_peers.proofs.seated.SeatedSession.awaits_verdict.Goals as goal

-- what a test of a verdict tells of it
unheard : {A : Type 0} (o : Option A) (b : Bool) → is_some o ≡ not b → b ≡ true → o ≡ None
unheard None b is e = refl
unheard (Some x) true is e = cc
unheard (Some x) false is e = cc

heard_of : {A : Type 0} (o : Option A) (b : Bool) (P : A → Type 0) → is_some o ≡ not b → b ≡ false → IfSome o P → (x : A) × P x
heard_of None true P is e h = cc
heard_of None false P is e h = cc
heard_of (Some x) b P is e h = (x, h)

pub returns-clause-awaits : goal.returns-clause-awaits
returns-clause-awaits c e seat next heard v s =
    awaits seat next heard v c.args.self.now s
    (ap (λ (p : SeatedSession). is_some p.place.link.session.mailing.sent) (sym c.self.view_is) ∙ sym c.awaits_verdict.ensures.is ∙ c.if-not-awaits_verdict.false)
    (subst (λ (p : SeatedSession). (vs : List Verdict) → AreKnown 1 p.slots vs → ⊥) c.self.view_is (c.only.ensures.unknown (unheard c.only.result c.is_none.result c.is_none.ensures e)))

pub returns-clause-settled : goal.returns-clause-settled
returns-clause-settled c e seat next heard v s =
    let known = heard_of c.only.result c.is_none.result (λ (one : Verdict). AreKnown 1 c.self.inside.verdicts.slots (one ∷ [])) c.is_none.ensures e c.only.ensures.known in
    is_settled seat next heard v c.args.self.now known.0 s
    (ap (λ (p : SeatedSession). is_some p.place.link.session.mailing.sent) (sym c.self.view_is) ∙ sym c.awaits_verdict.ensures.is ∙ c.if-not-awaits_verdict.false)
    (subst (λ (p : SeatedSession). AreKnown 1 p.slots (known.0 ∷ [])) c.self.view_is known.1)
