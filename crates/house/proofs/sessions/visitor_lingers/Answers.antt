use Rattle.std.proofs.Common.{None, Option, refl, Some, subst}
use Rattle.house_peers.specs.SeatedSession.{SeatedSession}
use Rattle.house.specs.Scene.{fades, waits}
use Rattle.house.specs.inner.Steps.{StandsForSomebody}
use Rattle.house.proofs.sessions.visitor_lingers.Goals as goal

pub returns-then-not-awaits_verdict-clause-who : goal.returns-then-not-awaits_verdict-clause-who
returns-then-not-awaits_verdict-clause-who c seat next heard b s =
    let here = subst (λ (o : Option SeatedSession). StandsForSomebody seat next heard o (Some b)) c.in-Some.is s in
    record { left = None; lingers = fades (c.awaits_verdict.ensures.settled c.if-not-awaits_verdict.true seat next heard b here) refl; there = tt }

pub returns-else-not-awaits_verdict-clause-who : goal.returns-else-not-awaits_verdict-clause-who
returns-else-not-awaits_verdict-clause-who c seat next heard b s =
    let here = subst (λ (o : Option SeatedSession). StandsForSomebody seat next heard o (Some b)) c.in-Some.is s in
    record { left = Some b; lingers = waits (c.awaits_verdict.ensures.awaits c.if-not-awaits_verdict.false seat next heard b here) refl; there = here }
