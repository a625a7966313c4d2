use Rattle.std.proofs.Common.{◌≡◌, sym, subst}
use Rattle.dot_stuffing.specs.Unstuffing.{IsBehind, Unstuffer}
use Rattle.dot_stuffing.proofs.Runs.{context_at_end, stands_run}
use Rattle.dot_stuffing.specs.declared.context.Context.TheVariants.{Inside}
use Rattle.dot_stuffing.proofs.unstuffer.Unstuffer.take_run.Goals as goal

pub returns-clause-stands : goal.returns-clause-stands
returns-clause-stands c wire s =
    let s' = rw (← c.self.view_is) at s in
    let context : c.self.inside.context ≡ Inside = c.in-Inside.is in
    stands_run _ _ wire c.args.piece.now c.before_dot-len.result s' context (context_at_end _ _ c.context_behind-self-inside.ensures.none c.context_behind-self-inside.ensures.one c.context_behind-self-inside.ensures.more)
    c.before_dot-len.ensures.within c.before_dot-len.ensures.none c.add_run.ensures.collects

pub returns-clause-behind : goal.returns-clause-behind
returns-clause-behind c front h = c.add_run.ensures.behind front (subst (λ (u : Unstuffer). IsBehind u.collected front) (sym c.self.view_is) h)
