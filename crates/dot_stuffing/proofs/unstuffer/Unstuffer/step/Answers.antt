use Rattle.std.proofs.Common.{ℕ, List, sym, subst}
use Rattle.dot_stuffing.specs.Unstuffing.{Collects, IsBehind, Unstuffer}
use Rattle.dot_stuffing.proofs.unstuffer.Unstuffer.step.Goals as goal

pub returns-in-Adds-clause-data : goal.returns-in-Adds-clause-data
returns-in-Adds-clause-data c wire s =
    let s' = rw (← c.self.view_is) at s in
    let w = c.in-Adds.ensures wire s'.wire_at in
    record { wire_at = w.0; collects = subst (λ (t : List ℕ). Collects c.add.new.self t) (sym w.1) (c.add.ensures.collects _ s'.collects) }

pub returns-in-AddsBoth-clause-data : goal.returns-in-AddsBoth-clause-data
returns-in-AddsBoth-clause-data c wire s =
    let s' = rw (← c.self.view_is) at s in
    let w = c.in-AddsBoth.ensures wire s'.wire_at in
    record { wire_at = w.0; collects = subst (λ (t : List ℕ). Collects c.add-in-AddsBoth-2.new.self t) (sym w.1) (c.add-in-AddsBoth-2.ensures.collects _ (c.add-in-AddsBoth.ensures.collects _ s'.collects)) }

pub returns-in-Adds-clause-behind : goal.returns-in-Adds-clause-behind
returns-in-Adds-clause-behind c front h = c.add.ensures.behind front (subst (λ (u : Unstuffer). IsBehind u.collected front) (sym c.self.view_is) h)

pub returns-in-AddsBoth-clause-behind : goal.returns-in-AddsBoth-clause-behind
returns-in-AddsBoth-clause-behind c front h =
    c.add-in-AddsBoth-2.ensures.behind front (c.add-in-AddsBoth.ensures.behind front (subst (λ (u : Unstuffer). IsBehind u.collected front) (sym c.self.view_is) h))
