use Rattle.std.proofs.Common.{◌∙◌, List, sym, subst}
use Rattle.house_history.specs.declared.event.Event.{Event}
use Rattle.house_history.specs.Legal.{Legal}
use Rattle.house_history.proofs.Follow.{legal_empty}
use Rattle.house_history.proofs.opening.Opened.named.Goals as goal

pub invariant_of-result : goal.invariant_of-result
invariant_of-result g c = (c.self.view_is ∙ c.requires, subst (λ (l : List Event). Legal l) (sym c.self.invariant.1) legal_empty)
