use Rattle.std.proofs.Common.{subst}
use Rattle.delivery_token.specs.declared.log.Noted.{Noted}
use Rattle.house_history.specs.Views.{IsSettledIn}
use Rattle.house_history.proofs.Follow.{settled_later}
use Rattle.house_history.proofs.letters.Answer.teach.Goals as goal

pub returns-clause-settled : goal.returns-clause-settled
returns-clause-settled g c = subst (λ (n : Noted). IsSettledIn c.learn.new.self n) c.self.view_is (settled_later c.self.inside.front c.learn.new.self c.self.inside.noted c.learn.ensures.theirs c.self.invariant)
