use Rattle.std.proofs.Common.{inr}
use Rattle.house_history.proofs.letters.Answer.withdrawn.Goals as goal

pub invariant_of-result : goal.invariant_of-result
invariant_of-result g c = inr (c.requires.refused, (c.requires.copy.0, c.requires.copy.1, c.withdraw.ensures.copy c.requires.copy.0 c.requires.copy.2))
