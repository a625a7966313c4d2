use Rattle.std.proofs.Common.{lit<, refl}
use Rattle.post_house.proofs.refuse_words.Goals as goal

pub returns-clause-status : goal.returns-clause-status
returns-clause-status g c = (1, lit< tt, refl)
