use Rattle.world.proofs.Refusals.{shut_comes_first, full_is_not_shut}
use Rattle.world.proofs.a_put_is_refused_for_its_reason.Goals as goal

pub returns-clause-shut : goal.returns-clause-shut
returns-clause-shut c = shut_comes_first

pub returns-clause-full : goal.returns-clause-full
returns-clause-full c = full_is_not_shut
