use Rattle.laws_client.proofs.Cutting.{answers_are_cut, answers_were_cut}
use Rattle.laws_client.proofs.record_laws.answers_are_cut.Goals as goal

pub returns-clause-there : goal.returns-clause-there
returns-clause-there c = answers_are_cut

pub returns-clause-ended : goal.returns-clause-ended
returns-clause-ended c = answers_were_cut
