use Rattle.running_house.proofs.Moves.{told_fault}
use Rattle.running_house.proofs.report.report_on.Goals as goal

pub returns-clause-fault : goal.returns-clause-fault
returns-clause-fault g c = told_fault c.compare.result c.compare.ensures.fault
