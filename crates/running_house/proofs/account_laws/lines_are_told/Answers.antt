use Rattle.running_house.proofs.ToldLaws.{lines_are_told}
use Rattle.running_house.proofs.account_laws.lines_are_told.Goals as goal

pub returns : goal.returns
returns c = lines_are_told
