use Rattle.running_house.proofs.AloneLaws.{filled_alone_is_all}
use Rattle.running_house.proofs.laws.full_tells_no_more.Goals as goal

pub returns : goal.returns
returns c = filled_alone_is_all
