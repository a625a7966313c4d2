use Rattle.exactly_once.proofs.Going.{none_twice}
use Rattle.exactly_once.proofs.no_copy_is_told_twice.Goals as goal

pub returns : goal.returns
returns c = none_twice
