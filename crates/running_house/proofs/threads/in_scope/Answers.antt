use Rattle.std.proofs.Common.{◌+◌, length, subst, sym}
use Rattle.house_shared.specs.Crew.{IsCrew}
use Rattle.running_house.proofs.threads.in_scope.Goals as goal

pub returns-in_default-clause-left : goal.returns-in_default-clause-left
returns-in_default-clause-left g c =
    let shared = c.args.common.shared.now in
    let producers = length c.args.common.plans.now + length c.args.common.guests.now in
    c.none_started.ensures.left shared producers c.requires.house.channels (subst (IsCrew shared producers) (sym c.into_inner-crew.ensures) c.requires.crew)
