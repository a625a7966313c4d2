use Rattle.std.proofs.Common.{subst, sym}
use Rattle.house_shared.specs.Crew.{IsPost}
use Rattle.running_house.proofs.Lives.{stood_down}
use Rattle.running_house.proofs.producers.produce_there.Goals as goal

pub returns-then-load-from : goal.returns-then-load-from
returns-then-load-from g c =
    let shared = c.args.common.shared.now in
    let is : IsPost shared c.args.number c.into_inner-post.result = subst (IsPost shared c.args.number) (sym c.into_inner-post.ensures) c.requires.post in
    let down = c.stand_down.ensures in
    stood_down shared c.args.common.plans.now c.args.common.guests.now c.args.number c.into_inner-post.result.desk.number c.into_inner-post.result.desk.receiver c.stand_down.result _ is.number c.packed.ensures
    down.permits down.receiver down.log down.fate is.receiver
