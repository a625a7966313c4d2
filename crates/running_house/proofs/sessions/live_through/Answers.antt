use Rattle.std.proofs.Common.{[], refl, arith}
use Rattle.lane_work.proofs.CarryLaws.{carries_nothing}
use Rattle.running_house.proofs.sessions.live_through.Goals as goal

pub returns-in-Ok-lived-clause-same : goal.returns-in-Ok-lived-clause-same
returns-in-Ok-lived-clause-same g c = (c.live-lived.ensures.kept c.args.courier.now ((refl, refl, refl, omega arith, λ seat was. was), refl, refl, λ whole. (whole, refl, ([], carries_nothing c.args.courier.now.context.intake.now c.args.courier.now.serial c.args.courier.now.desk)))).0

pub returns-in-Ok-lived-clause-serial : goal.returns-in-Ok-lived-clause-serial
returns-in-Ok-lived-clause-serial g c = (c.live-lived.ensures.kept c.args.courier.now ((refl, refl, refl, omega arith, λ seat was. was), refl, refl, λ whole. (whole, refl, ([], carries_nothing c.args.courier.now.context.intake.now c.args.courier.now.serial c.args.courier.now.desk)))).1

pub returns-in-Ok-lived-clause-book : goal.returns-in-Ok-lived-clause-book
returns-in-Ok-lived-clause-book g c = (c.live-lived.ensures.kept c.args.courier.now ((refl, refl, refl, omega arith, λ seat was. was), refl, refl, λ whole. (whole, refl, ([], carries_nothing c.args.courier.now.context.intake.now c.args.courier.now.serial c.args.courier.now.desk)))).2

pub returns-in-Ok-lived-clause-only : goal.returns-in-Ok-lived-clause-only
returns-in-Ok-lived-clause-only g c whole =
    let ends = (c.live-lived.ensures.kept c.args.courier.now ((refl, refl, refl, omega arith, λ seat was. was), refl, refl, λ whole. (whole, refl, ([], carries_nothing c.args.courier.now.context.intake.now c.args.courier.now.serial c.args.courier.now.desk)))).3 whole in
    (ends.0, ends.1)

pub returns-in-Err-NoMemory-clause-same : goal.returns-in-Err-NoMemory-clause-same
returns-in-Err-NoMemory-clause-same g c = (c.live-lived.ensures.kept c.args.courier.now ((refl, refl, refl, omega arith, λ seat was. was), refl, refl, λ whole. (whole, refl, ([], carries_nothing c.args.courier.now.context.intake.now c.args.courier.now.serial c.args.courier.now.desk)))).0

pub returns-in-Err-NoMemory-clause-serial : goal.returns-in-Err-NoMemory-clause-serial
returns-in-Err-NoMemory-clause-serial g c = (c.live-lived.ensures.kept c.args.courier.now ((refl, refl, refl, omega arith, λ seat was. was), refl, refl, λ whole. (whole, refl, ([], carries_nothing c.args.courier.now.context.intake.now c.args.courier.now.serial c.args.courier.now.desk)))).1

pub returns-in-Err-NoMemory-clause-book : goal.returns-in-Err-NoMemory-clause-book
returns-in-Err-NoMemory-clause-book g c = (c.live-lived.ensures.kept c.args.courier.now ((refl, refl, refl, omega arith, λ seat was. was), refl, refl, λ whole. (whole, refl, ([], carries_nothing c.args.courier.now.context.intake.now c.args.courier.now.serial c.args.courier.now.desk)))).2

pub returns-in-Err-NoMemory-clause-only : goal.returns-in-Err-NoMemory-clause-only
returns-in-Err-NoMemory-clause-only g c whole =
    let ends = (c.live-lived.ensures.kept c.args.courier.now ((refl, refl, refl, omega arith, λ seat was. was), refl, refl, λ whole. (whole, refl, ([], carries_nothing c.args.courier.now.context.intake.now c.args.courier.now.serial c.args.courier.now.desk)))).3 whole in
    (ends.0, ends.1)

pub returns-in-Err-Torn-clause-same : goal.returns-in-Err-Torn-clause-same
returns-in-Err-Torn-clause-same g c = (c.live-lived.ensures.kept c.args.courier.now ((refl, refl, refl, omega arith, λ seat was. was), refl, refl, λ whole. (whole, refl, ([], carries_nothing c.args.courier.now.context.intake.now c.args.courier.now.serial c.args.courier.now.desk)))).0

pub returns-in-Err-Torn-clause-serial : goal.returns-in-Err-Torn-clause-serial
returns-in-Err-Torn-clause-serial g c = (c.live-lived.ensures.kept c.args.courier.now ((refl, refl, refl, omega arith, λ seat was. was), refl, refl, λ whole. (whole, refl, ([], carries_nothing c.args.courier.now.context.intake.now c.args.courier.now.serial c.args.courier.now.desk)))).1

pub returns-in-Err-Torn-clause-book : goal.returns-in-Err-Torn-clause-book
returns-in-Err-Torn-clause-book g c = (c.live-lived.ensures.kept c.args.courier.now ((refl, refl, refl, omega arith, λ seat was. was), refl, refl, λ whole. (whole, refl, ([], carries_nothing c.args.courier.now.context.intake.now c.args.courier.now.serial c.args.courier.now.desk)))).2

pub returns-in-Err-Torn-clause-only : goal.returns-in-Err-Torn-clause-only
returns-in-Err-Torn-clause-only g c whole =
    let ends = (c.live-lived.ensures.kept c.args.courier.now ((refl, refl, refl, omega arith, λ seat was. was), refl, refl, λ whole. (whole, refl, ([], carries_nothing c.args.courier.now.context.intake.now c.args.courier.now.serial c.args.courier.now.desk)))).3 whole in
    (ends.0, ends.1)
