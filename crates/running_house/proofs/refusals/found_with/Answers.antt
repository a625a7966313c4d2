use Rattle.std.proofs.Common.{arith, refl, take}
use Rattle.running_house.proofs.RefusalLaws.{stand_next, stand_still}
use Rattle.running_house.proofs.refusals.found_with.Goals as goal

pub returns-then-found-accepted-clause-found : goal.returns-then-found-accepted-clause-found
returns-then-found-accepted-clause-found c before so = stand_still c.args.mailbox (take c.args.found c.args.accepted.now) before c.args.entry.now so

pub returns-then-not-is_accepted-clause-found : goal.returns-then-not-is_accepted-clause-found
returns-then-not-is_accepted-clause-found c before so = stand_still c.args.mailbox (take c.args.found c.args.accepted.now) before c.args.entry.now so

pub returns-clause-found : goal.returns-clause-found
returns-clause-found c before so =
    let within = c.requires.within in
    let other = c.if-found-accepted.false in
    stand_next c.args.mailbox c.args.accepted.now c.args.found (record { seat = 0; serial = 0; message = 0; recipient = 0 }, 0) before c.args.entry.now
    (omega (arith, within, other)) (c.if-not-is_accepted.ensures refl) so
