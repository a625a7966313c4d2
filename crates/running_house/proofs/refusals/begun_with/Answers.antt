use Rattle.running_house.proofs.RefusalLaws.{own_next, together_next}
use Rattle.running_house.proofs.refusals.begun_with.Goals as goal

pub returns-then-may_wait-clause-own : goal.returns-then-may_wait-clause-own
returns-then-may_wait-clause-own c =
    own_next c.args.key.now c.args.taken.now c.args.begun c.begun_beside.result c.args.index c.index-taken-index.result c.requires.within.1 c.index-taken-index.is
    c.begun_beside.ensures.within.0 c.begun_beside.ensures.within.1 c.requires.own (c.may_wait.ensures c.if-may_wait.true)

pub returns-then-may_wait-clause-together : goal.returns-then-may_wait-clause-together
returns-then-may_wait-clause-together c =
    together_next c.args.taken.now c.args.begun c.begun_beside.result c.args.index c.index-taken-index.result c.requires.within.1 c.index-taken-index.is
    c.begun_beside.ensures.within.0 c.begun_beside.ensures.within.1 c.requires.together (c.begun_beside.ensures.beside c.index-taken-index.result c.index-taken-index.is)
