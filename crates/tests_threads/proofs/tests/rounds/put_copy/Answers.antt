use Rattle.std.proofs.Common.{◌<◌, ◌∙◌, length, subst, sym, arith}
use Rattle.lane_work.specs.Permits.{IsPermit}
use Rattle.lane_work.proofs.PermitLaws.{permit_here, permits_length, permits_set}
use Rattle.tests_threads.proofs.tests.rounds.put_copy.Goals as goal

pub index_mut-requires : goal.index_mut-requires
index_mut-requires g c =
    let n = permits_length c.args.intake.now.lanes.items c.args.number c.args.permits.now.items c.requires.permits in
    let w = c.shard_of-shard.ensures.within in
    let l = c.requires.lanes in
    omega (arith, n, w, l)

pub put_at-was_put-requires : goal.put_at-was_put-requires
put_at-was_put-requires g c =
    let w = c.shard_of-shard.ensures.within in
    let l = c.requires.lanes in
    let under : c.shard_of-shard.result < length c.args.intake.now.lanes.items = omega (arith, w, l) in
    subst (λ q. IsPermit q c.index_mut.result.now) (sym c.index.ensures)
    (permit_here c.args.intake.now.lanes.items c.args.number c.args.permits.now.items c.requires.permits c.shard_of-shard.result under c.index.result.now c.index_mut.result.now c.index_mut.ensures.value).0

pub returns-then-was_put : goal.returns-then-was_put
returns-then-was_put g c =
    let w = c.shard_of-shard.ensures.within in
    let l = c.requires.lanes in
    let under : c.shard_of-shard.result < length c.args.intake.now.lanes.items = omega (arith, w, l) in
    let was = permit_here c.args.intake.now.lanes.items c.args.number c.args.permits.now.items c.requires.permits c.shard_of-shard.result under c.index.result.now c.index_mut.result.now c.index_mut.ensures.value in
    permits_set c.args.intake.now.lanes.items c.args.number c.args.permits.now.items c.requires.permits c.shard_of-shard.result c.index.result.now c.put_at-was_put.new.permit
    (subst (λ q. IsPermit q c.put_at-was_put.new.permit) c.index.ensures c.put_at-was_put.ensures.0) (c.put_at-was_put.ensures.1 ∙ was.1)

pub returns-else-was_put : goal.returns-else-was_put
returns-else-was_put g c =
    let w = c.shard_of-shard.ensures.within in
    let l = c.requires.lanes in
    let under : c.shard_of-shard.result < length c.args.intake.now.lanes.items = omega (arith, w, l) in
    let was = permit_here c.args.intake.now.lanes.items c.args.number c.args.permits.now.items c.requires.permits c.shard_of-shard.result under c.index.result.now c.index_mut.result.now c.index_mut.ensures.value in
    permits_set c.args.intake.now.lanes.items c.args.number c.args.permits.now.items c.requires.permits c.shard_of-shard.result c.index.result.now c.put_at-was_put.new.permit
    (subst (λ q. IsPermit q c.put_at-was_put.new.permit) c.index.ensures c.put_at-was_put.ensures.0) (c.put_at-was_put.ensures.1 ∙ was.1)
