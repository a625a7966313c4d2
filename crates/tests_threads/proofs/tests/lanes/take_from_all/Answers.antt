use Rattle.std.proofs.Common.{arith}
use Rattle.shard_queue.specs.Permits.{is_of, view}
use Rattle.lane_work.proofs.RowLaws.{consumers_length, consumer_read, consumers_written}
use Rattle.tests_threads.proofs.tests.lanes.take_from_all.Goals as goal

pub index_mut-requires : goal.index_mut-requires
index_mut-requires g c =
    let n = consumers_length view is_of c.args.lanes.now c.loop-lane.consumers.items c.loop-lane.invariant in
    omega (arith, n, c.loop-lane.consumers.ok.0, c.loop-lane-test.true)

pub take_from-requires : goal.take_from-requires
take_from-requires g c =
    consumer_read view is_of c.args.lanes.now c.loop-lane.consumers.items c.loop-lane.invariant c.loop-lane.lane c.loop-lane-test.true c.index-lanes-lane.result c.index_mut.result.now c.index-lanes-lane.is c.index_mut.ensures.value

pub loop-lane-preserved : goal.loop-lane-preserved
loop-lane-preserved g c =
    consumers_written view is_of c.args.lanes.now c.loop-lane.consumers.items c.loop-lane.invariant c.loop-lane.lane c.index-lanes-lane.result c.take_from.new.permit c.index-lanes-lane.is c.take_from.ensures
