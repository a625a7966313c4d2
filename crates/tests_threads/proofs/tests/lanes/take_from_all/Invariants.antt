use Rattle.lane_work.specs.LanePermits.{AreConsumers}
use Rattle.tests_threads.proofs.tests.lanes.take_from_all.Given as goal

abbrev pub invariant-loop-lane : goal.invariant-loop-lane
invariant-loop-lane g l = AreConsumers l.lanes l.consumers.items
