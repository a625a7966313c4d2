use Rattle.shard_queue.specs.SharedLane.{IsPermit}
use Rattle.tests_mail.proofs.tests.parcels.put_all.Given as goal

abbrev pub invariant-loop-item : goal.invariant-loop-item
invariant-loop-item g l = IsPermit g.C.Carrier.view g.C.Carrier.is_of l.lane l.permit
