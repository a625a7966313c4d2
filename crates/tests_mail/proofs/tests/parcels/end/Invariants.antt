use Rattle.shard_queue.specs.SharedLane.{IsPermit}
use Rattle.tests_mail.proofs.tests.parcels.end.Given as goal

abbrev pub invariant-loop : goal.invariant-loop
invariant-loop g l = IsPermit g.C.Carrier.view g.C.Carrier.is_of l.lane l.permit
