use Rattle.std.proofs.Common.{◌≡◌, [], None}
use Rattle.shard_queue.specs.Shared.{consumer}
use Rattle.shard_queue.proofs.permits.announce.Given as goal

abbrev pub invariant-loop-announced : goal.invariant-loop-announced
invariant-loop-announced g l = g.C.Carrier.is_of l.carrier l.pass × (g.C.Carrier.view l.pass ≡ consumer l.announced 0 [] None [])
