use Rattle.std.proofs.Common.{◌≡◌}
use Rattle.shard_queue.specs.Permits.{IsProducer, number_of, sent}
use Rattle.lane_work.proofs.putting.put_letter.Given as goal

abbrev pub invariant-loop : goal.invariant-loop
invariant-loop g l = IsProducer l.lane l.permit × (number_of l.permit ≡ number_of l.fn.permit) × (sent l.permit ≡ sent l.fn.permit) × (l.letter ≡ l.fn.letter)
