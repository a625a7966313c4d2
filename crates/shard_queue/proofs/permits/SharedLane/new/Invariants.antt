use Rattle.std.proofs.Common.{◌≡◌, All, map, [], None, vec_len, vec_capacity, ◌≤◌}
use Rattle.shard_queue.specs.Shared.{consumer, sender}
use Rattle.shard_queue.specs.SharedLane.{number_of, numbers}
use Rattle.shard_queue.proofs.permits.SharedLane.new.Given as goal

abbrev pub invariant-loop-number : goal.invariant-loop-number
invariant-loop-number g l = let view = g.C.Carrier.view in let is_of = g.C.Carrier.is_of in
    is_of l.carrier l.pass × (view l.pass ≡ consumer l.producers l.number [] None []) × (vec_len l.permits ≡ l.number)
    × All (λ s. is_of l.carrier s.pass × (view s.pass ≡ sender l.producers s.number [] [])) l.permits.items
    × (map number_of l.permits.items ≡ numbers 0 l.number) × (l.producers ≤ vec_capacity l.permits)
