use Rattle.std.proofs.Common.{◌≡◌, length}
use Rattle.delivery_core.specs.Stands.{EachAt}
use Rattle.delivery_core.specs.New.{new_shard}
use Rattle.delivery_core.proofs.make.new_shards.Given as goal

abbrev pub invariant-loop-i : goal.invariant-loop-i
invariant-loop-i l = record { count : length l.shards.items ≡ l._i; each : EachAt (λ j x. x ≡ new_shard l.capacity l.seats) l.shards.items }
