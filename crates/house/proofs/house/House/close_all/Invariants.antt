use Rattle.std.proofs.Common.{◌≡◌}
use Rattle.envelope.specs.Names.{is_shut}
use Rattle.house.specs.inner.Trying.{DidStints, closes}
use Rattle.house.proofs.house.House.close_all.Given as goal

abbrev pub invariant-loop-shard : goal.invariant-loop-shard
invariant-loop-shard l = (l.self.directory ≡ l.fn.self.directory) × DidStints (λ k. k.config.shards ≡ l.fn.self.directory.shards) (λ k. closes k.config.seats (is_shut l.fn.self.directory) l.shard) l.fn.self l.fn.out.items l.self l.out.items l.moved
