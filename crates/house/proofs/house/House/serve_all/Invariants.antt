use Rattle.std.proofs.Common.{◌≡◌}
use Rattle.house.specs.Settled.{is_held}
use Rattle.house.specs.inner.Trying.{DidStints, serves}
use Rattle.house.proofs.house.House.serve_all.Given as goal

abbrev pub invariant-loop-shard : goal.invariant-loop-shard
invariant-loop-shard l = (l.self.directory ≡ l.fn.self.directory) × DidStints (λ k. k.config.shards ≡ l.fn.self.directory.shards) (λ k. serves (is_held l.held) l.shard) l.fn.self l.fn.out.items l.self l.out.items l.moved
