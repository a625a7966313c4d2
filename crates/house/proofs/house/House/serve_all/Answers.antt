use Rattle.std.proofs.Common.{◌≡◌, ◌<◌, ℕ, ap, sym, ◌∙◌, arith}
use Rattle.house.specs.Settled.{is_held}
use Rattle.house.specs.House.{House}
use Rattle.house.specs.inner.Trying.{serves}
use Rattle.house.proofs.Settlement.{shards_of, shards_step, shards_wants, stints_as, visits_wanting}
use Rattle.house.proofs.house.House.serve_all.Goals as goal

pub returns-in_err-one-clause-came : goal.returns-in_err-one-clause-came
returns-in_err-one-clause-came c =
    let many = ap (λ (x : House). x.directory.shards) c.self.view_is in
    let e = c.shards-shards.ensures.value in
    let t = c.loop-shard-test.true in
    let l : c.loop-shard.shard < c.args.self.now.directory.shards = omega (arith, t, e, many) in
    visits_wanting _ c.from_residual.result c.from_residual.ensures.0 (shards_wants (is_held c.args.held.now) c.loop-shard.shard c.is_held.result c.args.self.now c.args.out.now.items c.loop-shard.self c.loop-shard.out.items c.serve.new.self c.serve.new.out.items c.loop-shard.moved l
    c.is_held.ensures c.loop-shard.invariant.1 c.in_err-one.ensures.came)

pub loop-shard-preserved : goal.loop-shard-preserved
loop-shard-preserved c =
    let many = ap (λ (x : House). x.directory.shards) c.self.view_is in
    let e = c.shards-shards.ensures.value in
    let t = c.loop-shard-test.true in
    let l : c.loop-shard.shard < c.args.self.now.directory.shards = omega (arith, t, e, many) in (
      c.in_ok-one.ensures.marks ∙ c.loop-shard.invariant.0,
      shards_step (is_held c.args.held.now) c.args.self.now.directory.shards c.loop-shard.shard c.is_held.result c.args.self.now c.args.out.now.items c.loop-shard.self c.loop-shard.out.items c.serve.new.self c.serve.new.out.items
          c.loop-shard.moved c.in_ok-one.one l c.is_held.ensures c.loop-shard.invariant.1 c.in_ok-one.ensures.came,
    )

pub returns-clause-came : goal.returns-clause-came
returns-clause-came c =
    let many = ap (λ (x : House). x.directory.shards) c.self.view_is in
    let e = c.shards-shards.ensures.value in
    let t = c.loop-shard-test.false in
    let u = c.loop-shard.auto.shard-end in
    let n : c.loop-shard.shard ≡ c.args.self.now.directory.shards = omega (arith, t, u, e, many) in
    stints_as (λ k. k.config.shards ≡ c.args.self.now.directory.shards) (λ k. serves (is_held c.args.held.now) c.loop-shard.shard) (λ k. serves (is_held c.args.held.now) k.config.shards)
    c.args.self.now c.args.out.now.items c.loop-shard.self c.loop-shard.out.items c.loop-shard.moved
    (λ k s st. shards_of k s c.args.self.now st) (λ k q. ap (λ (x : ℕ). serves (is_held c.args.held.now) x) (n ∙ sym q)) c.loop-shard.invariant.1
