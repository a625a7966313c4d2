use Rattle.std.proofs.Common.{◌≡◌, ◌<◌, ℕ, ap, sym, ◌∙◌, arith}
use Rattle.envelope.specs.Names.{Directory, is_shut}
use Rattle.house.specs.House.{House}
use Rattle.house.specs.inner.Trying.{closes}
use Rattle.house.proofs.Closing.{closes_step, closes_wants}
use Rattle.house.proofs.Settlement.{shards_of, stints_as, visits_wanting}
use Rattle.house.proofs.house.House.close_all.Goals as goal

pub returns-in_err-one-clause-came : goal.returns-in_err-one-clause-came
returns-in_err-one-clause-came c =
    let many = ap (λ (x : House). x.directory.shards) c.self.view_is in
    let e = c.shards-shards.ensures.value in
    let t = c.loop-shard-test.true in
    let l : c.loop-shard.shard < c.args.self.now.directory.shards = omega (arith, t, e, many) in
    visits_wanting _ c.from_residual.result c.from_residual.ensures.0 (closes_wants (is_shut c.args.self.now.directory) c.loop-shard.shard c.is_shut-shut.result c.args.self.now c.args.out.now.items c.loop-shard.self c.loop-shard.out.items c.end_where.new.self c.end_where.new.out.items
    c.loop-shard.moved l (c.is_shut-shut.ensures ∙ ap (λ (n : ℕ). is_shut c.self-in-loop-shard.inside.directory n) c.from.ensures ∙ ap (λ (x : House). is_shut x.directory c.loop-shard.shard) c.self-in-loop-shard.view_is ∙ ap (λ (d : Directory). is_shut d c.loop-shard.shard) c.loop-shard.invariant.0)
    c.loop-shard.invariant.1 c.in_err-one.ensures.came)

pub loop-shard-preserved : goal.loop-shard-preserved
loop-shard-preserved c =
    let many = ap (λ (x : House). x.directory.shards) c.self.view_is in
    let e = c.shards-shards.ensures.value in
    let t = c.loop-shard-test.true in
    let l : c.loop-shard.shard < c.args.self.now.directory.shards = omega (arith, t, e, many) in (
      c.in_ok-one.ensures.marks ∙ c.loop-shard.invariant.0,
      closes_step (is_shut c.args.self.now.directory) c.args.self.now.directory.shards c.loop-shard.shard c.is_shut-shut.result c.args.self.now c.args.out.now.items c.loop-shard.self c.loop-shard.out.items c.end_where.new.self c.end_where.new.out.items
          c.loop-shard.moved c.in_ok-one.one l (c.is_shut-shut.ensures ∙ ap (λ (n : ℕ). is_shut c.self-in-loop-shard.inside.directory n) c.from.ensures ∙ ap (λ (x : House). is_shut x.directory c.loop-shard.shard) c.self-in-loop-shard.view_is ∙ ap (λ (d : Directory). is_shut d c.loop-shard.shard) c.loop-shard.invariant.0) c.loop-shard.invariant.1 c.in_ok-one.ensures.came,
    )

pub returns-clause-came : goal.returns-clause-came
returns-clause-came c =
    let many = ap (λ (x : House). x.directory.shards) c.self.view_is in
    let e = c.shards-shards.ensures.value in
    let t = c.loop-shard-test.false in
    let u = c.loop-shard.auto.shard-end in
    let n : c.loop-shard.shard ≡ c.args.self.now.directory.shards = omega (arith, t, u, e, many) in
    stints_as (λ k. k.config.shards ≡ c.args.self.now.directory.shards) (λ k. closes k.config.seats (is_shut c.args.self.now.directory) c.loop-shard.shard) (λ k. closes k.config.seats (is_shut c.args.self.now.directory) k.config.shards)
    c.args.self.now c.args.out.now.items c.loop-shard.self c.loop-shard.out.items c.loop-shard.moved
    (λ k s st. shards_of k s c.args.self.now st) (λ k q. ap (λ (x : ℕ). closes k.config.seats (is_shut c.args.self.now.directory) x) (n ∙ sym q)) c.loop-shard.invariant.1
