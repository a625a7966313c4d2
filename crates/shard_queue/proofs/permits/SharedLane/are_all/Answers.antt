use Rattle.std.proofs.Common.{◌≡◌, ◌∙◌, sym, refl, Any, true, lt_of_lt_of_le, arith}
use Rattle.shard_queue.specs.Lane.{of, has_end}
use Rattle.shard_queue.specs.SharedLane.{taken, ended_number}
use Rattle.shard_queue.proofs.ClosingLaws.{below_suc, some_numbered}
use Rattle.shard_queue.proofs.permits.SharedLane.are_all.Goals as goal

pub loop-p-preserved : goal.loop-p-preserved
loop-p-preserved g c = (
  (let h = c.loop-p-test.true in omega arith),
  refl,
  below_suc (λ p. Any (λ e. ended_number e ≡ p) c.args.ended.now × (has_end (of p (taken g.C.Carrier.view c.args.permit.now)) ≡ true)) c.loop-p.p c.loop-p.invariant.2 (
    some_numbered ended_number c.loop-p.p c.args.ended.now (sym c.has_ended.ensures ∙ c.if-not-has_ended.false),
    sym (c.requires.2 c.loop-p.p c.loop-p-test.true) ∙ sym c.has.ensures ∙ c.if-not-has.false,
  ),
)

pub returns-clause-all : goal.returns-clause-all
returns-clause-all g c _ p less = c.loop-p.invariant.2 p (lt_of_lt_of_le less c.loop-p-test.false)
