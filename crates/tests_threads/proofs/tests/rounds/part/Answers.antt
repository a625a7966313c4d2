use Rattle.std.proofs.Common.{rules, ◌<◌, length, arith}
use Rattle.lane_work.proofs.StepLaws.{removed}
use Rattle.tests_threads.proofs.RoundLaws.{permit_next}
use Rattle.tests_threads.proofs.tests.rounds.part.Goals as goal

pub loop-done-preserved : goal.loop-done-preserved
loop-done-preserved g c =
    let v = c.loop-done.invariant in
    let consumed = c.loop-done.consumed in
    let some : 0 < length consumed.items = (let e = v.0 in let o = consumed.ok.0 in let under = c.loop-done-test.true in omega (arith, under, e, o)) in
    let split = removed consumed.items c.remove-permit.new.self.items c.remove-permit.result some c.remove-permit.ensures.value c.remove-permit.ensures.items in (
      search rules,
      search rules,
      search rules,
      search rules,
      search rules,
      permit_next c.loop-done.permits.items c.push_reserved.new.self.items consumed.items c.remove-permit.new.self.items c.remove-permit.result _ split c.push_reserved.ensures.items v.5,
    )
