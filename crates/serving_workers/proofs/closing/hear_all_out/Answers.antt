use Rattle.std.proofs.Common.{rules, ◌≡◌, ◌<◌, ◌+◌, ◌++◌, ◌∙◌, List, length, map, subst, sym, arith}
use Rattle.lane_work.specs.declared.worker.Worked.{Worked}
use Rattle.house_shared.proofs.Positions.{first_at, more_at}
use Rattle.reckoning.proofs.Laying.{all_laid}
use Rattle.serving_workers.specs.Closing.{GoOn}
use Rattle.serving_workers.specs.Leaving.{IsServed}
use Rattle.serving_workers.specs.declared.accepting.Served.{Served}
use Rattle.shard_queue.specs.Reply.{received}
use Rattle.serving_workers.proofs.Heard.{all_heard, go_on_same, one_heard, one_line, all_lines, one_more}
use Rattle.serving_workers.specs.inner.Leaving.{HasHeard}
use Rattle.serving_workers.proofs.closing.hear_all_out.Goals as goal

pub loop-number-preserved : goal.loop-number-preserved
loop-number-preserved g c =
    let v = c.loop-number.invariant in
    let shared = c.args.shared.now in
    let some : 0 < length c.loop-number.left.items = omega (arith, v.1, c.loop-number-test.true, c.loop-number.left.ok.0) in
    let f = first_at (IsServed g.L.Line.told shared) c.loop-number.number c.loop-number.left.items c.remove-one.new.self.items c.remove-one.result some c.remove-one.ensures.value c.remove-one.ensures.items v.0 in
    let at : c.loop-number.number ≡ 0 + length c.loop-number.worked.items = omega (arith, v.3, c.loop-number.worked.ok.0) in (
      f.1,
      search rules,
      more_at (HasHeard shared) 0 c.loop-number.worked.items c.push_reserved.new.self.items c.hear_out-heard.result.worked c.loop-number.number c.push_reserved.ensures.items v.2 at c.hear_out-heard.ensures.heard,
      c.push_reserved.ensures.len ∙ search rules,
      search rules,
      one_more c.loop-number.worked.items c.push_reserved.new.self.items c.hear_out-heard.result.worked c.loop-number.left.items c.remove-one.new.self.items c.remove-one.result _
          v.5 some c.remove-one.ensures.value c.remove-one.ensures.items c.push_reserved.ensures.items c.hear_out-heard.ensures.ended,
      one_heard c.loop-number.worked.items c.push_reserved.new.self.items c.hear_out-heard.result.worked c.loop-number.left.items c.remove-one.new.self.items c.remove-one.result _
          v.6 some c.remove-one.ensures.value c.remove-one.ensures.items c.push_reserved.ensures.items c.hear_out-heard.ensures.grew,
      one_line c.loop-number.lines.items c.push_reserved-in-loop-number.new.self.items c.hear_out-heard.result.line c.loop-number.left.items c.remove-one.new.self.items c.remove-one.result _
          v.7 some c.remove-one.ensures.value c.remove-one.ensures.items c.push_reserved-in-loop-number.ensures.items c.hear_out-heard.ensures.line,
      c.push_reserved-in-loop-number.ensures.len ∙ search rules,
      search rules,
    )

pub returns-clause-ended : goal.returns-clause-ended
returns-clause-ended g c =
    let v = c.loop-number.invariant in
    let none : length c.loop-number.left.items ≡ 0 = omega (arith, v.1, c.loop-number-test.false, c.loop-number.auto.number-end, c.loop-number.left.ok.0) in
    all_laid (λ (s : Served _ _). s.ended.items) (map (λ (w : Worked _). w.ended.items) c.loop-number.worked.items) _ c.loop-number.left.items none v.5

pub returns-clause-grew : goal.returns-clause-grew
returns-clause-grew g c =
    let v = c.loop-number.invariant in
    let none : length c.loop-number.left.items ≡ 0 = omega (arith, v.1, c.loop-number-test.false, c.loop-number.auto.number-end, c.loop-number.left.ok.0) in
    all_heard (map (λ (s : Served _ _). received s.receiver) c.args.served.items) c.loop-number.worked.items c.loop-number.left.items none v.6

pub returns-clause-lines : goal.returns-clause-lines
returns-clause-lines g c =
    let v = c.loop-number.invariant in
    let none : length c.loop-number.left.items ≡ 0 = omega (arith, v.1, c.loop-number-test.false, c.loop-number.auto.number-end, c.loop-number.left.ok.0) in
    all_lines c.loop-number.lines.items _ c.loop-number.left.items none v.7

pub loop-number-init : goal.loop-number-init
loop-number-init g c =
    let all = map (λ (s : Served _ _). received s.receiver) c.args.served.items in (
      search rules,
      search rules,
      search rules,
      search rules,
      search rules,
      search rules,
      subst (λ (ws : List (Worked _)). GoOn all (map (λ (w : Worked _). received w.receiver) ws ++ all)) (sym c.requires.room.0) (go_on_same all),
      search rules,
      search rules,
      search rules,
    )
