use Rattle.std.proofs.Common.{rules, subst, sym}
use mathlib.Core.List.{IsPrefix}
use Rattle.lane_work.specs.declared.worker.Worked.{Worked}
use Rattle.std.proofs.lemmas.List.Elements.{All-nil}
use Rattle.lane_work.proofs.BackingLaws.{goes_farther, goes_nowhere}
use Rattle.reckoning.specs.inner.Histories.{IsKnown}
use Rattle.reckoning.proofs.Histories.{all_of_them, taught}
use Rattle.reckoning.proofs.learning.teach_all.Goals as goal

pub loop-number-init : goal.loop-number-init
loop-number-init g c = (goes_nowhere c.args.front.now, c.is_legal.ensures, All-nil (IsKnown c.args.front.now))

pub loop-number-preserved : goal.loop-number-preserved
loop-number-preserved g c =
    let v = c.loop-number.invariant in (
      goes_farther c.args.front.now c.loop-number.front c.teach.new.front v.0 c.teach.ensures.before,
      c.teach.ensures.legal,
      taught c.args.worked.now c.loop-number.number c.index-worked-number.result c.loop-number.front c.teach.new.front (search rules) c.index-worked-number.is c.teach.ensures.before
          (subst (λ (w : Worked _). IsPrefix w.dispatch.history c.teach.new.front) (sym c.index-worked-number.is) c.teach.ensures.mine) v.2,
    )

pub returns-clause-each : goal.returns-clause-each
returns-clause-each g c = all_of_them (IsKnown c.loop-number.front) c.args.worked.now c.loop-number.number (search rules) c.loop-number.invariant.2
