use Rattle.std.proofs.Common.{arith, ◌∙◌, ◌++◌, List, drop, subst}
use Rattle.std.proofs.lemmas.List.{drop_more}
use Rattle.std.specs.List.Sorted.{IsStrictlyIncreasing}
use Rattle.change_ring.specs.declared.change.Change.{Change}
use Rattle.change_ring.specs.Log.{added}
use Rattle.cursor_set.specs.Leaving.{counted}
use Rattle.cursor_set.proofs.ShowLaws.{fits_after, first_rises, replay_after, lines_after}
use Rattle.cursor_set.proofs.lines.show_changes.Goals as goal

pub show_change-requires-clause-rising : goal.show_change-requires-clause-rising
show_change-requires-clause-rising c = first_rises c.loop-change.view.items (added (drop c.loop-change.change-index c.args.changes.now)) c.loop-change.invariant.rising

pub loop-change-preserved : goal.loop-change-preserved
loop-change-preserved c =
    let k = c.loop-change.change-index in
    let split = drop_more c.args.changes.now k _ c.loop-change-test.true in
    let step = c.show_change in
    let was = counted c.loop-change.leaving.gone.items c.loop-change.view.items in
    let now = counted c.show_change.new.leaving.gone.items c.show_change.new.view.items in
    let up = subst (λ (cs : List Change). IsStrictlyIncreasing (c.loop-change.view.items ++ added cs)) split c.loop-change.invariant.rising in
    record {
      gone = step.ensures.gone;
      rising = step.ensures.rising _ up;
      there = fits_after was now _ _ _ split step.ensures.view c.loop-change.invariant.there;
      view = replay_after was now _ _ _ split step.ensures.view ∙ c.loop-change.invariant.view;
      text = lines_after was now _ _ _ split step.ensures.view c.loop-change.out.items step.new.out.items step.ensures.text
          ∙ c.loop-change.invariant.text;
      view_len = omega (arith, c.loop-change.invariant.view_len, step.ensures.view_len);
      view_capacity = omega (arith, c.loop-change.invariant.view_capacity, step.ensures.view_capacity);
      out_len = omega (arith, c.loop-change.invariant.out_len, step.ensures.out_len);
      out_capacity = omega (arith, c.loop-change.invariant.out_capacity, step.ensures.out_capacity);
    }
