use Rattle.std.proofs.Common.{◌≡◌, ◌+◌, ◌*◌, ◌≤◌, ◌++◌, drop}
use Rattle.std.specs.Prelude.{vec_len, vec_capacity}
use Rattle.std.specs.List.Sorted.{IsStrictlyIncreasing}
use Rattle.change_ring.specs.Log.{FitsView, added, replay}
use Rattle.cursor_set.specs.Leaving.{counted, AreIn}
use Rattle.cursor_set.specs.Lines.{lines}
use Rattle.cursor_set.proofs.lines.show_changes.Given as goal

-- the view and the text so far, with what is left, give those of all the changes, and there is room for what is left
abbrev pub invariant-loop-change : goal.invariant-loop-change
invariant-loop-change l = record {
  gone : AreIn l.leaving.gone.items l.view.items;
  rising : IsStrictlyIncreasing (l.view.items ++ added (drop l.change-index l.changes));
  there : FitsView (counted l.leaving.gone.items l.view.items) (drop l.change-index l.changes);
  view : replay (counted l.leaving.gone.items l.view.items) (drop l.change-index l.changes) ≡ replay l.fn.view.items l.changes;
  text : l.out.items ++ lines (counted l.leaving.gone.items l.view.items) (drop l.change-index l.changes) ≡ l.fn.out.items ++ lines l.fn.view.items l.changes;
  view_len : vec_len l.view ≤ vec_len l.fn.view + l.change-index;
  view_capacity : vec_capacity l.fn.view ≤ vec_capacity l.view;
  out_len : vec_len l.out ≤ vec_len l.fn.out + l.change-index * 107;
  out_capacity : vec_capacity l.fn.out ≤ vec_capacity l.out;
}
