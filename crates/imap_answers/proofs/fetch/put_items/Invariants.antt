use Rattle.std.proofs.Common.{◌≡◌, ◌++◌, ◌+◌, ◌≤◌, drop, length}
use Rattle.std.specs.Prelude.{◌&&◌, map}
use Rattle.imap_answers.specs.Answers.{item_text}
use Rattle.imap_answers.specs.inner.Joined.{joined, is_none}
use Rattle.imap_answers.proofs.fetch.put_items.Given as goal

abbrev pub invariant-loop-item : goal.invariant-loop-item
invariant-loop-item g l = record {
  so_far : g.O.Outlet.said l.out ++ joined l.bare (map (item_text l.row) (drop l.item-index l.items)) ≡ g.O.Outlet.said l.initial.out ++ joined l.first (map (item_text l.row) l.items);
  first : (l.bare && is_none (drop l.item-index l.items)) ≡ (l.first && is_none l.items);
  lot : g.O.Outlet.lot l.out ≡ g.O.Outlet.lot l.initial.out;
  fits : length (joined l.bare (map (item_text l.row) (drop l.item-index l.items))) ≤ g.O.Outlet.room l.out;
  room : g.O.Outlet.room l.initial.out + length (joined l.bare (map (item_text l.row) (drop l.item-index l.items))) ≤ g.O.Outlet.room l.out + length (joined l.first (map (item_text l.row) l.items));
}
