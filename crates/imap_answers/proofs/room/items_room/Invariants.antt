use Rattle.std.proofs.Common.{◌≡◌, ◌+◌, ◌≤◌, drop, take, length}
use Rattle.std.specs.Prelude.{map}
use Rattle.std.specs.List.{sum}
use Rattle.imap_answers.specs.Answers.{item_text}
use Rattle.imap_answers.specs.Room.{item_most}
use Rattle.imap_answers.proofs.room.items_room.Given as goal

abbrev pub invariant-loop-item : goal.invariant-loop-item
invariant-loop-item l = record {
  so_far : l.most + sum (map (item_most l.row) (drop l.item-index l.items)) ≡ sum (map (item_most l.row) l.items);
  bound : sum (map (λ item. length (item_text l.row item) + 1) (take l.item-index l.items)) ≤ l.most;
}
