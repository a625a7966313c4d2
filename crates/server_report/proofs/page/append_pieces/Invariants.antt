use Rattle.std.proofs.Common.{◌≡◌, ◌++◌, flat_map, take}
use Rattle.std.specs.Io.{StartsWith}
use Rattle.server_report.specs.Page.{piece_text}
use Rattle.server_report.proofs.page.append_pieces.Given as goal

abbrev pub invariant-loop-piece : goal.invariant-loop-piece
invariant-loop-piece l = record {
  so_far : l.out.items ≡ l.initial.out.items ++ flat_map piece_text (take l.piece-index l.order);
  front : StartsWith l.out.items l.initial.out.items;
}
