-- Ranges of positions in a view, by which messages are chosen at the cost of what is chosen. Which messages a set names is said in Sets; no public
-- clause speaks of these.
use Rattle.std.specs.Prelude.{ℕ, Bool, true, false, List, length, min, max, nat_le, ◌&&◌}
use Rattle.std.specs.List.{list_any}
use Rattle.imap_grammar.specs.Sets.{at_positions, by_uid, is_named, numeric}
use Rattle.imap_grammar.specs.declared.set.SeqRange.{SeqRange}
use Rattle.imap_grammar.specs.declared.positions.PositionRange.{PositionRange}

-- the positions that a range of numbers names, where `*` is the greatest
abbrev pub positions_of : ℕ → SeqRange → PositionRange
positions_of greatest range = record {
  first = min (numeric greatest range.from) (numeric greatest range.to);
  last = max (numeric greatest range.from) (numeric greatest range.to);
}

-- the range covers the position
abbrev pub is_within : PositionRange → ℕ → Bool
is_within range position = nat_le range.first position && nat_le position range.last

-- one of the ranges covers the position
abbrev pub is_covered : List PositionRange → ℕ → Bool
is_covered ranges position = list_any (λ range. is_within range position) ranges

-- the UIDs of a view that a set names, where it says no position that isn't there
abbrev pub chosen_of : Bool → List SeqRange → List ℕ → List ℕ
chosen_of true set view = by_uid set view
chosen_of false set view = at_positions (is_named set (length view)) 1 view
