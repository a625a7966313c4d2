-- How many ends were taken.
use Rattle.std.specs.Prelude.{ℕ, suc, ◌+◌, ◌≤◌, List, [], ◌∷◌}
use Rattle.shard_queue.specs.declared.lane.Entry.{Entry}
use Rattle.shard_queue.specs.declared.lane.Entry.TheVariants.{Item, End}
use Rattle.shard_queue.specs.Reply.{received}
use Rattle.lane_work.specs.declared.desk.Desk.{Desk}

module _ {A : Type 0} where
  -- how many of these entries are ends
  abbrev pub ends_in : List (Entry A) → ℕ
  ends_in [] = 0
  ends_in (Item p item ∷ entries) = ends_in entries
  ends_in (End p ∷ entries) = suc (ends_in entries)

-- Between these two moments a worker counted no end that it didn't hear.
abbrev pub CountsEnds : {B : Type 0} → Desk B → Desk B → Type 0
CountsEnds old new = new.ends + ends_in (received old.receiver) ≤ old.ends + ends_in (received new.receiver)
