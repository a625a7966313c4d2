use Rattle.std.proofs.Common.{◌≡◌, ◌≤◌, All, drop, length, take, true}
use Rattle.running_house.specs.Refusals.{AreTogether, IsNotLater, MayWait, WasFilled}
use Rattle.running_house.proofs.refusals.had_no_room.Given as goal

-- none of those before this position was put later, those from the other on may have waited together, and where it was found so these have filled the lane
abbrev pub invariant-loop-index : goal.invariant-loop-index
invariant-loop-index l =
    (l.index ≤ length l.taken) × (l.begun ≤ l.index) × All (IsNotLater l.key) (take l.index l.taken) × All (MayWait l.key) (drop l.begun (take l.index l.taken))
    × AreTogether (drop l.begun (take l.index l.taken)) × (l.filled ≡ true → WasFilled l.depth l.key (take l.index l.taken))
