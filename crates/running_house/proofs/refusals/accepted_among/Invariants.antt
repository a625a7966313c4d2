use Rattle.std.proofs.Common.{◌≤◌, length, take}
use Rattle.running_house.specs.Refusals.{StandAmong}
use Rattle.running_house.proofs.refusals.accepted_among.Given as goal

-- so many are among those before this position
abbrev pub invariant-loop-index : goal.invariant-loop-index
invariant-loop-index l = (l.index ≤ length l.taken) × (l.found ≤ length l.accepted) × StandAmong l.mailbox (take l.found l.accepted) (take l.index l.taken)
