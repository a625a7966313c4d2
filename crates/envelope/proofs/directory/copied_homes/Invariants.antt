use Rattle.std.proofs.Common.{◌≡◌, take}
use Rattle.envelope.proofs.directory.copied_homes.Given as goal

abbrev pub invariant-loop-home : goal.invariant-loop-home
invariant-loop-home l = l.copied.items ≡ take l.home-index l.homes
