use Rattle.std.proofs.Common.{◌≤◌, take}
use Rattle.std.specs.Str.Parse.{digits_value}
use Rattle.script.specs.inner.Running.{IsClipped}
use Rattle.script.proofs.run.clipped_number.Given as goal

abbrev pub invariant-loop-digit : goal.invariant-loop-digit
invariant-loop-digit l = record { clipped : IsClipped l.value (digits_value 10 (take l.digit-index l.digits)); small : l.value ≤ 256 }
