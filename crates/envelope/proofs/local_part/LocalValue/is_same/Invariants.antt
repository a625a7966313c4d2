use Rattle.std.proofs.Common.{◌≡◌, drop}
use Rattle.std.specs.Str.{str_eq_ignore_ascii_case as is_same}
use Rattle.envelope.specs.LocalPart.{value_left}
use Rattle.envelope.proofs.local_part.LocalValue.is_same.Given as goal

abbrev pub invariant-loop-b : goal.invariant-loop-b
invariant-loop-b l = is_same (value_left l.fn.self) l.name ≡ is_same (value_left l.rest) (drop l.b-index l.name)
