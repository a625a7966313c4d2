use Rattle.std.proofs.Common.{◌≡◌, drop}
use Rattle.envelope.specs.LocalPart.{value_left, past_user}
use Rattle.envelope.proofs.local_part.LocalValue.past_user.Given as goal

abbrev pub invariant-loop-b : goal.invariant-loop-b
invariant-loop-b l = past_user l.user (value_left l.fn.self) ≡ past_user (drop l.b-index l.user) (value_left l.rest)
