use Rattle.std.proofs.Common.{◌≡◌, length}
use Rattle.envelope.specs.LocalPart.{value_left}
use Rattle.envelope.specs.inner.Tag.{tag_from}
use Rattle.envelope.proofs.local_part.LocalValue.user_tag.Given as goal

abbrev pub invariant-loop-byte : goal.invariant-loop-byte
invariant-loop-byte l = tag_from l.tag (value_left l.rest) ≡ tag_from 0 (value_left l.fn.self)

abbrev pub decreases-loop-byte : goal.decreases-loop-byte
decreases-loop-byte l = length (value_left l.rest)
