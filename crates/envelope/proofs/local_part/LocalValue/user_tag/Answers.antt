use Rattle.envelope.specs.LocalPart.{value_left}
use Rattle.envelope.proofs.Tags.{at_plus, at_end}
use Rattle.envelope.proofs.local_part.LocalValue.user_tag.Goals as goal

pub returns-then-byte-eq43 : goal.returns-then-byte-eq43
returns-then-byte-eq43 c = at_plus c.loop-byte.tag c.in-Some.byte (value_left c.loop-byte.rest) (value_left c.in-Some.more) (value_left c.args.self) c.loop-byte.invariant c.in-Some.ensures c.if-byte-eq43.true

pub returns : goal.returns
returns c = at_end c.loop-byte.tag (value_left c.loop-byte.rest) (value_left c.args.self) c.loop-byte.invariant c.in_default.ensures
