-- What bodies and proofs say besides: the verdicts on the copies of one message, and how they come in.
use Rattle.std.specs.Prelude.{Option, Some, None}
use Rattle.delivery_token.specs.declared.Verdict.{Verdict}
use Rattle.delivery_token.specs.declared.Verdict.TheVariants.{Refused}
use Rattle.delivery_token.specs.declared.Refusal.{Refusal}

-- what is heard at once of a copy that is put: that it was refused, or nothing yet
abbrev pub heard_verdict : Option Refusal → Option Verdict
heard_verdict None = None
heard_verdict (Some why) = Some (Refused why)
