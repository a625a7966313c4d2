use Rattle.std.proofs.Common.{take}
use Rattle.std.specs.Str.Parse.{digits_value}
use Rattle.script.proofs.RunLaws.{one_more}
use Rattle.script.proofs.run.clipped_number.Goals as goal

pub loop-digit-preserved : goal.loop-digit-preserved
loop-digit-preserved c = record {
  clipped = one_more c.clipped_more-value.result c.loop-digit.digit-index c.args.digits.now c.loop-digit-test.true (c.clipped_more-value.ensures.clipped (digits_value 10 (take c.loop-digit.digit-index c.args.digits.now)) c.loop-digit.invariant.clipped);
  small = c.clipped_more-value.ensures.small;
}
