use Rattle.std.proofs.Common.{length}
use Rattle.imap_grammar.specs.Reading.{past_all_fields}
use Rattle.imap_grammar.proofs.FieldSteps.{Left}
use Rattle.imap_grammar.proofs.arguments.past_all_fields.Given as goal

abbrev pub invariant-loop-start : goal.invariant-loop-start
invariant-loop-start l = Left l.rest (past_all_fields l.bytes)

abbrev pub decreases-loop-start : goal.decreases-loop-start
decreases-loop-start l = length l.rest
