use Rattle.std.proofs.Common.{true}
use Rattle.std.proofs.lemmas.List.Sorted.{non_decreasing_from_is_sorted}
use Rattle.mailbox.proofs.choice.Choice.of.Goals as goal

pub returns-then-is_sorted-clause-found : goal.returns-then-is_sorted-clause-found
returns-then-is_sorted-clause-found c = non_decreasing_from_is_sorted _ true c.if-is_sorted.ensures.cases
