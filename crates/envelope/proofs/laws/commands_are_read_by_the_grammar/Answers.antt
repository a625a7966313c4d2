use Rattle.envelope.proofs.Law.{only, reads}
use Rattle.envelope.proofs.laws.commands_are_read_by_the_grammar.Goals as goal

pub returns-clause-found : goal.returns-clause-found
returns-clause-found c = reads

pub returns-clause-only : goal.returns-clause-only
returns-clause-only c = only
