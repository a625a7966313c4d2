use Rattle.imap_grammar.proofs.LiteralLaw.{announced_again, announced_sound}
use Rattle.imap_grammar.proofs.laws.literals_are_announced.Goals as goal

pub returns-clause-spelled : goal.returns-clause-spelled
returns-clause-spelled c = announced_sound

pub returns-clause-announced : goal.returns-clause-announced
returns-clause-announced c = announced_again
