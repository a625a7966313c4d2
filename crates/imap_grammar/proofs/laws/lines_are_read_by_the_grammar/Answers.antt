use Rattle.imap_grammar.proofs.DoneLaw.{done_again, done_sound}
use Rattle.imap_grammar.proofs.LineLaw.{only, reads}
use Rattle.imap_grammar.proofs.laws.lines_are_read_by_the_grammar.Goals as goal

pub returns-clause-found : goal.returns-clause-found
returns-clause-found c = reads

pub returns-clause-only : goal.returns-clause-only
returns-clause-only c = only

pub returns-clause-done : goal.returns-clause-done
returns-clause-done c = λ line. (done_sound line, done_again line)
