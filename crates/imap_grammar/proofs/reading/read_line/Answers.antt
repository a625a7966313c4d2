use Rattle.std.proofs.Common.{subst, sym, ◌∙◌}
use Rattle.imap_grammar.specs.Grammar.{Reads}
use Rattle.imap_grammar.proofs.LineLaw.{reads, only}
use Rattle.imap_grammar.proofs.reading.read_line.Goals as goal

pub returns-clause-found : goal.returns-clause-found
returns-clause-found c = subst (Reads c.args.line.now) (sym c.reading.ensures) (reads c.args.line.now)

pub returns-clause-only : goal.returns-clause-only
returns-clause-only c = λ r h. only c.args.line.now r h ∙ sym c.reading.ensures
