use Rattle.imap_grammar.proofs.LiteralLaw.{quoted_is}
use Rattle.imap_grammar.proofs.laws.quoted_texts_are_read.Goals as goal

pub returns : goal.returns
returns c = quoted_is
