use Rattle.std.proofs.Common.{◌∙◌, sym}
use Rattle.imap_grammar.proofs.DoneLaw.{done_again, done_sound}
use Rattle.imap_grammar.proofs.reading.is_done.Goals as goal

pub returns-clause-spelled : goal.returns-clause-spelled
returns-clause-spelled c = (λ e. done_sound c.args.line.now (sym c.reading_done.ensures ∙ e), λ q. c.reading_done.ensures ∙ done_again c.args.line.now q)
