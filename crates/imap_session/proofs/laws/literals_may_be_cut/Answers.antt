use Rattle.imap_session.proofs.Verdicts.{cut_anywhere}
use Rattle.imap_session.proofs.laws.literals_may_be_cut.Goals as goal

pub returns : goal.returns
returns c = cut_anywhere
