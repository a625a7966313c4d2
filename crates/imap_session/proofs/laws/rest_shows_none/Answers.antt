use Rattle.imap_session.proofs.Verdicts.{rest_none}
use Rattle.imap_session.proofs.laws.rest_shows_none.Goals as goal

pub returns : goal.returns
returns c = rest_none
