use Rattle.imap_session.proofs.Verdicts.{verdict_shown}
use Rattle.imap_session.proofs.laws.verdicts_show_in_order.Goals as goal

pub returns : goal.returns
returns c = verdict_shown
