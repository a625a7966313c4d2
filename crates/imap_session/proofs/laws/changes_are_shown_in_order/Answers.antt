use Rattle.imap_session.proofs.Shown.{answered_in_order}
use Rattle.imap_session.proofs.laws.changes_are_shown_in_order.Goals as goal

pub returns : goal.returns
returns c = answered_in_order
