use Rattle.imap_session.proofs.Shown.{done_in_order}
use Rattle.imap_session.proofs.laws.done_shows_in_order.Goals as goal

pub returns : goal.returns
returns c = done_in_order
