use Rattle.laws_relay.proofs.Sessions.{imap_is_still}
use Rattle.laws_relay.proofs.record_laws.imap_sessions_may_visit.Goals as goal

pub returns : goal.returns
returns c = imap_is_still
