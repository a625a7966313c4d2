use Rattle.exactly_once.proofs.Imap.{imap_is}
use Rattle.exactly_once.proofs.sessions_may_speak_imap.Goals as goal

pub returns : goal.returns
returns c = imap_is
