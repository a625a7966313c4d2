use Rattle.exactly_once.proofs.Lmtp.{lmtp_is}
use Rattle.exactly_once.proofs.connections_may_speak_lmtp.Goals as goal

pub returns : goal.returns
returns c = lmtp_is
