use Rattle.imap_session.proofs.TextLaws.{on_a_line, server_line}
use Rattle.imap_session.proofs.laws.texts_go_on_a_line.Goals as goal

pub returns-clause-texts : goal.returns-clause-texts
returns-clause-texts c = on_a_line

pub returns-clause-server : goal.returns-clause-server
returns-clause-server c = server_line
