use Rattle.laws_relay.proofs.Connected as connected
use Rattle.laws_relay.proofs.Keyed as keyed
use Rattle.laws_relay.proofs.reply_laws.connections_are_known.Goals as goal

pub returns-clause-begins : goal.returns-clause-begins
returns-clause-begins c = connected.begins

pub returns-clause-bytes : goal.returns-clause-bytes
returns-clause-bytes c = connected.takes_bytes

pub returns-clause-verdicts : goal.returns-clause-verdicts
returns-clause-verdicts c = connected.tells_verdicts

pub returns-clause-shut : goal.returns-clause-shut
returns-clause-shut c = connected.shuts_down

pub returns-clause-concludes : goal.returns-clause-concludes
returns-clause-concludes c = connected.concludes

pub returns-clause-numbers : goal.returns-clause-numbers
returns-clause-numbers c = keyed.numbers_messages
