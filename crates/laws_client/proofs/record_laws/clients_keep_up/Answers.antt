use Rattle.laws_client.proofs.RecordKeeping.{clients_keep_up, clients_kept_up, clients_of_houses_keep_up, texts_stay_short}
use Rattle.laws_client.proofs.record_laws.clients_keep_up.Goals as goal

pub returns-clause-record : goal.returns-clause-record
returns-clause-record c = clients_keep_up

pub returns-clause-ended : goal.returns-clause-ended
returns-clause-ended c = clients_kept_up

pub returns-clause-house : goal.returns-clause-house
returns-clause-house c = clients_of_houses_keep_up

pub returns-clause-texts : goal.returns-clause-texts
returns-clause-texts c = texts_stay_short
