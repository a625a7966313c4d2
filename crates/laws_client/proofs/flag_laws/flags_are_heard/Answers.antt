use Rattle.laws_client.proofs.Hearing.{change_is_heard, fetch_is_heard, store_is_heard}
use Rattle.laws_client.proofs.flag_laws.flags_are_heard.Goals as goal

pub returns-clause-change : goal.returns-clause-change
returns-clause-change c = change_is_heard

pub returns-clause-store : goal.returns-clause-store
returns-clause-store c = store_is_heard

pub returns-clause-fetch : goal.returns-clause-fetch
returns-clause-fetch c = fetch_is_heard
