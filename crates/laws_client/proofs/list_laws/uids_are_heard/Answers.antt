use Rattle.laws_client.proofs.UidsHeard.{change_tells_uid, fetch_tells_uid, flags_keep_uids, lines_keep_uids, row_keeps_uids, store_tells_uid}
use Rattle.laws_client.proofs.list_laws.uids_are_heard.Goals as goal

pub returns-clause-change : goal.returns-clause-change
returns-clause-change c = change_tells_uid

pub returns-clause-store : goal.returns-clause-store
returns-clause-store c = store_tells_uid

pub returns-clause-fetch : goal.returns-clause-fetch
returns-clause-fetch c = fetch_tells_uid

pub returns-clause-row : goal.returns-clause-row
returns-clause-row c = row_keeps_uids

pub returns-clause-flags : goal.returns-clause-flags
returns-clause-flags c = flags_keep_uids

pub returns-clause-lines : goal.returns-clause-lines
returns-clause-lines c = lines_keep_uids
