use Rattle.laws_client.proofs.Following.{lines_tell_flags}
use Rattle.laws_client.proofs.Telling.{row_tells_flags, store_tells_flags}
use Rattle.laws_client.proofs.flag_laws.flags_are_told.Goals as goal

pub returns-clause-lines : goal.returns-clause-lines
returns-clause-lines c = lines_tell_flags

pub returns-clause-row : goal.returns-clause-row
returns-clause-row c = row_tells_flags

pub returns-clause-store : goal.returns-clause-store
returns-clause-store c = store_tells_flags
