use Rattle.lane_work.proofs.HistoryLaws.{said_is_taken, stored_was_put}
use Rattle.lane_work.proofs.laws.accounts_meet_histories.Goals as goal

pub returns-clause-taken : goal.returns-clause-taken
returns-clause-taken c = said_is_taken

pub returns-clause-stored : goal.returns-clause-stored
returns-clause-stored c d room seat lane heard before told jobs were = stored_was_put d room seat lane heard were
