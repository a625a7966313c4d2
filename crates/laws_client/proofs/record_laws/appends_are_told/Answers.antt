use Rattle.laws_client.proofs.Appended.{appends_are_kept, appends_are_told, appends_were_kept, appends_were_told}
use Rattle.laws_client.proofs.record_laws.appends_are_told.Goals as goal

pub returns-clause-there : goal.returns-clause-there
returns-clause-there c = appends_are_told

pub returns-clause-ended : goal.returns-clause-ended
returns-clause-ended c = appends_were_told

pub returns-clause-kept : goal.returns-clause-kept
returns-clause-kept c = appends_are_kept

pub returns-clause-were_kept : goal.returns-clause-were_kept
returns-clause-were_kept c = appends_were_kept
