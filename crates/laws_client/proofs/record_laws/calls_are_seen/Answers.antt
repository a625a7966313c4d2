use Rattle.laws_client.proofs.Seen.{calls_are_seen, entries_are_counted, leavers_count_nothing}
use Rattle.laws_client.proofs.RecordWorlds.{others_leave_views, views_are_numbered}
use Rattle.laws_client.proofs.record_laws.calls_are_seen.Goals as goal

pub returns-clause-numbered : goal.returns-clause-numbered
returns-clause-numbered c = views_are_numbered

pub returns-clause-others : goal.returns-clause-others
returns-clause-others c = others_leave_views

pub returns-clause-calls : goal.returns-clause-calls
returns-clause-calls c = calls_are_seen

pub returns-clause-entries : goal.returns-clause-entries
returns-clause-entries c = entries_are_counted

pub returns-clause-leavers : goal.returns-clause-leavers
returns-clause-leavers c = leavers_count_nothing
