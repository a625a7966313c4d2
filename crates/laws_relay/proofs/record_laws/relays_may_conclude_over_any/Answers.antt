use Rattle.laws_relay.proofs.RecordConcluding.{by_the_record, of_all_events}
use Rattle.laws_relay.proofs.Recorded.{relays_conclude}
use Rattle.laws_relay.proofs.record_laws.relays_may_conclude_over_any.Goals as goal

pub returns-clause-concluded : goal.returns-clause-concluded
returns-clause-concluded g c = relays_conclude g.S.StillSessions.sessions (by_the_record g.S.StillSessions.sessions g.S.StillSessions.still)

pub returns-clause-recorded : goal.returns-clause-recorded
returns-clause-recorded g c = by_the_record g.S.StillSessions.sessions g.S.StillSessions.still

pub returns-clause-played : goal.returns-clause-played
returns-clause-played g c = of_all_events g.S.StillSessions.sessions g.S.StillSessions.still
