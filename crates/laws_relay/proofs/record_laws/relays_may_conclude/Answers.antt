use Rattle.laws_relay.specs.RecordLaws.{imap_sessions}
use Rattle.laws_relay.proofs.Recorded.{relays_conclude}
use Rattle.laws_relay.proofs.Sessions.{imap_is_still}
use Rattle.laws_relay.proofs.RecordConcluding as concluding
use Rattle.laws_relay.proofs.Names as names
use Rattle.laws_relay.proofs.record_laws.relays_may_conclude.Goals as goal

pub returns-clause-concluded : goal.returns-clause-concluded
returns-clause-concluded c = relays_conclude imap_sessions (concluding.by_the_record imap_sessions imap_is_still)

pub returns-clause-recorded : goal.returns-clause-recorded
returns-clause-recorded c = concluding.by_the_record imap_sessions imap_is_still

pub returns-clause-played : goal.returns-clause-played
returns-clause-played c = concluding.of_all_events imap_sessions imap_is_still

pub returns-clause-scripted : goal.returns-clause-scripted
returns-clause-scripted c = concluding.of_scripts

pub returns-clause-settings : goal.returns-clause-settings
returns-clause-settings c = names.settings_are_in_line
