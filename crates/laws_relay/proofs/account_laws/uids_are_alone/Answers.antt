use Rattle.laws_relay.proofs.EntryLaws.{uids_alone}
use Rattle.laws_relay.proofs.account_laws.uids_are_alone.Goals as goal

pub returns : goal.returns
returns c = uids_alone
