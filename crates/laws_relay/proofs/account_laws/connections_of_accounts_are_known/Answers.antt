use Rattle.laws_relay.proofs.Spoken.{connections_of_accounts_are_known}
use Rattle.laws_relay.proofs.account_laws.connections_of_accounts_are_known.Goals as goal

pub returns : goal.returns
returns c = connections_of_accounts_are_known c.messages_are_known.ensures.forget_shut c.lines_are_told.ensures
