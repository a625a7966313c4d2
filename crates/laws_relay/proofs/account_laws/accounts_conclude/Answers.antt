use Rattle.laws_relay.proofs.Concluded.{Grounds, accounts_conclude, accounts_keep_closed}
use Rattle.laws_relay.proofs.account_laws.accounts_conclude.Goals as goal

pub returns-clause-concludes : goal.returns-clause-concludes
returns-clause-concludes c =
    let laws : Grounds = record {
      known = c.connections_of_accounts_are_known.ensures;
      fronts = c.messages_are_known.ensures.fronts;
      stays = c.messages_are_known.ensures.stays;
      taken = c.messages_are_known.ensures.taken;
      numbers = c.messages_are_known.ensures.numbers;
    } in
    accounts_conclude laws

pub returns-clause-closed : goal.returns-clause-closed
returns-clause-closed c = accounts_keep_closed c.connections_are_of_lines.ensures.closed
