use Rattle.laws_relay.proofs.Reported.{reports_conclude}
use Rattle.laws_relay.proofs.account_laws.reports_conclude.Goals as goal

pub returns : goal.returns
returns c =
    reports_conclude c.accounts_conclude.ensures.concludes c.accounts_conclude.ensures.closed c.reports_tell_of_each_copy.ensures.accounts c.reports_tell_of_each_copy.ensures.taken
