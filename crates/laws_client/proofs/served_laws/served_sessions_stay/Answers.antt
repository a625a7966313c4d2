use Rattle.laws_client.proofs.ServedStays.{stays}
use Rattle.laws_client.proofs.served_laws.served_sessions_stay.Goals as goal

pub returns : goal.returns
returns c = stays
