use Rattle.laws_client.proofs.Served.{served_texts_stay}
use Rattle.laws_client.proofs.served_laws.served_texts_stay.Goals as goal

pub returns : goal.returns
returns c = served_texts_stay
