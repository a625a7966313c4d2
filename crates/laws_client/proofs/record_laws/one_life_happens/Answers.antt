use Rattle.laws_client.proofs.RecordOneLife.{one_life_is_lived}
use Rattle.laws_client.proofs.record_laws.one_life_happens.Goals as goal

pub returns : goal.returns
returns c = one_life_is_lived
