use Rattle.laws_client.proofs.Folded.{settings_can_be_printed}
use Rattle.laws_client.proofs.record_laws.houses_can_be_printed.Goals as goal

pub returns : goal.returns
returns c = settings_can_be_printed
