use Rattle.laws_client.proofs.Talking.{talk_is_followed}
use Rattle.laws_client.proofs.list_laws.talks_are_followed.Goals as goal

pub returns : goal.returns
returns c = talk_is_followed
