use Rattle.laws_client.proofs.Ends.{refusals}
use Rattle.laws_client.proofs.IdleTurns.{idle_turn_is_followed}
use Rattle.laws_client.proofs.ListPlayed.{turn_follows}
use Rattle.laws_client.proofs.list_laws.turns_are_followed.Goals as goal

pub returns-clause-turn : goal.returns-clause-turn
returns-clause-turn c = λ tag view now x answers turn new t e says sees. turn_follows tag (refusals tag t) view now x answers turn new e says sees

pub returns-clause-idle : goal.returns-clause-idle
returns-clause-idle c = idle_turn_is_followed
