use Rattle.lmtp_machine.proofs.Kept.{dialogue_keeps, fresh_kept}
use Rattle.lmtp_machine.proofs.laws.messages_are_numbered.Goals as goal

pub returns-clause-begins : goal.returns-clause-begins
returns-clause-begins c = fresh_kept

pub returns-clause-stays : goal.returns-clause-stays
returns-clause-stays c = dialogue_keeps
