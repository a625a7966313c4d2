use Rattle.laws_relay.proofs.Known as known
use Rattle.laws_relay.proofs.Taken.{taken_are_stored}
use Rattle.laws_relay.proofs.ReplyConcluding as concluding
use Rattle.laws_relay.proofs.Numbered as numbered
use Rattle.laws_relay.proofs.reply_laws.messages_are_known.Goals as goal

pub returns-clause-known : goal.returns-clause-known
returns-clause-known c = known.messages_are_known

pub returns-clause-shut : goal.returns-clause-shut
returns-clause-shut c = known.messages_are_known_while_shards_are_shut

pub returns-clause-bytes : goal.returns-clause-bytes
returns-clause-bytes c = concluding.messages_are_known_by_bytes

pub returns-clause-taken : goal.returns-clause-taken
returns-clause-taken c = taken_are_stored

pub returns-clause-fronts : goal.returns-clause-fronts
returns-clause-fronts c = concluding.fronts_are_cut

pub returns-clause-stays : goal.returns-clause-stays
returns-clause-stays c = concluding.what_is_read_stays

pub returns-clause-forget : goal.returns-clause-forget
returns-clause-forget c = concluding.relays_may_forget

pub returns-clause-forget_shut : goal.returns-clause-forget_shut
returns-clause-forget_shut c = concluding.relays_may_forget_while_shards_are_shut

pub returns-clause-numbers : goal.returns-clause-numbers
returns-clause-numbers c = numbered.messages_are_numbered
