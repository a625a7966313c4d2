use Rattle.delivery_token.proofs.Slots.{hears_slots}
use Rattle.delivery_token.proofs.laws.what_was_heard_is_kept.Goals as goal

pub returns : goal.returns
returns c = hears_slots
