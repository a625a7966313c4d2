use Rattle.envelope.proofs.Numbers.{number_is_position}
use Rattle.envelope.proofs.laws.words_have_their_positions.Goals as goal

pub returns : goal.returns
returns c = number_is_position
