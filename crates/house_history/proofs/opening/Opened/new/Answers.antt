use Rattle.house_history.proofs.Follow.{legal_empty}
use Rattle.house_history.proofs.opening.Opened.new.Goals as goal

pub open-seen-requires : goal.open-seen-requires
open-seen-requires c = legal_empty
