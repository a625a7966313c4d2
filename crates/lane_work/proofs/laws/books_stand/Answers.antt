use Rattle.lane_work.proofs.BackingLaws.{books_stand, words_stand}
use Rattle.lane_work.proofs.laws.books_stand.Goals as goal

pub returns-clause-stand : goal.returns-clause-stand
returns-clause-stand c = books_stand

pub returns-clause-ended : goal.returns-clause-ended
returns-clause-ended c = words_stand
