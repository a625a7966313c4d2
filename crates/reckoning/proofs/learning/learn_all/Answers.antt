use Rattle.std.proofs.Common.{All, subst}
use Rattle.reckoning.specs.inner.Histories.{IsKnown}
use Rattle.reckoning.proofs.Histories.{known_in}
use Rattle.reckoning.proofs.learning.learn_all.Goals as goal

pub returns-clause-each : goal.returns-clause-each
returns-clause-each g c =
    let front = c.teach_all.new.front in
    known_in front c.args.worked.now.items (subst (All (IsKnown front)) c.deref.ensures.value c.teach_all.ensures.each) c.have_sent_all.ensures.each
