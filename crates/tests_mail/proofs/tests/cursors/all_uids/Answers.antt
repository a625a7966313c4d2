use Rattle.std.proofs.lemmas.List.{drop_more}
use Rattle.tests_mail.proofs.FitLaws.{added_after}
use Rattle.tests_mail.proofs.tests.cursors.all_uids.Goals as goal

pub loop-change-preserved : goal.loop-change-preserved
loop-change-preserved c =
    let split = drop_more c.args.changes.now c.loop-change.change-index _ c.loop-change-test.true in
    added_after _ _ _ split c.loop-change.all.items c.note.new.all.items _ c.in-Ok.ensures c.loop-change.invariant
