use Rattle.std.proofs.Common.{length, subst, sym}
use Rattle.serving.specs.inner.Dealing.{IsDealt}
use Rattle.serving.proofs.run.in_scope.Goals as goal

pub start_and_tell-begin-requires-clause-supplies : goal.start_and_tell-begin-requires-clause-supplies
start_and_tell-begin-requires-clause-supplies g c κs within =
    let site = c.args.site.now in
    let is = subst (IsDealt g.L.Line.told site.workplace.shared (length site.shutdown_handles.mail.items) (length site.guests.items)) (sym c.into_inner-supplies.ensures) c.requires.dealt in
    is.supplies
