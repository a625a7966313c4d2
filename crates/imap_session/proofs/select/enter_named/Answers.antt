use Rattle.std.proofs.Common.{sym}
use Rattle.imap_session.specs.Commands.{entering, on_folder}
use Rattle.imap_session.proofs.Naming.{reaches_missing, reaches_wanted}
use Rattle.imap_session.proofs.select.enter_named.Goals as goal

pub returns-in-None : goal.returns-in-None
returns-in-None g c tag now was =
    rw (← was) (reaches_wanted g.S.Store.step tag now (on_folder c.args.name.now c.args.folders.now (entering c.args.profile c.args.read_only)) _ _ _
    (reaches_missing g.S.Store.step tag now c.args.name.now c.args.folders.now (entering c.args.profile c.args.read_only) _ _ (sym c.in-None.ensures)))
