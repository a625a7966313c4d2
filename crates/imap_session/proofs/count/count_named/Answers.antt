use Rattle.std.proofs.Common.{Ok, Err, sym}
use Rattle.std.proofs.lemmas.Result.{err_from_is_err_and}
use Rattle.imap_grammar.specs.declared.command.Command.TheVariants as commands
use Rattle.imap_session.specs.Exchange.{Exchange, Folder}
use Rattle.imap_session.specs.Commands.{completed, counting}
use Rattle.imap_session.specs.inner.Store.{last}
use Rattle.imap_session.proofs.Naming.{does_found, reaches_missing}
use Rattle.imap_session.proofs.count.count_named.Goals as goal
use Rattle.imap_session.specs.declared.texts.ResponseText.{ResponseText}

pub returns-in_default : goal.returns-in_default
returns-in_default g c tag now =
    reaches_missing g.S.Store.step tag now c.args.name.now c.args.folders.now _ _ _ (sym c.in_default.ensures)

pub returns-in_err-count_folder : goal.returns-in_err-count_folder
returns-in_err-count_folder g c =
    let next : Folder → Exchange = counting c.args.selected c.args.name.now c.args.items.now in
    let p = err_from_is_err_and c.from_residual.result c.from_residual.ensures.1 in
    rw (p.1, p.2) (does_found {V = ResponseText} g.S.Store.step c.args.name.now c.args.folders.now _ next last _ _ _ _ (Err _)
    c.in-Some.ensures (c.in_err-count_folder.ensures (completed (commands.Status c.args.name.now c.args.items.now))))

pub returns : goal.returns
returns g c =
    let next : Folder → Exchange = counting c.args.selected c.args.name.now c.args.items.now in
    does_found g.S.Store.step c.args.name.now c.args.folders.now _ next (λ (u : Unit {0}). completed (commands.Status c.args.name.now c.args.items.now)) _ _ _ _ (Ok tt)
    c.in-Some.ensures (c.in_ok-count_folder.ensures (completed (commands.Status c.args.name.now c.args.items.now)))
