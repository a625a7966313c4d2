use Rattle.std.proofs.Common.{◌∙◌, Bool, false, Err}
use Rattle.std.proofs.lemmas.Result.{err_from_is_err_and}
use Rattle.imap_grammar.specs.declared.command.Command.TheVariants as commands
use Rattle.imap_session.specs.Exchange.{Exchange}
use Rattle.imap_session.specs.Commands.{storing, messages_done}
use Rattle.imap_session.specs.inner.Store.{last}
use Rattle.imap_session.proofs.Runs.{stops_look}
use Rattle.imap_session.proofs.Saying.{does_then}
use Rattle.imap_session.proofs.Choosing.{does_chosen, reaches_too_high}
use Rattle.imap_session.proofs.set_flags.store_messages.Goals as goal
use Rattle.imap_session.specs.declared.texts.ResponseText.{ResponseText}

pub returns-in_err-messages : goal.returns-in_err-messages
returns-in_err-messages g c =
    let p = err_from_is_err_and c.from_residual.result c.from_residual.ensures.1 in
    rw (p.1, p.2) (λ tag now. stops_look g.S.Store.step tag now _ _ _ _ _ _ c.in_err-messages.ensures.event)

pub returns-in_default : goal.returns-in_default
returns-in_default g c tag now =
    let command = c.args.command.now in
    let looks = rw c.in_default.is at c.in_ok-messages.ensures.event in
    reaches_too_high g.S.Store.step command.by_uid command.set (λ view uids. storing command view (messages_done (commands.Store command) command.by_uid) uids false) looks.0 _ _ looks.1 looks.2 tag now

pub returns-in_err-gone : goal.returns-in_err-gone
returns-in_err-gone g c =
    let command = c.args.command.now in
    let looks = rw c.in-Some.is at c.in_ok-messages.ensures.event in
    let done : Bool → Exchange = messages_done (commands.Store command) command.by_uid in
    let p = err_from_is_err_and c.from_residual-in_err-gone.result c.from_residual-in_err-gone.ensures.1 in
    rw (p.1, p.2) (does_chosen {V = ResponseText} g.S.Store.step command.by_uid command.set (λ view uids. storing command view done uids false) last looks.0 c.in-Some.messages.items _ _ _ _ (Err _) looks.1 looks.2
    (λ uids are. c.in_err-gone.ensures looks.0 uids (c.as_slice.ensures.value ∙ are) done))

pub returns : goal.returns
returns g c =
    let command = c.args.command.now in
    let looks = rw c.in-Some.is at c.in_ok-messages.ensures.event in
    let done : Bool → Exchange = messages_done (commands.Store command) command.by_uid in
    does_chosen g.S.Store.step command.by_uid command.set (λ view uids. storing command view done uids false) last looks.0 c.in-Some.messages.items _ _ _ _ c.finish_store.result looks.1 looks.2
    (λ uids are. does_then g.S.Store.step _ (done c.in_ok-gone.gone) last _ _ _ _ _ _ c.finish_store.result (c.in_ok-gone.ensures looks.0 uids (c.as_slice.ensures.value ∙ are) done) c.finish_store.ensures)
