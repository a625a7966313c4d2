use Rattle.std.proofs.Common.{◌∙◌, ℕ, Bool, false, List, [], Err}
use Rattle.std.proofs.lemmas.Result.{err_from_is_err_and}
use Rattle.imap_grammar.specs.declared.command.Command.TheVariants as commands
use Rattle.imap_session.specs.Exchange.{Exchange}
use Rattle.imap_session.specs.Commands.{fetching, messages_done, on_set, says, wanting}
use Rattle.imap_session.specs.inner.Store.{last}
use Rattle.imap_session.proofs.Runs.{nothing_added, reaches_then, reaches_write, stops_write, stops_look}
use Rattle.imap_session.proofs.Saying.{does_then, does_wanting}
use Rattle.imap_session.proofs.Choosing.{does_chosen, reaches_too_high}
use Rattle.imap_session.proofs.fetch.fetch_messages.Goals as goal
use Rattle.imap_session.specs.declared.texts.ResponseText.TheVariants as texts
use Rattle.imap_session.specs.Texts.{response_text}
use Rattle.imap_session.specs.declared.texts.ResponseText.{ResponseText}

pub returns-in_err-items : goal.returns-in_err-items
returns-in_err-items g c =
    let p = err_from_is_err_and c.from_residual.result c.from_residual.ensures.1 in
    rw (p.1, p.2) (λ tag now. stops_write g.S.Store.step tag now [] _ _ _)

pub returns-in_err-messages : goal.returns-in_err-messages
returns-in_err-messages g c =
    let p = err_from_is_err_and c.from_residual-in_err-messages.result c.from_residual-in_err-messages.ensures.1 in
    rw (p.1, p.2) (does_wanting {V = ResponseText} g.S.Store.step _ last _ _ _ _ (Err _) (λ tag now. stops_look g.S.Store.step tag now _ _ _ _ _ _ c.in_err-messages.ensures.event))

pub returns-in_default : goal.returns-in_default
returns-in_default g c tag now =
    let command = c.args.fetch.now in
    let looks = rw c.in_default.is at c.in_ok-messages.ensures.event in
    let next : List ℕ → List ℕ → Exchange = λ view uids. fetching command c.args.mark_seen view (messages_done (commands.Fetch command) command.by_uid) uids false in
    reaches_then g.S.Store.step tag now now now (wanting (on_set command.by_uid command.set next)) (on_set command.by_uid command.set next) (says (response_text texts.SequenceTooHigh)) _ _ _ _ _ _
    (reaches_write g.S.Store.step tag now [] (on_set command.by_uid command.set next) c.args.store.now _ _ (nothing_added c.args.response.now))
    (reaches_too_high g.S.Store.step command.by_uid command.set next looks.0 c.args.store.now c.args.response.now looks.1 looks.2 tag now)

pub returns-in_err-gone : goal.returns-in_err-gone
returns-in_err-gone g c =
    let command = c.args.fetch.now in
    let looks = rw c.in-Some.is at c.in_ok-messages.ensures.event in
    let done : Bool → Exchange = messages_done (commands.Fetch command) command.by_uid in
    let p = err_from_is_err_and c.from_residual-in_err-gone.result c.from_residual-in_err-gone.ensures.1 in
    rw (p.1, p.2) (does_wanting {V = ResponseText} g.S.Store.step _ last _ _ _ _ (Err _) (does_chosen {V = ResponseText} g.S.Store.step command.by_uid command.set (λ view uids. fetching command c.args.mark_seen view done uids false) last looks.0 c.in-Some.messages.items _ _ _ _ (Err _) looks.1 looks.2
    (λ uids are. c.in_err-gone.ensures looks.0 uids (c.as_slice.ensures.value ∙ are) done)))

pub returns : goal.returns
returns g c =
    let command = c.args.fetch.now in
    let looks = rw c.in-Some.is at c.in_ok-messages.ensures.event in
    let done : Bool → Exchange = messages_done (commands.Fetch command) command.by_uid in
    does_wanting g.S.Store.step _ last _ _ _ _ c.finish_fetch.result (does_chosen g.S.Store.step command.by_uid command.set (λ view uids. fetching command c.args.mark_seen view done uids false) last looks.0 c.in-Some.messages.items _ _ _ _ c.finish_fetch.result looks.1 looks.2
    (λ uids are. does_then g.S.Store.step _ (done c.in_ok-gone.gone) last _ _ _ _ _ _ c.finish_fetch.result (c.in_ok-gone.ensures looks.0 uids (c.as_slice.ensures.value ∙ are) done) c.finish_fetch.ensures))
