use Rattle.std.proofs.Common.{Err, Ok}
use Rattle.std.proofs.lemmas.Result.{err_from_is_err_and}
use Rattle.imap_session.specs.Exchange.{Exchange, Feed}
use Rattle.imap_session.specs.Commands.{move_done, unlimited}
use Rattle.imap_session.specs.declared.texts.ResponseText.{ResponseText}
use Rattle.imap_session.specs.inner.Seen.{batch_of}
use Rattle.imap_session.specs.inner.Store.{last}
use Rattle.imap_session.proofs.Copies.{does_discarded}
use Rattle.imap_session.proofs.Runs.{reaches_here, stops_discard}
use Rattle.imap_session.proofs.copied.remove_moved.Goals as goal

pub returns-in_err-discard : goal.returns-in_err-discard
returns-in_err-discard g c =
    let p = err_from_is_err_and c.from_residual.result c.from_residual.ensures.1 in
    let done : Exchange = move_done (batch_of c.args.batch.now) in
    rw (p.1, p.2, c.in-Some.is) (λ tag now. stops_discard g.S.Store.step tag now c.in-Some.selected.mailbox c.args.batch.now.uids.items (Feed unlimited done) _ _ _ _
    (rw c.as_slice.ensures.value at c.in_err-discard.ensures.event))

pub returns-in_err-show : goal.returns-in_err-show
returns-in_err-show g c =
    let p = err_from_is_err_and c.from_residual-in_err-show.result c.from_residual-in_err-show.ensures.1 in
    let done : Exchange = move_done (batch_of c.args.batch.now) in
    rw (p.1, p.2, c.in-Some.is) (does_discarded {V = ResponseText} g.S.Store.step c.in-Some.selected.mailbox c.args.batch.now.uids.items (Feed unlimited done) last _ _ _ _ _ (Err _)
    (rw c.as_slice.ensures.value at c.in_ok-discard.ensures.event) (c.in_err-show.ensures.done done))

pub returns : goal.returns
returns g c =
    let done : Exchange = move_done (batch_of c.args.batch.now) in
    rw (c.copy_verb.ensures, c.in-Some.is) (does_discarded {V = Unit {0}} g.S.Store.step c.in-Some.selected.mailbox c.args.batch.now.uids.items (Feed unlimited done) (λ u. done) _ _ _ _ _ (Ok tt)
    (rw c.as_slice.ensures.value at c.in_ok-discard.ensures.event) (c.in_ok-show.ensures.done done))

pub returns-in_default : goal.returns-in_default
returns-in_default g c tag now =
    rw (c.copy_verb.ensures, c.in_default.is) (reaches_here g.S.Store.step tag now (move_done (batch_of c.args.batch.now)) c.args.store.now c.args.response.now)
