use Rattle.std.proofs.Common.{◌∙◌, Ok, sym}
use Rattle.std.proofs.lemmas.Result.{err_from_is_err_and}
use Rattle.imap_session.specs.Commands.{says}
use Rattle.imap_session.specs.Texts.{response_text}
use Rattle.imap_session.specs.declared.texts.ResponseText.{ResponseText}
use Rattle.imap_session.specs.inner.Store.{last}
use Rattle.imap_session.proofs.Copies.{does_discarded, taken_back_none, taken_back_some}
use Rattle.imap_session.proofs.Runs.{reaches_here, stops_discard}
use Rattle.imap_session.proofs.copied.take_back.Goals as goal

pub returns-in_err-discard : goal.returns-in_err-discard
returns-in_err-discard g c response =
    let p = err_from_is_err_and c.from_residual.result c.from_residual.ensures.1 in
    let x = says (response_text c.args.text) in
    rw (p.1, p.2) (λ tag now.
    rw (taken_back_some c.args.mailbox c.args.copies.now x (sym c.is_empty.ensures ∙ c.if-not-is_empty.true))
    (stops_discard g.S.Store.step tag now c.args.mailbox c.args.copies.now x _ _ _ response c.in_err-discard.ensures.event))

pub returns-in_ok-discard : goal.returns-in_ok-discard
returns-in_ok-discard g c response =
    let x = says (response_text c.args.text) in
    rw (taken_back_some c.args.mailbox c.args.copies.now x (sym c.is_empty.ensures ∙ c.if-not-is_empty.true))
    (does_discarded {V = ResponseText} g.S.Store.step c.args.mailbox c.args.copies.now x last c.args.store.now c.discard.new.self c.discard.new.self response response (Ok c.args.text)
    c.in_ok-discard.ensures.event (λ tag now. reaches_here g.S.Store.step tag now x c.discard.new.self response))

pub returns-else-not-is_empty : goal.returns-else-not-is_empty
returns-else-not-is_empty g c response tag now =
    let x = says (response_text c.args.text) in
    rw (taken_back_none c.args.mailbox c.args.copies.now x (sym c.is_empty.ensures ∙ c.if-not-is_empty.false)) (reaches_here g.S.Store.step tag now x c.args.store.now response)
