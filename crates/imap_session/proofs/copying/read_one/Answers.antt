use Rattle.std.proofs.Common.{false, length, Option, Some, None}
use Rattle.std.specs.Prelude.{if◌then◌else◌}
use Rattle.std.proofs.lemmas.Result.{err_from_is_err_and}
use Rattle.mailbox.specs.declared.clients.Row.{Row}
use Rattle.imap_session.specs.Exchange.{Exchange}
use Rattle.imap_session.specs.Commands.{is_over, most_copied, on_found, over, says}
use Rattle.imap_session.specs.Texts.{response_text}
use Rattle.imap_session.specs.declared.texts.ResponseText.TheVariants as texts
use Rattle.imap_session.proofs.Runs.{reaches_read, stops_read}
use Rattle.imap_session.proofs.copying.read_one.Goals as goal

pub returns-in_err-read : goal.returns-in_err-read
returns-in_err-read g c response named same mailing most taken passed =
    let p = err_from_is_err_and c.from_residual.result c.from_residual.ensures.1 in
    rw (p.1, p.2) (λ tag now. stops_read g.S.Store.step tag now named false _ _ _ _ _ (rw same at c.in_err-read.ensures))

pub returns-in-Some : goal.returns-in-Some
returns-in-Some g c response named same mailing most taken passed tag now =
    let next : Option Row → Exchange = on_found
    (λ row. if is_over (most_copied c.args.most) (length row.text.bytes) then over (most_copied c.args.most) else taken row)
    (if c.args.copy.now.by_uid then passed else says (response_text texts.MessagesGone)) in
    rw (← c.there.ensures taken passed, most) (reaches_read g.S.Store.step tag now named false next (Some c.in-Some.row) _ _ _ (rw (same, c.in-Some.is) at c.in_ok-read.ensures))

pub returns-in-None : goal.returns-in-None
returns-in-None g c response named same mailing most taken passed tag now =
    let next : Option Row → Exchange = on_found
    (λ row. if is_over (most_copied mailing.most) (length row.text.bytes) then over (most_copied mailing.most) else taken row)
    (if c.args.copy.now.by_uid then passed else says (response_text texts.MessagesGone)) in
    rw (← c.gone.ensures taken passed) (reaches_read g.S.Store.step tag now named false next None _ _ _ (rw (same, c.in-None.is) at c.in_ok-read.ensures))
