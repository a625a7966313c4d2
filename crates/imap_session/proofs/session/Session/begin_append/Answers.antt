use Rattle.std.proofs.Common.{◌++◌, ◌∙◌, ap, List, ℕ, subst, sym}
use Rattle.imap_session.specs.Exchange.{Exchange, ForNothing, bye}
use Rattle.imap_session.specs.Commands.{appending}
use Rattle.imap_session.specs.inner.Appends.{Leads}
use Rattle.imap_session.proofs.Appends.{ended_again, leads_waits, sent_fits, sent_too_big}
use Rattle.imap_session.proofs.session.Session.begin_append.Goals as goal
use Rattle.imap_session.specs.declared.texts.ResponseText.TheVariants as texts
use Rattle.imap_session.specs.Texts.{response_text}

pub returns-then-append-gt-MOST_UNASKED-clause-leads : goal.returns-then-append-gt-MOST_UNASKED-clause-leads
returns-then-append-gt-MOST_UNASKED-clause-leads g c =
    let now = c.args.self.now in
    leads_waits c.args.response.tag (bye (response_text texts.LiteralTooBig)) ForNothing now _ (appending now.mailing.most now.folders c.args.append.now) c.args.response.text (g.O.Outlet.said c.put_bye.new.out)
    (sent_too_big now.mailing.most now.folders c.args.append.now c.if-append.false c.if-append-gt-MOST_UNASKED.true) (c.put_bye.ensures.text ∙ ap (λ (t : List ℕ). t ++ bye (response_text texts.LiteralTooBig)) c.release.ensures.text) (ended_again c.self.view_is)

pub returns-clause-leads : goal.returns-clause-leads
returns-clause-leads g c =
    let now = c.args.self.now in
    let a = c.args.append.now in
    let P : Exchange → Type 0 = λ x. Leads c.args.response.tag now x c.args.response.text (g.O.Outlet.said c.expect_literal.new.out) c.expect_literal.result c.expect_literal.new.self in
    subst P (sym (sent_fits now.mailing.most now.folders a c.if-append.false c.if-append-gt-MOST_UNASKED.false)) c.expect_literal.ensures.leads
