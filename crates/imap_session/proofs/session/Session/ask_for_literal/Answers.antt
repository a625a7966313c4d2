use Rattle.std.proofs.Common.{◌≡◌, ◌∙◌, ap, refl, subst, sym, true, Option, ℕ}
use Rattle.imap_session.specs.contracts.session.Session.{the_view}
use Rattle.imap_session.specs.Exchange.{Standing}
use Rattle.imap_session.specs.Commands.{appending, is_over, number_named, over, says, wanting}
use Rattle.imap_session.proofs.Appends.{asked, asked_at, asked_nowhere, asked_over, leads_starved, leads_wanting_says}
use Rattle.imap_session.proofs.session.Session.ask_for_literal.Goals as goal
use Rattle.imap_session.specs.declared.texts.ResponseText.TheVariants as texts
use Rattle.imap_session.specs.Texts.{response_text}

pub returns-in_default-clause-leads : goal.returns-in_default-clause-leads
returns-in_default-clause-leads g c =
    let now = c.args.self.now in
    let a = c.args.append.now in
    leads_starved c.args.response.tag now now (appending now.mailing.most now.folders a) (asked_at now.mailing.most a (number_named a.name now.folders)) c.args.response.text (g.O.Outlet.said c.end.new.out)
    (asked now.mailing.most now.folders a c.requires.waits) c.end.ensures.text refl

pub returns-in_default-mailbox-clause-leads : goal.returns-in_default-mailbox-clause-leads
returns-in_default-mailbox-clause-leads g c =
    let now = c.args.self.now in
    let a = c.args.append.now in
    leads_wanting_says c.args.response.tag (response_text texts.TryCreate) now now (appending now.mailing.most now.folders a) c.args.response.text (g.O.Outlet.said c.end-in_default-mailbox.new.out)
    (asked_nowhere now.mailing.most now.folders a c.requires.waits (sym c.in-Ok.ensures ∙ c.in_default-mailbox.is)) c.end-in_default-mailbox.ensures.text refl

pub returns-in-Some-refused_size-clause-leads : goal.returns-in-Some-refused_size-clause-leads
returns-in-Some-refused_size-clause-leads g c =
    let now = c.args.self.now in
    let a = c.args.append.now in
    let text = response_text c.in-Some-refused_size.text in
    let over_most = subst (λ (most : Option ℕ). (is_over most a.literal.size ≡ true) × (over most ≡ says text)) (ap (λ (s : Standing). s.mailing.most) (ap the_view c.self-inside.view_is ∙ c.self.view_is)) c.in-Some-refused_size.ensures.refused in
    leads_wanting_says c.args.response.tag text now now (appending now.mailing.most now.folders a) c.args.response.text (g.O.Outlet.said c.end-in-Some-refused_size.new.out)
    (asked_over now.mailing.most c.in-Some.number now.folders a c.requires.waits (sym c.in-Ok.ensures ∙ c.in-Some.is) over_most.0 ∙ ap wanting over_most.1) c.end-in-Some-refused_size.ensures.text refl
