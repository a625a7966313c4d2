use Rattle.std.proofs.Common.{[], ◌++◌, ◌∙◌, Option, ap, append-nil, refl, sym}
use Rattle.mail_date.specs.declared.stamp.Stamp.{Stamp}
use Rattle.imap_session.specs.contracts.session.Session.{the_view}
use Rattle.imap_session.specs.Exchange.{Client, ForVerdict, Standing, Wait, tagged}
use Rattle.imap_session.specs.Commands.{date_for, flags_for, on_rest}
use Rattle.imap_session.specs.inner.Seen.{pending_of, purpose_of}
use Rattle.imap_session.proofs.Appends.{leads_says, leads_starved, leads_wanting_waits, submitted_again}
use Rattle.imap_session.proofs.session.Session.submit.Goals as goal
use Rattle.imap_session.specs.declared.texts.ResponseText.TheVariants as texts
use Rattle.imap_session.specs.Texts.{response_text}

pub returns-in-Err-clause-refused : goal.returns-in-Err-clause-refused
returns-in-Err-clause-refused c before =
    let now = c.args.self.now in
    let same = ap the_view c.self-inside.view_is ∙ c.self.view_is in
    leads_says c.args.begun.tag (response_text c.in-Err.text) now now (on_rest now.mailing (pending_of c.args.begun) c.args.ends) before (before ++ tagged c.args.begun.tag (response_text c.in-Err.text))
    (c.in-Err.ensures.says now.mailing (pending_of c.args.begun) (sym (ap (λ (s : Standing). s.mailing.most) same)) (sym (ap (λ (s : Standing). s.mailing.number) same)) (sym c.mailbox-mailbox.ensures) refl refl)
    refl refl

pub returns-in_default-clause-refused : goal.returns-in_default-clause-refused
returns-in_default-clause-refused c before =
    let now = c.args.self.now in
    let same = ap the_view c.self-inside.view_is ∙ c.self.view_is in
    leads_starved c.args.begun.tag now now (on_rest now.mailing (pending_of c.args.begun) c.args.ends) (Wait [] (ForVerdict Client c.in-Ok.mailbox (flags_for (purpose_of c.args.begun.purpose)) (record { bytes = c.in-Ok.text.items; date = date_for (purpose_of c.args.begun.purpose) }))) before (before ++ tagged c.args.begun.tag (response_text texts.OutOfMemory))
    (c.in-Ok.ensures.ready now.mailing (pending_of c.args.begun) (sym (ap (λ (s : Standing). s.mailing.most) same)) (sym (ap (λ (s : Standing). s.mailing.number) same)) (sym c.mailbox-mailbox.ensures) refl refl)
    refl refl

pub returns-clause-sent : goal.returns-clause-sent
returns-clause-sent c before =
    let now = c.args.self.now in
    let same = ap the_view c.self-inside.view_is ∙ c.self.view_is in
    leads_wanting_waits c.args.begun.tag [] (ForVerdict Client c.in-Ok.mailbox (flags_for (purpose_of c.args.begun.purpose)) (record { bytes = c.in-Ok.text.items; date = date_for (purpose_of c.args.begun.purpose) })) now _ (on_rest now.mailing (pending_of c.args.begun) c.args.ends) before before
    (c.in-Ok.ensures.ready now.mailing (pending_of c.args.begun) (sym (ap (λ (s : Standing). s.mailing.most) same)) (sym (ap (λ (s : Standing). s.mailing.number) same)) (sym c.mailbox-mailbox.ensures) refl refl)
    (sym (append-nil before)) (submitted_again Client c.in-Ok.mailbox c.flags-flags.result (flags_for (purpose_of c.args.begun.purpose)) c.in-Ok-charged.text (record { bytes = c.in-Ok.text.items; date = date_for (purpose_of c.args.begun.purpose) }) c.args.begun.tag c.flags-flags.ensures
    (c.in-Ok-charged.ensures ∙ ap (λ (d : Option Stamp). record { bytes = c.in-Ok.text.items; date = d }) c.date-date.ensures) same)
