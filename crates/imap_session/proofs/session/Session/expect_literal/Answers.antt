use Rattle.std.proofs.Common.{◌++◌, ◌∙◌, ap, refl, ℕ, List, Option, None, Some, [], append-nil, subst, sym, ◌<◌, length}
use Rattle.imap_session.specs.Exchange.{Dropped, ForLiteral, Message, Unasked, bye, most_in_place}
use Rattle.imap_session.specs.Commands.{coming, number_named}
use Rattle.imap_session.proofs.Appends.{begun_again, ended_again, leads_dropping, leads_parting, leads_waits}
use Rattle.imap_session.proofs.session.Session.expect_literal.Goals as goal
use Rattle.imap_session.specs.declared.texts.ResponseText.TheVariants as texts
use Rattle.imap_session.specs.Texts.{response_text}

pub returns-in_default-clause-leads : goal.returns-in_default-clause-leads
returns-in_default-clause-leads g c =
    let a = c.args.append.now in
    let now = c.args.self.now in
    leads_parting c.args.response.tag (number_named a.name now.folders) a.flags a.date a.literal.size now _ c.args.response.text (g.O.Outlet.said c.put_bye.new.out)
    (subst (λ (t : List ℕ). most_in_place < length t) c.release-tag.ensures.tag c.in_default.ensures.memory)
    (c.put_bye.ensures.text ∙ ap (λ (t : List ℕ). t ++ bye (response_text texts.ByeOutOfMemory)) c.release-tag.ensures.text) (ended_again c.self.view_is)

pub returns-in-Ok-prepared-clause-leads : goal.returns-in-Ok-prepared-clause-leads
returns-in-Ok-prepared-clause-leads g c =
    let a = c.args.append.now in
    let now = c.args.self.now in
    let named = number_named a.name now.folders in
    rw c.begin_literal.ensures.waits (leads_waits c.args.response.tag [] (ForLiteral Unasked (Message named a.flags a.date) a.literal.size) now _ (coming named a.flags a.date a.literal.size) c.args.response.text (g.O.Outlet.said c.release-tag.new.out) refl
    (c.release-tag.ensures.text ∙ sym (append-nil c.args.response.text))
    (c.begin_literal.ensures.begun ∙ begun_again {s = now} Unasked (Message c.in-Ok-prepared.mailbox a.flags a.date) (Message named a.flags a.date) a.literal.size c.in-Ok.tag c.args.response.tag (Some c.in-Ok-prepared.text.items) (ap (λ (o : Option ℕ). Message o a.flags a.date) c.in-Ok-prepared.ensures.number)
    (c.in-Ok.ensures.ok ∙ c.release-tag.ensures.tag) (ap (λ (t : List ℕ). Some t) c.in-Ok-prepared.ensures.empty) refl))

pub returns-in-Err-clause-leads : goal.returns-in-Err-clause-leads
returns-in-Err-clause-leads g c =
    let a = c.args.append.now in
    let now = c.args.self.now in
    rw c.begin_literal-in-Err.ensures.waits (leads_dropping c.args.response.tag (number_named a.name now.folders) a.flags a.date a.literal.size now _ c.args.response.text (g.O.Outlet.said c.release-tag.new.out) c.release-tag.ensures.text
    (c.begin_literal-in-Err.ensures.begun ∙ begun_again {s = now} Dropped (Message None a.flags a.date) (Message None a.flags a.date) a.literal.size c.in-Ok.tag c.args.response.tag None refl (c.in-Ok.ensures.ok ∙ c.release-tag.ensures.tag) refl refl))
