use Rattle.std.proofs.Common.{◌++◌, ◌∙◌, ap, refl, List, ℕ, Some}
use Rattle.imap_session.specs.Exchange.{Asked, ForLiteral, Message, continuing}
use Rattle.imap_session.specs.Commands.{asking, wanting}
use Rattle.imap_session.proofs.Appends.{begun_again, leads_starved, leads_wanting_waits, said_under}
use Rattle.imap_session.proofs.session.Session.await_literal.Goals as goal
use Rattle.imap_session.specs.declared.texts.ResponseText.TheVariants as texts
use Rattle.imap_session.specs.Texts.{response_text}

pub returns-in_default-clause-leads : goal.returns-in_default-clause-leads
returns-in_default-clause-leads g c =
    let a = c.args.append.now in
    let x = asking c.args.mailbox a.flags a.date a.literal.size in
    leads_starved c.args.response.tag c.args.self.now c.args.self.now (wanting x) x c.args.response.text (g.O.Outlet.said c.put_tagged.new.out) refl
    (said_under (response_text texts.OutOfMemory) _ _ _ _ _ c.put_tagged.ensures.text c.release-tag.ensures.text c.release-tag.ensures.tag) refl

pub returns-in_default-begin_text-clause-leads : goal.returns-in_default-begin_text-clause-leads
returns-in_default-begin_text-clause-leads g c =
    let a = c.args.append.now in
    let x = asking c.args.mailbox a.flags a.date a.literal.size in
    leads_starved c.args.response.tag c.args.self.now c.args.self.now (wanting x) x c.args.response.text (g.O.Outlet.said c.put_tagged-in_default-begin_text.new.out) refl
    (said_under (response_text texts.OutOfMemory) _ _ _ _ _ c.put_tagged-in_default-begin_text.ensures.text c.release-tag.ensures.text c.release-tag.ensures.tag) refl

pub returns-clause-leads : goal.returns-clause-leads
returns-clause-leads g c =
    let a = c.args.append.now in
    rw c.begin_literal.ensures.waits (leads_wanting_waits c.args.response.tag (continuing (response_text texts.Ready)) (ForLiteral Asked (Message (Some c.args.mailbox) a.flags a.date) a.literal.size) c.args.self.now _ _ c.args.response.text (g.O.Outlet.said c.put_continuing.new.out) refl
    (c.put_continuing.ensures.text ∙ ap (λ (t : List ℕ). t ++ continuing (response_text texts.Ready)) c.release-tag.ensures.text)
    (c.begin_literal.ensures.begun ∙ begun_again {s = c.args.self.now} Asked (Message (Some c.args.mailbox) a.flags a.date) (Message (Some c.args.mailbox) a.flags a.date) a.literal.size c.in-Ok.own_tag c.args.response.tag (Some c.in-Ok-begin_text.text.items) refl (c.in-Ok.ensures.ok ∙ c.release-tag.ensures.tag)
    (ap (λ (t : List ℕ). Some t) c.in-Ok-begin_text.ensures.empty) refl))
