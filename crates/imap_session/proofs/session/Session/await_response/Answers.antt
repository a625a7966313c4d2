use Rattle.std.proofs.Common.{◌∙◌, ap, refl, List, ℕ, Some, []}
use Rattle.imap_session.specs.Exchange.{Asked, ForLiteral, Response, Wait, continuing}
use Rattle.imap_session.specs.Commands.{awaiting_response}
use Rattle.imap_session.proofs.Appends.{begun_again, leads_starved, leads_wanting_waits}
use Rattle.imap_session.proofs.session.Session.await_response.Goals as goal

pub returns-in_default-clause-leads : goal.returns-in_default-clause-leads
returns-in_default-clause-leads g c =
    leads_starved c.args.tag.now c.args.self.now c.args.self.now (awaiting_response c.args.line.now) (Wait (continuing []) (ForLiteral Asked (Response c.args.line.now) 0)) (g.O.Outlet.said c.args.out.now) (g.O.Outlet.said c.put_last.new.out) refl c.put_last.ensures.text refl

pub returns-in_default-begin_argument-clause-leads : goal.returns-in_default-begin_argument-clause-leads
returns-in_default-begin_argument-clause-leads g c =
    leads_starved c.args.tag.now c.args.self.now c.args.self.now (awaiting_response c.args.line.now) (Wait (continuing []) (ForLiteral Asked (Response c.args.line.now) 0)) (g.O.Outlet.said c.args.out.now) (g.O.Outlet.said c.put_last-in_default-begin_argument.new.out) refl c.put_last-in_default-begin_argument.ensures.text refl

pub returns-clause-leads : goal.returns-clause-leads
returns-clause-leads g c =
    let now = c.args.self.now in
    rw c.begin_literal.ensures.waits (leads_wanting_waits c.args.tag.now (continuing []) (ForLiteral Asked (Response c.args.line.now) 0) now _ (awaiting_response c.args.line.now) (g.O.Outlet.said c.args.out.now) (g.O.Outlet.said c.put_challenge.new.out) refl
    c.put_challenge.ensures.text
    (c.begin_literal.ensures.begun ∙ begun_again {s = now} Asked (Response c.in-Ok-begin_argument.line.items) (Response c.args.line.now) 0 c.in-Ok.own_tag c.args.tag.now (Some c.in-Ok-begin_argument.text.items)
    (ap (λ (l : List ℕ). Response l) c.in-Ok-begin_argument.ensures.line) c.in-Ok.ensures.ok (ap (λ (t : List ℕ). Some t) c.in-Ok-begin_argument.ensures.empty) refl))
