use Rattle.std.proofs.Common.{◌<◌, ◌≤◌, ◌+◌, ◌∙◌, ap, arith, length, refl, List, ℕ, Some}
use Rattle.imap_session.specs.Exchange.{Argument, Asked, ForLiteral, Wait, continuing}
use Rattle.imap_session.specs.Commands.{awaiting_argument, most_line}
use Rattle.imap_session.specs.Texts.{response_text}
use Rattle.imap_session.specs.declared.texts.ResponseText.TheVariants as texts
use Rattle.imap_session.proofs.Appends.{argument_asked, argument_too_long, begun_again, leads_says, leads_starved, leads_wanting_waits}
use Rattle.imap_session.proofs.session.Session.ask_for_argument.Goals as goal

pub returns-then-before-literal-clause-leads : goal.returns-then-before-literal-clause-leads
returns-then-before-literal-clause-leads g c =
    let f = c.args.found in
    let long : most_line < length f.before.now + f.literal.size = c.if-before-literal.true in
    leads_says f.tag.now (response_text texts.LineTooLong) c.args.self.now c.args.self.now (awaiting_argument f.before.now f.literal) (g.O.Outlet.said c.args.out.now) (g.O.Outlet.said c.put_last.new.out)
    (argument_too_long f.before.now f.literal c.requires.waits long) c.put_last.ensures.text refl

pub returns-in_default-clause-leads : goal.returns-in_default-clause-leads
returns-in_default-clause-leads g c =
    let f = c.args.found in
    let fits : length f.before.now + f.literal.size ≤ most_line = omega (arith, c.if-before-literal.false) in
    leads_starved f.tag.now c.args.self.now c.args.self.now (awaiting_argument f.before.now f.literal) (Wait (continuing (response_text texts.Ready)) (ForLiteral Asked (Argument f.before.now) f.literal.size))
    (g.O.Outlet.said c.args.out.now) (g.O.Outlet.said c.put_last-in_default.new.out) (argument_asked f.before.now f.literal c.requires.waits fits) c.put_last-in_default.ensures.text refl

pub returns-in_default-begin_argument-clause-leads : goal.returns-in_default-begin_argument-clause-leads
returns-in_default-begin_argument-clause-leads g c =
    let f = c.args.found in
    let fits : length f.before.now + f.literal.size ≤ most_line = omega (arith, c.if-before-literal.false) in
    leads_starved f.tag.now c.args.self.now c.args.self.now (awaiting_argument f.before.now f.literal) (Wait (continuing (response_text texts.Ready)) (ForLiteral Asked (Argument f.before.now) f.literal.size))
    (g.O.Outlet.said c.args.out.now) (g.O.Outlet.said c.put_last-in_default-begin_argument.new.out) (argument_asked f.before.now f.literal c.requires.waits fits) c.put_last-in_default-begin_argument.ensures.text refl

pub returns-clause-leads : goal.returns-clause-leads
returns-clause-leads g c =
    let f = c.args.found in
    let fits : length f.before.now + f.literal.size ≤ most_line = omega (arith, c.if-before-literal.false) in
    let now = c.args.self.now in
    rw c.begin_literal.ensures.waits (leads_wanting_waits f.tag.now (continuing (response_text texts.Ready)) (ForLiteral Asked (Argument f.before.now) f.literal.size) now _ (awaiting_argument f.before.now f.literal) (g.O.Outlet.said c.args.out.now) (g.O.Outlet.said c.put_continuing.new.out)
    (argument_asked f.before.now f.literal c.requires.waits fits) c.put_continuing.ensures.text
    (c.begin_literal.ensures.begun ∙ begun_again {s = now} Asked (Argument c.in-Ok-begin_argument.line.items) (Argument f.before.now) f.literal.size c.in-Ok.own_tag f.tag.now (Some c.in-Ok-begin_argument.text.items)
    (ap (λ (l : List ℕ). Argument l) c.in-Ok-begin_argument.ensures.line) c.in-Ok.ensures.ok (ap (λ (t : List ℕ). Some t) c.in-Ok-begin_argument.ensures.empty) refl))
