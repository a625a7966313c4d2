use Rattle.std.proofs.Common.{◌∙◌, ap, refl, sym, append-nil, List, ℕ, Some, None, []}
use Rattle.imap_session.specs.Exchange.{Argument, Dropped, ForLiteral, Unasked}
use Rattle.imap_session.specs.Commands.{awaiting_argument}
use Rattle.imap_session.proofs.Appends.{argument_comes, begun_again, ended_again, leads_dropping_argument, leads_parting_argument, leads_waits}
use Rattle.imap_session.proofs.session.Session.expect_argument.Goals as goal

pub returns-in_default-clause-leads : goal.returns-in_default-clause-leads
returns-in_default-clause-leads g c =
    let f = c.args.found in
    leads_parting_argument f.tag.now f.before.now f.literal.size c.args.self.now _ (awaiting_argument f.before.now f.literal) (g.O.Outlet.said c.args.out.now) (g.O.Outlet.said c.put_bye.new.out)
    (argument_comes f.before.now f.literal c.requires.comes c.requires.size) c.in_default.ensures.memory c.put_bye.ensures.text (ended_again c.self.view_is)

pub returns-in-Ok-kept-clause-leads : goal.returns-in-Ok-kept-clause-leads
returns-in-Ok-kept-clause-leads g c =
    let f = c.args.found in
    let now = c.args.self.now in
    rw c.begin_literal.ensures.waits (leads_waits f.tag.now [] (ForLiteral Unasked (Argument f.before.now) f.literal.size) now _ (awaiting_argument f.before.now f.literal) (g.O.Outlet.said c.args.out.now) (g.O.Outlet.said c.args.out.now)
    (argument_comes f.before.now f.literal c.requires.comes c.requires.size) (sym (append-nil (g.O.Outlet.said c.args.out.now)))
    (c.begin_literal.ensures.begun ∙ begun_again {s = now} Unasked (Argument c.in-Ok-kept.line.items) (Argument f.before.now) f.literal.size c.in-Ok.tag f.tag.now (Some c.in-Ok-kept.text.items)
    (ap (λ (l : List ℕ). Argument l) c.in-Ok-kept.ensures.line) c.in-Ok.ensures.ok (ap (λ (t : List ℕ). Some t) c.in-Ok-kept.ensures.empty) refl))

pub returns-in-Err-clause-leads : goal.returns-in-Err-clause-leads
returns-in-Err-clause-leads g c =
    let f = c.args.found in
    let now = c.args.self.now in
    rw c.begin_literal-in-Err.ensures.waits (leads_dropping_argument f.tag.now f.before.now f.literal.size now _ (awaiting_argument f.before.now f.literal) (g.O.Outlet.said c.args.out.now) (g.O.Outlet.said c.args.out.now)
    (argument_comes f.before.now f.literal c.requires.comes c.requires.size) refl
    (c.begin_literal-in-Err.ensures.begun ∙ begun_again {s = now} Dropped (Argument c.new-in-Err.result.items) (Argument []) f.literal.size c.in-Ok.tag f.tag.now None (ap (λ (l : List ℕ). Argument l) c.new-in-Err.ensures.items) c.in-Ok.ensures.ok refl refl))
