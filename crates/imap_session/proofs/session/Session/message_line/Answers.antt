use Rattle.std.proofs.Common.{◌++◌, ◌∙◌, ◌==◌, ap, length, subst, sym, Bool, List, ℕ}
use Rattle.imap_session.specs.declared.standing.After.TheVariants.{Go, Submit}
use Rattle.imap_session.specs.Exchange.{tagged}
use Rattle.imap_session.specs.Commands.{on_rest}
use Rattle.imap_session.specs.Texts.{response_text}
use Rattle.imap_session.specs.inner.Appends.{Leads}
use Rattle.imap_session.specs.inner.Seen.{pending_of}
use Rattle.imap_session.proofs.session.Session.message_line.Goals as goal

pub returns-in-Ok-clause-leads : goal.returns-in-Ok-clause-leads
returns-in-Ok-clause-leads g c =
    let now = c.args.self.now in
    let P : Bool → Type 0 = λ b. Leads c.args.begun.tag now (on_rest now.mailing (pending_of c.args.begun) b) (g.O.Outlet.said c.args.out.now) (g.O.Outlet.said c.args.out.now) Submit c.submit.new.self in
    subst P c.is_empty.ensures (c.in-Ok.ensures.sent (g.O.Outlet.said c.args.out.now))

pub returns-in-Err-clause-leads : goal.returns-in-Err-clause-leads
returns-in-Err-clause-leads g c =
    let now = c.args.self.now in
    let R = (g.O.Outlet.said c.args.out.now) in
    let P : Bool → List ℕ → Type 0 = λ b text. Leads c.args.begun.tag now (on_rest now.mailing (pending_of c.args.begun) b) R text Go c.submit.new.self in
    let own = ap (λ (t : List ℕ). R ++ tagged t (response_text c.in-Err.text)) c.as_slice.ensures in
    subst (P (length c.args.rest.now == 0)) (sym (c.put_last.ensures.text ∙ own)) (subst (λ (b : Bool). P b (R ++ tagged c.in-Err.tag (response_text c.in-Err.text))) c.is_empty.ensures (c.in-Err.ensures.refused R))
