use Rattle.std.proofs.Common.{◌∙◌, ap, subst, sym, IfOk}
use Rattle.std.specs.Option.{option_map}
use Rattle.imap_session.specs.contracts.session.Session.{the_view}
use Rattle.imap_session.specs.Exchange.{Standing}
use Rattle.imap_session.specs.Store.{Answers}
use Rattle.imap_session.specs.inner.Seen.{pending_of}
use Rattle.imap_session.proofs.Lines.{put_back, taken_again}
use Rattle.imap_session.proofs.session.Session.line.Goals as goal

pub returns-in-Some-clause-answered : goal.returns-in-Some-clause-answered
returns-in-Some-clause-answered g c =
    let same = ap the_view c.self-inside.view_is ∙ c.self.view_is in
    let is = sym (ap (λ (s : Standing). s.mailing.begun) same) ∙ ap (option_map pending_of) (sym c.take.ensures.value ∙ c.in-Some.is) in
    let e = taken_again c.take.new.self same c.take.ensures.after in
    let P : Standing → Type 0 = λ m. IfOk c.rest_line.result (λ after. Answers g.S.Store.step m c.args.line.now c.args.store.now c.rest_line.new.store (g.O.Outlet.said c.args.out.now) (g.O.Outlet.said c.rest_line.new.out) after c.rest_line.new.self) in
    subst P (put_back c.args.self.now _ (pending_of c.in-Some.begun) e is) c.rest_line.ensures.answered
