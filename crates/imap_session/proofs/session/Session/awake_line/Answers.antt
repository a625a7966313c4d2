use Rattle.std.proofs.Common.{List, ℕ, subst}
use Rattle.imap_session.specs.inner.Lines.{AnswersText}
use Rattle.imap_session.proofs.Lines.{awake_answers}
use Rattle.imap_session.proofs.session.Session.awake_line.Goals as goal

pub returns-clause-answered : goal.returns-clause-answered
returns-clause-answered g c =
    let now = c.args.self.now in
    let P : List ℕ → Type 0 = λ before. AnswersText g.S.Store.step now c.args.line.now c.args.store.now c.text_line.new.store before (g.O.Outlet.said c.text_line.new.out) c.text_line.result c.text_line.new.self in
    awake_answers g.S.Store.step now c.text_line.new.self c.args.line.now c.args.store.now c.text_line.new.store (g.O.Outlet.said c.args.out.now) (g.O.Outlet.said c.text_line.new.out) c.text_line.result c.requires.alone c.requires.awake
    (subst P c.hold.ensures.said c.text_line.ensures.answered)
