use Rattle.std.proofs.Common.{◌≡◌, ◌∙◌, Err, sym}
use Rattle.imap_grammar.specs.Reading.{read}
use Rattle.imap_session.proofs.Lines.{fault_answered}
use Rattle.imap_session.proofs.session.Session.text_line.Goals as goal

pub returns-in-Err-clause-answered : goal.returns-in-Err-clause-answered
returns-in-Err-clause-answered g c =
    let found : read c.args.line.now ≡ Err c.in-Err.fault = sym c.read_line.ensures.exact ∙ c.in-Err.is in
    fault_answered g.S.Store.step c.args.self.now c.answer_fault.new.self c.args.line.now c.in-Err.fault c.args.store.now (g.O.Outlet.said c.args.out.now) (g.O.Outlet.said c.answer_fault.new.out) c.answer_fault.result found c.answer_fault.ensures.asks c.answer_fault.ensures.told
