use Rattle.std.proofs.Common.{◌∙◌, ap, sym, None}
use Rattle.imap_session.specs.Exchange.{Standing}
use Rattle.imap_session.specs.inner.Seen.{pending_of}
use Rattle.imap_session.proofs.Lines.{message_rest, part_rest}
use Rattle.imap_session.proofs.session.Session.rest_line.Goals as goal

pub returns-then-is_message-clause-answered : goal.returns-then-is_message-clause-answered
returns-then-is_message-clause-answered g c =
    message_rest g.S.Store.step c.args.self.now _ c.message_line.new.self (pending_of c.args.begun) c.args.line.now c.args.store.now (g.O.Outlet.said c.args.out.now) (g.O.Outlet.said c.hold.new.self) (g.O.Outlet.said c.message_line.new.out) c.message_line.result
    c.requires.alone (sym c.is_message.ensures ∙ c.if-is_message.true) (ap (λ (s : Standing). record s { idling = None }) c.self.view_is) c.hold.ensures.said c.message_line.ensures.leads

pub returns-clause-answered : goal.returns-clause-answered
returns-clause-answered g c =
    part_rest g.S.Store.step c.args.self.now _ c.part_line.new.self (pending_of c.args.begun) c.args.line.now c.args.store.now c.part_line.new.store (g.O.Outlet.said c.args.out.now) (g.O.Outlet.said c.hold.new.self) (g.O.Outlet.said c.part_line.new.out) c.part_line.result
    c.requires.alone (sym c.is_message.ensures ∙ c.if-is_message.false) (ap (λ (s : Standing). record s { idling = None }) c.self.view_is) c.hold.ensures.said c.part_line.ensures.answered
