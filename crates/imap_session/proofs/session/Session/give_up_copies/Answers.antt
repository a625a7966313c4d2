use Rattle.imap_session.specs.Commands.{says, taking_back}
use Rattle.imap_session.specs.Texts.{response_text}
use Rattle.imap_session.proofs.Copies.{plays_done}
use Rattle.imap_session.proofs.session.Session.give_up_copies.Goals as goal

pub returns-clause-plays : goal.returns-clause-plays
returns-clause-plays g c =
    let x = taking_back c.args.mailbox c.args.copies.now (says (response_text c.args.text)) in
    let response = c.new-response.result in
    rw c.new-response.ensures at (plays_done g.S.Store.step c.args.self.now x c.args.store.now c.take_back-done.new.store response response (g.O.Outlet.said c.conclude-after.new.out) c.take_back-done.result c.conclude-after.result
    (c.take_back-done.ensures response) c.conclude-after.ensures.text c.conclude-after.ensures.after)
