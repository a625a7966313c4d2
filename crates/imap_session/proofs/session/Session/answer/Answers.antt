use Rattle.std.proofs.Common.{◌∙◌}
use Rattle.imap_session.proofs.Lots.{moves_lot}
use Rattle.imap_session.proofs.Ending.{plays_command}
use Rattle.imap_session.proofs.session.Session.answer.Goals as goal

pub returns-clause-plays : goal.returns-clause-plays
returns-clause-plays g c =
    plays_command g.S.Store.step c.args.self.now _ _ _ _ _ _ _ c.self.inside.mailing c.args.command.now _ _ _ _ _ c.carry_out-done.result c.after_command.result c.conclude-after.result
    c.self.view_is c.requires.going c.requires.awake (rw c.deref.ensures.value at (c.carry_out-done.ensures c.self.inside.login c.self.inside.mailing)) c.after_command.ensures c.conclude-after.ensures.text c.conclude-after.ensures.after

pub returns-clause-lot : goal.returns-clause-lot
returns-clause-lot g c =
    let d = c.carry_out-done in
    c.conclude-after.ensures.lot
    ∙ moves_lot g.S.Store.step c.self.inside.selected d.new.selected _ _ c.args.store.now d.new.store c.args.response d.new.response d.result (d.ensures c.self.inside.login c.self.inside.mailing)
