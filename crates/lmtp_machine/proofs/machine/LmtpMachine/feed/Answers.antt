use Rattle.std.proofs.Common.{ap, sym, ◌∙◌}
use Rattle.lmtp_machine.specs.LmtpMachine.{LmtpMachine}
use Rattle.lmtp_machine.proofs.Follow.{ended_follows}
use Rattle.lmtp_machine.proofs.machine.LmtpMachine.feed.Goals as goal

pub returns-in-Ended-clause-ok : goal.returns-in-Ended-clause-ok
returns-in-Ended-clause-ok c c' s =
    ended_follows c.args.self.now c.args.directory.now c' c.args.piece.now c.args.out.now.items
    (ap (λ (m : LmtpMachine). m.commands.stage) (sym c.self.view_is) ∙ sym c.in-Ended.ensures) s c.requires
