use Rattle.std.proofs.Common.{ap, sym, ◌∙◌}
use Rattle.mailbox.specs.Mailbox.{Mailbox}
use Rattle.session_thread.proofs.Shown.{discards_there}
use Rattle.session_thread.proofs.locked.discard_at.Goals as goal

pub returns-clause-event : goal.returns-clause-event
returns-clause-event g c =
    let here = sym (c.number.ensures ∙ ap (λ (m : Mailbox). m.number) c.mailbox.ensures) ∙ c.if-number.false in
    discards_there c.args.number c.args.uids.now c.args.locked.now.mailbox c.discard.new.self.mailbox c.discard.result here c.discard.ensures.event
