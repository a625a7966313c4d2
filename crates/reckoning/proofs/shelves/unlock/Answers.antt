use Rattle.std.proofs.Common.{◌∙◌, ap, sym}
use Rattle.shared_history.specs.Pages.{part}
use Rattle.house_history.specs.Events.{concerns}
use Rattle.locked_mailbox.specs.Locking.{LockedMailbox}
use Rattle.reckoning.proofs.shelves.unlock.Goals as goal

pub returns-clause-taught : goal.returns-clause-taught
returns-clause-taught g c =
    let same = c.teach.ensures.same in
    record {
      own = ap (λ (l : LockedMailbox). part concerns l.mailbox.number c.teach.new.self.history) same ∙ (c.teach.ensures.own ∙ sym (ap (λ (l : LockedMailbox). l.events) same));
      known = c.teach.ensures.mine;
    }
