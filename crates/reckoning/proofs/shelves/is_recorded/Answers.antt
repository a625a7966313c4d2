use Rattle.std.proofs.Common.{rules, ◌≡◌, ◌∙◌, subst, sym}
use Rattle.shared_history.specs.Pages.{part}
use Rattle.house_history.specs.Events.{concerns}
use Rattle.locked_mailbox.specs.Locking.{Keeps, LockedMailbox}
use Rattle.reckoning.specs.Shelves.{IsRecorded}
use Rattle.reckoning.proofs.shelves.is_recorded.Goals as goal

pub returns-clause-recorded : goal.returns-clause-recorded
returns-clause-recorded g c is =
    let was = c.args.locked.now in
    let front = c.args.front.now in
    let same : c.has_all.new.self ≡ was = c.has_all.ensures.same in
    let here : was.mailbox.number ≡ c.args.number = search rules in
    let kept : Keeps was.mailbox was.mailbox.number was.events was.last = subst (λ (l : LockedMailbox). Keeps l.mailbox l.mailbox.number l.events l.last) same c.is_kept.ensures in
    record {
      here = here;
      own = subst (λ n. part concerns n front ≡ was.events) here (c.has_all.ensures.own c.requires.taught.own c.requires.taught.known);
      kept = subst (λ n. Keeps was.mailbox n was.events was.last) here kept;
    }
