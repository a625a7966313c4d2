use Rattle.std.proofs.Common.{◌≡◌, ◌∙◌, subst, sym}
use mathlib.Core.List.{IsPrefix}
use Rattle.shared_history.specs.Pages.{part}
use Rattle.house_history.specs.Events.{concerns}
use Rattle.locked_mailbox.specs.Locking.{LockedMailbox}
use Rattle.locked_mailbox.proofs.Known.{part_between}
use Rattle.locked_mailbox.proofs.locked.LockedMailbox.has_all.Goals as goal

pub returns-clause-own : goal.returns-clause-own
returns-clause-own g c =
    let s = c.self.inside in
    let m = s.part.number in
    let front = c.args.front.now in
    let later = c.look.new.front in
    let beyond : IsPrefix front later = subst (λ f. IsPrefix f later) c.again-later.ensures c.look.ensures.seen.0 in
    let here : part concerns m s.front ≡ s.part.events → IsPrefix s.front front → part concerns m front ≡ s.part.events =
    λ all known. part_between m s.front front later known beyond (c.look.ensures.seen.2 ∙ sym all) ∙ all in
    subst (λ (l : LockedMailbox). part concerns l.mailbox.number l.history ≡ l.events → IsPrefix l.history front → part concerns l.mailbox.number front ≡ l.events) c.self.view_is
    (subst (λ n. part concerns n s.front ≡ s.part.events → IsPrefix s.front front → part concerns n front ≡ s.part.events) c.self.invariant.here here)
