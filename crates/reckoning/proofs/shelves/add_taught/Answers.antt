use Rattle.std.proofs.Common.{rules, ◌≡◌, ◌+◌, ◌∙◌, ap, arith, length, subst, sym}
use Rattle.house_shared.specs.Crew.{AllAt}
use Rattle.house_history.specs.Events.{accepted_in}
use Rattle.house_history.proofs.Follow.{accepted_own}
use Rattle.locked_mailbox.specs.Locking.{Keeps, LockedMailbox}
use Rattle.mailbox.specs.Accepted.{kept_of}
use Rattle.mailbox.specs.Mailbox.{Mailbox}
use Rattle.mailbox.specs.declared.history.History.{History}
use Rattle.mailbox.specs.declared.history.History.TheVariants.{Kept}
use Rattle.reckoning.specs.Shelves.{HasAccepted}
use Rattle.reckoning.proofs.Histories.{all_at_push}
use Rattle.reckoning.proofs.shelves.add_taught.Goals as goal

-- what it accepted is what the history says
pub returns-clause-accepted : goal.returns-clause-accepted
returns-clause-accepted g c =
    let front = c.args.front.now in
    let l = c.args.locked in
    let n = l.mailbox.number in
    let mailbox = c.into_mailbox-mailbox.result in
    let same = c.has_all.ensures.same in
    let is : mailbox ≡ l.mailbox = c.into_mailbox-mailbox.ensures ∙ ap (λ (x : LockedMailbox). x.mailbox) same in
    let keeps = subst (λ (x : LockedMailbox). Keeps x.mailbox x.mailbox.number x.events x.last) same c.is_kept.ensures in
    let kept : mailbox.history ≡ Kept = search rules in
    let numbered : mailbox.number ≡ length c.args.shelves.now.accepted.items = search rules in
    let none : length c.args.shelves.now.accepted.items ≡ 0 + length c.args.shelves.now.accepted.items = omega arith in
    let here : n ≡ 0 + length c.args.shelves.now.accepted.items = sym (ap (λ (m : Mailbox). m.number) is) ∙ (numbered ∙ none) in
    let added = c.in_ok-add_to.ensures.added in
    let own : added.0.items ≡ accepted_in n front =
    added.2 ∙ (ap (λ (h : History). kept_of h mailbox.accepted) kept
    ∙ (ap (λ (m : Mailbox). m.accepted) is ∙ (keeps.accepted ∙ sym (accepted_own n front l.events (c.has_all.ensures.own c.requires.taught.own c.requires.taught.known))))) in
    subst (AllAt (HasAccepted front) 0) (sym added.1)
    (all_at_push (HasAccepted front) 0 c.args.shelves.now.accepted.items added.0 c.requires.accepted (subst (λ k. HasAccepted front k added.0) here own))
