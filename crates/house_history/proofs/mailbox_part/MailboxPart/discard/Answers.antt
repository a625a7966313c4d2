use Rattle.std.proofs.Common.{List, subst}
use mathlib.Core.List.{IsPrefix}
use Rattle.house_history.specs.declared.event.Event.{Event}
use Rattle.house_history.specs.declared.event.Event.TheVariants as events
use Rattle.house_history.specs.declared.event.Step.TheVariants as steps
use Rattle.house_history.proofs.Follow.{added_behind, change_concerns, change_follows}
use Rattle.house_history.proofs.mailbox_part.MailboxPart.discard.Goals as goal

pub add-requires-clause-concerns : goal.add-requires-clause-concerns
add-requires-clause-concerns g c = change_concerns c.self.inside.owner.key c.self.inside.number (steps.Discard c.args.uids.now) c.self.invariant.1

pub add-requires-clause-may_follow : goal.add-requires-clause-may_follow
add-requires-clause-may_follow g c =
    change_follows c.self.inside.owner.key c.self.inside.number c.front.inside.seen.log c.self.inside.owner.own (steps.Discard c.args.uids.now) c.self.invariant.1

pub returns-clause-seen : goal.returns-clause-seen
returns-clause-seen g c = let e : Event = events.Changed c.self.inside.number (steps.Discard c.args.uids.now) in
    (subst (λ (l : List Event). IsPrefix l c.add.new.seen.log) c.front.view_is (added_behind c.front.inside.seen.log c.add.new.seen.log e c.add.ensures.seen.1), c.add.ensures.seen.2)
