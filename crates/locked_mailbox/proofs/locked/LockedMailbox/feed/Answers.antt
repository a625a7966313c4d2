use Rattle.std.proofs.Common.{[], List, subst, ◌≡◌, ◌++◌, IfOk}
use mathlib.Core.List.{IsPrefix}
use Rattle.change_ring.specs.Log.{view_at}
use Rattle.cursor_set.specs.Lines.{lines}
use Rattle.mailbox.specs.Mailbox.{next_of}
use Rattle.house_history.specs.declared.event.Event.{Event}
use Rattle.house_history.specs.Events.{changes_in}
use Rattle.locked_mailbox.specs.Locking.{LockedMailbox, Knows}
use Rattle.locked_mailbox.proofs.Showing.{fed_in}
use Rattle.locked_mailbox.proofs.Keeping.{feed_keeps, held, looked_keeps, looked_knows}
use Rattle.locked_mailbox.proofs.locked.LockedMailbox.feed.Goals as goal

pub invariant_of-self : goal.invariant_of-self
invariant_of-self g c = let s = c.self.inside in let left = c.feed.new.mailbox in
    looked_keeps left s.part c.look.new.self s.last.items c.look.ensures.same
    (feed_keeps s.mailbox left s.part.number s.part.events s.last.items c.args.handle.now c.feed.new.handle c.args.limit c.args.out.now.items c.feed.new.out.items c.feed.result c.feed.ensures.event c.self.invariant)

pub returns-clause-history : goal.returns-clause-history
returns-clause-history g c = let s = c.self.inside in let left = c.feed.new.mailbox in let after = c.look.new.front in
    subst (λ (h : LockedMailbox). Knows h (held left c.look.new.self.events s.last.items s.front) [] c.args.front.now after) c.self.view_is
    (looked_knows s.mailbox left s.part c.look.new.self s.last.items s.front c.args.front.now after c.look.ensures.same c.self.invariant
    (feed_keeps s.mailbox left s.part.number s.part.events s.last.items c.args.handle.now c.feed.new.handle c.args.limit c.args.out.now.items c.feed.new.out.items c.feed.result c.feed.ensures.event c.self.invariant) c.look.ensures.seen)

pub returns-clause-shown : goal.returns-clause-shown
returns-clause-shown g c = let s = c.self.inside in let at = c.args.handle.now.at in let after = c.look.new.front in let old = c.args.out.now.items in let new = c.feed.new.out.items in
    subst (λ (m : LockedMailbox). IfOk c.feed.result (λ n. (h : List Event) → IsPrefix after h → new ≡ old ++ lines (view_at (changes_in m.mailbox.number h) at) (next_of (changes_in m.mailbox.number h) at n))) c.self.view_is
    (fed_in s.mailbox c.feed.new.mailbox s.part.number s.part.events s.last.items after c.args.handle.now c.feed.new.handle c.args.limit old new c.feed.result c.feed.ensures.event c.self.invariant c.look.ensures.seen.2)
