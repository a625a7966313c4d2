use Rattle.std.proofs.Common.{[], subst}
use Rattle.locked_mailbox.specs.Locking.{LockedMailbox, Knows}
use Rattle.locked_mailbox.proofs.Keeping.{enter_keeps, held, looked_keeps, looked_knows}
use Rattle.locked_mailbox.proofs.locked.LockedMailbox.enter.Goals as goal

pub invariant_of-self : goal.invariant_of-self
invariant_of-self g c = let s = c.self.inside in let left = c.enter.new.mailbox in
    looked_keeps left s.part c.look.new.self s.last.items c.look.ensures.same (enter_keeps s.mailbox left s.part.number s.part.events s.last.items c.enter.result c.enter.ensures c.self.invariant)

pub returns-clause-history : goal.returns-clause-history
returns-clause-history g c = let s = c.self.inside in let left = c.enter.new.mailbox in let after = c.look.new.front in
    subst (λ (h : LockedMailbox). Knows h (held left c.look.new.self.events s.last.items s.front) [] c.args.front.now after) c.self.view_is
    (looked_knows s.mailbox left s.part c.look.new.self s.last.items s.front c.args.front.now after c.look.ensures.same c.self.invariant
    (enter_keeps s.mailbox left s.part.number s.part.events s.last.items c.enter.result c.enter.ensures c.self.invariant) c.look.ensures.seen)
