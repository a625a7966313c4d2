use Rattle.std.proofs.Common.{◌∷◌, [], List, subst}
use Rattle.house_history.specs.declared.event.Event.{Event}
use Rattle.house_history.specs.declared.event.Event.TheVariants as events
use Rattle.house_history.specs.declared.event.Step.TheVariants as steps
use Rattle.locked_mailbox.specs.Locking.{LockedMailbox, Knows}
use Rattle.std.specs.Option.{option_copied}
use Rattle.locked_mailbox.proofs.Keeping.{expunge_keeps, changed_keeps, changed_knows, held, looked_knows, no_event, same_keeps}
use Rattle.locked_mailbox.proofs.locked.LockedMailbox.expunge.Goals as goal

pub returns-in_err-gone-clause-history : goal.returns-in_err-gone-clause-history
returns-in_err-gone-clause-history g c = let s = c.self.inside in let left = c.expunge.new.mailbox in
    let to = held left c.look.new.self.events s.last.items s.front in
    subst (λ (said : List Event). Knows c.args.self.now to said c.args.front.now c.look.new.front) (no_event c.from_residual.result c.from_residual.ensures.0 (events.Changed c.args.self.now.mailbox.number (steps.Expunge (option_copied c.args.uids))))
    (subst (λ (h : LockedMailbox). Knows h to [] c.args.front.now c.look.new.front) c.self.view_is
    (looked_knows s.mailbox left s.part c.look.new.self s.last.items s.front c.args.front.now c.look.new.front c.look.ensures.same c.self.invariant
    (same_keeps s.mailbox left s.part.number s.part.events s.last.items c.self.invariant c.in_err-gone.ensures.event.refused.same) c.look.ensures.seen))

pub invariant_of-self-2 : goal.invariant_of-self-2
invariant_of-self-2 g c = let s = c.self.inside in let left = c.expunge.new.mailbox in
    changed_keeps left s.part c.look.new.self c.expunge-2.new.self s.last.items (steps.Expunge (option_copied c.args.uids)) c.look.ensures.same c.expunge-2.ensures.part
    (expunge_keeps s.mailbox left s.part.number s.part.events s.last.items c.args.handle.now c.expunge.new.handle (option_copied c.args.uids) c.args.out.now.items c.expunge.new.out.items c.in_ok-gone.gone c.in_ok-gone.ensures.event c.self.invariant)

pub returns-clause-history : goal.returns-clause-history
returns-clause-history g c = let s = c.self.inside in let left = c.expunge.new.mailbox in let after = c.expunge-2.new.front in
    subst (λ (h : LockedMailbox). Knows h (held left c.expunge-2.new.self.events s.last.items s.front) (events.Changed h.mailbox.number (steps.Expunge (option_copied c.args.uids)) ∷ []) c.args.front.now after) c.self.view_is
    (changed_knows s.mailbox left s.part c.look.new.self c.expunge-2.new.self s.last.items (steps.Expunge (option_copied c.args.uids)) s.front c.args.front.now c.look.new.front after c.look.ensures.same c.expunge-2.ensures.part c.self.invariant
    (expunge_keeps s.mailbox left s.part.number s.part.events s.last.items c.args.handle.now c.expunge.new.handle (option_copied c.args.uids) c.args.out.now.items c.expunge.new.out.items c.in_ok-gone.gone c.in_ok-gone.ensures.event c.self.invariant) c.look.ensures.seen c.expunge-2.ensures.seen c.expunge-2.ensures.all)
