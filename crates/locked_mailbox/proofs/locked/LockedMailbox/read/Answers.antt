use Rattle.std.proofs.Common.{◌∷◌, [], List, IfSome, subst}
use Rattle.house_history.specs.declared.event.Event.{Event}
use Rattle.house_history.specs.declared.event.Event.TheVariants as events
use Rattle.house_history.specs.declared.event.Step.TheVariants as steps
use Rattle.house_history.specs.Legal.{HasText}
use Rattle.mailbox.specs.declared.clients.Row.{Row}
use Rattle.locked_mailbox.specs.Locking.{LockedMailbox, Knows}
use Rattle.locked_mailbox.proofs.Keeping.{read_keeps, read_text, changed_own, changed_keeps, changed_knows, held, looked_knows, no_event, same_keeps}
use Rattle.locked_mailbox.proofs.locked.LockedMailbox.read.Goals as goal

pub returns-in_err-row-clause-history : goal.returns-in_err-row-clause-history
returns-in_err-row-clause-history g c = let s = c.self.inside in let left = c.read.new.mailbox in
    let to = held left c.look.new.self.events s.last.items s.front in
    subst (λ (said : List Event). Knows c.args.self.now to said c.args.front.now c.look.new.front) (no_event c.from_residual.result c.from_residual.ensures.0 (events.Changed c.args.self.now.mailbox.number (steps.Read c.args.uid c.args.mark_seen)))
    (subst (λ (h : LockedMailbox). Knows h to [] c.args.front.now c.look.new.front) c.self.view_is
    (looked_knows s.mailbox left s.part c.look.new.self s.last.items s.front c.args.front.now c.look.new.front c.look.ensures.same c.self.invariant
    (same_keeps s.mailbox left s.part.number s.part.events s.last.items c.self.invariant c.in_err-row.ensures.same) c.look.ensures.seen))

pub invariant_of-self-2 : goal.invariant_of-self-2
invariant_of-self-2 g c = let s = c.self.inside in let left = c.read.new.mailbox in
    changed_keeps left s.part c.look.new.self c.read-2.new.self s.last.items (steps.Read c.args.uid c.args.mark_seen) c.look.ensures.same c.read-2.ensures.part
    (read_keeps s.mailbox left s.part.number s.part.events s.last.items c.args.handle.now c.args.uid c.args.mark_seen c.in_ok-row.row c.in_ok-row.ensures c.self.invariant)

pub returns-clause-history : goal.returns-clause-history
returns-clause-history g c = let s = c.self.inside in let left = c.read.new.mailbox in let after = c.read-2.new.front in
    subst (λ (h : LockedMailbox). Knows h (held left c.read-2.new.self.events s.last.items s.front) (events.Changed h.mailbox.number (steps.Read c.args.uid c.args.mark_seen) ∷ []) c.args.front.now after) c.self.view_is
    (changed_knows s.mailbox left s.part c.look.new.self c.read-2.new.self s.last.items (steps.Read c.args.uid c.args.mark_seen) s.front c.args.front.now c.look.new.front after c.look.ensures.same c.read-2.ensures.part c.self.invariant
    (read_keeps s.mailbox left s.part.number s.part.events s.last.items c.args.handle.now c.args.uid c.args.mark_seen c.in_ok-row.row c.in_ok-row.ensures c.self.invariant) c.look.ensures.seen c.read-2.ensures.seen c.read-2.ensures.all)

pub returns-clause-text : goal.returns-clause-text
returns-clause-text g c = let s = c.self.inside in let left = c.read.new.mailbox in let after = c.read-2.new.front in
    subst (λ (h : LockedMailbox). IfSome c.in_ok-row.row (λ (r : Row). HasText after h.mailbox.number r.uid r.text)) c.self.view_is
    (read_text s.mailbox left s.part.number s.part.events s.last.items c.args.handle.now c.args.uid c.args.mark_seen c.in_ok-row.row after c.in_ok-row.ensures c.self.invariant
    (read_keeps s.mailbox left s.part.number s.part.events s.last.items c.args.handle.now c.args.uid c.args.mark_seen c.in_ok-row.row c.in_ok-row.ensures c.self.invariant)
    (changed_own s.part c.look.new.self c.read-2.new.self (steps.Read c.args.uid c.args.mark_seen) after c.look.ensures.same c.read-2.ensures.part c.read-2.ensures.all))
