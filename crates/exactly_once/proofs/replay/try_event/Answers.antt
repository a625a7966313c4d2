use Rattle.std.proofs.Common.{ap, inl, inr, Err}
use Rattle.house.specs.declared.event.HouseFault.TheVariants as faults
use Rattle.exactly_once.proofs.Playing.{busy_wanting, is_fault, is_other, it_happened, it_was_refused, none_wanting, nothing_wanting}
use Rattle.exactly_once.proofs.replay.try_event.Goals as goal

pub returns-in-Ok-clause-tried : goal.returns-in-Ok-clause-tried
returns-in-Ok-clause-tried c k s st = it_happened k s _ _ _ _ _ st c.in-Ok.ensures.follows

pub returns-in-Err-NoMemory-clause-wanting : goal.returns-in-Err-NoMemory-clause-wanting
returns-in-Err-NoMemory-clause-wanting c = c.in-Err-NoMemory.ensures.no_memory (ap (λ x. Err x) c.in-Err-NoMemory.field-0-is)

pub returns-in-Err-Nobody-clause-tried : goal.returns-in-Err-Nobody-clause-tried
returns-in-Err-Nobody-clause-tried c k s st =
    let e = c.in-Err-Nobody.ensures in
    it_was_refused k s _ _ _ _ _ st (inl (e.nobody.0 (is_fault c.in-Err-Nobody.field-0 faults.Nobody c.in-Err-Nobody.field-0-is)))
    (e.refused (is_other c.in-Err-Nobody.field-0 faults.Nobody c.in-Err-Nobody.field-0-is none_wanting))

pub returns-in-Err-Busy-clause-tried : goal.returns-in-Err-Busy-clause-tried
returns-in-Err-Busy-clause-tried c k s st =
    let e = c.in-Err-Busy.ensures in
    it_was_refused k s _ _ _ _ _ st (inr (inl (e.busy.0 (is_fault c.in-Err-Busy.field-0 faults.Busy c.in-Err-Busy.field-0-is))))
    (e.refused (is_other c.in-Err-Busy.field-0 faults.Busy c.in-Err-Busy.field-0-is busy_wanting))

pub returns-in-Err-Nothing-clause-tried : goal.returns-in-Err-Nothing-clause-tried
returns-in-Err-Nothing-clause-tried c k s st =
    let e = c.in-Err-Nothing.ensures in
    it_was_refused k s _ _ _ _ _ st (inr (inr (e.changes_nothing (is_fault c.in-Err-Nothing.field-0 faults.Nothing c.in-Err-Nothing.field-0-is))))
    (e.refused (is_other c.in-Err-Nothing.field-0 faults.Nothing c.in-Err-Nothing.field-0-is nothing_wanting))
