use Rattle.std.proofs.Common.{ap, rules, Err}
use Rattle.house.specs.declared.event.Event.TheVariants.{Idle}
use Rattle.house.proofs.IdleSettling.{turn_again, turns_done, turns_want}
use Rattle.house.proofs.Settlement.{left_nothing, nobody_nothing}
use Rattle.house.proofs.house.House.idle_out.Goals as goal

pub loop-preserved : goal.loop-preserved
loop-preserved c = turn_again c.args.session c.args.self.now c.args.out.now.items c.loop.self c.loop.out.items c.step.new.self c.step.new.out.items c.loop.invariant c.in-Ok.ensures.follows

pub returns-in-Err-NoMemory-clause-err : goal.returns-in-Err-NoMemory-clause-err
returns-in-Err-NoMemory-clause-err c =
    turns_want c.args.session c.args.self.now c.args.out.now.items c.loop.self c.loop.out.items c.step.new.self c.step.new.out.items c.loop.invariant (c.in-Err-NoMemory.ensures.no_memory (ap (λ x. Err x) c.in-Err-NoMemory.field-0-is))

pub returns-in-Err-Nobody-clause-ok : goal.returns-in-Err-Nobody-clause-ok
returns-in-Err-Nobody-clause-ok c =
    turns_done c.args.session c.args.self.now c.args.out.now.items c.loop.self c.loop.out.items c.step.new.self c.step.new.out.items c.loop.invariant (search rules) (search rules)
    (λ k s q st. nobody_nothing k c.loop.self s (Idle c.args.session) q st (c.in-Err-Nobody.ensures.nobody.0 (ap (λ x. Err x) c.in-Err-Nobody.field-0-is)))

pub returns-in-Err-Nothing-clause-ok : goal.returns-in-Err-Nothing-clause-ok
returns-in-Err-Nothing-clause-ok c =
    turns_done c.args.session c.args.self.now c.args.out.now.items c.loop.self c.loop.out.items c.step.new.self c.step.new.out.items c.loop.invariant (search rules) (search rules)
    (λ k s q st. c.in-Err-Nothing.ensures.changes_nothing (ap (λ x. Err x) c.in-Err-Nothing.field-0-is) k s st)

pub returns-in-Err-Busy-clause-ok : goal.returns-in-Err-Busy-clause-ok
returns-in-Err-Busy-clause-ok c =
    turns_done c.args.session c.args.self.now c.args.out.now.items c.loop.self c.loop.out.items c.step.new.self c.step.new.out.items c.loop.invariant (search rules) (search rules)
    (λ k s q st. left_nothing k c.loop.self s c.args.session st (c.in-Err-Busy.ensures.busy.0 (ap (λ x. Err x) c.in-Err-Busy.field-0-is)))
