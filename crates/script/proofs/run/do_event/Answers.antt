use Rattle.std.proofs.Common.{◌∙◌, ◌++◌, ℕ, List, ap, sym, subst}
use Rattle.std.specs.Prelude.{codes}
use Rattle.std.proofs.lemmas.Result.{on_ok_weaker}
use Rattle.house.specs.House.{House}
use Rattle.script.specs.Promise.{refusal}
use Rattle.script.specs.inner.Running.{LineDone, line_for}
use Rattle.script.proofs.EventLaws.{event_begun, event_busy, event_done, event_nobody}
use Rattle.script.proofs.RunLaws.{busy_not_wanting, is_busy, is_nobody, not_wanting, step_failed}
use Rattle.script.proofs.run.do_event.Goals as goal

pub returns-in-Ok-clause-done : goal.returns-in-Ok-clause-done
returns-in-Ok-clause-done c k s st =
    event_done k c.args.number s c.args.event c.step.new.self c.args.out.now.items c.step.new.out.items c.requires.asked (c.in-Ok.ensures.follows k s st)

pub returns-in-Err-Nobody-clause-done : goal.returns-in-Err-Nobody-clause-done
returns-in-Err-Nobody-clause-done c =
    let e = c.in-Err-Nobody.ensures in
    let same = e.refused (not_wanting c.in-Err-Nobody.field-0 c.in-Err-Nobody.field-0-is) in
    on_ok_weaker c.refuse.result
    (λ printed k s st. subst (λ (h : House). LineDone k c.args.number (line_for c.args.event) s h c.args.out.now.items c.refuse.new.out.items) (sym same.0)
    (event_nobody k c.args.number s c.args.event c.args.house.now c.args.out.now.items c.refuse.new.out.items c.requires.asked st
    (e.nobody.0 (is_nobody c.in-Err-Nobody.field-0 c.in-Err-Nobody.field-0-is))
    (printed ∙ ap (λ (x : List ℕ). x ++ refusal c.args.number (codes "Nobody")) same.1)))
    c.refuse.ensures.ok

pub returns-in-Err-Busy-clause-done : goal.returns-in-Err-Busy-clause-done
returns-in-Err-Busy-clause-done c =
    let e = c.in-Err-Busy.ensures in
    let same = e.refused (busy_not_wanting c.in-Err-Busy.field-0 c.in-Err-Busy.field-0-is) in
    on_ok_weaker c.refuse-in-Err-Busy.result
    (λ printed k s st. subst (λ (h : House). LineDone k c.args.number (line_for c.args.event) s h c.args.out.now.items c.refuse-in-Err-Busy.new.out.items) (sym same.0)
    (event_busy k c.args.number s c.args.event c.args.house.now c.args.out.now.items c.refuse-in-Err-Busy.new.out.items c.requires.asked st
    (e.busy.0 (is_busy c.in-Err-Busy.field-0 c.in-Err-Busy.field-0-is))
    (printed ∙ ap (λ (x : List ℕ). x ++ refusal c.args.number (codes "Busy")) same.1)))
    c.refuse-in-Err-Busy.ensures.ok

pub returns-in-Err-NoMemory-clause-wanting : goal.returns-in-Err-NoMemory-clause-wanting
returns-in-Err-NoMemory-clause-wanting c k s st =
    step_failed k (line_for c.args.event) c.args.event s c.args.house.now c.step.new.self c.args.out.now.items c.step.new.out.items c.in-Err-NoMemory.field-0
    (λ t printed plays. event_begun k s t c.args.event printed c.requires.asked plays)
    c.in-Err-NoMemory.ensures.no_memory c.in-Err-NoMemory.ensures.refused st
