use Rattle.std.proofs.Common.{arith}
use Rattle.house.specs.Scene.{empty_scene}
use Rattle.house.proofs.Settlement.{on_err}
use Rattle.exactly_once.proofs.Playing.{all_tried, broke_off, came_in_part, came_once, none_tried, one_more_tried}
use Rattle.exactly_once.proofs.replay.play.Goals as goal

pub loop-event-init : goal.loop-event-init
loop-event-init c k s st = none_tried k s _ _ st

pub loop-event-preserved : goal.loop-event-preserved
loop-event-preserved c k s st =
    let a = c.loop-event.invariant k s st in
    one_more_tried k s _ _ _ _ _ _ _ _ _ c.loop-event-test.true a (c.in_ok-try_event.ensures.tried k a.after a.stands)

pub returns-in_err-try_event-clause-wanting : goal.returns-in_err-try_event-clause-wanting
returns-in_err-try_event-clause-wanting c =
    on_err c.from_residual.result _ λ k s st. broke_off k s _ _ _ _ _ _ _ _ _ c.loop-event-test.true (c.loop-event.invariant k s st) c.in_err-try_event.ensures.wanting

pub returns-in_err-try_event-clause-once : goal.returns-in_err-try_event-clause-once
returns-in_err-try_event-clause-once c k st =
    came_in_part k _ _ _ _ _ (broke_off k (empty_scene k) _ _ _ _ _ _ _ _ _ c.loop-event-test.true (c.loop-event.invariant k (empty_scene k) st) c.in_err-try_event.ensures.wanting)

pub returns-clause-tried : goal.returns-clause-tried
returns-clause-tried c k s st = all_tried k s _ _ _ _ _ _ (let x = c.loop-event-test.false in omega (arith, x)) (c.loop-event.invariant k s st)

pub returns-clause-once : goal.returns-clause-once
returns-clause-once c k st = came_once k _ _ _ _ _ (all_tried k (empty_scene k) _ _ _ _ _ _ (let x = c.loop-event-test.false in omega (arith, x)) (c.loop-event.invariant k (empty_scene k) st))
