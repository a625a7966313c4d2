use Rattle.std.proofs.Common.{◌∙◌, []}
use Rattle.house.specs.declared.event.Event.{Event}
use Rattle.house.specs.declared.event.Event.TheVariants.{Bytes}
use Rattle.house.proofs.Settlement.{came_wanting, each_step, each_wants}
use Rattle.house.proofs.house.House.try_each.Goals as goal

pub returns-in_err-one-clause-came : goal.returns-in_err-one-clause-came
returns-in_err-one-clause-came c =
    let d : Event = Bytes 0 (record { ref_ptr = (0, 0); now = [] }) in
    let i = c.loop-event.event-index in
    came_wanting _ _ _ c.from_residual.result c.from_residual.ensures.0 (each_wants c.args.group.now i d c.args.self.now c.args.out.now.items c.loop-event.self c.loop-event.out.items c.try_event.new.self c.try_event.new.out.items
    c.loop-event.moved c.loop-event-test.true c.loop-event.invariant.1 c.in_err-one.ensures.came)

pub loop-event-preserved : goal.loop-event-preserved
loop-event-preserved c =
    let d : Event = Bytes 0 (record { ref_ptr = (0, 0); now = [] }) in (
      c.in_ok-one.ensures.marks ∙ c.loop-event.invariant.0,
      each_step c.args.group.now c.loop-event.event-index d c.args.self.now c.args.out.now.items c.loop-event.self c.loop-event.out.items c.try_event.new.self c.try_event.new.out.items
          c.loop-event.moved c.in_ok-one.one c.loop-event-test.true c.loop-event.invariant.1 c.in_ok-one.ensures.came,
    )
