use Rattle.std.proofs.Common.{◌∙◌, [], refl, arith}
use Rattle.lane_work.proofs.CarryLaws.{carries_nothing}
use Rattle.serving_workers.proofs.Clients.{one_attended}
use Rattle.serving.proofs.sessions.answer_clients.Goals as goal

pub loop-serial-preserved : goal.loop-serial-preserved
loop-serial-preserved g c =
    let v = c.loop-serial.invariant in
    let at = record c.loop-serial.courier { serial = c.loop-serial.serial } in
    let kept = c.receive.ensures.kept at ((refl, refl, refl, omega arith, λ seat was. was), refl, refl, λ whole. (whole, refl, ([], carries_nothing at.context.intake.now at.serial at.desk))) in
    let same = kept.0 in (
      c.receive.ensures.ready,
      (same.0 ∙ v.1.0, same.1 ∙ v.1.1, same.2 ∙ v.1.2, omega (arith, same.3, v.1.3), λ seat was. same.4 seat (v.1.4 seat was)),
      λ whole begun.
          let now = kept.3 whole in
          one_attended c.args.courier.now.context.intake.now at.context.intake.now c.args.courier.now.desk.number c.loop-serial.serial at.desk c.receive.new.courier.desk now.2.0 v.1.0 v.1.2 now.2.1 (v.2 now.0 begun),
    )

pub returns-clause-clients : goal.returns-clause-clients
returns-clause-clients g c whole begun = (c.loop-serial.serial, c.loop-serial.invariant.2 whole begun)

pub returns-in_default-clause-clients : goal.returns-in_default-clause-clients
returns-in_default-clause-clients g c whole begun = (c.loop-serial.serial, c.loop-serial.invariant.2 whole begun)
