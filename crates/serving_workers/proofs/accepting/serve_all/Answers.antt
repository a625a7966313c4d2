use Rattle.std.proofs.Common.{rules, ◌+◌, ◌∙◌, map, subst, sym}
use Rattle.shard_queue.specs.Reply.{received}
use Rattle.lane_work.specs.Permits.{AreInForce, put_by}
use Rattle.lane_work.specs.Speaking.{premises_of}
use Rattle.serving_workers.specs.Leaving.{AreServed}
use Rattle.serving_workers.proofs.accepting.serve_all.Goals as goal

pub loop-serial-preserved : goal.loop-serial-preserved
loop-serial-preserved g c =
    let v = c.loop-serial.invariant in
    let intake = c.args.context.now.intake.now in
    let house = premises_of intake in
    let line = g.L.Line.told c.loop-serial.line in
    let next = g.L.Line.told c.attend_next.new.line in
    let was = c.loop-serial.producer.desk in
    let now = c.attend_next.new.producer.desk in (
      subst (λ n. AreInForce intake.directory intake.lanes.items n now.permits.items) v.2 c.attend_next.ensures.permits,
      c.attend_next.ensures.receiver,
      c.attend_next.ensures.number ∙ v.2,
      search rules,
      λ begun.
          let before = subst (λ n. AreServed house n line c.loop-serial.serial (received was.receiver) (map put_by was.permits.items)) (sym v.2) (v.4 begun) in
          subst (λ n. AreServed house n next (c.loop-serial.serial + 1) (received now.receiver) (map put_by now.permits.items)) v.2 (c.attend_next.ensures.mail (search rules) before),
      λ seat was. c.attend_next.ensures.backed seat (v.5 seat was),
    )

pub returns-clause-mail : goal.returns-clause-mail
returns-clause-mail g c is begun = (c.loop-serial.serial, c.loop-serial.invariant.4 begun)

pub returns-in_default-clause-backed : goal.returns-in_default-clause-backed
returns-in_default-clause-backed g c seat was = c.attend_next.ensures.backed seat (c.loop-serial.invariant.5 seat was)

pub returns-then-torn-clause-backed : goal.returns-then-torn-clause-backed
returns-then-torn-clause-backed g c seat was = c.attend_next.ensures.backed seat (c.loop-serial.invariant.5 seat was)
