use Rattle.std.proofs.Common.{◌≡◌, ◌<◌, length, map}
use Rattle.shard_queue.specs.Reply.{IsReceiver, received}
use Rattle.lane_work.specs.Permits.{AreInForce, put_by}
use Rattle.lane_work.specs.Backing.{KeepsBacked}
use Rattle.lane_work.specs.Speaking.{premises_of}
use Rattle.serving_workers.specs.Leaving.{AreServed}
use Rattle.serving_workers.proofs.accepting.serve_all.Given as goal

abbrev pub invariant-loop-serial : goal.invariant-loop-serial
invariant-loop-serial g l =
    AreInForce l.context.intake.now.directory l.context.intake.now.lanes.items l.fn.producer.desk.number l.producer.desk.permits.items × IsReceiver l.context.channel.now l.producer.desk.receiver
    × (l.producer.desk.number ≡ l.fn.producer.desk.number) × (0 < length l.buffers.input.items)
    × (AreServed (premises_of l.context.intake.now) l.fn.producer.desk.number (g.L.Line.told l.fn.line) 0 (received l.fn.producer.desk.receiver) (map put_by l.fn.producer.desk.permits.items)
    → AreServed (premises_of l.context.intake.now) l.fn.producer.desk.number (g.L.Line.told l.line) l.serial (received l.producer.desk.receiver) (map put_by l.producer.desk.permits.items))
    × KeepsBacked l.fn.producer.desk l.producer.desk
