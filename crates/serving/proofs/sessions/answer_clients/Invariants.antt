use Rattle.std.proofs.Common.{◌≡◌, false, map}
use Rattle.shard_queue.specs.Reply.{received}
use Rattle.lane_work.specs.Couriers.{IsReady, IsSameDesk}
use Rattle.lane_work.specs.Permits.{put_by}
use Rattle.lane_work.specs.Speaking.{premises_of}
use Rattle.serving_workers.specs.Leaving.{AreAttended}
use Rattle.serving.proofs.sessions.answer_clients.Given as goal

abbrev pub invariant-loop-serial : goal.invariant-loop-serial
invariant-loop-serial g l =
    IsReady l.courier.context.intake.now l.courier.context.channel.now l.courier.desk
    × IsSameDesk l.fn.courier.context.intake.now l.courier.context.intake.now l.fn.courier.context.channel.now l.courier.context.channel.now l.fn.courier.desk l.courier.desk
    × (l.courier.is_torn ≡ false
    → AreAttended (premises_of l.fn.courier.context.intake.now) l.fn.courier.desk.number 0 (received l.fn.courier.desk.receiver) (map put_by l.fn.courier.desk.permits.items)
    → AreAttended (premises_of l.fn.courier.context.intake.now) l.fn.courier.desk.number l.serial (received l.courier.desk.receiver) (map put_by l.courier.desk.permits.items))
