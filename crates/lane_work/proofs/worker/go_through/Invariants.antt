use Rattle.std.proofs.Common.{◌≡◌, map, take}
use Rattle.shard_queue.specs.Reply.{IsReceiver, received}
use Rattle.lane_work.specs.Account.{notes_tell}
use Rattle.lane_work.specs.inner.Account.{HasServed}
use Rattle.lane_work.specs.Awaiting.{HearsItsOwn}
use Rattle.lane_work.specs.Backing.{KeepsBacked}
use Rattle.lane_work.specs.Ends.{CountsEnds}
use Rattle.lane_work.specs.Permits.{AreInForce, put_by}
use Rattle.lane_work.specs.inner.Closing.{IsMarkedBefore, closings_at}
use Rattle.lane_work.specs.Speaking.{premises_of}
use Rattle.lane_work.proofs.worker.go_through.Given as goal

abbrev pub invariant-loop-i : goal.invariant-loop-i
invariant-loop-i g l =
    AreInForce l.directory l.context.intake.now.lanes.items l.fn.producer.desk.number l.producer.desk.permits.items
    × IsReceiver l.context.channel.now l.producer.desk.receiver
    × (l.producer.desk.number ≡ l.fn.producer.desk.number)
    × CountsEnds l.fn.producer.desk l.producer.desk
    × (l.producer.book.seat ≡ l.fn.producer.book.seat)
    × HasServed (premises_of l.context.intake.now) l.fn.producer.desk.number (map (λ b. b.items) (take l.i l.connections)) (map (λ b. b.items) l.replies.items) (notes_tell l.producer.book.notes) (received l.producer.desk.receiver) (map put_by l.producer.desk.permits.items)
    × IsMarkedBefore (closings_at l.context.intake.now l.fn.producer.desk.number) l.i l.context.intake.now.directory l.directory
    × HearsItsOwn l.fn.producer.desk l.producer.desk
    × KeepsBacked l.fn.producer.desk l.producer.desk
