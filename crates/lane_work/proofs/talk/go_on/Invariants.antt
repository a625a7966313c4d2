use Rattle.std.proofs.Common.{◌≡◌, ◌≤◌, length, map, [], List, false, max}
use Rattle.shard_queue.specs.Reply.{IsReceiver, received}
use Rattle.shard_queue.specs.Shared.{IsStartOf}
use Rattle.lane_work.specs.Account.{rooms_of}
use Rattle.lane_work.specs.Talk.{Judged}
use Rattle.lane_work.specs.Backing.{KeepsBacked}
use Rattle.lane_work.specs.Ends.{CountsEnds}
use Rattle.lane_work.specs.Permits.{AreInForce, put_by}
use Rattle.lane_work.specs.Speaking.{Stands, premises_of}
use Rattle.lane_work.proofs.Going.{Goes}
use Rattle.lane_work.proofs.talk.go_on.Given as goal

abbrev pub invariant-loop : goal.invariant-loop
invariant-loop g l =
    AreInForce l.context.intake.now.directory l.context.intake.now.lanes.items l.fn.producer.desk.number l.producer.desk.permits.items
    × IsReceiver l.context.channel.now l.producer.desk.receiver
    × (l.producer.desk.number ≡ l.fn.producer.desk.number)
    × CountsEnds l.fn.producer.desk l.producer.desk
    × (g.N.VerdictLog.owner l.producer.book ≡ g.N.VerdictLog.owner l.fn.producer.book)
    × (l.machine.pending ≡ [])
    × (l.machine.setting ≡ l.fn.machine.setting) × (l.machine.host ≡ l.fn.machine.host)
    × (g.O.Sink.failed l.output ≡ false)
    × (length l.fn.buffers.input.items ≤ length l.buffers.input.items)
    × (length l.buffers.input.items ≤ max (length l.fn.buffers.input.items) 131_072)
    × ((done : List Judged)
    → Stands l.context.intake.now.directory l.context.intake.now.directory (rooms_of l.context.intake.now.lanes.items) l.fn.producer.desk.number done [] false l.fn.machine l.fn.buffers.output.items (g.N.VerdictLog.tells l.fn.producer.book) (received l.fn.producer.desk.receiver) (map put_by l.fn.producer.desk.permits.items)
    → Goes (premises_of l.context.intake.now) l.fn.producer.desk.number done (g.I.Read.remaining l.fn.input) (g.I.Read.remaining l.input) (g.O.Sink.taken l.fn.output) (g.O.Sink.taken l.output) l.machine l.buffers.output.items (g.N.VerdictLog.tells l.producer.book) (received l.producer.desk.receiver) (map put_by l.producer.desk.permits.items))
    × IsStartOf (received l.fn.producer.desk.receiver) (received l.producer.desk.receiver)
    × KeepsBacked l.fn.producer.desk l.producer.desk
