use Rattle.std.proofs.Common.{◌≡◌, ◌≤◌, ◌-◌, ◌++◌, ℕ, length, map, take, [], List, false}
use Rattle.shard_queue.specs.Reply.{IsReceiver, received}
use Rattle.shard_queue.specs.Shared.{IsStartOf}
use Rattle.lane_work.specs.Account.{rooms_of}
use Rattle.lane_work.specs.Talk.{Judged}
use Rattle.lane_work.specs.Backing.{KeepsBacked}
use Rattle.lane_work.specs.Ends.{CountsEnds}
use Rattle.lane_work.specs.Permits.{AreInForce, put_by}
use Rattle.lane_work.specs.Speaking.{Stands}
use Rattle.lane_work.proofs.piece.take_piece.Given as goal

abbrev pub invariant-loop-used : goal.invariant-loop-used
invariant-loop-used g l =
    AreInForce l.context.intake.now.directory l.context.intake.now.lanes.items l.fn.producer.desk.number l.producer.desk.permits.items
    × IsReceiver l.context.channel.now l.producer.desk.receiver
    × (l.producer.desk.number ≡ l.fn.producer.desk.number)
    × CountsEnds l.fn.producer.desk l.producer.desk
    × (g.N.VerdictLog.owner l.producer.book ≡ g.N.VerdictLog.owner l.fn.producer.book)
    × (l.machine.pending ≡ [])
    × (l.machine.setting ≡ l.fn.machine.setting) × (l.machine.host ≡ l.fn.machine.host)
    × (l.used ≤ length l.piece)
    × ((done : List Judged) (bytes told : List ℕ)
    → Stands l.context.intake.now.directory l.context.intake.now.directory (rooms_of l.context.intake.now.lanes.items) l.fn.producer.desk.number done bytes false l.fn.machine (told ++ l.fn.out.items) (g.N.VerdictLog.tells l.fn.producer.book) (received l.fn.producer.desk.receiver) (map put_by l.fn.producer.desk.permits.items)
    → Stands l.context.intake.now.directory l.context.intake.now.directory (rooms_of l.context.intake.now.lanes.items) l.fn.producer.desk.number done (bytes ++ take l.used l.piece) false l.machine (told ++ l.out.items) (g.N.VerdictLog.tells l.producer.book) (received l.producer.desk.receiver) (map put_by l.producer.desk.permits.items))
    × IsStartOf (received l.fn.producer.desk.receiver) (received l.producer.desk.receiver)
    × KeepsBacked l.fn.producer.desk l.producer.desk

abbrev pub decreases-loop-used : goal.decreases-loop-used
decreases-loop-used g l = length l.piece - l.used
