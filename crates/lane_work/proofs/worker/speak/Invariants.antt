use Rattle.std.proofs.Common.{◌≡◌, ◌≤◌, ◌-◌, length, map, take, [], List, false}
use Rattle.shard_queue.specs.Reply.{IsReceiver, received}
use Rattle.lane_work.specs.Account.{notes_tell, rooms_of}
use Rattle.lane_work.specs.Talk.{Judged}
use Rattle.lane_work.specs.Awaiting.{HearsItsOwn}
use Rattle.lane_work.specs.Backing.{KeepsBacked}
use Rattle.lane_work.specs.Ends.{CountsEnds}
use Rattle.lane_work.specs.Permits.{AreInForce, put_by}
use Rattle.lane_work.specs.Speaking.{Stands}
use Rattle.lane_work.proofs.worker.speak.Given as goal

abbrev pub invariant-loop-fed : goal.invariant-loop-fed
invariant-loop-fed g l =
    AreInForce l.directory l.context.intake.now.lanes.items l.fn.producer.desk.number l.producer.desk.permits.items
    × IsReceiver l.context.channel.now l.producer.desk.receiver
    × (l.producer.desk.number ≡ l.fn.producer.desk.number)
    × CountsEnds l.fn.producer.desk l.producer.desk
    × (l.producer.book.seat ≡ l.fn.producer.book.seat)
    × (l.machine.pending ≡ [])
    × (l.machine.setting ≡ l.fn.machine.setting) × (l.machine.host ≡ l.fn.machine.host)
    × (l.used ≤ length l.bytes)
    × ((done : List Judged) → Stands l.directory l.context.intake.now.directory (rooms_of l.context.intake.now.lanes.items) l.fn.producer.desk.number done [] false l.fn.machine l.fn.out.items (notes_tell l.fn.producer.book.notes) (received l.fn.producer.desk.receiver) (map put_by l.fn.producer.desk.permits.items)
    → Stands l.directory l.context.intake.now.directory (rooms_of l.context.intake.now.lanes.items) l.fn.producer.desk.number done (take l.used l.bytes) false l.machine l.out.items (notes_tell l.producer.book.notes) (received l.producer.desk.receiver) (map put_by l.producer.desk.permits.items))
    × HearsItsOwn l.fn.producer.desk l.producer.desk
    × KeepsBacked l.fn.producer.desk l.producer.desk

abbrev pub decreases-loop-fed : goal.decreases-loop-fed
decreases-loop-fed g l = length l.bytes - l.used
