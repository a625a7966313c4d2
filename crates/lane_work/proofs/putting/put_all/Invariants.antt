use Rattle.std.proofs.Common.{◌≡◌, ◌≤◌, ◌+◌, length, map, take, vec_len}
use Rattle.lane_work.specs.Permits.{put_by, ArePermits}
use Rattle.lane_work.specs.inner.Permits.{AreOpenTo}
use Rattle.delivery_token.specs.Verdicts.{unknown}
use Rattle.lane_work.specs.Awaiting.{copies_in}
use Rattle.lane_work.specs.inner.Desk.{SameButPermits}
use Rattle.lane_work.specs.Account.{copies, rooms_of}
use Rattle.lane_work.specs.Backing.{KeepsBacked}
use Rattle.lane_work.specs.inner.Copies.{HavePut, WereTried}
use Rattle.lane_work.proofs.putting.put_all.Given as goal

abbrev pub invariant-loop-i : goal.invariant-loop-i
invariant-loop-i g l =
    ArePermits l.context.intake.now.lanes.items l.fn.desk.number l.desk.permits.items
    × SameButPermits l.fn.desk l.desk
    × (length l.verdicts.slots ≡ l.i)
    × (AreOpenTo l.context.intake.now.directory l.message.mailboxes.items l.fn.desk.permits.items → WereTried l.context.intake.now.directory (rooms_of l.context.intake.now.lanes.items) l.fn.desk.number (copies (take l.i l.message.keys.items) (take l.i l.message.mailboxes.items) l.message.text) l.verdicts.slots
    (map put_by l.fn.desk.permits.items))
    × (vec_len l.message.keys ≤ l.verdicts.most)
    × (copies_in (map put_by l.desk.permits.items) ≡ copies_in (map put_by l.fn.desk.permits.items) + unknown l.verdicts.slots)
    × (AreOpenTo l.context.intake.now.directory l.message.mailboxes.items l.fn.desk.permits.items → HavePut l.context.intake.now.directory l.fn.desk.number (copies (take l.i l.message.keys.items) (take l.i l.message.mailboxes.items) l.message.text) l.verdicts.slots
    (map put_by l.fn.desk.permits.items) (map put_by l.desk.permits.items))
    × KeepsBacked l.fn.desk l.desk
