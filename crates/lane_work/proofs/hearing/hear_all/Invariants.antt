use Rattle.std.proofs.Common.{◌≡◌, ◌+◌, length}
use Rattle.shard_queue.specs.Reply.{IsReceiver, received}
use Rattle.shard_queue.specs.Shared.{IsStartOf}
use Rattle.lmtp_machine.specs.Calls.{submission_of}
use Rattle.lane_work.specs.Account.{copies_of}
use Rattle.delivery_token.specs.Verdicts.{Fills, unknown}
use Rattle.lane_work.specs.Backing.{KeepsBacked}
use Rattle.lane_work.specs.inner.Copies.{WereHeard}
use Rattle.lane_work.specs.inner.Desk.{SameButReceiver}
use Rattle.lane_work.specs.Ends.{CountsEnds, ends_in}
use Rattle.lane_work.specs.Permits.{AreLive}
use Rattle.lane_work.proofs.hearing.hear_all.Given as goal

abbrev pub invariant-loop : goal.invariant-loop
invariant-loop g l = IsReceiver l.context.channel.now l.desk.receiver × SameButReceiver l.fn.desk l.desk × CountsEnds l.fn.desk l.desk × Fills l.fn.verdicts.slots l.verdicts.slots
    × IsStartOf (received l.fn.desk.receiver) (received l.desk.receiver)
    × (length (received l.desk.receiver) + unknown l.verdicts.slots + ends_in (received l.fn.desk.receiver) ≡ length (received l.fn.desk.receiver) + unknown l.fn.verdicts.slots + ends_in (received l.desk.receiver))
    × WereHeard (received l.desk.receiver) (copies_of (submission_of l.message)) l.fn.verdicts.slots l.verdicts.slots
    × (AreLive l.fn.desk.permits.items → ends_in (received l.desk.receiver) ≡ ends_in (received l.fn.desk.receiver))
    × KeepsBacked l.fn.desk l.desk
