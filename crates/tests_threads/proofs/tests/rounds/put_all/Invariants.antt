use Rattle.std.proofs.Common.{◌≡◌}
use Rattle.shard_queue.specs.Reply.{IsReceiver}
use Rattle.lane_work.specs.Permits.{ArePermits}
use Rattle.tests_threads.proofs.tests.rounds.put_all.Given as goal

abbrev pub invariant-loop-serial : goal.invariant-loop-serial
invariant-loop-serial g l =
    (l.desk.number ≡ l.fn.desk.number) × ArePermits l.shared.intake.lanes.items l.fn.desk.number l.desk.permits.items × IsReceiver l.channel l.desk.receiver
