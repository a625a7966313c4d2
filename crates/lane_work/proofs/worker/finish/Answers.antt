use Rattle.std.proofs.Common.{map}
use Rattle.shard_queue.specs.Permits.{said}
use Rattle.shard_queue.specs.Reply.{received}
use Rattle.lane_work.specs.Permits.{put_by}
use Rattle.lane_work.proofs.BackingLaws.{backed_end, ends_backed}
use Rattle.lane_work.proofs.worker.finish.Goals as goal

pub returns-clause-backed : goal.returns-clause-backed
returns-clause-backed g c whole seat was =
    let desk = c.args.producer.desk in
    let words = map said c.end_all-ended.result.items in
    let ended = backed_end seat desk.number desk.dispatch.history (received desk.receiver) (map put_by desk.permits.items) words c.end_all-ended.ensures.said was.1 in
    (was.0, ends_backed seat desk.dispatch.history (received desk.receiver) (received c.hear_ends-quiet.new.receiver) words c.hear_ends-quiet.ensures.grew (c.hear_ends-quiet.ensures.quiet.0 (c.fate_after.ensures.whole whole).1) ended)
