use Rattle.std.proofs.Common.{subst, length, map}
use Rattle.shard_queue.specs.Reply.{said_on, sent_on}
use Rattle.shard_queue.specs.Permits.{got}
use Rattle.lane_work.specs.Answering.{HaveClosed}
use Rattle.lane_work.specs.Permits.{AreSendersEnded}
use Rattle.lane_work.proofs.AnswerLaws.{answers_close}
use Rattle.lane_work.proofs.consumer.consume.Goals as goal

pub returns-clause-consumed : goal.returns-clause-consumed
returns-clause-consumed g c =
    let channels = c.args.delivery.now.channels.items in
    let served = c.serve_all-tally.ensures in
    let ended = c.end_senders-senders.result.items in
    let left = c.serve_all-tally.new.stall in
    record {
      permit = served.permit;
      senders = subst (λ n. AreSendersEnded channels n ended) served.shard (subst (λ cs. AreSendersEnded cs left.shard ended) c.deref.ensures.value c.end_senders-senders.ensures.ended);
      kept = served.kept;
      torn = served.torn;
      said = answers_close (length c.args.delivery.now.mailboxes.items) c.args.stall.shard (got left.permit) channels left.senders.items (map sent_on c.args.stall.senders.items) (map said_on ended) served.senders
          (subst (λ n. HaveClosed n (map sent_on left.senders.items) (map said_on ended)) served.shard c.end_senders-senders.ensures.said) served.answered;
    }
