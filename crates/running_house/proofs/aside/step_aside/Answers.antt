use Rattle.std.proofs.Common.{ap, sym, subst, length, map}
use Rattle.std.specs.List.{list_any}
use Rattle.shard_queue.specs.Reply.{said_on, sent_on}
use Rattle.shard_queue.specs.Permits.{got}
use Rattle.lane_work.specs.Answering.{is_nobodys}
use Rattle.lane_work.specs.Permits.{AreSendersEnded}
use Rattle.lane_work.proofs.AnswerLaws.{answers_begin, answers_close}
use Rattle.running_house.proofs.aside.step_aside.Goals as goal

pub returns : goal.returns
returns g c lane is =
    let delivery = c.args.delivery.now in
    let channels = delivery.channels.items in
    let mailboxes = length delivery.mailboxes.items in
    let shard = c.args.stand.stall.shard in
    let senders = c.args.stand.stall.senders.items in
    let ended = c.end_senders-senders.result.items in
    record {
      permit = is;
      senders = subst (λ cs. AreSendersEnded cs shard ended) c.deref.ensures.value c.end_senders-senders.ensures.ended;
      kept = λ e. absurd (cc);
      torn = sym (ap (list_any (is_nobodys mailboxes (length channels))) c.requires.fresh);
      said = answers_close mailboxes shard (got c.args.stand.stall.permit) channels senders (map sent_on senders) (map said_on ended) c.requires.senders
          c.end_senders-senders.ensures.said (answers_begin mailboxes (length channels) shard (got c.args.stand.stall.permit) (map sent_on senders) c.requires.fresh);
    }
