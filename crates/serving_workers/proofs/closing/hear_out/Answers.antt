use Rattle.std.proofs.Common.{rules, ◌≡◌, map, subst}
use Rattle.delivery_token.specs.declared.log.Noted.{Noted}
use Rattle.shard_queue.specs.Reply.{ReplyChannel}
use Rattle.house_shared.proofs.Finding.{found_at}
use Rattle.shard_queue.specs.Permits.{said}
use Rattle.shard_queue.specs.Reply.{IsReceiver, received}
use Rattle.lane_work.proofs.BackingLaws.{ends_backed}
use Rattle.serving_workers.proofs.Heard.{whole_is}
use Rattle.serving_workers.proofs.closing.hear_out.Goals as goal

pub returns-clause-heard : goal.returns-clause-heard
returns-clause-heard g c = record {
  ended = c.requires.served.ended;
  receiver = λ channel at.
      let same : c.from.result ≡ c.args.number = search rules in
      let left = c.hear_ends-quiet.new.receiver in
      subst (λ (x : ReplyChannel Noted). IsReceiver x left) (found_at c.args.shared.now.delivery.channels.items c.from.result c.args.number c.index-channel.result.now channel same at)
      (subst (λ (x : ReplyChannel Noted). IsReceiver x left) c.index-channel.ensures c.hear_ends-quiet.ensures.receiver);
  backed = λ whole. (
    c.requires.served.backed.0,
    ends_backed c.args.number c.args.served.dispatch.history (received c.args.served.receiver) (received c.hear_ends-quiet.new.receiver) (map said c.args.served.ended.items) c.hear_ends-quiet.ensures.grew
        (c.hear_ends-quiet.ensures.quiet.0 (c.fate_of.ensures (whole_is c.fate_of.result whole))) c.requires.served.backed.1,
  );
}
