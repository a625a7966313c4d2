use Rattle.std.proofs.Common.{rules, ◌+◌, ◌∙◌, sym, subst, map, take, drop, length-drop, arith}
use Rattle.delivery_token.specs.declared.log.Noted.{Noted}
use Rattle.shard_queue.specs.Reply.{ReplyChannel}
use Rattle.shard_queue.specs.Reply.{IsSenderEnded, sent_on}
use Rattle.lane_work.specs.Permits.{AreSenders, AreSendersEnded}
use Rattle.lane_work.proofs.PermitLaws.{first_sender, sender_ended_next, senders_length, told_next}
use Rattle.lane_work.proofs.ending.end_senders.Goals as goal

pub remove-sender-requires : goal.remove-sender-requires
remove-sender-requires g c =
    let v = c.loop-channel.invariant in
    let n = senders_length (drop c.loop-channel.channel c.args.channels.now) c.args.shard c.loop-channel.senders.items v.0 in
    let l = length-drop c.loop-channel.channel c.args.channels.now in
    omega (arith, n, l, c.loop-channel-test.true, c.loop-channel.senders.ok.0)

pub loop-channel-preserved : goal.loop-channel-preserved
loop-channel-preserved g c =
    let v = c.loop-channel.invariant in
    let channels = c.args.channels.now in
    let i = c.loop-channel.channel in
    let p = c.args.shard in
    let f = first_sender channels i p c.loop-channel.senders.items c.loop-channel-test.true v.0 c.index-channels-channel.result c.remove-sender.result c.remove-sender.ensures.value in (
      subst (AreSenders (drop (i + 1) channels) p) (sym c.remove-sender.ensures.items) f.3,
      subst (AreSendersEnded (take (i + 1) channels) p) (sym c.push_reserved.ensures.items)
          (sender_ended_next channels i p c.loop-channel.ended.items c.end_one.result c.loop-channel-test.true v.1 c.index-channels-channel.result
          (subst (λ (q : ReplyChannel Noted). IsSenderEnded q c.end_one.result) c.index-channels-channel.is c.end_one.ensures.0) (c.end_one.ensures.1 ∙ f.1)),
      c.push_reserved.ensures.len ∙ search rules,
      search rules,
      told_next p c.loop-channel.ended.items c.push_reserved.new.self.items c.loop-channel.senders.items c.remove-sender.new.self.items c.end_one.result c.remove-sender.result (map sent_on c.args.senders.items)
          c.push_reserved.ensures.items f.2 c.remove-sender.ensures.items f.1 c.end_one.ensures.2 v.4,
    )
