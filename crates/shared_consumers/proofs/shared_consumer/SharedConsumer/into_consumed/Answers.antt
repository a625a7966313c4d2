use Rattle.shard_queue.specs.Reply.{is_of, view}
use Rattle.lane_work.proofs.RowLaws.{ended_hand_length}
use Rattle.std.proofs.Common.{◌≡◌, ◌∙◌, length, [], Some, ap, false, refl, slice_get, subst, sym}
use Rattle.lane_work.specs.Consuming.{IsConsumed}
use Rattle.lane_work.specs.Permits.{AreSenders, AreSendersEnded}
use Rattle.shared_consumers.specs.SharedConsumer.{SharedConsumer}
use Rattle.shared_consumers.specs.Keeping.{parts_of}
use Rattle.shared_consumers.proofs.KeepLaws.{leaves}
use Rattle.shared_consumers.proofs.shared_consumer.SharedConsumer.into_consumed.Goals as goal

pub returns-clause-consumed : goal.returns-clause-consumed
returns-clause-consumed g c lanes is lane here =
    let stall = c.self.inside.stall in
    let shard : stall.shard ≡ c.args.self.shard = ap (λ (s : SharedConsumer). s.shard) c.self.view_is in
    let ended = c.end_senders-senders.result.items in
    subst (λ n. IsConsumed lane c.args.delivery.now n [] (record { permit = stall.permit; senders = c.end_senders-senders.result; taken = c.new.result; kept = false; torn = c.self.inside.torn })) shard
    (leaves lane lanes c.args.delivery.now stall c.self.inside.torn (record { permit = stall.permit; senders = c.end_senders-senders.result; taken = c.new.result; kept = false; torn = c.self.inside.torn })
    (c.self.invariant.on_lane lanes is) (c.self.invariant.answering (parts_of c.args.delivery.now) c.requires.delivery)
    (subst (λ n. slice_get lanes n ≡ Some lane) (sym shard) here) refl refl refl
    (subst (λ cs. AreSendersEnded cs stall.shard ended) c.deref.ensures.value c.end_senders-senders.ensures.ended) c.end_senders-senders.ensures.said)

pub returns-clause-count : goal.returns-clause-count
returns-clause-count g c =
    let ended = c.end_senders-senders.result in
    ended.ok.0 ∙ ended_hand_length view is_of c.deref.result.now c.self.inside.stall.shard ended.items c.end_senders-senders.ensures.ended ∙ ap length c.deref.ensures.value

pub end_senders-senders-requires-clause-senders : goal.end_senders-senders-requires-clause-senders
end_senders-senders-requires-clause-senders g c =
    let stall = c.self.inside.stall in
    subst (λ cs. AreSenders cs stall.shard stall.senders.items) (sym c.deref.ensures.value) (c.self.invariant.answering (parts_of c.args.delivery.now) c.requires.delivery).senders
