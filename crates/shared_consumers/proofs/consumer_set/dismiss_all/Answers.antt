use Rattle.std.proofs.Common.{rules, ◌<◌, ◌≤◌, ◌≡◌, ◌∙◌, ◌+◌, [], All, false, Vec, Global, length, subst, sym, vec_capacity, vec_len, arith}
use Rattle.std.proofs.lemmas.List.Elements.{All-tail}
use Rattle.delivery_token.specs.declared.log.Noted.{Noted}
use Rattle.shard_queue.specs.Reply.{SenderEnded}
use Rattle.lane_work.proofs.StepLaws.{removed}
use Rattle.lane_work.specs.declared.consumer.Consumed.{Consumed}
use Rattle.shared_consumers.specs.ConsumerSet.{IsService}
use Rattle.house_shared.proofs.Positions.{more_at}
use Rattle.shared_consumers.proofs.ConsumerSetLaws.{consumers_of, in_order, one_more, sender_hands_of}
use Rattle.shared_consumers.proofs.consumer_set.dismiss_all.Goals as goal

pub loop-position-preserved : goal.loop-position-preserved
loop-position-preserved g c =
    let v = c.loop-position.invariant in
    let shared = c.args.shared.now in
    let lanes = shared.intake.lanes.items in
    let channels = shared.delivery.channels.items in
    let n = c.loop-position.position in
    let rooms = c.loop-position.rooms.items in
    let consumed = c.loop-position.consumed.items in
    let pushed = c.push_reserved.ensures.items in
    let left = c.dismiss-shard.ensures in
    let room = c.remove-in-loop-position.result in
    let some : 0 < length rooms = (let e = v.1 in let o = c.loop-position.rooms.ok.0 in let under = c.loop-position-test.true in omega (arith, under, e, o)) in
    let P : Vec (SenderEnded Noted) Global → Type 0 = λ r. (r.items ≡ []) × (length channels ≤ vec_capacity r) in
    let Q : Consumed _ → Type 0 = λ d. vec_len d.senders ≡ length channels in
    let N : Consumed _ → Type 0 = λ d. (d.taken.items ≡ []) × (d.kept ≡ false) in
    let split = removed rooms c.remove-in-loop-position.new.self.items room some c.remove-in-loop-position.ensures.value c.remove-in-loop-position.ensures.items in
    let count : n ≡ 0 + length consumed = (let e = v.3 in let o = c.loop-position.consumed.ok.0 in omega (arith, e, o)) in (
      search rules,
      search rules,
      All-tail P room c.remove-in-loop-position.new.self.items (subst (All P) split v.2),
      search rules,
      search rules,
      (λ so. let both = in_order c.loop-position.in_order c.from.result n so in
          more_at (IsService lanes shared.delivery) 0 consumed c.push_reserved.new.self.items _ n pushed (v.5 both.0) count
          (subst (λ k. IsService lanes shared.delivery k c.dismiss-shard.result.1) (sym c.from.ensures ∙ both.1) left.service)),
      one_more Q consumed c.push_reserved.new.self.items _ pushed v.6 (search rules),
      one_more N consumed c.push_reserved.new.self.items _ pushed v.7 (search rules),
    )

pub returns-clause-permits : goal.returns-clause-permits
returns-clause-permits g c so =
    let shared = c.args.shared.now in
    let consumed = c.loop-position.consumed in
    let all : vec_len consumed ≡ length shared.intake.lanes.items = search rules in
    consumers_of shared.intake.lanes.items shared.delivery 0 consumed.items (c.loop-position.invariant.5 so) (let o = consumed.ok.0 in omega (arith, all, o))

pub returns-clause-hands : goal.returns-clause-hands
returns-clause-hands g c so =
    let shared = c.args.shared.now in
    let consumed = c.loop-position.consumed in
    let all : vec_len consumed ≡ length shared.intake.lanes.items = search rules in
    sender_hands_of shared.intake.lanes.items shared.delivery 0 consumed.items (c.loop-position.invariant.5 so) (let o = consumed.ok.0 in omega (arith, all, o))
