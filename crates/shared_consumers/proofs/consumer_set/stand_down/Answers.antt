use Rattle.std.proofs.Common.{rules, ◌<◌, ◌≤◌, ◌≡◌, [], All, Vec, Global, length, subst, vec_capacity, vec_len, arith}
use Rattle.std.proofs.lemmas.List.Elements.{All-tail}
use Rattle.delivery_token.specs.declared.log.Noted.{Noted}
use Rattle.shard_queue.specs.Reply.{SenderEnded}
use Rattle.lane_work.proofs.StepLaws.{removed}
use Rattle.house_shared.specs.declared.shared.Stand.{Stand}
use Rattle.shared_consumers.specs.Keeping.{parts_of}
use Rattle.shared_consumers.proofs.ConsumerSetLaws.{one_more}
use Rattle.shared_consumers.proofs.consumer_set.stand_down.Goals as goal

pub loop-done-preserved : goal.loop-done-preserved
loop-done-preserved g c =
    let v = c.loop-done.invariant in
    let channels = c.args.shared.now.delivery.channels.items in
    let rooms = c.loop-done.rooms.items in
    let room = c.remove-in-loop-done.result in
    let some : 0 < length rooms = (let e = v.1 in let o = c.loop-done.rooms.ok.0 in let under = c.loop-done-test.true in omega (arith, under, e, o)) in
    let P : Vec (SenderEnded Noted) Global → Type 0 = λ r. (r.items ≡ []) × (length channels ≤ vec_capacity r) in
    let S : Stand _ → Type 0 = λ s. (vec_len s.stall.senders ≡ length channels) × (s.room.items ≡ []) in
    let split = removed rooms c.remove-in-loop-done.new.self.items room some c.remove-in-loop-done.ensures.value c.remove-in-loop-done.ensures.items in
    let senders = c.leave_stand.ensures.senders (parts_of c.args.shared.now.delivery) c.requires.delivery in (
      search rules,
      search rules,
      All-tail P room c.remove-in-loop-done.new.self.items (subst (All P) split v.2),
      search rules,
      search rules,
      one_more S c.loop-done.stands.items c.push_reserved.new.self.items _ c.push_reserved.ensures.items v.5 (search rules),
    )
