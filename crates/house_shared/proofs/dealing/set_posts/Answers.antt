use Rattle.std.proofs.Common.{rules, refl, ◌≡◌, ◌∙◌, ◌≤◌, ◌<◌, ◌+◌, [], All, Vec, Global, length, subst, sym, vec_capacity, arith}
use Rattle.std.proofs.lemmas.List.Elements.{All-head, All-tail}
use Rattle.delivery_token.specs.declared.Job.{Job}
use Rattle.delivery_token.specs.declared.log.Noted.{Noted}
use Rattle.shard_queue.specs.Reply.{received}
use Rattle.shard_queue.specs.Reply.{ReceiverPermit}
use Rattle.shard_queue.specs.Permits.{Ended}
use Rattle.shard_queue.specs.Reply as replies
use Rattle.house_shared.specs.Crew.{AllAt, IsPost}
use Rattle.house_shared.proofs.DealLaws.{IsConsumerAt, IsHand, all_rest, consumers_at, hands_at}
use Rattle.house_shared.proofs.Positions.{first_at, more_at}
use Rattle.lane_work.proofs.StepLaws.{removed}
use Rattle.house_shared.proofs.dealing.set_posts.Goals as goal

pub loop-number-init : goal.loop-number-init
loop-number-init g c =
    let shared = c.args.shared.now in
    let lanes = shared.intake.lanes.items in
    let channels = shared.delivery.channels.items in (
      search rules,
      search rules,
      search rules,
      search rules,
      search rules,
      hands_at lanes 0 c.args.hands.items c.requires.hands.1,
      consumers_at replies.view replies.is_of channels 0 channels c.args.receivers.items (all_rest channels) c.requires.receivers.1,
      c.requires.unheard,
      search rules,
      subst (AllAt (IsPost shared) 0) (sym c.requires.posts.0) tt,
      c.requires.seating.0,
      search rules,
    )

pub loop-number-preserved : goal.loop-number-preserved
loop-number-preserved g c =
    let v = c.loop-number.invariant in
    let shared = c.args.shared.now in
    let lanes = shared.intake.lanes.items in
    let channels = shared.delivery.channels.items in
    let n = c.loop-number.number in
    let hands = c.loop-number.hands.items in
    let receivers = c.loop-number.receivers.items in
    let rooms = c.loop-number.rooms.items in
    let posts = c.loop-number.posts.items in
    let under : n < c.args.producers = search rules in
    let some_hand : 0 < length hands = (let e = v.0 in let o = c.loop-number.hands.ok.0 in omega (arith, under, e, o)) in
    let some_end : 0 < length receivers = (let e = v.1 in let o = c.loop-number.receivers.ok.0 in omega (arith, under, e, o)) in
    let some_room : 0 < length rooms = (let e = v.2 in let o = c.loop-number.rooms.ok.0 in omega (arith, under, e, o)) in
    let P : Vec (Ended Job) Global → Type 0 = λ v. (v.items ≡ []) × (length lanes ≤ vec_capacity v) in
    let hand = first_at (IsHand lanes) n hands c.remove.new.self.items c.remove.result some_hand c.remove.ensures.value c.remove.ensures.items v.5 in
    let end = first_at (IsConsumerAt replies.view replies.is_of channels) n receivers c.remove-in-loop-number.new.self.items c.remove-in-loop-number.result some_end c.remove-in-loop-number.ensures.value c.remove-in-loop-number.ensures.items v.6 in
    let Q : ReceiverPermit Noted → Type 0 = λ s. received s ≡ [] in
    let permit = c.remove-in-loop-number.result in
    let ends = c.remove-in-loop-number.ensures in
    let unheard = subst (All Q) (removed receivers c.remove-in-loop-number.new.self.items permit some_end ends.value ends.items) v.7 in
    let room = c.remove-in-loop-number-2.result in
    let split = removed rooms c.remove-in-loop-number-2.new.self.items room some_room c.remove-in-loop-number-2.ensures.value c.remove-in-loop-number-2.ensures.items in
    let each = subst (All P) split v.8 in
    let own = All-head P room c.remove-in-loop-number-2.new.self.items each in
    let count : n ≡ 0 + length posts = (let e = v.3 in let o = c.loop-number.posts.ok.0 in omega (arith, e, o)) in (
      search rules,
      search rules,
      search rules,
      search rules,
      search rules,
      hand.1,
      end.1,
      All-tail Q permit c.remove-in-loop-number.new.self.items unheard,
      All-tail P room c.remove-in-loop-number-2.new.self.items each,
      more_at (IsPost shared) 0 posts c.push_reserved.new.self.items _ n c.push_reserved.ensures.items v.9 count
          (record { dispatch = (c.seat_next.ensures.seat.0 ∙ v.10, c.seat_next.ensures.seat.1); number = refl; permits = hand.0.0; fresh = hand.0.1; receiver = end.0; unheard = (All-head Q permit c.remove-in-loop-number.new.self.items unheard, refl); empty = own.0; room = own.1 }),
      (let e = c.seat_next.ensures.left.0 in let s = v.10 in omega (arith, e, s)),
      (let e = c.seat_next.ensures.left.1 in let s = v.11 in omega (arith, e, s)),
    )
