use Rattle.std.proofs.Common.{rules, refl, ◌≡◌, ◌≤◌, ◌<◌, ◌+◌, [], All, Vec, Global, length, subst, sym, vec_capacity, arith}
use Rattle.std.proofs.lemmas.List.Elements.{All-head, All-tail}
use Rattle.delivery_token.specs.declared.log.Noted.{Noted}
use Rattle.delivery_token.specs.declared.Job.{Job}
use Rattle.shard_queue.specs.Permits.{ConsumerPermit}
use Rattle.shard_queue.specs.Reply.{SenderEnded}
use Rattle.shard_queue.specs.Permits.{got}
use Rattle.shard_queue.specs.Permits as queues
use Rattle.house_shared.specs.Crew.{AllAt, IsStand}
use Rattle.house_shared.proofs.DealLaws.{IsConsumerAt, IsSenderHand, all_rest, consumers_at, sender_hands_at}
use Rattle.house_shared.proofs.Positions.{first_at, more_at}
use Rattle.lane_work.proofs.StepLaws.{removed}
use Rattle.house_shared.proofs.dealing.set_stands.Goals as goal

pub loop-shard-init : goal.loop-shard-init
loop-shard-init g c =
    let shared = c.args.shared.now in
    let lanes = shared.intake.lanes.items in
    let channels = shared.delivery.channels.items in (
      search rules,
      search rules,
      search rules,
      search rules,
      search rules,
      search rules,
      sender_hands_at channels 0 c.args.hands.items c.requires.hands.1,
      consumers_at queues.view queues.is_of lanes 0 lanes c.args.consumers.items (all_rest lanes) c.requires.consumers.1,
      c.requires.fresh,
      search rules,
      subst (AllAt (IsStand shared) 0) (sym c.requires.stands.0) tt,
    )

pub loop-shard-preserved : goal.loop-shard-preserved
loop-shard-preserved g c =
    let v = c.loop-shard.invariant in
    let shared = c.args.shared.now in
    let lanes = shared.intake.lanes.items in
    let channels = shared.delivery.channels.items in
    let n = c.loop-shard.shard in
    let hands = c.loop-shard.hands.items in
    let consumers = c.loop-shard.consumers.items in
    let rooms = c.loop-shard.rooms.items in
    let stands = c.loop-shard.stands.items in
    let under : n < c.args.shards = search rules in
    let some_hand : 0 < length hands = (let e = v.0 in let o = c.loop-shard.hands.ok.0 in omega (arith, under, e, o)) in
    let some_end : 0 < length consumers = (let e = v.1 in let o = c.loop-shard.consumers.ok.0 in omega (arith, under, e, o)) in
    let some_room : 0 < length rooms = (let e = v.3 in let o = c.loop-shard.rooms.ok.0 in omega (arith, under, e, o)) in
    let P : Vec (SenderEnded Noted) Global → Type 0 = λ v. (v.items ≡ []) × (length channels ≤ vec_capacity v) in
    let Q : ConsumerPermit Job → Type 0 = λ s. got s ≡ [] in
    let permit = c.remove.result in
    let end = first_at (IsConsumerAt queues.view queues.is_of lanes) n consumers c.remove.new.self.items permit some_end c.remove.ensures.value c.remove.ensures.items v.7 in
    let hand = first_at (IsSenderHand channels) n hands c.remove-in-loop-shard.new.self.items c.remove-in-loop-shard.result some_hand c.remove-in-loop-shard.ensures.value c.remove-in-loop-shard.ensures.items v.6 in
    let none = subst (All Q) (removed consumers c.remove.new.self.items permit some_end c.remove.ensures.value c.remove.ensures.items) v.8 in
    let room = c.remove-in-loop-shard-3.result in
    let split = removed rooms c.remove-in-loop-shard-3.new.self.items room some_room c.remove-in-loop-shard-3.ensures.value c.remove-in-loop-shard-3.ensures.items in
    let each = subst (All P) split v.9 in
    let own = All-head P room c.remove-in-loop-shard-3.new.self.items each in
    let count : n ≡ 0 + length stands = (let e = v.4 in let o = c.loop-shard.stands.ok.0 in omega (arith, e, o)) in (
      search rules,
      search rules,
      search rules,
      search rules,
      search rules,
      search rules,
      hand.1,
      end.1,
      All-tail Q permit c.remove.new.self.items none,
      All-tail P room c.remove-in-loop-shard-3.new.self.items each,
      more_at (IsStand shared) 0 stands c.push_reserved.new.self.items _ n c.push_reserved.ensures.items v.10 count
          (record { shard = refl; permit = end.0; fresh = All-head Q permit c.remove.new.self.items none; senders = hand.0.0; unsent = hand.0.1; empty = own.0; room = own.1 }),
    )
