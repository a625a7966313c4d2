use Rattle.std.proofs.Common.{rules, ◌<◌, ◌≤◌, ◌≡◌, [], Vec, Global, length, vec_capacity, arith}
use Rattle.delivery_token.specs.declared.log.Noted.{Noted}
use Rattle.shard_queue.specs.Reply.{SenderEnded}
use Rattle.house_shared.specs.Crew.{IsStand}
use Rattle.house_shared.proofs.Positions.{first_at}
use Rattle.shared_consumers.proofs.ConsumerSetLaws.{one_more}
use Rattle.shared_consumers.proofs.consumer_set.make_all.Goals as goal

pub loop-position-preserved : goal.loop-position-preserved
loop-position-preserved g c =
    let v = c.loop-position.invariant in
    let shared = c.args.shared.now in
    let channels = shared.delivery.channels.items in
    let stands = c.loop-position.stands.items in
    let some : 0 < length stands = (let e = v.0 in let o = c.loop-position.stands.ok.0 in let under = c.loop-position-test.true in omega (arith, under, e, o)) in
    let P : Vec (SenderEnded Noted) Global → Type 0 = λ r. (r.items ≡ []) × (length channels ≤ vec_capacity r) in
    let first = first_at (IsStand shared) c.loop-position.position stands c.remove.new.self.items c.remove.result some c.remove.ensures.value c.remove.ensures.items v.1 in (
      search rules,
      first.1,
      search rules,
      search rules,
      search rules,
      search rules,
      one_more P c.loop-position.consumer_set.rooms.items c.push_reserved-in-loop-position.new.self.items _ c.push_reserved-in-loop-position.ensures.items v.6 (search rules),
      search rules,
    )
