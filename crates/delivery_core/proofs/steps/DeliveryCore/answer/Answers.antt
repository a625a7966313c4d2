use Rattle.std.proofs.Common.{◌≡◌, ◌∙◌, ◌+◌, ◌<◌, ◌∷◌, [], sym, refl, ap, subst, arith, set, true, false, map, length, length-append}
use Rattle.std.proofs.lemmas.List.{length-map, map-set}
use Rattle.world.specs.declared.hand.Hand.TheVariants.{Empty}
use Rattle.delivery_core.specs.DeliveryCore.{DeliveryCore}
use Rattle.delivery_core.specs.Stands.{StandsFor}
use Rattle.delivery_core.specs.declared.group.Seat.{Seat}
use Rattle.delivery_core.specs.declared.group.Shard.{Shard}
use Rattle.shard_queue.specs.declared.lane.Entry.TheVariants.{Item}
use Rattle.delivery_core.specs.Load.{hand_load, lane_load, reply_load}
use Rattle.delivery_core.proofs.Follow.{get_or-any}
use Rattle.delivery_core.proofs.Groups.{kept_at, read_at}
use Rattle.delivery_core.proofs.Loads.{sum_changes}
use Rattle.delivery_core.proofs.Still.{still_answer, still_answer_full}
use Rattle.delivery_core.proofs.Takes.{reply_within, reply_live, answer_follows}
use Rattle.delivery_core.proofs.steps.DeliveryCore.answer.Goals.{then-seat-len-via-then-seat-len, then-seat-len-via-else-seat-len+then-not-is_live}
use Rattle.delivery_core.proofs.steps.DeliveryCore.answer.Goals as goal

pub returns-then-seat-len-clause-changes_nothing : goal.returns-then-seat-len-clause-changes_nothing
returns-then-seat-len-clause-changes_nothing c e k w v S step =
    let i = c.self.inside in
    let S2 = subst (λ (h : DeliveryCore). StandsFor k h w) (sym c.self.view_is) S in
    let hands = length-map i.shards.items (λ (s : Shard). s.hand) in
    let lanes = length-map i.shards.items (λ (s : Shard). s.lane) in
    let replies = length-map i.seats.items (λ (s : Seat). s.replies) in
    let there = reply_within k w _ c.from-at.result c.in-Done.noted S2 (omega (arith, c.len.ensures, c.if-at-len.false, hands)) (rw c.in-Done.is at (read_at (λ (s : Shard). s.hand) i.shards.items c.from-at.result c.index.result.now c.index.ensures)) in
    elim c.then-seat-len.branch [
      | then-seat-len-via-then-seat-len b ↦ absurd (omega (arith, there, c.len-2.ensures, b.if-seat-len.true, c.from-seat.ensures, replies))
      | then-seat-len-via-else-seat-len+then-not-is_live b ↦ (
          let live = reply_live k w _ c.args.shard c.from-seat.result b.index-else-seat-len.result.now.replies S2 (omega (arith, c.len.ensures, c.if-at-len.false, c.from-at.ensures, lanes)) (omega (arith, c.len-2.ensures, b.if-seat-len.false, replies))
          (read_at (λ (s : Seat). s.replies) i.seats.items c.from-seat.result b.index-else-seat-len.result.now b.index-else-seat-len.ensures) in
          let both : true ≡ false = sym (b.is_live.ensures.1 live) ∙ b.if-not-is_live.true in absurd (cc))
    ]

pub returns-in-Ok-clause-follows : goal.returns-in-Ok-clause-follows
returns-in-Ok-clause-follows c k w S =
    let i = c.self.inside in
    let seat = c.index_mut.result.now in
    let later : Seat = record { replies = c.put.new.self; heard = seat.heard; next = seat.next } in
    let shard = c.index_mut-in-Ok.result.now in
    let done : Shard = record { lane = shard.lane; hand = Empty } in
    let S2 = subst (λ (h : DeliveryCore). StandsFor k h w) (sym c.self.view_is) S in
    answer_follows k w _ _ c.args.shard c.in-Done.noted seat.replies c.put.new.self S2
    (omega (arith, c.len.ensures, c.if-at-len.false, c.from-at.ensures, length-map i.shards.items (λ (s : Shard). s.hand)))
    (rw c.from-at.ensures at (rw c.in-Done.is at (read_at (λ (s : Shard). s.hand) i.shards.items c.from-at.result c.index.result.now c.index.ensures)))
    (omega (arith, c.len-2.ensures, c.if-seat-len.false, c.from-seat.ensures, length-map i.seats.items (λ (s : Seat). s.replies)))
    (rw c.from-seat.ensures at (read_at (λ (s : Seat). s.replies) i.seats.items c.from-seat.result seat c.index_mut.ensures.value)) c.in-Ok.ensures.put.0 c.in-Ok.ensures.put.1
    (map-set (λ (s : Shard). s.hand) i.shards.items c.from-at.result done ∙ ap (λ j. set (map (λ (s : Shard). s.hand) i.shards.items) j Empty) c.from-at.ensures)
    (map-set (λ (s : Seat). s.replies) i.seats.items c.from-seat.result later ∙ ap (λ j. set (map (λ (s : Seat). s.replies) i.seats.items) j c.put.new.self) c.from-seat.ensures)
    (kept_at (λ (s : Shard). s.lane) i.shards.items c.from-at.result shard done c.index_mut-in-Ok.ensures.value refl)
    (kept_at (λ (s : Seat). s.heard) i.seats.items c.from-seat.result seat later c.index_mut.ensures.value refl) refl
    (kept_at (λ (s : Seat). s.next) i.seats.items c.from-seat.result seat later c.index_mut.ensures.value refl) refl

pub returns-in_default-clause-changes_nothing : goal.returns-in_default-clause-changes_nothing
returns-in_default-clause-changes_nothing c e k w v S step =
    let shards = c.self.inside.shards.items in
    let x = c.index.result.now in
    still_answer k w v _ c.args.shard (subst (λ (h : DeliveryCore). StandsFor k h w) (sym c.self.view_is) S) x.hand
    (omega (arith, c.len.ensures, c.if-at-len.false, c.from-at.ensures, length-map shards (λ (s : Shard). s.hand)))
    (rw c.from-at.ensures at (read_at (λ (s : Shard). s.hand) shards c.from-at.result x c.index.ensures)) c.in_default.not-Done step

pub returns-in-Err-clause-changes_nothing : goal.returns-in-Err-clause-changes_nothing
returns-in-Err-clause-changes_nothing c e k w v S step =
    let i = c.self.inside in
    let seat = c.index_mut.result.now in
    still_answer_full k w v _ c.args.shard (subst (λ (h : DeliveryCore). StandsFor k h w) (sym c.self.view_is) S) c.in-Done.noted seat.replies
    (omega (arith, c.len.ensures, c.if-at-len.false, c.from-at.ensures, length-map i.shards.items (λ (s : Shard). s.hand)))
    (rw c.from-at.ensures at (rw c.in-Done.is at (read_at (λ (s : Shard). s.hand) i.shards.items c.from-at.result c.index.result.now c.index.ensures)))
    (omega (arith, c.len-2.ensures, c.if-seat-len.false, c.from-seat.ensures, length-map i.seats.items (λ (s : Seat). s.replies)))
    (rw c.from-seat.ensures at (read_at (λ (s : Seat). s.replies) i.seats.items c.from-seat.result seat c.index_mut.ensures.value)) c.in-Err.ensures.put.1 step

pub returns-in-Ok-clause-heard : goal.returns-in-Ok-clause-heard
returns-in-Ok-clause-heard c =
    let seat = c.index_mut.result.now in
    let later : Seat = record { replies = c.put.new.self; heard = seat.heard; next = seat.next } in
    rw (← c.self.view_is) (kept_at (λ (s : Seat). s.heard) c.self.inside.seats.items c.from-seat.result seat later c.index_mut.ensures.value refl)

pub returns-in-Ok-clause-next : goal.returns-in-Ok-clause-next
returns-in-Ok-clause-next c =
    let seat = c.index_mut.result.now in
    let later : Seat = record { replies = c.put.new.self; heard = seat.heard; next = seat.next } in
    rw (← c.self.view_is) (kept_at (λ (s : Seat). s.next) c.self.inside.seats.items c.from-seat.result seat later c.index_mut.ensures.value refl)

pub returns-in-Ok-clause-load : goal.returns-in-Ok-clause-load
returns-in-Ok-clause-load c =
    let i = c.self.inside in
    let seat = c.index_mut.result.now in
    let later : Seat = record { replies = c.put.new.self; heard = seat.heard; next = seat.next } in
    let shard = c.index_mut-in-Ok.result.now in
    let done : Shard = record { lane = shard.lane; hand = Empty } in
    let within : c.from-at.result < length i.shards.items = omega (arith, c.len.ensures, c.if-at-len.false) in
    let same : c.index.result.now ≡ shard = c.index.ensures ∙ (get_or-any i.shards.items _ _ _ within ∙ sym c.index_mut-in-Ok.ensures.value) in
    let before : hand_load shard.hand ≡ 2 = ap (λ (x : Shard). hand_load x.hand) (sym same) ∙ ap hand_load c.in-Done.is in
    let lanes = sum_changes lane_load (λ (s : Shard). s.lane) i.shards.items c.from-at.result shard done within c.index_mut-in-Ok.ensures.value in
    let hands = sum_changes hand_load (λ (s : Shard). s.hand) i.shards.items c.from-at.result shard done within c.index_mut-in-Ok.ensures.value in
    let replies = sum_changes reply_load (λ (s : Seat). s.replies) i.seats.items c.from-seat.result seat later (omega (arith, c.len-2.ensures, c.if-seat-len.false)) c.index_mut.ensures.value in
    let more : reply_load c.put.new.self ≡ reply_load seat.replies + 1 = ap reply_load c.in-Ok.ensures.put.1 ∙ length-append seat.replies.waiting (Item c.args.shard c.in-Done.noted ∷ []) in
    rw (← c.self.view_is) (omega (arith, lanes, hands, replies, before, more))
