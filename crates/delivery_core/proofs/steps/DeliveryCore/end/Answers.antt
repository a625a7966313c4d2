use Rattle.std.proofs.Common.{◌≡◌, ◌∙◌, sym, refl, subst, arith, get_or, true, false, ◌<◌, length}
use Rattle.std.proofs.lemmas.List.{length-map, map-set}
use Rattle.delivery_core.specs.DeliveryCore.{DeliveryCore}
use Rattle.delivery_core.specs.inner.DeliveryCore.{in_groups}
use Rattle.delivery_core.specs.Stands.{StandsFor}
use Rattle.delivery_core.specs.declared.group.Seat.{Seat}
use Rattle.delivery_core.specs.declared.group.Shard.{Shard}
use Rattle.delivery_core.specs.Changes.{Ends}
use Rattle.delivery_core.specs.Load.{hand_load, lane_load}
use Rattle.delivery_core.proofs.Groups.{kept_at, read_at, with_lane}
use Rattle.delivery_core.proofs.Loads.{end_less, sum_changes}
use Rattle.delivery_core.proofs.Still.{is_over, still_end, still_end_full}
use Rattle.delivery_core.proofs.Follow.{get_or-any}
use Rattle.delivery_core.proofs.Ends.{cannot_end_full, cannot_end_live, end_follows, ends_in}
use Rattle.delivery_core.proofs.steps.DeliveryCore.end.Goals as goal

pub returns-clause-follows : goal.returns-clause-follows
returns-clause-follows c k w S =
    let i = c.self.inside in
    let old = c.index_mut.result.now in
    let new : Shard = record { lane = c.end.new.self; hand = old.hand } in
    let ins : c.from-at.result < length i.shards.items = omega (arith, c.len.ensures, c.if-at-len.false) in
    let same : c.index.result.now ≡ old = c.index.ensures ∙ (get_or-any i.shards.items _ _ _ ins ∙ sym c.index_mut.ensures.value) in
    rw (← c.from-at.ensures) (end_follows k w _ _ c.args.seat c.from-at.result old.lane c.end.new.self
    (subst (λ (h : DeliveryCore). StandsFor k h w) (sym c.self.view_is) S) (omega (arith, ins, length-map i.shards.items (λ (s : Shard). s.lane)))
    (omega (arith, c.len-else-at-len.ensures, c.if-from-len.false, c.from.ensures, length-map i.seats.items (λ (s : Seat). s.replies))) (read_at (λ (s : Shard). s.lane) i.shards.items c.from-at.result old c.index_mut.ensures.value)
    (subst (λ (x : Shard). get_or x.lane.live c.args.seat false ≡ true) same (c.is_live.ensures.0 c.if-not-is_live.false))
    c.in-Ok.ensures.put.0 c.in-Ok.ensures.put.1 (map-set (λ (s : Shard). s.lane) i.shards.items c.from-at.result new) (kept_at (λ (s : Shard). s.hand) i.shards.items c.from-at.result old new c.index_mut.ensures.value refl)
    refl refl refl refl refl)

pub returns-clause-ends : goal.returns-clause-ends
returns-clause-ends c =
    let i = c.self.inside in
    let old = c.index_mut.result.now in
    let new : Shard = record { lane = c.end.new.self; hand = old.hand } in
    let h : DeliveryCore = in_groups i.shards.items i.seats.items i.boxes.items i.clients.items in
    let ins : c.from-at.result < length i.shards.items = omega (arith, c.len.ensures, c.if-at-len.false) in
    let same : c.index.result.now ≡ old = c.index.ensures ∙ (get_or-any i.shards.items _ _ _ ins ∙ sym c.index_mut.ensures.value) in
    rw (← c.self.view_is, ← c.from-at.ensures) (subst (λ (x : DeliveryCore). Ends h x c.args.seat c.from-at.result) (sym (with_lane i.shards.items i.seats.items i.boxes.items i.clients.items c.from-at.result old new c.index_mut.ensures.value refl))
    (ends_in h c.args.seat c.from-at.result old.lane c.end.new.self (omega (arith, ins, length-map i.shards.items (λ (s : Shard). s.lane))) (read_at (λ (s : Shard). s.lane) i.shards.items c.from-at.result old c.index_mut.ensures.value)
    (subst (λ (x : Shard). get_or x.lane.live c.args.seat false ≡ true) same (c.is_live.ensures.0 c.if-not-is_live.false)) c.in-Ok.ensures.put.0 c.in-Ok.ensures.put.1))

pub returns-then-not-is_live-clause-nothing : goal.returns-then-not-is_live-clause-nothing
returns-then-not-is_live-clause-nothing c f =
    let i = c.self.inside in
    let h : DeliveryCore = in_groups i.shards.items i.seats.items i.boxes.items i.clients.items in
    rw (← c.self.view_is, ← c.from-at.ensures) (cannot_end_live h c.args.seat c.from-at.result c.index.result.now.lane c.is_live.result (omega (arith, c.len.ensures, c.if-at-len.false, length-map i.shards.items (λ (s : Shard). s.lane)))
    (read_at (λ (s : Shard). s.lane) i.shards.items c.from-at.result c.index.result.now c.index.ensures) c.is_live.ensures c.if-not-is_live.true)

pub returns-in_default-clause-nothing : goal.returns-in_default-clause-nothing
returns-in_default-clause-nothing c f =
    let i = c.self.inside in
    let old = c.index_mut.result.now in
    let h : DeliveryCore = in_groups i.shards.items i.seats.items i.boxes.items i.clients.items in
    rw (← c.self.view_is, ← c.from-at.ensures) (cannot_end_full h c.args.seat c.from-at.result old.lane (omega (arith, c.len.ensures, c.if-at-len.false, length-map i.shards.items (λ (s : Shard). s.lane)))
    (read_at (λ (s : Shard). s.lane) i.shards.items c.from-at.result old c.index_mut.ensures.value) c.in_default.ensures.put.0)

pub returns-then-not-is_live-clause-changes_nothing : goal.returns-then-not-is_live-clause-changes_nothing
returns-then-not-is_live-clause-changes_nothing c e k w v S step =
    let shards = c.self.inside.shards.items in
    let x = c.index.result.now in
    still_end k w v _ c.args.shard (subst (λ (h : DeliveryCore). StandsFor k h w) (sym c.self.view_is) S) c.args.seat x.lane
    (omega (arith, c.len.ensures, c.if-at-len.false, c.from-at.ensures, length-map shards (λ (s : Shard). s.lane)))
    (rw c.from-at.ensures at (read_at (λ (s : Shard). s.lane) shards c.from-at.result x c.index.ensures)) (is_over _ c.is_live.result c.is_live.ensures c.if-not-is_live.true) step

pub returns-in_default-clause-changes_nothing : goal.returns-in_default-clause-changes_nothing
returns-in_default-clause-changes_nothing c e k w v S step =
    let shards = c.self.inside.shards.items in
    let x = c.index_mut.result.now in
    still_end_full k w v _ c.args.shard (subst (λ (h : DeliveryCore). StandsFor k h w) (sym c.self.view_is) S) c.args.seat x.lane
    (omega (arith, c.len.ensures, c.if-at-len.false, c.from-at.ensures, length-map shards (λ (s : Shard). s.lane)))
    (rw c.from-at.ensures at (read_at (λ (s : Shard). s.lane) shards c.from-at.result x c.index_mut.ensures.value)) c.in_default.ensures.put.0 step

pub returns-clause-load : goal.returns-clause-load
returns-clause-load c =
    let i = c.self.inside in
    let old = c.index_mut.result.now in
    let new : Shard = record { lane = c.end.new.self; hand = old.hand } in
    let within : c.from-at.result < length i.shards.items = omega (arith, c.len.ensures, c.if-at-len.false) in
    let same : c.index.result.now ≡ old = c.index.ensures ∙ (get_or-any i.shards.items _ _ _ within ∙ sym c.index_mut.ensures.value) in
    let lanes = sum_changes lane_load (λ (s : Shard). s.lane) i.shards.items c.from-at.result old new within c.index_mut.ensures.value in
    let hands = sum_changes hand_load (λ (s : Shard). s.hand) i.shards.items c.from-at.result old new within c.index_mut.ensures.value in
    let less = end_less c.args.seat old.lane c.end.new.self (subst (λ (x : Shard). get_or x.lane.live c.args.seat false ≡ true) same (c.is_live.ensures.0 c.if-not-is_live.false)) c.in-Ok.ensures.put.1 in
    rw (← c.self.view_is) (omega (arith, lanes, hands, less))
