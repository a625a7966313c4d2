use Rattle.std.proofs.Common.{◌≡◌, ◌∙◌, sym, refl, ap, subst, arith, set, ◌<◌, length, List}
use Rattle.std.proofs.lemmas.List.{length-map, map-set}
use Rattle.shard_queue.specs.PlainLane.{PlainLane}
use Rattle.delivery_token.specs.declared.Job.{Job}
use Rattle.delivery_core.specs.Load.{hand_load, lane_load}
use Rattle.delivery_core.specs.DeliveryCore.{DeliveryCore}
use Rattle.delivery_core.specs.Stands.{StandsFor}
use Rattle.delivery_core.specs.declared.group.Shard.{Shard}
use Rattle.delivery_core.proofs.Groups.{read_at}
use Rattle.delivery_core.specs.inner.DeliveryCore.{in_groups}
use Rattle.delivery_core.proofs.Follow.{set_back}
use Rattle.delivery_core.proofs.Loads.{sum_changes, take_less}
use Rattle.delivery_core.proofs.Still.{still_take, still_taken}
use Rattle.delivery_core.proofs.Takes.{none_taken, take_follows, take_none}
use Rattle.delivery_core.proofs.steps.DeliveryCore.take.Goals as goal

pub returns-clause-follows : goal.returns-clause-follows
returns-clause-follows c k w S =
    let i = c.self.inside in
    let old = c.index_mut-one.result.now in
    let new : Shard = record { lane = c.take.new.self; hand = c.in-Some.hand } in
    rw (← c.from-at.ensures) (take_follows k w _ _ c.from-at.result old.lane c.take.new.self c.take.result c.in-Some.hand
    (subst (λ (h : DeliveryCore). StandsFor k h w) (sym c.self.view_is) S)
    (omega (arith, c.len.ensures, c.if-at-len.false, length-map i.shards.items (λ (s : Shard). s.lane))) (omega (arith, c.len.ensures, c.if-at-len.false, length-map i.shards.items (λ (s : Shard). s.hand)))
    (rw c.in-Empty.is at (read_at (λ (s : Shard). s.hand) i.shards.items c.from-at.result c.index.result.now c.index.ensures)) (read_at (λ (s : Shard). s.lane) i.shards.items c.from-at.result old c.index_mut-one.ensures.value)
    c.take.ensures.taken (rw c.in-Some.is at c.hand_of.ensures)
    (map-set (λ (s : Shard). s.lane) i.shards.items c.from-at.result new) (map-set (λ (s : Shard). s.hand) i.shards.items c.from-at.result new) refl refl refl refl refl)

pub returns-in_default-clause-changes_nothing : goal.returns-in_default-clause-changes_nothing
returns-in_default-clause-changes_nothing c e k w v S step =
    let shards = c.self.inside.shards.items in
    let x = c.index.result.now in
    still_take k w v _ c.args.shard (subst (λ (h : DeliveryCore). StandsFor k h w) (sym c.self.view_is) S) x.hand
    (omega (arith, c.len.ensures, c.if-at-len.false, c.from-at.ensures, length-map shards (λ (s : Shard). s.hand)))
    (rw c.from-at.ensures at (read_at (λ (s : Shard). s.hand) shards c.from-at.result x c.index.ensures)) c.in_default.not-Empty step

pub returns-in_default-hand_of-clause-changes_nothing : goal.returns-in_default-hand_of-clause-changes_nothing
returns-in_default-hand_of-clause-changes_nothing c e k w v S step =
    let shards = c.self.inside.shards.items in
    let x = c.index_mut-one.result.now in
    still_taken k w v _ c.args.shard (subst (λ (h : DeliveryCore). StandsFor k h w) (sym c.self.view_is) S) x.lane
    (omega (arith, c.len.ensures, c.if-at-len.false, c.from-at.ensures, length-map shards (λ (s : Shard). s.lane)))
    (rw c.from-at.ensures at (read_at (λ (s : Shard). s.lane) shards c.from-at.result x c.index_mut-one.ensures.value))
    (c.take.ensures.empty (none_taken c.take.result (rw c.in_default-hand_of.is at c.hand_of.ensures))) step

pub returns-in_default-hand_of-clause-refused : goal.returns-in_default-hand_of-clause-refused
returns-in_default-hand_of-clause-refused c =
    let i = c.self.inside in
    let old = c.index_mut-one.result.now in
    let same : old.lane ≡ c.take.new.self = take_none c.take.result old.lane c.take.new.self (rw c.in_default-hand_of.is at c.hand_of.ensures) c.take.ensures.taken in
    ap (λ (x : List Shard). in_groups x i.seats.items i.boxes.items i.clients.items)
    (ap (λ (l : PlainLane Job). let y : Shard = record { lane = l; hand = old.hand } in set i.shards.items c.from-at.result y) (sym same)
    ∙ set_back i.shards.items c.from-at.result old (omega (arith, c.len.ensures, c.if-at-len.false)) c.index_mut-one.ensures.value) ∙ c.self.view_is

pub returns-clause-load : goal.returns-clause-load
returns-clause-load c =
    let shards = c.self.inside.shards.items in
    let old = c.index_mut-one.result.now in
    let new : Shard = record { lane = c.take.new.self; hand = c.in-Some.hand } in
    let within : c.from-at.result < length shards = omega (arith, c.len.ensures, c.if-at-len.false) in
    let lanes = sum_changes lane_load (λ (s : Shard). s.lane) shards c.from-at.result old new within c.index_mut-one.ensures.value in
    let hands = sum_changes hand_load (λ (s : Shard). s.hand) shards c.from-at.result old new within c.index_mut-one.ensures.value in
    let less = take_less c.take.result old.lane c.take.new.self c.in-Some.hand c.take.ensures.taken (rw c.in-Some.is at c.hand_of.ensures) in
    rw (← c.self.view_is) (omega (arith, lanes, hands, less))
