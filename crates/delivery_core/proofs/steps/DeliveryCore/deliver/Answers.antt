use Rattle.std.proofs.Common.{◌≡◌, ◌∙◌, ◌<◌, length, sym, refl, ap, subst, arith, set}
use Rattle.delivery_core.specs.DeliveryCore.{DeliveryCore}
use Rattle.delivery_core.specs.declared.group.Shard.{Shard}
use Rattle.delivery_core.specs.Load.{hand_load, lane_load}
use Rattle.delivery_core.proofs.Follow.{get_or-any}
use Rattle.delivery_core.proofs.Groups.{kept_at, read_at}
use Rattle.delivery_core.proofs.Loads.{sum_changes}
use Rattle.delivery_core.proofs.Still.{still_deliver}
use Rattle.std.proofs.lemmas.List.{length-map, map-set}
use Rattle.delivery_core.specs.Stands.{StandsFor}
use Rattle.world.specs.declared.hand.Hand.TheVariants.{Done}
use Rattle.delivery_core.proofs.Boxes.{kept_set, same_boxes}
use Rattle.delivery_core.proofs.AttachedLaws.{cursors_same}
use Rattle.delivery_core.specs.Attached.{AreAttached}
use Rattle.delivery_core.proofs.Delivers.{job_within, deliver_follows}
use Rattle.delivery_core.proofs.steps.DeliveryCore.deliver.Goals as goal

pub returns-then-position-len-clause-changes_nothing : goal.returns-then-position-len-clause-changes_nothing
returns-then-position-len-clause-changes_nothing c e k w v S step =
    let shards = c.self.inside.shards.items in
    let there = job_within k w _ c.from-at.result c.in-Taken.job (subst (λ (h : DeliveryCore). StandsFor k h w) (sym c.self.view_is) S) (omega (arith, c.len.ensures, c.if-at-len.false, length-map shards (λ (s : Shard). s.hand)))
    (rw c.in-Taken.is at (read_at (λ (s : Shard). s.hand) shards c.from-at.result c.index.result.now c.index.ensures)) in
    absurd (omega (arith, there, c.len-2.ensures, c.if-position-len.true, c.from-position.ensures))

pub returns-clause-follows : goal.returns-clause-follows
returns-clause-follows c k w S =
    let i = c.self.inside in
    let old = c.index_mut-2.result.now in
    let done : Shard = record { lane = old.lane; hand = Done (record { key = c.in-Taken.job.key; mailbox = c.in-Taken.job.mailbox; verdict = c.deliver_to-verdict.result }) } in
    rw (← c.from-at.ensures) (deliver_follows k w _ _ c.from-at.result c.in-Taken.job c.deliver_to-verdict.result c.index_mut.result.now c.deliver_to-verdict.new.mailbox
    (subst (λ (h : DeliveryCore). StandsFor k h w) (sym c.self.view_is) S) (omega (arith, c.len.ensures, c.if-at-len.false, length-map i.shards.items (λ (s : Shard). s.hand)))
    (rw c.in-Taken.is at (read_at (λ (s : Shard). s.hand) i.shards.items c.from-at.result c.index.result.now c.index.ensures)) (rw c.from-position.ensures at c.index_mut.ensures.value)
    (c.deliver_to-verdict.ensures.delivers k) (map-set (λ (s : Shard). s.hand) i.shards.items c.from-at.result done) (ap (λ j. set i.boxes.items j c.deliver_to-verdict.new.mailbox) c.from-position.ensures)
    (kept_at (λ (s : Shard). s.lane) i.shards.items c.from-at.result old done c.index_mut-2.ensures.value refl) refl refl refl refl c.deliver_to-verdict.ensures.cursors)

pub returns-clause-same : goal.returns-clause-same
returns-clause-same c =
    rw (← c.self.view_is) (same_boxes c.self.inside.boxes.items c.from-position.result c.index_mut.result.now c.deliver_to-verdict.new.mailbox (omega (arith, c.len-2.ensures, c.if-position-len.false)) c.index_mut.ensures.value c.deliver_to-verdict.ensures.same)

pub invariant_of-self : goal.invariant_of-self
invariant_of-self c =
    let i = c.self.inside in
    let kept = cursors_same i.boxes.items c.from-position.result c.index_mut.result.now c.deliver_to-verdict.new.mailbox (omega (arith, c.len-2.ensures, c.if-position-len.false)) c.index_mut.ensures.value c.deliver_to-verdict.ensures.cursors in
    (subst (λ cs. AreAttached cs i.clients.items) (sym kept) c.self.invariant.0, kept_set i.boxes.items c.from-position.result c.index_mut.result.now c.deliver_to-verdict.new.mailbox c.self.invariant.1 c.index_mut.ensures.value c.deliver_to-verdict.ensures.same.history)

pub returns-clause-cursors : goal.returns-clause-cursors
returns-clause-cursors c =
    rw (← c.self.view_is) (cursors_same c.self.inside.boxes.items c.from-position.result c.index_mut.result.now c.deliver_to-verdict.new.mailbox (omega (arith, c.len-2.ensures, c.if-position-len.false)) c.index_mut.ensures.value c.deliver_to-verdict.ensures.cursors)

pub returns-in_default-clause-changes_nothing : goal.returns-in_default-clause-changes_nothing
returns-in_default-clause-changes_nothing c e k w v S step =
    let shards = c.self.inside.shards.items in
    let x = c.index.result.now in
    still_deliver k w v _ c.args.shard (subst (λ (h : DeliveryCore). StandsFor k h w) (sym c.self.view_is) S) x.hand
    (omega (arith, c.len.ensures, c.if-at-len.false, c.from-at.ensures, length-map shards (λ (s : Shard). s.hand)))
    (rw c.from-at.ensures at (read_at (λ (s : Shard). s.hand) shards c.from-at.result x c.index.ensures)) c.in_default.not-Taken step

pub returns-clause-load : goal.returns-clause-load
returns-clause-load c =
    let shards = c.self.inside.shards.items in
    let old = c.index_mut-2.result.now in
    let done : Shard = record { lane = old.lane; hand = Done (record { key = c.in-Taken.job.key; mailbox = c.in-Taken.job.mailbox; verdict = c.deliver_to-verdict.result }) } in
    let within : c.from-at.result < length shards = omega (arith, c.len.ensures, c.if-at-len.false) in
    let same : c.index.result.now ≡ old = c.index.ensures ∙ (get_or-any shards _ _ _ within ∙ sym c.index_mut-2.ensures.value) in
    let before : hand_load old.hand ≡ 3 = ap (λ (x : Shard). hand_load x.hand) (sym same) ∙ ap hand_load c.in-Taken.is in
    let lanes = sum_changes lane_load (λ (s : Shard). s.lane) shards c.from-at.result old done within c.index_mut-2.ensures.value in
    let hands = sum_changes hand_load (λ (s : Shard). s.hand) shards c.from-at.result old done within c.index_mut-2.ensures.value in
    rw (← c.self.view_is) (omega (arith, lanes, hands, before))
