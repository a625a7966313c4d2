use Rattle.std.proofs.Common.{◌∙◌, ap, arith, set, subst, sym}
use Rattle.mailbox.specs.Mailbox.{Mailbox}
use Rattle.delivery_core.specs.DeliveryCore.{DeliveryCore, view_of}
use Rattle.delivery_core.specs.Stands.{StandsFor}
use Rattle.delivery_core.proofs.Calls.{not_strange, store_done, store_follows}
use Rattle.delivery_core.proofs.Looks.{same_view}
use Rattle.delivery_core.proofs.AttachedLaws.{cursors_same}
use Rattle.delivery_core.proofs.Boxes.{kept_set, rest_always, same_ok}
use Rattle.delivery_core.proofs.Mailed.{client_here, mailbox_within, still_attached}
use Rattle.delivery_core.specs.inner.DeliveryCore.{in_groups}
use Rattle.delivery_core.proofs.steps.DeliveryCore.store.Goals as goal

pub index_mut-mailbox-requires : goal.index_mut-mailbox-requires
index_mut-mailbox-requires c =
    let i = c.self.inside in
    let here = client_here i.clients.items c.from-place.result c.args.session c.index.result.now c.in-Some.client c.from-place.ensures (omega (arith, c.if-place-len.false, c.len.ensures)) c.index.ensures c.in-Some.is in
    omega (arith, mailbox_within i.boxes.items i.clients.items c.args.session c.from.result c.in-Some.client c.self.invariant.0 here c.from.ensures, i.boxes.ok.0)

pub invariant_of-self : goal.invariant_of-self
invariant_of-self c =
    let i = c.self.inside in
    let here = client_here i.clients.items c.from-place.result c.args.session c.index.result.now c.in-Some.client c.from-place.ensures (omega (arith, c.if-place-len.false, c.len.ensures)) c.index.ensures c.in-Some.is in (
      still_attached i.boxes.items i.clients.items c.args.session c.from.result c.in-Some.client c.index_mut-mailbox.result.now c.store.new.self c.self.invariant.0 here c.from.ensures c.index_mut-mailbox.ensures.value
          (ap (λ (m : Mailbox). m.cursors) c.store.ensures.rest),
      kept_set i.boxes.items c.from.result c.index_mut-mailbox.result.now c.store.new.self c.self.invariant.1 c.index_mut-mailbox.ensures.value (ap (λ (m : Mailbox). m.history) c.store.ensures.rest),
    )

pub returns-clause-stranger : goal.returns-clause-stranger
returns-clause-stranger c =
    let i = c.self.inside in
    let here = client_here i.clients.items c.from-place.result c.args.session c.index.result.now c.in-Some.client c.from-place.ensures (omega (arith, c.if-place-len.false, c.len.ensures)) c.index.ensures c.in-Some.is in
    rw (← c.self.view_is) (not_strange c.store.result i.boxes.items i.clients.items c.args.session c.from.result c.in-Some.client c.index_mut-mailbox.result.now c.self.invariant.0 here c.from.ensures c.index_mut-mailbox.ensures.value c.store.ensures.stranger)

pub returns-clause-event : goal.returns-clause-event
returns-clause-event c there k w S =
    let i = c.self.inside in
    let e = c.store.ensures in
    let here = client_here i.clients.items c.from-place.result c.args.session c.index.result.now c.in-Some.client c.from-place.ensures (omega (arith, c.if-place-len.false, c.len.ensures)) c.index.ensures c.in-Some.is in
    store_follows k w _ c.args.session c.from.result c.in-Some.client c.index_mut-mailbox.result.now c.store.new.self c.args.uid c.args.op c.store.result (subst (λ (h : DeliveryCore). StandsFor k h w) (sym c.self.view_is) S)
    here c.from.ensures c.index_mut-mailbox.ensures.value e.stranger e.lapped e.spent e.memory e.err e.logged e.window e.messages e.rest e.flags

pub returns-clause-view : goal.returns-clause-view
returns-clause-view c =
    let i = c.self.inside in
    let here = client_here i.clients.items c.from-place.result c.args.session c.index.result.now c.in-Some.client c.from-place.ensures (omega (arith, c.if-place-len.false, c.len.ensures)) c.index.ensures c.in-Some.is in
    let h : DeliveryCore = in_groups i.shards.items i.seats.items i.boxes.items i.clients.items in
    same_view h (set i.boxes.items c.from.result c.store.new.self) c.args.session (cursors_same i.boxes.items c.from.result c.index_mut-mailbox.result.now c.store.new.self
    (mailbox_within i.boxes.items i.clients.items c.args.session c.from.result c.in-Some.client c.self.invariant.0 here c.from.ensures) c.index_mut-mailbox.ensures.value (ap (λ (m : Mailbox). m.cursors) c.store.ensures.rest))
    ∙ ap (λ (x : DeliveryCore). view_of x c.args.session) c.self.view_is

pub returns-clause-same : goal.returns-clause-same
returns-clause-same c =
    let i = c.self.inside in
    let here = client_here i.clients.items c.from-place.result c.args.session c.index.result.now c.in-Some.client c.from-place.ensures (omega (arith, c.if-place-len.false, c.len.ensures)) c.index.ensures c.in-Some.is in
    let within = mailbox_within i.boxes.items i.clients.items c.args.session c.from.result c.in-Some.client c.self.invariant.0 here c.from.ensures in
    let b = c.index_mut-mailbox.result.now in
    let b2 = c.store.new.self in
    rw (← c.self.view_is) (same_ok c.store.result i.boxes.items c.from.result b b2 within c.index_mut-mailbox.ensures.value (rest_always c.store.result b b2 b2.messages b2.window b.cursors c.store.ensures.rest))

pub returns-clause-done : goal.returns-clause-done
returns-clause-done c =
    let i = c.self.inside in
    let e = c.store.ensures in
    let here = client_here i.clients.items c.from-place.result c.args.session c.index.result.now c.in-Some.client c.from-place.ensures (omega (arith, c.if-place-len.false, c.len.ensures)) c.index.ensures c.in-Some.is in
    let h : DeliveryCore = in_groups i.shards.items i.seats.items i.boxes.items i.clients.items in
    rw (← c.self.view_is) (store_done h c.args.session c.from.result c.in-Some.client c.index_mut-mailbox.result.now c.store.new.self c.args.uid c.args.op c.store.result c.self.invariant.0 here c.from.ensures c.index_mut-mailbox.ensures.value
    e.stranger e.lapped e.spent e.err e.logged e.window e.messages e.rest)
