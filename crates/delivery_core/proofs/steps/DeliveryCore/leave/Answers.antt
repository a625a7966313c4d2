use Rattle.std.proofs.Common.{◌≡◌, ◌∙◌, ap, arith, subst, sym}
use Rattle.std.specs.Prelude.{slice_index_or}
use Rattle.mailbox.specs.declared.clients.MailFault.TheVariants.{Spent}
use Rattle.mailbox.specs.Mailbox.{Mailbox}
use Rattle.delivery_core.specs.DeliveryCore.{DeliveryCore}
use Rattle.delivery_core.specs.inner.DeliveryCore.{AreKept, in_groups}
use Rattle.delivery_core.specs.Attached.{AreAttached, cursors_of}
use Rattle.delivery_core.specs.Stands.{StandsFor}
use Rattle.delivery_core.proofs.Gone.{leave_fault, leave_follows, leave_refused, leave_attached, leave_stays, left_only}
use Rattle.delivery_core.proofs.Boxes.{kept_set, same_boxes, same_rest}
use Rattle.delivery_core.proofs.Mailed.{client_here, known_at, mailbox_within, nothing_moved}
use Rattle.delivery_core.proofs.steps.DeliveryCore.leave.Goals as goal

pub index_mut-mailbox-requires : goal.index_mut-mailbox-requires
index_mut-mailbox-requires c =
    let i = c.self.inside in
    let here = client_here i.clients.items c.from-place.result c.args.session c.index_mut.result.now c.in-Some.client c.from-place.ensures (omega (arith, c.if-place-len.false, c.len.ensures)) c.index_mut.ensures.value (sym c.take.ensures.value ∙ c.in-Some.is) in
    omega (arith, mailbox_within i.boxes.items i.clients.items c.args.session c.from.result c.in-Some.client c.self.invariant.0 here c.from.ensures, i.boxes.ok.0)

pub invariant_of-self-in-Ok : goal.invariant_of-self-in-Ok
invariant_of-self-in-Ok c =
    let i = c.self.inside in
    let here = client_here i.clients.items c.from-place.result c.args.session c.index_mut.result.now c.in-Some.client c.from-place.ensures (omega (arith, c.if-place-len.false, c.len.ensures)) c.index_mut.ensures.value (sym c.take.ensures.value ∙ c.in-Some.is) in (
      leave_attached i.boxes.items i.clients.items c.args.session c.from-place.result c.from.result c.in-Some.client c.index_mut-mailbox.result.now c.close_cursor.new.self c.take.new.self c.self.invariant.0 here c.from-place.ensures c.from.ensures c.index_mut-mailbox.ensures.value
          c.take.ensures.after c.in-Ok.ensures.closed,
      kept_set i.boxes.items c.from.result c.index_mut-mailbox.result.now c.close_cursor.new.self c.self.invariant.1 c.index_mut-mailbox.ensures.value (ap (λ (z : Mailbox). z.history) c.in-Ok.ensures.rest),
    )

pub returns-in-Ok-clause-event : goal.returns-in-Ok-clause-event
returns-in-Ok-clause-event c there k w S =
    let i = c.self.inside in
    let e = c.in-Ok.ensures in
    let here = client_here i.clients.items c.from-place.result c.args.session c.index_mut.result.now c.in-Some.client c.from-place.ensures (omega (arith, c.if-place-len.false, c.len.ensures)) c.index_mut.ensures.value (sym c.take.ensures.value ∙ c.in-Some.is) in
    leave_follows k w _ c.args.session c.from-place.result c.from.result c.in-Some.client c.index_mut-mailbox.result.now c.close_cursor.new.self c.take.new.self c.args.remove c.in-Ok.count
    (subst (λ (h : DeliveryCore). StandsFor k h w) (sym c.self.view_is) S) here c.from-place.ensures c.from.ensures c.index_mut-mailbox.ensures.value c.take.ensures.after e.spent e.logged e.window e.messages e.closed e.next e.rest e.count

pub invariant_of-self-2 : goal.invariant_of-self-2
invariant_of-self-2 c =
    let i = c.self.inside in
    let e = c.in-Err.ensures in
    let here = client_here i.clients.items c.from-place.result c.args.session c.index_mut.result.now c.in-Some.client c.from-place.ensures (omega (arith, c.if-place-len.false, c.len.ensures)) c.index_mut.ensures.value (sym c.take.ensures.value ∙ c.in-Some.is) in
    let h : DeliveryCore = in_groups i.shards.items i.seats.items i.boxes.items i.clients.items in
    let same = nothing_moved h c.args.session c.from-place.result c.from.result c.in-Some.client c.index_mut-mailbox.result.now c.close_cursor.new.self c.in-Err.refused.0 c.take.new.self c.self.invariant.0 here c.from-place.ensures c.from.ensures c.index_mut-mailbox.ensures.value e.only.2 e.only.0 in
    (subst (λ (x : DeliveryCore). AreAttached (cursors_of x.boxes) x.clients) (sym same) c.self.invariant.0, subst (λ (x : DeliveryCore). AreKept x.boxes) (sym same) c.self.invariant.1)

pub returns-clause-refused : goal.returns-clause-refused
returns-clause-refused c =
    let i = c.self.inside in
    let e = c.in-Err.ensures in
    let here = client_here i.clients.items c.from-place.result c.args.session c.index_mut.result.now c.in-Some.client c.from-place.ensures (omega (arith, c.if-place-len.false, c.len.ensures)) c.index_mut.ensures.value (sym c.take.ensures.value ∙ c.in-Some.is) in
    nothing_moved _ c.args.session c.from-place.result c.from.result c.in-Some.client c.index_mut-mailbox.result.now c.close_cursor.new.self c.in-Err.refused.0 c.take.new.self c.self.invariant.0 here c.from-place.ensures c.from.ensures c.index_mut-mailbox.ensures.value e.only.2 e.only.0 ∙ c.self.view_is

pub returns-clause-stranger : goal.returns-clause-stranger
returns-clause-stranger c =
    let i = c.self.inside in
    let e = c.in-Err.ensures in
    let here = client_here i.clients.items c.from-place.result c.args.session c.index_mut.result.now c.in-Some.client c.from-place.ensures (omega (arith, c.if-place-len.false, c.len.ensures)) c.index_mut.ensures.value (sym c.take.ensures.value ∙ c.in-Some.is) in
    let some = known_at i.boxes.items i.clients.items c.args.session c.in-Some.client c.index_mut-mailbox.result.now c.self.invariant.0 here (c.index_mut-mailbox.ensures.value ∙ ap (λ j. slice_index_or i.boxes.items j c.index_mut-mailbox.result.now) c.from.ensures) in
    let spent : c.in-Err.refused.1 ≡ Spent = leave_fault c.index_mut-mailbox.result.now c.in-Some.client.handle c.in-Err.refused some e.stranger e.only.0 e.only.1 in
    rw (← c.self.view_is) (left_only i.clients.items c.args.session c.in-Some.client c.in-Err.refused.1 here spent)

pub returns-clause-event : goal.returns-clause-event
returns-clause-event c there k w S =
    let i = c.self.inside in
    let e = c.in-Err.ensures in
    let here = client_here i.clients.items c.from-place.result c.args.session c.index_mut.result.now c.in-Some.client c.from-place.ensures (omega (arith, c.if-place-len.false, c.len.ensures)) c.index_mut.ensures.value (sym c.take.ensures.value ∙ c.in-Some.is) in
    let h : DeliveryCore = in_groups i.shards.items i.seats.items i.boxes.items i.clients.items in
    let some = known_at i.boxes.items i.clients.items c.args.session c.in-Some.client c.index_mut-mailbox.result.now c.self.invariant.0 here (c.index_mut-mailbox.ensures.value ∙ ap (λ j. slice_index_or i.boxes.items j c.index_mut-mailbox.result.now) c.from.ensures) in
    let spent : c.in-Err.refused.1 ≡ Spent = leave_fault c.index_mut-mailbox.result.now c.in-Some.client.handle c.in-Err.refused some e.stranger e.only.0 e.only.1 in
    let same = nothing_moved h c.args.session c.from-place.result c.from.result c.in-Some.client c.index_mut-mailbox.result.now c.close_cursor.new.self c.in-Err.refused.0 c.take.new.self c.self.invariant.0 here c.from-place.ensures c.from.ensures c.index_mut-mailbox.ensures.value e.only.2 e.only.0 in
    leave_stays k w h _ c.args.session c.args.remove c.in-Err.refused.1 same
    (leave_refused k w h c.args.session c.from.result c.in-Some.client c.index_mut-mailbox.result.now c.in-Err.refused c.args.remove (subst (λ (x : DeliveryCore). StandsFor k x w) (sym c.self.view_is) S) here c.from.ensures c.index_mut-mailbox.ensures.value e.only.0 spent e.spent)

pub returns-in-Ok-clause-same : goal.returns-in-Ok-clause-same
returns-in-Ok-clause-same c =
    let i = c.self.inside in
    let here = client_here i.clients.items c.from-place.result c.args.session c.index_mut.result.now c.in-Some.client c.from-place.ensures (omega (arith, c.if-place-len.false, c.len.ensures)) c.index_mut.ensures.value (sym c.take.ensures.value ∙ c.in-Some.is) in
    let within = mailbox_within i.boxes.items i.clients.items c.args.session c.from.result c.in-Some.client c.self.invariant.0 here c.from.ensures in
    let b = c.index_mut-mailbox.result.now in
    let b2 = c.close_cursor.new.self in
    rw (← c.self.view_is) (same_boxes i.boxes.items c.from.result b b2 within c.index_mut-mailbox.ensures.value (same_rest b b2 b2.messages b2.window b2.cursors c.in-Ok.ensures.rest))
