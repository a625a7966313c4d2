use Rattle.std.proofs.Common.{◌-◌, ◌^◌, ◌<◌, ◌∙◌, ap, arith, length, set, subst, sym}
use Rattle.std.proofs.lemmas.Result.{err_from_is_err_and}
use Rattle.cursor_set.specs.Cursors.{CursorHandle}
use Rattle.mailbox.specs.declared.clients.MailFault.TheVariants.{NoMemory, Spent}
use Rattle.mailbox.specs.declared.clients.Opening.{Opening}
use Rattle.mailbox.specs.Mailbox.{Mailbox}
use Rattle.delivery_core.specs.DeliveryCore.{DeliveryCore}
use Rattle.delivery_core.specs.inner.DeliveryCore.{in_groups}
use Rattle.delivery_core.specs.Stands.{StandsFor}
use Rattle.delivery_core.proofs.Follow.{set_back}
use Rattle.delivery_core.proofs.Boxes.{kept_set, same_boxes, same_rest}
use Rattle.delivery_core.proofs.Gone.{enter_follows, enter_refused, enter_attached, none_left, place_free, waits_memory, waits_spent}
use Rattle.delivery_core.proofs.Mailed.{opened_at}
use Rattle.delivery_core.proofs.steps.DeliveryCore.enter.Goals as goal

pub returns-then-not-can_open-clause-event : goal.returns-then-not-can_open-clause-event
returns-then-not-can_open-clause-event c allowed k w S =
    let i = c.self.inside in
    let l : c.from-place.result < length i.clients.items = omega (arith, c.if-place-len.false, c.len.ensures) in
    let number : c.from-number.result < length i.boxes.items = omega (arith, c.if-number-len.false, c.len-2.ensures) in
    let free = place_free i.clients.items c.from-place.result c.args.session c.index.result.now c.is_some.result c.from-place.ensures l c.index.ensures c.is_some.ensures c.if-is_some.false in
    let h : DeliveryCore = in_groups i.shards.items i.seats.items i.boxes.items i.clients.items in
    let stands = subst (λ (x : DeliveryCore). StandsFor k x w) (sym c.self.view_is) S in
    let due = opened_at i.boxes.items w.opened c.from-number.result c.index-2.result.now stands.opened number c.index-2.ensures ∙ ap w.opened c.from-number.ensures in
    let none = none_left c.can_open.result c.index-2.result.now.cursors.next c.can_open.ensures c.if-not-can_open.true in
    enter_refused k w h _ c.args.session c.args.mailbox c.from-number.result Spent (waits_spent w c.args.mailbox c.index-2.result.now.cursors.next due none) stands (omega (arith, l, c.from-place.ensures)) free c.from-number.ensures number (sym c.self.view_is)

pub returns-in_err-handle-clause-event : goal.returns-in_err-handle-clause-event
returns-in_err-handle-clause-event c allowed =
    let p = err_from_is_err_and c.from_residual.result c.from_residual.ensures.1 in
    rw (p.1, p.2) λ k w S.
    let i = c.self.inside in
    let l : c.from-place.result < length i.clients.items = omega (arith, c.if-place-len.false, c.len.ensures) in
    let number : c.from-number.result < length i.boxes.items = omega (arith, c.if-number-len.false, c.len-2.ensures) in
    let free = place_free i.clients.items c.from-place.result c.args.session c.index.result.now c.is_some.result c.from-place.ensures l c.index.ensures c.is_some.ensures c.if-is_some.false in
    let h : DeliveryCore = in_groups i.shards.items i.seats.items i.boxes.items i.clients.items in
    let stands = subst (λ (x : DeliveryCore). StandsFor k x w) (sym c.self.view_is) S in
    let due = opened_at i.boxes.items w.opened c.from-number.result c.index-2.result.now stands.opened number c.index-2.ensures ∙ ap w.opened c.from-number.ensures in
    let left = c.can_open.ensures.0 c.if-not-can_open.false in
    enter_refused k w h _ c.args.session c.args.mailbox c.from-number.result NoMemory (waits_memory w c.args.mailbox c.index-2.result.now.cursors.next due left) (subst (λ (x : DeliveryCore). StandsFor k x w) (sym c.self.view_is) S) (omega (arith, l, c.from-place.ensures)) free c.from-number.ensures number
    (ap (λ bs. let x : DeliveryCore = record h { boxes = bs } in x) (ap (set i.boxes.items c.from-number.result) c.in_err-handle.ensures.err ∙ set_back i.boxes.items c.from-number.result c.index_mut.result.now number c.index_mut.ensures.value))

pub invariant_of-self-2 : goal.invariant_of-self-2
invariant_of-self-2 c =
    let i = c.self.inside in
    let number : c.from-number.result < length i.boxes.items = omega (arith, c.if-number-len.false, c.len-2.ensures) in
    let e = c.in_ok-handle.ensures in (
      enter_attached i.boxes.items i.clients.items c.args.session c.from-place.result c.args.mailbox c.from-number.result c.index_mut.result.now c.open_cursor.new.self c.in_ok-handle.handle _ c.self.invariant.0 c.from-place.ensures c.from-number.ensures number
          c.index_mut.ensures.value e.opened e.vacant e.known,
      kept_set i.boxes.items c.from-number.result c.index_mut.result.now c.open_cursor.new.self c.self.invariant.1 c.index_mut.ensures.value (ap (λ (z : Mailbox). z.history) e.rest),
    )

pub returns-clause-event : goal.returns-clause-event
returns-clause-event c allowed k w S =
    let i = c.self.inside in
    let e = c.in_ok-handle.ensures in
    let l : c.from-place.result < length i.clients.items = omega (arith, c.if-place-len.false, c.len.ensures) in
    let number : c.from-number.result < length i.boxes.items = omega (arith, c.if-number-len.false, c.len-2.ensures) in
    let free = place_free i.clients.items c.from-place.result c.args.session c.index.result.now c.is_some.result c.from-place.ensures l c.index.ensures c.is_some.ensures c.if-is_some.false in
    let stands = subst (λ (x : DeliveryCore). StandsFor k x w) (sym c.self.view_is) S in
    let was = opened_at i.boxes.items w.opened c.from-number.result c.index-2.result.now stands.opened number c.index-2.ensures in
    let is = opened_at i.boxes.items w.opened c.from-number.result c.index_mut.result.now stands.opened number c.index_mut.ensures.value in
    let left : c.index_mut.result.now.cursors.next < 2 ^ 64 - 1 = omega (arith, c.can_open.ensures.0 c.if-not-can_open.false, was, is) in
    enter_follows k w _ c.args.session c.from-place.result c.args.mailbox c.from-number.result c.index_mut.result.now c.open_cursor.new.self c.in_ok-handle.handle _ c.in_ok-handle.opening
    (subst (λ (x : DeliveryCore). StandsFor k x w) (sym c.self.view_is) S) (omega (arith, l, c.from-place.ensures)) free c.from-place.ensures c.from-number.ensures number c.index_mut.ensures.value
    e.opened e.vacant e.known (ap (λ (z : CursorHandle). z.at) e.handle) e.logged e.rest (ap (λ (z : Opening). z.count) e.opening) (ap (λ (z : Opening). z.uidnext) e.opening) e.next left

pub returns-clause-same : goal.returns-clause-same
returns-clause-same c =
    let i = c.self.inside in
    let number : c.from-number.result < length i.boxes.items = omega (arith, c.if-number-len.false, c.len-2.ensures) in
    let b = c.index_mut.result.now in
    let b2 = c.open_cursor.new.self in
    rw (← c.self.view_is) (same_boxes i.boxes.items c.from-number.result b b2 number c.index_mut.ensures.value (same_rest b b2 b.messages b.window b2.cursors c.in_ok-handle.ensures.rest))
