use Rattle.std.proofs.Common.{◌∙◌, ap, arith, subst, sym}
use Rattle.std.specs.Prelude.{option_map, slice_index_or}
use Rattle.mailbox.specs.Events.{in_set}
use Rattle.delivery_core.specs.DeliveryCore.{DeliveryCore}
use Rattle.delivery_core.specs.inner.DeliveryCore.{in_groups}
use Rattle.delivery_core.specs.Stands.{StandsFor}
use Rattle.delivery_core.proofs.Calls.{not_strange}
use Rattle.delivery_core.proofs.Boxes.{history_stays, kept_set, rest_ok, same_ok}
use Rattle.delivery_core.proofs.Mailed.{client_here, known_at, mailbox_within, moved_attached, nothing_moved}
use Rattle.delivery_core.proofs.Shown.{expunge_done, expunge_memory, expunge_saw, expunge_follows, expunge_moves, expunge_refused}
use Rattle.delivery_core.proofs.steps.DeliveryCore.expunge.Goals as goal

pub index_mut-mailbox-requires : goal.index_mut-mailbox-requires
index_mut-mailbox-requires c =
    let i = c.self.inside in
    let here = client_here i.clients.items c.from-place.result c.args.session c.index_mut.result.now c.in-Some.client c.from-place.ensures (omega (arith, c.if-place-len.false, c.len.ensures)) c.index_mut.ensures.value (sym c.take.ensures.value ∙ c.in-Some.is) in
    omega (arith, mailbox_within i.boxes.items i.clients.items c.args.session c.from.result c.in-Some.client c.self.invariant.0 here c.from.ensures, i.boxes.ok.0)

pub invariant_of-self-2 : goal.invariant_of-self-2
invariant_of-self-2 c =
    let i = c.self.inside in
    let e = c.expunge-gone.ensures in
    let b = c.index_mut-mailbox.result.now in
    let here = client_here i.clients.items c.from-place.result c.args.session c.index_mut.result.now c.in-Some.client c.from-place.ensures (omega (arith, c.if-place-len.false, c.len.ensures)) c.index_mut.ensures.value (sym c.take.ensures.value ∙ c.in-Some.is) in
    let there = c.index_mut-mailbox.ensures.value in
    let some = known_at i.boxes.items i.clients.items c.args.session c.in-Some.client b c.self.invariant.0 here (there ∙ ap (λ j. slice_index_or i.boxes.items j b) c.from.ensures) in
    let moves = expunge_moves b c.expunge-gone.new.self c.in-Some.client.handle c.expunge-gone.new.handle c.args.out.now.items c.expunge-gone.new.out.items c.expunge-gone.result some e.lapped e.err e.handle e.within e.moved e.next in (
      moved_attached i.boxes.items i.clients.items c.args.session c.from-place.result c.from.result c.in-Some.client b c.expunge-gone.new.self c.expunge-gone.new.handle c.take.new.self c.self.invariant.0 here c.from-place.ensures c.from.ensures there moves,
      kept_set i.boxes.items c.from.result b c.expunge-gone.new.self c.self.invariant.1 there (history_stays c.expunge-gone.result b c.expunge-gone.new.self c.in-Some.client.handle c.expunge-gone.new.handle c.args.out.now.items c.expunge-gone.new.out.items e.err (rest_ok c.expunge-gone.result b c.expunge-gone.new.self c.expunge-gone.new.self.messages c.expunge-gone.new.self.window c.expunge-gone.new.self.cursors e.rest)),
    )

pub returns-clause-stranger : goal.returns-clause-stranger
returns-clause-stranger c =
    let i = c.self.inside in
    let here = client_here i.clients.items c.from-place.result c.args.session c.index_mut.result.now c.in-Some.client c.from-place.ensures (omega (arith, c.if-place-len.false, c.len.ensures)) c.index_mut.ensures.value (sym c.take.ensures.value ∙ c.in-Some.is) in
    rw (← c.self.view_is) (not_strange c.expunge-gone.result i.boxes.items i.clients.items c.args.session c.from.result c.in-Some.client c.index_mut-mailbox.result.now c.self.invariant.0 here c.from.ensures c.index_mut-mailbox.ensures.value c.expunge-gone.ensures.stranger)

pub returns-clause-event : goal.returns-clause-event
returns-clause-event c there k w S =
    let i = c.self.inside in
    let e = c.expunge-gone.ensures in
    let here = client_here i.clients.items c.from-place.result c.args.session c.index_mut.result.now c.in-Some.client c.from-place.ensures (omega (arith, c.if-place-len.false, c.len.ensures)) c.index_mut.ensures.value (sym c.take.ensures.value ∙ c.in-Some.is) in
    expunge_follows k w _ c.args.session c.from-place.result c.from.result c.in-Some.client c.index_mut-mailbox.result.now c.expunge-gone.new.self c.expunge-gone.new.handle c.take.new.self (in_set (option_map (λ uids. uids.now) c.args.uids)) c.args.out.now.items c.expunge-gone.new.out.items c.expunge-gone.new.self.cursors c.expunge-gone.result
    (subst (λ (h : DeliveryCore). StandsFor k h w) (sym c.self.view_is) S) here c.from-place.ensures c.from.ensures c.index_mut-mailbox.ensures.value e.stranger e.lapped e.spent e.err e.shown e.handle e.within e.moved e.next e.logged e.window e.messages e.rest e.count

pub returns-clause-refused : goal.returns-clause-refused
returns-clause-refused c =
    let i = c.self.inside in
    let here = client_here i.clients.items c.from-place.result c.args.session c.index_mut.result.now c.in-Some.client c.from-place.ensures (omega (arith, c.if-place-len.false, c.len.ensures)) c.index_mut.ensures.value (sym c.take.ensures.value ∙ c.in-Some.is) in
    expunge_refused c.expunge-gone.result _ _ c.index_mut-mailbox.result.now c.expunge-gone.new.self c.in-Some.client.handle c.expunge-gone.new.handle c.args.out.now.items c.expunge-gone.new.out.items c.expunge-gone.ensures.err
    (λ still kept. nothing_moved _ c.args.session c.from-place.result c.from.result c.in-Some.client c.index_mut-mailbox.result.now c.expunge-gone.new.self c.expunge-gone.new.handle c.take.new.self c.self.invariant.0 here c.from-place.ensures c.from.ensures c.index_mut-mailbox.ensures.value still kept ∙ c.self.view_is)

pub returns-clause-shown : goal.returns-clause-shown
returns-clause-shown c =
    let i = c.self.inside in
    let e = c.expunge-gone.ensures in
    let here = client_here i.clients.items c.from-place.result c.args.session c.index_mut.result.now c.in-Some.client c.from-place.ensures (omega (arith, c.if-place-len.false, c.len.ensures)) c.index_mut.ensures.value (sym c.take.ensures.value ∙ c.in-Some.is) in
    let h : DeliveryCore = in_groups i.shards.items i.seats.items i.boxes.items i.clients.items in
    rw (← c.self.view_is) (expunge_saw h c.args.session c.from-place.result c.from.result c.in-Some.client c.index_mut-mailbox.result.now c.expunge-gone.new.self c.expunge-gone.new.handle c.take.new.self c.args.out.now.items c.expunge-gone.new.out.items c.expunge-gone.result c.self.invariant.0 here
    c.from-place.ensures c.from.ensures c.index_mut-mailbox.ensures.value e.lapped e.handle e.within e.moved e.written)

pub returns-clause-same : goal.returns-clause-same
returns-clause-same c =
    let i = c.self.inside in
    let here = client_here i.clients.items c.from-place.result c.args.session c.index_mut.result.now c.in-Some.client c.from-place.ensures (omega (arith, c.if-place-len.false, c.len.ensures)) c.index_mut.ensures.value (sym c.take.ensures.value ∙ c.in-Some.is) in
    let within = mailbox_within i.boxes.items i.clients.items c.args.session c.from.result c.in-Some.client c.self.invariant.0 here c.from.ensures in
    let b = c.index_mut-mailbox.result.now in
    let b2 = c.expunge-gone.new.self in
    rw (← c.self.view_is) (same_ok c.expunge-gone.result i.boxes.items c.from.result b b2 within c.index_mut-mailbox.ensures.value (rest_ok c.expunge-gone.result b b2 b2.messages b2.window b2.cursors c.expunge-gone.ensures.rest))

pub returns-clause-memory : goal.returns-clause-memory
returns-clause-memory c =
    let i = c.self.inside in
    let e = c.expunge-gone.ensures in
    let here = client_here i.clients.items c.from-place.result c.args.session c.index_mut.result.now c.in-Some.client c.from-place.ensures (omega (arith, c.if-place-len.false, c.len.ensures)) c.index_mut.ensures.value (sym c.take.ensures.value ∙ c.in-Some.is) in
    let h : DeliveryCore = in_groups i.shards.items i.seats.items i.boxes.items i.clients.items in
    rw (← c.self.view_is) (expunge_memory h c.args.session c.from.result c.in-Some.client c.index_mut-mailbox.result.now c.expunge-gone.result c.self.invariant.0 here c.from.ensures c.index_mut-mailbox.ensures.value e.lapped e.memory)

pub returns-clause-done : goal.returns-clause-done
returns-clause-done c =
    let i = c.self.inside in
    let e = c.expunge-gone.ensures in
    let here = client_here i.clients.items c.from-place.result c.args.session c.index_mut.result.now c.in-Some.client c.from-place.ensures (omega (arith, c.if-place-len.false, c.len.ensures)) c.index_mut.ensures.value (sym c.take.ensures.value ∙ c.in-Some.is) in
    let h : DeliveryCore = in_groups i.shards.items i.seats.items i.boxes.items i.clients.items in
    rw (← c.self.view_is) (expunge_done h c.args.session c.from-place.result c.from.result c.in-Some.client c.index_mut-mailbox.result.now c.expunge-gone.new.self c.expunge-gone.new.handle c.take.new.self (in_set (option_map (λ uids. uids.now) c.args.uids)) c.args.out.now.items
    c.expunge-gone.new.out.items c.expunge-gone.new.self.cursors c.expunge-gone.result c.self.invariant.0 here c.from-place.ensures c.from.ensures c.index_mut-mailbox.ensures.value e.stranger e.lapped e.spent e.err e.shown e.handle e.within e.moved e.next e.logged e.window e.messages e.rest e.count)
