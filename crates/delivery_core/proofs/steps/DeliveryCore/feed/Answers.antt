use Rattle.std.proofs.Common.{◌∙◌, ap, arith, subst, sym}
use Rattle.std.specs.Prelude.{slice_index_or}
use Rattle.mailbox.specs.Mailbox.{Mailbox}
use Rattle.mailbox.specs.Answers.{answer_of}
use Rattle.delivery_core.specs.DeliveryCore.{DeliveryCore}
use Rattle.delivery_core.specs.inner.DeliveryCore.{in_groups}
use Rattle.delivery_core.specs.Stands.{StandsFor}
use Rattle.delivery_core.proofs.Calls.{not_strange}
use Rattle.delivery_core.proofs.Behind.{feed_less}
use Rattle.delivery_core.proofs.Boxes.{kept_set, rest_always, same_ok}
use Rattle.delivery_core.proofs.Mailed.{client_here, known_at, mailbox_within, moved_attached, nothing_moved}
use Rattle.delivery_core.proofs.Shown.{by_answer, feed_count, feed_done, feed_memory, feed_saw, feed_follows, feed_moves, feed_refused, feed_strange, never_spent}
use Rattle.delivery_core.proofs.steps.DeliveryCore.feed.Goals as goal

pub index_mut-mailbox-requires : goal.index_mut-mailbox-requires
index_mut-mailbox-requires c =
    let i = c.self.inside in
    let here = client_here i.clients.items c.from-place.result c.args.session c.index_mut.result.now c.in-Some.client c.from-place.ensures (omega (arith, c.if-place-len.false, c.len.ensures)) c.index_mut.ensures.value (sym c.take.ensures.value ∙ c.in-Some.is) in
    omega (arith, mailbox_within i.boxes.items i.clients.items c.args.session c.from.result c.in-Some.client c.self.invariant.0 here c.from.ensures, i.boxes.ok.0)

pub invariant_of-self-2 : goal.invariant_of-self-2
invariant_of-self-2 c =
    let i = c.self.inside in
    let e = c.feed-fed.ensures in
    let b = c.index_mut-mailbox.result.now in
    let here = client_here i.clients.items c.from-place.result c.args.session c.index_mut.result.now c.in-Some.client c.from-place.ensures (omega (arith, c.if-place-len.false, c.len.ensures)) c.index_mut.ensures.value (sym c.take.ensures.value ∙ c.in-Some.is) in
    let there = c.index_mut-mailbox.ensures.value in
    let some = known_at i.boxes.items i.clients.items c.args.session c.in-Some.client b c.self.invariant.0 here (there ∙ ap (λ j. slice_index_or i.boxes.items j b) c.from.ensures) in
    let moves = feed_moves b c.feed-fed.new.self c.in-Some.client.handle c.feed-fed.new.handle c.args.limit c.args.out.now.items c.feed-fed.new.out.items c.feed-fed.result some e.lapped e.err e.count e.handle e.moved e.next in (
      moved_attached i.boxes.items i.clients.items c.args.session c.from-place.result c.from.result c.in-Some.client b c.feed-fed.new.self c.feed-fed.new.handle c.take.new.self c.self.invariant.0 here c.from-place.ensures c.from.ensures there moves,
      kept_set i.boxes.items c.from.result b c.feed-fed.new.self c.self.invariant.1 there (ap (λ (z : Mailbox). z.history) e.rest),
    )

pub returns-clause-spent : goal.returns-clause-spent
returns-clause-spent c = λ f. never_spent c.feed-fed.result (sym c.answer_of.ensures ∙ f)

pub returns-clause-stranger : goal.returns-clause-stranger
returns-clause-stranger c =
    let i = c.self.inside in
    let here = client_here i.clients.items c.from-place.result c.args.session c.index_mut.result.now c.in-Some.client c.from-place.ensures (omega (arith, c.if-place-len.false, c.len.ensures)) c.index_mut.ensures.value (sym c.take.ensures.value ∙ c.in-Some.is) in
    rw (← c.self.view_is, c.answer_of.ensures) (not_strange (answer_of c.feed-fed.result) i.boxes.items i.clients.items c.args.session c.from.result c.in-Some.client c.index_mut-mailbox.result.now c.self.invariant.0 here c.from.ensures c.index_mut-mailbox.ensures.value
    (feed_strange c.feed-fed.result c.index_mut-mailbox.result.now c.in-Some.client.handle c.feed-fed.ensures.stranger))

pub returns-clause-event : goal.returns-clause-event
returns-clause-event c there k w S =
    let i = c.self.inside in
    let e = c.feed-fed.ensures in
    let here = client_here i.clients.items c.from-place.result c.args.session c.index_mut.result.now c.in-Some.client c.from-place.ensures (omega (arith, c.if-place-len.false, c.len.ensures)) c.index_mut.ensures.value (sym c.take.ensures.value ∙ c.in-Some.is) in
    feed_follows k w _ c.args.session c.from-place.result c.from.result c.in-Some.client c.index_mut-mailbox.result.now c.feed-fed.new.self c.feed-fed.new.handle c.take.new.self c.args.limit c.args.out.now.items c.feed-fed.new.out.items c.feed-fed.result c.answer_of.result
    (subst (λ (h : DeliveryCore). StandsFor k h w) (sym c.self.view_is) S) here c.from-place.ensures c.from.ensures c.index_mut-mailbox.ensures.value c.answer_of.ensures e.stranger e.lapped e.err e.count e.shown e.handle e.logged e.rest e.moved e.next

pub returns-clause-refused : goal.returns-clause-refused
returns-clause-refused c =
    let i = c.self.inside in
    let here = client_here i.clients.items c.from-place.result c.args.session c.index_mut.result.now c.in-Some.client c.from-place.ensures (omega (arith, c.if-place-len.false, c.len.ensures)) c.index_mut.ensures.value (sym c.take.ensures.value ∙ c.in-Some.is) in
    feed_refused c.feed-fed.result c.answer_of.result _ _ c.index_mut-mailbox.result.now c.feed-fed.new.self c.in-Some.client.handle c.feed-fed.new.handle c.args.out.now.items c.feed-fed.new.out.items c.answer_of.ensures c.feed-fed.ensures.err
    (λ still kept. nothing_moved _ c.args.session c.from-place.result c.from.result c.in-Some.client c.index_mut-mailbox.result.now c.feed-fed.new.self c.feed-fed.new.handle c.take.new.self c.self.invariant.0 here c.from-place.ensures c.from.ensures c.index_mut-mailbox.ensures.value still kept ∙ c.self.view_is)

pub returns-clause-shown : goal.returns-clause-shown
returns-clause-shown c =
    let i = c.self.inside in
    let e = c.feed-fed.ensures in
    let here = client_here i.clients.items c.from-place.result c.args.session c.index_mut.result.now c.in-Some.client c.from-place.ensures (omega (arith, c.if-place-len.false, c.len.ensures)) c.index_mut.ensures.value (sym c.take.ensures.value ∙ c.in-Some.is) in
    let h : DeliveryCore = in_groups i.shards.items i.seats.items i.boxes.items i.clients.items in
    rw (← c.self.view_is) (feed_saw h c.args.session c.from-place.result c.from.result c.in-Some.client c.index_mut-mailbox.result.now c.feed-fed.new.self c.feed-fed.new.handle c.take.new.self c.args.limit c.args.out.now.items c.feed-fed.new.out.items c.feed-fed.result c.answer_of.result c.self.invariant.0 here
    c.from-place.ensures c.from.ensures c.index_mut-mailbox.ensures.value c.answer_of.ensures e.lapped e.count e.handle e.moved e.written)

pub returns-clause-count : goal.returns-clause-count
returns-clause-count c =
    let i = c.self.inside in
    let e = c.feed-fed.ensures in
    let here = client_here i.clients.items c.from-place.result c.args.session c.index_mut.result.now c.in-Some.client c.from-place.ensures (omega (arith, c.if-place-len.false, c.len.ensures)) c.index_mut.ensures.value (sym c.take.ensures.value ∙ c.in-Some.is) in
    let h : DeliveryCore = in_groups i.shards.items i.seats.items i.boxes.items i.clients.items in
    rw (← c.self.view_is) (feed_count h c.args.session c.from.result c.in-Some.client c.index_mut-mailbox.result.now c.args.limit c.feed-fed.result c.answer_of.result c.self.invariant.0 here c.from.ensures c.index_mut-mailbox.ensures.value c.answer_of.ensures e.lapped e.count)

pub returns-clause-same : goal.returns-clause-same
returns-clause-same c =
    let i = c.self.inside in
    let here = client_here i.clients.items c.from-place.result c.args.session c.index_mut.result.now c.in-Some.client c.from-place.ensures (omega (arith, c.if-place-len.false, c.len.ensures)) c.index_mut.ensures.value (sym c.take.ensures.value ∙ c.in-Some.is) in
    let within = mailbox_within i.boxes.items i.clients.items c.args.session c.from.result c.in-Some.client c.self.invariant.0 here c.from.ensures in
    let b = c.index_mut-mailbox.result.now in
    let b2 = c.feed-fed.new.self in
    rw (← c.self.view_is) (same_ok c.answer_of.result i.boxes.items c.from.result b b2 within c.index_mut-mailbox.ensures.value (rest_always c.answer_of.result b b2 b.messages b.window b2.cursors c.feed-fed.ensures.rest))

pub returns-clause-memory : goal.returns-clause-memory
returns-clause-memory c =
    let i = c.self.inside in
    let e = c.feed-fed.ensures in
    let here = client_here i.clients.items c.from-place.result c.args.session c.index_mut.result.now c.in-Some.client c.from-place.ensures (omega (arith, c.if-place-len.false, c.len.ensures)) c.index_mut.ensures.value (sym c.take.ensures.value ∙ c.in-Some.is) in
    let h : DeliveryCore = in_groups i.shards.items i.seats.items i.boxes.items i.clients.items in
    rw (← c.self.view_is) (feed_memory h c.args.session c.from.result c.in-Some.client c.index_mut-mailbox.result.now c.args.limit c.feed-fed.result c.answer_of.result c.self.invariant.0 here c.from.ensures c.index_mut-mailbox.ensures.value c.answer_of.ensures e.lapped e.memory)

pub returns-clause-done : goal.returns-clause-done
returns-clause-done c =
    let i = c.self.inside in
    let e = c.feed-fed.ensures in
    let here = client_here i.clients.items c.from-place.result c.args.session c.index_mut.result.now c.in-Some.client c.from-place.ensures (omega (arith, c.if-place-len.false, c.len.ensures)) c.index_mut.ensures.value (sym c.take.ensures.value ∙ c.in-Some.is) in
    let h : DeliveryCore = in_groups i.shards.items i.seats.items i.boxes.items i.clients.items in
    rw (← c.self.view_is) (by_answer _ c.feed-fed.result c.answer_of.result c.answer_of.ensures
    (feed_done h c.args.session c.from-place.result c.from.result c.in-Some.client c.index_mut-mailbox.result.now c.feed-fed.new.self c.feed-fed.new.handle c.take.new.self c.args.limit c.args.out.now.items c.feed-fed.new.out.items c.feed-fed.result c.self.invariant.0 here
    c.from-place.ensures c.from.ensures c.index_mut-mailbox.ensures.value e.stranger e.lapped e.err e.count e.shown e.handle e.logged e.rest e.moved e.next))

pub returns-clause-less : goal.returns-clause-less
returns-clause-less c =
    let i = c.self.inside in
    let e = c.feed-fed.ensures in
    let here = client_here i.clients.items c.from-place.result c.args.session c.index_mut.result.now c.in-Some.client c.from-place.ensures (omega (arith, c.if-place-len.false, c.len.ensures)) c.index_mut.ensures.value (sym c.take.ensures.value ∙ c.in-Some.is) in
    let h : DeliveryCore = in_groups i.shards.items i.seats.items i.boxes.items i.clients.items in
    rw (← c.self.view_is) (feed_less h c.args.session c.from-place.result c.from.result c.in-Some.client c.index_mut-mailbox.result.now c.feed-fed.new.self c.feed-fed.new.handle c.take.new.self c.args.limit c.feed-fed.result c.answer_of.result c.self.invariant.0 here
    c.from-place.ensures c.from.ensures c.index_mut-mailbox.ensures.value c.answer_of.ensures e.count e.handle e.rest)
