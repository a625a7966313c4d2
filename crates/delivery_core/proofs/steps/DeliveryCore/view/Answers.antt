use Rattle.std.proofs.Common.{◌∙◌, ap, arith, refl, subst, sym}
use Rattle.std.specs.Prelude.{slice_index_or}
use Rattle.delivery_core.specs.DeliveryCore.{DeliveryCore, view_of}
use Rattle.delivery_core.specs.Stands.{StandsFor}
use Rattle.delivery_core.proofs.Looks.{no_stranger_here, view_log, view_shown}
use Rattle.delivery_core.proofs.Mailed.{client_here, known_at, mailbox_within}
use Rattle.delivery_core.specs.inner.DeliveryCore.{in_groups}
use Rattle.delivery_core.proofs.steps.DeliveryCore.view.Goals as goal

pub index-requires-2 : goal.index-requires-2
index-requires-2 c =
    let i = c.self.inside in
    let here = client_here i.clients.items c.from-place.result c.args.session c.index.result.now c.in-Some.client c.from-place.ensures (omega (arith, c.if-place-len.false, c.len.ensures)) c.index.ensures c.in-Some.is in
    omega (arith, mailbox_within i.boxes.items i.clients.items c.args.session c.from.result c.in-Some.client c.self.invariant.0 here c.from.ensures, i.boxes.ok.0)

pub returns-in_err-view-clause-stranger : goal.returns-in_err-view-clause-stranger
returns-in_err-view-clause-stranger c =
    let i = c.self.inside in
    let here = client_here i.clients.items c.from-place.result c.args.session c.index.result.now c.in-Some.client c.from-place.ensures (omega (arith, c.if-place-len.false, c.len.ensures)) c.index.ensures c.in-Some.is in
    let some = known_at i.boxes.items i.clients.items c.args.session c.in-Some.client c.index-2.result.now c.self.invariant.0 here (c.index-2.ensures ∙ ap (λ j. slice_index_or i.boxes.items j c.index-2.result.now) c.from.ensures) in
    absurd (no_stranger_here c.index-2.result.now c.in-Some.client.handle some (c.in_err-view.ensures.stranger.0 refl))

pub returns-clause-shown : goal.returns-clause-shown
returns-clause-shown c =
    let i = c.self.inside in
    let h : DeliveryCore = in_groups i.shards.items i.seats.items i.boxes.items i.clients.items in
    let here = client_here i.clients.items c.from-place.result c.args.session c.index.result.now c.in-Some.client c.from-place.ensures (omega (arith, c.if-place-len.false, c.len.ensures)) c.index.ensures c.in-Some.is in
    view_shown h c.args.session c.from.result c.in-Some.client c.index-2.result.now c.in_ok-view.field-0 c.self.invariant.0 here c.from.ensures c.index-2.ensures c.in_ok-view.ensures.shown ∙ ap (λ (x : DeliveryCore). view_of x c.args.session) c.self.view_is

pub returns-clause-log : goal.returns-clause-log
returns-clause-log c k w S =
    let i = c.self.inside in
    let h : DeliveryCore = in_groups i.shards.items i.seats.items i.boxes.items i.clients.items in
    let here = client_here i.clients.items c.from-place.result c.args.session c.index.result.now c.in-Some.client c.from-place.ensures (omega (arith, c.if-place-len.false, c.len.ensures)) c.index.ensures c.in-Some.is in
    view_log k w h c.args.session c.from.result c.in-Some.client c.index-2.result.now c.in_ok-view.field-0 (subst (λ (x : DeliveryCore). StandsFor k x w) (sym c.self.view_is) S) here c.from.ensures c.index-2.ensures c.in_ok-view.ensures.shown
