use Rattle.std.proofs.Common.{◌≤◌, arith, leb-true, subst, sym}
use Rattle.delivery_core.specs.DeliveryCore.{DeliveryCore}
use Rattle.delivery_core.specs.inner.DeliveryCore.{in_groups}
use Rattle.delivery_core.specs.Stands.{StandsFor}
use Rattle.delivery_core.proofs.Behind.{up_to_date}
use Rattle.delivery_core.proofs.Mailed.{client_here, mailbox_within}
use Rattle.delivery_core.proofs.steps.DeliveryCore.is_up_to_date.Goals as goal

pub index-requires-2 : goal.index-requires-2
index-requires-2 c =
    let i = c.self.inside in
    let here = client_here i.clients.items c.from-place.result c.args.session c.index.result.now c.in-Some.client c.from-place.ensures (omega (arith, c.if-place-len.false, c.len.ensures)) c.index.ensures c.in-Some.is in
    omega (arith, mailbox_within i.boxes.items i.clients.items c.args.session c.from.result c.in-Some.client c.self.invariant.0 here c.from.ensures, i.boxes.ok.0)

pub returns-clause-log : goal.returns-clause-log
returns-clause-log c h k w S =
    let i = c.self.inside in
    let x : DeliveryCore = in_groups i.shards.items i.seats.items i.boxes.items i.clients.items in
    let here = client_here i.clients.items c.from-place.result c.args.session c.index.result.now c.in-Some.client c.from-place.ensures (omega (arith, c.if-place-len.false, c.len.ensures)) c.index.ensures c.in-Some.is in
    let all : c.total.result ≤ c.from-2.result = leb-true c.total.result c.from-2.result h in
    up_to_date k w x c.args.session c.from.result c.in-Some.client c.index-2.result.now (subst (λ (y : DeliveryCore). StandsFor k y w) (sym c.self.view_is) S) here c.from.ensures c.index-2.ensures (omega (arith, all, c.total.ensures, c.at.ensures, c.from-2.ensures))
