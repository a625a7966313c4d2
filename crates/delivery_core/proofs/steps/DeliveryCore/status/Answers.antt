use Rattle.std.proofs.Common.{arith, subst, sym}
use Rattle.delivery_core.specs.DeliveryCore.{DeliveryCore}
use Rattle.delivery_core.specs.inner.DeliveryCore.{in_groups}
use Rattle.delivery_core.specs.Stands.{StandsFor}
use Rattle.delivery_core.proofs.Looks.{status_told}
use Rattle.delivery_core.proofs.steps.DeliveryCore.status.Goals as goal

pub returns-clause-status : goal.returns-clause-status
returns-clause-status c k w S =
    let i = c.self.inside in
    let h : DeliveryCore = in_groups i.shards.items i.seats.items i.boxes.items i.clients.items in
    status_told k w h c.args.mailbox c.from-number.result c.index.result.now c.status.result (subst (λ (x : DeliveryCore). StandsFor k x w) (sym c.self.view_is) S) c.from-number.ensures (omega (arith, c.if-number-len.false, c.len.ensures)) c.index.ensures c.status.ensures
