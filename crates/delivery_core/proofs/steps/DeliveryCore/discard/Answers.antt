use Rattle.std.proofs.Common.{◌∙◌, List, Some, ap, arith, set, subst, sym}
use Rattle.delivery_core.specs.DeliveryCore.{DeliveryCore, view_of}
use Rattle.delivery_core.specs.Attached.{AreAttached}
use Rattle.delivery_core.specs.Stands.{StandsFor}
use Rattle.mailbox.specs.Events.{in_set}
use Rattle.cursor_set.specs.Cursors.{CursorSet}
use Rattle.delivery_core.proofs.AttachedLaws.{cursors_same}
use Rattle.delivery_core.proofs.Boxes.{kept_set, same_ok}
use Rattle.delivery_core.proofs.Discarding.{Spares, discard_follows, spared_core, spared_cursors, spared_fault, spared_history, spared_known, spared_same}
use Rattle.delivery_core.proofs.Looks.{same_view}
use Rattle.delivery_core.specs.inner.DeliveryCore.{in_groups}
use Rattle.delivery_core.proofs.steps.DeliveryCore.discard.Goals as goal

pub invariant_of-self : goal.invariant_of-self
invariant_of-self c =
    let i = c.self.inside in
    let b = c.index_mut.result.now in
    let b2 = c.discard.new.self in
    let spares : Spares c.discard.result b b2 = record { only = c.discard.ensures.only; rest = c.discard.ensures.rest } in
    let kept = cursors_same i.boxes.items c.from-number.result b b2 (omega (arith, c.len.ensures, c.if-number-len.false)) c.index_mut.ensures.value (spared_cursors c.discard.result b b2 spares) in (
      subst (λ (all : List CursorSet). AreAttached all i.clients.items) (sym kept) c.self.invariant.0,
      kept_set i.boxes.items c.from-number.result b b2 c.self.invariant.1 c.index_mut.ensures.value (spared_history c.discard.result b b2 spares),
    )

pub returns-clause-stranger : goal.returns-clause-stranger
returns-clause-stranger c =
    let b = c.index_mut.result.now in
    let b2 = c.discard.new.self in
    let spares : Spares c.discard.result b b2 = record { only = c.discard.ensures.only; rest = c.discard.ensures.rest } in
    rw (← c.self.view_is) ((λ e. absurd (spared_known c.discard.result b b2 spares e)), (λ few. absurd (omega (arith, few, c.from-number.ensures, c.len.ensures, c.if-number-len.false))))

pub returns-clause-faults : goal.returns-clause-faults
returns-clause-faults c = spared_fault c.discard.result c.index_mut.result.now c.discard.new.self (record { only = c.discard.ensures.only; rest = c.discard.ensures.rest })

pub returns-clause-event : goal.returns-clause-event
returns-clause-event c known k w S =
    let e = c.discard.ensures in
    discard_follows k w _ c.args.mailbox c.from-number.result c.index_mut.result.now c.discard.new.self (in_set (Some c.args.uids.now)) c.discard.result (subst (λ (h : DeliveryCore). StandsFor k h w) (sym c.self.view_is) S) c.from-number.ensures
    (omega (arith, c.len.ensures, c.if-number-len.false)) c.index_mut.ensures.value e.spent (record { only = e.only; rest = e.rest }) e.logged e.window e.messages

pub returns-clause-views : goal.returns-clause-views
returns-clause-views c n =
    let i = c.self.inside in
    let b = c.index_mut.result.now in
    let b2 = c.discard.new.self in
    let spares : Spares c.discard.result b b2 = record { only = c.discard.ensures.only; rest = c.discard.ensures.rest } in
    let h : DeliveryCore = in_groups i.shards.items i.seats.items i.boxes.items i.clients.items in
    same_view h (set i.boxes.items c.from-number.result b2) n (cursors_same i.boxes.items c.from-number.result b b2 (omega (arith, c.len.ensures, c.if-number-len.false)) c.index_mut.ensures.value (spared_cursors c.discard.result b b2 spares))
    ∙ ap (λ (x : DeliveryCore). view_of x n) c.self.view_is

pub returns-clause-same : goal.returns-clause-same
returns-clause-same c =
    let i = c.self.inside in
    let b = c.index_mut.result.now in
    let b2 = c.discard.new.self in
    rw (← c.self.view_is) (same_ok c.discard.result i.boxes.items c.from-number.result b b2 (omega (arith, c.len.ensures, c.if-number-len.false)) c.index_mut.ensures.value (spared_same c.discard.result b b2 (record { only = c.discard.ensures.only; rest = c.discard.ensures.rest })))

pub returns-clause-refused : goal.returns-clause-refused
returns-clause-refused c =
    let i = c.self.inside in
    let b = c.index_mut.result.now in
    let b2 = c.discard.new.self in
    let h : DeliveryCore = in_groups i.shards.items i.seats.items i.boxes.items i.clients.items in
    spared_core c.discard.result h c.args.self.now c.from-number.result b b2 (record { only = c.discard.ensures.only; rest = c.discard.ensures.rest }) (omega (arith, c.len.ensures, c.if-number-len.false)) c.index_mut.ensures.value c.self.view_is
