use Rattle.std.proofs.Common.{◌≡◌, [], ap, length, arith}
use Rattle.change_ring.specs.Log.{Window}
use Rattle.cursor_set.specs.Cursors.{CursorSet}
use Rattle.mailbox.proofs.StandsLaws.{Stands-new}
use Rattle.mailbox.proofs.mailbox.Mailbox.new.Goals as goal

pub invariant_of-result : goal.invariant_of-result
invariant_of-result c =
    let took : c.new-3.result.items ≡ [] = c.new-3.ensures.items in
    let none = ap length took in
    let empty = ap length c.new-2.ensures in (
      omega (arith, none),
      omega (arith, empty),
      ([], Stands-new _ c.new-2.ensures (ap (λ (w : Window). w.base) c.in_ok-ring.ensures) (ap (λ (w : Window). w.changes) c.in_ok-ring.ensures) took (ap (λ (s : CursorSet). s.slots) c.new-4.ensures)),
      ap (λ (s : CursorSet). s.number) c.new-4.ensures,
    )
