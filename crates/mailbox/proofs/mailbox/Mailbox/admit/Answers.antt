use Rattle.std.proofs.Common.{◌≡◌, ap, arith}
use Rattle.std.specs.Prelude.{None, option_map, Some, Option, List, ℕ}
use Rattle.change_ring.specs.Log.{total}
use Rattle.cursor_set.specs.Cursors.{Open, held}
use Rattle.cursor_set.proofs.OpenedLemmas.{held_in_slot}
use Rattle.mailbox.specs.Mailbox.{Mailbox}
use Rattle.mailbox.proofs.Handles.{held_at, held_some}
use Rattle.mailbox.proofs.mailbox.Mailbox.admit.Goals as goal

no_view : {view : List ℕ} (x : Option Open) → option_map (λ (o : Open). o.view) x ≡ Some view → x ≡ None → ⊥
no_view None e none = cc
no_view (Some o) e none = cc

pub returns-clause-within : goal.returns-clause-within
returns-clause-within c =
    let b = c.self.inside in
    let handle = c.args.handle.now in
    let h = held_some (held b.cursors handle) (no_view (held b.cursors handle) c.in_ok-_view.ensures.ok) in
    let shown = c.self.invariant.2.1.cursors handle.slot h.0 (held_in_slot b.cursors handle h.0 h.1) in
    let same = ap (λ (m : Mailbox). total m.window) c.self.view_is in
    omega (arith, shown.within, c.self.invariant.2.1.window.long, held_at b.cursors handle h.0 h.1, same)
