use Rattle.std.proofs.Common.{◌≡◌}
use Rattle.imap_session.specs.Dialogue.{Dialogue, StandsFor}
use Rattle.session_thread.specs.Life.{Turns, moment}
use Rattle.session_thread.proofs.life.wait_for.Given as goal

abbrev pub invariant-loop-turn : goal.invariant-loop-turn
invariant-loop-turn g l = (g.O.Outlet.lot l.out ≡ g.O.Outlet.lot l.fn.out) × ((d : Dialogue) → StandsFor l.fn.connection d → (now : Dialogue) × StandsFor l.connection now × Turns l.count (moment d l.fn.store (g.O.Outlet.said l.fn.out)) l._turn (moment now l.store (g.O.Outlet.said l.out)))
