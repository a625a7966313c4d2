use Rattle.std.proofs.Common.{◌≡◌}
use Rattle.imap_session.specs.Dialogue.{Dialogue, StandsFor}
use Rattle.session_thread.specs.Life.{moment}
use Rattle.imap_stream.specs.Visits.{GoesOnShowing}
use Rattle.imap_stream.proofs.turns.show_all.Given as goal

abbrev pub invariant-loop-turn : goal.invariant-loop-turn
invariant-loop-turn g l = (g.O.Outlet.lot l.out ≡ g.O.Outlet.lot l.fn.out) × ((d : Dialogue) → StandsFor l.fn.connection d → (now : Dialogue) × StandsFor l.connection now × GoesOnShowing (moment d l.fn.store (g.O.Outlet.said l.fn.out)) (moment now l.store (g.O.Outlet.said l.out)))
