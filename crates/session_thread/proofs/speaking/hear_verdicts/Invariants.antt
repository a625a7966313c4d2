use Rattle.std.proofs.Common.{◌≡◌, ◌++◌, List}
use Rattle.workers_sync.specs.Carried.{Carried}
use Rattle.imap_session.specs.Dialogue.{Dialogue, StandsFor}
use Rattle.session_thread.specs.Life.{moment}
use Rattle.session_thread.specs.inner.Hearing.{HearsOn, verdicts_left}
use Rattle.session_thread.proofs.speaking.hear_verdicts.Given as goal

abbrev pub invariant-loop-connection : goal.invariant-loop-connection
invariant-loop-connection g l =
    g.C.Courier.ready l.courier
    × ((first : g.row.C.Denot) → g.C.Courier.kept first l.fn.courier → g.C.Courier.kept first l.courier)
    × (g.O.Outlet.lot l.out ≡ g.O.Outlet.lot l.fn.out)
    × ((carried : List Carried) × ((done : List Carried) → g.C.Courier.carried l.fn.courier done → g.C.Courier.carried l.courier (done ++ carried))
    × ((d : Dialogue) → StandsFor l.fn.connection d → (next : Dialogue) × StandsFor l.connection next × HearsOn carried (moment d l.fn.store (g.O.Outlet.said l.fn.out)) (moment next l.store (g.O.Outlet.said l.out))))

abbrev pub decreases-loop-connection : goal.decreases-loop-connection
decreases-loop-connection g l = verdicts_left l.connection.session.mailing.sent
