use Rattle.std.proofs.Common.{◌≡◌, ◌++◌, List, take}
use Rattle.workers_sync.specs.Carried.{Carried}
use Rattle.imap_session.specs.Dialogue.{Dialogue, StandsFor}
use Rattle.session_thread.specs.Life.{Lives, moment}
use Rattle.session_thread.proofs.life.make_all.Given as goal

abbrev pub invariant-loop-step : goal.invariant-loop-step
invariant-loop-step g l =
    g.C.Courier.ready l.courier
    × ((first : g.row.C.Denot) → g.C.Courier.kept first l.fn.courier → g.C.Courier.kept first l.courier)
    × (g.O.Outlet.lot l.out ≡ g.O.Outlet.lot l.fn.out)
    × ((carried : List Carried) × ((done : List Carried) → g.C.Courier.carried l.fn.courier done → g.C.Courier.carried l.courier (done ++ carried))
    × ((d : Dialogue) → StandsFor l.fn.connection d → (now : Dialogue) × StandsFor l.connection now × Lives l.turns (moment d l.fn.store (g.O.Outlet.said l.fn.out)) (take l.step-index l.steps) carried (moment now l.store (g.O.Outlet.said l.out))))
