use Rattle.std.proofs.Common.{◌≡◌, ◌≤◌, ◌-◌, ◌++◌, List, None, false, length}
use Rattle.workers_sync.specs.Carried.{Carried}
use Rattle.imap_session.specs.Dialogue.{Dialogue, StandsFor}
use Rattle.session_thread.specs.Life.{Speaks, moment}
use Rattle.session_thread.proofs.speaking.answer.Given as goal

abbrev pub invariant-loop-alloc : goal.invariant-loop-alloc
invariant-loop-alloc g l =
    g.C.Courier.ready l.courier
    × ((first : g.row.C.Denot) → g.C.Courier.kept first l.fn.courier → g.C.Courier.kept first l.courier)
    × (l.used ≤ length l.bytes)
    × (l.connection.session.ended ≡ false)
    × (l.connection.session.mailing.sent ≡ None)
    × (g.O.Outlet.lot l.out ≡ g.O.Outlet.lot l.fn.out)
    × ((carried : List Carried) × ((done : List Carried) → g.C.Courier.carried l.fn.courier done → g.C.Courier.carried l.courier (done ++ carried))
    × ((d : Dialogue) → StandsFor l.fn.connection d → (now : Dialogue) × StandsFor l.connection now × Speaks l.bytes (moment d l.fn.store (g.O.Outlet.said l.fn.out)) l.used carried (moment now l.store (g.O.Outlet.said l.out))))

abbrev pub decreases-loop-alloc : goal.decreases-loop-alloc
decreases-loop-alloc g l = length l.bytes - l.used
