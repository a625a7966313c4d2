use Rattle.std.proofs.Common.{subst, Result}
use Rattle.std.specs.Prelude.{OnOk}
use Rattle.workers_sync.specs.declared.courier.Lost.{Lost}
use Rattle.session_thread.specs.Life.{Departs}
use Rattle.imap_stream.specs.Visits.{Visit}
use Rattle.imap_stream.proofs.visit.Visit.leave.Goals.{in-Ok, in-Err}
use Rattle.imap_stream.proofs.visit.Visit.leave.Goals as goal

pub returns-clause-departs : goal.returns-clause-departs
returns-clause-departs g c =
    let gone = subst (λ (v : Visit). OnOk c.depart.result (Departs v.selection c.depart.new.store)) c.self.view_is c.depart.ensures.gone in
    elim c.match-depart.branch [
      | in-Ok w ↦ rw w.result-is (subst (λ (r : Result (Unit {0}) Lost). OnOk r (Departs c.args.self.now.selection c.depart.new.store)) w.in-Ok.is gone)
      | in-Err w ↦ rw w.result-is tt
    ]
