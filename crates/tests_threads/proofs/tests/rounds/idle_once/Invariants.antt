use Rattle.std.specs.Prelude.{Some}
use Rattle.shared_consumers.specs.Keeping.{parts_of}
use Rattle.tests_threads.proofs.tests.rounds.idle_once.Given as goal

abbrev pub ghosts-idle_in : goal.ghosts-idle_in
ghosts-idle_in g a = record { lanes = Some a.shared.now.intake.lanes.items; delivery = Some (parts_of a.shared.now.delivery) }
