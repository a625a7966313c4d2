use Rattle.std.specs.Prelude.{Some}
use Rattle.shared_consumers.specs.Keeping.{parts_of}
use Rattle.tests_threads.proofs.tests.rounds.round_in.Given as goal

abbrev pub ghosts-run_in : goal.ghosts-run_in
ghosts-run_in g a = record { lanes = Some a.shared.intake.lanes.items; delivery = Some (parts_of a.shared.delivery) }
