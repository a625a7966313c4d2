use Rattle.std.specs.Prelude.{Some}
use Rattle.shared_consumers.specs.Keeping.{parts_of}
use Rattle.serving.proofs.server.serve_in.Given as goal

abbrev pub ghosts-run_house_in : goal.ghosts-run_house_in
ghosts-run_house_in g a = record { lanes = Some a.opened.shared.intake.lanes.items; delivery = Some (parts_of a.opened.shared.delivery) }
