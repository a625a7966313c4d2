use Rattle.tests_threads.proofs.tests.runs.run.Given as goal

-- the history that was just opened
abbrev pub ghosts-run_named : goal.ghosts-run_named
ghosts-run_named g a = record { book = a.history }
