use Rattle.tests_streams.proofs.tests.sessions.says.Given as goal

-- the history that was just opened
abbrev pub ghosts-run_both : goal.ghosts-run_both
ghosts-run_both g a = record { book = a.history }
