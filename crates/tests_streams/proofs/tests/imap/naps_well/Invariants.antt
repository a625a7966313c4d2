use Rattle.tests_streams.proofs.tests.imap.naps_well.Given as goal

-- the history that was just opened
abbrev pub ghosts-idle_through : goal.ghosts-idle_through
ghosts-idle_through g a = record { book = a.history }
