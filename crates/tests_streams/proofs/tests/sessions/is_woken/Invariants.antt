use Rattle.tests_streams.proofs.tests.sessions.is_woken.Given as goal

-- the history that was just opened
abbrev pub ghosts-ring_once : goal.ghosts-ring_once
ghosts-ring_once g a = record { book = a.history }
