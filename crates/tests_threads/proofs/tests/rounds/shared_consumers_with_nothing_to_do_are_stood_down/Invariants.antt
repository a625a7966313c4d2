use Rattle.tests_threads.proofs.tests.rounds.shared_consumers_with_nothing_to_do_are_stood_down.Given as goal

-- the history that was just opened
abbrev pub ghosts-idle_once : goal.ghosts-idle_once
ghosts-idle_once g a = record { book = a.history }
