use Rattle.tests_threads.proofs.tests.rounds.each_copy_is_stored_once_and_all_lanes_close.Given as goal

-- the history that was just opened
abbrev pub ghosts-round_in : goal.ghosts-round_in
ghosts-round_in g a = record { book = a.history }
