use Rattle.tests_streams.proofs.tests.sessions.each_event_asks_to_pass.Given as goal

-- the history that was just opened
abbrev pub ghosts-passes_in : goal.ghosts-passes_in
ghosts-passes_in g a = record { book = a.history }
