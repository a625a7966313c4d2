use Rattle.tests_streams.proofs.tests.imap.served.Given as goal

-- the history that was just opened
abbrev pub ghosts-served_in : goal.ghosts-served_in
ghosts-served_in g a = record { book = a.history }
