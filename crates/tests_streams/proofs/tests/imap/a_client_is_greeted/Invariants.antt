use Rattle.tests_streams.proofs.tests.imap.a_client_is_greeted.Given as goal

-- the history that was just opened
abbrev pub ghosts-greeted : goal.ghosts-greeted
ghosts-greeted g a = record { book = a.history }
