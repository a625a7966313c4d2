use Rattle.tests_streams.proofs.tests.imap.each_call_says_what_came_of_it.Given as goal

-- the history that was just opened
abbrev pub ghosts-first_other : goal.ghosts-first_other
ghosts-first_other g a = record { book = a.history }
