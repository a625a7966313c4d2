use Rattle.tests_streams.proofs.tests.sessions.each_call_takes_the_lock_of_its_mailbox.Given as goal

-- the history that was just opened
abbrev pub ghosts-is_so : goal.ghosts-is_so
ghosts-is_so g a = record { book = a.history }
