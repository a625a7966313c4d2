use Rattle.tests_streams.proofs.tests.sessions.a_session_of_another_mailbox_is_told_so_and_ends.Given as goal

-- the history that was just opened
abbrev pub ghosts-is_so : goal.ghosts-is_so
ghosts-is_so g a = record { book = a.history }
