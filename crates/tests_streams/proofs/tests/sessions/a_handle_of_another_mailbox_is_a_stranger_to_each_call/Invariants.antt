use Rattle.tests_streams.proofs.tests.sessions.a_handle_of_another_mailbox_is_a_stranger_to_each_call.Given as goal

-- the history that was just opened
abbrev pub ghosts-is_so : goal.ghosts-is_so
ghosts-is_so g a = record { book = a.history }
