use Rattle.tests_streams.proofs.tests.sessions.another_mailbox_is_not_taken_for_the_one_that_was_asked_for.Given as goal

-- the history that was just opened
abbrev pub ghosts-is_so : goal.ghosts-is_so
ghosts-is_so g a = record { book = a.history }
