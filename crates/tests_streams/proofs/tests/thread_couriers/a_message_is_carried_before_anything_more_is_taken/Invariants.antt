use Rattle.tests_streams.proofs.tests.thread_couriers.a_message_is_carried_before_anything_more_is_taken.Given as goal

-- the history that was just opened
abbrev pub ghosts-is_as_wanted : goal.ghosts-is_as_wanted
ghosts-is_as_wanted g a = record { book = a.history }
