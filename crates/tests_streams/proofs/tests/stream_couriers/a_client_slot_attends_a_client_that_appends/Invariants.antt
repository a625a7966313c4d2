use Rattle.tests_streams.proofs.tests.stream_couriers.a_client_slot_attends_a_client_that_appends.Given as goal

-- the history that was just opened
abbrev pub ghosts-is_attended : goal.ghosts-is_attended
ghosts-is_attended g a = record { book = a.history }
