use Rattle.tests_streams.proofs.tests.stream_couriers.a_visit_answers_verdicts.Given as goal

-- the history that was just opened
abbrev pub ghosts-is_as_wanted : goal.ghosts-is_as_wanted
ghosts-is_as_wanted g a = record { book = a.history }
