use Rattle.tests_streams.proofs.tests.answers.an_answer_leaves_as_it_is_made.Given as goal

-- the history that was just opened
abbrev pub ghosts-asked_in : goal.ghosts-asked_in
ghosts-asked_in g a = record { book = a.history }
