use Rattle.tests_threads.proofs.tests.floors.a_house_has_all_its_parts.Given as goal

-- the history that was just opened
abbrev pub ghosts-opened_for : goal.ghosts-opened_for
ghosts-opened_for g a = record { book = a.history }
