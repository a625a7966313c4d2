use Rattle.tests_threads.proofs.tests.floors.each_mailbox_has_the_bells_of_its_user.Given as goal

-- the history that was just opened
abbrev pub ghosts-opened_for : goal.ghosts-opened_for
ghosts-opened_for g a = record { book = a.history }
