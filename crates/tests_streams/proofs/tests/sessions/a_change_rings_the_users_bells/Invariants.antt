use Rattle.tests_streams.proofs.tests.sessions.a_change_rings_the_users_bells.Given as goal

-- the history that was just opened
abbrev pub ghosts-is_so : goal.ghosts-is_so
ghosts-is_so g a = record { book = a.history }
