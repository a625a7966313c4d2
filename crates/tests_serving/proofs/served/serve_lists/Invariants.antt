use Rattle.tests_serving.proofs.served.serve_lists.Given as goal

-- the history that was just opened
abbrev pub ghosts-served : goal.ghosts-served
ghosts-served g a = record { book = a.history }
