use Rattle.serving.proofs.server.serve.Given as goal

-- the history that was just opened
abbrev pub ghosts-serve_named : goal.ghosts-serve_named
ghosts-serve_named g a = record { book = a.beginning.history }
