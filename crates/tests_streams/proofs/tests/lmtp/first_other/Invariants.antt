use Rattle.tests_streams.proofs.tests.lmtp.first_other.Given as goal

-- the history that was just opened
abbrev pub ghosts-play : goal.ghosts-play
ghosts-play g a = record { book = a.history }
