use Rattle.running_bench.proofs.threads.deliver_by_threads.Given as goal

-- the history that was just opened
abbrev pub ghosts-delivered : goal.ghosts-delivered
ghosts-delivered g a = record { book = a.history }
