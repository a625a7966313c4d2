use Rattle.serving_workers.proofs.acceptor.Acceptor.next.Goals as goal

pub returns-then-is_shut-clause-none : goal.returns-then-is_shut-clause-none
returns-then-is_shut-clause-none g c none = c.loop.invariant.2
