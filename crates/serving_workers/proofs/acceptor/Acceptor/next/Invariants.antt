use Rattle.std.proofs.Common.{◌≡◌}
use Rattle.serving_workers.proofs.acceptor.Acceptor.next.Given as goal

abbrev pub invariant-loop : goal.invariant-loop
invariant-loop g l = (goal.iterator-loop g).can_next l.iterator' × (goal.iterator-loop g).is_finite l.iterator' × (g.L.Line.told l.line ≡ g.L.Line.told l.fn.line)
