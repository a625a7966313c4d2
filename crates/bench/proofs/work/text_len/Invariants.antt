use Rattle.std.proofs.Common.{◌≡◌, None}
use Rattle.bench.proofs.work.text_len.Given as goal

abbrev pub invariant-loop-piece : goal.invariant-loop-piece
invariant-loop-piece l =
    (goal.iterator-loop-piece).can_next l.piece-iterator ×
    (goal.iterator-loop-piece).is_finite l.piece-iterator ×
    (l.unstuffer.outcome ≡ None)
