use Rattle.std.proofs.Common.{true, false, subst}
use Rattle.script.specs.inner.Kept.{HasRead}
use Rattle.script.proofs.KeptLaws.{read_before}
use Rattle.script.proofs.reading.read_front.Goals as goal

pub returns-then-branch-clause-read : goal.returns-then-branch-clause-read
returns-then-branch-clause-read g c xs is =
    read_before xs _ _ c.loop.line.items _ true (c.loop.invariant.1 xs is)
    (λ ys at. subst (λ ended. HasRead ys c.loop.line.items (g.R.Read.remaining c.read_shown.new.reader) c.read_shown.new.line.items ended)
    c.if-branch.true (c.in_ok-read_shown.ensures.read ys at))

pub loop-preserved : goal.loop-preserved
loop-preserved g c = (
  c.read_shown.ensures.bounded,
  λ xs is.
      read_before xs _ _ c.loop.line.items _ false (c.loop.invariant.1 xs is)
      (λ ys at. subst (λ ended. HasRead ys c.loop.line.items (g.R.Read.remaining c.read_shown.new.reader) c.read_shown.new.line.items ended)
      c.if-branch.false (c.in_ok-read_shown.ensures.read ys at)),
)
