use Rattle.std.proofs.Common.{◌≡◌, ◌∙◌, ap, false, arith, take, subst, sym, List, ℕ}
use Rattle.line_io.specs.Outlet.{Buffer}
use Rattle.line_io.specs.inner.Buffer.{Tied, logged, start_of}
use Rattle.line_io.proofs.Tying.{tied_poured, same_failed}
use Rattle.line_io.proofs.buffer.Buffer.pour.Goals as goal

pub invariant_of-self : goal.invariant_of-self
invariant_of-self g c =
    let goes : c.self.inside.has_failed ≡ false = c.self.invariant.0 ∙ ap (λ (b : Buffer). b.failed) c.self.view_is ∙ c.requires.going in
    let i = c.self.inside in
    let tied = subst (λ (row : List ℕ). Tied (start_of g.W.Sink.taken i.begun.items) (g.W.Sink.taken i.sink) (logged i.said.items) (take i.filled row) i.has_failed)
    (sym c.deref.ensures.value) c.self.invariant.2 in (
      same_failed _ _ _ c.is_err-self-inside.ensures.value c.send-sent.ensures.live c.send-sent.ensures.failed,
      omega arith,
      rw c.is_err-self-inside.ensures.value (tied_poured _ _ _ _ (take i.filled c.deref.result.now) _ c.send-sent.result goes tied
          c.send-sent.ensures.ok c.send-sent.ensures.fault c.send-sent.ensures.sent),
    )
