use Rattle.std.proofs.Common.{◌≡◌, ◌∙◌, ap, false, arith, take}
use Rattle.line_io.specs.Outlet.{Buffer}
use Rattle.line_io.proofs.Tying.{tied_passed, same_failed}
use Rattle.line_io.proofs.buffer.Buffer.pass.Goals as goal

pub invariant_of-self : goal.invariant_of-self
invariant_of-self g c =
    let goes : c.self.inside.has_failed ≡ false = c.self.invariant.0 ∙ ap (λ (b : Buffer). b.failed) c.self.view_is ∙ c.requires.going in
    let none = ap (λ (b : Buffer). b.pending) c.self.view_is ∙ c.requires.none in (
      same_failed _ _ _ c.is_err-self-inside.ensures.value c.send-sent.ensures.live c.send-sent.ensures.failed,
      omega arith,
      rw (c.is_err-self-inside.ensures.value, c.note.ensures) (tied_passed _ _ _ _ (take c.self.inside.filled c.self.inside.row.items) _ _ c.send-sent.result goes none c.self.invariant.2
          c.send-sent.ensures.ok c.send-sent.ensures.fault c.send-sent.ensures.sent),
    )
