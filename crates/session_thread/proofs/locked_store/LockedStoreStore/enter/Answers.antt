use Rattle.std.proofs.Common.{arith, ap, sym, ◌∙◌}
use Rattle.std.proofs.lemmas.Result.{err_from_is_err_and}
use Rattle.session_thread.specs.Locks.{LockedStore}
use Rattle.session_thread.proofs.Shown.{is_nowhere, stays_out}
use Rattle.session_thread.proofs.locked_store.LockedStoreStore.enter.Goals as goal

pub returns-in_err-handle : goal.returns-in_err-handle
returns-in_err-handle g c =
    let u = c.in_err-handle.ensures.held in
    let p = err_from_is_err_and c.from_residual.result c.from_residual.ensures.1 in
    rw (p.1, p.2) (
      c.self.view_is,
      stays_out _ c.args.mailbox _ c.again-front.result c.enter.new.front _ (sym (ap (λ (p : LockedStore). p.entered) c.self.view_is) ∙ is_nowhere c.self.inside.entered c.is_some.result c.is_some.ensures c.if-is_some.false)
          (omega (arith, c.if-from-self.false, ap (λ (p : LockedStore). p.mailboxes) c.self.view_is, c.from.ensures)) u,
    )
