use Rattle.std.proofs.Common.{ap, sym, ◌∙◌}
use Rattle.session_thread.specs.Locks.{LockedStore}
use Rattle.session_thread.specs.Locks.{entered_at}
use Rattle.session_thread.proofs.Shown.{expunges}
use Rattle.session_thread.proofs.locked_store.LockedStoreStore.expunge.Goals as goal

pub returns-clause-event : goal.returns-clause-event
returns-clause-event g c =
    let v = c.self.view_is in
    let h = ap (λ (p : LockedStore). p.history) v in
    expunges c.args.self.now c.in-Some.here c.expunge-gone.result.1 _ c.args.out.now.items c.expunge-gone.new.out.items c.expunge-gone.result.0 c.again-front.result c.again.result c.expunge-gone.new.front c.seen_behind.result _
    (ap (λ (p : LockedStore). p.entered) (sym v) ∙ sym c.take.ensures.value ∙ c.in-Some.is) (c.again-front.ensures ∙ h) (c.again.ensures ∙ h) c.seen_behind.ensures
    (ap (λ (p : LockedStore). entered_at p c.in-Some.here c.expunge-gone.result.1 c.seen_behind.result) v) c.expunge-gone.ensures.event
