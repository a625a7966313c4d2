use Rattle.std.proofs.Common.{ap, sym, ◌∙◌}
use Rattle.session_thread.specs.Locks.{LockedStore}
use Rattle.session_thread.specs.Locks.{seeing}
use Rattle.session_thread.proofs.Shown.{reads}
use Rattle.session_thread.proofs.locked_store.LockedStoreStore.read.Goals as goal

pub returns : goal.returns
returns g c =
    let v = c.self.view_is in
    let h = ap (λ (p : LockedStore). p.history) v in
    reads c.args.self.now _ c.in-Some.here c.args.uid c.args.mark_seen c.read-row.result c.again-front.result c.again.result c.read-row.new.front c.seen_behind.result (ap (λ (p : LockedStore). p.entered) (sym v) ∙ c.in-Some.is)
    (c.again-front.ensures ∙ h) (c.again.ensures ∙ h) c.seen_behind.ensures (ap (λ (p : LockedStore). seeing p c.seen_behind.result) v) c.read-row.ensures.held c.read-row.ensures.fits
