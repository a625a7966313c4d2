use Rattle.std.proofs.Common.{arith, ap, ◌∙◌}
use Rattle.session_thread.specs.Locks.{LockedStore}
use Rattle.session_thread.specs.Locks.{seeing}
use Rattle.session_thread.proofs.Shown.{discard_faults, discards}
use Rattle.session_thread.proofs.locked_store.LockedStoreStore.discard.Goals as goal

pub returns-clause-event : goal.returns-clause-event
returns-clause-event g c =
    let v = c.self.view_is in
    let h = ap (λ (p : LockedStore). p.history) v in
    discards c.args.self.now _ c.args.mailbox c.args.uids.now c.discard-done.result c.again-front.result c.again.result c.discard-done.new.front c.seen_behind.result (omega (arith, c.if-from-self.false, ap (λ (p : LockedStore). p.mailboxes) v, c.from.ensures))
    (c.again-front.ensures ∙ h) (c.again.ensures ∙ h) c.seen_behind.ensures (ap (λ (p : LockedStore). seeing p c.seen_behind.result) v) c.discard-done.ensures

pub returns-clause-faults : goal.returns-clause-faults
returns-clause-faults g c = discard_faults c.args.mailbox c.args.uids.now c.discard-done.result _ _ _ c.discard-done.ensures
