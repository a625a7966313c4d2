use Rattle.std.proofs.Common.{ap, sym, ◌∙◌}
use Rattle.session_thread.specs.Locks.{LockedStore}
use Rattle.session_thread.specs.Locks.{entered_at}
use Rattle.session_thread.proofs.Shown.{feeds}
use Rattle.session_thread.proofs.locked_store.LockedStoreStore.feed.Goals as goal

pub returns-clause-event : goal.returns-clause-event
returns-clause-event g c =
    let v = c.self.view_is in
    let h = ap (λ (p : LockedStore). p.history) v in
    feeds c.args.self.now c.in-Some.here c.feed-fed.result.1 c.args.limit c.args.out.now.items c.feed-fed.new.out.items c.feed-fed.result.0 c.again-front.result c.again.result c.feed-fed.new.front c.seen_behind.result _
    (ap (λ (p : LockedStore). p.entered) (sym v) ∙ sym c.take.ensures.value ∙ c.in-Some.is) (c.again-front.ensures ∙ h) (c.again.ensures ∙ h) c.seen_behind.ensures
    (ap (λ (p : LockedStore). entered_at p c.in-Some.here c.feed-fed.result.1 c.seen_behind.result) v) c.feed-fed.ensures.event c.feed-fed.ensures.few
