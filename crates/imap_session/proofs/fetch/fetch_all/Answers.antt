use Rattle.std.proofs.Common.{rules, ◌≡◌, ◌+◌, ◌<◌, ◌≤◌, true, false, if◌then◌else◌, drop, get_or, length, [], ℕ, subst}
use Rattle.std.proofs.lemmas.List.{drop_all}
use Rattle.std.proofs.lemmas.Result.{err_from_is_err_and}
use Rattle.imap_session.specs.Exchange.{Exchange}
use Rattle.imap_session.specs.Commands.{fetching}
use Rattle.imap_session.specs.inner.Store.{Reaches}
use Rattle.imap_session.proofs.Choosing.{as_many, message_at}
use Rattle.imap_session.proofs.Runs.{reaches_here, stops_then}
use Rattle.imap_session.proofs.Fetching.{fetches_more, fetching_next}
use Rattle.imap_session.proofs.fetch.fetch_all.Goals as goal
use Rattle.imap_session.proofs.fetch.fetch_all.Goals.{then-not-here, else-not-here}

pub loop-message-init : goal.loop-message-init
loop-message-init g c = λ view uids are done tag now. reaches_here g.S.Store.step tag now _ _ _

pub loop-message-preserved : goal.loop-message-preserved
loop-message-preserved g c =
    let i = c.loop-message.message-index in
    let gone-is : c.if-not-here.gone ≡ (if c.in_ok-here.here then c.loop-message.gone else true) =
    elim c.if-not-here.branch [ then-not-here w ↦ search rules | else-not-here w ↦ search rules ] in
    λ view uids are done tag now.
    let within : i < length uids = subst (λ (n : ℕ). i < n) (as_many view uids c.args.messages.now are) c.loop-message-test.true in
    rw gone-is
    (fetches_more g.S.Store.step tag now c.args.fetch.now c.args.mark_seen view done uids i c.loop-message.gone c.in_ok-here.here
    _ _ _ _ _ _ _ within (c.loop-message.invariant view uids are done tag now)
    (c.in_ok-here.ensures view (get_or uids i 0) (message_at view uids c.args.messages.now i _ are c.loop-message-test.true)
    (fetching c.args.fetch.now c.args.mark_seen view done (drop (i + 1) uids) c.loop-message.gone)
    (fetching c.args.fetch.now c.args.mark_seen view done (drop (i + 1) uids) true) tag now))

pub returns-in_err-here : goal.returns-in_err-here
returns-in_err-here g c view uids are done =
    let i = c.loop-message.message-index in
    let within : i < length uids = subst (λ (n : ℕ). i < n) (as_many view uids c.args.messages.now are) c.loop-message-test.true in
    let p = err_from_is_err_and c.from_residual.result c.from_residual.ensures.1 in
    rw (p.1, p.2) (λ tag now.
    let P : Exchange → Type 0 = λ y. Reaches g.S.Store.step tag now now (fetching c.args.fetch.now c.args.mark_seen view done uids false) y c.args.store.now c.loop-message.store c.args.response.now c.loop-message.response in
    stops_then g.S.Store.step tag now now now _ _ _ _ _ _ _ _ _
    (subst P (fetching_next c.args.fetch.now c.args.mark_seen view done uids i c.loop-message.gone within)
    (c.loop-message.invariant view uids are done tag now))
    (c.in_err-here.ensures view (get_or uids i 0) (message_at view uids c.args.messages.now i _ are c.loop-message-test.true)
    (fetching c.args.fetch.now c.args.mark_seen view done (drop (i + 1) uids) c.loop-message.gone)
    (fetching c.args.fetch.now c.args.mark_seen view done (drop (i + 1) uids) true) tag now))

pub returns : goal.returns
returns g c view uids are done tag now =
    let i = c.loop-message.message-index in
    let past : length uids ≤ i = subst (λ (n : ℕ). n ≤ i) (as_many view uids c.args.messages.now are) c.loop-message-test.false in
    let e : drop i uids ≡ [] = drop_all i uids past in
    rw e at (c.loop-message.invariant view uids are done tag now)
