use Rattle.std.proofs.Common.{◌≡◌, ◌++◌, ◌+◌, ◌<◌, ◌≤◌, drop, get_or, length, List, [], ℕ, subst, arith, Err, Vec}
use Rattle.std.specs.Prelude.{option_to_list}
use Rattle.std.specs.Global.{Global}
use Rattle.std.proofs.lemmas.List.{drop_all}
use Rattle.std.proofs.lemmas.Result.{err_from_is_err_and}
use Rattle.imap_session.specs.Exchange.{Exchange}
use Rattle.imap_session.specs.Commands.{searching, wanting}
use Rattle.imap_session.specs.inner.Store.{Reaches}
use Rattle.imap_session.proofs.Choosing.{as_many, message_at}
use Rattle.imap_session.proofs.Runs.{reaches_here, reaches_then, reaches_write, nothing_added, stops_then, stops_write}
use Rattle.imap_session.proofs.Saying.{does_wanting}
use Rattle.imap_session.proofs.Searching.{gone_adds_nothing, searches_more, searching_next}
use Rattle.imap_session.proofs.search.search_all.Goals as goal

pub returns-in_err-found : goal.returns-in_err-found
returns-in_err-found g c response view uids are done =
    let p = err_from_is_err_and c.from_residual.result c.from_residual.ensures.1 in
    rw (p.1, p.2) (λ tag now. stops_write g.S.Store.step tag now [] _ _ response)

pub loop-message-init : goal.loop-message-init
loop-message-init g c = record {
  room = omega (arith, c.in_ok-found.ensures.len, c.in_ok-found.ensures.capacity);
  runs = λ response view uids are done tag now. rw c.in_ok-found.ensures.items (reaches_here g.S.Store.step tag now (searching c.args.search.now c.args.last view done uids []) _ _);
}

pub returns-in_err-number : goal.returns-in_err-number
returns-in_err-number g c response view uids are done =
    let i = c.loop-message.message-index in
    let search = c.args.search.now in
    let found = c.loop-message.found.items in
    let within : i < length uids = subst (λ (n : ℕ). i < n) (as_many view uids c.args.messages.now are) c.loop-message-test.true in
    let p = err_from_is_err_and c.from_residual-in_err-number.result c.from_residual-in_err-number.ensures.1 in
    let next : List ℕ → Exchange = λ more. searching search c.args.last view done (drop (i + 1) uids) (found ++ more) in
    rw (p.1, p.2) (does_wanting {V = Vec ℕ Global} g.S.Store.step (searching search c.args.last view done uids []) (λ v. done v.items) _ _ _ _ (Err _) (λ tag now.
    let P : Exchange → Type 0 = λ y. Reaches g.S.Store.step tag now now (searching search c.args.last view done uids []) y c.args.store.now c.loop-message.store response response in
    stops_then g.S.Store.step tag now now now _ _ _ _ _ _ _ _ _
    (subst P (searching_next search c.args.last view done uids i found within) (c.loop-message.invariant.runs response view uids are done tag now))
    (c.in_err-number.ensures response view (get_or uids i 0) (message_at view uids c.args.messages.now i _ are c.loop-message-test.true) next
    (searching search c.args.last view done (drop (i + 1) uids) found) (gone_adds_nothing search c.args.last view done (drop (i + 1) uids) found) tag now)))

pub keep-requires : goal.keep-requires
keep-requires g c = record { room = omega (arith, c.loop-message.invariant.room, c.loop-message-test.true) }

pub loop-message-preserved : goal.loop-message-preserved
loop-message-preserved g c = record {
  room = omega (arith, c.loop-message.invariant.room, c.loop-message-test.true, c.keep.ensures.len, c.keep.ensures.capacity);
  runs = λ response view uids are done tag now.
      let i = c.loop-message.message-index in
      let search = c.args.search.now in
      let found = c.loop-message.found.items in
      let within : i < length uids = subst (λ (n : ℕ). i < n) (as_many view uids c.args.messages.now are) c.loop-message-test.true in
      let next : List ℕ → Exchange = λ more. searching search c.args.last view done (drop (i + 1) uids) (found ++ more) in
      searches_more g.S.Store.step tag now search c.args.last view done uids i found (option_to_list c.in_ok-number.number) c.keep.new.found.items _ _ _ _ response within c.keep.ensures.items
      (c.loop-message.invariant.runs response view uids are done tag now)
      (c.in_ok-number.ensures response view (get_or uids i 0) (message_at view uids c.args.messages.now i _ are c.loop-message-test.true) next
      (searching search c.args.last view done (drop (i + 1) uids) found) (gone_adds_nothing search c.args.last view done (drop (i + 1) uids) found) tag now);
}

pub returns : goal.returns
returns g c response view uids are done tag now =
    let i = c.loop-message.message-index in
    let x = searching c.args.search.now c.args.last view done uids [] in
    let past : length uids ≤ i = subst (λ (n : ℕ). n ≤ i) (as_many view uids c.args.messages.now are) c.loop-message-test.false in
    let e : drop i uids ≡ [] = drop_all i uids past in
    reaches_then g.S.Store.step tag now now now (wanting x) x _ _ _ _ response response response
    (reaches_write g.S.Store.step tag now [] x c.args.store.now response response (nothing_added response))
    (rw e at (c.loop-message.invariant.runs response view uids are done tag now))
