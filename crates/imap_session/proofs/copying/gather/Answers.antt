use Rattle.std.proofs.Common.{◌≡◌, ◌∙◌, ◌<◌, ◌≤◌, drop, get_or, length, [], ℕ, subst, arith, ap, sym}
use Rattle.std.proofs.lemmas.List.{drop_all}
use Rattle.std.proofs.lemmas.Result.{err_from_is_err_and}
use Rattle.imap_grammar.specs.declared.view.Named.{Named}
use Rattle.imap_session.specs.Commands.{empty_batch, gathering}
use Rattle.imap_session.proofs.Choosing.{as_many, message_at}
use Rattle.imap_session.proofs.Copies.{gathers_more, passed_at, read_next, taken_at}
use Rattle.imap_session.proofs.Runs.{reaches_here, reaches_then, stops_then}
use Rattle.imap_session.proofs.copying.gather.Goals as goal

pub loop-message-init : goal.loop-message-init
loop-message-init g c = record {
  as_many = c.requires.empty.0 ∙ sym c.requires.empty.1;
  few = omega (arith, c.requires.empty.0);
  uid_room = c.requires.uid_room;
  row_room = c.requires.row_room;
  runs = λ response view named are mailing most mailbox tag now.
      rw (c.requires.none.0, c.requires.none.1) (reaches_here g.S.Store.step tag now (gathering mailing c.args.copy.now mailbox named (empty_batch c.args.copy.now)) _ response);
}

pub returns-in_err-text-clause-does : goal.returns-in_err-text-clause-does
returns-in_err-text-clause-does g c response view named are mailing most mailbox =
    let i = c.loop-message.message-index in
    let copy = c.args.copy.now in
    let uids = c.loop-message.uids.items in
    let left = c.loop-message.left.items in
    let within : i < length named = subst (λ (n : ℕ). i < n) (as_many view named c.args.messages.now are) c.loop-message-test.true in
    let p = err_from_is_err_and c.from_residual.result c.from_residual.ensures.1 in
    let one = c.in_err-text.ensures response (get_or named i 0) (ap (λ (m : Named). m.uid) (message_at view named c.args.messages.now i _ are c.loop-message-test.true)) mailing most (taken_at mailing copy mailbox named i uids left) (passed_at mailing copy mailbox named i uids left) in
    rw (p.1, p.2) (λ tag now. stops_then g.S.Store.step tag now now now _ _ _ _ _ _ _ _ _
    (read_next g.S.Store.step tag now mailing copy mailbox named i uids left _ _ _ response within (c.loop-message.invariant.runs response view named are mailing most mailbox tag now))
    (one tag now))

pub returns-in-Err-clause-does : goal.returns-in-Err-clause-does
returns-in-Err-clause-does g c response view named are mailing most mailbox tag now =
    let i = c.loop-message.message-index in
    let copy = c.args.copy.now in
    let uids = c.loop-message.uids.items in
    let left = c.loop-message.left.items in
    let within : i < length named = subst (λ (n : ℕ). i < n) (as_many view named c.args.messages.now are) c.loop-message-test.true in
    let one = rw c.in-Err.is at (c.in_ok-text.ensures response (get_or named i 0) (ap (λ (m : Named). m.uid) (message_at view named c.args.messages.now i _ are c.loop-message-test.true)) mailing most (taken_at mailing copy mailbox named i uids left) (passed_at mailing copy mailbox named i uids left)) in
    reaches_then g.S.Store.step tag now now now _ _ _ _ _ _ _ _ _
    (read_next g.S.Store.step tag now mailing copy mailbox named i uids left _ _ _ response within (c.loop-message.invariant.runs response view named are mailing most mailbox tag now))
    (one tag now)

pub loop-message-preserved : goal.loop-message-preserved
loop-message-preserved g c = record {
  as_many = c.keep.ensures.as_many c.loop-message.invariant.as_many;
  few = omega (arith, c.keep.ensures.uid_len, c.loop-message.invariant.few);
  uid_room = omega (arith, c.keep.ensures.uid_capacity, c.loop-message.invariant.uid_room);
  row_room = omega (arith, c.keep.ensures.row_capacity, c.loop-message.invariant.row_room);
  runs = λ response view named are mailing most mailbox tag now.
      let i = c.loop-message.message-index in
      let copy = c.args.copy.now in
      let uids = c.loop-message.uids.items in
      let left = c.loop-message.left.items in
      let within : i < length named = subst (λ (n : ℕ). i < n) (as_many view named c.args.messages.now are) c.loop-message-test.true in
      let one = rw c.in-Ok.is at (c.in_ok-text.ensures response (get_or named i 0) (ap (λ (m : Named). m.uid) (message_at view named c.args.messages.now i _ are c.loop-message-test.true)) mailing most (taken_at mailing copy mailbox named i uids left) (passed_at mailing copy mailbox named i uids left)) in
      gathers_more g.S.Store.step tag now mailing copy mailbox named i uids left c.in-Ok.row _ _ _ _ _ _ response within (c.keep.ensures.uids (get_or named i 0) (ap (λ (m : Named). m.uid) (message_at view named c.args.messages.now i _ are c.loop-message-test.true))) c.keep.ensures.left
      (c.loop-message.invariant.runs response view named are mailing most mailbox tag now)
      (one tag now);
}

pub returns-clause-does : goal.returns-clause-does
returns-clause-does g c response view named are mailing most mailbox tag now =
    let i = c.loop-message.message-index in
    let past : length named ≤ i = subst (λ (n : ℕ). n ≤ i) (as_many view named c.args.messages.now are) c.loop-message-test.false in
    let e : drop i named ≡ [] = drop_all i named past in
    rw e at (c.loop-message.invariant.runs response view named are mailing most mailbox tag now)
