use Rattle.std.proofs.Common.{◌≡◌, ◌∙◌, [], List, ℕ, Err, ap, subst, sym}
use Rattle.std.specs.Prelude.{reverse}
use Rattle.std.proofs.lemmas.List.{reverse-reverse}
use Rattle.mailbox.specs.declared.clients.Row.{Row}
use Rattle.std.proofs.lemmas.Result.{err_from_is_err_and}
use Rattle.imap_session.specs.declared.copying.Found.{Found}
use Rattle.imap_session.specs.Commands.{completed, empty_batch, gathering, submitting}
use Rattle.imap_session.specs.Exchange.{Batch}
use Rattle.imap_session.specs.inner.Store.{Reaches}
use Rattle.imap_grammar.specs.declared.command.Command.TheVariants as commands
use Rattle.imap_session.specs.inner.Copies.{found_next}
use Rattle.imap_session.proofs.Runs.{nothing_added, reaches_then, reaches_write, stops_write}
use Rattle.imap_session.proofs.Saying.{does_wanting}
use Rattle.imap_session.proofs.copying.gather_batch.Goals as goal

pub returns-in_err-tag-clause-does : goal.returns-in_err-tag-clause-does
returns-in_err-tag-clause-does g c response view named are mailing most =
    let p = err_from_is_err_and c.from_residual.result c.from_residual.ensures.1 in
    rw (p.1, p.2) (λ tag now. stops_write g.S.Store.step tag now [] _ _ response)

pub returns-in_err-uids-clause-does : goal.returns-in_err-uids-clause-does
returns-in_err-uids-clause-does g c response view named are mailing most =
    let p = err_from_is_err_and c.from_residual-in_err-uids.result c.from_residual-in_err-uids.ensures.1 in
    rw (p.1, p.2) (λ tag now. stops_write g.S.Store.step tag now [] _ _ response)

pub returns-in_err-left-clause-does : goal.returns-in_err-left-clause-does
returns-in_err-left-clause-does g c response view named are mailing most =
    let p = err_from_is_err_and c.from_residual-in_err-left.result c.from_residual-in_err-left.ensures.1 in
    rw (p.1, p.2) (λ tag now. stops_write g.S.Store.step tag now [] _ _ response)

pub returns-in_err-copies-clause-does : goal.returns-in_err-copies-clause-does
returns-in_err-copies-clause-does g c response view named are mailing most =
    let p = err_from_is_err_and c.from_residual-in_err-copies.result c.from_residual-in_err-copies.ensures.1 in
    rw (p.1, p.2) (λ tag now. stops_write g.S.Store.step tag now [] _ _ response)

pub returns-in_err-text-clause-does : goal.returns-in_err-text-clause-does
returns-in_err-text-clause-does g c response view named are mailing most =
    let copy = c.args.copy.now in
    let p = err_from_is_err_and c.from_residual-in_err-text.result c.from_residual-in_err-text.ensures.1 in
    rw (p.1, p.2) (does_wanting {V = Found} g.S.Store.step (gathering mailing copy c.args.mailbox named (empty_batch copy)) (found_next mailing copy) _ _ _ _ (Err _)
    (c.in_err-text.ensures.does response view named are mailing most c.args.mailbox))

pub returns-in-Err-clause-does : goal.returns-in-Err-clause-does
returns-in-Err-clause-does g c response view named are mailing most tag now =
    let copy = c.args.copy.now in
    reaches_then g.S.Store.step tag now now now _ (gathering mailing copy c.args.mailbox named (empty_batch copy)) _ _ _ _ response response response
    (reaches_write g.S.Store.step tag now [] (gathering mailing copy c.args.mailbox named (empty_batch copy)) c.args.store.now response response (nothing_added response))
    ((rw c.in-Err.is at (c.in_ok-text.ensures.does response view named are mailing most c.args.mailbox)) tag now)

pub returns-clause-does : goal.returns-clause-does
returns-clause-does g c response view named are mailing most tag now =
    let copy = c.args.copy.now in
    let uids = c.gather.new.uids.items in
    let left = c.gather.new.left.items in
    let turned : reverse c.reverse.new.self.items ≡ left = ap (reverse {A = Row}) c.reverse.ensures.items ∙ reverse-reverse left in
    let none_stored = c.in_ok-copies.copies.items in
    let P : List ℕ → List Row → Type 0 = λ k l. Reaches g.S.Store.step tag now now (gathering mailing copy c.args.mailbox named (empty_batch copy))
    (submitting mailing (let b : Batch = record { by_uid = copy.by_uid; moves = copy.moves; uids = uids; left = l; copies = k } in b) c.args.mailbox (completed (commands.Copy copy)))
    c.args.store.now c.gather.new.store response response in
    let none : c.in_ok-copies.copies.items ≡ [] = c.in_ok-copies.ensures.items in
    reaches_then g.S.Store.step tag now now now _ (gathering mailing copy c.args.mailbox named (empty_batch copy)) _ _ _ _ response response response
    (reaches_write g.S.Store.step tag now [] (gathering mailing copy c.args.mailbox named (empty_batch copy)) c.args.store.now response response (nothing_added response))
    (subst (λ (l : List Row). P none_stored l) (sym turned) (subst (λ (k : List ℕ). P k left) (sym none) ((rw c.in_default.is at (c.in_ok-text.ensures.does response view named are mailing most c.args.mailbox)) tag now)))
