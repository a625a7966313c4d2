use Rattle.std.proofs.Common.{◌≡◌, ◌∙◌, Ok, List, true, false, length, ap, sym}
use Rattle.std.specs.Prelude.{nat_lt}
use Rattle.imap_grammar.specs.declared.view.Named.{Named}
use Rattle.imap_session.specs.declared.texts.ResponseText.TheVariants as texts
use Rattle.std.proofs.lemmas.Result.{err_from_is_err_and}
use Rattle.imap_session.specs.declared.copying.Found.{Found}
use Rattle.imap_session.specs.declared.copying.Found.TheVariants.{Said}
use Rattle.imap_session.specs.Commands.{copy_of, most_in_batch, says}
use Rattle.imap_session.specs.Texts.{response_text}
use Rattle.imap_session.specs.inner.Copies.{found_next}
use Rattle.imap_session.proofs.Choosing.{as_many, does_chosen, reaches_too_high}
use Rattle.imap_session.proofs.Runs.{reaches_here, stops_look}
use Rattle.imap_session.proofs.copying.find_messages.Goals as goal

pub returns-in_err-messages-clause-does : goal.returns-in_err-messages-clause-does
returns-in_err-messages-clause-does g c response mailing most =
    let p = err_from_is_err_and c.from_residual.result c.from_residual.ensures.1 in
    rw (p.1, p.2) (λ tag now. stops_look g.S.Store.step tag now _ _ _ _ _ _ c.in_err-messages.ensures.event)

pub returns-in_default-clause-does : goal.returns-in_default-clause-does
returns-in_default-clause-does g c response mailing most tag now =
    let copy = c.args.copy.now in
    let looks = rw c.in_default.is at c.in_ok-messages.ensures.event in
    reaches_too_high g.S.Store.step copy.by_uid copy.set (λ view uids. copy_of mailing copy c.args.mailbox uids) looks.0 _ _ looks.1 looks.2 tag now

pub returns-then-are_too_many-clause-does : goal.returns-then-are_too_many-clause-does
returns-then-are_too_many-clause-does g c response mailing most =
    let copy = c.args.copy.now in
    let looks = rw c.in-Some.is at c.in_ok-messages.ensures.event in
    let items = c.in-Some.messages.items in
    does_chosen {V = Found} g.S.Store.step copy.by_uid copy.set (λ view uids. copy_of mailing copy c.args.mailbox uids) (found_next mailing copy) looks.0 items _ _ _ _ (Ok (Said texts.TooManyMessages)) looks.1 looks.2
    (λ uids are tag now.
    let many : nat_lt most_in_batch (length uids) ≡ true = ap (nat_lt most_in_batch) (sym (as_many looks.0 uids items are)) ∙ ap (λ (m : List Named). nat_lt most_in_batch (length m)) (sym c.as_slice.ensures.value) ∙ sym c.are_too_many.ensures ∙ c.if-are_too_many.true in
    rw many (reaches_here g.S.Store.step tag now (says (response_text texts.TooManyMessages)) _ _))

pub returns-clause-does : goal.returns-clause-does
returns-clause-does g c response mailing most =
    let copy = c.args.copy.now in
    let looks = rw c.in-Some.is at c.in_ok-messages.ensures.event in
    let items = c.in-Some.messages.items in
    does_chosen g.S.Store.step copy.by_uid copy.set (λ view uids. copy_of mailing copy c.args.mailbox uids) (found_next mailing copy) looks.0 items _ _ _ _ c.gather_batch.result looks.1 looks.2
    (λ uids are.
    let few : nat_lt most_in_batch (length uids) ≡ false = ap (nat_lt most_in_batch) (sym (as_many looks.0 uids items are)) ∙ ap (λ (m : List Named). nat_lt most_in_batch (length m)) (sym c.as_slice.ensures.value) ∙ sym c.are_too_many.ensures ∙ c.if-are_too_many.false in
    rw few (c.gather_batch.ensures.does response looks.0 uids (c.as_slice-2.ensures.value ∙ are) mailing most))
