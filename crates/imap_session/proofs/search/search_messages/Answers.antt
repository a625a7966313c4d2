use Rattle.std.proofs.Common.{◌∙◌, ℕ, false, List, [], Err}
use Rattle.std.proofs.lemmas.Result.{err_from_is_err_and}
use Rattle.imap_grammar.specs.Keys.{all_messages}
use Rattle.imap_grammar.specs.Sets.{last_uid, named_at}
use Rattle.imap_grammar.specs.declared.command.Command.TheVariants as commands
use Rattle.imap_answers.specs.Answers.{found_answer}
use Rattle.imap_session.specs.Exchange.{Exchange}
use Rattle.imap_session.specs.Commands.{messages_done, search_done, searching, wanting}
use Rattle.imap_session.specs.inner.Store.{last}
use Rattle.imap_session.proofs.Runs.{added, reaches_write, stops_look, stops_write}
use Rattle.imap_session.proofs.Saying.{does_then}
use Rattle.imap_session.proofs.Choosing.{does_chosen}
use Rattle.imap_session.proofs.search.search_messages.Goals as goal
use Rattle.imap_session.specs.declared.texts.ResponseText.{ResponseText}

pub returns-in_err-messages : goal.returns-in_err-messages
returns-in_err-messages g c =
    let p = err_from_is_err_and c.from_residual.result c.from_residual.ensures.1 in
    rw (p.1, p.2) (λ tag now. stops_look g.S.Store.step tag now _ _ _ _ _ _ (rw c.all.ensures at c.in_err-messages.ensures.event))

pub returns-in_err-found : goal.returns-in_err-found
returns-in_err-found g c =
    let search = c.args.search.now in
    let tag : List ℕ = c.args.response.now.tag in
    let looks = rw (c.in-Some.is, c.all.ensures) at c.in_ok-messages.ensures.event in
    let next : List ℕ → List ℕ → Exchange = λ view uids. wanting (searching search (named_at view (last_uid uids)) view (search_done tag search) uids []) in
    let p = err_from_is_err_and c.from_residual-in_err-found.result c.from_residual-in_err-found.ensures.1 in
    rw (p.1, p.2) (does_chosen {V = ResponseText} g.S.Store.step _ all_messages next last looks.0 c.in-Some.messages.items _ _ _ _ (Err _) looks.1 looks.2
    (λ uids are. c.in_err-found.ensures c.args.response.now looks.0 uids (c.as_slice.ensures.value ∙ are) (search_done tag search)))

pub returns-in_err-write_numbers : goal.returns-in_err-write_numbers
returns-in_err-write_numbers g c =
    let search = c.args.search.now in
    let tag : List ℕ = c.args.response.now.tag in
    let looks = rw (c.in-Some.is, c.all.ensures) at c.in_ok-messages.ensures.event in
    let next : List ℕ → List ℕ → Exchange = λ view uids. wanting (searching search (named_at view (last_uid uids)) view (search_done tag search) uids []) in
    let p = err_from_is_err_and c.from_residual-in_err-write_numbers.result c.from_residual-in_err-write_numbers.ensures.1 in
    rw (p.1, p.2) (does_chosen {V = ResponseText} g.S.Store.step _ all_messages next last looks.0 c.in-Some.messages.items _ _ _ _ (Err _) looks.1 looks.2
    (λ uids are. does_then {V = ResponseText} g.S.Store.step _ (search_done tag search c.in_ok-found.found.items) last _ _ _ _ _ _ (Err _)
    (c.in_ok-found.ensures c.args.response.now looks.0 uids (c.as_slice.ensures.value ∙ are) (search_done tag search))
    (rw (c.in_err-write_numbers.ensures.fault, c.in_err-write_numbers.ensures.err) (λ tag now. stops_write g.S.Store.step tag now _ _ _ _))))

pub returns : goal.returns
returns g c =
    let search = c.args.search.now in
    let tag : List ℕ = c.args.response.now.tag in
    let looks = rw (c.in-Some.is, c.all.ensures) at c.in_ok-messages.ensures.event in
    let next : List ℕ → List ℕ → Exchange = λ view uids. wanting (searching search (named_at view (last_uid uids)) view (search_done tag search) uids []) in
    let numbers = c.in_ok-found.found.items in
    let answer : List ℕ = found_answer tag search.by_uid search.returns numbers in
    let ends = messages_done (commands.Search search) search.by_uid false in
    does_chosen g.S.Store.step _ all_messages next last looks.0 c.in-Some.messages.items _ _ _ _ c.finish_search.result looks.1 looks.2
    (λ uids are. does_then g.S.Store.step _ (search_done tag search numbers) last _ _ _ _ _ _ c.finish_search.result
    (c.in_ok-found.ensures c.args.response.now looks.0 uids (c.as_slice.ensures.value ∙ are) (search_done tag search))
    (does_then g.S.Store.step _ ends last _ _ _ _ _ _ c.finish_search.result
    (λ told now. reaches_write g.S.Store.step told now answer ends _ _ _ (added answer c.args.response.now c.write_numbers.new.response (rw c.as_slice-2.ensures.value at c.in_ok-write_numbers.ensures.text)))
    c.finish_search.ensures))
