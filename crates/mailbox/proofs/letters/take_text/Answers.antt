use Rattle.std.proofs.Common.{◌≡◌, ◌∙◌, List, Option, None, ap, sym, arith, ℕ}
use Rattle.std.specs.Prelude.{option_map, slice_set}
use Rattle.std.proofs.lemmas.Option.{slice_get_within}
use Rattle.delivery_token.specs.Text.{Text}
use Rattle.mailbox.specs.declared.letters.Letter.{Letter}
use Rattle.mailbox.specs.inner.Letters.{messages_of, message_of, filed, without_message}
use Rattle.mailbox.proofs.LetterLaws.{IsAt, at_position, none_there, without_none}
use Rattle.mailbox.proofs.letters.take_text.Goals as goal

pub returns-in_err-position-clause-was : goal.returns-in_err-position-clause-was
returns-in_err-position-clause-was c =
    ap (option_map _) c.from_residual.ensures ∙ sym (none_there c.args.uid c.args.uids.now c.args.letters.now.items c.in_err-position.ensures.none)

pub returns-in_err-position-clause-messages : goal.returns-in_err-position-clause-messages
returns-in_err-position-clause-messages c =
    let ms = messages_of (filed c.args.uids.now c.args.letters.now.items) in
    sym (without_none c.args.uid ms (none_there c.args.uid c.args.uids.now c.args.letters.now.items c.in_err-position.ensures.none))

pub index_mut-letter-requires : goal.index_mut-letter-requires
index_mut-letter-requires c =
    let v = c.args.letters.now in
    omega (arith, slice_get_within c.args.uids.now c.in_ok-position.position c.args.uid c.in_ok-position.ensures.found, c.requires.beside, v.ok.0)

-- the messages without it
left : (us : List ℕ) (ls : List Letter) (position uid : ℕ) (l : Letter) (text : Option Text) → IsAt us ls position uid l → text ≡ None →
    messages_of (filed us (slice_set ls position (record { flags = l.flags; text = text }))) ≡ without_message uid (messages_of (filed us ls))
left us ls position uid l text at none = ap (λ (t : Option Text). messages_of (filed us (slice_set ls position (record { flags = l.flags; text = t })))) none ∙ at.taken

pub returns-in_err-text-clause-messages : goal.returns-in_err-text-clause-messages
returns-in_err-text-clause-messages c =
    let l = c.index_mut-letter.result.now in
    let us = c.args.uids.now in
    let ls = c.args.letters.now.items in
    let at = at_position us ls c.in_ok-position.position c.args.uid l c.requires.rising c.requires.beside c.in_ok-position.ensures.found c.index_mut-letter.ensures.value in
    left us ls c.in_ok-position.position c.args.uid l c.take.new.self at c.take.ensures.after

pub returns-clause-messages : goal.returns-clause-messages
returns-clause-messages c =
    let l = c.index_mut-letter.result.now in
    let us = c.args.uids.now in
    let ls = c.args.letters.now.items in
    let at = at_position us ls c.in_ok-position.position c.args.uid l c.requires.rising c.requires.beside c.in_ok-position.ensures.found c.index_mut-letter.ensures.value in
    left us ls c.in_ok-position.position c.args.uid l c.take.new.self at c.take.ensures.after

pub returns-clause-was : goal.returns-clause-was
returns-clause-was c =
    let l = c.index_mut-letter.result.now in
    let at = at_position c.args.uids.now c.args.letters.now.items c.in_ok-position.position c.args.uid l c.requires.rising c.requires.beside c.in_ok-position.ensures.found c.index_mut-letter.ensures.value in
    ap (option_map (λ t. message_of c.args.uid l.flags t)) c.in_ok-text.ensures.value ∙ sym at.found

pub returns-in_err-text-clause-was : goal.returns-in_err-text-clause-was
returns-in_err-text-clause-was c =
    let l = c.index_mut-letter.result.now in
    let at = at_position c.args.uids.now c.args.letters.now.items c.in_ok-position.position c.args.uid l c.requires.rising c.requires.beside c.in_ok-position.ensures.found c.index_mut-letter.ensures.value in
    ap (option_map _) c.from_residual-in_err-text.ensures ∙ ap (option_map (λ (t : Text). message_of c.args.uid l.flags t)) c.in_err-text.ensures.value ∙ sym at.found
