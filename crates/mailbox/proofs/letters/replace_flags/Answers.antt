use Rattle.std.proofs.Common.{◌≡◌, ◌∙◌, List, Option, None, Some, ap, sym, not, arith, ℕ, true, false}
use Rattle.std.specs.Prelude.{option_map, is_some}
use Rattle.std.proofs.lemmas.Option.{slice_get_within}
use Rattle.change_ring.specs.declared.change.Flags.{Flags}
use Rattle.delivery_token.specs.Text.{Text}
use Rattle.mailbox.specs.declared.letters.Letter.{Letter}
use Rattle.mailbox.specs.inner.Letters.{messages_of, message_of, filed}
use Rattle.mailbox.specs.Mailbox.{Message, message_with}
use Rattle.mailbox.proofs.LetterLaws.{IsAt, at_position, none_there, reflagged_none, text_gone}
use Rattle.mailbox.proofs.letters.replace_flags.Goals as goal

pub returns-in_err-position-clause-was : goal.returns-in_err-position-clause-was
returns-in_err-position-clause-was c =
    c.from_residual.ensures ∙ sym (ap (option_map (λ (m : Message). m.flags)) (none_there c.args.uid c.args.uids.now c.args.letters.now.items c.in_err-position.ensures.none))

pub returns-in_err-position-clause-messages : goal.returns-in_err-position-clause-messages
returns-in_err-position-clause-messages c =
    let ms = messages_of (filed c.args.uids.now c.args.letters.now.items) in
    sym (reflagged_none c.args.uid c.args.flags ms (none_there c.args.uid c.args.uids.now c.args.letters.now.items c.in_err-position.ensures.none))

pub index_mut-letter-requires : goal.index_mut-letter-requires
index_mut-letter-requires c =
    let v = c.args.letters.now in
    omega (arith, slice_get_within c.args.uids.now c.in_ok-position.position c.args.uid c.in_ok-position.ensures.found, c.requires.beside, v.ok.0)

-- no message is there
none : (us : List ℕ) (ls : List Letter) (position uid : ℕ) (l : Letter) → IsAt us ls position uid l → is_some l.text ≡ false → message_with uid (messages_of (filed us ls)) ≡ None
none us ls position uid l at gone = at.found ∙ ap (option_map (λ (t : Text). message_of uid l.flags t)) (text_gone l.text gone)

pub returns-then-is_none-clause-was : goal.returns-then-is_none-clause-was
returns-then-is_none-clause-was c =
    let l = c.index_mut-letter.result.now in
    let us = c.args.uids.now in
    let ls = c.args.letters.now.items in
    let at = at_position us ls c.in_ok-position.position c.args.uid l c.requires.rising c.requires.beside c.in_ok-position.ensures.found c.index_mut-letter.ensures.value in
    sym (ap (option_map (λ (m : Message). m.flags)) (none us ls c.in_ok-position.position c.args.uid l at (c.is_none.ensures ∙ ap not c.if-is_none.true)))

pub returns-then-is_none-clause-messages : goal.returns-then-is_none-clause-messages
returns-then-is_none-clause-messages c =
    let l = c.index_mut-letter.result.now in
    let us = c.args.uids.now in
    let ls = c.args.letters.now.items in
    let ms = messages_of (filed us ls) in
    let at = at_position us ls c.in_ok-position.position c.args.uid l c.requires.rising c.requires.beside c.in_ok-position.ensures.found c.index_mut-letter.ensures.value in
    let gone = none us ls c.in_ok-position.position c.args.uid l at (c.is_none.ensures ∙ ap not c.if-is_none.true) in
    at.set l.flags ∙ reflagged_none c.args.uid l.flags ms gone ∙ sym (reflagged_none c.args.uid c.args.flags ms gone)

-- what its flags are
told : (uid : ℕ) (flags : Flags) (t : Option Text) (found : Option Message) → is_some t ≡ true → found ≡ option_map (λ (x : Text). message_of uid flags x) t →
    Some flags ≡ option_map (λ (m : Message). m.flags) found
told uid flags None found there is = cc
told uid flags (Some t) found there is = sym (ap (option_map (λ (m : Message). m.flags)) is)

pub returns-clause-was : goal.returns-clause-was
returns-clause-was c =
    let l = c.index_mut-letter.result.now in
    let us = c.args.uids.now in
    let ls = c.args.letters.now.items in
    let at = at_position us ls c.in_ok-position.position c.args.uid l c.requires.rising c.requires.beside c.in_ok-position.ensures.found c.index_mut-letter.ensures.value in
    told c.args.uid l.flags l.text (message_with c.args.uid (messages_of (filed us ls))) (c.is_none.ensures ∙ ap not c.if-is_none.false) at.found

pub returns-clause-messages : goal.returns-clause-messages
returns-clause-messages c =
    let l = c.index_mut-letter.result.now in
    let at = at_position c.args.uids.now c.args.letters.now.items c.in_ok-position.position c.args.uid l c.requires.rising c.requires.beside c.in_ok-position.ensures.found c.index_mut-letter.ensures.value in
    at.set c.args.flags
