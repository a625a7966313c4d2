use Rattle.std.proofs.Common.{ap, sym, ◌∙◌, ◌≡◌, Some, arith}
use Rattle.std.specs.Prelude.{option_map, slice_get}
use Rattle.std.proofs.lemmas.Option.{slice_get_within}
use Rattle.delivery_token.specs.Text.{Text}
use Rattle.mailbox.specs.inner.Letters.{message_of}
use Rattle.mailbox.specs.Mailbox.{message_with}
use Rattle.mailbox.proofs.LetterLaws.{at_position, none_there}
use Rattle.mailbox.proofs.letters.Letters.get.Goals as goal

pub returns-in_err-position : goal.returns-in_err-position
returns-in_err-position c =
    let b = c.self.inside in
    let none = none_there c.args.uid b.uids.items b.letters.items (rw c.deref.ensures.value at c.in_err-position.ensures.none) in
    ap (option_map _) c.from_residual.ensures ∙ sym none ∙ ap (message_with c.args.uid) c.self.view_is

pub index-letter-requires : goal.index-letter-requires
index-letter-requires c =
    let b = c.self.inside in
    let found : slice_get b.uids.items c.in_ok-position.position ≡ Some c.args.uid = rw c.deref.ensures.value at c.in_ok-position.ensures.found in
    omega (arith, slice_get_within b.uids.items c.in_ok-position.position c.args.uid found, c.self.invariant.beside, b.letters.ok.0)

pub returns-in_err-as_ref : goal.returns-in_err-as_ref
returns-in_err-as_ref c =
    let b = c.self.inside in
    let l = c.index-letter.result.now in
    let found : slice_get b.uids.items c.in_ok-position.position ≡ Some c.args.uid = rw c.deref.ensures.value at c.in_ok-position.ensures.found in
    let at = at_position b.uids.items b.letters.items c.in_ok-position.position c.args.uid l c.self.invariant.rising c.self.invariant.beside found c.index-letter.ensures in
    ap (option_map _) c.from_residual-in_err-as_ref.ensures ∙ ap (option_map (λ (t : Text). message_of c.args.uid l.flags t)) c.in_err-as_ref.ensures.value
    ∙ sym at.found ∙ ap (message_with c.args.uid) c.self.view_is

pub returns : goal.returns
returns c =
    let b = c.self.inside in
    let l = c.index-letter.result.now in
    let found : slice_get b.uids.items c.in_ok-position.position ≡ Some c.args.uid = rw c.deref.ensures.value at c.in_ok-position.ensures.found in
    let at = at_position b.uids.items b.letters.items c.in_ok-position.position c.args.uid l c.self.invariant.rising c.self.invariant.beside found c.index-letter.ensures in
    ap (option_map (λ t. message_of c.args.uid l.flags t)) c.in_ok-as_ref.ensures.value ∙ sym at.found ∙ ap (message_with c.args.uid) c.self.view_is
