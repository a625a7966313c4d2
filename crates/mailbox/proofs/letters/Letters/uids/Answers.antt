use Rattle.std.proofs.Common.{◌≡◌, ◌∙◌, ap, sym, subst, length, List, ℕ, arith}
use Rattle.std.specs.Prelude.{IfOk}
use Rattle.std.specs.Global.{Vec}
use Rattle.mailbox.specs.inner.Letters.{filed, messages_of}
use Rattle.mailbox.specs.Mailbox.{uids_of}
use Rattle.mailbox.proofs.LetterLaws.{each_there}
use Rattle.mailbox.proofs.letters.Letters.uids.Goals as goal

pub returns-then-self-len : goal.returns-then-self-len
returns-then-self-len c =
    let us = c.self.inside.uids.items in
    let ls = c.self.inside.letters.items in
    let full : length (messages_of (filed us ls)) ≡ length us = omega (arith, c.self.invariant.count, c.if-self-len.true, c.len.ensures, c.self.inside.uids.ok.0) in
    let all : c.deref.result.now ≡ uids_of c.args.self.now = c.deref.ensures.value ∙ sym (each_there us ls full) ∙ ap uids_of c.self.view_is in
    subst (λ (vs : List ℕ). IfOk c.from_slice.result (λ (v : Vec ℕ). v.items ≡ vs)) all c.from_slice.ensures.items
