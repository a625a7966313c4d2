use Rattle.std.proofs.Common.{◌≡◌, ◌+◌, ◌++◌, ◌∷◌, [], ℕ, List, ap, sym, ◌∙◌, length, drop, get_or, arith, append_assoc}
use Rattle.std.specs.Prelude.{is_some}
use Rattle.std.proofs.lemmas.List.{get_or_default}
use Rattle.mailbox.specs.declared.letters.Letter.{Letter}
use Rattle.mailbox.specs.inner.Letters.{filed, messages_of}
use Rattle.mailbox.specs.Mailbox.{Message, uids_of}
use Rattle.mailbox.proofs.LetterLaws.{comes_none, comes_one, text_gone, text_there}
use Rattle.mailbox.proofs.letters.uids_in.Goals as goal
use Rattle.mailbox.proofs.letters.uids_in.Goals.{then-is_some, else-is_some}

pub loop-position-preserved : goal.loop-position-preserved
loop-position-preserved c =
    let us = c.args.uids.now in
    let ls = c.args.letters.now in
    let position = c.loop-position.position in
    let found = c.loop-position.found.items in
    let h = c.loop-position.invariant in
    let u = get_or us position 0 in
    let l = c.index-letters-position.result in
    let at = c.index-letters-position.is in
    let within = c.loop-position-test.true in
    let told : is_some l.text ≡ c.is_some.result = ap (λ (x : Letter). is_some x.text) at ∙ sym c.is_some.ensures in
    let left = uids_of (messages_of (filed (drop (position + 1) us) (drop (position + 1) ls))) in
    elim c.if-is_some.branch [
      | then-is_some w ↦
          let text = text_there l.text (told ∙ w.if-is_some.true) in
          let one = comes_one us ls position u l text.0 within c.requires.beside (get_or_default us position 0 u within) at text.1 in
          rw w.found-is (record {
            told = ap (λ (vs : List ℕ). vs ++ left) w.push_reserved.ensures.items ∙ append_assoc found (u ∷ []) left ∙ ap (λ (ms : List Message). found ++ uids_of ms) (sym one) ∙ h.told;
            room = omega (arith, h.room, ap length one, w.push_reserved.ensures.len, w.push_reserved.ensures.capacity);
          })
      | else-is_some w ↦
          let none = comes_none us ls position l within c.requires.beside at (text_gone l.text (told ∙ w.if-is_some.false)) in
          rw w.found-is (record {
            told = ap (λ (ms : List Message). found ++ uids_of ms) (sym none) ∙ h.told;
            room = omega (arith, h.room, ap length none);
          })
    ]
