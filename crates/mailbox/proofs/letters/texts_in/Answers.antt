use Rattle.std.proofs.Common.{◌≡◌, ◌+◌, ◌++◌, ◌∷◌, [], ℕ, List, ap, sym, ◌∙◌, length, drop, get_or, arith, append_assoc}
use Rattle.std.proofs.lemmas.List.{get_or_default}
use Rattle.delivery_token.specs.Text.{Text}
use Rattle.mailbox.specs.declared.letters.Letter.{Letter}
use Rattle.mailbox.specs.inner.Letters.{filed, messages_of}
use Rattle.mailbox.specs.Mailbox.{Message, texts_of}
use Rattle.mailbox.proofs.LetterLaws.{comes_none, comes_one}
use Rattle.mailbox.proofs.letters.texts_in.Goals as goal
use Rattle.mailbox.proofs.letters.texts_in.Goals.{in-Some+in_ok-copy, in_default}

pub push_reserved-requires : goal.push_reserved-requires
push_reserved-requires c =
    let us = c.args.uids.now in
    let position = c.loop-position.position in
    let u = get_or us position 0 in
    let within = c.loop-position-test.true in
    let at = c.index-letters-position.is in
    let there = ap (λ (x : Letter). x.text) at ∙ c.in-Some.is in
    let one = comes_one us c.args.letters.now position u c.index-letters-position.result c.in-Some.text within c.requires.beside (get_or_default us position 0 u within) at there in
    omega (arith, c.loop-position.invariant.room, ap length one)

pub loop-position-preserved : goal.loop-position-preserved
loop-position-preserved c =
    let us = c.args.uids.now in
    let ls = c.args.letters.now in
    let position = c.loop-position.position in
    let texts = c.loop-position.texts.items in
    let h = c.loop-position.invariant in
    let u = get_or us position 0 in
    let l = c.index-letters-position.result in
    let at = c.index-letters-position.is in
    let within = c.loop-position-test.true in
    let left = texts_of (messages_of (filed (drop (position + 1) us) (drop (position + 1) ls))) in
    elim c.match-letters-position.branch [
      | in-Some+in_ok-copy w ↦
          let one = comes_one us ls position u l w.in-Some.text within c.requires.beside (get_or_default us position 0 u within) at (ap (λ (x : Letter). x.text) at ∙ w.in-Some.is) in
          let copied : w.push_reserved.new.self.items ≡ texts ++ (u, w.in-Some.text) ∷ [] = w.push_reserved.ensures.items ∙ ap (λ (t : Text). texts ++ (u, t) ∷ []) w.in_ok-copy.ensures in
          rw w.texts-is (record {
            told = ap (λ (ts : List (ℕ × Text)). ts ++ left) copied ∙ append_assoc texts ((u, w.in-Some.text) ∷ []) left ∙ ap (λ (ms : List Message). texts ++ texts_of ms) (sym one) ∙ h.told;
            room = omega (arith, h.room, ap length one, w.push_reserved.ensures.len, w.push_reserved.ensures.capacity);
          })
      | in_default w ↦
          let none = comes_none us ls position l within c.requires.beside at (ap (λ (x : Letter). x.text) at ∙ w.in_default.is) in
          rw w.texts-is (record {
            told = ap (λ (ms : List Message). texts ++ texts_of ms) (sym none) ∙ h.told;
            room = omega (arith, h.room, ap length none);
          })
    ]
