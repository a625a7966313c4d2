use Rattle.std.proofs.Common.{rules, ◌≡◌, ◌∷◌, ℕ, [], All, Vec, subst, sym}
use Rattle.std.specs.Global.{Global}
use Rattle.std.proofs.lemmas.List.Elements.{All-append, All-cons, All-nil}
use Rattle.delivery_token.specs.Text.{Text}
use Rattle.delivery_token.specs.declared.CopyKey.{CopyKey}
use Rattle.mailbox.specs.Accepted.{kept_of}
use Rattle.reckoning.specs.Shelves.{AreNumbered, AreToldOnce}
use Rattle.reckoning.proofs.Numbered.{kept_numbered}
use Rattle.reckoning.proofs.shelves.add_to.Goals as goal

pub returns-clause-numbered : goal.returns-clause-numbered
returns-clause-numbered c =
    let Numbered : Vec (CopyKey × ℕ) Global → Type 0 = λ v. AreNumbered v.items in
    let mailbox = c.args.mailbox.now in
    let accepted = c.in_ok-kept.kept in
    let is : accepted.items ≡ kept_of mailbox.history mailbox.accepted = search rules in
    let one = subst AreNumbered (sym is) (kept_numbered mailbox.history mailbox c.every_mailbox_keeps.ensures) in
    subst (All Numbered) (sym c.in_ok-push.ensures.items)
    (All-append Numbered c.args.shelves.now.accepted.items (accepted ∷ []) c.requires.numbered (All-cons Numbered accepted [] one (All-nil Numbered)))

pub returns-clause-once : goal.returns-clause-once
returns-clause-once c =
    let Once : Vec (ℕ × Text) Global → Type 0 = λ v. AreToldOnce v.items in
    let texts = c.in_ok-texts.texts in
    subst (All Once) (sym c.in_ok-push-2.ensures.items)
    (All-append Once c.args.shelves.now.texts.items (texts ∷ []) c.requires.once (All-cons Once texts [] c.in_ok-texts.ensures.rising (All-nil Once)))

pub returns-clause-added : goal.returns-clause-added
returns-clause-added c = (c.in_ok-kept.kept, c.in_ok-push.ensures.items, search rules)
