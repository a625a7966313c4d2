use Rattle.std.proofs.Common.{◌++◌, ◌∷◌, [], ℕ, List, subst, sym}
use Rattle.std.specs.List.Sorted.{IsStrictlyIncreasing}
use Rattle.mailbox.specs.inner.Letters.{filed, messages_of}
use Rattle.mailbox.specs.Mailbox.{uids_of}
use Rattle.mailbox.proofs.LetterLaws.{messages_rise, rising_more}
use Rattle.mailbox.proofs.letters.make_way.Goals as goal

pub returns-then-is_behind-clause-rising : goal.returns-then-is_behind-clause-rising
returns-then-is_behind-clause-rising c =
    let us = c.args.uids.now.items in
    let ls = c.args.letters.now.items in
    subst (λ (vs : List ℕ). IsStrictlyIncreasing (vs ++ c.args.uid ∷ [])) (sym c.close_up.ensures.uids)
    (rising_more (uids_of (messages_of (filed us ls))) c.args.uid c.requires.above (messages_rise us ls c.requires.beside c.requires.rising))
