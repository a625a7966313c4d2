use Rattle.std.proofs.Common.{◌≡◌, ◌+◌, ℕ, Bool, List, get_or, take, ap, sym, ◌∙◌}
use Rattle.std.specs.Prelude.{if◌then◌else◌}
use Rattle.std.proofs.lemmas.List.{take_more}
use Rattle.mailbox.specs.inner.Choices.{passes}
use Rattle.mailbox.specs.inner.Letters.{without_message}
use Rattle.mailbox.specs.inner.Marks.{without_each}
use Rattle.mailbox.proofs.TakenLaws.{each_more}
use Rattle.mailbox.proofs.messages.remove_each.Goals as goal
use Rattle.mailbox.proofs.messages.remove_each.Goals.{then-has, else-has}

pub loop-uid-preserved : goal.loop-uid-preserved
loop-uid-preserved c =
    let us = c.args.uids.now in
    let i = c.loop-uid.uid-index in
    let u = get_or us i 0 in
    let test = passes c.args.choice in
    let old = c.args.letters.now in
    let so_far : c.loop-uid.letters ≡ without_each test (take i us) old = c.loop-uid.invariant in
    let more : without_each test (take (i + 1) us) old ≡ (if test u then without_message u (without_each test (take i us) old) else without_each test (take i us) old) =
    ap (λ (vs : List ℕ). without_each test vs old) (take_more us i 0 c.loop-uid-test.true) ∙ each_more test (take i us) u old in
    elim c.if-has.branch [
      | then-has w ↦
          let yes = sym c.has.ensures ∙ w.if-has.true in
          w.letters-is ∙ w.remove.ensures ∙ ap (without_message u) so_far
          ∙ sym (more ∙ ap (λ (b : Bool). if b then without_message u (without_each test (take i us) old) else without_each test (take i us) old) yes)
      | else-has w ↦
          let no_more = sym c.has.ensures ∙ w.if-has.false in
          w.letters-is ∙ so_far ∙ sym (more ∙ ap (λ (b : Bool). if b then without_message u (without_each test (take i us) old) else without_each test (take i us) old) no_more)
    ]
