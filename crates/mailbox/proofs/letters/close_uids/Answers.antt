use Rattle.std.proofs.Common.{◌≡◌, ◌<◌, ap, sym, ◌∙◌, length, arith}
use Rattle.std.specs.Prelude.{is_some}
use Rattle.mailbox.specs.declared.letters.Letter.{Letter}
use Rattle.mailbox.specs.inner.Letters.{filed, messages_of}
use Rattle.mailbox.specs.Mailbox.{uids_of}
use Rattle.mailbox.proofs.LetterLaws.{closing_more, closing_past}
use Rattle.mailbox.proofs.letters.close_uids.Goals as goal
use Rattle.mailbox.proofs.letters.close_uids.Goals.{then-is_some, else-is_some}

pub loop-position-preserved : goal.loop-position-preserved
loop-position-preserved c =
    let now = c.loop-position.uids.items in
    let ls = c.args.letters.now in
    let whole = uids_of (messages_of (filed c.args.uids.now.items ls)) in
    let kept = c.loop-position.kept in
    let position = c.loop-position.position in
    let l = c.index-letters-position.result in
    let at = c.index-letters-position.is in
    let told : is_some l.text ≡ c.is_some.result = ap (λ (x : Letter). is_some x.text) at ∙ sym c.is_some.ensures in
    let within : position < length now = omega (arith, c.loop-position-test.true, c.len-position-end.ensures, c.args.uids.now.ok.0, c.requires, c.loop-position.invariant.beside) in
    elim c.if-is_some.branch [
      | then-is_some w ↦ rw (w.uids-is, w.kept-is) (closing_more whole now ls kept position w.index.result.now l c.loop-position.invariant within w.index.ensures at (told ∙ w.if-is_some.true))
      | else-is_some w ↦ rw (w.uids-is, w.kept-is) (closing_past whole now ls kept position l c.loop-position.invariant within at (told ∙ w.if-is_some.false))
    ]
