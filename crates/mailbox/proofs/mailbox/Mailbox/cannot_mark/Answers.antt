use Rattle.std.proofs.Common.{ap, arith, leb-true, le-leb}
use Rattle.change_ring.specs.Log.{total}
use Rattle.mailbox.specs.Mailbox.{Mailbox}
use Rattle.mailbox.proofs.MessageLaws.{count_seen}
use Rattle.mailbox.proofs.mailbox.Mailbox.cannot_mark.Goals as goal

pub returns-then-not-differ_from : goal.returns-then-not-differ_from
returns-then-not-differ_from c =
    let count = count_seen c.args.mark_seen c.args.uid c.args.self.now.messages c.args.old c.after.result c.differ_from.result c.if-not-mark_seen.false c.requires.there c.after.ensures c.differ_from.ensures in
    let none = rw c.if-not-differ_from.true at count in
    (λ e. cc, λ many. absurd (omega (arith, many, none, c.requires.small)))

pub returns : goal.returns
returns c =
    let count = count_seen c.args.mark_seen c.args.uid c.args.self.now.messages c.args.old c.after.result c.differ_from.result c.if-not-mark_seen.false c.requires.there c.after.ensures c.differ_from.ensures in
    let one = rw c.if-not-differ_from.false at count in
    let same = ap (λ (m : Mailbox). total m.window) c.self.view_is in
    (λ e. omega (arith, leb-true _ _ e, one, same, c.total.ensures.total), λ many. le-leb _ _ (omega (arith, many, one, same, c.total.ensures.total)))
