use Rattle.std.proofs.Common.{ap, length, arith}
use Rattle.mailbox.proofs.MarkLaws.{marked_few}
use Rattle.mailbox.proofs.messages.Messages.add.Goals as goal

pub overflow_sub-more : goal.overflow_sub-more
overflow_sub-more c = omega (arith, marked_few c.self.inside.letters, ap length c.self.invariant.marked, c.len.ensures.len)
