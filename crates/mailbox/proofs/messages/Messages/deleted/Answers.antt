use Rattle.std.proofs.Common.{ap, length, arith}
use Rattle.mailbox.specs.Counts.{deleted_count}
use Rattle.mailbox.proofs.MarkLaws.{marked_count}
use Rattle.mailbox.proofs.messages.Messages.deleted.Goals as goal

pub returns : goal.returns
returns c = omega (arith, c.len.ensures, c.self.inside.marked.ok.0, ap length c.self.invariant.marked, marked_count c.self.inside.letters, ap deleted_count c.self.view_is)
