use Rattle.std.proofs.Common.{ℕ, Bool, ◌++◌, subst}
use Rattle.change_ring.specs.Log.{discards}
use Rattle.mailbox.specs.Mailbox.{rows, Stands}
use Rattle.mailbox.proofs.mailbox.Mailbox.discard.Goals as goal

pub returns-clause-logged : goal.returns-clause-logged
returns-clause-logged c = λ log s. subst (λ (f : ℕ → Bool). Stands c.take_out.new.self (log ++ discards f (rows c.args.self.now))) c.of-choice.ensures.test (c.take_out.ensures.logged log s)
