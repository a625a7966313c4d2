use Rattle.std.proofs.Common.{arith}
use Rattle.cursor_set.proofs.LeavingLaws.{length_counted}
use Rattle.cursor_set.proofs.leaving.Leaving.count.Goals as goal

pub overflow_sub-result : goal.overflow_sub-result
overflow_sub-result c = omega (arith, length_counted c.args.self.now.gone.items c.args.view.now c.requires)

pub returns : goal.returns
returns c = omega (arith, length_counted c.args.self.now.gone.items c.args.view.now c.requires)
