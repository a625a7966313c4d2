use Rattle.house.proofs.Closing.{ends_here, ends_none}
use Rattle.house.proofs.house.House.end_where.Goals as goal

pub returns-then-not-shut-clause-came : goal.returns-then-not-shut-clause-came
returns-then-not-shut-clause-came c = ends_none c.args.shard c.args.shut c.args.self.now c.args.out.now.items c.if-not-shut.true

pub returns-clause-came : goal.returns-clause-came
returns-clause-came c = ends_here c.args.shard c.args.shut c.args.self.now c.args.out.now.items c.end_all.new.self c.end_all.new.out.items c.end_all.result c.if-not-shut.false c.end_all.ensures.came
