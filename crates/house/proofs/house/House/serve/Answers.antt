use Rattle.house.proofs.Settlement.{serve_came}
use Rattle.house.proofs.house.House.serve.Goals as goal

pub returns-clause-came : goal.returns-clause-came
returns-clause-came c = serve_came c.args.shard c.args.held c.args.self.now c.args.out.now.items c.stint.new.self c.stint.new.out.items c.stint.result c.if-held.false c.stint.ensures.came
