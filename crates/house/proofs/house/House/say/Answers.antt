use Rattle.std.proofs.Common.{Result, subst}
use Rattle.std.specs.Prelude.{OnErr}
use Rattle.house.specs.declared.event.Event.TheVariants as events
use Rattle.house.specs.declared.event.HouseFault.{HouseFault}
use Rattle.house.specs.Steps.{MayWant}
use Rattle.house.proofs.house.House.say.Goals as goal

pub returns-clause-asks : goal.returns-clause-asks
returns-clause-asks c e = subst (λ (r : Result (Unit {0}) HouseFault). OnErr r (MayWant (events.Say c.args.session c.args.piece) c.args.self.now c.listen.new.self)) e c.listen.ensures.asks
