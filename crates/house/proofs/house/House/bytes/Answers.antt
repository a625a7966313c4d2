use Rattle.std.proofs.Common.{Result, subst}
use Rattle.std.specs.Prelude.{OnErr}
use Rattle.house.specs.declared.event.Event.TheVariants as events
use Rattle.house.specs.declared.event.HouseFault.{HouseFault}
use Rattle.house.specs.Steps.{MayWant}
use Rattle.house.proofs.house.House.bytes.Goals as goal

pub returns-then-is_some-clause-asks : goal.returns-then-is_some-clause-asks
returns-then-is_some-clause-asks c e =
    subst (λ (r : Result (Unit {0}) HouseFault). OnErr r (MayWant (events.Bytes c.args.connection c.args.piece) c.args.self.now c.receive.new.self)) e c.receive.ensures.asks
