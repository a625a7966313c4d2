use Rattle.std.proofs.Common.{subst, sym}
use Rattle.house.specs.declared.event.Event.{Event}
use Rattle.house.specs.Steps.{ChangesNothing, MayWant}
use Rattle.house.proofs.house.House.step.Goals as goal

pub returns-in-End-clause-changes_nothing : goal.returns-in-End-clause-changes_nothing
returns-in-End-clause-changes_nothing c e = subst (λ (x : Event). ChangesNothing c.args.self.now x) (sym c.in-End.is) (c.end.ensures.changes_nothing e)

pub returns-in-Put-clause-changes_nothing : goal.returns-in-Put-clause-changes_nothing
returns-in-Put-clause-changes_nothing c e = subst (λ (x : Event). ChangesNothing c.args.self.now x) (sym c.in-Put.is) (c.put.ensures.changes_nothing e)

pub returns-in-Hear-clause-changes_nothing : goal.returns-in-Hear-clause-changes_nothing
returns-in-Hear-clause-changes_nothing c e = subst (λ (x : Event). ChangesNothing c.args.self.now x) (sym c.in-Hear.is) (c.hear.ensures.changes_nothing e)

pub returns-in-Bytes-clause-asks : goal.returns-in-Bytes-clause-asks
returns-in-Bytes-clause-asks c e = subst (λ (x : Event). MayWant x c.args.self.now c.bytes.new.self) (sym c.in-Bytes.is) (c.bytes.ensures.asks e)

pub returns-in-Say-clause-asks : goal.returns-in-Say-clause-asks
returns-in-Say-clause-asks c e = subst (λ (x : Event). MayWant x c.args.self.now c.say.new.self) (sym c.in-Say.is) (c.say.ensures.asks e)
