use Rattle.std.proofs.Common.{List, ℕ, subst, take}
use Rattle.imap_stream.specs.Attending.{HasCalled, heard}
use Rattle.imap_stream.proofs.Attending.{by_hearing}
use Rattle.imap_stream.proofs.client_slot.ClientSlot.hear.Goals as goal

pub returns-in-Ok-clause-called : goal.returns-in-Ok-clause-called
returns-in-Ok-clause-called g c =
    let all = c.in-Ok.ensures.ok c.requires.takes in
    subst (λ (xs : List ℕ). HasCalled (take c.args.count xs) c.args.visit.now c.hear.new.self) c.deref.ensures.value (heard all.0 all.2 c.in-Ok.ensures.goes_on)

pub returns-in_default-clause-called : goal.returns-in_default-clause-called
returns-in_default-clause-called g c =
    let h = c.hear.ensures in
    subst (λ (xs : List ℕ). HasCalled (take c.args.count xs) c.args.visit.now c.hear.new.self) c.deref.ensures.value
    (by_hearing c.hear.result (g.C.Courier.carried c.args.courier.now) (g.C.Courier.carried c.hear.new.courier) (take c.args.count c.deref.result.now) c.args.visit.now c.hear.new.self c.requires.takes
    h.ok h.goes_on h.ends h.short h.torn h.cut)
