use Rattle.std.proofs.Common.{◌≡◌, length, map, arith}
use Rattle.reckoning.specs.Gathered.{fault_of_consumer}
use Rattle.reckoning.proofs.Laying.{all_laid, gravest_of_none}
use Rattle.reckoning.proofs.gather.gather_consumers.Goals as goal

pub remove-requires : goal.remove-requires
remove-requires g c = let v = c.loop.invariant in omega (arith, v.10, c.loop-test.true, c.len-end.ensures)

pub destroy_empty-requires : goal.destroy_empty-requires
destroy_empty-requires g c = let v = c.loop.invariant in omega (arith, v.10, c.loop-test.false, c.len-end.ensures, c.loop.auto.counter-end)

pub returns-clause-parts : goal.returns-clause-parts
returns-clause-parts g c =
    let v = c.loop.invariant in
    let none : length c.loop.consumed.items ≡ 0 = omega (arith, v.10, c.loop-test.false, c.len-end.ensures, c.loop.auto.counter-end, c.loop.consumed.ok.0) in
    record {
      permits = all_laid (λ w. w.permit) c.loop.into.permits.items _ c.loop.consumed.items none v.0;
      hands = all_laid (λ w. w.senders.items) (map (λ h. h.items) c.loop.into.hands.items) _ c.loop.consumed.items none v.1;
      taken = all_laid (λ w. w.taken) c.loop.into.taken.items _ c.loop.consumed.items none v.2;
    }

pub returns-clause-fault : goal.returns-clause-fault
returns-clause-fault g c =
    let v = c.loop.invariant in
    let none : length c.loop.consumed.items ≡ 0 = omega (arith, v.10, c.loop-test.false, c.len-end.ensures, c.loop.auto.counter-end, c.loop.consumed.ok.0) in
    gravest_of_none fault_of_consumer c.loop.worst _ c.loop.consumed.items none v.3
