use Rattle.std.proofs.Common.{◌≡◌, length, map, arith}
use Rattle.reckoning.specs.Gathered.{fault_of_fate}
use Rattle.reckoning.proofs.Laying.{all_laid, gravest_of_none}
use Rattle.reckoning.proofs.gather.gather_workers.Goals as goal

pub remove-requires : goal.remove-requires
remove-requires g c = let v = c.loop.invariant in omega (arith, v.13, c.loop-test.true, c.len-end.ensures)

pub destroy_empty-requires : goal.destroy_empty-requires
destroy_empty-requires g c = let v = c.loop.invariant in omega (arith, v.13, c.loop-test.false, c.len-end.ensures, c.loop.auto.counter-end)

pub returns-clause-parts : goal.returns-clause-parts
returns-clause-parts g c =
    let v = c.loop.invariant in
    let none : length c.loop.worked.items ≡ 0 = omega (arith, v.13, c.loop-test.false, c.len-end.ensures, c.loop.auto.counter-end, c.loop.worked.ok.0) in
    record {
      hands = all_laid (λ w. w.ended.items) (map (λ h. h.items) c.loop.into.hands.items) _ c.loop.worked.items none v.0;
      receivers = all_laid (λ w. w.receiver) c.loop.into.receivers.items _ c.loop.worked.items none v.1;
      replies = all_laid (λ w. w.replies) c.loop.into.replies.items _ c.loop.worked.items none v.2;
      logs = all_laid (λ w. w.log) c.loop.into.logs.items _ c.loop.worked.items none v.3;
    }

pub returns-clause-fault : goal.returns-clause-fault
returns-clause-fault g c =
    let v = c.loop.invariant in
    let none : length c.loop.worked.items ≡ 0 = omega (arith, v.13, c.loop-test.false, c.len-end.ensures, c.loop.auto.counter-end, c.loop.worked.ok.0) in
    gravest_of_none (λ w. fault_of_fate w.fate) c.loop.worst _ c.loop.worked.items none v.4
