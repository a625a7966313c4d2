use Rattle.std.proofs.Common.{arith, rules, ◌≡◌, [], ap, sym, refl, ◌∙◌}
use Rattle.shard_queue.specs.declared.permits.Permit.{Permit}
use Rattle.shard_queue.specs.Lane.{of, has_end}
use Rattle.shard_queue.specs.Shared.{sender, list_of}
use Rattle.shard_queue.specs.SharedLane.{number_of}
use Rattle.shard_queue.proofs.ClosingLaws.{one_more_number, one_more_permit, all_permitted}
use Rattle.shard_queue.proofs.permits.SharedLane.new.Goals as goal

pub loop-number-preserved : goal.loop-number-preserved
loop-number-preserved g c =
    let P : Permit g.row.C-Pass.Denot → Type 0 = λ s. g.C.Carrier.is_of c.in_ok-carrier.carrier s.pass × (g.C.Carrier.view s.pass ≡ sender c.args.producers s.number [] []) in
    let hired = c.hire.ensures in
    let items = c.push_reserved.ensures.items in (
      hired.pass.0,
      hired.pass.1,
      search rules,
      one_more_permit P c.loop-number.permits.items _ _ c.loop-number.invariant.3 hired.hired items,
      one_more_number number_of c.loop-number.permits.items _ _ c.loop-number.number c.loop-number.invariant.4 refl items,
      search rules,
    )

pub returns-clause-consumer : goal.returns-clause-consumer
returns-clause-consumer g c = let i = c.loop-number.invariant in
    ((i.0, all_permitted _ _ _ i.1 (search rules), λ p less. c.in_ok-ended.ensures p ∙ sym (ap (λ v. has_end (of p (list_of v))) i.1)), ap list_of i.1)

pub push_reserved-requires : goal.push_reserved-requires
push_reserved-requires g c = let i = c.loop-number.invariant in let less = c.loop-number-test.true in omega (arith, less, i.2, i.5)
