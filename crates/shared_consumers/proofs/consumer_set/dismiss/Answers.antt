use Rattle.std.proofs.Common.{◌≡◌, ◌∙◌, [], Some, slice_get, subst, sym}
use Rattle.shard_queue.specs.Permits.{WasEmpty, capacity_of, producers_of, take_seen}
use Rattle.lane_work.specs.Consuming.{IsConsumed}
use Rattle.shared_consumers.proofs.consumer_set.dismiss.Goals as goal

pub returns-clause-service : goal.returns-clause-service
returns-clause-service g c =
    let lanes = c.args.shared.now.intake.lanes.items in
    let same = c.clear.ensures.shard ∙ sym c.shard-shard.ensures in
    record {
      each = λ lane here. subst (λ n. IsConsumed lane c.args.shared.now.delivery n [] c.into_consumed-consumed.result) same
          (c.into_consumed-consumed.ensures.consumed lanes c.requires.lanes lane (subst (λ n. slice_get lanes n ≡ Some lane) (sym same) here));
      empty = λ lane here.
          let took = c.into_consumed-consumed.ensures.took in
          subst (λ l. WasEmpty (producers_of lane) (capacity_of lane) l (take_seen c.into_consumed-consumed.result.permit)) (sym took.0)
          (subst (λ l. WasEmpty (producers_of lane) (capacity_of lane) c.clear.new.self.took l) (sym took.1)
          (c.clear.ensures.empty lane
          (subst (λ ls. slice_get ls c.clear.new.self.shard ≡ Some lane) (sym c.deref.ensures.value) (subst (λ n. slice_get lanes n ≡ Some lane) (sym same) here))));
    }
