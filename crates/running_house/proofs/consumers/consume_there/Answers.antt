use Rattle.std.proofs.Common.{rules, ◌≡◌, ℕ, [], All, map, sym, subst}
use Rattle.std.proofs.lemmas.List.Elements.{All-map}
use Rattle.delivery_token.specs.declared.Job.{Job}
use Rattle.shard_queue.specs.Permits.{ShardQueue}
use Rattle.shard_queue.specs.Permits.{IsConsumer}
use Rattle.shard_queue.specs.Reply.{sent_on}
use Rattle.lane_work.specs.Consuming.{IsConsumed}
use Rattle.house_shared.specs.Crew.{IsStand}
use Rattle.house_shared.proofs.Finding.{here_at}
use Rattle.running_house.proofs.Lives.{service_of}
use Rattle.running_house.proofs.consumers.consume_there.Goals as goal

pub returns-then-load-from : goal.returns-then-load-from
returns-then-load-from g c =
    let shared = c.args.common.shared.now in
    let stand = c.into_inner-stand.result in
    let is : IsStand shared c.args.shard stand = subst (IsStand shared c.args.shard) (sym c.into_inner-stand.ensures) c.requires.stand in
    let before = map sent_on stand.stall.senders.items in
    let fresh : All (λ e. e ≡ []) before = All-map (λ e. e ≡ []) sent_on stand.stall.senders.items is.unsent in
    record {
      each = λ lane at. (
        before,
        fresh,
        subst (IsConsumed lane shared.delivery c.args.shard before) (sym c.packed.ensures)
            (subst (λ (n : ℕ). IsConsumed lane shared.delivery n before c.step_aside-aside.result) is.shard (c.step_aside-aside.ensures lane (is.permit lane at))),
      );
    }

pub consume-requires-clause-permit : goal.consume-requires-clause-permit
consume-requires-clause-permit g c =
    let shared = c.args.common.shared.now in
    let stand = c.into_inner-stand.result in
    let is : IsStand shared c.args.shard stand = subst (IsStand shared c.args.shard) (sym c.into_inner-stand.ensures) c.requires.stand in
    let same : c.from-position.result ≡ c.args.shard = search rules in (
      subst (λ (q : ShardQueue Job). IsConsumer q stand.stall.permit) (sym c.index.ensures)
          (is.permit _ (here_at shared.intake.lanes.items c.from-position.result c.args.shard c.index.result.now same c.requires.shard)),
      is.fresh,
    )

pub returns : goal.returns
returns g c =
    let shared = c.args.common.shared.now in
    let stand = c.into_inner-stand.result in
    let is : IsStand shared c.args.shard stand = subst (IsStand shared c.args.shard) (sym c.into_inner-stand.ensures) c.requires.stand in
    let before = map sent_on stand.stall.senders.items in
    let fresh : All (λ e. e ≡ []) before = All-map (λ e. e ≡ []) sent_on stand.stall.senders.items is.unsent in
    let same : c.from-position.result ≡ c.args.shard = search rules in
    service_of shared c.from-position.result c.args.shard stand.stall.shard c.index.result.now before c.consume.result _ same is.shard c.packed-2.ensures fresh
    (subst (λ (q : ShardQueue Job). IsConsumed q shared.delivery stand.stall.shard before c.consume.result) c.index.ensures c.consume.ensures.consumed)
