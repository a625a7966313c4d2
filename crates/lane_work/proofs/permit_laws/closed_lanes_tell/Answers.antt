use Rattle.std.proofs.Common.{map, ◌≡◌}
use Rattle.delivery_token.specs.declared.Job.{Job}
use Rattle.shard_queue.specs.Permits.{ShardQueue, capacity_of, history, producers_of}
use Rattle.std.proofs.lemmas.List.Elements.{All-weaker}
use Rattle.lane_work.proofs.HistoryLaws.{account_of_history, are_heard, said_is_taken}
use Rattle.lane_work.proofs.CloseLaws.{all_whole, closed_length, histories_taken}
use Rattle.lane_work.proofs.permit_laws.closed_lanes_tell.Goals as goal

pub returns-clause-said : goal.returns-clause-said
returns-clause-said c lanes rows permits closed are p ended is within = said_is_taken lanes p ended (map history closed) is (are_heard are ended within)

pub returns-clause-accounts : goal.returns-clause-accounts
returns-clause-accounts c lanes rows permits closed are p ended is within house connections replies notes heard account =
    account_of_history house p connections replies notes heard lanes ended (map history closed) is (are_heard are ended within) account

pub returns-clause-whole : goal.returns-clause-whole
returns-clause-whole c lanes rows permits closed are = (
  closed_length are,
  histories_taken are,
  λ producers depth all.
      all_whole are producers depth (All-weaker (λ (q : ShardQueue Job). (capacity_of q ≡ depth) × (producers_of q ≡ producers)) (λ q. q.producers ≡ producers) (λ q h. h.1) lanes all),
)
