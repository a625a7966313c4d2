use Rattle.std.proofs.Common.{◌≡◌, ◌≤◌, ◌+◌, ◌++◌, map, vec_len, vec_capacity}
use Rattle.house_shared.specs.Crew.{AllAt}
use Rattle.shard_queue.specs.Reply.{received}
use Rattle.serving_workers.specs.Closing.{GoOn}
use Rattle.serving_workers.specs.Leaving.{IsServed}
use Rattle.serving_workers.specs.inner.Leaving.{HasHeard}
use Rattle.serving_workers.proofs.closing.hear_all_out.Given as goal

abbrev pub invariant-loop-number : goal.invariant-loop-number
invariant-loop-number g l =
    AllAt (IsServed g.L.Line.told l.shared) l.number l.left.items × (vec_len l.left + l.number ≡ vec_len l.fn.served)
    × AllAt (HasHeard l.shared) 0 l.worked.items × (vec_len l.worked ≡ l.number) × (vec_len l.fn.served ≤ vec_capacity l.worked)
    × (map (λ w. w.ended.items) l.worked.items ++ map (λ s. s.ended.items) l.left.items ≡ map (λ s. s.ended.items) l.fn.served.items)
    × GoOn (map (λ s. received s.receiver) l.fn.served.items) (map (λ w. received w.receiver) l.worked.items ++ map (λ s. received s.receiver) l.left.items)
    × (l.lines.items ++ map (λ s. s.line) l.left.items ≡ map (λ s. s.line) l.fn.served.items) × (vec_len l.lines ≡ l.number) × (vec_len l.fn.served ≤ vec_capacity l.lines)
