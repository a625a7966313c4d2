use Rattle.std.proofs.Common.{rules, of_calls, ℕ, ltb, leb}
use Rattle.std.proofs.lemmas.List.Sorted.{IsPartitionPoint-from_clause, IsPartitionedBy-ltb, IsPartitionedBy-leb}
use Rattle.imap_grammar.proofs.ChosenAt.{halved_twice}
use Rattle.imap_grammar.proofs.positions.positions_of_uids.Goals as goal

pub returns : goal.returns
returns c i l =
    let view = c.args.view.now in
    let uids = c.positions_of-uids.result in
    let from = IsPartitionPoint-from_clause (λ (u : ℕ). ltb u uids.first) view c.partition_point-first.result c.partition_point-first.ensures.partitioned
    (IsPartitionedBy-ltb (λ (u : ℕ). u) view uids.first c.requires) (λ a r f k. search (rules, of_calls)) in
    let to = IsPartitionPoint-from_clause (λ (u : ℕ). leb u uids.last) view c.partition_point-last.result c.partition_point-last.ensures.partitioned
    (IsPartitionedBy-leb (λ (u : ℕ). u) view uids.last c.requires) (λ a r f k. search (rules, of_calls)) in
    rw c.positions_of-uids.ensures at (halved_twice uids.first uids.last view c.partition_point-first.result c.partition_point-last.result from to i l)
