use Rattle.std.proofs.Common.{rules, of_calls, ◌≡◌, ◌<◌, ltb, ℕ, length, get_or, sym}
use Rattle.std.proofs.lemmas.List.Sorted.{IsPartitionPoint-from_clause, IsPartitionedBy-ltb}
use Rattle.imap_grammar.proofs.Viewing.{halved_there, halved_nowhere}
use Rattle.imap_grammar.proofs.view.position_by_halving.Goals as goal
use Rattle.imap_grammar.proofs.view.position_by_halving.Goals.{in_default-via-in-Some+else-found-uid, in_default-via-in_default}

pub returns-in-Some : goal.returns-in-Some
returns-in-Some c =
    let view = c.args.view.now in
    let point = IsPartitionPoint-from_clause (λ (u : ℕ). ltb u c.args.uid) view c.partition_point-index.result c.partition_point-index.ensures.partitioned
    (IsPartitionedBy-ltb (λ (u : ℕ). u) view c.args.uid c.requires) (λ a r f k. search (rules, of_calls)) in
    let within : c.partition_point-index.result < length view = search rules in
    let found : get_or view c.partition_point-index.result 0 ≡ c.args.uid = search rules in
    sym (halved_there c.args.uid view c.partition_point-index.result point within found)

pub returns-in_default : goal.returns-in_default
returns-in_default c =
    let view = c.args.view.now in
    let point = IsPartitionPoint-from_clause (λ (u : ℕ). ltb u c.args.uid) view c.partition_point-index.result c.partition_point-index.ensures.partitioned
    (IsPartitionedBy-ltb (λ (u : ℕ). u) view c.args.uid c.requires) (λ a r f k. search (rules, of_calls)) in
    elim c.in_default.branch [
      | in_default-via-in-Some+else-found-uid w ↦ sym (halved_nowhere c.args.uid view c.partition_point-index.result point c.requires (λ l same. search rules))
      | in_default-via-in_default w ↦ sym (halved_nowhere c.args.uid view c.partition_point-index.result point c.requires (λ l same. search rules))
    ]
