use Rattle.std.proofs.Common.{rules, sym}
use Rattle.std.proofs.lemmas.List.Sorted.{IsNonDecreasingBy-from_sort_by_key, list_any-IsPermutation}
use Rattle.imap_grammar.specs.inner.Choosing.{is_within}
use Rattle.imap_grammar.proofs.positions.put_in_order.Goals as goal

pub returns-clause-order : goal.returns-clause-order
returns-clause-order c = IsNonDecreasingBy-from_sort_by_key (λ range. range.first) _ c.sort_unstable_by_key.ensures.sorted (λ a r q k. search rules)

pub returns-clause-same : goal.returns-clause-same
returns-clause-same c position =
    sym (list_any-IsPermutation (λ range. is_within range position) _ _ c.sort_unstable_by_key.ensures.permutation)
