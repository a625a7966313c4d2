use Rattle.std.proofs.Common.{◌≡◌, ◌≤◌, [], All, vec_len, vec_capacity}
use Rattle.tests_serving.proofs.lists.ListLinesLinesListLine.lines.Given as goal

abbrev pub invariant-loop : goal.invariant-loop
invariant-loop l = (vec_len l.all ≡ l.counter) × (l.count ≤ vec_capacity l.all) × All (λ line. (line.came.items ≡ []) × (line.said.items ≡ [])) l.all.items
