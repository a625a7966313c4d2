use Rattle.std.proofs.Common.{◌≡◌, ℕ, ◌+◌, ◌*◌, ◌<◌, suc, length}
use Rattle.std.specs.Option.{option_map}
use Rattle.imap_grammar.specs.SearchReading.{key_at, others_at}
use Rattle.imap_grammar.specs.inner.Asking.{all_and_rest}
use Rattle.imap_grammar.proofs.keys.+keys.Given as goal

abbrev pub decreases-key_at : goal.decreases-key_at
decreases-key_at l = l.levels * 4

abbrev pub decreases-not_at : goal.decreases-not_at
decreases-not_at l = l.levels * 4 + 1

abbrev pub decreases-or_at : goal.decreases-or_at
decreases-or_at l = l.levels * 4 + 1

abbrev pub decreases-others_at : goal.decreases-others_at
decreases-others_at l = l.levels * 4 + 1

abbrev pub decreases-keys_at : goal.decreases-keys_at
decreases-keys_at l = l.levels * 4 + 2

abbrev pub decreases-worded_at : goal.decreases-worded_at
decreases-worded_at l = l.levels * 4 + 2

abbrev pub decreases-group_at : goal.decreases-group_at
decreases-group_at l = l.levels * 4 + 3

abbrev pub invariant-others_at-loop-start : goal.invariant-others_at-loop-start
invariant-others_at-loop-start l =
    (n : ℕ) × (length l.rest < n)
    × (option_map (all_and_rest l.asked l.all) (others_at (key_at l.levels) n l.rest)
    ≡ option_map (all_and_rest l.asked l.first) (others_at (key_at l.levels) (suc (length l.bytes)) l.bytes))

abbrev pub decreases-others_at-loop-start : goal.decreases-others_at-loop-start
decreases-others_at-loop-start l = length l.rest
