use Rattle.std.proofs.Common.{◌≡◌, ◌+◌, ◌≤◌, ◌++◌, drop, length, map, vec_len, vec_capacity}
use Rattle.imap_grammar.specs.Sets.{named_at}
use Rattle.imap_grammar.proofs.view.with_positions.Given as goal

abbrev pub invariant-loop-uid : goal.invariant-loop-uid
invariant-loop-uid l = record {
  told : l.named.items ++ map (named_at l.view) (drop l.uid-index l.uids) ≡ map (named_at l.view) l.uids;
  room : vec_len l.named + length (drop l.uid-index l.uids) ≤ vec_capacity l.named;
}
