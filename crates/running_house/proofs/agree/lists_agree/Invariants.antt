use Rattle.std.proofs.Common.{ℕ, ◌<◌, map, [], slice_index_or}
use Rattle.envelope.specs.Names.{shard_of}
use Rattle.running_house.specs.Walk.{MailboxMet}
use Rattle.running_house.proofs.agree.lists_agree.Given as goal

abbrev pub invariant-loop-position : goal.invariant-loop-position
invariant-loop-position l = (m : ℕ) → m < l.position
    → MailboxMet l.whole (map (λ g. g.notes) l.logs) (slice_index_or (map (λ c. c.items) l.copies) (shard_of l.directory m) []) m
    (slice_index_or (map (λ a. a.items) l.accepted) m []) (slice_index_or (map (λ t. t.items) l.texts) m [])
