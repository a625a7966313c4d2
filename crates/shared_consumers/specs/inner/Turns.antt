-- One turn of a consumer: it takes what stands first on its lane, if anything does.
use Rattle.std.specs.Prelude.{◌≡◌, ℕ, [], ◌∷◌, ◌++◌}
use Rattle.delivery_token.specs.declared.Job.{Job}
use Rattle.shard_queue.specs.declared.lane.Entry.TheVariants as entries
use Rattle.shard_queue.specs.Permits.{ShardQueue}
use Rattle.shard_queue.specs.Permits.{ConsumerPermit}
use Rattle.shard_queue.specs.Permits.{WasEmpty, capacity_of, got, producers_of, take_seen}
use Rattle.lane_work.specs.Answering.{is_ours}
use Rattle.shared_consumers.specs.declared.turn.Turn.{Turn}
use Rattle.shared_consumers.specs.declared.turn.Turn.TheVariants.{Copy, End, Empty}

-- a copy was taken, and whether it was one of a house with so many mailboxes and channels; or an end was; or nothing waited, and nothing was taken
abbrev pub Turned : (mailboxes channels : ℕ) → ShardQueue Job → ConsumerPermit Job → Turn → ConsumerPermit Job → Type 0
Turned mailboxes channels lane old (Copy ours) new = (p : ℕ) × (job : Job) × (got new ≡ got old ++ entries.Item p job ∷ [])
    × (ours ≡ is_ours mailboxes channels p job)
Turned mailboxes channels lane old End new = (p : ℕ) × (got new ≡ got old ++ entries.End p ∷ [])
Turned mailboxes channels lane old Empty new = (got new ≡ got old) × (take_seen new ≡ take_seen old)
    × WasEmpty (producers_of lane) (capacity_of lane) (got old) (take_seen old)
