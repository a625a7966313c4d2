-- What bodies and proofs say besides: of a copy that was taken.
use Rattle.std.specs.Prelude.{◌≡◌}
use Rattle.delivery_token.specs.declared.CopyKey.{CopyKey}
use Rattle.delivery_token.specs.declared.Job.{Job}
use Rattle.shard_queue.specs.declared.lane.Entry.{Entry}
use Rattle.shard_queue.specs.declared.lane.Entry.TheVariants.{Item, End}

-- the entry is the copy with this key
abbrev pub HasKey : CopyKey → Entry Job → Type 0
HasKey key (Item producer job) = job.key ≡ key
HasKey key (End producer) = ⊥
