-- What bodies and proofs say besides: what a consumer does with the copies that it takes: each is delivered under a lock, and its producer is told.
use Rattle.std.specs.Prelude.{◌≡◌, ℕ, ◌<◌, List, [], ◌++◌, slice_index_or}
use Rattle.delivery_token.specs.declared.Job.{Job}
use Rattle.delivery_token.specs.declared.log.Noted.{Noted}
use Rattle.shard_queue.specs.declared.lane.Entry.{Entry}
use Rattle.lane_work.specs.Answering.{WereAnswered}

-- What a consumer has sent on each channel grew by the answers to these entries, and by nothing else.
abbrev pub HaveAnswered : (mailboxes channels shard : ℕ) → List (Entry Job) → (before after : List (List (Entry Noted))) → Type 0
HaveAnswered mailboxes channels shard got before after =
    (p : ℕ) → p < channels → (told : List (Entry Noted)) × WereAnswered mailboxes shard p got told
    × (slice_index_or after p [] ≡ slice_index_or before p [] ++ told)
