-- A producer's permits, one on each lane, and a consumer's, one on each channel.
use Rattle.std.specs.Prelude.{◌≡◌, ℕ, Bool, true, false, List, [], ◌∷◌, ◌++◌, ◌-◌, All, length, map, take, slice_index_or}
use Rattle.delivery_token.specs.declared.Job.{Job}
use Rattle.delivery_token.specs.declared.log.Noted.{Noted}
use Rattle.envelope.specs.Names.{Directory, is_shut}
use Rattle.shard_queue.specs.declared.lane.Entry.{Entry}
use Rattle.shard_queue.specs.declared.lane.Entry.TheVariants.{End}
use Rattle.shard_queue.specs.Permits.{ShardQueue, IsProducer, IsEnded, number_of, ended_number, said, sent}
use Rattle.shard_queue.specs.Reply.{ReplyChannel, SenderPermit, IsSender, sender_number}
pub use Rattle.lane_work.specs.LanePermits.{AreEnded}
pub use Rattle.lane_work.specs.ChannelPermits.{AreSendersEnded}
use Rattle.lane_work.specs.declared.desk.LanePermit.{LanePermit}
use Rattle.lane_work.specs.declared.desk.LanePermit.TheVariants.{Live, Over}

-- ---- one permit

abbrev pub permit_number : LanePermit Job → ℕ
permit_number (Live permit) = number_of permit
permit_number (Over ended) = ended_number ended

-- it has ended
abbrev pub is_over : LanePermit Job → Bool
is_over (Live permit) = false
is_over (Over ended) = true

-- what it has put on its lane, its end left out
abbrev pub put_by : LanePermit Job → List (Entry Job)
put_by (Live permit) = sent permit
put_by (Over ended) = take (length (said ended) - 1) (said ended)

-- It is a permit on this lane. One that is over has said its end, and that last.
abbrev pub IsPermit : ShardQueue Job → LanePermit Job → Type 0
IsPermit lane (Live permit) = IsProducer lane permit
IsPermit lane (Over ended) = IsEnded lane ended × (said ended ≡ put_by (Over ended) ++ End (ended_number ended) ∷ [])

-- it has put nothing yet, and may
abbrev pub IsNew : LanePermit Job → Type 0
IsNew permit = (put_by permit ≡ []) × (is_over permit ≡ false)

-- ---- permits in a row

-- the i-th permit is producer p's on the i-th lane
abbrev pub ArePermits : List (ShardQueue Job) → ℕ → List (LanePermit Job) → Type 0
ArePermits [] p [] = Unit {0}
ArePermits [] p (s ∷ ss) = ⊥
ArePermits (q ∷ qs) p [] = ⊥
ArePermits (q ∷ qs) p (s ∷ ss) = (IsPermit q s × (permit_number s ≡ p)) × ArePermits qs p ss

-- which of them are over, lane by lane
abbrev pub overs : List (LanePermit Job) → List Bool
overs permits = map is_over permits

-- none is over
abbrev pub AreLive : List (LanePermit Job) → Type 0
AreLive permits = All (λ permit. is_over permit ≡ false) permits

-- those that are over are on shards that are shut
abbrev pub AreShutWhereOver : Directory → List (LanePermit Job) → Type 0
AreShutWhereOver directory permits = (lane : ℕ) → slice_index_or (overs permits) lane false ≡ true → is_shut directory lane ≡ true

-- producer p's permits, one on each lane, and none is over where the shard isn't shut
abbrev pub AreInForce : Directory → List (ShardQueue Job) → ℕ → List (LanePermit Job) → Type 0
AreInForce directory lanes p permits = ArePermits lanes p permits × AreShutWhereOver directory permits

-- the i-th permit is sender s's on the i-th channel
abbrev pub AreSenders : List (ReplyChannel Noted) → ℕ → List (SenderPermit Noted) → Type 0
AreSenders [] s [] = Unit {0}
AreSenders [] s (x ∷ xs) = ⊥
AreSenders (c ∷ cs) s [] = ⊥
AreSenders (c ∷ cs) s (x ∷ xs) = (IsSender c x × (sender_number x ≡ s)) × AreSenders cs s xs
