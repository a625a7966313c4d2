-- What holds of every world, whatever the events were.
use Rattle.std.specs.Prelude.{◌≡◌, ℕ, ◌-◌, ◌<◌, ◌≤◌, ◌==◌, ◌≢◌, List, [], ◌∷◌, ◌++◌, ◌&&◌, map, length, take, drop, filter, filter_map, slice_index_or, All, Contains, AllPairs, Option, Some, None, if◌then◌else◌}
use Rattle.std.specs.List.{range_with_len}
use Rattle.shard_queue.specs.declared.lane.Entry.{Entry}
use Rattle.shard_queue.specs.declared.lane.Entry.TheVariants.{Item, End}
use Rattle.shard_queue.specs.Lane.{IsMerge, IsClosed}
use Rattle.delivery_token.specs.declared.CopyKey.{CopyKey}
use Rattle.delivery_token.specs.declared.Job.{Job}
use Rattle.delivery_token.specs.Keys.{Below}
use Rattle.delivery_token.specs.Copies.{stored_in}
use Rattle.delivery_token.specs.declared.Refusal.{Refusal}
use Rattle.delivery_token.specs.declared.Verdict.TheVariants.{Stored, Refused}
use Rattle.delivery_token.specs.declared.log.Noted.{Noted}
use Rattle.change_ring.specs.declared.change.Change.{Change}
use Rattle.change_ring.specs.Log.{IsLegalLog, added}
use Rattle.world.specs.World.{Config, World, Event, Session, Hand, Empty, Taken, Done, IsWorld, Steps, shard_of, reply_room}

-- the item of an entry that has one
abbrev pub item_of : {A : Type 0} → Entry A → Option A
item_of (Item p x) = Some x
item_of (End p) = None

-- the items of the entries
abbrev pub items : {A : Type 0} → List (Entry A) → List A
items entries = filter_map item_of entries

-- what seat p has heard as stored in mailbox m
abbrev pub stored : World → ℕ → ℕ → List (CopyKey × ℕ)
stored w p m = stored_in m (w.heard p)

-- a verdict in a hand, if it is for seat p
abbrev pub held : ℕ → Hand → List Noted
held p Empty = []
held p (Taken c) = []
held p (Done r) = if r.key.seat == p then r ∷ [] else []

-- what is stored of p in mailbox m and not heard yet: it waits in p's reply lane, or is in the hand of m's shard
abbrev pub due : Config → World → ℕ → ℕ → List (CopyKey × ℕ)
due k w p m = stored_in m (items (w.replies p).waiting) ++ stored_in m (held p (w.hand (shard_of k m)))

-- the history of mailbox m as far as it is of seat p
abbrev pub accepted_of : World → ℕ → ℕ → List (Job × ℕ)
accepted_of w p m = filter (λ a. a.0.key.seat == p) (w.box m).accepted

-- an accepted copy by its key and UID
abbrev pub pair_of : Job × ℕ → CopyKey × ℕ
pair_of a = (a.0.key, a.1)

-- the history by keys and UIDs
abbrev pub pairs : List (Job × ℕ) → List (CopyKey × ℕ)
pairs accepted = map pair_of accepted

-- the copies alone
abbrev pub copies : List (Job × ℕ) → List Job
copies accepted = map (λ a. a.0) accepted

-- a copy's key
abbrev pub key_of : Job → CopyKey
key_of c = c.key

-- the keys alone
abbrev pub keys : List (Job × ℕ) → List CopyKey
keys accepted = map key_of (copies accepted)

-- an entry that is a copy of seat p for mailbox m
abbrev pub copy_for : ℕ → ℕ → Entry Job → Option Job
copy_for p m (Item q c) = if c.key.seat == p && c.mailbox == m then Some c else None
copy_for p m (End q) = None

-- seat p's copies for mailbox m that its shard's consumer has taken, in order
abbrev pub taken_copies : Config → World → ℕ → ℕ → List Job
taken_copies k w p m = filter_map (copy_for p m) (w.lane (shard_of k m)).got

-- the changes numbered from i up to j, without j
abbrev pub between : {A : Type 0} → ℕ → ℕ → List A → List A
between i j xs = drop i (take j xs)

-- A session that has selected was shown the changes from where it began up to its cursor, and those alone.
pub record IsShown (log : List Change) (s : Session) : Type 0 where
  pub shown : s.shown ≡ between s.start s.cursor log
  pub began : s.start ≤ s.cursor
  pub within : s.cursor ≤ length log

-- xs is ys with some elements left out
pub data IsPart {A : Type 0} : List A → List A → Type 0 where
  none : IsPart [] []
  keeps : (x : A) {xs ys : List A} → IsPart xs ys → IsPart (x ∷ xs) (x ∷ ys)
  skips : (y : A) {xs ys : List A} → IsPart xs ys → IsPart xs (y ∷ ys)

-- The key stands in the history under this UID, at one position, and at no other under any.
pub record StandsOnce (history : List (CopyKey × ℕ)) (key : CopyKey) (uid : ℕ) : Type 0 where
  pub position : ℕ
  pub within : position < length history
  pub here : slice_index_or history position (key, uid) ≡ (key, uid)
  pub alone : (i : ℕ) (d : CopyKey × ℕ) → i < length history → (slice_index_or history i d).0 ≡ key → i ≡ position

-- what holds of each world that some events lead to
abbrev pub Always : (Config → World → Type 0) → Type 0
Always P = (k : Config) (events : List Event) (w : World) → IsWorld k events w → P k w

-- What holds of every world.
pub record Headline (k : Config) (w : World) : Type 0 where
  -- of each seat, a mailbox's history is what the seat heard as stored there, then what is stored and not heard yet
  pub history : (p m : ℕ) → pairs (accepted_of w p m) ≡ stored w p m ++ due k w p m
  -- a copy that its seat heard as stored stands in its mailbox's history, under that UID, at one position and no other
  pub answered : (p u : ℕ) (r : Noted) → Contains (w.heard p) r → r.verdict ≡ Stored u → StandsOnce (pairs (w.box r.mailbox).accepted) r.key u
  -- a copy that its seat heard as refused stands in no mailbox's history
  pub refused : (p : ℕ) (r : Noted) (f : Refusal) → Contains (w.heard p) r → r.verdict ≡ Refused f → (m : ℕ)
      → All (λ a. a.0.key ≢ r.key) (w.box m).accepted
  -- no copy has two verdicts
  pub one_verdict : (p : ℕ) → AllPairs (λ a b. a.key ≢ b.key) (w.heard p)
  -- of each seat, the keys of a mailbox's history strictly rise
  pub in_order : (p m : ℕ) → AllPairs Below (keys (accepted_of w p m))
  -- of each seat, a mailbox's history has, in their order, only copies that its shard's consumer took, with the very text that was put
  pub taken : (p m : ℕ) → IsPart (copies (accepted_of w p m)) (taken_copies k w p m)
  -- no key stands twice in a history
  pub no_key_twice : (m : ℕ) → AllPairs (λ a b. a.0.key ≢ b.0.key) (w.box m).accepted
  -- its UIDs are the numbers from the first one on, one for each message that the log added
  pub uids : (m : ℕ) → map (λ a. a.1) (w.box m).accepted ≡ range_with_len k.first_uid (length (w.box m).accepted)
  pub given : (m : ℕ) → added (w.box m).log ≡ map (λ a. a.1) (w.box m).accepted
  -- each log is legal, and its window begins within it: at its start, or so that it holds as many changes as the ring
  pub logs : (m : ℕ) → IsLegalLog (w.box m).log
  pub windows : (m : ℕ) → (w.box m).base ≤ length (w.box m).log
  pub held_back : (m : ℕ) → 0 < (w.box m).base → k.ring ≤ length (w.box m).log - (w.box m).base
  -- each lane is a merge of what its producers sent
  pub lanes : (s : ℕ) → IsMerge k.seats k.depth (w.lane s)
  pub reply_lanes : (p : ℕ) → IsMerge k.shards reply_room (w.replies p)
  -- a lane whose every end was taken is empty, and stays as it is whatever happens later
  pub closed : (s : ℕ) → IsClosed k.seats (w.lane s)
      → ((w.lane s).waiting ≡ []) × ((later : List Event) (v : World) → Steps k w later v → v.lane s ≡ w.lane s)
  -- each session that has selected was shown exactly the changes from where it began up to its cursor
  pub shown : (n : ℕ) (s : Session) → w.session n ≡ Some s → IsShown (w.box s.mailbox).log s
