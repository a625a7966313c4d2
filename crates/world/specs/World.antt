-- The whole house as lists and numbers, the events that change it, and the worlds that come from the empty one.
use Rattle.std.specs.Prelude.{◌≡◌, ℕ, ◌+◌, ◌-◌, ◌%◌, ◌^◌, ◌<◌, ◌≤◌, Bool, true, false, ◌⊎◌, List, [], ◌∷◌, ◌++◌, length, take, drop, All, Option, Some, None}
use Rattle.shard_queue.specs.Lane.{Lane, empty_lane, put, took, has_end, IsLive, set_at}
use Rattle.shard_queue.specs.declared.lane.Entry.{Entry}
use Rattle.shard_queue.specs.declared.lane.Entry.TheVariants.{Item, End}
use Rattle.delivery_token.specs.declared.CopyKey.{CopyKey}
use Rattle.delivery_token.specs.declared.Job.{Job}
use Rattle.delivery_token.specs.Keys.{Below}
use Rattle.delivery_token.specs.declared.Refusal.TheVariants.{Full, MailboxFull, NoMemory, Shut, UidSpent}
use Rattle.delivery_token.specs.declared.Verdict.{Verdict}
use Rattle.delivery_token.specs.declared.Verdict.TheVariants.{Stored, Refused}
use Rattle.delivery_token.specs.declared.log.Noted.{Noted}
use Rattle.change_ring.specs.declared.flag_op.FlagOp.{FlagOp}
use Rattle.change_ring.specs.Log.{rows_of, BaseAfter, arrival, flags_logged, seen_logged, removals, removals_if, discards}
use Rattle.change_ring.specs.declared.change.Change.{Change}
use Rattle.change_ring.specs.declared.change.Flags.{Flags}
pub use Rattle.world.specs.declared.hand.Hand.{Hand}
pub use Rattle.world.specs.declared.hand.Hand.TheVariants.{Empty, Taken, Done}

-- how much there is of each
pub record Config : Type 0 where
  pub seats : ℕ
  pub shards : ℕ
  pub mailboxes : ℕ
  pub sessions : ℕ
  pub depth : ℕ  -- entries that a shard's lane has room for
  pub messages : ℕ  -- rows that a mailbox has room for
  pub ring : ℕ  -- changes that a mailbox's window keeps at least
  pub ring_max : ℕ  -- and at most
  pub first_uid : ℕ
  pub uidvalidity : ℕ

-- replies that a reply lane has room for
abbrev pub reply_room : ℕ
reply_room = 128

-- a mailbox logs no more changes than this
abbrev pub most_changes : ℕ
most_changes = 2 ^ 62

-- a mailbox is entered no more often than this: each cursor has a serial of its own
abbrev pub most_entries : ℕ
most_entries = 2 ^ 64 - 1

-- no message gets this UID or a greater one
abbrev pub last_uid : ℕ
last_uid = 4294967295

-- a mailbox
pub record Box : Type 0 where
  pub log : List Change
  pub base : ℕ  -- the window is the log without its first `base` changes
  pub accepted : List (Job × ℕ)  -- each copy that was added, with its UID

-- a session that has selected
pub record Session : Type 0 where
  pub mailbox : ℕ
  pub start : ℕ  -- the log's length when it selected
  pub cursor : ℕ
  pub shown : List Change  -- what it was handed since

-- the whole house
pub record World : Type 0 where
  pub lane : ℕ → Lane Job  -- by shard; its producers are the seats
  pub hand : ℕ → Hand  -- by shard
  pub replies : ℕ → Lane Noted  -- by seat; its producers are the shards
  pub heard : ℕ → List Noted  -- by seat
  pub box : ℕ → Box  -- by mailbox
  pub session : ℕ → Option Session
  pub opened : ℕ → ℕ  -- by mailbox: how often it was entered

-- nothing has happened yet
abbrev pub empty_world : World
empty_world = record {
  lane = λ _. empty_lane;
  hand = λ _. Empty;
  replies = λ _. empty_lane;
  heard = λ _. [];
  box = λ _. record { log = []; base = 0; accepted = [] };
  session = λ _. None;
  opened = λ _. 0;
}

-- the shard that a mailbox's copies pass through
abbrev pub shard_of : Config → ℕ → ℕ
shard_of k mailbox = mailbox % k.shards

-- s is the shard of this mailbox
abbrev pub IsShardOf : Config → ℕ → ℕ → Type 0
IsShardOf k mailbox s = (s < k.shards) × (shard_of k mailbox ≡ s)

-- what may happen, each one atomic step of one actor
pub data Event : Type 0 where
  Put : (seat shard : ℕ) → Job → Event
  PutEnd : (seat shard : ℕ) → Event
  Take : (shard : ℕ) → Event
  Deliver : (shard : ℕ) → Event
  Answer : (shard : ℕ) → Event
  Hear : (seat : ℕ) → Event
  Enter : (session mailbox : ℕ) → Event
  Status : (mailbox : ℕ) → Event
  Read : (session uid : ℕ) → (mark_seen : Bool) → Event
  Store : (session uid : ℕ) → FlagOp → Event
  Expunge : (session : ℕ) → (may_go : ℕ → Bool) → Event
  Feed : (session limit : ℕ) → Event
  Leave : (session : ℕ) → (removing : Bool) → Event
  Discard : (mailbox : ℕ) → (goes : ℕ → Bool) → Event

-- Lanes

-- seat p has heard this reply
abbrev pub hears : World → ℕ → Noted → World
hears w p r = record w { heard = set_at w.heard p (w.heard p ++ r ∷ []) }

-- the reply to a copy
abbrev pub reply_to : Job → Verdict → Noted
reply_to c v = record { key = c.key; mailbox = c.mailbox; verdict = v }

-- the entry was put into the lane of shard s
abbrev pub puts : World → ℕ → Entry Job → World
puts w s e = record w { lane = set_at w.lane s (put (w.lane s) e) }

-- the key of an entry is before y, where it has one
abbrev pub EntryBelow : CopyKey → Entry Job → Type 0
EntryBelow y (Item p c) = Below c.key y
EntryBelow y (End p) = Unit {0}

-- Seat p puts into the lane of shard s.
module _ (k : Config) (w : World) (p s : ℕ) where
  -- seat p may put the copy: the shard is the mailbox's, and the key is p's and above every other of p; where it has ended there, it hears so
  pub record MayPut (c : Job) : Type 0 where
    pub seat : p < k.seats
    pub own : c.key.seat ≡ p
    pub mailbox : c.mailbox < k.mailboxes
    pub shard : IsShardOf k c.mailbox s
    pub above_sent : (t : ℕ) → All (EntryBelow c.key) ((w.lane t).sent p)
    pub above_heard : All (λ r. Below r.key c.key) (w.heard p)

  -- seat p puts a copy into the lane of shard s, or hears at once that it was refused: as shut where it has put its end into that lane, and
  -- else as full where the lane is
  pub data PutStep (c : Job) (v : World) : Type 0 where
    -- the copy goes last
    put_joins : MayPut c → IsLive (w.lane s) p → length (w.lane s).waiting < k.depth → v ≡ puts w s (Item p c) → PutStep c v
    put_full : MayPut c → IsLive (w.lane s) p → k.depth ≤ length (w.lane s).waiting → v ≡ hears w p (reply_to c (Refused Full)) → PutStep c v
    -- a growth was refused
    put_no_memory : MayPut c → IsLive (w.lane s) p → length (w.lane s).waiting < k.depth → v ≡ hears w p (reply_to c (Refused NoMemory)) → PutStep c v
    -- the shard is being closed: the seat has put its end into the lane, which stays as it is
    put_shut : MayPut c → has_end ((w.lane s).sent p) ≡ true → v ≡ hears w p (reply_to c (Refused Shut)) → PutStep c v

  -- seat p puts its end into the lane of shard s, unless that is full
  pub data EndStep (v : World) : Type 0 where
    end_joins : p < k.seats → s < k.shards → IsLive (w.lane s) p → length (w.lane s).waiting < k.depth → v ≡ puts w s (End p) → EndStep v
    end_full : p < k.seats → s < k.shards → IsLive (w.lane s) p → k.depth ≤ length (w.lane s).waiting → v ≡ w → EndStep v

-- what the hand holds after an entry was taken
abbrev pub in_hand : Entry Job → Hand
in_hand (Item p c) = Taken c
in_hand (End p) = Empty

-- the consumer of shard s, whose hand is empty, takes the first entry that waits
pub data TakeStep (w : World) (s : ℕ) (v : World) : Type 0 where
  takes : (e : Entry Job) (others : List (Entry Job)) → w.hand s ≡ Empty → (w.lane s).waiting ≡ e ∷ others
      → v ≡ record w { lane = set_at w.lane s (took (w.lane s) e others); hand = set_at w.hand s (in_hand e) } → TakeStep w s v
  take_empty : w.hand s ≡ Empty → (w.lane s).waiting ≡ [] → v ≡ w → TakeStep w s v

-- Mailboxes

-- the next message's UID
abbrev pub next_uid : Config → Box → ℕ
next_uid k b = k.first_uid + length b.accepted

module _ (k : Config) (old : Box) where
  -- the mailbox after these changes and these accepted copies
  pub record Logs (changes : List Change) (copies : List (Job × ℕ)) (new : Box) : Type 0 where
    pub room : length old.log + length changes ≤ most_changes
    pub log : new.log ≡ old.log ++ changes
    pub base : BaseAfter k.ring (length old.log) old.base changes new.base
    pub accepted : new.accepted ≡ old.accepted ++ copies

-- What the consumer of shard s has done with the copy in its hand.
module _ (w : World) (s : ℕ) where
  -- the hand of shard s holds this reply, and mailbox m is b
  abbrev pub delivered : ℕ → Box → Noted → World
  delivered m b r = record w { hand = set_at w.hand s (Done r); box = set_at w.box m b }

  -- the hand of shard s holds this reply, and nothing else changed
  abbrev pub refused : Noted → World
  refused r = record w { hand = set_at w.hand s (Done r) }

-- no UID is left, or no room in the log for the arrival of a message with these flags
abbrev pub IsSpent : Config → Flags → Box → Type 0
IsSpent k flags b = (last_uid ≤ next_uid k b) ⊎ (most_changes < length b.log + length (arrival (next_uid k b) flags))

-- there are both
abbrev pub HasUid : Config → Flags → Box → Type 0
HasUid k flags b = (next_uid k b < last_uid) × (length b.log + length (arrival (next_uid k b) flags) ≤ most_changes)

-- as many rows are there as may be
abbrev pub is_full : Config → Box → Type 0
is_full k b = k.messages ≤ length (rows_of b.log)

-- the copy in the hand of shard s is delivered: stored under the next UID, with its flags, or refused as spent, then as full, then for want of memory
pub data DeliverStep (k : Config) (w : World) (s : ℕ) (v : World) : Type 0 where
  delivers : (c : Job) (b : Box) → w.hand s ≡ Taken c → HasUid k c.flags (w.box c.mailbox) → length (rows_of (w.box c.mailbox).log) < k.messages
      → Logs k (w.box c.mailbox) (arrival (next_uid k (w.box c.mailbox)) c.flags) ((c, next_uid k (w.box c.mailbox)) ∷ []) b
      → v ≡ delivered w s c.mailbox b (reply_to c (Stored (next_uid k (w.box c.mailbox)))) → DeliverStep k w s v
  deliver_spent : (c : Job) → w.hand s ≡ Taken c → IsSpent k c.flags (w.box c.mailbox) → v ≡ refused w s (reply_to c (Refused UidSpent))
      → DeliverStep k w s v
  deliver_full : (c : Job) → w.hand s ≡ Taken c → HasUid k c.flags (w.box c.mailbox) → is_full k (w.box c.mailbox)
      → v ≡ refused w s (reply_to c (Refused MailboxFull)) → DeliverStep k w s v
  -- a growth was refused
  deliver_no_memory : (c : Job) → w.hand s ≡ Taken c → HasUid k c.flags (w.box c.mailbox) → length (rows_of (w.box c.mailbox).log) < k.messages
      → v ≡ refused w s (reply_to c (Refused NoMemory)) → DeliverStep k w s v

-- Replies

-- the reply in the hand of shard s goes into the reply lane of its seat, unless that is full
pub data AnswerStep (w : World) (s : ℕ) (v : World) : Type 0 where
  answers : (r : Noted) → w.hand s ≡ Done r → length (w.replies r.key.seat).waiting < reply_room
      → v ≡ record w { hand = set_at w.hand s Empty; replies = set_at w.replies r.key.seat (put (w.replies r.key.seat) (Item s r)) }
      → AnswerStep w s v
  answer_full : (r : Noted) → w.hand s ≡ Done r → reply_room ≤ length (w.replies r.key.seat).waiting → v ≡ w → AnswerStep w s v

-- seat p hears the first reply that waits
pub data HearStep (w : World) (p : ℕ) (v : World) : Type 0 where
  hears_one : (s : ℕ) (r : Noted) (others : List (Entry Noted)) → (w.replies p).waiting ≡ Item s r ∷ others
      → v ≡ record w { replies = set_at w.replies p (took (w.replies p) (Item s r) others); heard = set_at w.heard p (w.heard p ++ r ∷ []) }
      → HearStep w p v

-- Sessions

-- what a session has before it when it looks at its mailbox
abbrev pub pending : Box → Session → List Change
pending b s = drop s.cursor b.log

-- the session after it was shown these changes
abbrev pub shows : Session → List Change → Session
shows s cs = record { mailbox = s.mailbox; start = s.start; cursor = s.cursor + length cs; shown = s.shown ++ cs }

module _ (k : Config) (w : World) where
  -- session n, which has not selected, selects mailbox m; or nothing happens: the mailbox has no serial left for a cursor, or else memory is wanting
  pub data EnterStep (n m : ℕ) (v : World) : Type 0 where
    enters : n < k.sessions → m < k.mailboxes → w.session n ≡ None → w.opened m < most_entries
        → v ≡ record w {
          session = set_at w.session n (Some (record { mailbox = m; start = length (w.box m).log; cursor = length (w.box m).log; shown = [] }));
          opened = set_at w.opened m (w.opened m + 1);
        } → EnterStep n m v
    enter_spent : n < k.sessions → m < k.mailboxes → w.session n ≡ None → most_entries ≤ w.opened m → v ≡ w → EnterStep n m v
    -- a growth was refused
    enter_no_memory : n < k.sessions → m < k.mailboxes → w.session n ≡ None → w.opened m < most_entries → v ≡ w → EnterStep n m v

-- Session n, which has selected.
module _ (k : Config) (w : World) (n : ℕ) (s : Session) where
  -- A session that has selected is shown some changes and logs some. A cursor below the base is lapped, and a log without room is spent.
  pub data MailStep (allocates : Bool) (shown changes : List Change) (v : World) : Type 0 where
    mails : (b : Box) → (w.box s.mailbox).base ≤ s.cursor → Logs k (w.box s.mailbox) changes [] b
        → v ≡ record w { box = set_at w.box s.mailbox b; session = set_at w.session n (Some (shows s shown)) } → MailStep allocates shown changes v
    mail_lapped : s.cursor < (w.box s.mailbox).base → v ≡ w → MailStep allocates shown changes v
    mail_spent : (w.box s.mailbox).base ≤ s.cursor → most_changes < length (w.box s.mailbox).log + length changes
        → v ≡ w → MailStep allocates shown changes v
    -- a growth was refused
    mail_no_memory : allocates ≡ true → (w.box s.mailbox).base ≤ s.cursor → length (w.box s.mailbox).log + length changes ≤ most_changes
        → v ≡ w → MailStep allocates shown changes v

  -- A session that has selected logs some changes and is gone, unless the log has no room for them.
  pub data LeaveStep (changes : List Change) (v : World) : Type 0 where
    leaves : (b : Box) → Logs k (w.box s.mailbox) changes [] b
        → v ≡ record w { box = set_at w.box s.mailbox b; session = set_at w.session n None } → LeaveStep changes v
    leave_spent : most_changes < length (w.box s.mailbox).log + length changes → v ≡ w → LeaveStep changes v

module _ (k : Config) (w : World) where
  -- Mailbox m logs some changes for nobody's session, unless its log has no room for them.
  pub data DiscardStep (m : ℕ) (changes : List Change) (v : World) : Type 0 where
    discards_them : (b : Box) → m < k.mailboxes → Logs k (w.box m) changes [] b → v ≡ record w { box = set_at w.box m b } → DiscardStep m changes v
    discard_spent : m < k.mailboxes → most_changes < length (w.box m).log + length changes → v ≡ w → DiscardStep m changes v

-- session n has selected, and what is said of it holds
abbrev pub Selected : World → ℕ → (Session → Type 0) → Type 0
Selected w n P = (s : Session) × (w.session n ≡ Some s) × P s

-- One event may lead from world w to world v.
abbrev pub Step : Config → World → Event → World → Type 0
Step k w (Put p s c) v = PutStep k w p s c v
Step k w (PutEnd p s) v = EndStep k w p s v
Step k w (Take s) v = TakeStep w s v
Step k w (Deliver s) v = DeliverStep k w s v
Step k w (Answer s) v = AnswerStep w s v
Step k w (Hear p) v = HearStep w p v
Step k w (Enter n m) v = EnterStep k w n m v
Step k w (Status m) v = v ≡ w
Step k w (Read n u mark) v = Selected w n (λ s. MailStep k w n s true [] (seen_logged mark (rows_of (w.box s.mailbox).log) u) v)
Step k w (Store n u op) v = Selected w n (λ s. MailStep k w n s false [] (flags_logged (rows_of (w.box s.mailbox).log) u op) v)
Step k w (Expunge n may_go) v = Selected w n (λ s. MailStep k w n s true (pending (w.box s.mailbox) s)
    (removals may_go (rows_of (w.box s.mailbox).log)) v)
Step k w (Feed n limit) v = Selected w n (λ s. MailStep k w n s true (take limit (pending (w.box s.mailbox) s)) [] v)
Step k w (Leave n removing) v = Selected w n (λ s. LeaveStep k w n s (removals_if removing (rows_of (w.box s.mailbox).log)) v)
Step k w (Discard m goes) v = DiscardStep k w m (discards goes (rows_of (w.box m).log)) v

-- Some events, one after another, may lead from world w to world v.
abbrev pub Steps : Config → World → List Event → World → Type 0
Steps k w [] v = v ≡ w
Steps k w (e ∷ es) v = (u : World) × Step k w e u × Steps k u es v

-- w comes from the empty world by these events
abbrev pub IsWorld : Config → List Event → World → Type 0
IsWorld k events w = Steps k empty_world events w

-- The event may happen now, whatever comes of it.
abbrev pub Allowed : Config → World → Event → Type 0
Allowed k w (Put p s c) = MayPut k w p s c
Allowed k w (PutEnd p s) = (p < k.seats) × (s < k.shards) × IsLive (w.lane s) p
Allowed k w (Take s) = w.hand s ≡ Empty
Allowed k w (Deliver s) = (c : Job) × (w.hand s ≡ Taken c)
Allowed k w (Answer s) = (r : Noted) × (w.hand s ≡ Done r)
Allowed k w (Hear p) = (s : ℕ) × (r : Noted) × (others : List (Entry Noted)) × ((w.replies p).waiting ≡ Item s r ∷ others)
Allowed k w (Enter n m) = (n < k.sessions) × (m < k.mailboxes) × (w.session n ≡ None)
Allowed k w (Status m) = Unit {0}
Allowed k w (Read n u mark) = (s : Session) × (w.session n ≡ Some s)
Allowed k w (Store n u op) = (s : Session) × (w.session n ≡ Some s)
Allowed k w (Expunge n may_go) = (s : Session) × (w.session n ≡ Some s)
Allowed k w (Feed n limit) = (s : Session) × (w.session n ≡ Some s)
Allowed k w (Leave n removing) = (s : Session) × (w.session n ≡ Some s)
Allowed k w (Discard m goes) = m < k.mailboxes
