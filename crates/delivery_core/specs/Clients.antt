-- What a call of a session is in the world, and what it tells of the mailbox and of the session, as the event met them.
use Rattle.std.specs.Prelude.{◌≡◌, ℕ, ◌+◌, ◌<◌, ◌≤◌, ◌==◌, not, Bool, List, [], ◌∷◌, ◌++◌, length, take, count_by, sum_by, option_map, Option, Some, None, Result, Ok, Err, if◌then◌else◌}
use Rattle.delivery_token.specs.Text.{Text, undated}
use Rattle.delivery_token.specs.declared.Job.{Job}
use Rattle.change_ring.specs.declared.change.Change.{Change}
use Rattle.change_ring.specs.declared.change.Flags.{Flags}
use Rattle.change_ring.specs.declared.flag_op.FlagOp.{FlagOp}
use Rattle.change_ring.specs.Log.{Row, replay, rows_of, view_at, discards, flags_logged, removals, removals_if, seen_logged}
use Rattle.cursor_set.specs.Lines.{lines}
use Rattle.mailbox.specs.Events.{was_logged}
use Rattle.mailbox.specs.declared.clients.MailFault.{MailFault}
use Rattle.mailbox.specs.declared.clients.MailFault.TheVariants.{Stranger, Lapped, Spent, NoMemory}
use Rattle.mailbox.specs.declared.clients.Opening.{Opening}
use Rattle.mailbox.specs.declared.clients.Row as read
use Rattle.mailbox.specs.declared.mailbox.Status.{Status}
use Rattle.shard_queue.specs.Lane.{set_at}
use Rattle.world.specs.World.{Config, World, Box, Session, Event, Enter, Discard, Logs, Step, Selected, most_changes, most_entries, next_uid, pending, shows}
use Rattle.delivery_core.specs.DeliveryCore.{DeliveryCore, view_of}
use Rattle.delivery_core.specs.Stands.{StandsFor}

-- From each world for which the old one stood, the event leads to one for which the new one stands, and this holds of the mailbox that session
-- n had selected and of the session, as they were.
abbrev pub Does : Config → DeliveryCore → Event → ℕ → (Box → Session → Type 0) → DeliveryCore → Type 0
Does k old event n P new = (w : World) → StandsFor k old w → (v : World) × Step k w event v × StandsFor k new v
    × Selected w n (λ s. P (w.box s.mailbox) s)

module _ (k : Config) (w : World) (n : ℕ) (s : Session) where
  -- Session n was shown the first of these changes, and its mailbox logged the second; nothing else changed.
  pub record Done (shown changes : List Change) (v : World) : Type 0 where
    pub kept : (w.box s.mailbox).base ≤ s.cursor
    pub mailbox : Box
    pub logs : Logs k (w.box s.mailbox) changes [] mailbox
    pub made : v ≡ record w { box = set_at w.box s.mailbox mailbox; session = set_at w.session n (Some (shows s shown)) }

-- From each world for which the old one stood there is one for which the new one stands, in which session n was shown these changes and its
-- mailbox logged those.
abbrev pub Makes : Config → DeliveryCore → ℕ → (Box → Session → List Change) → (Box → List Change) → DeliveryCore → Type 0
Makes k old n shown changes new = (w : World) → StandsFor k old w → (v : World) × StandsFor k new v
    × Selected w n (λ s. Done k w n s (shown (w.box s.mailbox) s) (changes (w.box s.mailbox)) v)

-- why a session was refused that would log these changes
abbrev pub Refuses : MailFault → List Change → Box → Session → Type 0
Refuses Lapped changes b s = s.cursor < b.base
Refuses Spent changes b s = (b.base ≤ s.cursor) × (most_changes < length b.log + length changes)
Refuses NoMemory changes b s = (b.base ≤ s.cursor) × (length b.log + length changes ≤ most_changes)
Refuses Stranger changes b s = ⊥

-- the rows after these changes
abbrev pub rows_then : Box → List Change → List Row
rows_then b changes = rows_of (b.log ++ changes)

-- the row of a UID
abbrev pub row_with : ℕ → List Row → Option Row
row_with uid [] = None
row_with uid (row ∷ rows) = if row.uid == uid then Some row else row_with uid rows

-- the text of the copy that was accepted under a UID
abbrev pub text_with : ℕ → List (Job × ℕ) → Text
text_with uid [] = undated []
text_with uid (copy ∷ copies) = if copy.1 == uid then copy.0.text else text_with uid copies

-- the session was shown these changes, whose lines stand behind what stood there
pub record IsTold (shown : List Change) (before after : List ℕ) (b : Box) (s : Session) : Type 0 where
  pub kept : b.base ≤ s.cursor
  pub text : after ≡ before ++ lines (view_at b.log s.cursor) shown

-- the session was shown these changes: their lines stand behind what stood there, and it counts the UIDs that they leave
pub record Sees (old new : DeliveryCore) (session : ℕ) (shown : List Change) (before after : List ℕ) : Type 0 where
  pub text : after ≡ before ++ lines (view_of old session) shown
  pub view : view_of new session ≡ replay (view_of old session) shown

-- a Feed answers how many changes it showed: those that are pending, at most so many
abbrev pub Feeds : ℕ → List ℕ → List ℕ → Result ℕ MailFault → Box → Session → Type 0
Feeds limit before after (Ok n) b s = IsTold (take limit (pending b s)) before after b s × (n ≡ length (take limit (pending b s)))
Feeds limit before after (Err fault) b s = Refuses fault [] b s

-- an Expunge shows all that is pending, and answers how many messages it removed
abbrev pub Expunges : (ℕ → Bool) → List ℕ → List ℕ → Result ℕ MailFault → Box → Session → Type 0
Expunges may_go before after (Ok n) b s = IsTold (pending b s) before after b s × (n ≡ length (removals may_go (rows_of b.log)))
Expunges may_go before after (Err fault) b s = Refuses fault (removals may_go (rows_of b.log)) b s

-- the row of a UID as it is after a Read, with the text of its copy
abbrev pub read_of : Bool → ℕ → Box → Option read.Row
read_of mark_seen uid b =
    option_map (λ (row : Row). record {
      uid = row.uid;
      flags = row.flags;
      newly_seen = was_logged (seen_logged mark_seen (rows_of b.log) uid);
      text = text_with uid b.accepted;
    })
    (row_with uid (rows_then b (seen_logged mark_seen (rows_of b.log) uid)))

module _ (mark_seen : Bool) (uid : ℕ) where
  -- a Read answers the message, where it is there
  abbrev pub Reads : Result (Option read.Row) MailFault → Box → Session → Type 0
  Reads (Ok row) b s = (b.base ≤ s.cursor) × (row ≡ read_of mark_seen uid b)
  Reads (Err fault) b s = Refuses fault (seen_logged mark_seen (rows_of b.log) uid) b s

-- the flags of a UID as they are after a Store
abbrev pub flags_of : ℕ → FlagOp → Box → Option Flags
flags_of uid op b = option_map (λ (row : Row). row.flags) (row_with uid (rows_then b (flags_logged (rows_of b.log) uid op)))

module _ (uid : ℕ) (op : FlagOp) where
  -- a Store answers the message's flags, where it is there
  abbrev pub Alters : Result (Option Flags) MailFault → Box → Session → Type 0
  Alters (Ok flags) b s = (b.base ≤ s.cursor) × (flags ≡ flags_of uid op b)
  Alters (Err fault) b s = Refuses fault (flags_logged (rows_of b.log) uid op) b s

-- a Leave answers how many messages went, and is refused where the log has no room for that
abbrev pub Leaves : Bool → Result ℕ MailFault → Box → Session → Type 0
Leaves removing (Ok n) b s = n ≡ length (removals_if removing (rows_of b.log))
Leaves removing (Err Spent) b s = most_changes < length b.log + length (removals_if removing (rows_of b.log))
Leaves removing (Err fault) b s = ⊥

-- An Enter of mailbox m answers how many messages are there and the next UID. It is refused where the mailbox has no serial left for a cursor,
-- and where it has one, for want of memory alone.
abbrev pub Opens : Config → World → ℕ → Result Opening MailFault → Type 0
Opens k w m (Ok opening) = (opening.count ≡ length (rows_of (w.box m).log)) × (opening.uidnext ≡ next_uid k (w.box m))
Opens k w m (Err Spent) = most_entries ≤ w.opened m
Opens k w m (Err NoMemory) = w.opened m < most_entries
Opens k w m (Err fault) = ⊥

-- From each world for which the old one stood, session n enters mailbox m or is refused, and the new one stands for what comes of it.
abbrev pub Enters : Config → DeliveryCore → ℕ → ℕ → Result Opening MailFault → DeliveryCore → Type 0
Enters k old n m result new = (w : World) → StandsFor k old w → (v : World) × Step k w (Enter n m) v × StandsFor k new v × Opens k w m result

-- what STATUS tells: of the rows, and of the texts that were accepted under their UIDs
pub record IsStatus (k : Config) (b : Box) (status : Status) : Type 0 where
  pub messages : status.messages ≡ length (rows_of b.log)
  pub uidnext : status.uidnext ≡ next_uid k b
  pub unseen : status.unseen ≡ count_by (λ (row : Row). not row.flags.seen) (rows_of b.log)
  pub deleted : status.deleted ≡ count_by (λ (row : Row). row.flags.deleted) (rows_of b.log)
  pub size : status.size ≡ sum_by (λ (row : Row). length (text_with row.uid b.accepted).bytes) (rows_of b.log)

module _ (k : Config) (m : ℕ) where
  -- Mailbox m logged these changes, and nothing else changed.
  pub record Discards (changes : List Change) (w v : World) : Type 0 where
    pub there : m < k.mailboxes
    pub mailbox : Box
    pub logs : Logs k (w.box m) changes [] mailbox
    pub made : v ≡ record w { box = set_at w.box m mailbox }

  -- there is no such mailbox, or its log has no room for these changes
  abbrev pub DiscardsNot : List Change → World → MailFault → Type 0
  DiscardsNot changes w Stranger = k.mailboxes ≤ m
  DiscardsNot changes w Lapped = ⊥
  DiscardsNot changes w Spent = (m < k.mailboxes) × (most_changes < length (w.box m).log + length changes)
  DiscardsNot changes w NoMemory = ⊥

-- these changes were logged in mailbox m, or that was refused and nothing changed
abbrev pub IsDiscarded : Config → (m : ℕ) → List Change → World → Result (Unit {0}) MailFault → World → Type 0
IsDiscarded k m changes w (Ok done) v = Discards k m changes w v
IsDiscarded k m changes w (Err fault) v = (v ≡ w) × DiscardsNot k m changes w fault

-- From each world for which the old one stood, the messages of mailbox m go whose UIDs pass, or that is refused, and the new one stands for what
-- comes of it.
abbrev pub Removes : Config → DeliveryCore → (m : ℕ) → (ℕ → Bool) → Result (Unit {0}) MailFault → DeliveryCore → Type 0
Removes k old m goes result new = (w : World) → StandsFor k old w → (v : World) × Step k w (Discard m goes) v × StandsFor k new v
    × IsDiscarded k m (discards goes (rows_of (w.box m).log)) w result v
