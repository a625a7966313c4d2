-- What the delivery side holds, as lists: for each shard its lane and its hand, for each seat its reply lane, what it heard and the least
-- key that it may use next, the mailboxes, and for each session the client that it has, where it entered a mailbox.
use Rattle.std.specs.Prelude.{ℕ, ◌-◌, Bool, false, not, List, [], map, slice_index_or, Option, Some, None}
use Rattle.std.specs.List.{list_any}
use Rattle.delivery_token.specs.declared.CopyKey.{CopyKey}
use Rattle.delivery_token.specs.declared.Job.{Job}
use Rattle.delivery_token.specs.declared.log.Noted.{Noted}
use Rattle.delivery_token.specs.WorkerLog.{WorkerLog}
use Rattle.shard_queue.specs.PlainLane.{PlainLane}
use Rattle.mailbox.specs.Mailbox.{Mailbox}
use Rattle.world.specs.declared.hand.Hand.{Hand}
use Rattle.change_ring.specs.declared.change.Change.{Change}
use Rattle.change_ring.specs.Log.{Window, changes_from, total}
use Rattle.cursor_set.specs.Cursors.{Open}
use Rattle.delivery_core.specs.declared.client.Client.{Client}
use Rattle.delivery_core.specs.Attached.{client_at, cursor_of, cursors_of}

pub record DeliveryCore : Type 0 where
  pub lanes : List (PlainLane Job)
  pub hands : List Hand
  pub replies : List (PlainLane Noted)
  pub heard : List WorkerLog
  pub boxes : List Mailbox
  pub next : List CopyKey
  pub clients : List (Option Client)

-- the verdicts that a seat has heard, in order
abbrev pub notes_of : DeliveryCore → ℕ → List Noted
notes_of h seat = slice_index_or (map (λ (b : WorkerLog). b.notes) h.heard) seat []

-- whether a seat may put no more into this lane
abbrev pub is_ended : ℕ → PlainLane Job → Bool
is_ended seat l = not (slice_index_or l.live seat false)

-- the lane of a shard; none where it is not there
abbrev pub lane_of : DeliveryCore → ℕ → PlainLane Job
lane_of h shard = slice_index_or h.lanes shard (record { capacity = 0; live = []; waiting = [] })

-- whether a seat has put its end into some lane
abbrev pub has_ended : DeliveryCore → ℕ → Bool
has_ended h seat = list_any (is_ended seat) h.lanes

-- the client of a session
abbrev pub client_of : DeliveryCore → ℕ → Option Client
client_of h session = client_at h.clients session

-- the UIDs that a cursor's client counts; none where there is no cursor
abbrev pub view_in : Option Open → List ℕ
view_in None = []
view_in (Some o) = o.view

-- the UIDs that a client was shown; none where there is no client
abbrev pub shown_to : DeliveryCore → Option Client → List ℕ
shown_to h None = []
shown_to h (Some c) = view_in (cursor_of (cursors_of h.boxes) c)

-- the UIDs that a session was shown, of the mailbox that it entered
abbrev pub view_of : DeliveryCore → ℕ → List ℕ
view_of h session = shown_to h (client_of h session)

-- the last changes of the mailbox of this number; none where it is not there
abbrev pub window_at : List Mailbox → ℕ → Window
window_at boxes mailbox = slice_index_or (map (λ (b : Mailbox). b.window) boxes) mailbox (record { base = 0; changes = []; capacity = 0; max = 0 })

-- the changes that a client is still to be shown, as its mailbox has them
abbrev pub pending_in : DeliveryCore → Option Client → List Change
pending_in h None = []
pending_in h (Some c) = changes_from c.handle.at (window_at h.boxes c.mailbox)

-- the changes that a session is still to be shown
abbrev pub pending_for : DeliveryCore → ℕ → List Change
pending_for h session = pending_in h (client_of h session)

-- how many changes the log of a client's mailbox has behind the last that it was shown, those that were overwritten among them
abbrev pub behind_in : DeliveryCore → Option Client → ℕ
behind_in h None = 0
behind_in h (Some c) = total (window_at h.boxes c.mailbox) - c.handle.at

-- so many changes a session is behind its mailbox's log
abbrev pub behind : DeliveryCore → ℕ → ℕ
behind h session = behind_in h (client_of h session)
