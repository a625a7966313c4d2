-- What the history of a house says of seats, copies and mailboxes.
use Rattle.std.specs.Prelude.{ℕ, ◌+◌, ◌==◌, ◌&&◌, ◌||◌, Bool, List, [], ◌∷◌, ◌++◌, Option, Some, None, map, filter, if◌then◌else◌}
use Rattle.std.specs.List.{filter_map}
use Rattle.change_ring.specs.declared.change.Change.{Change}
use Rattle.change_ring.specs.Log.{Row, rows_of, arrival, discards, flags_logged, removals, removals_if, seen_logged}
use Rattle.delivery_token.specs.declared.CopyKey.{CopyKey}
use Rattle.delivery_token.specs.declared.Job.{Job}
use Rattle.delivery_token.specs.declared.Verdict.{Verdict}
use Rattle.delivery_token.specs.declared.Verdict.TheVariants.{Stored, Refused}
use Rattle.mailbox.specs.Events.{in_set}
use Rattle.house_history.specs.declared.event.Event.{Event}
use Rattle.house_history.specs.declared.event.Event.TheVariants.{Sent, Withdrawn, Judged, Changed}
use Rattle.house_history.specs.declared.event.Step.{Step}
use Rattle.house_history.specs.declared.event.Step.TheVariants.{Read, Alter, Expunge, Leave, Discard}

-- whose part an event is: mailbox m is owner m, seat p is owner 256 + p, and the copy that has ticket t is owner 512 + t
abbrev pub seat_key : ℕ → ℕ
seat_key p = 256 + p

abbrev pub ticket_key : ℕ → ℕ
ticket_key t = 512 + t

abbrev pub concerns : ℕ → Event → Bool
concerns k (Sent j t) = (k == seat_key j.key.seat) || (k == ticket_key t)
concerns k (Withdrawn t) = k == ticket_key t
concerns k (Judged j v t) = (k == j.mailbox) || (k == ticket_key t)
concerns k (Changed m s) = k == m

-- ---- copies

abbrev pub sent_of : ℕ → Event → Option (Job × ℕ)
sent_of p (Sent j t) = if j.key.seat == p then Some (j, t) else None
sent_of p event = None

-- the copies that seat p sent, each with its ticket, in order
abbrev pub sent_by : ℕ → List Event → List (Job × ℕ)
sent_by p log = filter_map (sent_of p) log

abbrev pub step_of : ℕ → Event → Option Event
step_of t (Sent j s) = if s == t then Some (Sent j s) else None
step_of t (Withdrawn s) = if s == t then Some (Withdrawn s) else None
step_of t (Judged j v s) = if s == t then Some (Judged j v s) else None
step_of t (Changed m s) = None

-- what the history says of the copy that has ticket t
abbrev pub life : ℕ → List Event → List Event
life t log = filter_map (step_of t) log

abbrev pub judged_of : ℕ → ℕ → Event → Option Job
judged_of m p (Judged j v t) = if j.mailbox == m && j.key.seat == p then Some j else None
judged_of m p event = None

-- the copies of seat p that were judged in mailbox m, in order
abbrev pub judged_in : ℕ → ℕ → List Event → List Job
judged_in m p log = filter_map (judged_of m p) log

abbrev pub sent_to_of : ℕ → ℕ → Event → Option Job
sent_to_of m p (Sent j t) = if j.mailbox == m && j.key.seat == p then Some j else None
sent_to_of m p (Withdrawn t) = None
sent_to_of m p (Judged j v t) = None
sent_to_of m p (Changed n s) = None

-- the copies that seat p sent to mailbox m, in order
abbrev pub sent_to : ℕ → ℕ → List Event → List Job
sent_to m p log = filter_map (sent_to_of m p) log

abbrev pub accepted_of : ℕ → Event → Option (CopyKey × ℕ)
accepted_of m (Judged j (Stored uid) t) = if j.mailbox == m then Some (j.key, uid) else None
accepted_of m event = None

-- what mailbox m accepted: each copy by its key, with its UID, whether its message is gone since or not
abbrev pub accepted_in : ℕ → List Event → List (CopyKey × ℕ)
accepted_in m log = filter_map (accepted_of m) log

-- of these, the keys of seat p's copies
abbrev pub keys_of_seat : ℕ → List (CopyKey × ℕ) → List CopyKey
keys_of_seat p accepted = map (λ a. a.0) (filter (λ a. a.0.seat == p) accepted)

-- and the UIDs
abbrev pub uids_of : List (CopyKey × ℕ) → List ℕ
uids_of accepted = map (λ a. a.1) accepted

-- ---- changes

-- what a client's call logs, by the rows that are there
abbrev pub logged : Step → List Row → List Change
logged (Read uid mark) rows = seen_logged mark rows uid
logged (Alter uid op) rows = flags_logged rows uid op
logged (Expunge uids) rows = removals (in_set uids) rows
logged (Leave remove) rows = removals_if remove rows
logged (Discard uids) rows = discards (in_set (Some uids)) rows

-- what a verdict on a copy logs
abbrev pub arrives : Job → Verdict → List Change
arrives j (Stored uid) = arrival uid j.flags
arrives j (Refused why) = []

-- what an event adds to the log of mailbox m
abbrev pub more : ℕ → List Change → Event → List Change
more m log (Judged j v t) = if j.mailbox == m then arrives j v else []
more m log (Changed n s) = if n == m then logged s (rows_of log) else []
more m log event = []

-- the log of mailbox m after events, from a log on
abbrev pub changes_from : ℕ → List Change → List Event → List Change
changes_from m log [] = log
changes_from m log (e ∷ es) = changes_from m (log ++ more m log e) es

-- the log of mailbox m
abbrev pub changes_in : ℕ → List Event → List Change
changes_in m events = changes_from m [] events
