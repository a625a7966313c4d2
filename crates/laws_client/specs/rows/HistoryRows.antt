-- What a call of a session is by the one history that all threads share: a house of two mailboxes, worked out by hand. `HistoryRefuted` has what that
-- refuses.
use Rattle.std.specs.Prelude.{◌≡◌, ℕ, codes, true, false, List, [], ◌∷◌, ◌++◌, None, Some}
use Rattle.std.proofs.Common.{refl, arith}
use Rattle.std.specs.List.{filter}
use Rattle.change_ring.specs.declared.change.Change.TheVariants.{Add, Gone, Flags as SetFlags}
use Rattle.change_ring.specs.declared.change.Flags.{Flags}
use Rattle.change_ring.specs.declared.flag_op.FlagOp.TheVariants.{Insert, Remove}
use Rattle.change_ring.specs.Log.{no_flags}
use Rattle.delivery_token.specs.declared.Job.{Job}
use Rattle.delivery_token.specs.Text.{undated}
use Rattle.delivery_token.specs.declared.Verdict.TheVariants.{Stored, Refused as Declined}
use Rattle.delivery_token.specs.declared.Refusal.TheVariants.{Full}
use Rattle.mailbox.specs.declared.clients.MailFault.TheVariants.{NoMemory}
use Rattle.mailbox.specs.declared.clients.Opening.{Opening}
use Rattle.mailbox.specs.declared.clients.Row.{Row}
use Rattle.mailbox.specs.declared.mailbox.Status.{Status}
use Rattle.house_history.specs.declared.event.Event as house
use Rattle.house_history.specs.declared.event.Event.TheVariants.{Sent, Judged, Changed}
use Rattle.house_history.specs.declared.event.Step.TheVariants as steps
use Rattle.house_history.specs.Events.{changes_in, concerns}
use Rattle.imap_session.specs.Exchange.{Enter, Look, Read, Count, Alter, Expunge, Feed, Leave, Discard, Entered, Looked, Found, Counted, Altered, Expunged, Fed, Left, Discarded, Refused}
use Rattle.session_thread.specs.declared.locked_store.Entry.{Entry}
use Rattle.session_thread.specs.Locks.{LockedStore}
use Rattle.session_thread.specs.ByHistory.{ByHistory, flags_in}

-- ---- a history

abbrev pub seen : Flags
seen = record no_flags { seen = true }

abbrev pub flagged : Flags
flagged = record no_flags { flagged = true }

abbrev pub deleted : Flags
deleted = record no_flags { deleted = true }

abbrev pub both : Flags
both = record no_flags { flagged = true; deleted = true }

abbrev pub mail : (number mailbox : ℕ) → (bytes : List ℕ) → Flags → Job
mail number mailbox bytes flags = record { key = record { seat = 0; serial = 0; message = number; recipient = 0 }; mailbox = mailbox; text = undated bytes; flags = flags }

abbrev pub first : Job
first = mail 0 0 (codes "one\r\n") no_flags

abbrev pub second : Job
second = mail 1 0 (codes "two\r\n") flagged

abbrev pub third : Job
third = mail 2 0 (codes "three\r\n") no_flags

abbrev pub other : Job
other = mail 3 1 (codes "four\r\n") no_flags

-- Two messages come to mailbox 0, the second with \Flagged; a third is refused; and one comes to mailbox 1.
abbrev pub came : List house.Event
came =
    Sent first 0 ∷ Judged first (Stored 7) 0 ∷ Sent second 1 ∷ Judged second (Stored 8) 1 ∷ Sent third 2 ∷ Judged third (Declined Full) 2 ∷ Sent other 3
    ∷ Judged other (Stored 9) 3 ∷ []

-- then a client reads the first message
abbrev pub was_read : List house.Event
was_read = came ++ Changed 0 (steps.Read 7 true) ∷ []

-- then one marks the second as deleted
abbrev pub marked : List house.Event
marked = was_read ++ Changed 0 (steps.Alter 8 (Insert deleted)) ∷ []

-- then one removes it
abbrev pub emptied : List house.Event
emptied = marked ++ Changed 0 (steps.Expunge None) ∷ []

-- or one leaves the mailbox by CLOSE, which removes it too
abbrev pub was_left : List house.Event
was_left = marked ++ Changed 0 (steps.Leave true) ∷ []

-- and the message of mailbox 1 is moved away
abbrev pub moved : List house.Event
moved = came ++ Changed 1 (steps.Discard (9 ∷ [])) ∷ []

log_of_came : changes_in 0 came ≡ Add 7 ∷ Add 8 ∷ SetFlags 8 flagged ∷ []
log_of_came = refl

log_of_the_other : changes_in 1 came ≡ Add 9 ∷ []
log_of_the_other = refl

log_of_was_read : changes_in 0 was_read ≡ Add 7 ∷ Add 8 ∷ SetFlags 8 flagged ∷ SetFlags 7 seen ∷ []
log_of_was_read = refl

log_of_emptied : changes_in 0 emptied ≡ Add 7 ∷ Add 8 ∷ SetFlags 8 flagged ∷ SetFlags 7 seen ∷ SetFlags 8 both ∷ Gone 8 ∷ []
log_of_emptied = refl

log_of_was_left : changes_in 0 was_left ≡ changes_in 0 emptied
log_of_was_left = refl

log_of_moved : changes_in 1 moved ≡ Add 9 ∷ Gone 9 ∷ []
log_of_moved = refl

-- ---- flags

-- a message that came with none
flags_of_the_first : flags_in 7 (changes_in 0 came) ≡ Some no_flags
flags_of_the_first = refl

-- one that came with some
flags_of_the_second : flags_in 8 (changes_in 0 came) ≡ Some flagged
flags_of_the_second = refl

-- one that was read
flags_when_read : flags_in 7 (changes_in 0 was_read) ≡ Some seen
flags_when_read = refl

-- the other has its own still
flags_of_the_unread : flags_in 8 (changes_in 0 was_read) ≡ Some flagged
flags_of_the_unread = refl

-- flags that were added stand beside those that it had
flags_when_marked : flags_in 8 (changes_in 0 marked) ≡ Some both
flags_when_marked = refl

-- flags that were taken away again
flags_when_unmarked : flags_in 8 (changes_in 0 (marked ++ Changed 0 (steps.Alter 8 (Remove flagged)) ∷ [])) ≡ Some deleted
flags_when_unmarked = refl

-- a message that is gone has none
flags_when_gone : flags_in 8 (changes_in 0 emptied) ≡ None
flags_when_gone = refl

-- the other stays
flags_of_who_stays : flags_in 7 (changes_in 0 emptied) ≡ Some seen
flags_of_who_stays = refl

-- one that was never there: of another mailbox, or refused
flags_elsewhere : flags_in 9 (changes_in 0 came) ≡ None
flags_elsewhere = refl

flags_in_the_other : flags_in 9 (changes_in 1 came) ≡ Some no_flags
flags_in_the_other = refl

flags_of_none : flags_in 7 (changes_in 0 []) ≡ None
flags_of_none = refl

-- ---- a session

abbrev pub outside : List house.Event → LockedStore
outside history = record { mailboxes = 2; entered = None; history = history }

-- It entered mailbox 0 behind three changes, and its cursor is there.
abbrev pub entry : (cursor : ℕ) → Entry
entry cursor = record { mailbox = 0; start = 3; handle = record { number = 0; slot = 0; serial = 0; at = cursor } }

abbrev pub within : List house.Event → (cursor : ℕ) → LockedStore
within history cursor = record { mailboxes = 2; entered = Some (entry cursor); history = history }

abbrev pub opening : (count : ℕ) → Opening
opening count = record { count = count; uidnext = 9; uidvalidity = 5 }

abbrev pub message_read : (uid : ℕ) → Flags → (bytes : List ℕ) → Row
message_read uid flags bytes = record { uid = uid; flags = flags; newly_seen = true; text = undated bytes }

abbrev pub status : (messages : ℕ) → Status
status messages = record { messages = messages; uidnext = 10; uidvalidity = 5; unseen = 1; deleted = 0; size = 6 }

-- ---- calls

-- It enters mailbox 0 of a house of which it has seen nothing yet, and is told that two messages are there.
enters : ByHistory (outside []) (Enter 0) (Entered (opening 2)) (within came 3)
enters = (
  refl,
  entry 3,
  record {
    there = refl;
    mailbox = refl;
    number = refl;
    acceptor = omega arith;
    cursor = refl;
    logs = record { goes_on = (came, refl); mailboxes = refl; found = filter (concerns 0) came; seen = (filter (concerns 0) came, refl); own = refl; few = omega arith };
    opens = record { count = refl; start = refl };
    fits = (omega arith, omega arith);
  },
)

-- It looks which messages its client counts.
looks : ByHistory (within came 3) (Look false []) (Looked (7 ∷ 8 ∷ [])) (within came 3)
looks = (refl, (entry 3, refl, refl))

-- Its client counts a message still that is gone, since it wasn't shown that.
looks_late : ByHistory (within emptied 5) (Look false []) (Looked (7 ∷ 8 ∷ [])) (within emptied 5)
looks_late = (refl, (entry 5, refl, refl))

-- It reads the first message, which sets \Seen. Its cursor stays.
reads : ByHistory (within came 3) (Read 7 true) (Found (Some (message_read 7 seen (codes "one\r\n")))) (within was_read 3)
reads = (
  refl,
  (
    entry 3,
    refl,
    (
      record { goes_on = (Changed 0 (steps.Read 7 true) ∷ [], refl); mailboxes = refl; found = filter (concerns 0) came; seen = ([], refl); own = refl; few = omega arith },
      record { uid_of = refl; text = (first, refl, refl, (0, (1, omega arith, refl))); flags = refl; fits = omega arith },
      refl,
    ),
  ),
)

-- It reads the first message once more, and that wasn't newly seen.
reads_again : ByHistory (within was_read 4) (Read 7 true) (Found (Some (record (message_read 7 seen (codes "one\r\n")) { newly_seen = false }))) (within (was_read ++ Changed 0 (steps.Read 7 true) ∷ []) 4)
reads_again = (
  refl,
  (
    entry 4,
    refl,
    (
      record { goes_on = (Changed 0 (steps.Read 7 true) ∷ [], refl); mailboxes = refl; found = filter (concerns 0) was_read; seen = ([], refl); own = refl; few = omega arith },
      record { uid_of = refl; text = (first, refl, refl, (0, (1, omega arith, refl))); flags = refl; fits = omega arith },
      refl,
    ),
  ),
)

-- What others did before it took the lock, its answer tells too: the message is gone that it asks for.
reads_none : ByHistory (within came 3) (Read 8 true) (Found None) (within (emptied ++ Changed 0 (steps.Read 8 true) ∷ []) 3)
reads_none = (
  refl,
  (
    entry 3,
    refl,
    (
      record {
        goes_on = (Changed 0 (steps.Read 7 true) ∷ Changed 0 (steps.Alter 8 (Insert deleted)) ∷ Changed 0 (steps.Expunge None) ∷ Changed 0 (steps.Read 8 true) ∷ [], refl);
        mailboxes = refl;
        found = filter (concerns 0) emptied;
        seen = (Changed 0 (steps.Read 7 true) ∷ Changed 0 (steps.Alter 8 (Insert deleted)) ∷ Changed 0 (steps.Expunge None) ∷ [], refl);
        own = refl;
        few = omega arith;
      },
      record { uid_of = tt; text = tt; flags = refl; fits = tt },
      tt,
    ),
  ),
)

-- It counts the other mailbox, where it isn't.
counts : ByHistory (within came 3) (Count 1) (Counted (status 1)) (within came 3)
counts = (
  refl,
  omega arith,
  record { goes_on = ([], refl); mailboxes = refl; found = filter (concerns 1) came; seen = ([], refl); own = refl; few = omega arith },
  refl,
  record { messages = omega arith; uidnext = omega arith; uidvalidity = omega arith; unseen = omega arith; deleted = omega arith; size = omega arith },
)

-- It marks the second message, and is answered with the flags that this has then.
alters : ByHistory (within was_read 3) (Alter 8 (Insert deleted)) (Altered (Some both)) (within marked 3)
alters = (refl, (entry 3, refl, (record { goes_on = (Changed 0 (steps.Alter 8 (Insert deleted)) ∷ [], refl); mailboxes = refl; found = filter (concerns 0) was_read; seen = ([], refl); own = refl; few = omega arith }, refl)))

-- It is shown one change, where it asks for no more, and its cursor goes over that.
feeds_one : ByHistory (within marked 3) (Feed 1) (Fed (7 ∷ 8 ∷ []) (SetFlags 7 seen ∷ [])) (within marked 4)
feeds_one = (
  entry 3,
  refl,
  (
    record { goes_on = ([], refl); mailboxes = refl; found = filter (concerns 0) marked; seen = ([], refl); own = refl; few = omega arith },
    record { met = refl; showed = refl },
    refl,
    record { there = refl; within = omega arith },
  ),
)

-- It is shown all there is, where that is less than the limit.
feeds_all : ByHistory (within marked 3) (Feed 64) (Fed (7 ∷ 8 ∷ []) (SetFlags 7 seen ∷ SetFlags 8 both ∷ [])) (within marked 5)
feeds_all = (
  entry 3,
  refl,
  (
    record { goes_on = ([], refl); mailboxes = refl; found = filter (concerns 0) marked; seen = ([], refl); own = refl; few = omega arith },
    record { met = refl; showed = refl },
    refl,
    record { there = refl; within = omega arith },
  ),
)

-- It is shown all that was pending, and then the message with \Deleted is removed. That itself is pending then.
expunges : ByHistory (within marked 3) (Expunge None) (Expunged (7 ∷ 8 ∷ []) (SetFlags 7 seen ∷ SetFlags 8 both ∷ []) 1) (within emptied 5)
expunges = (
  entry 3,
  refl,
  (
    record { goes_on = (Changed 0 (steps.Expunge None) ∷ [], refl); mailboxes = refl; found = filter (concerns 0) marked; seen = ([], refl); own = refl; few = omega arith },
    record { met = refl; showed = refl },
    refl,
    refl,
    record { there = refl; within = omega arith },
  ),
)

-- Of other UIDs none is removed.
expunges_none : ByHistory (within marked 5) (Expunge (Some (7 ∷ []))) (Expunged (7 ∷ 8 ∷ []) [] 0) (within (marked ++ Changed 0 (steps.Expunge (Some (7 ∷ []))) ∷ []) 5)
expunges_none = (
  entry 5,
  refl,
  (
    record { goes_on = (Changed 0 (steps.Expunge (Some (7 ∷ []))) ∷ [], refl); mailboxes = refl; found = filter (concerns 0) marked; seen = ([], refl); own = refl; few = omega arith },
    record { met = refl; showed = refl },
    refl,
    refl,
    record { there = refl; within = omega arith },
  ),
)

-- It leaves by CLOSE.
leaves : ByHistory (within marked 3) (Leave true) (Left 1) (outside was_left)
leaves = (refl, (entry 3, refl, (record { goes_on = (Changed 0 (steps.Leave true) ∷ [], refl); mailboxes = refl; found = filter (concerns 0) marked; seen = ([], refl); own = refl; few = omega arith }, refl)))

-- It leaves, and nothing is removed.
leaves_all : ByHistory (within marked 3) (Leave false) (Left 0) (outside (marked ++ Changed 0 (steps.Leave false) ∷ []))
leaves_all = (refl, (entry 3, refl, (record { goes_on = (Changed 0 (steps.Leave false) ∷ [], refl); mailboxes = refl; found = filter (concerns 0) marked; seen = ([], refl); own = refl; few = omega arith }, refl)))

-- A message of the other mailbox is removed, whatever its flags, as that is moved away.
discards : ByHistory (within came 3) (Discard 1 (9 ∷ [])) Discarded (within moved 3)
discards = (refl, omega arith, record { goes_on = (Changed 1 (steps.Discard (9 ∷ [])) ∷ [], refl); mailboxes = refl; found = filter (concerns 1) came; seen = ([], refl); own = refl; few = omega arith })

-- A call that is refused leaves all as it was.
is_refused : ByHistory (within marked 3) (Feed 64) (Refused NoMemory) (within marked 3)
is_refused = refl
