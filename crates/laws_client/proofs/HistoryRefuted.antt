-- What no call of a session is, by the one history: the calls of `HistoryRows` with one thing wrong. Above each stands what would have happened.
use Rattle.std.proofs.Common.{◌≡◌, ◌+◌, ◌-◌, ℕ, zero, suc, Bool, true, false, List, [], ◌∷◌, ◌++◌, length, min, refl, Option, Some, None, ap, sym, subst, ◌∙◌, arith}
use Rattle.std.specs.Prelude.{IfSome, codes}
use Rattle.std.proofs.lemmas.List.{length-append}
use Rattle.std.proofs.lemmas.Bool.{false≢true}
use Rattle.std.proofs.lemmas.Option.{none-some}
use Rattle.std.specs.List.{filter}
use Rattle.change_ring.specs.declared.change.Change.{Change}
use Rattle.change_ring.specs.declared.change.Change.TheVariants.{Add, Gone, Flags as SetFlags}
use Rattle.change_ring.specs.declared.change.Flags.{Flags}
use Rattle.change_ring.specs.declared.flag_op.FlagOp.{FlagOp}
use Rattle.change_ring.specs.declared.flag_op.FlagOp.TheVariants.{Insert}
use Rattle.change_ring.specs.Log.{no_flags, rows_of, view_at}
use Rattle.delivery_token.specs.declared.Job.{Job}
use Rattle.delivery_token.specs.Text.{Text}
use Rattle.mailbox.specs.Events.{was_logged}
use Rattle.mailbox.specs.declared.clients.MailFault.TheVariants.{NoMemory}
use Rattle.mailbox.specs.declared.clients.Opening.{Opening}
use Rattle.mailbox.specs.declared.clients.Row.{Row}
use Rattle.house_history.specs.declared.event.Event as house
use Rattle.house_history.specs.declared.event.Event.TheVariants.{Judged, Changed, Withdrawn}
use Rattle.house_history.specs.declared.event.Step.{Step}
use Rattle.house_history.specs.declared.event.Step.TheVariants as steps
use Rattle.house_history.specs.Events.{changes_in, concerns, logged}
use Rattle.house_history.specs.Legal.{Stands}
use Rattle.imap_session.specs.Exchange.{Enter, Look, Read, Count, Alter, Expunge, Feed, Leave, Discard, Entered, Looked, Found, Counted, Altered, Expunged, Fed, Left, Discarded, Refused}
use Rattle.session_thread.specs.declared.locked_store.Entry.{Entry}
use Rattle.session_thread.specs.Locks.{In, LockedStore, says}
use Rattle.session_thread.specs.ByHistory.{Shows, ByHistory, Comes, IsRead, Logs, Moves, flags_in}
use Rattle.laws_client.specs.rows.HistoryRows.{both, came, deleted, emptied, entry, first, flagged, marked, message_read, opening, outside, seen, status, was_left, was_read, within}

-- ---- words

-- what a list is told apart by: its first number, the UID of its first change, a byte of a text, a flag
abbrev first_of : List ℕ → ℕ
first_of [] = 0
first_of (x ∷ xs) = x

abbrev uid_of : List Change → ℕ
uid_of [] = 0
uid_of (Add uid ∷ changes) = uid
uid_of (Gone uid ∷ changes) = uid
uid_of (SetFlags uid flags ∷ changes) = uid

abbrev is_seen : Option Flags → Bool
is_seen None = false
is_seen (Some flags) = flags.seen

abbrev is_flagged : Option Flags → Bool
is_flagged None = false
is_flagged (Some flags) = flags.flagged

same_entry : (a b : Entry) → ◌≡◌ {A = Option Entry} (Some a) (Some b) → a ≡ b
same_entry a b e = cc

-- what is said of the entry that a session has
of_entry : (P : Entry → Type 0) (old : LockedStore) (here : Entry) → old.entered ≡ Some here → In old P → P here
of_entry P old here is (there, at, p) = subst P (same_entry there here (sym at ∙ is)) p

-- where a session's cursor is
abbrev cursor_of : Option Entry → ℕ
cursor_of None = 0
cursor_of (Some here) = here.handle.at

abbrev start_of : Option Entry → ℕ
start_of None = 0
start_of (Some here) = here.start

-- the last event of a list, and those before it
abbrev last_of : List house.Event → house.Event
last_of [] = Withdrawn 0
last_of (event ∷ []) = event
last_of (event ∷ one ∷ events) = last_of (one ∷ events)

abbrev but_last : List house.Event → List house.Event
but_last [] = []
but_last (event ∷ []) = []
but_last (event ∷ one ∷ events) = event ∷ but_last (one ∷ events)

is_last : (found : List house.Event) (event : house.Event) → last_of (found ++ event ∷ []) ≡ event
is_last [] event = refl
is_last (one ∷ []) event = refl
is_last (one ∷ two ∷ found) event = is_last (two ∷ found) event

are_before : (found : List house.Event) (event : house.Event) → but_last (found ++ event ∷ []) ≡ found
are_before [] event = refl
are_before (one ∷ []) event = refl
are_before (one ∷ two ∷ found) event = ap (λ (l : List house.Event). one ∷ l) (are_before (two ∷ found) event)

module _ (old new : LockedStore) (m : ℕ) (step : Step) (l : Logs old new m (says step m)) where
  -- a call is the last event of its mailbox
  says_last : last_of (filter (concerns m) new.history) ≡ Changed m step
  says_last = ap last_of l.own ∙ is_last l.found (Changed m step)

  -- and found those before it
  found_before : but_last (filter (concerns m) new.history) ≡ l.found
  found_before = ap but_last l.own ∙ are_before l.found (Changed m step)

-- ---- SELECT

comes_to : (old new : LockedStore) (opening : Opening) (here : Entry) → new.entered ≡ Some here → ByHistory old (Enter 0) (Entered opening) new → Comes old new 0 opening here
comes_to old new opening here is (nowhere, there, c) = subst (λ (e : Entry). Comes old new 0 opening e) (same_entry there here (sym c.there ∙ is)) c

-- Two messages are there, and it is told of one.
counts_one_short : ByHistory (outside came) (Enter 0) (Entered (opening 1)) (within came 3) → ⊥
counts_one_short h = let count : 1 ≡ 2 = (comes_to (outside came) (within came 3) (opening 1) (entry 3) refl h).opens.count in omega (arith, count)

-- It is to be shown from then on what was there before it came.
starts_early : ByHistory (outside came) (Enter 0) (Entered (opening 2)) (record (outside came) { entered = Some (record (entry 2) { start = 2 }) }) → ⊥
starts_early h =
    let start : 2 ≡ 3 = (comes_to (outside came) (record (outside came) { entered = Some (record (entry 2) { start = 2 }) }) (opening 2) (record (entry 2) { start = 2 }) refl h).opens.start in
    omega (arith, start)

-- Its cursor is behind the end of the log.
cursor_behind : ByHistory (outside came) (Enter 0) (Entered (opening 2)) (within came 2) → ⊥
cursor_behind h = let cursor : 2 ≡ 3 = (comes_to (outside came) (within came 2) (opening 2) (entry 2) refl h).cursor in omega (arith, cursor)

-- It asked for mailbox 1, and is in mailbox 0.
another_mailbox : ByHistory (outside came) (Enter 1) (Entered (opening 2)) (within came 3) → ⊥
another_mailbox (nowhere, here, c) =
    let same = same_entry (entry 3) here c.there in
    let which : 0 ≡ 1 = ap (λ (e : Entry). e.mailbox) same ∙ c.mailbox in omega (arith, which)

-- It enters a mailbox that the house doesn't have.
no_such_mailbox : (opening : Opening) (new : LockedStore) → ByHistory (outside came) (Enter 5) (Entered opening) new → ⊥
no_such_mailbox opening new (nowhere, here, c) = let few = c.acceptor in omega (arith, few)

-- It was in a mailbox, and didn't leave that first.
enters_twice : ByHistory (within came 3) (Enter 0) (Entered (opening 2)) (within came 3) → ⊥
enters_twice h = none-some (entry 3) (sym h.0)

-- ---- changes that are shown

abbrev FedAt : LockedStore → LockedStore → ℕ → List ℕ → List Change → Entry → Type 0
FedAt old new limit view changes here =
    Logs old new here.mailbox [] × Shows new.history here view changes
    × (length changes ≡ min limit (length (changes_in here.mailbox new.history) - here.handle.at)) × Moves old new here (length changes)

fed_at : (history : List house.Event) (cursor limit : ℕ) (view : List ℕ) (changes : List Change) (new : LockedStore) → ByHistory (within history cursor) (Feed limit) (Fed view changes) new
    → FedAt (within history cursor) new limit view changes (entry cursor)
fed_at history cursor limit view changes new h = of_entry (FedAt (within history cursor) new limit view changes) (within history cursor) (entry cursor) refl h

-- It isn't told that the first message was read, and the cursor goes over that.
skips_one : ByHistory (within marked 3) (Feed 1) (Fed (7 ∷ 8 ∷ []) (SetFlags 8 both ∷ [])) (within marked 4) → ⊥
skips_one h = let uid : 8 ≡ 7 = ap uid_of (fed_at marked 3 1 _ _ (within marked 4) h).1.showed in omega (arith, uid)

-- It is told again what it was shown before.
shows_twice : ByHistory (within marked 4) (Feed 1) (Fed (7 ∷ 8 ∷ []) (SetFlags 7 seen ∷ [])) (within marked 5) → ⊥
shows_twice h = let uid : 7 ≡ 8 = ap uid_of (fed_at marked 4 1 _ _ (within marked 5) h).1.showed in omega (arith, uid)

-- It is shown the two in the other order.
other_order : ByHistory (within marked 3) (Feed 64) (Fed (7 ∷ 8 ∷ []) (SetFlags 8 both ∷ SetFlags 7 seen ∷ [])) (within marked 5) → ⊥
other_order h = let uid : 8 ≡ 7 = ap uid_of (fed_at marked 3 64 _ _ (within marked 5) h).1.showed in omega (arith, uid)

-- It asked for one, and is shown two.
over_the_limit : ByHistory (within marked 3) (Feed 1) (Fed (7 ∷ 8 ∷ []) (SetFlags 7 seen ∷ SetFlags 8 both ∷ [])) (within marked 5) → ⊥
over_the_limit h = let count : 2 ≡ 1 = (fed_at marked 3 1 _ _ (within marked 5) h).2 in omega (arith, count)

-- Two changes are pending, and it is shown one, though it asked for all.
holds_back : ByHistory (within marked 3) (Feed 64) (Fed (7 ∷ 8 ∷ []) (SetFlags 7 seen ∷ [])) (within marked 4) → ⊥
holds_back h = let count : 1 ≡ 2 = (fed_at marked 3 64 _ _ (within marked 4) h).2 in omega (arith, count)

-- It is shown a change, and its cursor stays: it will be shown that once more.
cursor_stays : ByHistory (within marked 3) (Feed 1) (Fed (7 ∷ 8 ∷ []) (SetFlags 7 seen ∷ [])) (within marked 3) → ⊥
cursor_stays h = let at : 3 ≡ 4 = ap cursor_of (fed_at marked 3 1 _ _ (within marked 3) h).3.there in omega (arith, at)

-- It is shown what happened in another mailbox.
of_another_mailbox : ByHistory (within marked 3) (Feed 1) (Fed (7 ∷ 8 ∷ []) (Add 9 ∷ [])) (within marked 4) → ⊥
of_another_mailbox h = let uid : 9 ≡ 7 = ap uid_of (fed_at marked 3 1 _ _ (within marked 4) h).1.showed in omega (arith, uid)

-- Its client counts two messages, and the lines are numbered as if it counted one.
wrong_view : ByHistory (within marked 3) (Feed 1) (Fed (8 ∷ []) (SetFlags 7 seen ∷ [])) (within marked 4) → ⊥
wrong_view h = let uid : 8 ≡ 7 = ap first_of (fed_at marked 3 1 _ _ (within marked 4) h).1.met in omega (arith, uid)

-- What it had seen of the history is undone.
history_undone : ByHistory (within marked 3) (Feed 64) (Fed (7 ∷ 8 ∷ []) []) (within came 3) → ⊥
history_undone h =
    let longer = (fed_at marked 3 64 _ _ (within came 3) h).0.goes_on in
    let size : 10 + length longer.0 ≡ 8 = sym (length-append marked longer.0) ∙ ap length longer.1 in omega (arith, size)

-- The house has no mailboxes any more.
fewer_mailboxes : ByHistory (within marked 3) (Feed 0) (Fed (7 ∷ 8 ∷ []) []) (record (within marked 3) { mailboxes = 0 }) → ⊥
fewer_mailboxes h = let none : 0 ≡ 2 = (fed_at marked 3 0 _ _ (record (within marked 3) { mailboxes = 0 }) h).0.mailboxes in omega (arith, none)

-- It looks, and sees what its client wasn't shown yet.
looks_ahead : ByHistory (within emptied 5) (Look false []) (Looked (7 ∷ [])) (within emptied 5) → ⊥
looks_ahead h =
    let count : 1 ≡ 2 = ap length (of_entry (λ (e : Entry). 7 ∷ [] ≡ view_at (changes_in e.mailbox emptied) e.handle.at) (within emptied 5) (entry 5) refl h.1) in
    omega (arith, count)

-- ---- EXPUNGE

abbrev ExpungedAt : LockedStore → LockedStore → Option (List ℕ) → List ℕ → List Change → ℕ → Entry → Type 0
ExpungedAt old new uids view changes gone here =
    (logs : Logs old new here.mailbox (says (steps.Expunge uids) here.mailbox)) × Shows new.history here view changes
    × (here.handle.at + length changes ≡ length (changes_in here.mailbox logs.found))
    × (gone ≡ length (logged (steps.Expunge uids) (rows_of (changes_in here.mailbox logs.found)))) × Moves old new here (length changes)

expunged_at : (history : List house.Event) (cursor : ℕ) (uids : Option (List ℕ)) (view : List ℕ) (changes : List Change) (gone : ℕ) (new : LockedStore)
    → ByHistory (within history cursor) (Expunge uids) (Expunged view changes gone) new → ExpungedAt (within history cursor) new uids view changes gone (entry cursor)
expunged_at history cursor uids view changes gone new h = of_entry (ExpungedAt (within history cursor) new uids view changes gone) (within history cursor) (entry cursor) refl h

-- It isn't shown that the second message was marked, and that message is removed.
some_left_unshown : ByHistory (within marked 3) (Expunge None) (Expunged (7 ∷ 8 ∷ []) (SetFlags 7 seen ∷ []) 1) (within emptied 4) → ⊥
some_left_unshown h =
    let e = expunged_at marked 3 None _ _ 1 (within emptied 4) h in
    let found = found_before (within marked 3) (within emptied 4) 0 (steps.Expunge None) e.0 in
    let few : 4 ≡ 5 = e.2 ∙ ap (λ (l : List house.Event). length (changes_in 0 l)) (sym found) in omega (arith, few)

-- where the history ends with another event, EXPUNGE wasn't called
expunged_last : (history : List house.Event) (cursor : ℕ) (view : List ℕ) (changes : List Change) (gone : ℕ) (new : LockedStore)
    → ByHistory (within history cursor) (Expunge None) (Expunged view changes gone) new → last_of (filter (concerns 0) new.history) ≡ Changed 0 (steps.Expunge None)
expunged_last history cursor view changes gone new h =
    says_last (within history cursor) new 0 (steps.Expunge None) (expunged_at history cursor None view changes gone new h).0

-- A message is removed that wasn't marked as deleted.
removes_another : (gone : ℕ) → ByHistory (within was_read 4) (Expunge None) (Expunged (7 ∷ 8 ∷ []) [] gone) (within (was_read ++ Changed 0 (steps.Discard (8 ∷ [])) ∷ []) 4) → ⊥
removes_another gone h = let call = expunged_last was_read 4 _ _ gone (within (was_read ++ Changed 0 (steps.Discard (8 ∷ [])) ∷ []) 4) h in cc

-- EXPUNGE of the marked message is answered, and the history has another event for it: a DISCARD, which is MOVE's.
by_another_event : ByHistory (within marked 5) (Expunge None) (Expunged (7 ∷ 8 ∷ []) [] 1) (within (marked ++ Changed 0 (steps.Discard (8 ∷ [])) ∷ []) 5) → ⊥
by_another_event h = let call = expunged_last marked 5 _ _ 1 (within (marked ++ Changed 0 (steps.Discard (8 ∷ [])) ∷ []) 5) h in cc

-- The message that is marked stays.
removes_nothing : ByHistory (within marked 5) (Expunge None) (Expunged (7 ∷ 8 ∷ []) [] 0) (within marked 5) → ⊥
removes_nothing h = let call = expunged_last marked 5 _ _ 0 (within marked 5) h in cc

-- One is removed, and it is told that two are.
counts_two : ByHistory (within marked 5) (Expunge None) (Expunged (7 ∷ 8 ∷ []) [] 2) (within emptied 5) → ⊥
counts_two h =
    let e = expunged_at marked 5 None _ _ 2 (within emptied 5) h in
    let found = found_before (within marked 5) (within emptied 5) 0 (steps.Expunge None) e.0 in
    let went : 2 ≡ 1 = e.3 ∙ ap (λ (l : List house.Event). length (logged (steps.Expunge None) (rows_of (changes_in 0 l)))) (sym found) in omega (arith, went)

-- Another session removed the message, and this one has seen that. It counts that removal as its own, and does nothing.
counts_anothers : ByHistory (within emptied 5) (Expunge None) (Expunged (7 ∷ 8 ∷ []) [] 1) (within emptied 5) → ⊥
counts_anothers h =
    let l = (expunged_at emptied 5 None _ _ 1 (within emptied 5) h).0 in
    let there = ap length l.seen.1 in
    let behind = ap length l.own in
    let first = length-append (filter (concerns 0) emptied) l.seen.0 in
    let last = length-append l.found (says (steps.Expunge None) 0) in
    omega (arith, there, behind, first, last)

-- ---- messages

abbrev ReadAt : LockedStore → LockedStore → (uid : ℕ) (mark : Bool) → Option Row → Entry → Type 0
ReadAt old new uid mark row here =
    (logs : Logs old new here.mailbox (says (steps.Read uid mark) here.mailbox)) × IsRead new.history here.mailbox uid row
    × IfSome row (λ found. found.newly_seen ≡ was_logged (logged (steps.Read uid mark) (rows_of (changes_in here.mailbox logs.found))))

read_at : (history : List house.Event) (cursor uid : ℕ) (mark : Bool) (row : Option Row) (new : LockedStore) → ByHistory (within history cursor) (Read uid mark) (Found row) new
    → ReadAt (within history cursor) new uid mark row (entry cursor)
read_at history cursor uid mark row new h = of_entry (ReadAt (within history cursor) new uid mark row) (within history cursor) (entry cursor) refl h.1

abbrev job_in : house.Event → Job
job_in (Judged job verdict ticket) = job
job_in event = first

stands_as : (copy : Job) → Stands was_read copy 7 → copy.text.bytes ≡ codes "two\r\n" → ⊥
stands_as copy (ticket, (zero, l, e)) text = cc
stands_as copy (ticket, (suc zero, l, e)) text = let byte : 111 ≡ 116 = ap (λ (x : house.Event). first_of (job_in x).text.bytes) e ∙ ap first_of text in omega (arith, byte)
stands_as copy (ticket, (suc (suc zero), l, e)) text = cc
stands_as copy (ticket, (suc (suc (suc zero)), l, e)) text = cc
stands_as copy (ticket, (suc (suc (suc (suc zero))), l, e)) text = cc
stands_as copy (ticket, (suc (suc (suc (suc (suc zero)))), l, e)) text = cc
stands_as copy (ticket, (suc (suc (suc (suc (suc (suc zero))))), l, e)) text = cc
stands_as copy (ticket, (suc (suc (suc (suc (suc (suc (suc zero)))))), l, e)) text = cc
stands_as copy (ticket, (suc (suc (suc (suc (suc (suc (suc (suc zero))))))), l, e)) text = cc
stands_as copy (ticket, (suc (suc (suc (suc (suc (suc (suc (suc (suc k)))))))), l, e)) text = omega (arith, l)

-- It asked for the first message, and is told the text of the second.
another_text : ByHistory (within came 3) (Read 7 true) (Found (Some (message_read 7 seen (codes "two\r\n")))) (within was_read 3) → ⊥
another_text h = let t = (read_at came 3 7 true _ (within was_read 3) h).1.text in stands_as t.0 t.3 (ap (λ (x : Text). x.bytes) t.2)

-- It asked for the first message, and is told the second.
another_message : ByHistory (within came 3) (Read 7 true) (Found (Some (message_read 8 flagged (codes "two\r\n")))) (within was_read 3) → ⊥
another_message h = let uid : 8 ≡ 7 = (read_at came 3 7 true _ (within was_read 3) h).1.uid_of in omega (arith, uid)

-- It is told flags that the message never had.
another_messages_flags : ByHistory (within came 3) (Read 7 true) (Found (Some (message_read 7 flagged (codes "one\r\n")))) (within was_read 3) → ⊥
another_messages_flags h = false≢true (ap is_seen (read_at came 3 7 true _ (within was_read 3) h).1.flags)

-- It is told that the message is gone, and that is there.
hides_a_message : ByHistory (within came 3) (Read 7 true) (Found None) (within was_read 3) → ⊥
hides_a_message h = none-some seen (read_at came 3 7 true None (within was_read 3) h).1.flags

-- It is told a message that is gone.
tells_of_the_gone : ByHistory (within emptied 5) (Read 8 true) (Found (Some (message_read 8 both (codes "two\r\n")))) (within emptied 5) → ⊥
tells_of_the_gone h = none-some both (sym (read_at emptied 5 8 true _ (within emptied 5) h).1.flags)

-- It read the message, and \Seen isn't set.
sets_nothing : ByHistory (within came 3) (Read 7 true) (Found (Some (message_read 7 no_flags (codes "one\r\n")))) (within came 3) → ⊥
sets_nothing h =
    let call = says_last (within came 3) (within came 3) 0 (steps.Read 7 true) (read_at came 3 7 true _ (within came 3) h).0 in cc

-- It read the message without setting \Seen, and is told that this was newly set.
newly_seen : ByHistory (within was_read 3) (Read 7 false) (Found (Some (message_read 7 seen (codes "one\r\n")))) (within (was_read ++ Changed 0 (steps.Read 7 false) ∷ []) 3) → ⊥
newly_seen h = false≢true (sym (read_at was_read 3 7 false _ (within (was_read ++ Changed 0 (steps.Read 7 false) ∷ []) 3) h).2)

-- \Seen was newly set, and it isn't told that.
not_newly_seen : ByHistory (within came 3) (Read 7 true) (Found (Some (record (message_read 7 seen (codes "one\r\n")) { newly_seen = false }))) (within was_read 3) → ⊥
not_newly_seen h =
    let r = read_at came 3 7 true _ (within was_read 3) h in
    let found = found_before (within came 3) (within was_read 3) 0 (steps.Read 7 true) r.0 in
    false≢true (r.2 ∙ ap (λ (l : List house.Event). was_logged (logged (steps.Read 7 true) (rows_of (changes_in 0 l)))) (sym found))

abbrev AlteredAt : LockedStore → LockedStore → (uid : ℕ) → FlagOp → Option Flags → Entry → Type 0
AlteredAt old new uid op flags here = Logs old new here.mailbox (says (steps.Alter uid op) here.mailbox) × (flags ≡ flags_in uid (changes_in here.mailbox new.history))

altered_at : (history : List house.Event) (cursor uid : ℕ) (op : FlagOp) (flags : Option Flags) (new : LockedStore) → ByHistory (within history cursor) (Alter uid op) (Altered flags) new
    → AlteredAt (within history cursor) new uid op flags (entry cursor)
altered_at history cursor uid op flags new h = of_entry (AlteredAt (within history cursor) new uid op flags) (within history cursor) (entry cursor) refl h.1

-- It marks a message that is flagged, and is told that \Deleted is its only flag.
forgets_a_flag : ByHistory (within was_read 3) (Alter 8 (Insert deleted)) (Altered (Some deleted)) (within marked 3) → ⊥
forgets_a_flag h = false≢true (ap is_flagged (altered_at was_read 3 8 (Insert deleted) _ (within marked 3) h).1)

-- It is told of no message, and that is there.
alters_none : ByHistory (within was_read 3) (Alter 8 (Insert deleted)) (Altered None) (within marked 3) → ⊥
alters_none h = none-some both (altered_at was_read 3 8 (Insert deleted) None (within marked 3) h).1

-- The flag isn't stored.
stores_nothing : ByHistory (within was_read 3) (Alter 8 (Insert deleted)) (Altered (Some flagged)) (within was_read 3) → ⊥
stores_nothing h =
    let call = says_last (within was_read 3) (within was_read 3) 0 (steps.Alter 8 (Insert deleted)) (altered_at was_read 3 8 (Insert deleted) _ (within was_read 3) h).0 in cc

-- It counts the other mailbox, and is told one more than is there.
counts_one_more : ByHistory (within came 3) (Count 1) (Counted (status 2)) (within came 3) → ⊥
counts_one_more h = let messages : 2 ≡ 1 = h.3 in omega (arith, messages)

-- It counts a mailbox that the house doesn't have.
counts_no_mailbox : (new : LockedStore) → ByHistory (within came 3) (Count 5) (Counted (status 0)) new → ⊥
counts_no_mailbox new h = let few = h.1 in omega (arith, few)

-- ---- leaving, and what is refused

-- It left, and is in its mailbox still.
stays_in : ByHistory (within marked 3) (Leave false) (Left 0) (within marked 3) → ⊥
stays_in h = none-some (entry 3) (sym h.0)

abbrev LeftAt : LockedStore → LockedStore → (remove : Bool) (gone : ℕ) → Entry → Type 0
LeftAt old new remove gone here =
    (logs : Logs old new here.mailbox (says (steps.Leave remove) here.mailbox))
    × (gone ≡ length (logged (steps.Leave remove) (rows_of (changes_in here.mailbox logs.found))))

left_at : (remove : Bool) (gone : ℕ) (new : LockedStore) → ByHistory (within marked 3) (Leave remove) (Left gone) new → LeftAt (within marked 3) new remove gone (entry 3)
left_at remove gone new h = of_entry (LeftAt (within marked 3) new remove gone) (within marked 3) (entry 3) refl h.1

-- It leaves by CLOSE, and the message that is marked stays.
closes_without : ByHistory (within marked 3) (Leave true) (Left 1) (outside marked) → ⊥
closes_without h = let call = says_last (within marked 3) (outside marked) 0 (steps.Leave true) (left_at true 1 (outside marked) h).0 in cc

-- It leaves by UNSELECT, and the message that is marked is removed.
unselect_removes : (gone : ℕ) → ByHistory (within marked 3) (Leave false) (Left gone) (outside was_left) → ⊥
unselect_removes gone h = let call = says_last (within marked 3) (outside was_left) 0 (steps.Leave false) (left_at false gone (outside was_left) h).0 in cc

-- CLOSE removed one message, and says that it removed a thousand.
any_count : ByHistory (within marked 3) (Leave true) (Left 1000) (outside was_left) → ⊥
any_count h =
    let l = left_at true 1000 (outside was_left) h in
    let found = found_before (within marked 3) (outside was_left) 0 (steps.Leave true) l.0 in
    let went : 1000 ≡ 1 = l.1 ∙ ap (λ (l : List house.Event). length (logged (steps.Leave true) (rows_of (changes_in 0 l)))) (sym found) in omega (arith, went)

-- The message of the other mailbox was moved away, and is there still.
moves_nothing : ByHistory (within came 3) (Discard 1 (9 ∷ [])) Discarded (within came 3) → ⊥
moves_nothing h = let call = says_last (within came 3) (within came 3) 1 (steps.Discard (9 ∷ [])) h.2 in cc

-- It discards messages of a mailbox that the house doesn't have.
discards_nowhere : (new : LockedStore) → ByHistory (within came 3) (Discard 5 (9 ∷ [])) Discarded new → ⊥
discards_nowhere new h = let few = h.1 in omega (arith, few)

-- It was refused, and its cursor went on: the change is never shown.
refused_and_moved : ByHistory (within marked 3) (Feed 64) (Refused NoMemory) (within marked 4) → ⊥
refused_and_moved h = let at : 4 ≡ 3 = ap (λ (s : LockedStore). cursor_of s.entered) h in omega (arith, at)

-- It was refused, and something was done.
refused_and_done : ByHistory (within marked 3) (Expunge None) (Refused NoMemory) (within emptied 3) → ⊥
refused_and_done h = let many : 11 ≡ 10 = ap (λ (s : LockedStore). length s.history) h in omega (arith, many)

-- It asked to be shown changes, and is told that it left.
another_calls_answer : ByHistory (within marked 3) (Feed 64) (Left 0) (outside marked) → ⊥
another_calls_answer h = h

-- It asked how many messages there are, and is told which flags one has.
flags_for_a_count : ByHistory (within marked 3) (Count 0) (Altered (Some seen)) (within marked 3) → ⊥
flags_for_a_count h = h
