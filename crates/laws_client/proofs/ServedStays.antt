-- A session's handle, hold by hold.
use Rattle.std.proofs.Common.{◌≡◌, ◌+◌, ◌++◌, ◌∙◌, ◌&&◌, ℕ, Bool, true, false, append-nil, append_assoc, List, [], ◌∷◌, length, length-append, arith, refl, sym, ap, subst, Some}
use Rattle.std.specs.List.{list_all}
use Rattle.change_ring.specs.declared.change.Change.{Change}
use Rattle.cursor_set.specs.Cursors.{CursorHandle}
use Rattle.imap_session.specs.Exchange.{Call, Answer, Look, Read, Count, Alter, Expunge, Feed, Entered, Looked, Found, Counted, Altered, Expunged, Fed, Left, Refused, Starved, Event, Discard, Discarded}
use Rattle.session_thread.specs.declared.locked_store.Entry.{Entry}
use Rattle.session_thread.specs.ByHistory.{ByHistory, Moves, shown_since, shown_then}
use Rattle.session_thread.specs.Locks.{In, LockedStore}
use Rattle.laws_client.specs.FlagTurns.{shown_in}
use Rattle.laws_client.proofs.Served.{never}
use Rattle.laws_client.specs.ServedStays.{ServedSessionsStay, stays_by}

abbrev moved_by : CursorHandle → ℕ → CursorHandle
moved_by handle n = record { number = handle.number; slot = handle.slot; serial = handle.serial; at = n }

-- the session is in the same mailbox, and was shown so many changes more
abbrev On : Entry → ℕ → LockedStore → Type 0
On here n selection = In selection (λ there. (there.mailbox ≡ here.mailbox) × (there.start ≡ here.start) × (there.handle ≡ record here.handle { at = here.handle.at + n }))

same_handle : (handle : CursorHandle) → handle ≡ record handle { at = handle.at + 0 }
same_handle handle = ap (moved_by handle) (omega arith)

same_entry : {a b : Entry} → Some a ≡ Some b → a ≡ b
same_entry e = cc

rests : (here : Entry) (old new : LockedStore) → old.entered ≡ Some here → new.entered ≡ old.entered → On here 0 new
rests here old new there same = (here, same ∙ there, (refl, refl, same_handle here.handle))

is_still : (here : Entry) (old new : LockedStore) → old.entered ≡ Some here → new ≡ old → On here 0 new
is_still here old new there same = rests here old new there (ap (λ (p : LockedStore). p.entered) same)

moves : (here was : Entry) (old new : LockedStore) (n : ℕ) → old.entered ≡ Some here → old.entered ≡ Some was → Moves old new was n → On here n new
moves here was old new n there also moved =
    let same : was ≡ here = same_entry (sym also ∙ there) in
    subst (λ (e : Entry). On e n new) same (record was { handle = record was.handle { at = was.handle.at + n } }, moved.there, (refl, refl, refl))

by_call : (here : Entry) (old new : LockedStore) (call : Call) (answer : Answer) → old.entered ≡ Some here → stays_by answer ≡ true → ByHistory old call answer new → On here (length (shown_in answer)) new
by_call here old new call (Refused fault) there s h = is_still here old new there h
by_call here old new call (Entered opening) there s h = cc
by_call here old new call (Left gone) there s h = cc
by_call here old new (Look by_uid set) (Looked view) there s h = is_still here old new there h.0
by_call here old new (Read uid mark) (Found row) there s h = rests here old new there h.0
by_call here old new (Count m) (Counted status) there s h = rests here old new there h.0
by_call here old new (Alter uid op) (Altered flags) there s h = rests here old new there h.0
by_call here old new (Expunge uids) (Expunged view changes gone) there s h = moves here h.0 old new (length changes) there h.1 h.2.4
by_call here old new (Feed limit) (Fed view changes) there s h = moves here h.0 old new (length changes) there h.1 h.2.3
by_call here old new (Discard m uids) Discarded there s h = rests here old new there h.0
by_call here old new call (Starved n) there s h = absurd (never old new call n h)
by_call here old new _ _ there s h = elim h [ ]

-- ---- what was shown in all

then_shown : (shown : List Change) (answer : Answer) → stays_by answer ≡ true → shown_then shown answer ≡ shown ++ shown_in answer
then_shown shown (Entered opening) s = cc
then_shown shown (Left gone) s = cc
then_shown shown (Fed view changes) s = refl
then_shown shown (Expunged view changes gone) s = refl
then_shown shown (Looked view) s = sym (append-nil shown)
then_shown shown (Found row) s = sym (append-nil shown)
then_shown shown (Counted status) s = sym (append-nil shown)
then_shown shown (Altered flags) s = sym (append-nil shown)
then_shown shown Discarded s = sym (append-nil shown)
then_shown shown (Refused fault) s = sym (append-nil shown)
then_shown shown (Starved n) s = sym (append-nil shown)

both : (a b : Bool) → (a && b) ≡ true → (a ≡ true) × (b ≡ true)
both true b e = (refl, e)
both false b e = cc

abbrev AllStay : List Event → Type 0
AllStay events = list_all (λ (e : Event). stays_by e.answer) events ≡ true

since_more : (shown : List Change) (events : List Event) → AllStay events → shown_since shown events ≡ shown ++ shown_since [] events
since_more shown [] all = sym (append-nil shown)
since_more shown (event ∷ events) all =
    let t = both (stays_by event.answer) (list_all (λ (e : Event). stays_by e.answer) events) all in
    let xs = shown_in event.answer in
    since_more (shown_then shown event.answer) events t.1 ∙ ap (λ (ys : List Change). ys ++ shown_since [] events) (then_shown shown event.answer t.0) ∙ append_assoc shown xs (shown_since [] events)
    ∙ ap (λ (ys : List Change). shown ++ ys) (sym (since_more (shown_then [] event.answer) events t.1 ∙ ap (λ (ys : List Change). ys ++ shown_since [] events) (then_shown [] event.answer t.0)))

joined : (here mid : Entry) (n m : ℕ) (selection : LockedStore) → mid.mailbox ≡ here.mailbox → mid.start ≡ here.start → mid.handle ≡ record here.handle { at = here.handle.at + n } → On mid m selection → On here (n + m) selection
joined here mid n m selection mailbox start handle h = (
  h.0,
  h.1,
  (h.2.0 ∙ mailbox, h.2.1 ∙ start, h.2.2 ∙ ap (λ (s : CursorHandle). moved_by s (s.at + m)) handle ∙ ap (moved_by here.handle) (omega arith)),
)

pub stays : ServedSessionsStay
stays old new [] here met all there = is_still here old new there met
stays old new (event ∷ events) here met all there =
    let t = both (stays_by event.answer) (list_all (λ (e : Event). stays_by e.answer) events) all in
    let xs = shown_in event.answer in
    let ys = shown_since [] events in
    let mid = by_call here old met.0 event.call event.answer there t.0 met.1 in
    let rest = stays met.0 new events mid.0 met.2 t.1 mid.1 in
    let whole : shown_since [] (event ∷ events) ≡ xs ++ ys = since_more (shown_then [] event.answer) events t.1 ∙ ap (λ (zs : List Change). zs ++ ys) (then_shown [] event.answer t.0) in
    subst (λ (k : ℕ). On here k new) (sym (ap (length {A = Change}) whole ∙ length-append xs ys)) (joined here mid.0 (length xs) (length ys) new mid.2.0 mid.2.1 mid.2.2 rest)
