-- What the calls of a session over mailboxes behind locks tell of flags, and what its client believes of them.
use Rattle.std.proofs.Common.{◌≡◌, ℕ, ◌+◌, ◌≤◌, Bool, List, [], ◌∷◌, ◌++◌, length, take, drop, refl, sym, subst, ap, ◌∙◌, arith, append-nil, append_assoc, length-append, Option, Some, None}
use Rattle.std.proofs.lemmas.List.{drop-append-le, length-drop, take-append-drop, take-append-le}
use mathlib.Core.List.{IsPrefix}
use Rattle.change_ring.specs.declared.change.Change.{Change}
use Rattle.change_ring.specs.declared.change.Flags.{Flags}
use Rattle.change_ring.specs.Log.{IsLegalLog, view_at}
use Rattle.change_ring.specs.Words.{flag_words}
use Rattle.mailbox.specs.declared.clients.Row.{Row}
use Rattle.house_history.specs.declared.event.Event as house
use Rattle.house_history.specs.Events.{changes_in}
use Rattle.house_history.specs.Legal.{Legal}
use Rattle.house_history.proofs.Follow.{changes_grow}
use Rattle.house_history.proofs.Logs.{legal_empty_log}
use Rattle.imap_session.specs.Exchange.{Call, Answer, Look, Read, Count, Alter, Expunge, Feed, Entered, Looked, Found, Counted, Altered, Expunged, Fed, Left, Refused, Starved, Event, Standing, Turn, Discard, Discarded}
use Rattle.imap_session.specs.Store.{Met}
use Rattle.session_thread.specs.declared.locked_store.Entry.{Entry}
use Rattle.session_thread.specs.ByHistory.{ByHistory, Moves, flags_in, Shows, WasShown, WasShownIn, shown_since, shown_then}
use Rattle.session_thread.specs.Locks.{LockedStore}
use Rattle.session_thread.proofs.ByHistory.{by_history, shown_by_history}
use Rattle.laws_client.specs.Clients.{Each}
use Rattle.laws_client.specs.Client.{Client}
use Rattle.laws_client.specs.Clients.{hears, hears_all}
use Rattle.laws_client.specs.Fetches.{IsNumbered}
use Rattle.laws_client.specs.Flags.{Believes, BelievesNow, FlagsOf, HasNow, Point, counted}
use Rattle.laws_client.specs.FlagTurns.{IfInside, shown_in}
use Rattle.laws_client.specs.ListTurns.{Sees}
use Rattle.laws_client.specs.RecordTurns.{Stands}
use Rattle.laws_client.specs.Served.{HasSmallCursor, counted_by, counted_in}
use Rattle.laws_client.specs.ServedFlags.{OfToldFlags, ServedFlagsAreCurrent, ServedFlagsAreFound, ServedFlagsHaveMoments, ServedLivesTellFlags, ServedTurnTellsFlags}
use Rattle.laws_client.specs.Served.{place_in, place_of}
use Rattle.imap_session.specs.Happenings.{Happening, Lived, Told, VerdictsArePrinted, comes, leads_to, told_of, turns}
use Rattle.laws_client.specs.Flags.{IsRightOnFlags}
use Rattle.laws_client.proofs.Each.{each_weaker}
use Rattle.laws_client.proofs.FlagKnown.{turn_moments}
use Rattle.laws_client.proofs.FlagMoments.{SeesAllMoments, SeesMoments, TellsMoments}
use Rattle.laws_client.proofs.Living.{hears_last}
use Rattle.laws_client.proofs.Moments.{flags_are_current, flags_outlast, now_is_moment}
use Rattle.laws_client.proofs.Served.{Small, all_there, counted_grows, hears_held, never, numbered, sees_call, small_before, small_call, small_uids, stands_in}
use Rattle.laws_client.proofs.ToldAll.{HearsAll}

-- ---- a call

place_at : (new : LockedStore) (here : Entry) → new.entered ≡ Some here → (place_of new).log ≡ changes_in here.mailbox new.history
place_at new here is = ap (λ (e : Option Entry). (place_in new.history e).log) is

has_now : (new : LockedStore) (here : Entry) (uid : ℕ) (flags : Flags) → new.entered ≡ Some here → Some flags ≡ flags_in uid (changes_in here.mailbox new.history) → HasNow (place_of new).log uid (flag_words flags)
has_now new here uid flags there is = record {
  flags = flags;
  has = ap (λ (log : List Change). flags_in uid log) (place_at new here there) ∙ sym is;
  named = refl;
}

found_row : (old new : LockedStore) (uid : ℕ) (mark : Bool) (row : Option Row) → ByHistory old (Read uid mark) (Found row) new → OfToldFlags (HasNow (place_of new).log) (Read uid mark) (Found row)
found_row old new uid mark None h = tt
found_row old new uid mark (Some row) (is, (here, there, (logs, read, seen))) = has_now new here uid row.flags (is ∙ there) read.flags

found_flags : (old new : LockedStore) (uid : ℕ) (op : _) (flags : Option Flags) → ByHistory old (Alter uid op) (Altered flags) new → OfToldFlags (HasNow (place_of new).log) (Alter uid op) (Altered flags)
found_flags old new uid op None h = tt
found_flags old new uid op (Some flags) (is, (here, there, (logs, told))) = has_now new here uid flags (is ∙ there) told

read_found : (old new : LockedStore) (uid : ℕ) (mark : Bool) (answer : Answer) (shown : List Change) → WasShown old shown → ByHistory old (Read uid mark) answer new → OfToldFlags (HasNow (place_of new).log) (Read uid mark) answer
read_found old new uid mark (Found row) shown was h = found_row old new uid mark row h
read_found old new uid mark _ shown was h = tt

alter_found : (old new : LockedStore) (uid : ℕ) (op : _) (answer : Answer) (shown : List Change) → WasShown old shown → ByHistory old (Alter uid op) answer new → OfToldFlags (HasNow (place_of new).log) (Alter uid op) answer
alter_found old new uid op (Altered flags) shown was h = found_flags old new uid op flags h
alter_found old new uid op _ shown was h = tt

pub served_flags_are_found : ServedFlagsAreFound
served_flags_are_found old new (Read uid mark) answer shown was h = read_found old new uid mark answer shown was h
served_flags_are_found old new (Alter uid op) answer shown was h = alter_found old new uid op answer shown was h
served_flags_are_found old new _ answer shown was h = tt

-- ---- by a later history

-- what holds of flags that are told holds in another form too
told_weaker : (P Q : ℕ → List (List ℕ) → Type 0) (call : Call) (answer : Answer) → ((uid : ℕ) (names : List (List ℕ)) → P uid names → Q uid names) → OfToldFlags P call answer → OfToldFlags Q call answer
told_weaker P Q (Read uid mark) answer f h = by answer h
  where
    by : (answer : Answer) → OfToldFlags P (Read uid mark) answer → OfToldFlags Q (Read uid mark) answer
    by (Found (Some row)) h = f uid (flag_words row.flags) h
    by (Found None) h = tt
    by _ h = tt
told_weaker P Q (Alter uid op) answer f h = by answer h
  where
    by : (answer : Answer) → OfToldFlags P (Alter uid op) answer → OfToldFlags Q (Alter uid op) answer
    by (Altered (Some flags)) h = f uid (flag_words flags) h
    by (Altered None) h = tt
    by _ h = tt
told_weaker P Q _ answer f h = tt

now_to_moment : (log : List Change) (cursor : ℕ) → cursor ≤ length log → (uid : ℕ) (names : List (List ℕ)) → HasNow log uid names → FlagsOf log cursor uid names
now_to_moment log cursor within uid names h = now_is_moment log cursor uid h.flags names within h.has h.named

within_log : (selection : LockedStore) (shown : List Change) → WasShown selection shown → (place_of selection).cursor ≤ length (place_of selection).log
within_log selection shown was = by selection.entered was
  where
    by : (entered : Option Entry) → WasShownIn selection.history entered shown → (place_in selection.history entered).cursor ≤ length (place_in selection.history entered).log
    by None w = omega arith
    by (Some here) w = w.within

-- a longer history has a longer log, and the cursor is where it was
outlasts : (before after : List house.Event) (entered : Option Entry) → IsPrefix before after → (uid : ℕ) (names : List (List ℕ))
    → FlagsOf (place_in before entered).log (place_in before entered).cursor uid names → FlagsOf (place_in after entered).log (place_in after entered).cursor uid names
outlasts before after None goes uid names f = f
outlasts before after (Some here) goes uid names f =
    let g = changes_grow here.mailbox before after goes in
    subst (λ (log : List Change). FlagsOf log here.handle.at uid names) g.1 (flags_outlast (changes_in here.mailbox before) g.0 here.handle.at uid names f)

pub served_flags_have_moments : ServedFlagsHaveMoments
served_flags_have_moments old new call answer shown later was h goes =
    let b = by_history old new call answer shown h was in
    told_weaker (HasNow (place_of new).log) (FlagsOf (place_in later new.entered).log (place_in later new.entered).cursor) call answer
    (λ uid names has. outlasts new.history later new.entered goes uid names (now_to_moment (place_of new).log (place_of new).cursor (within_log new (shown_then shown answer) b.1) uid names has))
    (served_flags_are_found old new call answer shown was h)

-- ---- where nothing is pending

pub served_flags_are_current : ServedFlagsAreCurrent
served_flags_are_current selection here None is end right = tt
served_flags_are_current selection here (Some client) is end right =
    let log : List Change = changes_in here.mailbox selection.history in
    let at : ℕ → Point = λ (c : ℕ). record { log = log; cursor = c } in
    let r : IsRightOnFlags (at (length log)) (Some client) =
    subst (λ (c : ℕ). IsRightOnFlags (at c) (Some client)) end (subst (λ (e : Option Entry). IsRightOnFlags (place_in selection.history e) (Some client)) is right) in (
      r.0,
      r.1,
      subst (λ (us : List ℕ). Each (BelievesNow log) us r.0) (all_there log (length log) refl)
          (each_weaker (Believes (at (length log))) (BelievesNow log) (λ u m b names e. flags_are_current log u names (b names e)) (view_at log (length log)) r.0 r.2),
    )

-- ---- a turn, by the history as it is behind it

trans : {A : Type 0} (a b c : List A) → IsPrefix a b → IsPrefix b c → IsPrefix a c
trans a b c f g = (f.0 ++ g.0, sym (append_assoc a f.0 g.0) ∙ ap (λ xs. xs ++ g.0) f.1 ∙ g.1)

counted_place : (history : List house.Event) (entered : Option Entry) → counted_in history entered ≡ counted (place_in history entered)
counted_place history None = refl
counted_place history (Some here) = refl

-- what it counts, by a later history
counted_later : (selection : LockedStore) (shown : List Change) (later : List house.Event) → IsPrefix selection.history later → WasShown selection shown → counted_by selection ≡ counted (place_in later selection.entered)
counted_later selection shown later goes was = sym (counted_grows selection.history later selection.entered shown goes was) ∙ counted_place later selection.entered

record IsSoundAt (p : Point) : Type 0 where
  legal : IsLegalLog p.log
  within : p.cursor ≤ length p.log

sound_in : (before later : List house.Event) (entered : Option Entry) (shown : List Change) → Legal later → IsPrefix before later → WasShownIn before entered shown → IsSoundAt (place_in later entered)
sound_in before later None shown legal goes was = record { legal = legal_empty_log; within = omega arith }
sound_in before later (Some here) shown legal goes was =
    let g = changes_grow here.mailbox before later goes in
    let e = ap length g.1 in
    let l = length-append (changes_in here.mailbox before) g.0 in
    let within = was.within in
    record { legal = legal.logs here.mailbox; within = omega (arith, within, e, l) }

-- a call that shows nothing
shows_none : (later : List house.Event) (old mid : Option Entry) (call : Call) (answer : Answer) → mid ≡ old → shown_in answer ≡ [] → IsSoundAt (place_in later old)
    → Sees (counted (place_in later old)) (record { call = call; answer = answer }) (counted (place_in later mid)) → TellsMoments (place_in later mid) call answer
    → SeesMoments (place_in later old) (record { call = call; answer = answer }) (place_in later mid)
shows_none later old mid call answer same none ok sees tells =
    let p : Point = place_in later old in
    let c = ap (λ (e : Option Entry). (place_in later e).cursor) same in
    let n = ap length none in record {
      sees = sees;
      legal = ok.legal;
      within = ok.within;
      rest = drop p.cursor p.log;
      shows = ap (λ (cs : List Change). cs ++ drop p.cursor p.log) (sym none);
      cursor = omega (arith, c, n);
      later = [];
      log = ap (λ (e : Option Entry). (place_in later e).log) same ∙ sym (append-nil p.log);
      tells = tells;
    }

-- a call that shows the next changes
shows_next : (before later : List house.Event) (here next : Entry) (call : Call) (answer : Answer) (view : List ℕ) (changes : List Change) → IsPrefix before later → next.mailbox ≡ here.mailbox
    → next.handle.at ≡ here.handle.at + length changes → here.handle.at + length changes ≤ length (changes_in here.mailbox before) → Shows before here view changes → shown_in answer ≡ changes
    → IsSoundAt (place_in later (Some here)) → Sees (counted (place_in later (Some here))) (record { call = call; answer = answer }) (counted (place_in later (Some next)))
    → TellsMoments (place_in later (Some next)) call answer → SeesMoments (place_in later (Some here)) (record { call = call; answer = answer }) (place_in later (Some next))
shows_next before later here next call answer view changes goes same at within shows is ok sees tells =
    let log : List Change = changes_in here.mailbox before in
    let all : List Change = changes_in here.mailbox later in
    let c : ℕ = here.handle.at in
    let n : ℕ = length changes in
    let g = changes_grow here.mailbox before later goes in
    let d = length-drop c log in
    let next_are : take n (drop c all) ≡ changes =
    ap (λ (l : List Change). take n (drop c l)) (sym g.1) ∙ ap (take n) (drop-append-le c log g.0 (omega (arith, within))) ∙ take-append-le n (drop c log) g.0 (omega (arith, d, within)) ∙ sym shows.showed in
    let count = ap length is in record {
      sees = sees;
      legal = ok.legal;
      within = ok.within;
      rest = drop n (drop c all);
      shows = sym (take-append-drop n (drop c all)) ∙ ap (λ (cs : List Change). cs ++ drop n (drop c all)) (next_are ∙ sym is);
      cursor = omega (arith, at, count);
      later = [];
      log = ap (λ (m : ℕ). changes_in m later) same ∙ sym (append-nil all);
      tells = tells;
    }

-- where the handle is then
shown_at : (old mid : LockedStore) (here : Entry) (call : Call) (answer : Answer) (view : List ℕ) (changes : List Change) (later : List house.Event) → old.entered ≡ Some here
    → Moves old mid here (length changes) → shown_in answer ≡ changes → Shows mid.history here view changes → IsPrefix mid.history later
    → IsSoundAt (place_in later old.entered) → Sees (counted (place_in later old.entered)) (record { call = call; answer = answer }) (counted (place_in later mid.entered)) → TellsMoments (place_in later mid.entered) call answer
    → SeesMoments (place_in later old.entered) (record { call = call; answer = answer }) (place_in later mid.entered)
shown_at old mid here call answer view changes later there moves told shows goes ok sees tells =
    let at : Entry = record here { handle = record here.handle { at = here.handle.at + length changes } } in
    let event : Event = record { call = call; answer = answer } in
    subst (λ (o : Option Entry). SeesMoments (place_in later o) event (place_in later mid.entered)) (sym there)
    (subst (λ (o : Option Entry). SeesMoments (place_in later (Some here)) event (place_in later o)) (sym moves.there)
    (shows_next mid.history later here at call answer view changes goes refl refl moves.within shows told (subst (λ (o : Option Entry). IsSoundAt (place_in later o)) there ok)
    (subst (λ (o : Option Entry). Sees (counted (place_in later (Some here))) event (counted (place_in later o))) moves.there
    (subst (λ (o : Option Entry). Sees (counted (place_in later o)) event (counted (place_in later mid.entered))) there sees))
    (subst (λ (o : Option Entry). TellsMoments (place_in later o) call answer) moves.there tells)))

looked_still : (old new : LockedStore) (call : Call) (view : List ℕ) → ByHistory old call (Looked view) new → new.entered ≡ old.entered
looked_still old new (Look by_uid set) view h = ap (λ (p : LockedStore). p.entered) h.0
looked_still old new _ view h = absurd h

found_still : (old new : LockedStore) (call : Call) (row : Option Row) → ByHistory old call (Found row) new → new.entered ≡ old.entered
found_still old new (Read uid mark) row h = h.0
found_still old new _ row h = absurd h

counted_still : (old new : LockedStore) (call : Call) (status : _) → ByHistory old call (Counted status) new → new.entered ≡ old.entered
counted_still old new (Count m) status h = h.0
counted_still old new _ status h = absurd h

discarded_still : (old new : LockedStore) (call : Call) → ByHistory old call Discarded new → new.entered ≡ old.entered
discarded_still old new (Discard m uids) h = h.0
discarded_still old new _ h = absurd h

altered_still : (old new : LockedStore) (call : Call) (flags : Option Flags) → ByHistory old call (Altered flags) new → new.entered ≡ old.entered
altered_still old new (Alter uid op) flags h = h.0
altered_still old new _ flags h = absurd h

abbrev MomentsAt : List house.Event → LockedStore → Call → Answer → LockedStore → Type 0
MomentsAt later old call answer new = SeesMoments (place_in later old.entered) (record { call = call; answer = answer }) (place_in later new.entered)

expunged_moments : (old new : LockedStore) (call : Call) (view : List ℕ) (changes : List Change) (gone : ℕ) (later : List house.Event) → ByHistory old call (Expunged view changes gone) new
    → IsPrefix new.history later → IsSoundAt (place_in later old.entered)
    → Sees (counted (place_in later old.entered)) (record { call = call; answer = Expunged view changes gone }) (counted (place_in later new.entered)) → MomentsAt later old call (Expunged view changes gone) new
expunged_moments old new (Expunge uids) view changes gone later h goes ok sees =
    shown_at old new h.0 (Expunge uids) (Expunged view changes gone) view changes later h.1 h.2.4 refl h.2.1 goes ok sees tt
expunged_moments old new _ view changes gone later h goes ok sees = absurd h

fed_moments : (old new : LockedStore) (call : Call) (view : List ℕ) (changes : List Change) (later : List house.Event) → ByHistory old call (Fed view changes) new
    → IsPrefix new.history later → IsSoundAt (place_in later old.entered)
    → Sees (counted (place_in later old.entered)) (record { call = call; answer = Fed view changes }) (counted (place_in later new.entered)) → MomentsAt later old call (Fed view changes) new
fed_moments old new (Feed limit) view changes later h goes ok sees =
    shown_at old new h.0 (Feed limit) (Fed view changes) view changes later h.1 h.2.3 refl h.2.1 goes ok sees tt
fed_moments old new _ view changes later h goes ok sees = absurd h

call_moments : (old new : LockedStore) (call : Call) (answer : Answer) (shown : List Change) (later : List house.Event) → ByHistory old call answer new → WasShown old shown → HasSmallCursor old
    → Legal later → Small later → IsPrefix new.history later → IfInside answer (MomentsAt later old call answer new)
call_moments old new call answer shown later h was at legal small goes =
    let b = by_history old new call answer shown h was in
    let before : IsPrefix old.history later = trans old.history new.history later b.0 goes in
    let sees = (sees_call old new call answer shown h was at (small_before new.history later goes small)).0 in
    by answer h (sound_in old.history later old.entered shown legal before was)
    (subst (λ (view : List ℕ). Sees view (record { call = call; answer = answer }) (counted (place_in later new.entered))) (counted_later old shown later before was)
    (subst (λ (view : List ℕ). Sees (counted_by old) (record { call = call; answer = answer }) view) (counted_later new (shown_then shown answer) later goes b.1) sees))
    (served_flags_have_moments old new call answer shown later was h goes)
  where
    by : (answer : Answer) → ByHistory old call answer new → IsSoundAt (place_in later old.entered)
        → Sees (counted (place_in later old.entered)) (record { call = call; answer = answer }) (counted (place_in later new.entered)) → TellsMoments (place_in later new.entered) call answer
        → IfInside answer (MomentsAt later old call answer new)
    by (Entered opening) h ok sees tells = tt
    by (Left gone) h ok sees tells = tt
    by (Looked view) h ok sees tells = shows_none later old.entered new.entered call (Looked view) (looked_still old new call view h) refl ok sees tells
    by (Found row) h ok sees tells = shows_none later old.entered new.entered call (Found row) (found_still old new call row h) refl ok sees tells
    by (Counted status) h ok sees tells = shows_none later old.entered new.entered call (Counted status) (counted_still old new call status h) refl ok sees tells
    by (Altered flags) h ok sees tells = shows_none later old.entered new.entered call (Altered flags) (altered_still old new call flags h) refl ok sees tells
    by (Expunged view changes gone) h ok sees tells = expunged_moments old new call view changes gone later h goes ok sees
    by (Fed view changes) h ok sees tells = fed_moments old new call view changes later h goes ok sees
    by Discarded h ok sees tells = shows_none later old.entered new.entered call Discarded (discarded_still old new call h) refl ok sees tells
    by (Refused fault) h ok sees tells = shows_none later old.entered new.entered call (Refused fault) (ap (λ (p : LockedStore). p.entered) h) refl ok sees tells
    by (Starved n) h ok sees tells = absurd (never old new call n h)

held_moments : (old new : LockedStore) (events : List Event) (shown : List Change) (later : List house.Event) → Met ByHistory old events new → WasShown old shown → HasSmallCursor old
    → Legal later → Small later → IsPrefix new.history later → SeesAllMoments (place_in later old.entered) events (place_in later new.entered)
held_moments old new [] shown later met was at legal small goes = ap (λ (p : LockedStore). place_in later p.entered) met
held_moments old new (event ∷ events) shown later (mid, one, more) was at legal small goes =
    let b = by_history old mid event.call event.answer shown one was in
    let s = shown_by_history mid new events (shown_then shown event.answer) more b.1 in (
      place_in later mid.entered,
      call_moments old mid event.call event.answer shown later one was at legal small (trans mid.history new.history later s.0 goes),
      held_moments mid new events (shown_then shown event.answer) later more b.1 (small_call old mid event.call event.answer one at) legal small goes,
    )

-- a client that was right about flags is right about them by a longer history
right_later : (before later : List house.Event) (entered : Option Entry) (shown : List Change) (client : Option Client) → IsPrefix before later → WasShownIn before entered shown
    → IsRightOnFlags (place_in before entered) client → IsRightOnFlags (place_in later entered) client
right_later before later entered shown None goes was right = tt
right_later before later None shown (Some client) goes was right = right
right_later before later (Some here) shown (Some client) goes was (list, is, right) = (
  list,
  is,
  subst (λ (us : List ℕ). Each (Believes (place_in later (Some here))) us list) (sym (counted_grows before later (Some here) shown goes was))
      (each_weaker (Believes (place_in before (Some here))) (Believes (place_in later (Some here))) (λ u m b names e. outlasts before later (Some here) goes u names (b names e)) (counted (place_in before (Some here))) list right),
)

-- by any history that goes on from the one behind the turn
turn_flags_in : (old new : LockedStore) (shown : List Change) (now : Standing) (happening : Happening) (turn : Turn) (client : Option Client) (later : List house.Event) → WasShown old shown → HasSmallCursor old → Stands now
    → VerdictsArePrinted happening → Small later → Legal later → IsPrefix new.history later → leads_to now happening ≡ Some turn → Met ByHistory old turn.events new
    → IsRightOnFlags (place_in later old.entered) client → IsRightOnFlags (place_in later new.entered) (hears client (told_of now happening turn.bytes))
turn_flags_in old new shown now happening turn client later was at stands printed small legal goes e met right =
    let s = shown_by_history old new turn.events shown met was in
    let before = trans old.history new.history later s.0 goes in
    let view = counted_later old shown later before was in
    turn_moments now (place_in later old.entered) happening turn (place_in later new.entered) client stands
    (subst IsNumbered view (numbered old (small_before old.history later before small) at)) printed e
    (held_moments old new turn.events shown later met was at legal small goes)
    (subst (λ (us : List ℕ). HearsAll us turn.events (counted (place_in later new.entered))) view
    (subst (λ (us : List ℕ). HearsAll (counted_by old) turn.events us) (counted_later new (shown_since shown turn.events) later goes s.1)
    (hears_held old new turn.events shown met was at (small_before new.history later goes small)))) right

pub served_turn_tells_flags : ServedTurnTellsFlags
served_turn_tells_flags old new shown now happening turn client was at stands printed legal e met right =
    let s = shown_by_history old new turn.events shown met was in
    turn_flags_in old new shown now happening turn client new.history was at stands printed (small_uids new.history legal) legal ([], append-nil new.history) e met
    (right_later old.history new.history old.entered shown client s.0 was right)

-- ---- a life

lives_flags_in : (first : Standing) (began : LockedStore) (later : List house.Event) {sent : List ℕ} {told : List Told} {now : Standing} {selection : LockedStore} → began.entered ≡ None → Stands first → Small later → Legal later
    → Lived ByHistory first began sent told now selection → IsPrefix selection.history later → IsRightOnFlags (place_in later selection.entered) (hears_all None told)
lives_flags_in first began later none stands small legal comes goes = tt
lives_flags_in first began later none stands small legal (turns {told = told} {now = now} {s = selection} lives happening bytes turn next timely sent printed e met) goes =
    let K = stands_in first began none stands lives in
    let s = shown_by_history selection next turn.events K.shown met K.was in
    subst (λ (c : Option Client). IsRightOnFlags (place_in later next.entered) c) (sym (hears_last None told (told_of now happening turn.bytes)))
    (turn_flags_in selection next K.shown now happening turn (hears_all None told) later K.was K.at K.stands printed small legal goes e met
    (lives_flags_in first began later none stands small legal lives (trans selection.history next.history later s.0 goes)))

pub served_lives_tell_flags : ServedLivesTellFlags
served_lives_tell_flags first began sent told now selection none stands legal lives =
    lives_flags_in first began selection.history none stands (small_uids selection.history legal) legal lives ([], append-nil selection.history)
