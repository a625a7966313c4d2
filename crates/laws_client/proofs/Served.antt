-- What a session over mailboxes behind locks counts, call by call, and what its client is told of it.
use Rattle.std.proofs.Common.{◌≡◌, ◌⊎◌, inl, inr, ℕ, ◌+◌, ◌-◌, ◌<◌, ◌≤◌, ◌^◌, List, [], ◌∷◌, ◌++◌, length, take, drop, map, refl, sym, subst, ap, ◌∙◌, arith, append-nil, Option, Some, None, All, Contains}
use Rattle.std.specs.Prelude.{IfSome, min}
use Rattle.std.proofs.Math.Nat.{min-le_left}
use Rattle.std.proofs.Math.Seq.{take-length}
use Rattle.std.proofs.lemmas.List.{take-append-drop, length-take, length-map}
use Rattle.std.proofs.lemmas.List.Elements.{All-head, All-tail, Contains-append_left}
use mathlib.Core.List.{IsPrefix}
use Rattle.change_ring.specs.declared.change.Change.{Change}
use Rattle.change_ring.specs.declared.change.Change.TheVariants.{Add, Gone, Flags as SetFlags}
use Rattle.change_ring.specs.Log as change
use Rattle.change_ring.specs.Log.{FitsView, added, replay, rows_of, view_at}
use Rattle.change_ring.proofs.LogLaws.{FitsView-first, added-append, uids-rows_after}
use Rattle.delivery_token.specs.declared.Job.{Job}
use Rattle.delivery_token.specs.declared.Verdict.TheVariants.{Stored}
use Rattle.mailbox.specs.declared.clients.MailFault.{MailFault}
use Rattle.mailbox.specs.declared.clients.Opening.{Opening}
use Rattle.mailbox.specs.declared.clients.Row.{Row}
use Rattle.mailbox.specs.declared.mailbox.Status.{Status}
use Rattle.house_history.specs.declared.event.Event as house
use Rattle.house_history.specs.declared.event.Event.TheVariants.{Judged}
use Rattle.house_history.specs.Events.{changes_in}
use Rattle.house_history.specs.Legal.{Legal, Stands as WasStored}
use Rattle.house_history.proofs.Follow.{changes_grow}
use Rattle.house_history.proofs.Standing.{same_copy}
use Rattle.house_history.proofs.Uids.{uids_fit}
use Rattle.imap_session.specs.Exchange.{Call, Answer, Enter, Look, Read, Count, Alter, Expunge, Feed, Leave, Entered, Looked, Found, Counted, Altered, Expunged, Fed, Left, Refused, Starved, Event, Standing, Turn, Discard, Discarded}
use Rattle.imap_session.specs.Commands.{unlimited}
use Rattle.imap_session.specs.Store.{Met}
use Rattle.session_thread.specs.declared.locked_store.Entry.{Entry}
use Rattle.session_thread.specs.ByHistory.{ByHistory, Comes, Moves, IsUpToCursor, Shows, WasShown, WasShownIn, shown_since, shown_then}
use Rattle.session_thread.specs.Locks.{HasOpening, HasRow, HasStatus, LockedStore}
use Rattle.session_thread.proofs.ByHistory.{by_history, shown_by_history}
use Rattle.laws_client.specs.Beliefs.{MayShow}
use Rattle.laws_client.specs.Client.{Client}
use Rattle.laws_client.specs.Clients.{IsRightAbout, hears, hears_all}
use Rattle.laws_client.specs.Fetches.{AreSmall, IsNumbered}
use Rattle.laws_client.specs.ListTurns.{IsCounted, IsRowOf, Sees}
use Rattle.laws_client.specs.RecordTurns.{Stands}
use Rattle.imap_session.specs.Happenings.{Happening, Lived, Told, VerdictsArePrinted, comes, leads_to, told_of, turns}
use Rattle.laws_client.specs.Served.{CursorsStaySmall, FeedsReachTheEnd, HasSmallCursor, IsAtEnd, ServedListsAreCurrent, ServedLivesAreKnown, ServedTextsStay, ServedTurnIsKnown, counted_by, counted_in, messages_in}
use Rattle.laws_client.proofs.Living.{hears_last}
use Rattle.laws_client.proofs.Logs.{length_replay, small_front, small_replay, view_stays, view_then}
use Rattle.laws_client.proofs.RecordKnown.{stands_still, turn_heard}
use Rattle.laws_client.proofs.Seen.{shows_fit}
use Rattle.laws_client.proofs.ToldAll.{HearsAll, OpensSo}

-- ---- small numbers

small_of : (xs : List ℕ) → All (λ (uid : ℕ). uid < 2 ^ 32) xs → AreSmall xs
small_of [] h = tt
small_of (x ∷ xs) h = (let few = All-head (λ (uid : ℕ). uid < 2 ^ 32) x xs h in omega (arith, few), small_of xs (All-tail (λ (uid : ℕ). uid < 2 ^ 32) x xs h))

-- the UIDs of each mailbox are small, and each change of its log speaks of a message that is there
pub record Small (history : List house.Event) : Type 0 where
  uids : (m : ℕ) → AreSmall (added (changes_in m history))
  fits : (m : ℕ) → FitsView [] (changes_in m history)

pub small_before : (before after : List house.Event) → IsPrefix before after → Small after → Small before
small_before before after goes small = record {
  uids = λ m. let g = changes_grow m before after goes in
      small_front (added (changes_in m before)) (added g.0) (subst AreSmall (ap added (sym g.1) ∙ added-append (changes_in m before) g.0) (small.uids m));
  fits = λ m. let g = changes_grow m before after goes in FitsView-first [] (changes_in m before) g.0 (subst (λ (l : List Change). FitsView [] l) (sym g.1) (small.fits m));
}

pub small_uids : (history : List house.Event) → Legal history → Small history
small_uids history legal = record {
  uids = λ m. small_of (added (changes_in m history)) (uids_fit history m legal);
  fits = λ m. (legal.logs m).there;
}

length_added : (cs : List Change) → length (added cs) ≤ length cs
length_added [] = omega arith
length_added (Add uid ∷ cs) = omega (arith, length_added cs)
length_added (Gone uid ∷ cs) = omega (arith, length_added cs)
length_added (SetFlags uid flags ∷ cs) = omega (arith, length_added cs)

-- no more messages than changes
pub few_at : (log : List Change) (c : ℕ) → length (view_at log c) ≤ c
few_at log c = omega (arith, length_replay [] (take c log), length_added (take c log), length-take c log, min-le_left c (length log))

numbered_to : (log : List Change) (c : ℕ) → AreSmall (added log) → c ≤ 2 ^ 62 → IsNumbered (view_at log c)
numbered_to log c small few =
    let parts : added log ≡ added (take c log) ++ added (drop c log) = ap added (sym (take-append-drop c log)) ∙ added-append (take c log) (drop c log) in record {
      few = omega (arith, few, few_at log c);
      small = small_replay [] (take c log) tt (small_front (added (take c log)) (added (drop c log)) (subst AreSmall parts small));
    }

pub numbered : (selection : LockedStore) → Small selection.history → HasSmallCursor selection → IsNumbered (counted_by selection)
numbered selection small at = by selection.entered at
  where
    by : (entered : Option Entry) → IfSome entered (λ (here : Entry). here.handle.at ≤ 2 ^ 62) → IsNumbered (counted_in selection.history entered)
    by None h = record { few = omega arith; small = tt }
    by (Some here) h = numbered_to (changes_in here.mailbox selection.history) here.handle.at (small.uids here.mailbox) h

-- ---- what a session counts, as the history goes on

pub view_grows : (log all : List Change) (c : ℕ) → IsPrefix log all → c ≤ length log → view_at all c ≡ view_at log c
view_grows log all c goes within = ap (λ (l : List Change). view_at l c) (sym goes.1) ∙ view_stays c log goes.0 within

pub counted_grows : (before after : List house.Event) (entered : Option Entry) (shown : List Change) → IsPrefix before after → WasShownIn before entered shown → counted_in after entered ≡ counted_in before entered
counted_grows before after None shown goes was = refl
counted_grows before after (Some here) shown goes was =
    view_grows (changes_in here.mailbox before) (changes_in here.mailbox after) here.handle.at (changes_grow here.mailbox before after goes) was.within

-- it has seen more of the history, and is where it was
counts_still : (old new : LockedStore) (shown : List Change) → new.entered ≡ old.entered → IsPrefix old.history new.history → WasShown old shown → counted_by new ≡ counted_by old
counts_still old new shown is goes was =
    ap (λ (e : Option Entry). counted_in new.history e) is ∙ counted_grows old.history new.history old.entered shown goes was

pub of_entry : (P : Entry → Type 0) (entered : Option Entry) (here : Entry) → entered ≡ Some here → IfSome entered P → P here
of_entry P entered here is h = subst (λ (e : Option Entry). IfSome e P) is h

pub to_entry : (P : Entry → Type 0) (entered : Option Entry) (here : Entry) → entered ≡ Some here → P here → IfSome entered P
to_entry P entered here is h = subst (λ (e : Option Entry). IfSome e P) (sym is) h

pub shown_to : (history : List house.Event) (entered : Option Entry) (here : Entry) (shown : List Change) → entered ≡ Some here → WasShownIn history entered shown → IsUpToCursor history here shown
shown_to history entered here shown is was = subst (λ (e : Option Entry). WasShownIn history e shown) is was

-- ---- a cursor at the end of its log

pub all_there : (log : List Change) (at : ℕ) → at ≡ length log → view_at log at ≡ map (λ (row : change.Row). row.uid) (rows_of log)
all_there log at end = ap (view_at log) end ∙ ap (replay []) (take-length log) ∙ sym (uids-rows_after [] log)

pub served_lists_are_current : ServedListsAreCurrent
served_lists_are_current selection here is end =
    ap (counted_in selection.history) is ∙ all_there (changes_in here.mailbox selection.history) here.handle.at end

-- ---- cursors stay small

still_small : (old new : LockedStore) → new ≡ old → HasSmallCursor old → HasSmallCursor new
still_small old new is h = subst (λ (p : LockedStore). HasSmallCursor p) (sym is) h

seen_small : (old new : LockedStore) → new.entered ≡ old.entered → HasSmallCursor old → HasSmallCursor new
seen_small old new is h = subst (λ (e : Option Entry). IfSome e (λ (here : Entry). here.handle.at ≤ 2 ^ 62)) (sym is) h

at_small : (selection : LockedStore) (here : Entry) → selection.entered ≡ Some here → here.handle.at ≤ 2 ^ 62 → HasSmallCursor selection
at_small selection here is few = to_entry (λ (e : Entry). e.handle.at ≤ 2 ^ 62) selection.entered here is few

comes_small : (old new : LockedStore) (m : ℕ) (opening : Opening) (here : Entry) → Comes old new m opening here → HasSmallCursor new
comes_small old new m opening here c =
    let few = subst (λ (x : ℕ). length (changes_in x new.history) ≤ 2 ^ 62) (sym c.mailbox) c.logs.few in
    let start = c.opens.start in
    let cursor = c.cursor in
    at_small new here c.there (omega (arith, few, start, cursor))

moves_small : (old new : LockedStore) (here : Entry) (count : ℕ) → length (changes_in here.mailbox new.history) ≤ 2 ^ 62 → Moves old new here count → HasSmallCursor new
moves_small old new here count few moves =
    let within = moves.within in
    at_small new (record here { handle = record here.handle { at = here.handle.at + count } }) moves.there (omega (arith, few, within))

pub small_call : (old new : LockedStore) (call : Call) (answer : Answer) → ByHistory old call answer new → HasSmallCursor old → HasSmallCursor new
small_call old new call (Refused fault) h small = still_small old new h small
small_call old new (Enter m) (Entered opening) h small = comes_small old new m opening h.1 h.2
small_call old new (Look by_uid set) (Looked view) h small = still_small old new h.0 small
small_call old new (Read uid mark) (Found row) h small = seen_small old new h.0 small
small_call old new (Count m) (Counted status) h small = seen_small old new h.0 small
small_call old new (Alter uid op) (Altered flags) h small = seen_small old new h.0 small
small_call old new (Expunge uids) (Expunged view changes gone) h small = moves_small old new h.0 (length changes) h.2.0.few h.2.4
small_call old new (Feed limit) (Fed view changes) h small = moves_small old new h.0 (length changes) h.2.0.few h.2.3
small_call old new (Leave remove) (Left gone) h small = subst (λ (e : Option Entry). IfSome e (λ (here : Entry). here.handle.at ≤ 2 ^ 62)) (sym h.0) tt
small_call old new (Discard m uids) Discarded h small = seen_small old new h.0 small
small_call old new _ _ h small = absurd h

pub never : (old new : LockedStore) (call : Call) (n : ℕ) → ByHistory old call (Starved n) new → ⊥
never old new (Enter m) n h = h
never old new _ n h = h

pub cursors_stay_small : CursorsStaySmall
cursors_stay_small old new [] met small = still_small old new met small
cursors_stay_small old new (event ∷ events) met small = cursors_stay_small met.0 new events met.2 (small_call old met.0 event.call event.answer met.1 small)

-- ---- what it sees

abbrev pub SeesSo : LockedStore → Call → Answer → LockedStore → Type 0
SeesSo old call answer new = Sees (counted_by old) (record { call = call; answer = answer }) (counted_by new) × OpensSo answer (counted_by new)

unmoved : (old new : LockedStore) (call : Call) (fault : MailFault) → new ≡ old → SeesSo old call (Refused fault) new
unmoved old new call fault is = (record { leads = ap counted_by is; fits = tt }, tt)

sees_entry : (old new : LockedStore) (call : Call) (opening : Opening) → ByHistory old call (Entered opening) new → HasSmallCursor new → SeesSo old call (Entered opening) new
sees_entry old new (Enter m) opening (nowhere, here, c) small =
    let few = of_entry (λ (e : Entry). e.handle.at ≤ 2 ^ 62) new.entered here c.there small in
    let log : List Change = changes_in here.mailbox new.history in
    let view : counted_by new ≡ messages_in here.mailbox new.history = served_lists_are_current new here c.there (c.cursor ∙ c.opens.start) in
    let count : opening.count ≡ length (counted_by new) =
    c.opens.count ∙ sym (length-map (rows_of log) (λ (row : change.Row). row.uid)) ∙ ap length (sym view) in
    let is = ap (λ (xs : List ℕ). length xs) (ap (counted_in new.history) c.there) in
    let most = few_at log here.handle.at in
    let fine : HasOpening opening = c.fits in
    let next = fine.0 in
    let validity = fine.1 in
    (record { leads = tt; fits = tt }, record { count = count; few = omega (arith, count, is, most, few); uidvalidity = omega (arith, validity); uidnext = omega (arith, next) })
sees_entry old new _ opening h small = absurd h

sees_look : (old new : LockedStore) (call : Call) (view : List ℕ) → ByHistory old call (Looked view) new → SeesSo old call (Looked view) new
sees_look old new (Look by_uid set) view (is, (here, there, met)) =
    (record { leads = (met ∙ sym (ap (counted_in old.history) there), ap counted_by is); fits = tt }, tt)
sees_look old new _ view h = absurd h

fits_row : (uid : ℕ) (row : Option Row) → IfSome row (λ found. found.uid ≡ uid) → HasRow row → IsRowOf uid row
fits_row uid None is fine = tt
fits_row uid (Some row) is fine = (is, fine)

sees_row : (old new : LockedStore) (call : Call) (row : Option Row) (shown : List Change) → ByHistory old call (Found row) new → IsPrefix old.history new.history → WasShown old shown → SeesSo old call (Found row) new
sees_row old new (Read uid mark) row shown (is, (here, there, (logs, read, seen))) goes was =
    (record { leads = counts_still old new shown is goes was; fits = fits_row uid row read.uid_of read.fits }, tt)
sees_row old new _ row shown h goes was = absurd h

-- what has the numbers of the code's types can be printed
counted_so : (status : Status) → HasStatus status → IsCounted status
counted_so status is = record {
  messages = is.messages;
  uidnext = (let few = is.uidnext in omega (arith, few));
  uidvalidity = (let few = is.uidvalidity in omega (arith, few));
  unseen = is.unseen;
  deleted = is.deleted;
  size = is.size;
}

sees_count : (old new : LockedStore) (call : Call) (status : _) (shown : List Change) → ByHistory old call (Counted status) new → IsPrefix old.history new.history → WasShown old shown → SeesSo old call (Counted status) new
sees_count old new (Count m) status shown h goes was = (record { leads = counts_still old new shown h.0 goes was; fits = counted_so status h.4 }, tt)
sees_count old new _ status shown h goes was = absurd h

sees_discard : (old new : LockedStore) (call : Call) (shown : List Change) → ByHistory old call Discarded new → IsPrefix old.history new.history → WasShown old shown → SeesSo old call Discarded new
sees_discard old new (Discard m uids) shown h goes was = (record { leads = counts_still old new shown h.0 goes was; fits = tt }, tt)
sees_discard old new _ shown h goes was = absurd h

sees_flags : (old new : LockedStore) (call : Call) (flags : _) (shown : List Change) → ByHistory old call (Altered flags) new → IsPrefix old.history new.history → WasShown old shown → SeesSo old call (Altered flags) new
sees_flags old new (Alter uid op) flags shown h goes was = (record { leads = counts_still old new shown h.0 goes was; fits = tt }, tt)
sees_flags old new _ flags shown h goes was = absurd h

-- the next changes were shown
record MovesOn (old : LockedStore) (view : List ℕ) (changes : List Change) (new : LockedStore) : Type 0 where
  met : view ≡ counted_by old
  goes : counted_by new ≡ replay (counted_by old) changes
  may : MayShow (counted_by old) changes

moves_on : (old new : LockedStore) (here : Entry) (view : List ℕ) (changes shown : List Change) → old.entered ≡ Some here → Moves old new here (length changes) → IsPrefix old.history new.history
    → Shows new.history here view changes → WasShown old shown → Small new.history → HasSmallCursor new → MovesOn old view changes new
moves_on old new here view changes shown there moves goes shows was small few =
    let log : List Change = changes_in here.mailbox new.history in
    let at : Entry = record here { handle = record here.handle { at = here.handle.at + length changes } } in
    let before = shown_to old.history old.entered here shown there was in
    let few_now = of_entry (λ (e : Entry). e.handle.at ≤ 2 ^ 62) new.entered at moves.there few in
    let within = moves.within in
    let inside : here.handle.at ≤ length log = omega (arith, within) in
    let some : List Change = take (length changes) (drop here.handle.at log) in
    let same : counted_by old ≡ view_at log here.handle.at =
    ap (counted_in old.history) there ∙ sym (view_grows (changes_in here.mailbox old.history) log here.handle.at (changes_grow here.mailbox old.history new.history goes) before.within) in
    let most = few_at log here.handle.at in
    let long = ap length shows.showed in record {
      met = shows.met ∙ sym same;
      goes = ap (counted_in new.history) moves.there ∙ ap (λ (cs : List Change). view_at log (here.handle.at + length cs)) shows.showed
          ∙ ap (λ (l : List Change). view_at l (here.handle.at + length some)) (sym (append-nil log)) ∙ view_then here.handle.at (length changes) log [] inside
          ∙ ap (λ (cs : List Change). replay (view_at log here.handle.at) cs) (sym shows.showed) ∙ ap (λ (xs : List ℕ). replay xs changes) (sym same);
      may = subst (λ (cs : List Change). MayShow (counted_by old) cs) (sym shows.showed) (subst (λ (xs : List ℕ). MayShow xs some) (sym same)
          (shows_fit log here.handle.at (length changes) (small.fits here.mailbox) (small.uids here.mailbox) (omega (arith, most, few_now, long))));
    }

sees_expunge : (old new : LockedStore) (call : Call) (view : List ℕ) (changes : List Change) (gone : ℕ) (shown : List Change) → ByHistory old call (Expunged view changes gone) new → IsPrefix old.history new.history
    → WasShown old shown → Small new.history → HasSmallCursor new → SeesSo old call (Expunged view changes gone) new
sees_expunge old new (Expunge uids) view changes gone shown h goes was small few =
    let on = moves_on old new h.0 view changes shown h.1 h.2.4 goes h.2.1 was small few in
    (record { leads = (on.met, on.goes); fits = on.may }, tt)
sees_expunge old new _ view changes gone shown h goes was small few = absurd h

sees_feed : (old new : LockedStore) (call : Call) (view : List ℕ) (changes : List Change) (shown : List Change) → ByHistory old call (Fed view changes) new → IsPrefix old.history new.history
    → WasShown old shown → Small new.history → HasSmallCursor new → SeesSo old call (Fed view changes) new
sees_feed old new (Feed limit) view changes shown h goes was small few =
    let on = moves_on old new h.0 view changes shown h.1 h.2.3 goes h.2.1 was small few in
    (record { leads = (on.met, on.goes); fits = on.may }, tt)
sees_feed old new _ view changes shown h goes was small few = absurd h

pub sees_call : (old new : LockedStore) (call : Call) (answer : Answer) (shown : List Change) → ByHistory old call answer new → WasShown old shown → HasSmallCursor old → Small new.history → SeesSo old call answer new
sees_call old new call answer shown h was at small = by answer h (by_history old new call answer shown h was).0 (small_call old new call answer h at)
  where
    by : (answer : Answer) → ByHistory old call answer new → IsPrefix old.history new.history → HasSmallCursor new → SeesSo old call answer new
    by (Entered opening) h goes few = sees_entry old new call opening h few
    by (Looked view) h goes few = sees_look old new call view h
    by (Found row) h goes few = sees_row old new call row shown h goes was
    by (Counted status) h goes few = sees_count old new call status shown h goes was
    by (Altered flags) h goes few = sees_flags old new call flags shown h goes was
    by (Expunged view changes gone) h goes few = sees_expunge old new call view changes gone shown h goes was small few
    by (Fed view changes) h goes few = sees_feed old new call view changes shown h goes was small few
    by (Left gone) h goes few = (record { leads = tt; fits = tt }, tt)
    by Discarded h goes few = sees_discard old new call shown h goes was
    by (Refused fault) h goes few = unmoved old new call fault h
    by (Starved n) h goes few = absurd (never old new call n h)

pub hears_held : (old new : LockedStore) (events : List Event) (shown : List Change) → Met ByHistory old events new → WasShown old shown → HasSmallCursor old → Small new.history → HearsAll (counted_by old) events (counted_by new)
hears_held old new [] shown met was at small = ap counted_by met
hears_held old new (event ∷ events) shown (mid, one, more) was at small =
    let b = by_history old mid event.call event.answer shown one was in
    let s = shown_by_history mid new events (shown_then shown event.answer) more b.1 in
    let sees = sees_call old mid event.call event.answer shown one was at (small_before mid.history new.history s.0 small) in
    (counted_by mid, sees.0, sees.1, hears_held mid new events (shown_then shown event.answer) more b.1 (small_call old mid event.call event.answer one at) small)

-- ---- turns

pub turn_held : (old new : LockedStore) (shown : List Change) (now : Standing) (happening : Happening) (turn : Turn) (client : Option Client) → WasShown old shown → HasSmallCursor old → Stands now
    → VerdictsArePrinted happening → Small new.history → leads_to now happening ≡ Some turn → Met ByHistory old turn.events new
    → IsRightAbout (counted_by old) client → IsRightAbout (counted_by new) (hears client (told_of now happening turn.bytes))
turn_held old new shown now happening turn client was at stands printed small e met right =
    let s = shown_by_history old new turn.events shown met was in
    turn_heard now (counted_by old) happening turn (counted_by new) client stands (numbered old (small_before old.history new.history s.0 small) at) printed e (hears_held old new turn.events shown met was at small) right

pub served_turn_is_known : ServedTurnIsKnown
served_turn_is_known old new shown now happening turn client was at stands printed legal e met right =
    turn_held old new shown now happening turn client was at stands printed (small_uids new.history legal) e met right

-- ---- a life

pub record StandsIn (now : Standing) (selection : LockedStore) : Type 0 where
  pub stands : Stands now
  pub shown : List Change
  pub was : WasShown selection shown
  pub at : HasSmallCursor selection

pub stands_in : (first : Standing) (began : LockedStore) {sent : List ℕ} {told : List Told} {now : Standing} {selection : LockedStore} → began.entered ≡ None → Stands first
    → Lived ByHistory first began sent told now selection → StandsIn now selection
stands_in first began none stands comes = record {
  stands = stands;
  shown = [];
  was = subst (λ (e : Option Entry). WasShownIn began.history e []) (sym none) refl;
  at = subst (λ (e : Option Entry). IfSome e (λ (here : Entry). here.handle.at ≤ 2 ^ 62)) (sym none) tt;
}
stands_in first began none stands (turns {now = now} {s = selection} lives happening bytes turn next timely sent printed e met) =
    let K = stands_in first began none stands lives in record {
      stands = stands_still now happening turn K.stands e;
      shown = shown_since K.shown turn.events;
      was = (shown_by_history selection next turn.events K.shown met K.was).1;
      at = cursors_stay_small selection next turn.events met K.at;
    }

pub served_lives : (first : Standing) (began : LockedStore) {sent : List ℕ} {told : List Told} {now : Standing} {selection : LockedStore} → began.entered ≡ None → Stands first → Small selection.history
    → Lived ByHistory first began sent told now selection → IsRightAbout (counted_by selection) (hears_all None told)
served_lives first began none stands small comes = tt
served_lives first began none stands small (turns {told = told} {now = now} {s = selection} lives happening bytes turn next timely sent printed e met) =
    let K = stands_in first began none stands lives in
    let s = shown_by_history selection next turn.events K.shown met K.was in
    let right = served_lives first began none stands (small_before selection.history next.history s.0 small) lives in
    subst (λ (c : Option Client). IsRightAbout (counted_by next) c) (sym (hears_last None told (told_of now happening turn.bytes)))
    (turn_held selection next K.shown now happening turn (hears_all None told) K.was K.at K.stands printed small e met right)

pub served_lives_are_known : ServedLivesAreKnown
served_lives_are_known first began sent told now selection none stands legal lives = served_lives first began none stands (small_uids selection.history legal) lives

-- ---- a Feed that shows all

-- as many were shown as were pending
all_were : (limit pending shown : ℕ) → shown ≡ min limit pending → pending ≤ 2 ^ 62 → (shown < limit) ⊎ (limit ≡ unlimited) → shown ≡ pending
all_were limit pending shown is few (inl less) = omega (arith, is, less)
all_were limit pending shown is few (inr all) = omega (arith, is, few, all)

pub feeds_reach_the_end : FeedsReachTheEnd
feeds_reach_the_end old new limit view changes shown was (here, there, (logs, shows, count, moves)) most =
    let few = logs.few in
    let within = moves.within in
    let all = all_were limit (length (changes_in here.mailbox new.history) - here.handle.at) (length changes) count (omega (arith, few)) most in
    to_entry (IsAtEnd new) new.entered (record here { handle = record here.handle { at = here.handle.at + length changes } }) moves.there (omega (arith, all, within))

-- ---- texts

pub served_texts_stay : ServedTextsStay
served_texts_stay before after m a b legal goes (i, in_i, text_i, was_i) (j, in_j, text_j, was_j) same =
    let event : house.Event = Judged i (Stored a.uid) was_i.0 in
    let later = subst (λ (h : List house.Event). Contains h event) goes.1 (Contains-append_left before goes.0 event was_i.1) in
    let under = subst (λ (uid : ℕ). WasStored after i uid) same (was_i.0, later) in
    let one = same_copy after i j b.uid legal under was_j (in_i ∙ sym in_j) in
    sym text_i ∙ ap (λ (k : Job). k.text) one ∙ text_j
