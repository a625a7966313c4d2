-- What a hold of a lock says of a mailbox, by the history alone.
use Rattle.std.proofs.Common.{◌≡◌, ℕ, ◌+◌, ◌-◌, ◌^◌, ◌≤◌, ◌==◌, Bool, true, false, List, [], ◌∷◌, ◌++◌, length, min, append-nil, arith, eqb-true, map, refl, sym, ap, ◌∙◌, subst, Option, Some, None, if◌then◌else◌}
use Rattle.std.specs.Prelude.{IfSome}
use Rattle.std.specs.List.{find}
use Rattle.std.specs.Option.{option_map}
use Rattle.std.proofs.lemmas.List.{length-drop, length-map}
use mathlib.Core.List.{IsPrefix}
use Rattle.change_ring.specs.declared.change.Change.{Change}
use Rattle.change_ring.specs.declared.change.Flags.{Flags}
use Rattle.change_ring.specs.Log as change
use Rattle.change_ring.specs.Log.{rows_of, removals, removals_if, seen_logged, total}
use Rattle.cursor_set.specs.Cursors.{CursorHandle}
use Rattle.mailbox.specs.declared.clients.Opening.{Opening}
use Rattle.mailbox.specs.declared.clients.Row.{Row}
use Rattle.mailbox.specs.Events.{in_set, was_logged}
use Rattle.mailbox.specs.Mailbox.{Mailbox, Message, message_with, row_of, IsKept, Stands}
use Rattle.house_history.specs.declared.event.Event as house
use Rattle.house_history.specs.declared.event.Step.TheVariants as steps
use Rattle.house_history.specs.Events.{changes_in, concerns}
use Rattle.shared_history.specs.Pages.{part}
use Rattle.locked_mailbox.specs.Locking.{Knows, LockedMailbox}
use Rattle.imap_session.specs.Exchange.{Answer, Call, Enter, Look, Read, Count, Alter, Expunge, Feed, Leave, Discard, Entered, Looked, Found, Counted, Altered, Expunged, Fed, Left, Discarded, Refused, Starved}
use Rattle.session_thread.specs.declared.locked_store.Entry.{Entry}
use Rattle.session_thread.specs.Locks.{HasItsText, Holds, LockedStore, entered_at, says, says_nothing, seeing}
use Rattle.session_thread.specs.ByHistory.{Opens, Shows, WasShown, WasShownIn, shown_then, ByHistory, Comes, HoldsAreByHistory, Logs, Moves, ShownByHistory, flags_in}
use Rattle.session_thread.proofs.SinceSelect.{at_entry, by_call, further_on, grows, of_number, rests, shown_at, trans}

-- ---- a hold

of_entry : (P : Entry → Type 0) (entered : Option Entry) (here : Entry) → entered ≡ Some here → IfSome entered P → P here
of_entry P entered here is h = subst (λ (e : Option Entry). IfSome e P) is h

entered_of : (old new : LockedStore) → new ≡ seeing old new.history → new.entered ≡ old.entered
entered_of old new is = ap (λ (p : LockedStore). p.entered) is

-- the log that the history leaves is the one of the mailbox that was left
log_left : (found left : LockedMailbox) (said before after : List house.Event) (m : ℕ) → Knows found left said before after → found.mailbox.number ≡ m → Stands left.mailbox (changes_in m after)
log_left found left said before after m k n =
    subst (λ (x : ℕ). Stands left.mailbox (changes_in x after)) n (subst (λ (l : List Change). Stands left.mailbox l) (sym k.all) k.left_log)

few_left : (found left : LockedMailbox) (said before after : List house.Event) (m : ℕ) → Knows found left said before after → found.mailbox.number ≡ m → IsKept left.mailbox → length (changes_in m after) ≤ 2 ^ 62
few_left found left said before after m k n kept =
    let long = (log_left found left said before after m k n).window.long in
    let few = kept.few in omega (arith, long, few)

abbrev logs_said : (old new : LockedStore) (found left : LockedMailbox) (said : ℕ → List house.Event) (m : ℕ) → Knows found left (said found.mailbox.number) old.history new.history → found.mailbox.number ≡ m
    → IsKept left.mailbox → new.mailboxes ≡ old.mailboxes → Logs old new m (said m)
logs_said old new found left said m k n kept same = record {
  goes_on = k.goes_on;
  mailboxes = same;
  found = found.events;
  seen = subst (λ (x : ℕ). IsPrefix (part concerns x old.history) found.events) n k.seen;
  own = subst (λ (x : ℕ). part concerns x new.history ≡ found.events ++ said x) n (k.own ∙ k.events);
  few = few_left found left (said found.mailbox.number) old.history new.history m k n kept;
}

-- nothing was done
same_log : (found left : LockedMailbox) (before after : List house.Event) → Knows found left [] before after → changes_in found.mailbox.number after ≡ changes_in found.mailbox.number found.events
same_log found left before after k = k.all ∙ ap (changes_in found.mailbox.number) (k.events ∙ append-nil found.events)

-- the rows of the mailbox that was found are those that its log leaves
rows_found : (found left : LockedMailbox) (said before after : List house.Event) (m : ℕ) → Knows found left said before after → found.mailbox.number ≡ m
    → map row_of found.mailbox.messages ≡ rows_of (changes_in m found.events)
rows_found found left said before after m k n = subst (λ (x : ℕ). map row_of found.mailbox.messages ≡ rows_of (changes_in x found.events)) n k.found_log.messages

-- ---- a row

row_flags : (uid : ℕ) (messages : List Message) → option_map (λ (row : change.Row). row.flags) (find (λ (row : change.Row). row.uid == uid) (map row_of messages))
    ≡ option_map (λ (m : Message). m.flags) (message_with uid messages)
row_flags uid [] = refl
row_flags uid (m ∷ messages) = by (m.uid == uid) (row_flags uid messages)
  where
    rest : Option change.Row
    rest = find (λ (row : change.Row). row.uid == uid) (map row_of messages)

    by : (b : Bool) → option_map (λ (row : change.Row). row.flags) rest ≡ option_map (λ (m : Message). m.flags) (message_with uid messages)
        → option_map (λ (row : change.Row). row.flags) (if b then Some (row_of m) else rest) ≡ option_map (λ (m : Message). m.flags) (if b then Some m else message_with uid messages)
    by true more = refl
    by false more = more

-- by a log that leaves these messages
flags_left : (uid : ℕ) (left : Mailbox) (log : List Change) → Stands left log → option_map (λ (m : Message). m.flags) (message_with uid left.messages) ≡ flags_in uid log
flags_left uid left log stands =
    sym (row_flags uid left.messages) ∙ ap (λ (rows : List change.Row). option_map (λ (row : change.Row). row.flags) (find (λ (row : change.Row). row.uid == uid) rows)) stands.messages

flags_told : (f : Message → Row) (o : Option Message) → ((m : Message) → (f m).flags ≡ m.flags) → option_map (λ (row : Row). row.flags) (option_map f o) ≡ option_map (λ (m : Message). m.flags) o
flags_told f None same = refl
flags_told f (Some m) same = ap (λ (x : Flags). Some x) (same m)

uid_told : (uid : ℕ) (f : Message → Row) (messages : List Message) → ((m : Message) → (f m).uid ≡ m.uid) → IfSome (option_map f (message_with uid messages)) (λ row. row.uid ≡ uid)
uid_told uid f [] same = tt
uid_told uid f (m ∷ messages) same = by (m.uid == uid) refl (uid_told uid f messages same)
  where
    by : (b : Bool) → (m.uid == uid) ≡ b → IfSome (option_map f (message_with uid messages)) (λ row. row.uid ≡ uid)
        → IfSome (option_map f (if b then Some m else message_with uid messages)) (λ row. row.uid ≡ uid)
    by true is more = same m ∙ eqb-true m.uid uid is
    by false is more = more

seen_told : (seen : Bool) (f : Message → Row) (o : Option Message) → ((m : Message) → (f m).newly_seen ≡ seen) → IfSome (option_map f o) (λ row. row.newly_seen ≡ seen)
seen_told seen f None same = tt
seen_told seen f (Some m) same = same m

of_mailboxes : (old new : LockedStore) → new ≡ seeing old new.history → new.mailboxes ≡ old.mailboxes
of_mailboxes old new is = ap (λ (p : LockedStore). p.mailboxes) is

read_row : (old new : LockedStore) (uid : ℕ) (mark : Bool) (row : Option Row) (shown : List Change) → Holds old (Read uid mark) (Found row) new → WasShown old shown → ByHistory old (Read uid mark) (Found row) new
read_row old new uid mark row shown (is, (here, there, (found, left, (reads, text), k)), fits) was =
    let was_here = at_entry old.history old.entered here shown there was in
    let n : found.mailbox.number ≡ here.mailbox = of_number found.mailbox here.handle reads.known.0 reads.event.found_kept reads.known.1 ∙ was_here.handle in
    let log : List Change = changes_in here.mailbox new.history in
    let stands : Stands left.mailbox log = log_left found left _ old.history new.history here.mailbox k n in (
      entered_of old new is,
      (
        here,
        there,
        (
          logs_said old new found left (says (steps.Read uid mark)) here.mailbox k n reads.event.left_kept (of_mailboxes old new is),
          record {
            uid_of = subst (λ (r : Option Row). IfSome r (λ one. one.uid ≡ uid)) (sym reads.answers) (uid_told uid _ left.mailbox.messages (λ m. refl));
            text = subst (λ (m : ℕ). HasItsText new.history m row) n text;
            flags = ap (λ (r : Option Row). option_map (λ (one : Row). one.flags) r) reads.answers ∙ flags_told _ (message_with uid left.mailbox.messages) (λ m. refl)
                ∙ flags_left uid left.mailbox log stands;
            fits = fits;
          },
          subst (λ (r : Option Row). IfSome r (λ one. one.newly_seen ≡ was_logged (seen_logged mark (rows_of (changes_in here.mailbox found.events)) uid))) (sym reads.answers)
              (seen_told (was_logged (seen_logged mark (rows_of (changes_in here.mailbox found.events)) uid)) _ (message_with uid left.mailbox.messages)
              (λ m. ap (λ (rows : List change.Row). was_logged (seen_logged mark rows uid)) (rows_found found left _ old.history new.history here.mailbox k n))),
        ),
      ),
    )

altered : (old new : LockedStore) (uid : ℕ) (op : _) (flags : Option Flags) (shown : List Change) → Holds old (Alter uid op) (Altered flags) new → WasShown old shown → ByHistory old (Alter uid op) (Altered flags) new
altered old new uid op flags shown (is, (here, there, (found, left, alters, k))) was =
    let was_here = at_entry old.history old.entered here shown there was in
    let n : found.mailbox.number ≡ here.mailbox = of_number found.mailbox here.handle alters.known.0 alters.event.found_kept alters.known.1 ∙ was_here.handle in
    let stands : Stands left.mailbox (changes_in here.mailbox new.history) = log_left found left _ old.history new.history here.mailbox k n in (
      entered_of old new is,
      (
        here,
        there,
        (
          logs_said old new found left (says (steps.Alter uid op)) here.mailbox k n alters.event.left_kept (of_mailboxes old new is),
          alters.answers ∙ flags_left uid left.mailbox (changes_in here.mailbox new.history) stands,
        ),
      ),
    )

-- ---- entering, and what is shown

comes : (old new : LockedStore) (m : ℕ) (opening : Opening) (shown : List Change) → Holds old (Enter m) (Entered opening) new → WasShown old shown → ByHistory old (Enter m) (Entered opening) new
comes old new m opening shown h was =
    let told = (by_call old new (Enter m) (Entered opening) shown h was).1 in
    enters h told
  where
    enters : Holds old (Enter m) (Entered opening) new → IfSome new.entered (λ (e : Entry). Opens new.history e opening) → ByHistory old (Enter m) (Entered opening) new
    enters (nowhere, acceptor, (handle, (found, left, (number, does), k), is), fits) told =
        let here : Entry = record { mailbox = m; start = handle.at; handle = handle } in
        let there : new.entered ≡ Some here = ap (λ (p : LockedStore). p.entered) is in (
          nowhere,
          here,
          record {
            there = there;
            acceptor = acceptor;
            mailbox = refl;
            number = ap (λ (h : CursorHandle). h.number) does.made ∙ number;
            cursor = refl;
            logs = logs_said old new found left says_nothing m k number does.event.left_kept (ap (λ (p : LockedStore). p.mailboxes) is);
            opens = of_entry (λ (e : Entry). Opens new.history e opening) new.entered here there told;
            fits = fits;
          },
        )

-- its cursor went over what was shown
moves_over : (old new : LockedStore) (here : Entry) (next : CursorHandle) (shown changes : List Change) → new ≡ entered_at old here next new.history → next ≡ record here.handle { at = here.handle.at + length changes }
    → WasShown new (shown ++ changes) → Moves old new here (length changes)
moves_over old new here next shown changes is goes_on now =
    let at : Entry = record { mailbox = here.mailbox; start = here.start; handle = next } in
    let there : new.entered ≡ Some at = ap (λ (p : LockedStore). p.entered) is in
    let within = (at_entry new.history new.entered at (shown ++ changes) there now).within in
    let same = ap (λ (h : CursorHandle). h.at) goes_on in record {
      there = there ∙ ap (λ (h : CursorHandle). Some (record here { handle = h })) goes_on;
      within = omega (arith, within, same);
    }

fed : (old new : LockedStore) (limit : ℕ) (view : List ℕ) (changes shown : List Change) → Holds old (Feed limit) (Fed view changes) new → WasShown old shown → ByHistory old (Feed limit) (Fed view changes) new
fed old new limit view changes shown h was = let b = by_call old new (Feed limit) (Fed view changes) shown h was in shows h b.1 b.2
  where
    shows : Holds old (Feed limit) (Fed view changes) new → IfSome old.entered (λ (e : Entry). Shows new.history e view changes) → WasShown new (shown ++ changes) → ByHistory old (Feed limit) (Fed view changes) new
    shows (here, there, (next, (found, left, (feeds, of_log), k), is)) told now =
        let was_here = at_entry old.history old.entered here shown there was in
        let n : found.mailbox.number ≡ here.mailbox = of_number found.mailbox here.handle view feeds.event.found_kept feeds.known ∙ was_here.handle in
        let long : length (changes_in here.mailbox new.history) ≡ total found.mailbox.window =
        subst (λ (m : ℕ). length (changes_in m new.history) ≡ total found.mailbox.window) n (ap length (same_log found left old.history new.history k) ∙ k.found_log.window.long) in (
          here,
          there,
          (
            logs_said old new found left says_nothing here.mailbox k n feeds.event.left_kept (ap (λ (p : LockedStore). p.mailboxes) is),
            of_entry (λ (e : Entry). Shows new.history e view changes) old.entered here there told,
            feeds.count ∙ ap (λ (t : ℕ). min limit (t - here.handle.at)) (sym long),
            moves_over old new here next shown changes is feeds.goes_on now,
          ),
        )

expunged : (old new : LockedStore) (uids : Option (List ℕ)) (view : List ℕ) (changes : List Change) (gone : ℕ) (shown : List Change) → Holds old (Expunge uids) (Expunged view changes gone) new → WasShown old shown
    → ByHistory old (Expunge uids) (Expunged view changes gone) new
expunged old new uids view changes gone shown h was = let b = by_call old new (Expunge uids) (Expunged view changes gone) shown h was in shows h b.1 b.2
  where
    shows : Holds old (Expunge uids) (Expunged view changes gone) new → IfSome old.entered (λ (e : Entry). Shows new.history e view changes) → WasShown new (shown ++ changes)
        → ByHistory old (Expunge uids) (Expunged view changes gone) new
    shows (here, there, (next, (found, left, (does, of_log), k), is)) told now =
        let was_here = at_entry old.history old.entered here shown there was in
        let n : found.mailbox.number ≡ here.mailbox = of_number found.mailbox here.handle view does.event.found_kept does.known ∙ was_here.handle in
        let log : List Change = changes_in found.mailbox.number found.events in
        let long = k.found_log.window.long in
        let known = does.known.within in
        let count : length changes ≡ length log - here.handle.at = ap length (of_log log k.found_log).1 ∙ length-drop here.handle.at log in
        let all : here.handle.at + length changes ≡ length log = omega (arith, long, known, count) in
        let at : next ≡ record here.handle { at = here.handle.at + length changes } = does.goes_on
        ∙ ap (λ (n : ℕ). let h : CursorHandle = record { number = here.handle.number; slot = here.handle.slot; serial = here.handle.serial; at = n } in h) (omega (arith, long, all)) in (
          here,
          there,
          (
            logs_said old new found left (says (steps.Expunge uids)) here.mailbox k n does.event.left_kept (ap (λ (p : LockedStore). p.mailboxes) is),
            of_entry (λ (e : Entry). Shows new.history e view changes) old.entered here there told,
            subst (λ (m : ℕ). here.handle.at + length changes ≡ length (changes_in m found.events)) n all,
            does.went ∙ ap (λ (rows : List change.Row). length (removals (in_set uids) rows)) (rows_found found left _ old.history new.history here.mailbox k n),
            moves_over old new here next shown changes is at now,
          ),
        )

looked : (old new : LockedStore) (call : Call) (view : List ℕ) (shown : List Change) → Holds old call (Looked view) new → WasShown old shown → ByHistory old call (Looked view) new
looked old new (Look by_uid set) view shown h was =
    let told = (by_call old new (Look by_uid set) (Looked view) shown h was).1 in
    let here : Entry = h.1.0 in
    (h.0, (here, h.1.1, (of_entry (λ (e : Entry). Shows old.history e view []) old.entered here h.1.1 told).met))
looked old new _ view shown h was = absurd h

counted : (old new : LockedStore) (call : Call) (status : _) → Holds old call (Counted status) new → ByHistory old call (Counted status) new
counted old new (Count m) status (is, acceptor, (found, left, (number, same, counts), k), fits) =
    let kept : IsKept left.mailbox = subst IsKept (sym same) counts.kept in
    let stands : Stands left.mailbox (changes_in m new.history) = log_left found left [] old.history new.history m k number in (
      entered_of old new is,
      acceptor,
      logs_said old new found left says_nothing m k number kept (of_mailboxes old new is),
      ap (λ s. s.messages) counts.tells ∙ ap (λ (b : Mailbox). length b.messages) (sym same) ∙ sym (length-map left.mailbox.messages row_of) ∙ ap length stands.messages,
      fits,
    )
counted old new _ status h = absurd h

leaves : (old new : LockedStore) (call : Call) (gone : ℕ) (shown : List Change) → Holds old call (Left gone) new → WasShown old shown → ByHistory old call (Left gone) new
leaves old new (Leave remove) gone shown ((here, there, (found, left, does, k)), is) was =
    let was_here = at_entry old.history old.entered here shown there was in
    let n : found.mailbox.number ≡ here.mailbox = of_number found.mailbox here.handle does.known.0 does.event.found_kept does.known.1 ∙ was_here.handle in (
      ap (λ (p : LockedStore). p.entered) is,
      (
        here,
        there,
        (
          logs_said old new found left (says (steps.Leave remove)) here.mailbox k n does.event.left_kept (ap (λ (p : LockedStore). p.mailboxes) is),
          does.went ∙ ap (λ (rows : List change.Row). length (removals_if remove rows)) (rows_found found left _ old.history new.history here.mailbox k n),
        ),
      ),
    )
leaves old new _ gone shown h was = absurd h

discarded : (old new : LockedStore) (call : Call) → Holds old call Discarded new → ByHistory old call Discarded new
discarded old new (Discard m uids) (is, acceptor, (found, left, (number, does), k)) =
    (entered_of old new is, acceptor, logs_said old new found left (says (steps.Discard uids)) m k number does.left_kept (of_mailboxes old new is))
discarded old new _ h = absurd h

-- a refused call leaves the session as it was
pub refused : (old new : LockedStore) (call : Call) (fault : _) → Holds old call (Refused fault) new → new ≡ old
refused old new (Enter m) fault h = h.0
refused old new (Look by_uid set) fault h = h.0
refused old new (Read uid mark) fault h = h.0
refused old new (Count m) fault h = h.0
refused old new (Alter uid op) fault h = h.0
refused old new (Expunge uids) fault h = h.0
refused old new (Feed limit) fault h = h.0
refused old new (Leave remove) fault h = h.0
refused old new (Discard m uids) fault h = h.0

pub never : (old new : LockedStore) (call : Call) (n : ℕ) → Holds old call (Starved n) new → ⊥
never old new (Enter m) n h = h
never old new _ n h = h

pub holds_are_by_history : HoldsAreByHistory
holds_are_by_history old new call (Refused fault) shown h was = refused old new call fault h
holds_are_by_history old new (Enter m) (Entered opening) shown h was = comes old new m opening shown h was
holds_are_by_history old new call (Looked view) shown h was = looked old new call view shown h was
holds_are_by_history old new (Read uid mark) (Found row) shown h was = read_row old new uid mark row shown h was
holds_are_by_history old new call (Counted status) shown h was = counted old new call status h
holds_are_by_history old new (Alter uid op) (Altered flags) shown h was = altered old new uid op flags shown h was
holds_are_by_history old new (Expunge uids) (Expunged view changes gone) shown h was = expunged old new uids view changes gone shown h was
holds_are_by_history old new (Feed limit) (Fed view changes) shown h was = fed old new limit view changes shown h was
holds_are_by_history old new call (Left gone) shown h was = leaves old new call gone shown h was
holds_are_by_history old new call Discarded shown h was = discarded old new call h
holds_are_by_history old new call (Starved n) shown h was = absurd (never old new call n h)
holds_are_by_history old new _ _ shown h was = absurd h

-- ---- what was shown since SELECT

abbrev Goes : LockedStore → LockedStore → List Change → Type 0
Goes old new shown = IsPrefix old.history new.history × WasShown new shown

goes_still : (old new : LockedStore) (shown : List Change) → new ≡ old → WasShown old shown → Goes old new shown
goes_still old new shown is was = let r = rests old new shown is was in (r.0, r.2)

goes_there : (old new : LockedStore) (shown : List Change) → new.entered ≡ old.entered → IsPrefix old.history new.history → WasShown old shown → Goes old new shown
goes_there old new shown same longer was =
    (longer, subst (λ (e : Option Entry). WasShownIn new.history e shown) (sym same) (grows old.history new.history old.entered shown longer was))

goes_over : (old new : LockedStore) (here : Entry) (view : List ℕ) (shown changes : List Change) → old.entered ≡ Some here → IsPrefix old.history new.history → Shows new.history here view changes
    → Moves old new here (length changes) → WasShown old shown → Goes old new (shown ++ changes)
goes_over old new here view shown changes there longer shows moves was =
    let next : CursorHandle = record here.handle { at = here.handle.at + length changes } in
    let within = moves.within in (
      longer,
      shown_at new (record { mailbox = here.mailbox; start = here.start; handle = next }) (shown ++ changes) new.history moves.there refl
          (further_on old.history new.history here next shown changes longer (at_entry old.history old.entered here shown there was) refl refl within shows.showed),
    )

goes_in : (old new : LockedStore) (m : ℕ) (opening : Opening) (here : Entry) → Comes old new m opening here → Goes old new []
goes_in old new m opening here c =
    let start = c.opens.start in
    let cursor = c.cursor in (
      c.logs.goes_on,
      shown_at new here [] new.history c.there refl
          (record { handle = c.number ∙ sym c.mailbox; cursor = omega (arith, cursor); within = omega (arith, cursor, start); changes = refl }),
    )

goes_out : (old new : LockedStore) → new.entered ≡ None → IsPrefix old.history new.history → Goes old new []
goes_out old new none longer = (longer, subst (λ (e : Option Entry). WasShownIn new.history e []) (sym none) refl)

pub by_history : (old new : LockedStore) (call : Call) (answer : Answer) (shown : List Change) → ByHistory old call answer new → WasShown old shown → Goes old new (shown_then shown answer)
by_history old new call (Refused fault) shown h was = goes_still old new shown h was
by_history old new (Enter m) (Entered opening) shown h was = goes_in old new m opening h.1 h.2
by_history old new (Look by_uid set) (Looked view) shown h was = goes_still old new shown h.0 was
by_history old new (Read uid mark) (Found row) shown h was = goes_there old new shown h.0 h.1.2.0.goes_on was
by_history old new (Count m) (Counted status) shown h was = goes_there old new shown h.0 h.2.goes_on was
by_history old new (Alter uid op) (Altered flags) shown h was = goes_there old new shown h.0 h.1.2.0.goes_on was
by_history old new (Expunge uids) (Expunged view changes gone) shown h was = goes_over old new h.0 view shown changes h.1 h.2.0.goes_on h.2.1 h.2.4 was
by_history old new (Feed limit) (Fed view changes) shown h was = goes_over old new h.0 view shown changes h.1 h.2.0.goes_on h.2.1 h.2.3 was
by_history old new (Leave remove) (Left gone) shown h was = goes_out old new h.0 h.1.2.0.goes_on
by_history old new (Discard m uids) Discarded shown h was = goes_there old new shown h.0 h.2.goes_on was
by_history old new _ _ shown h was = absurd h

pub shown_by_history : ShownByHistory
shown_by_history old new [] shown met was = goes_still old new shown met was
shown_by_history old new (event ∷ events) shown met was =
    let a = by_history old met.0 event.call event.answer shown met.1 was in
    let b = shown_by_history met.0 new events (shown_then shown event.answer) met.2 a.1 in
    (trans old.history met.0.history new.history a.0 b.0, b.1)
