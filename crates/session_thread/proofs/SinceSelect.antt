-- What a session was shown, hold by hold, and what the history says of its mailbox.
use Rattle.std.proofs.Common.{◌≡◌, ℕ, zero, suc, ◌+◌, ◌-◌, ◌≤◌, Bool, true, false, List, ◌∷◌, ◌++◌, length, length-drop, take, drop, append-nil, arith, refl, sym, ap, ◌∙◌, subst, Option, Some, None, ◌==◌, [], if◌then◌else◌}
use Rattle.std.specs.Prelude.{IfSome}
use Rattle.std.proofs.lemmas.List.{append_assoc, drop-append-le, length-append, length-map, take-append-le}
use mathlib.Core.List.{IsPrefix}
use Rattle.change_ring.specs.declared.change.Change.{Change}
use Rattle.change_ring.specs.Log.{replay, view_at}
use Rattle.cursor_set.specs.Cursors.{CursorHandle, if_of, in_slot, Open}
use Rattle.mailbox.specs.declared.clients.Opening.{Opening}
use Rattle.mailbox.specs.declared.clients.Row.{Row}
use Rattle.mailbox.specs.Mailbox.{Mailbox, row_of, IsKept, Stands, next_of}
use Rattle.workers_sync.specs.Holds.{HasCursor, Reads}
use Rattle.house_history.specs.declared.event.Event as house
use Rattle.house_history.specs.declared.event.Step.TheVariants as steps
use Rattle.house_history.specs.Events.{changes_in}
use Rattle.house_history.proofs.Follow.{changes_grow}
use Rattle.house_history.proofs.Parts.{same}
use Rattle.locked_mailbox.specs.Locking.{Knows, LockedMailbox}
use Rattle.imap_session.specs.Exchange.{Answer, Enter, Look, Read, Count, Alter, Expunge, Feed, Leave, Discard, Entered, Looked, Found, Counted, Altered, Expunged, Fed, Left, Discarded, Refused}
use Rattle.session_thread.specs.declared.locked_store.Entry.{Entry}
use Rattle.session_thread.specs.Locks.{HasItsText, Held, Holds, In, LockedStore, entered_at, outside, says, says_nothing, seeing}
use Rattle.session_thread.proofs.Shown.{seen_view}
use Rattle.session_thread.specs.ByHistory.{IsUpToCursor, Opens, ShownByCall, ShownSinceSelect, Shows, Tells, WasShown, WasShownIn, shown_then}

-- ---- pieces of lists

whole : {A : Type 0} (xs : List A) → take (length xs) xs ≡ xs
whole [] = refl
whole (x ∷ xs) = ap (λ ys. x ∷ ys) (whole xs)

same_head : {A : Type 0} {x y : A} {xs ys : List A} → x ∷ xs ≡ y ∷ ys → x ≡ y
same_head e = cc

same_tail : {A : Type 0} {x y : A} {xs ys : List A} → x ∷ xs ≡ y ∷ ys → xs ≡ ys
same_tail e = cc

front_then : {A : Type 0} (log xs ys : List A) → xs ≡ take (length xs) log → ys ≡ take (length ys) (drop (length xs) log) → xs ++ ys ≡ take (length (xs ++ ys)) log
front_then log [] ys is next = next
front_then [] (x ∷ xs) ys is next = cc
front_then (l ∷ log) (x ∷ xs) ys is next = ap (λ y. y ∷ (xs ++ ys)) (same_head is) ∙ ap (λ zs. l ∷ zs) (front_then log xs ys (same_tail is) next)

none : {A : Type 0} (n : ℕ) → drop {A = A} n [] ≡ []
none zero = refl
none (suc n) = refl

further : {A : Type 0} (at n : ℕ) (log : List A) → drop (at + n) log ≡ drop n (drop at log)
further zero n log = let e : 0 + n ≡ n = omega arith in ap (λ (k : ℕ). drop k log) e
further (suc at) n [] = none (suc at + n) ∙ sym (none n)
further (suc at) n (l ∷ log) = let e : suc at + n ≡ suc (at + n) = omega arith in ap (λ (k : ℕ). drop k (l ∷ log)) e ∙ further at n log

-- two pieces that abut are one
two : {A : Type 0} (at : ℕ) (log xs ys : List A) → xs ≡ take (length xs) (drop at log) → ys ≡ take (length ys) (drop (at + length xs) log) → xs ++ ys ≡ take (length (xs ++ ys)) (drop at log)
two at log xs ys is next = front_then (drop at log) xs ys is (next ∙ ap (take (length ys)) (further at (length xs) log))

-- ---- a log that goes on

longer : {A : Type 0} (log all : List A) → IsPrefix log all → length log ≤ length all
longer log all goes = let e = ap length goes.1 in let l = length-append log goes.0 in omega (arith, e, l)

longer_view : (at : ℕ) (log all : List Change) (goes : IsPrefix log all) → at ≤ length log → view_at all at ≡ view_at log at
longer_view at log all goes within = ap (λ (l : List Change). view_at l at) (sym goes.1) ∙ ap (replay []) (take-append-le at log goes.0 within)

longer_next : (at n : ℕ) (log all : List Change) (goes : IsPrefix log all) → at ≤ length log → n ≤ length log - at → next_of all at n ≡ next_of log at n
longer_next at n log all goes within few = let d = length-drop at log in
    ap (take n) (ap (drop at) (sym goes.1) ∙ drop-append-le at log goes.0 within) ∙ take-append-le n (drop at log) goes.0 (omega (arith, d, few))

same_end : {A : Type 0} (xs : List A) → IsPrefix xs xs
same_end xs = ([], append-nil xs)

pub trans : {A : Type 0} (a b c : List A) → IsPrefix a b → IsPrefix b c → IsPrefix a c
trans a b c f g = (f.0 ++ g.0, sym (append_assoc a f.0 g.0) ∙ ap (λ xs. xs ++ g.0) f.1 ∙ g.1)

up_to : (before after : List house.Event) (here : Entry) (shown : List Change) → IsPrefix before after → IsUpToCursor before here shown → IsUpToCursor after here shown
up_to before after here shown goes was =
    let g = changes_grow here.mailbox before after goes in
    let l = longer (changes_in here.mailbox before) (changes_in here.mailbox after) g in
    let cursor = was.cursor in
    let within = was.within in record {
      handle = was.handle;
      cursor = was.cursor;
      within = omega (arith, l, within);
      changes = was.changes ∙ sym (longer_next here.start (length shown) (changes_in here.mailbox before) (changes_in here.mailbox after) g (omega (arith, cursor, within)) (omega (arith, cursor, within)));
    }

pub grows : (before after : List house.Event) (entered : Option Entry) (shown : List Change) → IsPrefix before after → WasShownIn before entered shown → WasShownIn after entered shown
grows before after None shown goes was = was
grows before after (Some here) shown goes was = up_to before after here shown goes was

-- ---- a hold

-- the log that the mailbox had when it was found is a first part of what the history says when the lock is let go
found_log_grows : (found left : LockedMailbox) (said before after : List house.Event) → Knows found left said before after
    → IsPrefix (changes_in found.mailbox.number found.events) (changes_in found.mailbox.number after)
found_log_grows found left said before after k =
    subst (λ (l : List Change). IsPrefix (changes_in found.mailbox.number found.events) l) (sym k.all)
    (changes_grow found.mailbox.number found.events left.events (said, sym k.events))

same_entry : {a b : Entry} → Some a ≡ Some b → a ≡ b
same_entry e = cc

pub at_entry : (h : List house.Event) (entered : Option Entry) (here : Entry) (shown : List Change) → entered ≡ Some here → WasShownIn h entered shown → IsUpToCursor h here shown
at_entry h entered here shown is was = subst (λ (e : Option Entry). WasShownIn h e shown) is was

pub told_at : (P : Entry → Type 0) (entered : Option Entry) (here : Entry) → entered ≡ Some here → P here → IfSome entered P
told_at P entered here is h = subst (λ (e : Option Entry). IfSome e P) (sym is) h

pub shown_at : (selection : LockedStore) (here : Entry) (shown : List Change) (history : List house.Event) → selection.entered ≡ Some here → selection.history ≡ history → IsUpToCursor history here shown → WasShown selection shown
shown_at selection here shown history is seen was =
    subst (λ (e : Option Entry). WasShownIn selection.history e shown) (sym is) (subst (λ (h : List house.Event). IsUpToCursor h here shown) (sym seen) was)

number_of : (b : Bool) (o : Option Open) (x : Open) → (if b then o else None) ≡ Some x → b ≡ true
number_of true o x e = refl
number_of false o x e = cc

-- the handle is of the mailbox that was found
pub of_number : (found : Mailbox) (handle : CursorHandle) (view : List ℕ) → IsKept found → HasCursor found handle view → found.number ≡ handle.number
of_number found handle view kept known =
    sym kept.handles ∙ same (found.cursors.number) handle.number
    (number_of (found.cursors.number == handle.number) (if_of handle (in_slot found.cursors handle.slot)) (record { serial = handle.serial; at = handle.at; view = view }) known.cursor)

abbrev Step : LockedStore → List Change → Answer → LockedStore → Type 0
Step old shown answer new = IsPrefix old.history new.history × Tells old answer new × WasShown new (shown_then shown answer)

pub rests : (old new : LockedStore) (shown : List Change) → new ≡ old → WasShown old shown → IsPrefix old.history new.history × Unit {0} × WasShown new shown
rests old new shown is was = (
  subst (λ (p : LockedStore). IsPrefix old.history p.history) (sym is) (same_end old.history),
  tt,
  subst (λ (p : LockedStore). WasShown p shown) (sym is) was,
)

learns : {T : Type 0} (old new : LockedStore) (shown : List Change) → new ≡ seeing old new.history → IsPrefix old.history new.history → T → WasShown old shown → IsPrefix old.history new.history × T × WasShown new shown
learns old new shown is longer told was =
    (longer, told, subst (λ (e : Option Entry). WasShownIn new.history e shown) (sym (ap (λ (p : LockedStore). p.entered) is)) (grows old.history new.history old.entered shown longer was))

looked : (old new : LockedStore) (view : List ℕ) (shown : List Change)
    → In old (λ here. (seen : List house.Event) × Held old.history seen says_nothing (λ found left. (left ≡ found) × IsKept found × HasCursor found here.handle view))
    → new ≡ old → WasShown old shown → IsPrefix old.history new.history × IfSome old.entered (λ here. Shows old.history here view []) × WasShown new shown
looked old new view shown (here, there, (seen, (found, left, (same_left, kept, known), k))) is was =
    let was_here = at_entry old.history old.entered here shown there was in
    let n : found.mailbox.number ≡ here.mailbox = of_number found.mailbox here.handle view kept known ∙ was_here.handle in
    let grown : IsPrefix (changes_in here.mailbox old.history) (changes_in here.mailbox seen) = changes_grow here.mailbox old.history seen k.goes_on in
    let found_in : IsPrefix (changes_in here.mailbox found.events) (changes_in here.mailbox seen) =
    subst (λ (m : ℕ). IsPrefix (changes_in m found.events) (changes_in m seen)) n (found_log_grows found left [] old.history seen k) in
    let stands : Stands found.mailbox (changes_in here.mailbox found.events) = subst (λ (m : ℕ). Stands found.mailbox (changes_in m found.events)) n k.found_log in
    let long = stands.window.long in
    let at = known.within in
    let within : here.handle.at ≤ length (changes_in here.mailbox found.events) = omega (arith, long, at) in
    let r = rests old new shown is was in (
      r.0,
      told_at (λ (e : Entry). Shows old.history e view []) old.entered here there (record {
        met = seen_view found.mailbox here.handle view (changes_in here.mailbox found.events) known stands
            ∙ sym (longer_view here.handle.at (changes_in here.mailbox found.events) (changes_in here.mailbox seen) found_in within)
            ∙ longer_view here.handle.at (changes_in here.mailbox old.history) (changes_in here.mailbox seen) grown was_here.within;
        showed = refl;
      }),
      r.2,
    )

found_row : (old new : LockedStore) (uid : ℕ) (mark : Bool) (row : Option Row) (shown : List Change)
    → In old (λ here. Held old.history new.history (says (steps.Read uid mark)) (λ found left. Reads found here.handle uid mark row left × HasItsText new.history found.number row))
    → new ≡ seeing old new.history → WasShown old shown → IsPrefix old.history new.history × IfSome old.entered (λ here. HasItsText new.history here.mailbox row) × WasShown new shown
found_row old new uid mark row shown (here, there, (found, left, (reads, text), k)) is was =
    let was_here = at_entry old.history old.entered here shown there was in
    let n : found.mailbox.number ≡ here.mailbox = of_number found.mailbox here.handle reads.known.0 reads.event.found_kept reads.known.1 ∙ was_here.handle in
    learns old new shown is k.goes_on (told_at (λ (e : Entry). HasItsText new.history e.mailbox row) old.entered here there (subst (λ (m : ℕ). HasItsText new.history m row) n text)) was

entered : (old new : LockedStore) (m : ℕ) (opening : Opening) (shown : List Change) → Holds old (Enter m) (Entered opening) new → Step old shown (Entered opening) new
entered old new m opening shown (nowhere, acceptor, (handle, (found, left, (number, enters), k), is), fits) =
    let here : Entry = record { mailbox = m; start = handle.at; handle = handle } in
    let there : new.entered ≡ Some here = ap (λ (p : LockedStore). p.entered) is in
    let stands : Stands found.mailbox (changes_in m new.history) = subst (λ (x : ℕ). Stands found.mailbox (changes_in x new.history)) number
    (subst (λ (l : List Change). Stands found.mailbox l) (sym (k.all ∙ ap (changes_in found.mailbox.number) (k.events ∙ append-nil found.events))) k.found_log) in
    let long = stands.window.long in
    let made_at = ap (λ (h : CursorHandle). h.at) enters.made in
    let end : handle.at ≡ length (changes_in m new.history) = made_at ∙ sym long in (
      k.goes_on,
      told_at (λ (e : Entry). Opens new.history e opening) new.entered here there (record {
        count = ap (λ (o : Opening). o.count) enters.tells ∙ sym (length-map found.mailbox.messages row_of) ∙ ap length stands.messages;
        start = end;
      }),
      shown_at new here [] new.history there refl (record {
        handle = ap (λ (h : CursorHandle). h.number) enters.made ∙ number;
        cursor = omega arith;
        within = omega (arith, end);
        changes = refl;
      }),
    )

-- what was shown up to the cursor, and then the next changes
pub further_on : (before after : List house.Event) (here : Entry) (next : CursorHandle) (shown changes : List Change) → IsPrefix before after → IsUpToCursor before here shown → next.number ≡ here.handle.number
    → next.at ≡ here.handle.at + length changes → next.at ≤ length (changes_in here.mailbox after) → changes ≡ next_of (changes_in here.mailbox after) here.handle.at (length changes)
    → IsUpToCursor after (record { mailbox = here.mailbox; start = here.start; handle = next }) (shown ++ changes)
further_on before after here next shown changes longer was number at within is =
    let was_here = up_to before after here shown longer was in
    let l = length-append shown changes in
    let cursor = was.cursor in record {
      handle = number ∙ was.handle;
      cursor = omega (arith, l, at, cursor);
      within = within;
      changes = two here.start (changes_in here.mailbox after) shown changes was_here.changes
          (subst (λ (k : ℕ). changes ≡ take (length changes) (drop k (changes_in here.mailbox after))) cursor is);
    }

shown_more : (old new : LockedStore) (here : Entry) (next : CursorHandle) (found left : LockedMailbox) (said : List house.Event) (view : List ℕ) (shown changes : List Change)
    → old.entered ≡ Some here → IsKept found.mailbox → HasCursor found.mailbox here.handle view → Knows found left said old.history new.history
    → view ≡ view_at (changes_in found.mailbox.number found.events) here.handle.at → changes ≡ next_of (changes_in found.mailbox.number found.events) here.handle.at (length changes)
    → here.handle.at + length changes ≤ length (changes_in found.mailbox.number found.events) → next ≡ record here.handle { at = here.handle.at + length changes }
    → new ≡ entered_at old here next new.history → WasShown old shown
    → IsPrefix old.history new.history × IfSome old.entered (λ e. Shows new.history e view changes) × WasShown new (shown ++ changes)
shown_more old new here next found left said view shown changes there kept known k viewed are few goes_on is was =
    let was_here = at_entry old.history old.entered here shown there was in
    let n : found.mailbox.number ≡ here.mailbox = of_number found.mailbox here.handle view kept known ∙ was_here.handle in
    let found_in : IsPrefix (changes_in here.mailbox found.events) (changes_in here.mailbox new.history) =
    subst (λ (m : ℕ). IsPrefix (changes_in m found.events) (changes_in m new.history)) n (found_log_grows found left said old.history new.history k) in
    let few_here : here.handle.at + length changes ≤ length (changes_in here.mailbox found.events) = subst (λ (m : ℕ). here.handle.at + length changes ≤ length (changes_in m found.events)) n few in
    let l = longer (changes_in here.mailbox found.events) (changes_in here.mailbox new.history) found_in in
    let within : here.handle.at ≤ length (changes_in here.mailbox found.events) = omega (arith, few_here) in
    let shows : Shows new.history here view changes = record {
      met = subst (λ (m : ℕ). view ≡ view_at (changes_in m found.events) here.handle.at) n viewed
          ∙ sym (longer_view here.handle.at (changes_in here.mailbox found.events) (changes_in here.mailbox new.history) found_in within);
      showed = subst (λ (m : ℕ). changes ≡ next_of (changes_in m found.events) here.handle.at (length changes)) n are
          ∙ sym (longer_next here.handle.at (length changes) (changes_in here.mailbox found.events) (changes_in here.mailbox new.history) found_in within (omega (arith, few_here)));
    } in
    let at = ap (λ (h : CursorHandle). h.at) goes_on in (
      k.goes_on,
      told_at (λ (e : Entry). Shows new.history e view changes) old.entered here there shows,
      shown_at new (record { mailbox = here.mailbox; start = here.start; handle = next }) (shown ++ changes) new.history (ap (λ (p : LockedStore). p.entered) is) refl
          (further_on old.history new.history here next shown changes k.goes_on was_here (ap (λ (h : CursorHandle). h.number) goes_on) at (omega (arith, at, few_here, l)) shows.showed),
    )

fed : (old new : LockedStore) (limit : ℕ) (view : List ℕ) (changes shown : List Change) → Holds old (Feed limit) (Fed view changes) new → WasShown old shown → Step old shown (Fed view changes) new
fed old new limit view changes shown (here, there, (next, (found, left, (feeds, shows), k), is)) was =
    let s = shows (changes_in found.mailbox.number found.events) k.found_log in
    let long = k.found_log.window.long in
    let known = feeds.known.within in
    let count = feeds.count in
    shown_more old new here next found left [] view shown changes there feeds.event.found_kept feeds.known k s.0 s.1 (omega (arith, long, known, count)) feeds.goes_on is was

expunged : (old new : LockedStore) (uids : Option (List ℕ)) (view : List ℕ) (changes : List Change) (gone : ℕ) (shown : List Change) → Holds old (Expunge uids) (Expunged view changes gone) new → WasShown old shown
    → Step old shown (Expunged view changes gone) new
expunged old new uids view changes gone shown (here, there, (next, (found, left, (does, shows), k), is)) was =
    let log : List Change = changes_in found.mailbox.number found.events in
    let s = shows log k.found_log in
    let long = k.found_log.window.long in
    let known = does.known.within in
    let count : length changes ≡ length log - here.handle.at = ap length s.1 ∙ length-drop here.handle.at log in
    let at : next ≡ record here.handle { at = here.handle.at + length changes } = does.goes_on
    ∙ ap (λ (n : ℕ). let h : CursorHandle = record { number = here.handle.number; slot = here.handle.slot; serial = here.handle.serial; at = n } in h) (omega (arith, long, known, count)) in
    shown_more old new here next found left (says (steps.Expunge uids) found.mailbox.number) view shown changes there does.event.found_kept does.known k s.0 (sym (whole changes) ∙ ap (take (length changes)) s.1)
    (omega (arith, long, known, count)) at is was

left : (old new : LockedStore) → new ≡ outside old new.history → IsPrefix old.history new.history → IsPrefix old.history new.history × Unit {0} × WasShown new []
left old new is longer = (longer, tt, subst (λ (e : Option Entry). WasShownIn new.history e []) (sym (ap (λ (p : LockedStore). p.entered) is)) refl)

-- ---- each call

pub by_call : ShownByCall
by_call old new (Enter m) (Entered opening) shown h w = entered old new m opening shown h
by_call old new (Enter m) (Refused fault) shown h w = rests old new shown h.0 w
by_call old new (Look by_uid set) (Looked view) shown h w = looked old new view shown h.1 h.0 w
by_call old new (Look by_uid set) (Refused fault) shown h w = rests old new shown h.0 w
by_call old new (Read uid mark) (Found row) shown h w = found_row old new uid mark row shown h.1 h.0 w
by_call old new (Read uid mark) (Refused fault) shown h w = rests old new shown h.0 w
by_call old new (Count m) (Counted status) shown h w = learns old new shown h.0 h.2.3.goes_on tt w
by_call old new (Count m) (Refused fault) shown h w = rests old new shown h.0 w
by_call old new (Alter uid op) (Altered flags) shown h w = learns old new shown h.0 h.1.2.3.goes_on tt w
by_call old new (Alter uid op) (Refused fault) shown h w = rests old new shown h.0 w
by_call old new (Expunge uids) (Expunged view changes gone) shown h w = expunged old new uids view changes gone shown h w
by_call old new (Expunge uids) (Refused fault) shown h w = rests old new shown h.0 w
by_call old new (Feed limit) (Fed view changes) shown h w = fed old new limit view changes shown h w
by_call old new (Feed limit) (Refused fault) shown h w = rests old new shown h.0 w
by_call old new (Leave remove) (Left gone) shown h w = left old new h.1 h.0.2.3.goes_on
by_call old new (Leave remove) (Refused fault) shown h w = rests old new shown h.0 w
by_call old new (Discard m uids) Discarded shown h w = learns old new shown h.0 h.2.3.goes_on tt w
by_call old new (Discard m uids) (Refused fault) shown h w = rests old new shown h.0 w
by_call old new _ _ shown h w = elim h [ ]

-- ---- all of them

pub since_select : ShownSinceSelect
since_select old new [] shown met was = let r = rests old new shown met was in (r.0, r.2)
since_select old new (event ∷ events) shown met was =
    let a = by_call old met.0 event.call event.answer shown met.1 was in
    let b = since_select met.0 new events (shown_then shown event.answer) met.2 a.2 in
    (trans old.history met.0.history new.history a.0 b.0, b.1)
