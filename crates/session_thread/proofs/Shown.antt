-- What a session was shown under a lock, as a call of its store.
use Rattle.std.proofs.Common.{◌≡◌, inl, inr, ℕ, ◌<◌, ◌≤◌, Bool, false, List, [], length, take, drop, refl, sym, ap, ◌∙◌, subst, Result, Ok, Err, Option, Some, None, is_some}
use Rattle.std.specs.Prelude.{◌⊎◌, IfErr, IfOk}
use Rattle.change_ring.specs.declared.change.Change.{Change}
use Rattle.change_ring.specs.declared.change.Flags.{Flags}
use Rattle.change_ring.specs.declared.flag_op.FlagOp.{FlagOp}
use Rattle.change_ring.specs.Log.{view_at}
use Rattle.change_ring.proofs.WindowLaws.{changes_from-log}
use Rattle.cursor_set.specs.Cursors.{Open, CursorHandle}
use Rattle.cursor_set.proofs.OpenedLemmas.{held_in_slot}
use Rattle.mailbox.specs.declared.clients.MailFault.{MailFault}
use Rattle.mailbox.specs.declared.clients.MailFault.TheVariants.{Lapped, NoMemory, Spent, Stranger}
use Rattle.mailbox.specs.declared.clients.Row.{Row}
use Rattle.mailbox.specs.declared.mailbox.Status.{Status}
use Rattle.mailbox.specs.Mailbox.{Mailbox, Stands, next_of}
use Rattle.workers_sync.specs.Holds.{DoesAlter, DoesDiscard, DoesExpunge, DoesFeed, DoesRead, Expunges as DidExpunge, Feeds as DidFeed, HasCursor}
use Rattle.house_history.specs.declared.event.Event.{Event}
use Rattle.house_history.specs.declared.event.Event.TheVariants.{Changed}
use Rattle.house_history.specs.declared.event.Step.TheVariants as steps
use Rattle.locked_mailbox.specs.Locking.{Knows, on_ok}
use Rattle.imap_session.specs.Exchange.{Alter, Altered, Answer, Count, Counted, Discard, Feed, Expunge, Found, Read}
use Rattle.imap_session.specs.Store.{Discards, Feeds, Expunges, answer}
use Rattle.session_thread.specs.declared.locked_store.Entry.{Entry}
use Rattle.session_thread.specs.Locks.{DoesCountAt, DoesDiscardAt, HasItsText, HasRow, HasStatus, Held, Holds, LockedStore, ShowsOf, StaysOut, another_there, entered_at, not_let_in, refused_here, says, says_nothing, seeing}
use Rattle.session_thread.specs.inner.Entering.{DoesEnterAt, seen_behind}

-- ---- of the log

-- what a handle's client counts is the log's
pub seen_view : (found : Mailbox) (handle : CursorHandle) (view : List ℕ) (log : List Change) → HasCursor found handle view → Stands found log → view ≡ view_at log handle.at
seen_view found handle view log s is =
    let o : Open = record { serial = handle.serial; at = handle.at; view = view } in
    (is.cursors handle.slot o (held_in_slot found.cursors handle o s.cursor)).view

fed_of : (found left : Mailbox) (handle next : CursorHandle) (limit : ℕ) (view : List ℕ) (changes : List Change) → DidFeed found handle limit view changes left next
    → ShowsOf found handle view changes (λ log. next_of log handle.at (length changes))
fed_of found left handle next limit view changes f log is =
    (seen_view found handle view log f.known is, f.shown ∙ ap (take (length changes)) (changes_from-log found.window log handle.at is.window f.current))

expunged_of : (found left : Mailbox) (handle next : CursorHandle) (uids : Option (List ℕ)) (view : List ℕ) (changes : List Change) (gone : ℕ) → DidExpunge found handle uids view changes gone left next
    → ShowsOf found handle view changes (drop handle.at)
expunged_of found left handle next uids view changes gone e log is =
    (seen_view found handle view log e.known is, e.shown ∙ changes_from-log found.window log handle.at is.window e.current)

-- ---- the calls

pub is_nowhere : (x : Option Entry) (b : Bool) → b ≡ is_some x → b ≡ false → x ≡ None
is_nowhere None b e f = refl
is_nowhere (Some here) b e f = let g = sym e ∙ f in cc

-- where the handle stays, the session does
pub stays : (old new : LockedStore) (here : Entry) (next : CursorHandle) → old.entered ≡ Some here → new ≡ entered_at old here next old.history → next ≡ here.handle → new ≡ old
stays old new here next there is still =
    is ∙ ap (λ (h : CursorHandle). entered_at old here h old.history) still ∙ ap (λ (x : Option Entry). let p : LockedStore = record { mailboxes = old.mailboxes; entered = x; history = old.history } in p) (sym there)

feeds_from : (old : LockedStore) (here : Entry) (next : CursorHandle) (limit : ℕ) (before after : List ℕ) (r : Result ℕ MailFault) (seen : List Event) (new : LockedStore) → old.entered ≡ Some here
    → new ≡ entered_at old here next (seen_behind r old.history seen)
    → Held old.history seen says_nothing (λ found left. DoesFeed found here.handle limit before after r left next) → IfOk r (λ n. n ≤ limit) → Feeds (λ (a : Answer). Holds old (Feed limit) a new) limit before after r
feeds_from old here next limit before after (Ok n) seen new there is (found, left, s, k) few =
    let h : seen ≡ new.history = sym (ap (λ (p : LockedStore). p.history) is) in (
      s.view,
      s.changes,
      (
        here,
        there,
        (
          next,
          (found, left, (s.does, fed_of found.mailbox left.mailbox here.handle next limit s.view s.changes s.does), subst (λ (l : List Event). Knows found left [] old.history l) h k),
          is ∙ ap (entered_at old here next) h,
        ),
      ),
      s.counted,
      few,
      s.wrote,
    )
feeds_from old here next limit before after (Err fault) seen new there is (found, left, s, k) few =
    ((stays old new here next there is s.still, refused_here here found.mailbox left.mailbox there s.refused), s.wrote)

expunges_from : (old : LockedStore) (here : Entry) (next : CursorHandle) (uids : Option (List ℕ)) (before after : List ℕ) (r : Result ℕ MailFault) (seen : List Event) (new : LockedStore) → old.entered ≡ Some here
    → new ≡ entered_at old here next (seen_behind r old.history seen)
    → Held old.history seen (λ m. on_ok r (Changed m (steps.Expunge uids))) (λ found left. DoesExpunge found here.handle uids before after r left next)
    → Expunges (λ (a : Answer). Holds old (Expunge uids) a new) before after r
expunges_from old here next uids before after (Ok gone) seen new there is (found, left, s, k) =
    let h : seen ≡ new.history = sym (ap (λ (p : LockedStore). p.history) is) in (
      s.view,
      s.changes,
      (
        here,
        there,
        (
          next,
          (
            found,
            left,
            (s.does, expunged_of found.mailbox left.mailbox here.handle next uids s.view s.changes gone s.does),
            subst (λ (l : List Event). Knows found left (says (steps.Expunge uids) found.mailbox.number) old.history l) h k,
          ),
          is ∙ ap (entered_at old here next) h,
        ),
      ),
      s.wrote,
    )
expunges_from old here next uids before after (Err fault) seen new there is (found, left, s, k) =
    ((stays old new here next there is s.still, refused_here here found.mailbox left.mailbox there s.refused), s.wrote)

reads_from : (old new : LockedStore) (here : Entry) (uid : ℕ) (mark_seen : Bool) (r : Result (Option Row) MailFault) (seen : List Event) → old.entered ≡ Some here → new ≡ seeing old (seen_behind r old.history seen)
    → Held old.history seen (λ m. on_ok r (Changed m (steps.Read uid mark_seen))) (λ found left. DoesRead found here.handle uid mark_seen r left × IfOk r (HasItsText seen found.number)) → IfOk r HasRow
    → Holds old (Read uid mark_seen) (answer Found r) new
reads_from old new here uid mark_seen (Ok row) seen there is (found, left, s, k) fits =
    let h : seen ≡ new.history = sym (ap (λ (p : LockedStore). p.history) is) in (
      is ∙ ap (seeing old) h,
      (
        here,
        there,
        (
          found,
          left,
          (s.0, subst (λ (l : List Event). HasItsText l found.mailbox.number row) h s.1),
          subst (λ (l : List Event). Knows found left (says (steps.Read uid mark_seen) found.mailbox.number) old.history l) h k,
        ),
      ),
      fits,
    )
reads_from old new here uid mark_seen (Err fault) seen there is (found, left, s, k) fits = (is, refused_here here found.mailbox left.mailbox there s.0)

alters_from : (old new : LockedStore) (here : Entry) (uid : ℕ) (op : FlagOp) (r : Result (Option Flags) MailFault) (seen : List Event) → old.entered ≡ Some here → new ≡ seeing old (seen_behind r old.history seen)
    → Held old.history seen (λ m. on_ok r (Changed m (steps.Alter uid op))) (λ found left. DoesAlter found here.handle uid op r left)
    → Holds old (Alter uid op) (answer Altered r) new
alters_from old new here uid op (Ok flags) seen there is (found, left, s, k) =
    let h : seen ≡ new.history = sym (ap (λ (p : LockedStore). p.history) is) in (
      is ∙ ap (seeing old) h,
      (here, there, (found, left, s, subst (λ (l : List Event). Knows found left (says (steps.Alter uid op) found.mailbox.number) old.history l) h k)),
    )
alters_from old new here uid op (Err fault) seen there is (found, left, s, k) = (is, refused_here here found.mailbox left.mailbox there s)

counts_from : (old new : LockedStore) (mailbox : ℕ) (r : Result Status MailFault) (seen : List Event) → mailbox < old.mailboxes → new ≡ seeing old (seen_behind r old.history seen)
    → Held old.history seen says_nothing (λ found left. DoesCountAt mailbox found r left) → IfOk r HasStatus → Holds old (Count mailbox) (answer Counted r) new
counts_from old new mailbox (Ok status) seen there is (found, left, s, k) fits =
    let h : seen ≡ new.history = sym (ap (λ (p : LockedStore). p.history) is) in
    (is ∙ ap (seeing old) h, there, (found, left, s, subst (λ (l : List Event). Knows found left [] old.history l) h k), fits)
counts_from old new mailbox (Err fault) seen there is (found, left, s, k) fits = (is, inr (there, (found.mailbox, left.mailbox, s)))

discards_from : (old new : LockedStore) (mailbox : ℕ) (uids : List ℕ) (r : Result (Unit {0}) MailFault) (seen : List Event) → mailbox < old.mailboxes → new ≡ seeing old (seen_behind r old.history seen)
    → Held old.history seen (λ m. on_ok r (Changed m (steps.Discard uids))) (λ found left. DoesDiscardAt mailbox uids found r left)
    → Discards (λ (a : Answer). Holds old (Discard mailbox uids) a new) r
discards_from old new mailbox uids (Ok done) seen there is (found, left, s, k) =
    let h : seen ≡ new.history = sym (ap (λ (p : LockedStore). p.history) is) in
    (is ∙ ap (seeing old) h, there, (found, left, s, subst (λ (l : List Event). Knows found left (says (steps.Discard uids) found.mailbox.number) old.history l) h k))
discards_from old new mailbox uids (Err fault) seen there is (found, left, s, k) = (is, inr (there, (found.mailbox, left.mailbox, s)))

-- the mailbox that was found says why
pub discard_faults : (mailbox : ℕ) (uids : List ℕ) (r : Result (Unit {0}) MailFault) (before after : List Event) (said : ℕ → List Event)
    → Held before after said (λ found left. DoesDiscardAt mailbox uids found r left) → IfErr r (λ f. (f ≡ Stranger) ⊎ (f ≡ Spent))
discard_faults mailbox uids (Ok done) before after said h = tt
discard_faults mailbox uids (Err Stranger) before after said h = inl refl
discard_faults mailbox uids (Err Spent) before after said h = inr refl
discard_faults mailbox uids (Err Lapped) before after said (found, left, s, k) = absurd s.1
discard_faults mailbox uids (Err NoMemory) before after said (found, left, s, k) = absurd s.1

-- a mailbox of that number is found
pub discards_there : (number : ℕ) (uids : List ℕ) (found left : Mailbox) (r : Result (Unit {0}) MailFault) → found.number ≡ number → DoesDiscard found uids r left → DoesDiscardAt number uids found r left
discards_there number uids found left (Ok done) here does = (here, does)
discards_there number uids found left (Err Stranger) here does = absurd does
discards_there number uids found left (Err Lapped) here does = absurd does
discards_there number uids found left (Err Spent) here does = (here, does)
discards_there number uids found left (Err NoMemory) here does = absurd does

pub stays_out : (old : LockedStore) (mailbox : ℕ) (fault : MailFault) (before seen : List Event) (said : ℕ → List Event) → old.entered ≡ None → mailbox < old.mailboxes
    → Held before seen said (λ found left. DoesEnterAt mailbox found (Err fault) left) → StaysOut old mailbox fault
stays_out old mailbox fault before seen said nowhere under (found, left, (same, inl (number, kept, not)), k) = not_let_in found.mailbox left.mailbox nowhere under number kept same not
stays_out old mailbox fault before seen said nowhere under (found, left, (same, inr (other, stranger)), k) = another_there found.mailbox left.mailbox nowhere under other same stranger

-- ---- the same, with the copies of what was seen that the code makes

pub feeds : (old : LockedStore) (here : Entry) (next : CursorHandle) (limit : ℕ) (before after : List ℕ) (r : Result ℕ MailFault) (first second seen behind : List Event) (new : LockedStore) → old.entered ≡ Some here → first ≡ old.history → second ≡ old.history
    → behind ≡ seen_behind r second seen → new ≡ entered_at old here next behind
    → Held first seen says_nothing (λ found left. DoesFeed found here.handle limit before after r left next) → IfOk r (λ n. n ≤ limit) → Feeds (λ (a : Answer). Holds old (Feed limit) a new) limit before after r
feeds old here next limit before after r first second seen behind new there f s b is h few =
    feeds_from old here next limit before after r seen new there (is ∙ ap (entered_at old here next) (b ∙ ap (λ (l : List Event). seen_behind r l seen) s))
    (subst (λ (l : List Event). Held l seen says_nothing (λ found left. DoesFeed found here.handle limit before after r left next)) f h) few

pub expunges : (old : LockedStore) (here : Entry) (next : CursorHandle) (uids : Option (List ℕ)) (before after : List ℕ) (r : Result ℕ MailFault) (first second seen behind : List Event) (new : LockedStore) → old.entered ≡ Some here → first ≡ old.history → second ≡ old.history
    → behind ≡ seen_behind r second seen → new ≡ entered_at old here next behind
    → Held first seen (λ m. on_ok r (Changed m (steps.Expunge uids))) (λ found left. DoesExpunge found here.handle uids before after r left next)
    → Expunges (λ (a : Answer). Holds old (Expunge uids) a new) before after r
expunges old here next uids before after r first second seen behind new there f s b is h =
    expunges_from old here next uids before after r seen new there (is ∙ ap (entered_at old here next) (b ∙ ap (λ (l : List Event). seen_behind r l seen) s))
    (subst (λ (l : List Event). Held l seen (λ m. on_ok r (Changed m (steps.Expunge uids))) (λ found left. DoesExpunge found here.handle uids before after r left next)) f h)

pub reads : (old new : LockedStore) (here : Entry) (uid : ℕ) (mark_seen : Bool) (r : Result (Option Row) MailFault) (first second seen behind : List Event) → old.entered ≡ Some here → first ≡ old.history → second ≡ old.history
    → behind ≡ seen_behind r second seen → new ≡ seeing old behind
    → Held first seen (λ m. on_ok r (Changed m (steps.Read uid mark_seen))) (λ found left. DoesRead found here.handle uid mark_seen r left × IfOk r (HasItsText seen found.number)) → IfOk r HasRow
    → Holds old (Read uid mark_seen) (answer Found r) new
reads old new here uid mark_seen r first second seen behind there f s b is h fits =
    reads_from old new here uid mark_seen r seen there (is ∙ ap (seeing old) (b ∙ ap (λ (l : List Event). seen_behind r l seen) s))
    (subst (λ (l : List Event). Held l seen (λ m. on_ok r (Changed m (steps.Read uid mark_seen))) (λ found left. DoesRead found here.handle uid mark_seen r left × IfOk r (HasItsText seen found.number))) f h) fits

pub alters : (old new : LockedStore) (here : Entry) (uid : ℕ) (op : FlagOp) (r : Result (Option Flags) MailFault) (first second seen behind : List Event) → old.entered ≡ Some here → first ≡ old.history → second ≡ old.history
    → behind ≡ seen_behind r second seen → new ≡ seeing old behind
    → Held first seen (λ m. on_ok r (Changed m (steps.Alter uid op))) (λ found left. DoesAlter found here.handle uid op r left)
    → Holds old (Alter uid op) (answer Altered r) new
alters old new here uid op r first second seen behind there f s b is h =
    alters_from old new here uid op r seen there (is ∙ ap (seeing old) (b ∙ ap (λ (l : List Event). seen_behind r l seen) s))
    (subst (λ (l : List Event). Held l seen (λ m. on_ok r (Changed m (steps.Alter uid op))) (λ found left. DoesAlter found here.handle uid op r left)) f h)

pub counts : (old new : LockedStore) (mailbox : ℕ) (r : Result Status MailFault) (first second seen behind : List Event) → mailbox < old.mailboxes → first ≡ old.history → second ≡ old.history
    → behind ≡ seen_behind r second seen → new ≡ seeing old behind
    → Held first seen says_nothing (λ found left. DoesCountAt mailbox found r left) → IfOk r HasStatus → Holds old (Count mailbox) (answer Counted r) new
counts old new mailbox r first second seen behind there f s b is h fits =
    counts_from old new mailbox r seen there (is ∙ ap (seeing old) (b ∙ ap (λ (l : List Event). seen_behind r l seen) s))
    (subst (λ (l : List Event). Held l seen says_nothing (λ found left. DoesCountAt mailbox found r left)) f h) fits

pub discards : (old new : LockedStore) (mailbox : ℕ) (uids : List ℕ) (r : Result (Unit {0}) MailFault) (first second seen behind : List Event) → mailbox < old.mailboxes → first ≡ old.history → second ≡ old.history
    → behind ≡ seen_behind r second seen → new ≡ seeing old behind
    → Held first seen (λ m. on_ok r (Changed m (steps.Discard uids))) (λ found left. DoesDiscardAt mailbox uids found r left)
    → Discards (λ (a : Answer). Holds old (Discard mailbox uids) a new) r
discards old new mailbox uids r first second seen behind there f s b is h =
    discards_from old new mailbox uids r seen there (is ∙ ap (seeing old) (b ∙ ap (λ (l : List Event). seen_behind r l seen) s))
    (subst (λ (l : List Event). Held l seen (λ m. on_ok r (Changed m (steps.Discard uids))) (λ found left. DoesDiscardAt mailbox uids found r left)) f h)
