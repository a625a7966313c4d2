-- A feed and an expunge, each as an event of the mailbox that was found.
use Rattle.std.proofs.Common.{◌≡◌, ℕ, ◌+◌, ◌-◌, ◌<◌, ◌≤◌, List, [], ◌++◌, length, length-take, length-drop, append-nil, refl, sym, ap, ap₂, ◌∙◌, arith, subst, Result, Ok, Err, Option, Some, None}
use Rattle.std.specs.Prelude.{◌↔◌, drop, option_map, min, IfOk, IfSome, OnErr, OnOk}
use Rattle.change_ring.specs.declared.change.Change.{Change}
use Rattle.change_ring.specs.Log.{view_at, removals, Window, changes_from, total}
use Rattle.cursor_set.specs.Cursors.{Open, CursorHandle, Updates, after_showing, held, next_changes}
use Rattle.cursor_set.specs.Lines.{lines}
use Rattle.cursor_set.specs.declared.set.FeedFault.{FeedFault}
use Rattle.cursor_set.specs.declared.set.FeedFault.TheVariants as lapse
use Rattle.mailbox.specs.declared.clients.MailFault.{MailFault}
use Rattle.mailbox.specs.declared.clients.MailFault.TheVariants.{Stranger, Lapped, Spent, NoMemory}
use Rattle.mailbox.specs.Events.{IsCurrent, IsLapped, IsStranger, IsTooMany, KeepsLog, Logs, Moves, in_set}
use Rattle.mailbox.specs.Mailbox.{Mailbox, Message, SameMailbox, remaining, rows, IsKept, Stands, next_of}
use Rattle.workers_sync.specs.Holds.{DoesExpunge, DoesFeed, IsEvent, IsRefused, HasCursor, Refuses}
use Rattle.mailbox.specs.Answers.{answer_of}
use Rattle.workers_sync.proofs.Cursors.{current, has_cursor, cursor_on, sets_on}

-- ---- answers

ok_err : {A B : Type 0} {x : A} {f : B} → Ok x ≡ Err f → ⊥
ok_err e = cc

-- the facts on refusals that each call tells
pub record Tells {A : Type 0} (r : Result A MailFault) (m : Mailbox) (handle : CursorHandle) (changes : List Change) (wants : Type 0) : Type 0 where
  pub stranger : (r ≡ Err Stranger) ↔ IsStranger m handle
  pub lapsed : (r ≡ Err Lapped) ↔ IsLapped m handle
  pub spent : (r ≡ Err Spent) ↔ (IsCurrent m handle × IsTooMany m changes)
  pub memory : r ≡ Err NoMemory → wants

known : {A : Type 0} (r : Result A MailFault) (m : Mailbox) (handle : CursorHandle) (changes : List Change) (wants : Type 0) (x : A) → Tells r m handle changes wants → r ≡ Ok x → IsStranger m handle → ⊥
known r m handle changes wants x t e h = ok_err (sym e ∙ t.stranger.1 h)

near : {A : Type 0} (r : Result A MailFault) (m : Mailbox) (handle : CursorHandle) (changes : List Change) (wants : Type 0) (x : A) → Tells r m handle changes wants → r ≡ Ok x → IsLapped m handle → ⊥
near r m handle changes wants x t e h = ok_err (sym e ∙ t.lapsed.1 h)

taken : {A : Type 0} (r : Result A MailFault) (m : Mailbox) (handle : CursorHandle) (changes : List Change) (wants : Type 0) (x : A) → Tells r m handle changes wants → r ≡ Ok x → IsCurrent m handle
taken r m handle changes wants x t e = current m handle (known r m handle changes wants x t e) (near r m handle changes wants x t e)

fits : {A : Type 0} (r : Result A MailFault) (m : Mailbox) (handle : CursorHandle) (changes : List Change) (wants : Type 0) (x : A) → Tells r m handle changes wants → r ≡ Ok x → IsTooMany m changes → ⊥
fits r m handle changes wants x t e h = ok_err (sym e ∙ t.spent.1 (taken r m handle changes wants x t e, h))

no_memory_stranger : {A : Type 0} {r : Result A MailFault} → r ≡ Err NoMemory → r ≡ Err Stranger → ⊥
no_memory_stranger e f = let g = sym e ∙ f in cc

no_memory_lapped : {A : Type 0} {r : Result A MailFault} → r ≡ Err NoMemory → r ≡ Err Lapped → ⊥
no_memory_lapped e f = let g = sym e ∙ f in cc

no_memory_spent : {A : Type 0} {r : Result A MailFault} → r ≡ Err NoMemory → r ≡ Err Spent → ⊥
no_memory_spent e f = let g = sym e ∙ f in cc

why : {A : Type 0} (r : Result A MailFault) (m : Mailbox) (handle : CursorHandle) (changes : List Change) (wants : Type 0) (fault : MailFault) → Tells r m handle changes wants → r ≡ Err fault → Refuses fault m handle (IsTooMany m changes) wants
why r m handle changes wants Stranger t e = t.stranger.0 e
why r m handle changes wants Lapped t e = t.lapsed.0 e
why r m handle changes wants Spent t e = t.spent.0 e
why r m handle changes wants NoMemory t e =
    let here : IsCurrent m handle = current m handle (λ h. no_memory_stranger e (t.stranger.1 h)) (λ h. no_memory_lapped e (t.lapsed.1 h)) in
    (here, (λ h. no_memory_spent e (t.spent.1 (here, h))), t.memory e)

refused : {A : Type 0} (r : Result A MailFault) (m n : Mailbox) (handle : CursorHandle) (changes : List Change) (wants : Type 0) (fault : MailFault) → IsKept m → Tells r m handle changes wants → r ≡ Err fault → n ≡ m
    → IsRefused m handle (IsTooMany m changes) wants fault n
refused r m n handle changes wants fault kept t e still = record { kept = kept; same = still; why = why r m handle changes wants fault t e }

-- ---- what is the same

same_mailbox : (m n : Mailbox) → n.number ≡ m.number → n.uidvalidity ≡ m.uidvalidity → n.first_uid ≡ m.first_uid → n.limit ≡ m.limit → n.history ≡ m.history → SameMailbox m n
same_mailbox m n a b c d e = record { number = a; uidvalidity = b; first_uid = c; limit = d; history = e }

-- messages, window and cursors may have changed, and the log went on
event : (m n : Mailbox) (changes : List Change) → IsKept m → IsKept n → Logs m n changes → n ≡ record m { messages = n.messages; window = n.window; cursors = n.cursors } → IsEvent m n changes
event m n changes before after logs rest = record {
  found_kept = before;
  left_kept = after;
  logs = logs;
  same = same_mailbox m n (ap (λ (z : Mailbox). z.number) rest) (ap (λ (z : Mailbox). z.uidvalidity) rest) (ap (λ (z : Mailbox). z.first_uid) rest) (ap (λ (z : Mailbox). z.limit) rest) (ap (λ (z : Mailbox). z.history) rest);
  accepted = ap (λ (z : Mailbox). z.accepted) rest;
}

-- the cursors alone changed
only_cursors : (m n : Mailbox) → n ≡ record m { cursors = n.cursors } → n ≡ record m { messages = n.messages; window = n.window; cursors = n.cursors }
only_cursors m n rest = rest ∙ ap₂ (λ (ms : List Message) (w : Window). let z : Mailbox = record m { messages = ms; window = w; cursors = n.cursors } in z) (sym (ap (λ (z : Mailbox). z.messages) rest)) (sym (ap (λ (z : Mailbox). z.window) rest))

logs_nothing : (m n : Mailbox) → KeepsLog m n → Logs m n []
logs_nothing m n keeps log s = subst (Stands n) (sym (append-nil log)) (keeps log s)

-- ---- the calls

same_open : {a b : Open} → Some a ≡ Some b → a ≡ b
same_open e = cc

on_some : (P : Open → Type 0) (x : Option Open) (o : Open) → x ≡ Some o → IfSome x P → P o
on_some P (Some y) o e h = subst P (same_open e) h
on_some P None o e h = cc

-- as many were shown as the call answers
fed_length : (w : Window) (at n limit : ℕ) → w.base ≤ at → n ≡ min limit (total w - at) → length (next_changes w at n) ≡ n
fed_length w at n limit low count = omega (arith, length-take n (changes_from at w), length-drop (at - w.base) w.changes, count, low)

pub feeds : (m n : Mailbox) (handle next : CursorHandle) (limit : ℕ) (before after : List ℕ) (r : Result ℕ FeedFault) → IsKept m → IsKept n → (r ≡ Err lapse.Stranger) ↔ IsStranger m handle → (r ≡ Err lapse.Lapped) ↔ IsLapped m handle
    → (r ≡ Err lapse.NoMemory → 0 < min limit (total m.window - handle.at)) → OnErr r ((n ≡ m) × (next ≡ handle) × (after ≡ before)) → IfOk r (λ k. k ≡ min limit (total m.window - handle.at)) → IfOk r (λ k. next ≡ record handle { at = handle.at + k })
    → KeepsLog m n → n ≡ record m { cursors = n.cursors }
    → IfOk r (λ k. Updates m.cursors n.cursors handle.slot (option_map (after_showing (next_changes m.window handle.at k)) (held m.cursors handle)))
    → IfOk r (λ k. IfSome (held m.cursors handle) (λ o. after ≡ before ++ lines o.view (next_changes m.window handle.at k)))
    → n.cursors.next ≡ m.cursors.next
    → IfOk r (λ k. (log : List Change) → Stands m log → after ≡ before ++ lines (view_at log handle.at) (next_of log handle.at k))
    → DoesFeed m handle limit before after (answer_of r) n next
feeds m n handle next limit before after (Ok k) kept left strange lapses memory err count is keeps rest moved wrote serials shown = record {
  view = at.0;
  changes = changes;
  does = record {
    event = event m n [] kept left (logs_nothing m n keeps) (only_cursors m n rest);
    known = at.1;
    current = low;
    count = long ∙ count;
    shown = ap (λ (j : ℕ). next_changes m.window handle.at j) (sym long);
    goes_on = on;
    counts = cursor_on m n handle next at.0 changes left at.1 moved on;
    sets = sets_on m n handle next at.0 changes at.1 moved on;
    serials = serials;
    rest = rest;
  };
  counted = long;
  wrote = on_some (λ (o : Open). after ≡ before ++ lines o.view changes) (held m.cursors handle) _ at.1.cursor wrote;
  of_log = shown;
}
  where
    known : IsStranger m handle → ⊥
    known h = ok_err (strange.1 h)

    close : IsLapped m handle → ⊥
    close h = ok_err (lapses.1 h)

    low : m.window.base ≤ handle.at
    low = (current m handle known close).1

    at : (view : List ℕ) × HasCursor m handle view
    at = has_cursor m handle kept known

    changes : List Change
    changes = next_changes m.window handle.at k

    long : length changes ≡ k
    long = fed_length m.window handle.at k limit low count

    on : next ≡ record handle { at = handle.at + length changes }
    on = is ∙ ap (λ (j : ℕ). let z : CursorHandle = record { number = handle.number; slot = handle.slot; serial = handle.serial; at = handle.at + j } in z) (sym long)
feeds m n handle next limit before after (Err lapse.Stranger) kept left strange lapses memory err count is keeps rest moved wrote serials shown = record { refused = record { kept = kept; same = err.0; why = strange.0 refl }; still = err.1; wrote = err.2 }
feeds m n handle next limit before after (Err lapse.Lapped) kept left strange lapses memory err count is keeps rest moved wrote serials shown = record { refused = record { kept = kept; same = err.0; why = lapses.0 refl }; still = err.1; wrote = err.2 }
feeds m n handle next limit before after (Err lapse.NoMemory) kept left strange lapses memory err count is keeps rest moved wrote serials shown = record {
  refused = record { kept = kept; same = err.0; why = (current m handle (λ h. let e = strange.1 h in cc) (λ h. let e = lapses.1 h in cc), (λ h. h), memory refl) };
  still = err.1;
  wrote = err.2;
}

pub expunges : (m n : Mailbox) (handle next : CursorHandle) (uids : Option (List ℕ)) (before after : List ℕ) (r : Result ℕ MailFault) → IsKept m → IsKept n → Tells r m handle (removals (in_set uids) (rows m)) (handle.at < total m.window)
    → OnErr r ((n ≡ m) × (next ≡ handle) × (after ≡ before)) → OnOk r (next ≡ record handle { at = total m.window })
    → OnOk r (Updates m.cursors n.cursors handle.slot (option_map (after_showing (changes_from handle.at m.window)) (held m.cursors handle)))
    → OnOk r (Logs m n (removals (in_set uids) (rows m))) → OnOk r (Moves n.cursors m.window n.window (removals (in_set uids) (rows m)))
    → OnOk r (n.messages ≡ remaining (in_set uids) m.messages) → OnOk r (n ≡ record m { messages = n.messages; window = n.window; cursors = n.cursors })
    → IfOk r (λ k. k ≡ length (removals (in_set uids) (rows m))) → OnOk r (IfSome (held m.cursors handle) (λ o. after ≡ before ++ lines o.view (changes_from handle.at m.window)))
    → n.cursors.next ≡ m.cursors.next → OnOk r ((log : List Change) → Stands m log → after ≡ before ++ lines (view_at log handle.at) (drop handle.at log))
    → DoesExpunge m handle uids before after r n next
expunges m n handle next uids before after (Ok k) kept left t err is moved logs moves messages rest count wrote serials shown = record {
  view = at.0;
  changes = changes_from handle.at m.window;
  does = record {
    event = event m n _ kept left logs rest;
    known = at.1;
    current = low;
    room = fits (Ok k) m handle _ _ k t refl;
    shown = refl;
    goes_on = is;
    counts = cursor_on m n handle next at.0 (changes_from handle.at m.window) left at.1 moved on;
    sets = sets_on m n handle next at.0 (changes_from handle.at m.window) at.1 moved on;
    serials = serials;
    window = moves;
    messages = messages;
    rest = rest;
    went = count;
  };
  wrote = on_some (λ (o : Open). after ≡ before ++ lines o.view (changes_from handle.at m.window)) (held m.cursors handle) _ at.1.cursor wrote;
  of_log = shown;
}
  where
    low : m.window.base ≤ handle.at
    low = (taken (Ok k) m handle _ _ k t refl).1

    at : (view : List ℕ) × HasCursor m handle view
    at = has_cursor m handle kept (known (Ok k) m handle _ _ k t refl)

    whole : total m.window ≡ handle.at + length (changes_from handle.at m.window)
    whole = omega (arith, length-drop (handle.at - m.window.base) m.window.changes, low, at.1.within)

    on : next ≡ record handle { at = handle.at + length (changes_from handle.at m.window) }
    on = is ∙ ap (λ (j : ℕ). let z : CursorHandle = record { number = handle.number; slot = handle.slot; serial = handle.serial; at = j } in z) whole
expunges m n handle next uids before after (Err fault) kept left t err is moved logs moves messages rest count wrote serials shown = record {
  refused = refused (Err fault) m n handle _ _ fault kept t refl err.0;
  still = err.1;
  wrote = err.2;
}
