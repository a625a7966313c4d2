-- The calls of a session that show it changes.
use Rattle.std.proofs.Common.{◌≡◌, ◌<◌, ◌⊎◌, ℕ, zero, suc, ◌+◌, ◌-◌, ◌≤◌, inl, inr, Bool, true, false, List, [], ◌∷◌, ◌++◌, length, map, take, drop, get_or, set, refl, sym, ap, ◌∙◌, arith, subst, Result, Ok, Err, Option, Some, IsSome, length-take, length-drop, append-nil}
use Rattle.std.specs.Prelude.{◌↔◌, min, option_map, OnOk, OnErr, IfOk, IfSome}
use Rattle.std.proofs.lemmas.Bool.{cases_lt}
use Rattle.change_ring.specs.declared.change.Change.{Change}
use Rattle.change_ring.specs.Log.{Row, rows_of, view_at, removals, Window, changes_from, total}
use Rattle.cursor_set.specs.Cursors.{CursorSet, Open, CursorHandle, Updates, after_showing, held, next_changes}
use Rattle.cursor_set.specs.Lines.{lines}
use Rattle.cursor_set.specs.declared.set.FeedFault.{FeedFault}
use Rattle.cursor_set.specs.declared.set.FeedFault.TheVariants as lapse
use Rattle.mailbox.specs.declared.clients.MailFault.{MailFault}
use Rattle.mailbox.specs.declared.clients.MailFault.TheVariants.{Stranger, Lapped, Spent, NoMemory}
use Rattle.mailbox.specs.Events.{KeepsLog, Logs as MailLogs, Moves, IsTooMany, IsStranger, IsLapped, IsCurrent}
use Rattle.mailbox.specs.Mailbox.{Mailbox, rows, remaining, Stands, next_of}
use Rattle.world.specs.World.{Config, World, Box, Session, Expunge, Feed, Selected, Step, most_changes, pending}
use Rattle.world.specs.Law.{IsPart, IsShown}
use Rattle.world.proofs.Base.{part_self}
use Rattle.world.proofs.Kept.{BoxOk}
use Rattle.delivery_core.specs.declared.client.Client.{Client}
use Rattle.delivery_core.specs.DeliveryCore.{DeliveryCore, pending_for}
use Rattle.delivery_core.specs.Attached.{AreAttached, client_at, cursors_of}
use Rattle.delivery_core.specs.Stands.{StandsFor, StandsForBox, text_of}
use Rattle.delivery_core.specs.Clients.{Expunges, Feeds, Makes, Refuses, Sees}
use Rattle.mailbox.specs.Answers.{answer_of}
use Rattle.delivery_core.proofs.MailBoxes.{Becomes, Told, box_call, box_logs, remaining_part, same_rows, taken, turned_away}
use Rattle.delivery_core.proofs.Looks.{pending_here, saw}
use Rattle.delivery_core.proofs.Follow.{reached_step}
use Rattle.delivery_core.proofs.Mailed.{BoxMails, CursorMoves, known_at, moved_done, moved_follow, cursor_moves, cursor_same, with_memory}

pub take_self : {A : Type 0} (l : ℕ) (xs : List A) → take (length (take l xs)) xs ≡ take l xs
take_self zero [] = refl
take_self zero (x ∷ xs) = refl
take_self (suc l) [] = refl
take_self (suc l) (x ∷ xs) = ap (λ ys. x ∷ ys) (take_self l xs)

-- ---- Feed

back_stranger : (r : Result ℕ FeedFault) → answer_of r ≡ Err Stranger → r ≡ Err lapse.Stranger
back_stranger (Ok n) e = cc
back_stranger (Err lapse.Stranger) e = refl
back_stranger (Err lapse.Lapped) e = cc
back_stranger (Err lapse.NoMemory) e = cc

back_lapped : (r : Result ℕ FeedFault) → answer_of r ≡ Err Lapped → r ≡ Err lapse.Lapped
back_lapped (Ok n) e = cc
back_lapped (Err lapse.Stranger) e = cc
back_lapped (Err lapse.Lapped) e = refl
back_lapped (Err lapse.NoMemory) e = cc

pub never_spent : (r : Result ℕ FeedFault) → answer_of r ≡ Err Spent → ⊥
never_spent (Ok n) e = cc
never_spent (Err lapse.Stranger) e = cc
never_spent (Err lapse.Lapped) e = cc
never_spent (Err lapse.NoMemory) e = cc

pub feed_strange : (r : Result ℕ FeedFault) (b : Mailbox) (handle : CursorHandle) → (r ≡ Err lapse.Stranger) ↔ IsStranger b handle → (answer_of r ≡ Err Stranger) ↔ IsStranger b handle
feed_strange r b handle strange = (λ e. strange.0 (back_stranger r e), λ h. ap answer_of (strange.1 h))

feed_told : (k : Config) (b : Mailbox) (x : Box) (handle : CursorHandle) (r : Result ℕ FeedFault) → StandsForBox k b x → BoxOk k x → IsSome (held b.cursors handle) → (r ≡ Err lapse.Stranger) ↔ IsStranger b handle → (r ≡ Err lapse.Lapped) ↔ IsLapped b handle → Told (answer_of r) b handle []
feed_told k b x handle r S ok some strange lapses = record {
  known = some;
  stranger = feed_strange r b handle strange;
  lapsed = (λ e. lapses.0 (back_lapped r e), λ h. ap answer_of (lapses.1 h));
  spent = (λ e. absurd (never_spent r e), λ h. absurd (omega (arith, h.1, ok.room, S.log.window.long)));
}

fed_length : (w : Window) (at n limit : ℕ) → w.base ≤ at → n ≡ min limit (total w - at) → length (next_changes w at n) ≡ n
fed_length w at n limit low count = omega (arith, length-take n (changes_from at w), length-drop (at - w.base) w.changes, count, low)

pub feed_moves : (b b2 : Mailbox) (handle handle2 : CursorHandle) (limit : ℕ) (before after : List ℕ) (r : Result ℕ FeedFault) → IsSome (held b.cursors handle) → (r ≡ Err lapse.Lapped) ↔ IsLapped b handle
    → OnErr r ((b2 ≡ b) × (handle2 ≡ handle) × (after ≡ before)) → IfOk r (λ n. n ≡ min limit (total b.window - handle.at)) → IfOk r (λ n. handle2 ≡ record handle { at = handle.at + n })
    → IfOk r (λ n. Updates b.cursors b2.cursors handle.slot (option_map (after_showing (next_changes b.window handle.at n)) (held b.cursors handle))) → b2.cursors.next ≡ b.cursors.next → CursorMoves b.cursors b2.cursors handle handle2
feed_moves b b2 handle handle2 limit before after (Ok n) some lapses err count is moved next =
    cursor_moves b.cursors b2.cursors handle handle2 (next_changes b.window handle.at n) some moved (is ∙ ap (λ (j : ℕ). let z : CursorHandle = record { number = handle.number; slot = handle.slot; serial = handle.serial; at = handle.at + j } in z) (sym (fed_length b.window handle.at n limit low count))) next
  where
    no_err : Ok n ≡ Err lapse.Lapped → ⊥
    no_err e = cc

    low : b.window.base ≤ handle.at
    low = elim (cases_lt handle.at b.window.base) [ inl under ↦ absurd (no_err (lapses.1 (some, under))) | inr over ↦ over ]
feed_moves b b2 handle handle2 limit before after (Err f) some lapses err count is moved next = cursor_same b.cursors b2.cursors handle handle2 some (ap (λ (z : Mailbox). z.cursors) err.0) err.1

-- a mailbox that logged nothing
becomes_same : (k : Config) (b b2 : Mailbox) (x : Box) → StandsForBox k b x → BoxOk k x → KeepsLog b b2 → b2 ≡ record b { cursors = b2.cursors } → Becomes k x [] b2
becomes_same k b b2 x S ok keeps_log rest = box_logs k b b2 x [] b.cursors S (omega (arith, ok.room))
    (λ log s. subst (Stands b2) (sym (append-nil log)) (keeps_log log s))
    (ap (λ (z : Mailbox). z.window) rest)
    (subst (λ (z : Mailbox). IsPart (map text_of z.messages) (map text_of b.messages)) (sym rest) (part_self (map text_of b.messages)))
    (ap (λ (z : Mailbox). z.accepted) rest) (ap (λ (z : Mailbox). z.first_uid) rest) (ap (λ (z : Mailbox). z.limit) rest) (ap (λ (z : Mailbox). z.uidvalidity) rest)

feed_box : (k : Config) (b b2 : Mailbox) (x : Box) (s : Session) (handle handle2 : CursorHandle) (limit : ℕ) (before after : List ℕ) (allocates : Bool) (r : Result ℕ FeedFault) → (answer_of r ≡ Err NoMemory → allocates ≡ true) → StandsForBox k b x → handle.at ≡ s.cursor → BoxOk k x → Told (answer_of r) b handle []
    → OnErr r ((b2 ≡ b) × (handle2 ≡ handle) × (after ≡ before)) → IfOk r (λ n. n ≡ min limit (total b.window - handle.at))
    → IfOk r (λ n. (log : List Change) → Stands b log → after ≡ before ++ lines (view_at log handle.at) (next_of log handle.at n))
    → IfOk r (λ n. handle2 ≡ record handle { at = handle.at + n }) → KeepsLog b b2 → b2 ≡ record b { cursors = b2.cursors }
    → BoxMails k x s allocates (take limit (pending x s)) [] b2 handle2 × Feeds limit before after (answer_of r) x s
feed_box k b b2 x s handle handle2 limit before after allocates (Ok n) may S at ok told err count shown is keeps_log rest = (
  box_call k b b2 x s handle handle2 allocates (take limit (pending x s)) [] (Ok n) S at told may tt (λ room. becomes_same k b b2 x S ok keeps_log rest) (omega (arith, ap (λ (z : CursorHandle). z.at) is, at, long)),
  (record { kept = (taken k b x s handle [] (Ok n) n S at told refl).0; text = shown x.log S.log ∙ ap (λ (cs : List Change). before ++ lines (view_at x.log handle.at) cs) what ∙ ap (λ (i : ℕ). before ++ lines (view_at x.log i) (take limit (pending x s))) at }, sym long),
)
  where
    long : length (take limit (pending x s)) ≡ n
    long = omega (arith, length-take limit (drop s.cursor x.log), length-drop s.cursor x.log, count, at, S.log.window.long)

    what : next_of x.log handle.at n ≡ take limit (pending x s)
    what = ap (λ (i : ℕ). take n (drop i x.log)) at ∙ ap (λ (j : ℕ). take j (drop s.cursor x.log)) (sym long) ∙ take_self limit (drop s.cursor x.log)
feed_box k b b2 x s handle handle2 limit before after allocates (Err lapse.Stranger) may S at ok told err count shown is keeps_log rest =
    (box_call k b b2 x s handle handle2 allocates (take limit (pending x s)) [] (Err Stranger) S at told may (err.0, err.1) tt tt, turned_away k b x s handle [] (Err Stranger) Stranger S at told refl)
feed_box k b b2 x s handle handle2 limit before after allocates (Err lapse.Lapped) may S at ok told err count shown is keeps_log rest =
    (box_call k b b2 x s handle handle2 allocates (take limit (pending x s)) [] (Err Lapped) S at told may (err.0, err.1) tt tt, turned_away k b x s handle [] (Err Lapped) Lapped S at told refl)
feed_box k b b2 x s handle handle2 limit before after allocates (Err lapse.NoMemory) may S at ok told err count shown is keeps_log rest =
    (box_call k b b2 x s handle handle2 allocates (take limit (pending x s)) [] (Err NoMemory) S at told may (err.0, err.1) tt tt, turned_away k b x s handle [] (Err NoMemory) NoMemory S at told refl)

pub feed_follows : (k : Config) (w : World) (old : DeliveryCore) (n p m : ℕ) (c : Client) (b b2 : Mailbox) (handle2 : CursorHandle) (vacant : Option Client) (limit : ℕ) (before after : List ℕ) (r : Result ℕ FeedFault) (q : Result ℕ MailFault)
    → StandsFor k old w → client_at old.clients n ≡ Some c → p ≡ n → m ≡ c.mailbox → b ≡ get_or old.boxes m b → q ≡ answer_of r
    → (r ≡ Err lapse.Stranger) ↔ IsStranger b c.handle → (r ≡ Err lapse.Lapped) ↔ IsLapped b c.handle → OnErr r ((b2 ≡ b) × (handle2 ≡ c.handle) × (after ≡ before)) → IfOk r (λ j. j ≡ min limit (total b.window - c.handle.at))
    → IfOk r (λ j. (log : List Change) → Stands b log → after ≡ before ++ lines (view_at log c.handle.at) (next_of log c.handle.at j))
    → IfOk r (λ j. handle2 ≡ record c.handle { at = c.handle.at + j }) → KeepsLog b b2 → b2 ≡ record b { cursors = b2.cursors }
    → IfOk r (λ j. Updates b.cursors b2.cursors c.handle.slot (option_map (after_showing (next_changes b.window c.handle.at j)) (held b.cursors c.handle))) → b2.cursors.next ≡ b.cursors.next
    → (v : World) × Step k w (Feed n limit) v × StandsFor k (record old { boxes = set old.boxes m b2; clients = set (set old.clients p vacant) p (Some (record { mailbox = c.mailbox; handle = handle2 })) }) v
    × Selected w n (λ s. Feeds limit before after q (w.box s.mailbox) s)
feed_follows k w old n p m c b b2 handle2 vacant limit before after r q S e place same there tells strange lapses err count shown is keeps_log rest moved next =
    subst (λ (z : Result ℕ MailFault). (v : World) × Step k w (Feed n limit) v × StandsFor k (record old { boxes = set old.boxes m b2; clients = set (set old.clients p vacant) p (Some (record { mailbox = c.mailbox; handle = handle2 })) }) v
    × Selected w n (λ s. Feeds limit before after z (w.box s.mailbox) s)) (sym tells)
    (moved_follow k w old n p m c b b2 handle2 vacant true (λ x s. take limit (pending x s)) (λ x. []) (λ x s. Feeds limit before after (answer_of r) x s) (λ v. Step k w (Feed n limit) v) (λ v. reached_step k w (Feed n limit) v S.reached) (λ v h. h) S e place same there
    (feed_moves b b2 c.handle handle2 limit before after r some lapses err count is moved next)
    (λ x s box at ok shown_is. feed_box k b b2 x s c.handle handle2 limit before after true r (λ f. refl) box at ok (feed_told k b x c.handle r box ok some strange lapses) err count shown is keeps_log rest))
  where
    some : IsSome (held b.cursors c.handle)
    some = known_at old.boxes old.clients n c b S.attached e (there ∙ ap (λ (i : ℕ). get_or old.boxes i b) same)

-- ---- Expunge

pub expunge_moves : (b b2 : Mailbox) (handle handle2 : CursorHandle) (before after : List ℕ) (r : Result ℕ MailFault) → IsSome (held b.cursors handle) → (r ≡ Err Lapped) ↔ IsLapped b handle
    → OnErr r ((b2 ≡ b) × (handle2 ≡ handle) × (after ≡ before)) → OnOk r (handle2 ≡ record handle { at = total b.window }) → OnOk r (handle.at ≤ total b.window)
    → OnOk r (Updates b.cursors b2.cursors handle.slot (option_map (after_showing (changes_from handle.at b.window)) (held b.cursors handle))) → b2.cursors.next ≡ b.cursors.next → CursorMoves b.cursors b2.cursors handle handle2
expunge_moves b b2 handle handle2 before after (Ok n) some lapses err is within moved next =
    cursor_moves b.cursors b2.cursors handle handle2 (changes_from handle.at b.window) some moved (is ∙ ap (λ (j : ℕ). let z : CursorHandle = record { number = handle.number; slot = handle.slot; serial = handle.serial; at = j } in z) whole) next
  where
    no_err : Ok n ≡ Err Lapped → ⊥
    no_err e = cc

    low : b.window.base ≤ handle.at
    low = elim (cases_lt handle.at b.window.base) [ inl under ↦ absurd (no_err (lapses.1 (some, under))) | inr over ↦ over ]

    whole : total b.window ≡ handle.at + length (changes_from handle.at b.window)
    whole = omega (arith, length-drop (handle.at - b.window.base) b.window.changes, low, within)
expunge_moves b b2 handle handle2 before after (Err f) some lapses err is within moved next = cursor_same b.cursors b2.cursors handle handle2 some (ap (λ (z : Mailbox). z.cursors) err.0) err.1

expunge_box : (k : Config) (b b2 : Mailbox) (x : Box) (s : Session) (handle handle2 : CursorHandle) (test : ℕ → Bool) (before after : List ℕ) (cursors : CursorSet) (allocates : Bool) (r : Result ℕ MailFault) → (r ≡ Err NoMemory → allocates ≡ true) → StandsForBox k b x → handle.at ≡ s.cursor → IsShown x.log s → Told r b handle (removals test (rows b))
    → OnErr r ((b2 ≡ b) × (handle2 ≡ handle) × (after ≡ before)) → OnOk r ((log : List Change) → Stands b log → after ≡ before ++ lines (view_at log handle.at) (drop handle.at log))
    → OnOk r (handle2 ≡ record handle { at = total b.window }) → OnOk r (MailLogs b b2 (removals test (rows b))) → OnOk r (Moves cursors b.window b2.window (removals test (rows b)))
    → OnOk r (b2.messages ≡ remaining test b.messages) → OnOk r (b2 ≡ record b { messages = b2.messages; window = b2.window; cursors = b2.cursors }) → IfOk r (λ n. n ≡ length (removals test (rows b)))
    → BoxMails k x s allocates (pending x s) (removals test (rows_of x.log)) b2 handle2 × Expunges test before after r x s
expunge_box k b b2 x s handle handle2 test before after cursors allocates (Ok n) may S at past told err shown is logs moves messages rest count = (
  subst (λ (rs : List Row). BoxMails k x s allocates (pending x s) (removals test rs) b2 handle2) (same_rows k b x S)
      (box_call k b b2 x s handle handle2 allocates (pending x s) (removals test (rows b)) (Ok n) S at told may tt
      (λ room. box_logs k b b2 x (removals test (rows b)) cursors S room logs moves (remaining_part test b.messages b2.messages messages) (ap (λ (z : Mailbox). z.accepted) rest) (ap (λ (z : Mailbox). z.first_uid) rest) (ap (λ (z : Mailbox). z.limit) rest) (ap (λ (z : Mailbox). z.uidvalidity) rest))
      (omega (arith, ap (λ (z : CursorHandle). z.at) is, S.log.window.long, length-drop s.cursor x.log, past.within))),
  (
    record { kept = (taken k b x s handle (removals test (rows b)) (Ok n) n S at told refl).0; text = shown x.log S.log ∙ ap (λ (i : ℕ). before ++ lines (view_at x.log i) (drop i x.log)) at },
    count ∙ ap (λ (rs : List Row). length (removals test rs)) (same_rows k b x S),
  ),
)
expunge_box k b b2 x s handle handle2 test before after cursors allocates (Err f) may S at past told err shown is logs moves messages rest count = (
  subst (λ (rs : List Row). BoxMails k x s allocates (pending x s) (removals test rs) b2 handle2) (same_rows k b x S)
      (box_call k b b2 x s handle handle2 allocates (pending x s) (removals test (rows b)) (Err f) S at told may (err.0, err.1) tt tt),
  subst (λ (rs : List Row). Refuses f (removals test rs) x s) (same_rows k b x S) (turned_away k b x s handle (removals test (rows b)) (Err f) f S at told refl),
)

pub expunge_follows : (k : Config) (w : World) (old : DeliveryCore) (n p m : ℕ) (c : Client) (b b2 : Mailbox) (handle2 : CursorHandle) (vacant : Option Client) (test : ℕ → Bool) (before after : List ℕ) (cursors : CursorSet) (r : Result ℕ MailFault)
    → StandsFor k old w → client_at old.clients n ≡ Some c → p ≡ n → m ≡ c.mailbox → b ≡ get_or old.boxes m b
    → (r ≡ Err Stranger) ↔ IsStranger b c.handle → (r ≡ Err Lapped) ↔ IsLapped b c.handle → (r ≡ Err Spent) ↔ (IsCurrent b c.handle × IsTooMany b (removals test (rows b)))
    → OnErr r ((b2 ≡ b) × (handle2 ≡ c.handle) × (after ≡ before)) → OnOk r ((log : List Change) → Stands b log → after ≡ before ++ lines (view_at log c.handle.at) (drop c.handle.at log))
    → OnOk r (handle2 ≡ record c.handle { at = total b.window }) → OnOk r (c.handle.at ≤ total b.window)
    → OnOk r (Updates b.cursors b2.cursors c.handle.slot (option_map (after_showing (changes_from c.handle.at b.window)) (held b.cursors c.handle))) → b2.cursors.next ≡ b.cursors.next
    → OnOk r (MailLogs b b2 (removals test (rows b))) → OnOk r (Moves cursors b.window b2.window (removals test (rows b)))
    → OnOk r (b2.messages ≡ remaining test b.messages) → OnOk r (b2 ≡ record b { messages = b2.messages; window = b2.window; cursors = b2.cursors }) → IfOk r (λ j. j ≡ length (removals test (rows b)))
    → (v : World) × Step k w (Expunge n test) v × StandsFor k (record old { boxes = set old.boxes m b2; clients = set (set old.clients p vacant) p (Some (record { mailbox = c.mailbox; handle = handle2 })) }) v
    × Selected w n (λ s. Expunges test before after r (w.box s.mailbox) s)
expunge_follows k w old n p m c b b2 handle2 vacant test before after cursors r S e place same there strange lapses spends err shown is within moved next logs moves messages rest count =
    moved_follow k w old n p m c b b2 handle2 vacant true (λ x s. pending x s) (λ x. removals test (rows_of x.log)) (λ x s. Expunges test before after r x s) (λ v. Step k w (Expunge n test) v) (λ v. reached_step k w (Expunge n test) v S.reached) (λ v h. h) S e place same there
    (expunge_moves b b2 c.handle handle2 before after r some lapses err is within moved next)
    (λ x s box at ok past. expunge_box k b b2 x s c.handle handle2 test before after cursors true r (λ f. refl) box at past (record { known = some; stranger = strange; lapsed = lapses; spent = spends }) err shown is logs moves messages rest count)
  where
    some : IsSome (held b.cursors c.handle)
    some = known_at old.boxes old.clients n c b S.attached e (there ∙ ap (λ (i : ℕ). get_or old.boxes i b) same)

-- ---- refusals

pub expunge_refused : (r : Result ℕ MailFault) (old new : DeliveryCore) (b b2 : Mailbox) (handle handle2 : CursorHandle) (before after : List ℕ) → OnErr r ((b2 ≡ b) × (handle2 ≡ handle) × (after ≡ before)) → (b2 ≡ b → handle2 ≡ handle → new ≡ old) → OnErr r ((new ≡ old) × (after ≡ before))
expunge_refused (Ok n) old new b b2 handle handle2 before after err same = tt
expunge_refused (Err f) old new b b2 handle handle2 before after err same = (same err.0 err.1, err.2)

pub feed_refused : (r : Result ℕ FeedFault) (q : Result ℕ MailFault) (old new : DeliveryCore) (b b2 : Mailbox) (handle handle2 : CursorHandle) (before after : List ℕ) → q ≡ answer_of r → OnErr r ((b2 ≡ b) × (handle2 ≡ handle) × (after ≡ before)) → (b2 ≡ b → handle2 ≡ handle → new ≡ old) → OnErr q ((new ≡ old) × (after ≡ before))
feed_refused r q old new b b2 handle handle2 before after tells err same = subst (λ (z : Result ℕ MailFault). OnErr z ((new ≡ old) × (after ≡ before))) (sym tells) (go r err)
  where
    go : (z : Result ℕ FeedFault) → OnErr z ((b2 ≡ b) × (handle2 ≡ handle) × (after ≡ before)) → OnErr (answer_of z) ((new ≡ old) × (after ≡ before))
    go (Ok n) h = tt
    go (Err lapse.Stranger) h = (same h.0 h.1, h.2)
    go (Err lapse.Lapped) h = (same h.0 h.1, h.2)
    go (Err lapse.NoMemory) h = (same h.0 h.1, h.2)

-- ---- what the session counts then

fed_low : (b : Mailbox) (handle : CursorHandle) (j : ℕ) → IsSome (held b.cursors handle) → (let r : Result ℕ FeedFault = Ok j in r ≡ Err lapse.Lapped) ↔ IsLapped b handle → b.window.base ≤ handle.at
fed_low b handle j some lapses = elim (cases_lt handle.at b.window.base) [ inl under ↦ absurd (no_err (lapses.1 (some, under))) | inr over ↦ over ]
  where
    no_err : (let r : Result ℕ FeedFault = Ok j in r ≡ Err lapse.Lapped) → ⊥
    no_err h = cc

pub feed_saw : (old : DeliveryCore) (n p m : ℕ) (c : Client) (b b2 : Mailbox) (handle2 : CursorHandle) (vacant : Option Client) (limit : ℕ) (before after : List ℕ) (r : Result ℕ FeedFault) (q : Result ℕ MailFault)
    → AreAttached (cursors_of old.boxes) old.clients → client_at old.clients n ≡ Some c → p ≡ n → m ≡ c.mailbox → b ≡ get_or old.boxes m b → q ≡ answer_of r → (r ≡ Err lapse.Lapped) ↔ IsLapped b c.handle
    → IfOk r (λ j. j ≡ min limit (total b.window - c.handle.at)) → IfOk r (λ j. handle2 ≡ record c.handle { at = c.handle.at + j })
    → IfOk r (λ j. Updates b.cursors b2.cursors c.handle.slot (option_map (after_showing (next_changes b.window c.handle.at j)) (held b.cursors c.handle)))
    → IfOk r (λ j. IfSome (held b.cursors c.handle) (λ (o : Open). after ≡ before ++ lines o.view (next_changes b.window c.handle.at j)))
    → IfOk q (λ j. Sees old (record old { boxes = set old.boxes m b2; clients = set (set old.clients p vacant) p (Some (record { mailbox = c.mailbox; handle = handle2 })) }) n (take j (pending_for old n)) before after)
feed_saw old n p m c b b2 handle2 vacant limit before after r q S e place same there tells lapses count is moved written =
    subst (λ (z : Result ℕ MailFault). IfOk z (λ (j : ℕ). Sees old (record old { boxes = set old.boxes m b2; clients = set (set old.clients p vacant) p (Some (record { mailbox = c.mailbox; handle = handle2 })) }) n (take j (pending_for old n)) before after)) (sym tells) (go r lapses count is moved written)
  where
    some : IsSome (held b.cursors c.handle)
    some = known_at old.boxes old.clients n c b S e (there ∙ ap (λ (i : ℕ). get_or old.boxes i b) same)

    go : (z : Result ℕ FeedFault) → (z ≡ Err lapse.Lapped) ↔ IsLapped b c.handle → IfOk z (λ j. j ≡ min limit (total b.window - c.handle.at)) → IfOk z (λ j. handle2 ≡ record c.handle { at = c.handle.at + j })
        → IfOk z (λ j. Updates b.cursors b2.cursors c.handle.slot (option_map (after_showing (next_changes b.window c.handle.at j)) (held b.cursors c.handle)))
        → IfOk z (λ j. IfSome (held b.cursors c.handle) (λ (o : Open). after ≡ before ++ lines o.view (next_changes b.window c.handle.at j))) → IfOk (answer_of z) (λ (j : ℕ). Sees old (record old { boxes = set old.boxes m b2; clients = set (set old.clients p vacant) p (Some (record { mailbox = c.mailbox; handle = handle2 })) }) n (take j (pending_for old n)) before after)
    go (Ok j) lapses count is moved written =
        let long : length (next_changes b.window c.handle.at j) ≡ j = fed_length b.window c.handle.at j limit (fed_low b c.handle j some lapses) count in
        let all : next_changes b.window c.handle.at j ≡ take j (pending_for old n) = ap (take j) (sym (pending_here old n m c b S e same there)) in
        subst (λ (cs : List Change). Sees old (record old { boxes = set old.boxes m b2; clients = set (set old.clients p vacant) p (Some (record { mailbox = c.mailbox; handle = handle2 })) }) n cs before after) all
        (saw old n p m c b b2 handle2 vacant (next_changes b.window c.handle.at j) before after S e place same there moved
        (is ∙ ap (λ (i : ℕ). let y : CursorHandle = record { number = c.handle.number; slot = c.handle.slot; serial = c.handle.serial; at = c.handle.at + i } in y) (sym long)) written)
    go (Err lapse.Stranger) lapses count is moved written = tt
    go (Err lapse.Lapped) lapses count is moved written = tt
    go (Err lapse.NoMemory) lapses count is moved written = tt

pub feed_count : (old : DeliveryCore) (n m : ℕ) (c : Client) (b : Mailbox) (limit : ℕ) (r : Result ℕ FeedFault) (q : Result ℕ MailFault)
    → AreAttached (cursors_of old.boxes) old.clients → client_at old.clients n ≡ Some c → m ≡ c.mailbox → b ≡ get_or old.boxes m b → q ≡ answer_of r → (r ≡ Err lapse.Lapped) ↔ IsLapped b c.handle
    → IfOk r (λ j. j ≡ min limit (total b.window - c.handle.at)) → IfOk q (λ j. (j ≤ limit) × (length (take j (pending_for old n)) ≡ j))
feed_count old n m c b limit r q S e same there tells lapses count = subst (λ (z : Result ℕ MailFault). IfOk z (λ (j : ℕ). (j ≤ limit) × (length (take j (pending_for old n)) ≡ j))) (sym tells) (go r lapses count)
  where
    some : IsSome (held b.cursors c.handle)
    some = known_at old.boxes old.clients n c b S e (there ∙ ap (λ (i : ℕ). get_or old.boxes i b) same)

    go : (z : Result ℕ FeedFault) → (z ≡ Err lapse.Lapped) ↔ IsLapped b c.handle → IfOk z (λ j. j ≡ min limit (total b.window - c.handle.at)) → IfOk (answer_of z) (λ (j : ℕ). (j ≤ limit) × (length (take j (pending_for old n)) ≡ j))
    go (Ok j) lapses count = (omega (arith, count), ap (λ (cs : List Change). length (take j cs)) (pending_here old n m c b S e same there) ∙ fed_length b.window c.handle.at j limit (fed_low b c.handle j some lapses) count)
    go (Err lapse.Stranger) lapses count = tt
    go (Err lapse.Lapped) lapses count = tt
    go (Err lapse.NoMemory) lapses count = tt

pub expunge_saw : (old : DeliveryCore) (n p m : ℕ) (c : Client) (b b2 : Mailbox) (handle2 : CursorHandle) (vacant : Option Client) (before after : List ℕ) (r : Result ℕ MailFault)
    → AreAttached (cursors_of old.boxes) old.clients → client_at old.clients n ≡ Some c → p ≡ n → m ≡ c.mailbox → b ≡ get_or old.boxes m b → (r ≡ Err Lapped) ↔ IsLapped b c.handle
    → OnOk r (handle2 ≡ record c.handle { at = total b.window }) → OnOk r (c.handle.at ≤ total b.window)
    → OnOk r (Updates b.cursors b2.cursors c.handle.slot (option_map (after_showing (changes_from c.handle.at b.window)) (held b.cursors c.handle)))
    → OnOk r (IfSome (held b.cursors c.handle) (λ (o : Open). after ≡ before ++ lines o.view (changes_from c.handle.at b.window)))
    → OnOk r (Sees old (record old { boxes = set old.boxes m b2; clients = set (set old.clients p vacant) p (Some (record { mailbox = c.mailbox; handle = handle2 })) }) n (pending_for old n) before after)
expunge_saw old n p m c b b2 handle2 vacant before after (Ok j) S e place same there lapses is within moved written =
    subst (λ (cs : List Change). Sees old (record old { boxes = set old.boxes m b2; clients = set (set old.clients p vacant) p (Some (record { mailbox = c.mailbox; handle = handle2 })) }) n cs before after) (sym (pending_here old n m c b S e same there))
    (saw old n p m c b b2 handle2 vacant (changes_from c.handle.at b.window) before after S e place same there moved
    (is ∙ ap (λ (i : ℕ). let y : CursorHandle = record { number = c.handle.number; slot = c.handle.slot; serial = c.handle.serial; at = i } in y) whole) written)
  where
    no_err : Ok j ≡ Err Lapped → ⊥
    no_err h = cc

    some : IsSome (held b.cursors c.handle)
    some = known_at old.boxes old.clients n c b S e (there ∙ ap (λ (i : ℕ). get_or old.boxes i b) same)

    low : b.window.base ≤ c.handle.at
    low = elim (cases_lt c.handle.at b.window.base) [ inl under ↦ absurd (no_err (lapses.1 (some, under))) | inr over ↦ over ]

    whole : total b.window ≡ c.handle.at + length (changes_from c.handle.at b.window)
    whole = omega (arith, length-drop (c.handle.at - b.window.base) b.window.changes, low, within)
expunge_saw old n p m c b b2 handle2 vacant before after (Err f) S e place same there lapses is within moved written = tt

-- ---- where memory is refused, something was to be shown

back_memory : (r : Result ℕ FeedFault) → answer_of r ≡ Err NoMemory → r ≡ Err lapse.NoMemory
back_memory (Ok n) e = cc
back_memory (Err lapse.Stranger) e = cc
back_memory (Err lapse.Lapped) e = cc
back_memory (Err lapse.NoMemory) e = refl

pub feed_memory : (old : DeliveryCore) (n m : ℕ) (c : Client) (b : Mailbox) (limit : ℕ) (r : Result ℕ FeedFault) (q : Result ℕ MailFault)
    → AreAttached (cursors_of old.boxes) old.clients → client_at old.clients n ≡ Some c → m ≡ c.mailbox → b ≡ get_or old.boxes m b → q ≡ answer_of r → (r ≡ Err lapse.Lapped) ↔ IsLapped b c.handle
    → (r ≡ Err lapse.NoMemory → 0 < min limit (total b.window - c.handle.at)) → q ≡ Err NoMemory → 0 < length (take limit (pending_for old n))
feed_memory old n m c b limit r q S e same there tells lapses memory refused = go (cases_lt c.handle.at b.window.base)
  where
    is : r ≡ Err lapse.NoMemory
    is = back_memory r (sym tells ∙ refused)

    differ : (z : Result ℕ FeedFault) → z ≡ Err lapse.NoMemory → z ≡ Err lapse.Lapped → ⊥
    differ z x y = cc

    go : (c.handle.at < b.window.base) ⊎ (b.window.base ≤ c.handle.at) → 0 < length (take limit (pending_for old n))
    go (inl under) = absurd (differ r is (lapses.1 (known_at old.boxes old.clients n c b S e (there ∙ ap (λ (i : ℕ). get_or old.boxes i b) same), under)))
    go (inr over) =
        let all : length (take limit (pending_for old n)) ≡ length (take limit (changes_from c.handle.at b.window)) = ap (λ (cs : List Change). length (take limit cs)) (pending_here old n m c b S e same there) in
        omega (arith, all, length-take limit (changes_from c.handle.at b.window), length-drop (c.handle.at - b.window.base) b.window.changes, memory is, over)

pub expunge_memory : (old : DeliveryCore) (n m : ℕ) (c : Client) (b : Mailbox) (r : Result ℕ MailFault)
    → AreAttached (cursors_of old.boxes) old.clients → client_at old.clients n ≡ Some c → m ≡ c.mailbox → b ≡ get_or old.boxes m b → (r ≡ Err Lapped) ↔ IsLapped b c.handle
    → (r ≡ Err NoMemory → c.handle.at < total b.window) → r ≡ Err NoMemory → 0 < length (pending_for old n)
expunge_memory old n m c b r S e same there lapses memory refused = go (cases_lt c.handle.at b.window.base)
  where
    differ : (z : Result ℕ MailFault) → z ≡ Err NoMemory → z ≡ Err Lapped → ⊥
    differ z x y = cc

    go : (c.handle.at < b.window.base) ⊎ (b.window.base ≤ c.handle.at) → 0 < length (pending_for old n)
    go (inl under) = absurd (differ r refused (lapses.1 (known_at old.boxes old.clients n c b S e (there ∙ ap (λ (i : ℕ). get_or old.boxes i b) same), under)))
    go (inr over) = omega (arith, ap length (pending_here old n m c b S e same there), length-drop (c.handle.at - b.window.base) b.window.changes, memory refused, over)

-- ---- calls that were not refused

pub by_answer : (P : Type 0) (r : Result ℕ FeedFault) (q : Result ℕ MailFault) → q ≡ answer_of r → OnOk r P → OnOk q P
by_answer P (Ok n) q tells h = subst (λ (z : Result ℕ MailFault). OnOk z P) (sym tells) h
by_answer P (Err lapse.Stranger) q tells h = subst (λ (z : Result ℕ MailFault). OnOk z P) (sym tells) tt
by_answer P (Err lapse.Lapped) q tells h = subst (λ (z : Result ℕ MailFault). OnOk z P) (sym tells) tt
by_answer P (Err lapse.NoMemory) q tells h = subst (λ (z : Result ℕ MailFault). OnOk z P) (sym tells) tt

pub feed_done : (old : DeliveryCore) (n p m : ℕ) (c : Client) (b b2 : Mailbox) (handle2 : CursorHandle) (vacant : Option Client) (limit : ℕ) (before after : List ℕ) (r : Result ℕ FeedFault)
    → AreAttached (cursors_of old.boxes) old.clients → client_at old.clients n ≡ Some c → p ≡ n → m ≡ c.mailbox → b ≡ get_or old.boxes m b
    → (r ≡ Err lapse.Stranger) ↔ IsStranger b c.handle → (r ≡ Err lapse.Lapped) ↔ IsLapped b c.handle → OnErr r ((b2 ≡ b) × (handle2 ≡ c.handle) × (after ≡ before)) → IfOk r (λ j. j ≡ min limit (total b.window - c.handle.at))
    → IfOk r (λ j. (log : List Change) → Stands b log → after ≡ before ++ lines (view_at log c.handle.at) (next_of log c.handle.at j))
    → IfOk r (λ j. handle2 ≡ record c.handle { at = c.handle.at + j }) → KeepsLog b b2 → b2 ≡ record b { cursors = b2.cursors }
    → IfOk r (λ j. Updates b.cursors b2.cursors c.handle.slot (option_map (after_showing (next_changes b.window c.handle.at j)) (held b.cursors c.handle))) → b2.cursors.next ≡ b.cursors.next
    → OnOk r ((k : Config) → Makes k old n (λ x s. take limit (pending x s)) (λ x. []) (record old { boxes = set old.boxes m b2; clients = set (set old.clients p vacant) p (Some (record { mailbox = c.mailbox; handle = handle2 })) }))
feed_done old n p m c b b2 handle2 vacant limit before after (Ok j) S e place same there strange lapses err count shown is keeps_log rest moved next = λ k.
    moved_done k old n p m c b b2 handle2 vacant (λ x s. take limit (pending x s)) (λ x. []) (Feed n limit) (λ w v h. (h.0, h.1, with_memory k w n h.0 (take limit (pending (w.box h.0.mailbox) h.0)) [] v h.2)) e place same there
    (feed_moves b b2 c.handle handle2 limit before after (Ok j) some lapses err count is moved next)
    (λ x s box at ok shown_is. (
      (feed_box k b b2 x s c.handle handle2 limit before after false (Ok j) (λ f. cc) box at ok (feed_told k b x c.handle (Ok j) box ok some strange lapses) err count shown is keeps_log rest).0,
      taken k b x s c.handle [] (Ok j) j box at (feed_told k b x c.handle (Ok j) box ok some strange lapses) refl,
    ))
  where
    some : IsSome (held b.cursors c.handle)
    some = known_at old.boxes old.clients n c b S e (there ∙ ap (λ (i : ℕ). get_or old.boxes i b) same)
feed_done old n p m c b b2 handle2 vacant limit before after (Err f) S e place same there strange lapses err count shown is keeps_log rest moved next = tt

pub expunge_done : (old : DeliveryCore) (n p m : ℕ) (c : Client) (b b2 : Mailbox) (handle2 : CursorHandle) (vacant : Option Client) (test : ℕ → Bool) (before after : List ℕ) (cursors : CursorSet) (r : Result ℕ MailFault)
    → AreAttached (cursors_of old.boxes) old.clients → client_at old.clients n ≡ Some c → p ≡ n → m ≡ c.mailbox → b ≡ get_or old.boxes m b
    → (r ≡ Err Stranger) ↔ IsStranger b c.handle → (r ≡ Err Lapped) ↔ IsLapped b c.handle → (r ≡ Err Spent) ↔ (IsCurrent b c.handle × IsTooMany b (removals test (rows b)))
    → OnErr r ((b2 ≡ b) × (handle2 ≡ c.handle) × (after ≡ before)) → OnOk r ((log : List Change) → Stands b log → after ≡ before ++ lines (view_at log c.handle.at) (drop c.handle.at log))
    → OnOk r (handle2 ≡ record c.handle { at = total b.window }) → OnOk r (c.handle.at ≤ total b.window)
    → OnOk r (Updates b.cursors b2.cursors c.handle.slot (option_map (after_showing (changes_from c.handle.at b.window)) (held b.cursors c.handle))) → b2.cursors.next ≡ b.cursors.next
    → OnOk r (MailLogs b b2 (removals test (rows b))) → OnOk r (Moves cursors b.window b2.window (removals test (rows b)))
    → OnOk r (b2.messages ≡ remaining test b.messages) → OnOk r (b2 ≡ record b { messages = b2.messages; window = b2.window; cursors = b2.cursors }) → IfOk r (λ j. j ≡ length (removals test (rows b)))
    → OnOk r ((k : Config) → Makes k old n (λ x s. pending x s) (λ x. removals test (rows_of x.log)) (record old { boxes = set old.boxes m b2; clients = set (set old.clients p vacant) p (Some (record { mailbox = c.mailbox; handle = handle2 })) }))
expunge_done old n p m c b b2 handle2 vacant test before after cursors (Ok j) S e place same there strange lapses spends err shown is within moved next logs moves messages rest count = λ k.
    moved_done k old n p m c b b2 handle2 vacant (λ x s. pending x s) (λ x. removals test (rows_of x.log)) (Expunge n test) (λ w v h. (h.0, h.1, with_memory k w n h.0 (pending (w.box h.0.mailbox) h.0) (removals test (rows_of (w.box h.0.mailbox).log)) v h.2)) e place same there
    (expunge_moves b b2 c.handle handle2 before after (Ok j) some lapses err is within moved next)
    (λ x s box at ok past. (
      (expunge_box k b b2 x s c.handle handle2 test before after cursors false (Ok j) (λ f. cc) box at past tests err shown is logs moves messages rest count).0,
      subst (λ (rs : List Row). (x.base ≤ s.cursor) × (length x.log + length (removals test rs) ≤ most_changes)) (same_rows k b x box) (taken k b x s c.handle (removals test (rows b)) (Ok j) j box at tests refl),
    ))
  where
    some : IsSome (held b.cursors c.handle)
    some = known_at old.boxes old.clients n c b S e (there ∙ ap (λ (i : ℕ). get_or old.boxes i b) same)

    tests : Told (Ok j) b c.handle (removals test (rows b))
    tests = record { known = some; stranger = strange; lapsed = lapses; spent = spends }
expunge_done old n p m c b b2 handle2 vacant test before after cursors (Err f) S e place same there strange lapses spends err shown is within moved next logs moves messages rest count = tt
