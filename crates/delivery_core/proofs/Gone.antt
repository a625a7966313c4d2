-- A session enters a mailbox, and leaves it.
use Rattle.std.proofs.Common.{◌≡◌, ℕ, ◌+◌, ◌<◌, ◌≤◌, ◌⊎◌, inl, inr, Bool, true, false, List, [], length, map, get_or, set, refl, sym, ap, ap₂, ◌∙◌, arith, subst, length-set, Result, Ok, Err, Option, Some, None, IsSome, is_some}
use Rattle.std.specs.Prelude.{◌↔◌, if◌then◌else◌}
use Rattle.std.proofs.lemmas.Bool.{cases_lt}
use Rattle.change_ring.specs.declared.change.Change.{Change}
use Rattle.change_ring.specs.Log.{Row, rows_of, removals_if, total}
use Rattle.cursor_set.specs.Cursors.{CursorSet, Open, CursorHandle, Updates, held, in_slot}
use Rattle.mailbox.specs.declared.clients.MailFault.{MailFault}
use Rattle.mailbox.specs.declared.clients.MailFault.TheVariants.{Stranger, Lapped, Spent, NoMemory}
use Rattle.mailbox.specs.declared.clients.Opening.{Opening}
use Rattle.mailbox.specs.Events.{KeepsLog, Logs as MailLogs, Moves, IsStranger, IsTooMany}
use Rattle.mailbox.specs.Mailbox.{Mailbox, Message, next_uid as mail_uid, remaining, rows}
use Rattle.shard_queue.specs.Lane.{set_at}
use Rattle.world.specs.World.{Config, World, Session, Enter, EnterStep, enters, enter_spent, enter_no_memory, Leave, leaves, leave_spent, Selected, Step, most_changes, most_entries}
use Rattle.world.specs.Law.{IsPart}
use Rattle.world.proofs.Base.{part_self}
use Rattle.delivery_core.specs.declared.client.Client.{Client}
use Rattle.delivery_core.specs.DeliveryCore.{DeliveryCore}
use Rattle.delivery_core.specs.Attached.{AreAttached, client_at, cursors_at, cursors_of}
use Rattle.delivery_core.specs.Stands.{EachAt, StandsFor, StandsForBox, StandsForClient, StandsForPlace, text_of}
use Rattle.delivery_core.specs.Clients.{Leaves, Opens}
use Rattle.delivery_core.proofs.Boxes as boxed
use Rattle.delivery_core.proofs.Follow.{each_here, each_set, get_or-any, reached_step}
use Rattle.delivery_core.proofs.AttachedLaws.{SameElsewhere, HasSlot, cursors_get, cursors_set, length_cursors, own_slot, attached_after, vacant_slot}
use Rattle.delivery_core.proofs.MailBoxes.{Becomes, box_keeps, box_logs, remaining_part, same_rows}
use Rattle.delivery_core.proofs.Mailed.{known_at, mailbox_within, opened_at, opened_same, opened_set, session_at, stands_after}

-- ---- Leave

cursors_there : (boxes : List Mailbox) (m : ℕ) (b : Mailbox) → m < length boxes → b ≡ get_or boxes m b → cursors_at (cursors_of boxes) m ≡ b.cursors
cursors_there boxes m b l there = cursors_get boxes m b l ∙ ap (λ (z : Mailbox). z.cursors) (sym there)

-- a client is gone from its place, and its cursor from its slot
pub leave_attached : (boxes : List Mailbox) (clients : List (Option Client)) (n p m : ℕ) (c : Client) (b b2 : Mailbox) (vacant : Option Client) → AreAttached (cursors_of boxes) clients → client_at clients n ≡ Some c → p ≡ n → m ≡ c.mailbox → b ≡ get_or boxes m b → vacant ≡ None
    → Updates b.cursors b2.cursors c.handle.slot None → AreAttached (cursors_of (set boxes m b2)) (set clients p vacant)
leave_attached boxes clients n p m c b b2 vacant S e place same there empty closed =
    subst (λ (i : ℕ). AreAttached (cursors_of (set boxes m b2)) (set clients i vacant)) (sym place)
    (subst (λ (all : List CursorSet). AreAttached all (set clients n vacant)) (sym (cursors_set boxes m b2))
    (attached_after (cursors_of boxes) clients n m c.handle.slot b2.cursors vacant S (omega (arith, within, length_cursors boxes))
    (subst (λ (s : CursorSet). SameElsewhere s b2.cursors c.handle.slot) (sym (cursors_there boxes m b within there)) (record { number = closed.number; others = closed.others }))
    (λ j d other f one. own_slot (cursors_of boxes) clients n c S e j d other f (one ∙ same))
    (λ d f. absurd (nobody d (sym empty ∙ f)))))
  where
    within : m < length boxes
    within = mailbox_within boxes clients n m c S e same

    nobody : (d : Client) → None ≡ Some d → ⊥
    nobody d h = cc

leaving_part : (removing : Bool) (old new : List Message) → new ≡ (if removing then remaining (λ uid. true) old else old) → IsPart (map text_of new) (map text_of old)
leaving_part true old new e = remaining_part (λ uid. true) old new e
leaving_part false old new e = subst (λ (ms : List Message). IsPart (map text_of ms) (map text_of old)) (sym e) (part_self (map text_of old))

leave_room : (b : Mailbox) (handle : CursorHandle) (count : ℕ) (cs : List Change) → IsSome (held b.cursors handle) → (let r : Result ℕ (CursorHandle × MailFault) = Ok count in r ≡ Err (handle, Spent)) ↔ (IsSome (held b.cursors handle) × IsTooMany b cs) → total b.window + length cs ≤ most_changes
leave_room b handle count cs some spends = elim (cases_lt most_changes (total b.window + length cs)) [
  | inl many ↦ absurd (no_err (spends.1 (some, many)))
  | inr few ↦ few
]
  where
    no_err : (let r : Result ℕ (CursorHandle × MailFault) = Ok count in r ≡ Err (handle, Spent)) → ⊥
    no_err h = cc

pub leave_follows : (k : Config) (w : World) (old : DeliveryCore) (n p m : ℕ) (c : Client) (b b2 : Mailbox) (vacant : Option Client) (removing : Bool) (count : ℕ)
    → StandsFor k old w → client_at old.clients n ≡ Some c → p ≡ n → m ≡ c.mailbox → b ≡ get_or old.boxes m b → vacant ≡ None
    → (let r : Result ℕ (CursorHandle × MailFault) = Ok count in r ≡ Err (c.handle, Spent)) ↔ (IsSome (held b.cursors c.handle) × IsTooMany b (removals_if removing (rows b)))
    → MailLogs b b2 (removals_if removing (rows b)) → Moves b2.cursors b.window b2.window (removals_if removing (rows b)) → b2.messages ≡ (if removing then remaining (λ uid. true) b.messages else b.messages)
    → Updates b.cursors b2.cursors c.handle.slot None → b2.cursors.next ≡ b.cursors.next → b2 ≡ record b { messages = b2.messages; window = b2.window; cursors = b2.cursors } → count ≡ length (removals_if removing (rows b))
    → (v : World) × Step k w (Leave n removing) v × StandsFor k (record old { boxes = set old.boxes m b2; clients = set old.clients p vacant }) v × Selected w n (λ s. Leaves removing (Ok count) (w.box s.mailbox) s)
leave_follows k w old n p m c b b2 vacant removing count S e place same there empty spends logs moves messages closed next rest counted = go (session_at k w old n c S e)
  where
    within : m < length old.boxes
    within = mailbox_within old.boxes old.clients n m c S.attached e same

    some : IsSome (held b.cursors c.handle)
    some = known_at old.boxes old.clients n c b S.attached e (there ∙ ap (λ (i : ℕ). get_or old.boxes i b) same)

    go : (s : Session) × (w.session n ≡ Some s) × StandsForClient c s
        → (v : World) × Step k w (Leave n removing) v × StandsFor k (record old { boxes = set old.boxes m b2; clients = set old.clients p vacant }) v × Selected w n (λ s. Leaves removing (Ok count) (w.box s.mailbox) s)
    go (s, is, one) = done (subst (λ (rs : List Row). Becomes k (w.box s.mailbox) (removals_if removing rs) b2) (same_rows k b (w.box s.mailbox) here) became)
      where
        at : m ≡ s.mailbox
        at = same ∙ one.mailbox

        here : StandsForBox k b (w.box s.mailbox)
        here = subst (λ (i : ℕ). StandsForBox k b (w.box i)) at (subst (λ (x : Mailbox). StandsForBox k x (w.box m)) (sym there) (S.boxes m b within))

        became : Becomes k (w.box s.mailbox) (removals_if removing (rows b)) b2
        became = box_logs k b b2 (w.box s.mailbox) (removals_if removing (rows b)) b2.cursors here (omega (arith, leave_room b c.handle count (removals_if removing (rows b)) some spends, here.log.window.long)) logs moves
            (leaving_part removing b.messages b2.messages messages) (ap (λ (z : Mailbox). z.accepted) rest) (ap (λ (z : Mailbox). z.first_uid) rest) (ap (λ (z : Mailbox). z.limit) rest) (ap (λ (z : Mailbox). z.uidvalidity) rest)

        done : Becomes k (w.box s.mailbox) (removals_if removing (rows_of (w.box s.mailbox).log)) b2
            → (v : World) × Step k w (Leave n removing) v × StandsFor k (record old { boxes = set old.boxes m b2; clients = set old.clients p vacant }) v × Selected w n (λ s. Leaves removing (Ok count) (w.box s.mailbox) s)
        done (y, logged, box) =
            let v : World = record w { box = set_at w.box s.mailbox y; session = set_at w.session n None } in
            let made : Step k w (Leave n removing) v = (s, is, leaves y logged refl) in (
              v,
              made,
              stands_after k w v old (set old.boxes m b2) (set old.clients p vacant) S (reached_step k w (Leave n removing) v S.reached made)
                  (length-set old.boxes m b2) (length-set old.clients p vacant) refl refl refl refl
                  (subst (λ (j : ℕ). EachAt (λ i x. StandsForBox k x (set_at w.box j y i)) (set old.boxes m b2)) at
                  (each_set (λ x z. StandsForBox k x z) old.boxes w.box m b2 y S.boxes box))
                  (subst (λ (j : ℕ). EachAt (λ i x. StandsForPlace x (set_at w.session n None i)) (set old.clients j vacant)) (sym place)
                  (each_set (λ x z. StandsForPlace x z) old.clients w.session n vacant None S.clients (subst (λ (o : Option Client). StandsForPlace o None) (sym empty) tt)))
                  (opened_same old.boxes w.opened m b b2 S.opened within there next)
                  (leave_attached old.boxes old.clients n p m c b b2 vacant S.attached e place same there empty closed),
              (s, is, counted ∙ ap (λ (rs : List Row). length (removals_if removing rs)) (same_rows k b (w.box s.mailbox) here)),
            )

-- a client that is known is refused for want of room alone
pub leave_fault : (b : Mailbox) (handle : CursorHandle) (e : CursorHandle × MailFault) → IsSome (held b.cursors handle) → (let r : Result ℕ (CursorHandle × MailFault) = Err e in r ≡ Err (handle, Stranger)) ↔ IsStranger b handle
    → e.0 ≡ handle → (e.1 ≡ Stranger) ⊎ (e.1 ≡ Spent) → e.1 ≡ Spent
leave_fault b handle e some strange back (inl is) = absurd (nobody (held b.cursors handle) some (strange.0 (pair e back is)))
  where
    nobody : (o : Option Open) → IsSome o → o ≡ None → ⊥
    nobody None h f = cc
    nobody (Some o) h f = cc

    pair : (d : CursorHandle × MailFault) → d.0 ≡ handle → d.1 ≡ Stranger → (let r : Result ℕ (CursorHandle × MailFault) = Err d in r ≡ Err (handle, Stranger))
    pair d a f = ap₂ (λ (z : CursorHandle) (g : MailFault). let r : Result ℕ (CursorHandle × MailFault) = Err (z, g) in r) a f
leave_fault b handle e some strange back (inr is) = is

pub leave_refused : (k : Config) (w : World) (old : DeliveryCore) (n m : ℕ) (c : Client) (b : Mailbox) (e : CursorHandle × MailFault) (removing : Bool)
    → StandsFor k old w → client_at old.clients n ≡ Some c → m ≡ c.mailbox → b ≡ get_or old.boxes m b → e.0 ≡ c.handle → e.1 ≡ Spent
    → (let r : Result ℕ (CursorHandle × MailFault) = Err e in r ≡ Err (c.handle, Spent)) ↔ (IsSome (held b.cursors c.handle) × IsTooMany b (removals_if removing (rows b)))
    → (v : World) × Step k w (Leave n removing) v × StandsFor k old v × Selected w n (λ s. Leaves removing (Err e.1) (w.box s.mailbox) s)
leave_refused k w old n m c b e removing S client same there back is spends = go (session_at k w old n c S client)
  where
    within : m < length old.boxes
    within = mailbox_within old.boxes old.clients n m c S.attached client same

    pair : (d : CursorHandle × MailFault) → d.0 ≡ c.handle → d.1 ≡ Spent → (let r : Result ℕ (CursorHandle × MailFault) = Err d in r ≡ Err (c.handle, Spent))
    pair d a f = ap₂ (λ (z : CursorHandle) (g : MailFault). let r : Result ℕ (CursorHandle × MailFault) = Err (z, g) in r) a f

    go : (s : Session) × (w.session n ≡ Some s) × StandsForClient c s → (v : World) × Step k w (Leave n removing) v × StandsFor k old v × Selected w n (λ s. Leaves removing (Err e.1) (w.box s.mailbox) s)
    go (s, has, one) =
        let here : StandsForBox k b (w.box s.mailbox) = subst (λ (i : ℕ). StandsForBox k b (w.box i)) (same ∙ one.mailbox) (subst (λ (x : Mailbox). StandsForBox k x (w.box m)) (sym there) (S.boxes m b within)) in
        let both : IsSome (held b.cursors c.handle) × IsTooMany b (removals_if removing (rows b)) = spends.0 (pair e back is) in
        let many : most_changes < length (w.box s.mailbox).log + length (removals_if removing (rows b)) = omega (arith, both.1, here.log.window.long) in
        let full : most_changes < length (w.box s.mailbox).log + length (removals_if removing (rows_of (w.box s.mailbox).log)) = subst (λ (rs : List Row). most_changes < length (w.box s.mailbox).log + length (removals_if removing rs)) (same_rows k b (w.box s.mailbox) here) many in
        (w, (s, has, leave_spent full refl), S, (s, has, subst (λ (f : MailFault). Leaves removing (Err f) (w.box s.mailbox) s) (sym is) full))

pub left_only : (clients : List (Option Client)) (n : ℕ) (c : Client) (fault : MailFault) → client_at clients n ≡ Some c → fault ≡ Spent → (let r : Result ℕ MailFault = Err fault in r ≡ Err Stranger) ↔ (client_at clients n ≡ None)
left_only clients n c fault e is = (λ f. absurd (differ fault is f), λ none. absurd (nobody (sym e ∙ none)))
  where
    nobody : Some c ≡ None → ⊥
    nobody h = cc

    differ : (f : MailFault) → f ≡ Spent → (let r : Result ℕ MailFault = Err f in r ≡ Err Stranger) → ⊥
    differ f a h = cc

pub leave_stays : (k : Config) (w : World) (old new : DeliveryCore) (n : ℕ) (removing : Bool) (fault : MailFault) → new ≡ old
    → (v : World) × Step k w (Leave n removing) v × StandsFor k old v × Selected w n (λ s. Leaves removing (Err fault) (w.box s.mailbox) s)
    → (v : World) × Step k w (Leave n removing) v × StandsFor k new v × Selected w n (λ s. Leaves removing (Err fault) (w.box s.mailbox) s)
leave_stays k w old new n removing fault same (v, step, stands, told) = (v, step, subst (λ (h : DeliveryCore). StandsFor k h v) (sym same) stands, told)

-- ---- Enter

-- no client stands at a place where there is none
pub place_free : (clients : List (Option Client)) (p n : ℕ) (o : Option Client) (b : Bool) → p ≡ n → p < length clients → o ≡ get_or clients p o → b ≡ is_some o → b ≡ false → client_at clients n ≡ None
place_free clients p n o b place l there tells no_one = ap (client_at clients) (sym place) ∙ get_or-any clients p None o l ∙ sym there ∙ nobody o (sym tells ∙ no_one)
  where
    nobody : (x : Option Client) → is_some x ≡ false → x ≡ None
    nobody None h = refl
    nobody (Some d) h = cc

no_session : (x : Option Session) → StandsForPlace None x → x ≡ None
no_session None h = refl
no_session (Some s) h = absurd h

session_none : (k : Config) (w : World) (old : DeliveryCore) (n : ℕ) → StandsFor k old w → n < length old.clients → client_at old.clients n ≡ None → w.session n ≡ None
session_none k w old n S l none = no_session (w.session n) (subst (λ (o : Option Client). StandsForPlace o (w.session n)) none (S.clients n None l))

pub enter_attached : (boxes : List Mailbox) (clients : List (Option Client)) (n p m i : ℕ) (b b2 : Mailbox) (handle : CursorHandle) (o : Open) → AreAttached (cursors_of boxes) clients → p ≡ n → i ≡ m → i < length boxes → b ≡ get_or boxes i b
    → Updates b.cursors b2.cursors handle.slot (Some o) → in_slot b.cursors handle.slot ≡ None → IsSome (held b2.cursors handle) → AreAttached (cursors_of (set boxes i b2)) (set clients p (Some (record { mailbox = m; handle = handle })))
enter_attached boxes clients n p m i b b2 handle o S place same within there opened vacant known =
    subst (λ (j : ℕ). AreAttached (cursors_of (set boxes i b2)) (set clients j (Some (record { mailbox = m; handle = handle })))) (sym place)
    (subst (λ (all : List CursorSet). AreAttached all (set clients n (Some (record { mailbox = m; handle = handle })))) (sym (cursors_set boxes i b2))
    (attached_after (cursors_of boxes) clients n i handle.slot b2.cursors (Some (record { mailbox = m; handle = handle })) S (omega (arith, within, length_cursors boxes))
    (subst (λ (s : CursorSet). SameElsewhere s b2.cursors handle.slot) (sym was) (record { number = opened.number; others = opened.others }))
    (λ j d other f one. vacant_slot (cursors_of boxes) clients i handle.slot S (ap (λ (s : CursorSet). in_slot s handle.slot) was ∙ vacant) j d f one)
    (λ d f. subst (HasSlot i handle.slot b2.cursors) (same_client _ d f) (record { mailbox_is = sym same; slot_is = refl; known = known }))))
  where
    was : cursors_at (cursors_of boxes) i ≡ b.cursors
    was = cursors_there boxes i b within there

    same_client : (a d : Client) → Some a ≡ Some d → a ≡ d
    same_client a d h = cc

pub enter_follows : (k : Config) (w : World) (old : DeliveryCore) (n p m i : ℕ) (b b2 : Mailbox) (handle : CursorHandle) (o : Open) (opening : Opening)
    → StandsFor k old w → n < length old.clients → client_at old.clients n ≡ None → p ≡ n → i ≡ m → i < length old.boxes → b ≡ get_or old.boxes i b
    → Updates b.cursors b2.cursors handle.slot (Some o) → in_slot b.cursors handle.slot ≡ None → IsSome (held b2.cursors handle) → handle.at ≡ total b.window → KeepsLog b b2 → b2 ≡ record b { cursors = b2.cursors }
    → opening.count ≡ length b.messages → opening.uidnext ≡ mail_uid b → b2.cursors.next ≡ b.cursors.next + 1 → b.cursors.next < most_entries
    → (v : World) × Step k w (Enter n m) v × StandsFor k (record old { boxes = set old.boxes i b2; clients = set old.clients p (Some (record { mailbox = m; handle = handle })) }) v × Opens k w m (Ok opening)
enter_follows k w old n p m i b b2 handle o opening S l none place same within there opened vacant known at same_log rest count uidnext next left =
    let s : Session = record { mailbox = m; start = length (w.box m).log; cursor = length (w.box m).log; shown = [] } in
    let v : World = record w { session = set_at w.session n (Some s); opened = set_at w.opened m (w.opened m + 1) } in
    let made : EnterStep k w n m v = enters (omega (arith, l, S.sessions)) (omega (arith, within, same, S.mailboxes)) (session_none k w old n S l none) (omega (arith, was, left)) refl in (
      v,
      made,
      stands_after k w v old (set old.boxes i b2) (set old.clients p (Some (record { mailbox = m; handle = handle }))) S (reached_step k w (Enter n m) v S.reached made)
          (length-set old.boxes i b2) (length-set old.clients p _) refl refl refl refl
          (each_here (λ j x. StandsForBox k x (w.box j)) old.boxes i b2 S.boxes (box_keeps k b b2 (w.box i) b2.cursors before same_log rest))
          (subst (λ (j : ℕ). EachAt (λ q x. StandsForPlace x (set_at w.session n (Some s) q)) (set old.clients j (Some (record { mailbox = m; handle = handle })))) (sym place)
          (each_set (λ x z. StandsForPlace x z) old.clients w.session n (Some (record { mailbox = m; handle = handle })) (Some s) S.clients (record { mailbox = refl; cursor = omega (arith, at, here.log.window.long) })))
          (subst (λ (j : ℕ). EachAt (λ q s. s.next ≡ set_at w.opened j (w.opened m + 1) q) (cursors_of (set old.boxes i b2))) same (opened_set old.boxes w.opened i (w.opened m + 1) b2 S.opened (omega (arith, next, was))))
          (enter_attached old.boxes old.clients n p m i b b2 handle o S.attached place same within there opened vacant known),
      (count ∙ boxed.same_rows k b (w.box m) here, uidnext ∙ boxed.same_uid k b (w.box m) here),
    )
  where
    was : b.cursors.next ≡ w.opened m
    was = opened_at old.boxes w.opened i b S.opened within there ∙ ap w.opened same

    before : StandsForBox k b (w.box i)
    before = subst (λ (x : Mailbox). StandsForBox k x (w.box i)) (sym there) (S.boxes i b within)

    here : StandsForBox k b (w.box m)
    here = subst (λ (j : ℕ). StandsForBox k b (w.box j)) same before

-- it may enter, and isn't let in for this
abbrev WaitsFor : World → ℕ → MailFault → Type 0
WaitsFor w m Spent = most_entries ≤ w.opened m
WaitsFor w m NoMemory = w.opened m < most_entries
WaitsFor w m fault = ⊥

turned : (k : Config) (w : World) (n m : ℕ) (fault : MailFault) → n < k.sessions → m < k.mailboxes → w.session n ≡ None → WaitsFor w m fault → EnterStep k w n m w × Opens k w m (Err fault)
turned k w n m Spent a b c why = (enter_spent a b c why refl, why)
turned k w n m NoMemory a b c why = (enter_no_memory a b c why refl, why)
turned k w n m Stranger a b c why = absurd why
turned k w n m Lapped a b c why = absurd why

pub waits_spent : (w : World) (m s : ℕ) → s ≡ w.opened m → most_entries ≤ s → WaitsFor w m Spent
waits_spent w m s is h = omega (arith, is, h)

pub waits_memory : (w : World) (m s : ℕ) → s ≡ w.opened m → s < most_entries → WaitsFor w m NoMemory
waits_memory w m s is h = omega (arith, is, h)

-- no serial is left where no cursor can be opened
pub none_left : (can : Bool) (next : ℕ) → (can ≡ true) ↔ (next < most_entries) → can ≡ false → most_entries ≤ next
none_left can next tells is = elim (cases_lt next most_entries) [
  | inl left ↦ absurd (both can (tells.1 left) is)
  | inr none ↦ none
]
  where
    both : (b : Bool) → b ≡ true → b ≡ false → ⊥
    both true h f = cc
    both false h f = cc

pub enter_refused : (k : Config) (w : World) (old new : DeliveryCore) (n m i : ℕ) (fault : MailFault) → WaitsFor w m fault → StandsFor k old w → n < length old.clients → client_at old.clients n ≡ None → i ≡ m → i < length old.boxes → new ≡ old
    → (v : World) × Step k w (Enter n m) v × StandsFor k new v × Opens k w m (Err fault)
enter_refused k w old new n m i fault why S l none same within unchanged =
    let t = turned k w n m fault (omega (arith, l, S.sessions)) (omega (arith, within, same, S.mailboxes)) (session_none k w old n S l none) why in
    (w, t.0, subst (λ (h : DeliveryCore). StandsFor k h w) (sym unchanged) S, t.1)
