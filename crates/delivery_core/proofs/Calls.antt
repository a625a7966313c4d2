-- Each call of a session, from what its mailbox answered.
use Rattle.std.proofs.Common.{◌≡◌, ℕ, ◌+◌, ◌≤◌, Bool, true, false, List, [], length, map, get_or, set, refl, sym, ap, ◌∙◌, subst, Result, Ok, Err, Option, Some, None}
use Rattle.std.specs.Prelude.{◌↔◌, option_map, OnOk, OnErr, IfOk}
use Rattle.change_ring.specs.declared.change.Change.{Change}
use Rattle.change_ring.specs.declared.change.Flags.{Flags}
use Rattle.change_ring.specs.declared.flag_op.FlagOp.{FlagOp}
use Rattle.change_ring.specs.Log.{Row, rows_of, flags_logged, seen_logged}
use Rattle.mailbox.specs.declared.clients.MailFault.{MailFault}
use Rattle.mailbox.specs.declared.clients.MailFault.TheVariants.{Stranger, Lapped, Spent, NoMemory}
use Rattle.mailbox.specs.declared.clients.Row as read
use Rattle.mailbox.specs.Events.{Logs as MailLogs, Moves, IsTooMany, IsStranger, IsLapped, IsCurrent, seen_after, was_logged}
use Rattle.mailbox.specs.Mailbox.{Mailbox, Message, row_of, rows, flagged, message_with}
use Rattle.world.specs.World.{Config, World, Box, Session, Event, MailStep, Read, Selected, Step, Store, most_changes}
use Rattle.world.specs.Law.{IsPart}
use Rattle.world.proofs.Base.{part_both}
use Rattle.world.proofs.Kept.{BoxOk}
use Rattle.delivery_token.specs.Text.{Text}
use Rattle.delivery_core.specs.declared.client.Client.{Client}
use Rattle.delivery_core.specs.DeliveryCore.{DeliveryCore}
use Rattle.delivery_core.specs.Attached.{AreAttached, client_at, cursors_of}
use Rattle.delivery_core.specs.Stands.{StandsFor, StandsForBox, text_of, accepted_text}
use Rattle.delivery_core.specs.Clients.{Reads, Alters, Makes, Refuses, read_of, flags_of, text_with}
use Rattle.delivery_core.proofs.MailBoxes.{Told, box_still, flagged_part, no_stranger, row_after, same_rows, seen_part, taken, text_told, turned_away}
use Rattle.delivery_core.proofs.Follow.{reached_step}
use Rattle.delivery_core.proofs.Mailed.{known_at, still_done, still_follow, with_memory}

ok_map : {T E : Type 0} (P Q : Type 0) (r : Result T E) → (P → Q) → OnOk r P → OnOk r Q
ok_map P Q (Ok x) f h = f h
ok_map P Q (Err x) f h = tt

-- ---- Read

-- what a read answers of a message
abbrev row_read : Bool → ℕ → List Row → Message → read.Row
row_read mark_seen uid rs m = record { uid = m.uid; flags = m.flags; newly_seen = was_logged (seen_logged mark_seen rs uid); text = m.text }

pub read_tells : (k : Config) (b b2 : Mailbox) (x : Box) (mark_seen : Bool) (uid : ℕ) → StandsForBox k b x → BoxOk k x → MailLogs b b2 (seen_logged mark_seen (rows b) uid) → IsPart (map text_of b2.messages) (map accepted_text x.accepted)
    → option_map (row_read mark_seen uid (rows b)) (message_with uid b2.messages) ≡ read_of mark_seen uid x
read_tells k b b2 x mark_seen uid S ok logs texts =
    ap (λ (rs : List Row). option_map (row_read mark_seen uid rs) (message_with uid b2.messages)) (same_rows k b x S)
    ∙ (go (message_with uid b2.messages) refl ∙ ap (option_map after) (sym (row_after k b b2 x uid (λ rs. seen_logged mark_seen rs uid) S logs)))
  where
    after : Row → read.Row
    after = λ row. record { uid = row.uid; flags = row.flags; newly_seen = was_logged (seen_logged mark_seen (rows_of x.log) uid); text = text_with uid x.accepted }

    go : (o : Option Message) → message_with uid b2.messages ≡ o → option_map (row_read mark_seen uid (rows_of x.log)) o ≡ option_map after (option_map row_of o)
    go None e = refl
    go (Some m) e = ap (λ (t : Text). let row : read.Row = record { uid = m.uid; flags = m.flags; newly_seen = was_logged (seen_logged mark_seen (rows_of x.log) uid); text = t } in Some row)
        (text_told k x b2.messages uid m ok texts e)

-- a call's tests of its handle
told : {T : Type 0} (r : Result T MailFault) (old : DeliveryCore) (n m : ℕ) (c : Client) (b : Mailbox) (cs : List Change) → AreAttached (cursors_of old.boxes) old.clients → client_at old.clients n ≡ Some c → m ≡ c.mailbox → b ≡ get_or old.boxes m b
    → (r ≡ Err Stranger) ↔ IsStranger b c.handle → (r ≡ Err Lapped) ↔ IsLapped b c.handle → (r ≡ Err Spent) ↔ (IsCurrent b c.handle × IsTooMany b cs) → Told r b c.handle cs
told r old n m c b cs S e same there strange lapses spends = record {
  known = known_at old.boxes old.clients n c b S e (there ∙ ap (λ (i : ℕ). get_or old.boxes i b) same);
  stranger = strange;
  lapsed = lapses;
  spent = spends;
}

-- where a client stands no call answers that it is a stranger
pub not_strange : {T : Type 0} (r : Result T MailFault) (boxes : List Mailbox) (clients : List (Option Client)) (n m : ℕ) (c : Client) (b : Mailbox) → AreAttached (cursors_of boxes) clients → client_at clients n ≡ Some c → m ≡ c.mailbox → b ≡ get_or boxes m b
    → (r ≡ Err Stranger) ↔ IsStranger b c.handle → (r ≡ Err Stranger) ↔ (client_at clients n ≡ None)
not_strange r boxes clients n m c b S e same there strange = (
  λ f. absurd (no_stranger r b c.handle (known_at boxes clients n c b S e (there ∙ ap (λ (i : ℕ). get_or boxes i b) same)) strange f),
  λ none. nobody (sym e ∙ none),
)
  where
    nobody : Some c ≡ None → r ≡ Err Stranger
    nobody h = cc

pub read_follows : (k : Config) (w : World) (old : DeliveryCore) (n m : ℕ) (c : Client) (b b2 : Mailbox) (uid : ℕ) (mark_seen : Bool) (r : Result (Option read.Row) MailFault)
    → StandsFor k old w → client_at old.clients n ≡ Some c → m ≡ c.mailbox → b ≡ get_or old.boxes m b
    → (r ≡ Err Stranger) ↔ IsStranger b c.handle → (r ≡ Err Lapped) ↔ IsLapped b c.handle → (r ≡ Err Spent) ↔ (IsCurrent b c.handle × IsTooMany b (seen_logged mark_seen (rows b) uid))
    → OnErr r (b2 ≡ b) → OnOk r (MailLogs b b2 (seen_logged mark_seen (rows b) uid)) → OnOk r (Moves b.cursors b.window b2.window (seen_logged mark_seen (rows b) uid)) → OnOk r (b2.messages ≡ seen_after mark_seen uid b.messages)
    → b2 ≡ record b { messages = b2.messages; window = b2.window } → IfOk r (λ row. row ≡ option_map (row_read mark_seen uid (rows b)) (message_with uid b2.messages))
    → (v : World) × Step k w (Read n uid mark_seen) v × StandsFor k (record old { boxes = set old.boxes m b2 }) v × Selected w n (λ s. Reads mark_seen uid r (w.box s.mailbox) s)
read_follows k w old n m c b b2 uid mark_seen r S e same there strange lapses spends err logs moves messages rest row =
    still_follow k w old n m c b b2 true (λ x. seen_logged mark_seen (rows_of x.log) uid) (λ x s. Reads mark_seen uid r x s) (λ v. Step k w (Read n uid mark_seen) v) (λ v. reached_step k w (Read n uid mark_seen) v S.reached) (λ v h. h) S e same there (ap (λ (z : Mailbox). z.cursors) rest)
    (λ x s box at ok shown. (
      box_still k b b2 x s c.handle true (λ rs. seen_logged mark_seen rs uid) r box at tests (λ f. refl) err logs moves (ok_map _ _ r (seen_part mark_seen uid b.messages b2.messages) messages) rest,
      tells r x s box at ok tests logs messages row,
    ))
  where
    tests : Told r b c.handle (seen_logged mark_seen (rows b) uid)
    tests = told r old n m c b (seen_logged mark_seen (rows b) uid) S.attached e same there strange lapses spends

    tells : (q : Result (Option read.Row) MailFault) (x : Box) (s : Session) → StandsForBox k b x → c.handle.at ≡ s.cursor → BoxOk k x → Told q b c.handle (seen_logged mark_seen (rows b) uid) → OnOk q (MailLogs b b2 (seen_logged mark_seen (rows b) uid))
        → OnOk q (b2.messages ≡ seen_after mark_seen uid b.messages) → IfOk q (λ row. row ≡ option_map (row_read mark_seen uid (rows b)) (message_with uid b2.messages)) → Reads mark_seen uid q x s
    tells (Ok t) x s box at ok h l ms is = (
      (taken k b x s c.handle (seen_logged mark_seen (rows b) uid) (Ok t) t box at h refl).0,
      is ∙ read_tells k b b2 x mark_seen uid box ok l (part_both box.texts (seen_part mark_seen uid b.messages b2.messages ms)),
    )
    tells (Err f) x s box at ok h l ms is = subst (λ (rs : List Row). Refuses f (seen_logged mark_seen rs uid) x s) (same_rows k b x box) (turned_away k b x s c.handle (seen_logged mark_seen (rows b) uid) (Err f) f box at h refl)

-- ---- Store

alter_tells : (k : Config) (b b2 : Mailbox) (x : Box) (uid : ℕ) (op : FlagOp) → StandsForBox k b x → MailLogs b b2 (flags_logged (rows b) uid op) → option_map (λ (m : Message). m.flags) (message_with uid b2.messages) ≡ flags_of uid op x
alter_tells k b b2 x uid op S logs = go (message_with uid b2.messages) ∙ ap (option_map (λ (row : Row). row.flags)) (sym (row_after k b b2 x uid (λ rs. flags_logged rs uid op) S logs))
  where
    go : (o : Option Message) → option_map (λ (m : Message). m.flags) o ≡ option_map (λ (row : Row). row.flags) (option_map row_of o)
    go None = refl
    go (Some m) = refl

pub store_follows : (k : Config) (w : World) (old : DeliveryCore) (n m : ℕ) (c : Client) (b b2 : Mailbox) (uid : ℕ) (op : FlagOp) (r : Result (Option Flags) MailFault)
    → StandsFor k old w → client_at old.clients n ≡ Some c → m ≡ c.mailbox → b ≡ get_or old.boxes m b
    → (r ≡ Err Stranger) ↔ IsStranger b c.handle → (r ≡ Err Lapped) ↔ IsLapped b c.handle → (r ≡ Err Spent) ↔ (IsCurrent b c.handle × IsTooMany b (flags_logged (rows b) uid op)) → (r ≡ Err NoMemory → ⊥)
    → OnErr r (b2 ≡ b) → OnOk r (MailLogs b b2 (flags_logged (rows b) uid op)) → OnOk r (Moves b.cursors b.window b2.window (flags_logged (rows b) uid op)) → OnOk r (b2.messages ≡ flagged uid op b.messages)
    → b2 ≡ record b { messages = b2.messages; window = b2.window } → IfOk r (λ flags. flags ≡ option_map (λ (x : Message). x.flags) (message_with uid b2.messages))
    → (v : World) × Step k w (Store n uid op) v × StandsFor k (record old { boxes = set old.boxes m b2 }) v × Selected w n (λ s. Alters uid op r (w.box s.mailbox) s)
store_follows k w old n m c b b2 uid op r S e same there strange lapses spends memory err logs moves messages rest flags =
    still_follow k w old n m c b b2 false (λ x. flags_logged (rows_of x.log) uid op) (λ x s. Alters uid op r x s) (λ v. Step k w (Store n uid op) v) (λ v. reached_step k w (Store n uid op) v S.reached) (λ v h. h) S e same there (ap (λ (z : Mailbox). z.cursors) rest)
    (λ x s box at ok shown. (
      box_still k b b2 x s c.handle false (λ rs. flags_logged rs uid op) r box at tests (λ f. absurd (memory f)) err logs moves (ok_map _ _ r (flagged_part uid op b.messages b2.messages) messages) rest,
      tells r x s box at tests logs flags,
    ))
  where
    tests : Told r b c.handle (flags_logged (rows b) uid op)
    tests = told r old n m c b (flags_logged (rows b) uid op) S.attached e same there strange lapses spends

    tells : (q : Result (Option Flags) MailFault) (x : Box) (s : Session) → StandsForBox k b x → c.handle.at ≡ s.cursor → Told q b c.handle (flags_logged (rows b) uid op) → OnOk q (MailLogs b b2 (flags_logged (rows b) uid op))
        → IfOk q (λ flags. flags ≡ option_map (λ (x : Message). x.flags) (message_with uid b2.messages)) → Alters uid op q x s
    tells (Ok t) x s box at h l is = (
      (taken k b x s c.handle (flags_logged (rows b) uid op) (Ok t) t box at h refl).0,
      is ∙ alter_tells k b b2 x uid op box l,
    )
    tells (Err f) x s box at h l is = subst (λ (rs : List Row). Refuses f (flags_logged rs uid op) x s) (same_rows k b x box) (turned_away k b x s c.handle (flags_logged (rows b) uid op) (Err f) f box at h refl)

-- ---- calls that were not refused

logs_done : {T : Type 0} (old : DeliveryCore) (n m : ℕ) (c : Client) (b b2 : Mailbox) (logged : List Row → List Change) (event : Event) (r : Result T MailFault)
    → ((k : Config) (w v : World) → Selected w n (λ s. MailStep k w n s false [] (logged (rows_of (w.box s.mailbox).log)) v) → Step k w event v)
    → AreAttached (cursors_of old.boxes) old.clients → client_at old.clients n ≡ Some c → m ≡ c.mailbox → b ≡ get_or old.boxes m b
    → (r ≡ Err Stranger) ↔ IsStranger b c.handle → (r ≡ Err Lapped) ↔ IsLapped b c.handle → (r ≡ Err Spent) ↔ (IsCurrent b c.handle × IsTooMany b (logged (rows b)))
    → OnErr r (b2 ≡ b) → OnOk r (MailLogs b b2 (logged (rows b))) → OnOk r (Moves b.cursors b.window b2.window (logged (rows b))) → OnOk r (IsPart (map text_of b2.messages) (map text_of b.messages))
    → b2 ≡ record b { messages = b2.messages; window = b2.window } → OnOk r ((k : Config) → Makes k old n (λ x s. []) (λ x. logged (rows_of x.log)) (record old { boxes = set old.boxes m b2 }))
logs_done old n m c b b2 logged event (Ok t) as_step S e same there strange lapses spends err logs moves texts rest = λ k.
    still_done k old n m c b b2 (λ x. logged (rows_of x.log)) event (as_step k) e same there (ap (λ (z : Mailbox). z.cursors) rest)
    (λ x s box at ok shown. (
      box_still k b b2 x s c.handle false logged (Ok t) box at tests (λ f. cc) err logs moves texts rest,
      subst (λ (rs : List Row). (x.base ≤ s.cursor) × (length x.log + length (logged rs) ≤ most_changes)) (same_rows k b x box) (taken k b x s c.handle (logged (rows b)) (Ok t) t box at tests refl),
    ))
  where
    tests : Told (Ok t) b c.handle (logged (rows b))
    tests = told (Ok t) old n m c b (logged (rows b)) S e same there strange lapses spends
logs_done old n m c b b2 logged event (Err f) as_step S e same there strange lapses spends err logs moves texts rest = tt

pub read_done : (old : DeliveryCore) (n m : ℕ) (c : Client) (b b2 : Mailbox) (uid : ℕ) (mark_seen : Bool) (r : Result (Option read.Row) MailFault)
    → AreAttached (cursors_of old.boxes) old.clients → client_at old.clients n ≡ Some c → m ≡ c.mailbox → b ≡ get_or old.boxes m b
    → (r ≡ Err Stranger) ↔ IsStranger b c.handle → (r ≡ Err Lapped) ↔ IsLapped b c.handle → (r ≡ Err Spent) ↔ (IsCurrent b c.handle × IsTooMany b (seen_logged mark_seen (rows b) uid))
    → OnErr r (b2 ≡ b) → OnOk r (MailLogs b b2 (seen_logged mark_seen (rows b) uid)) → OnOk r (Moves b.cursors b.window b2.window (seen_logged mark_seen (rows b) uid)) → OnOk r (b2.messages ≡ seen_after mark_seen uid b.messages)
    → b2 ≡ record b { messages = b2.messages; window = b2.window } → OnOk r ((k : Config) → Makes k old n (λ x s. []) (λ x. seen_logged mark_seen (rows_of x.log) uid) (record old { boxes = set old.boxes m b2 }))
read_done old n m c b b2 uid mark_seen r S e same there strange lapses spends err logs moves messages rest =
    logs_done old n m c b b2 (λ rs. seen_logged mark_seen rs uid) (Read n uid mark_seen) r (λ k w v h. (h.0, h.1, with_memory k w n h.0 [] (seen_logged mark_seen (rows_of (w.box h.0.mailbox).log) uid) v h.2)) S e same there
    strange lapses spends err logs moves (ok_map _ _ r (seen_part mark_seen uid b.messages b2.messages) messages) rest

pub store_done : (old : DeliveryCore) (n m : ℕ) (c : Client) (b b2 : Mailbox) (uid : ℕ) (op : FlagOp) (r : Result (Option Flags) MailFault)
    → AreAttached (cursors_of old.boxes) old.clients → client_at old.clients n ≡ Some c → m ≡ c.mailbox → b ≡ get_or old.boxes m b
    → (r ≡ Err Stranger) ↔ IsStranger b c.handle → (r ≡ Err Lapped) ↔ IsLapped b c.handle → (r ≡ Err Spent) ↔ (IsCurrent b c.handle × IsTooMany b (flags_logged (rows b) uid op))
    → OnErr r (b2 ≡ b) → OnOk r (MailLogs b b2 (flags_logged (rows b) uid op)) → OnOk r (Moves b.cursors b.window b2.window (flags_logged (rows b) uid op)) → OnOk r (b2.messages ≡ flagged uid op b.messages)
    → b2 ≡ record b { messages = b2.messages; window = b2.window } → OnOk r ((k : Config) → Makes k old n (λ x s. []) (λ x. flags_logged (rows_of x.log) uid op) (record old { boxes = set old.boxes m b2 }))
store_done old n m c b b2 uid op r S e same there strange lapses spends err logs moves messages rest =
    logs_done old n m c b b2 (λ rs. flags_logged rs uid op) (Store n uid op) r (λ k w v h. h) S e same there
    strange lapses spends err logs moves (ok_map _ _ r (flagged_part uid op b.messages b2.messages) messages) rest
