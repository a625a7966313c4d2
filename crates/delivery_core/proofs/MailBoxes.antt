-- What a mailbox does for a client is the world's.
use Rattle.std.proofs.Common.{◌≡◌, ◌≢◌, ℕ, ◌+◌, ◌<◌, ◌≤◌, ◌⊎◌, inl, inr, Bool, true, false, ◌==◌, List, [], ◌∷◌, ◌++◌, length, map, append-nil, refl, sym, ap, ap₂, ◌∙◌, arith, subst, Result, Ok, Err, Option, Some, None, IsSome}
use Rattle.std.specs.Prelude.{◌↔◌, if◌then◌else◌, option_map, OnOk, OnErr}
use Rattle.std.proofs.lemmas.Bool.{cases_lt}
use Rattle.std.proofs.lemmas.Bool.Decides.{eqb_tells}
use Rattle.delivery_token.specs.Text.{Text}
use Rattle.delivery_token.specs.declared.Job.{Job}
use Rattle.change_ring.specs.declared.change.Change.{Change}
use Rattle.change_ring.specs.declared.flag_op.FlagOp.{FlagOp}
use Rattle.change_ring.specs.Log.{Row, rows_of, flags_after, Window, total, BaseAfter}
use Rattle.change_ring.proofs.WindowLaws.{BaseAfter-less}
use Rattle.cursor_set.specs.Cursors.{CursorSet, Open, CursorHandle, held}
use Rattle.mailbox.specs.declared.clients.MailFault.{MailFault}
use Rattle.mailbox.specs.declared.clients.MailFault.TheVariants.{Stranger, Lapped, Spent, NoMemory}
use Rattle.mailbox.specs.Events.{KeepsLog, Logs as MailLogs, Moves, IsTooMany, IsStranger, IsLapped, IsCurrent, mark, seen_after}
use Rattle.mailbox.specs.Mailbox.{Mailbox, Message, row_of, rows, flagged, remaining, message_with}
use Rattle.mailbox.proofs.WindowMoves.{moves_base, moves_grows, moves_held, moves_max, moves_most}
use Rattle.world.specs.World.{Config, Box, Session, Logs, most_changes}
use Rattle.world.specs.Law.{IsPart, none, keeps, skips, pairs}
use Rattle.world.proofs.Base.{Every, Rising, part_self, part_map, part_filter, part_both, part_every}
use Rattle.world.proofs.Kept.{BoxOk}
use Rattle.world.proofs.Mails.{range_rising}
use Rattle.delivery_core.specs.Stands.{StandsForBox, text_of, accepted_text}
use Rattle.delivery_core.specs.Clients.{Refuses, row_with, rows_then, text_with}
use Rattle.delivery_core.proofs.Mailed.{BoxMails, box_mails, box_lapsed, box_spent, box_no_memory}

-- ---- what a mailbox logged for a client

-- the mailbox stands for what this box becomes by these changes
abbrev pub Becomes : Config → Box → List Change → Mailbox → Type 0
Becomes k x changes b = (y : Box) × Logs k x changes [] y × StandsForBox k b y

pub box_logs : (k : Config) (b new : Mailbox) (x : Box) (cs : List Change) (cursors : CursorSet) → StandsForBox k b x → length x.log + length cs ≤ most_changes
    → MailLogs b new cs → Moves cursors b.window new.window cs → IsPart (map text_of new.messages) (map text_of b.messages)
    → new.accepted ≡ b.accepted → new.first_uid ≡ b.first_uid → new.limit ≡ b.limit → new.uidvalidity ≡ b.uidvalidity → Becomes k x cs new
box_logs k b new x cs cursors S room logs moves texts accepted first limit valid = (
  record { log = x.log ++ cs; base = new.window.base; accepted = x.accepted ++ [] },
  record { room = room; log = refl; base = base; accepted = refl },
  record {
    log = logs x.log S.log;
    base = refl;
    accepted = accepted ∙ S.accepted ∙ ap pairs (sym (append-nil x.accepted));
    texts = subst (λ (copies : List (Job × ℕ)). IsPart (map text_of new.messages) (map accepted_text copies)) (sym (append-nil x.accepted)) (part_both S.texts texts);
    first_uid = first ∙ S.first_uid;
    uidvalidity = valid ∙ S.uidvalidity;
    messages = limit ∙ S.messages;
    ring = omega (arith, S.ring, moves_grows cursors b.window new.window cs moves);
    held = moves_held cursors b.window new.window cs S.held moves;
    most = moves_most cursors b.window new.window cs S.most moves;
    ring_max = moves_max cursors b.window new.window cs moves ∙ S.ring_max;
  },
)
  where
    base : BaseAfter k.ring (length x.log) x.base cs new.window.base
    base = subst (λ (n : ℕ). BaseAfter k.ring n x.base cs new.window.base) (sym S.log.window.long)
        (subst (λ (n : ℕ). BaseAfter k.ring (total b.window) n cs new.window.base) S.base (BaseAfter-less b.window.capacity k.ring (total b.window) b.window.base cs new.window.base S.ring (moves_base cursors b.window new.window cs moves)))

-- it logged nothing
pub box_keeps : (k : Config) (b new : Mailbox) (x : Box) (s : CursorSet) → StandsForBox k b x → KeepsLog b new → new ≡ record b { cursors = s } → StandsForBox k new x
box_keeps k b new x s S same rest = record {
  log = same x.log S.log;
  base = ap (λ (m : Mailbox). m.window.base) rest ∙ S.base;
  accepted = ap (λ (m : Mailbox). m.accepted) rest ∙ S.accepted;
  texts = subst (λ (ms : List Message). IsPart (map text_of ms) (map accepted_text x.accepted)) (sym (ap (λ (m : Mailbox). m.messages) rest)) S.texts;
  first_uid = ap (λ (m : Mailbox). m.first_uid) rest ∙ S.first_uid;
  uidvalidity = ap (λ (m : Mailbox). m.uidvalidity) rest ∙ S.uidvalidity;
  messages = ap (λ (m : Mailbox). m.limit) rest ∙ S.messages;
  ring = omega (arith, S.ring, ap (λ (m : Mailbox). m.window.capacity) rest);
  held = subst (λ (z : Window). length z.changes ≤ z.capacity) (sym (ap (λ (m : Mailbox). m.window) rest)) S.held;
  most = subst (λ (z : Window). z.capacity ≤ z.max) (sym (ap (λ (m : Mailbox). m.window) rest)) S.most;
  ring_max = ap (λ (m : Mailbox). m.window.max) rest ∙ S.ring_max;
}

-- ---- no text changes

pub texts_flagged : (uid : ℕ) (op : FlagOp) (ms : List Message) → map text_of (flagged uid op ms) ≡ map text_of ms
texts_flagged uid op [] = refl
texts_flagged uid op (m ∷ ms) = ap₂ (λ (t : ℕ × Text) (ts : List (ℕ × Text)). t ∷ ts) (go (m.uid == uid)) (texts_flagged uid op ms)
  where
    go : (b : Bool) → text_of (if b then record m { flags = flags_after op m.flags } else m) ≡ text_of m
    go true = refl
    go false = refl

part_same : (xs ys : List (ℕ × Text)) → xs ≡ ys → IsPart xs ys
part_same xs ys e = subst (IsPart xs) e (part_self xs)

pub flagged_part : (uid : ℕ) (op : FlagOp) (old new : List Message) → new ≡ flagged uid op old → IsPart (map text_of new) (map text_of old)
flagged_part uid op old new e = part_same _ _ (ap (map text_of) e ∙ texts_flagged uid op old)

pub seen_part : (set : Bool) (uid : ℕ) (old new : List Message) → new ≡ seen_after set uid old → IsPart (map text_of new) (map text_of old)
seen_part true uid old new e = flagged_part uid mark old new e
seen_part false uid old new e = part_same _ _ (ap (map text_of) e)

pub remaining_part : (test : ℕ → Bool) (old new : List Message) → new ≡ remaining test old → IsPart (map text_of new) (map text_of old)
remaining_part test old new e = subst (λ (ms : List Message). IsPart (map text_of ms) (map text_of old)) (sym e) (part_map text_of (part_filter _ old))

-- ---- why a client is refused

pub same_rows : (k : Config) (b : Mailbox) (x : Box) → StandsForBox k b x → rows b ≡ rows_of x.log
same_rows k b x S = S.log.messages

-- a mailbox's cursor that is not lapsed is where its window is
admitted : {T : Type 0} (r : Result T MailFault) (b : Mailbox) (handle : CursorHandle) → IsSome (held b.cursors handle) → (r ≡ Err Lapped) ↔ IsLapped b handle → (r ≡ Err Lapped → ⊥) → b.window.base ≤ handle.at
admitted r b handle some lapses not = elim (cases_lt handle.at b.window.base) [
  | inl low ↦ absurd (not (lapses.1 (some, low)))
  | inr high ↦ high
]

roomy : {T : Type 0} (r : Result T MailFault) (b : Mailbox) (handle : CursorHandle) (cs : List Change) → IsCurrent b handle → (r ≡ Err Spent) ↔ (IsCurrent b handle × IsTooMany b cs) → (r ≡ Err Spent → ⊥) → total b.window + length cs ≤ most_changes
roomy r b handle cs current spends not = elim (cases_lt most_changes (total b.window + length cs)) [
  | inl many ↦ absurd (not (spends.1 (current, many)))
  | inr few ↦ few
]

pub no_stranger : {T : Type 0} (r : Result T MailFault) (b : Mailbox) (handle : CursorHandle) → IsSome (held b.cursors handle) → (r ≡ Err Stranger) ↔ IsStranger b handle → r ≡ Err Stranger → ⊥
no_stranger r b handle some strange e = nobody (held b.cursors handle) some (strange.0 e)
  where
    nobody : (o : Option Open) → IsSome o → o ≡ None → ⊥
    nobody None h same = cc
    nobody (Some o) h same = cc

-- the facts of a client's call that are the same for each kind
pub record Told {T : Type 0} (r : Result T MailFault) (b : Mailbox) (handle : CursorHandle) (cs : List Change) : Type 0 where
  pub known : IsSome (held b.cursors handle)
  pub stranger : (r ≡ Err Stranger) ↔ IsStranger b handle
  pub lapsed : (r ≡ Err Lapped) ↔ IsLapped b handle
  pub spent : (r ≡ Err Spent) ↔ (IsCurrent b handle × IsTooMany b cs)

-- a call that was not refused: the window has all that is pending, and the log has room
pub taken : {T : Type 0} (k : Config) (b : Mailbox) (x : Box) (s : Session) (handle : CursorHandle) (cs : List Change) (r : Result T MailFault) (t : T) → StandsForBox k b x → handle.at ≡ s.cursor → Told r b handle cs → r ≡ Ok t
    → (x.base ≤ s.cursor) × (length x.log + length cs ≤ most_changes)
taken k b x s handle cs r t S at told ok =
    let here : b.window.base ≤ handle.at = admitted r b handle told.known told.lapsed (λ e. ok_err (sym ok ∙ e)) in
    let room : total b.window + length cs ≤ most_changes = roomy r b handle cs (told.known, here) told.spent (λ e. ok_err (sym ok ∙ e)) in
    (omega (arith, here, at, S.base), omega (arith, room, S.log.window.long))
  where
    ok_err : {f : MailFault} → Ok t ≡ Err f → ⊥
    ok_err e = cc

-- a call that was refused
pub turned_away : {T : Type 0} (k : Config) (b : Mailbox) (x : Box) (s : Session) (handle : CursorHandle) (cs : List Change) (r : Result T MailFault) (f : MailFault) → StandsForBox k b x → handle.at ≡ s.cursor → Told r b handle cs → r ≡ Err f → Refuses f cs x s
turned_away k b x s handle cs r Stranger S at told e = absurd (no_stranger r b handle told.known told.stranger e)
turned_away k b x s handle cs r Lapped S at told e = let low : IsLapped b handle = told.lapsed.0 e in omega (arith, low.1, at, S.base)
turned_away k b x s handle cs r Spent S at told e = let both : IsCurrent b handle × IsTooMany b cs = told.spent.0 e in (omega (arith, both.0.1, at, S.base), omega (arith, both.1, S.log.window.long))
turned_away {T} k b x s handle cs r NoMemory S at told e =
    let here : b.window.base ≤ handle.at = admitted r b handle told.known told.lapsed (λ l. differs (sym e ∙ l)) in
    let room : total b.window + length cs ≤ most_changes = roomy r b handle cs (told.known, here) told.spent (λ l. spends (sym e ∙ l)) in
    (omega (arith, here, at, S.base), omega (arith, room, S.log.window.long))
  where
    differs : Err NoMemory ≡ (let l : Result T MailFault = Err Lapped in l) → ⊥
    differs h = cc

    spends : Err NoMemory ≡ (let l : Result T MailFault = Err Spent in l) → ⊥
    spends h = cc

-- ---- a call of a client

pub box_call : {T : Type 0} (k : Config) (b b2 : Mailbox) (x : Box) (s : Session) (handle handle2 : CursorHandle) (allocates : Bool) (shown cs : List Change) (r : Result T MailFault) → StandsForBox k b x → handle.at ≡ s.cursor → Told r b handle cs
    → (r ≡ Err NoMemory → allocates ≡ true) → OnErr r ((b2 ≡ b) × (handle2 ≡ handle)) → OnOk r (length x.log + length cs ≤ most_changes → Becomes k x cs b2) → OnOk r (handle2.at ≡ s.cursor + length shown)
    → BoxMails k x s allocates shown cs b2 handle2
box_call k b b2 x s handle handle2 allocates shown cs (Ok t) S at told may err becomes moved =
    let here : (x.base ≤ s.cursor) × (length x.log + length cs ≤ most_changes) = taken k b x s handle cs (Ok t) t S at told refl in
    let y : Becomes k x cs b2 = becomes here.1 in
    box_mails y.0 here.0 y.1 y.2 moved
box_call {T} k b b2 x s handle handle2 allocates shown cs (Err f) S at told may err becomes moved = go f (turned_away k b x s handle cs (Err f) f S at told refl) may
  where
    box : StandsForBox k b2 x
    box = subst (λ (m : Mailbox). StandsForBox k m x) (sym err.0) S

    still : handle2.at ≡ s.cursor
    still = ap (λ (z : CursorHandle). z.at) err.1 ∙ at

    go : (g : MailFault) → Refuses g cs x s → ((let r : Result T MailFault = Err g in r) ≡ Err NoMemory → allocates ≡ true) → BoxMails k x s allocates shown cs b2 handle2
    go Stranger why m = absurd why
    go Lapped why m = box_lapsed why box still
    go Spent why m = box_spent why.0 why.1 box still
    go NoMemory why m = box_no_memory (m refl) why.0 why.1 box still

-- ---- rows and texts

pub row_message : (uid : ℕ) (ms : List Message) → row_with uid (map row_of ms) ≡ option_map row_of (message_with uid ms)
row_message uid [] = refl
row_message uid (m ∷ ms) = go (m.uid == uid) (row_message uid ms)
  where
    go : (b : Bool) → row_with uid (map row_of ms) ≡ option_map row_of (message_with uid ms)
        → (if b then Some (row_of m) else row_with uid (map row_of ms)) ≡ option_map row_of (if b then Some m else message_with uid ms)
    go true h = refl
    go false h = h

-- the text of a UID
abbrev pub text_at : ℕ → List (ℕ × Text) → Option Text
text_at uid [] = None
text_at uid (t ∷ ts) = if t.0 == uid then Some t.1 else text_at uid ts

text_message : (uid : ℕ) (ms : List Message) → text_at uid (map text_of ms) ≡ option_map (λ (m : Message). m.text) (message_with uid ms)
text_message uid [] = refl
text_message uid (m ∷ ms) = go (m.uid == uid) (text_message uid ms)
  where
    go : (b : Bool) → text_at uid (map text_of ms) ≡ option_map (λ (m : Message). m.text) (message_with uid ms)
        → (if b then Some m.text else text_at uid (map text_of ms)) ≡ option_map (λ (m : Message). m.text) (if b then Some m else message_with uid ms)
    go true h = refl
    go false h = h

pub text_accepted : (uid : ℕ) (copies : List (Job × ℕ)) (t : Text) → text_at uid (map accepted_text copies) ≡ Some t → text_with uid copies ≡ t
text_accepted uid [] t e = cc
text_accepted uid (a ∷ copies) t e = go (a.1 == uid) (text_accepted uid copies t) e
  where
    go : (b : Bool) → (text_at uid (map accepted_text copies) ≡ Some t → text_with uid copies ≡ t)
        → (if b then Some a.0.text else text_at uid (map accepted_text copies)) ≡ Some t → (if b then a.0.text else text_with uid copies) ≡ t
    go true later h = cc
    go false later h = later h

-- a UID that has a text is above whatever each UID is above
text_above : (low uid : ℕ) (ts : List (ℕ × Text)) (t : Text) → Every (λ u. low < u) (map (λ p. p.0) ts) → text_at uid ts ≡ Some t → low < uid
text_above low uid [] t all e = cc
text_above low uid (p ∷ ts) t all e = go (eqb_tells p.0 uid) (text_above low uid ts t all.1)
  where
    pick : (b : Bool) → (p.0 == uid) ≡ b → b ≡ false → text_at uid ts ≡ Some t
    pick true h is = cc
    pick false h is = subst (λ (x : Bool). (if x then Some p.1 else text_at uid ts) ≡ Some t) h e

    go : (((p.0 == uid) ≡ true) × (p.0 ≡ uid)) ⊎ (((p.0 == uid) ≡ false) × (p.0 ≢ uid)) → (text_at uid ts ≡ Some t → low < uid) → low < uid
    go (inl (h, same)) later = omega (arith, all.0)
    go (inr (h, other)) later = later (pick false h refl)

-- where the UIDs rise, a part of the texts has the texts that the whole has
text_part : (uid : ℕ) (t : Text) {xs ys : List (ℕ × Text)} → IsPart xs ys → Rising (λ u v. u < v) (map (λ p. p.0) ys) → text_at uid xs ≡ Some t → text_at uid ys ≡ Some t
text_part uid t none o e = e
text_part uid t (keeps y {xs} {ys} p) o e = go (y.0 == uid) (text_part uid t p o.1) e
  where
    go : (b : Bool) → (text_at uid xs ≡ Some t → text_at uid ys ≡ Some t) → (if b then Some y.1 else text_at uid xs) ≡ Some t → (if b then Some y.1 else text_at uid ys) ≡ Some t
    go true later h = h
    go false later h = later h
text_part uid t (skips y {xs} {ys} p) o e = go (eqb_tells y.0 uid) (text_part uid t p o.1)
  where
    above : y.0 < uid
    above = text_above y.0 uid xs t (part_every (λ u. y.0 < u) (part_map (λ (q : ℕ × Text). q.0) p) o.0) e

    go : (((y.0 == uid) ≡ true) × (y.0 ≡ uid)) ⊎ (((y.0 == uid) ≡ false) × (y.0 ≢ uid)) → (text_at uid xs ≡ Some t → text_at uid ys ≡ Some t) → text_at uid (y ∷ ys) ≡ Some t
    go (inl (h, same)) later = absurd (omega (arith, above))
    go (inr (h, other)) later = subst (λ (b : Bool). (if b then Some y.1 else text_at uid ys) ≡ Some t) (sym h) (later e)

pub numbers_of : (copies : List (Job × ℕ)) → map (λ (p : ℕ × Text). p.0) (map accepted_text copies) ≡ map (λ (a : Job × ℕ). a.1) copies
numbers_of [] = refl
numbers_of (a ∷ copies) = ap (λ (us : List ℕ). a.1 ∷ us) (numbers_of copies)

-- a message of the mailbox has the text of the copy that was accepted under its UID
pub text_told : (k : Config) (x : Box) (ms : List Message) (uid : ℕ) (m : Message) → BoxOk k x → IsPart (map text_of ms) (map accepted_text x.accepted) → message_with uid ms ≡ Some m → m.text ≡ text_with uid x.accepted
text_told k x ms uid m ok texts e = sym (text_accepted uid x.accepted m.text (text_part uid m.text texts
    (subst (Rising (λ u v. u < v)) (sym (numbers_of x.accepted ∙ sym ok.given ∙ ok.counted)) (range_rising k.first_uid (length x.accepted)))
    (text_message uid ms ∙ ap (option_map (λ (n : Message). n.text)) e)))

-- ---- reading and storing

pub box_still : {T : Type 0} (k : Config) (b b2 : Mailbox) (x : Box) (s : Session) (handle : CursorHandle) (allocates : Bool) (logged : List Row → List Change) (r : Result T MailFault) → StandsForBox k b x → handle.at ≡ s.cursor → Told r b handle (logged (rows b))
    → (r ≡ Err NoMemory → allocates ≡ true) → OnErr r (b2 ≡ b) → OnOk r (MailLogs b b2 (logged (rows b))) → OnOk r (Moves b.cursors b.window b2.window (logged (rows b))) → OnOk r (IsPart (map text_of b2.messages) (map text_of b.messages))
    → b2 ≡ record b { messages = b2.messages; window = b2.window } → BoxMails k x s allocates [] (logged (rows_of x.log)) b2 handle
box_still {T} k b b2 x s handle allocates logged r S at told may err logs moves texts rest =
    subst (λ (rs : List Row). BoxMails k x s allocates [] (logged rs) b2 handle) (same_rows k b x S)
    (box_call k b b2 x s handle handle allocates [] (logged (rows b)) r S at told may (errs r err) (becomes r logs moves texts) (on_ok r (omega (arith, at))))
  where
    errs : (q : Result T MailFault) → OnErr q (b2 ≡ b) → OnErr q ((b2 ≡ b) × (handle ≡ handle))
    errs (Ok t) h = h
    errs (Err f) h = (h, refl)

    on_ok : (q : Result T MailFault) → handle.at ≡ s.cursor + 0 → OnOk q (handle.at ≡ s.cursor + 0)
    on_ok (Ok t) h = h
    on_ok (Err f) h = tt

    becomes : (q : Result T MailFault) → OnOk q (MailLogs b b2 (logged (rows b))) → OnOk q (Moves b.cursors b.window b2.window (logged (rows b))) → OnOk q (IsPart (map text_of b2.messages) (map text_of b.messages))
        → OnOk q (length x.log + length (logged (rows b)) ≤ most_changes → Becomes k x (logged (rows b)) b2)
    becomes (Ok t) l m p = λ room. box_logs k b b2 x (logged (rows b)) b.cursors S room l m p (ap (λ (z : Mailbox). z.accepted) rest) (ap (λ (z : Mailbox). z.first_uid) rest) (ap (λ (z : Mailbox). z.limit) rest) (ap (λ (z : Mailbox). z.uidvalidity) rest)
    becomes (Err f) l m p = tt

-- the row of a UID after a call is that of the mailbox's message
pub row_after : (k : Config) (b b2 : Mailbox) (x : Box) (uid : ℕ) (logged : List Row → List Change) → StandsForBox k b x → MailLogs b b2 (logged (rows b)) → row_with uid (rows_then x (logged (rows_of x.log))) ≡ option_map row_of (message_with uid b2.messages)
row_after k b b2 x uid logged S logs =
    ap (row_with uid) (ap (λ (rs : List Row). rows_of (x.log ++ logged rs)) (sym (same_rows k b x S)) ∙ sym (logs x.log S.log).messages) ∙ row_message uid b2.messages
