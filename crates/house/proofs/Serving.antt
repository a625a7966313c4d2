-- Each call of the core, as a call of the session that is served.
use Rattle.std.proofs.Common.{◌≡◌, ℕ, zero, suc, ◌<◌, ◌≤◌, ◌⊎◌, inl, inr, Bool, true, false, List, [], ◌∷◌, length, take, get_or, refl, sym, ap, ◌∙◌, arith, subst, Result, Ok, Err, Option, Some, None, IsSome}
use Rattle.std.specs.Prelude.{◌↔◌, ◌+◌, OnOk, OnErr, IfOk, min, option_map, slice_index_or}
use Rattle.change_ring.specs.declared.change.Change.{Change}
use Rattle.change_ring.specs.declared.change.Flags.{Flags}
use Rattle.change_ring.specs.declared.flag_op.FlagOp.{FlagOp}
use Rattle.change_ring.specs.Log.{rows_of, view_at, discards, flags_logged, removals, removals_if, seen_logged}
use Rattle.mailbox.specs.Events.{in_set}
use Rattle.mailbox.specs.Mailbox.{Mailbox}
use Rattle.mailbox.specs.declared.clients.MailFault.{MailFault}
use Rattle.mailbox.specs.declared.clients.MailFault.TheVariants.{Stranger, Lapped, Spent, NoMemory}
use Rattle.mailbox.specs.declared.clients.Opening.{Opening}
use Rattle.mailbox.specs.declared.clients.Row.{Row}
use Rattle.mailbox.specs.declared.mailbox.Status.{Status}
use Rattle.world.specs.World as world
use Rattle.world.specs.World.{Config, World, Box, Session, Event, Step, Allowed, EnterStep, enters, enter_spent, enter_no_memory, LeaveStep, leave_spent, MailStep, mails, mail_lapped, mail_spent, mail_no_memory, Selected, pending}
use Rattle.delivery_core.specs.Changes.{SameCounts, SameDelivery}
use Rattle.delivery_core.specs.Clients.{Alters, DiscardsNot, Does, Done, Enters, Expunges, Feeds, IsStatus, Leaves, Makes, Opens, Reads, Refuses, Removes, Sees}
use Rattle.delivery_core.specs.declared.client.Client.{Client}
use Rattle.delivery_core.specs.DeliveryCore.{DeliveryCore, behind, client_of, pending_for, view_of}
use Rattle.delivery_core.specs.Stands.{StandsFor}
use Rattle.delivery_core.proofs.Looks.{pending_seen, view_seen}
use Rattle.delivery_core.proofs.Mailed.{session_at, there_at}
use Rattle.imap_grammar.specs.Sets.{names_one}
use Rattle.imap_grammar.specs.declared.set.SeqRange.{SeqRange}
use Rattle.imap_session.specs.Exchange.{Enter, Look, Read, Count, Alter, Expunge, Feed, Leave, Discard, Entered, Looked, Found, Counted, Altered, Left, Refused}
use Rattle.imap_session.specs.Store.{answer}
use Rattle.imap_session.specs.Store as store
use Rattle.house.specs.declared.core_store.CoreStore.{CoreStore}
use Rattle.house.specs.CoreStore.{Serves}
use Rattle.house.specs.Meets.{IsDone, IsRefused, IsTurnedAway, Mails, Shows}
use Rattle.house.proofs.Places.{no_session}
use Rattle.delivery_core.proofs.Shown.{take_self}

-- the core that serves this session
abbrev pub serving : DeliveryCore → ℕ → CoreStore
serving core n = record { core = core; session = n }

-- ---- calls that change nothing

pub same_delivery : (h : DeliveryCore) → SameDelivery h h
same_delivery h = record { lanes = refl; hands = refl; replies = refl; heard = refl; next = refl }

pub same_counts : (h : DeliveryCore) → SameCounts h h
same_counts h = record { lanes = refl; hands = refl; replies = refl; heard = refl; boxes = refl; next = refl; clients = refl }

-- ---- who is no stranger

some_client : (x : Option Client) → (x ≡ None → ⊥) → IsSome x
some_client None h = absurd (h refl)
some_client (Some c) h = refl

client_is : (x : Option Client) → IsSome x → (c : Client) × (x ≡ Some c)
client_is None h = cc
client_is (Some c) h = (c, refl)

served : {A : Type 0} (old : DeliveryCore) (n : ℕ) (r : Result A MailFault) (x : A) → r ≡ Ok x → (r ≡ Err Stranger) ↔ (client_of old n ≡ None) → IsSome (client_of old n)
served old n r x e strange = some_client (client_of old n) (λ gone. let f = strange.1 gone in cc)

-- ---- what an event of the core is in a world

mails_of : (k : Config) (old new : DeliveryCore) (n : ℕ) (e : Event) (P : Box → Session → Type 0) → Does k old e n P new → (w : World) → StandsFor k old w
    → (v : World) × Mails k n w e P v × StandsFor k new v
mails_of k old new n e P does w S = let d = does w S in (d.0, (d.1, d.3), d.2)

-- what is said of a session holds of the session that is there
at_session : (w : World) (n : ℕ) (t : Session) → w.session n ≡ Some t → (P : Session → Type 0) → Selected w n P → P t
at_session w n t is P (s, e, p) = subst P same p
  where
    same : s ≡ t
    same = cc

-- what an event of the core that was not refused is in a world
done_in : (k : Config) (old new : DeliveryCore) (n : ℕ) (e : Event) (shown : Box → Session → List Change) (changes : Box → List Change) (P : Box → Session → Type 0) → Does k old e n P new → Makes k old n shown changes new
    → ((w v : World) (s : Session) → w.session n ≡ Some s → Done k w n s (shown (w.box s.mailbox) s) (changes (w.box s.mailbox)) v → Step k w e v) → (w : World) → StandsFor k old w
    → (v : World) × IsDone k n w e shown changes P v × StandsFor k new v
done_in k old new n e shown changes P does makes as_step w S =
    let d = does w S in
    let m = makes w S in
    (m.0, (as_step w m.0 m.2.0 m.2.1 m.2.2, (m.2.0, m.2.1, (m.2.2, at_session w n m.2.0 m.2.1 (λ s. P (w.box s.mailbox) s) d.3))), m.1)

refused_for : (k : Config) (old new : DeliveryCore) (n : ℕ) (e : Event) (P : Box → Session → Type 0) (fault : MailFault) → new ≡ old
    → (fault ≡ Stranger → client_of old n ≡ None) → (client_of old n ≡ None → fault ≡ Stranger) → (IsSome (client_of old n) → Does k old e n P new)
    → ((w : World) (s : Session) → w.session n ≡ Some s → P (w.box s.mailbox) s → Step k w e w) → (w : World) → StandsFor k old w
    → (v : World) × IsRefused n w fault (Mails k n w e P v) v × StandsFor k new v
refused_for k old new n e P fault same gone strange does as_step w S = go fault gone strange
  where
    still : StandsFor k new w
    still = subst (λ h. StandsFor k h w) (sym same) S

    -- what the event tells of the session, which is there
    mails_here : (client_of old n ≡ None → ⊥) → Mails k n w e P w
    mails_here some = let d = (does (some_client (client_of old n) some) w S).3 in (as_step w d.0 d.1 d.2, d)

    go : (f : MailFault) → (f ≡ Stranger → client_of old n ≡ None) → (client_of old n ≡ None → f ≡ Stranger) → (v : World) × IsRefused n w f (Mails k n w e P v) v × StandsFor k new v
    go Stranger gone strange = (w, (refl, no_session k w old n S (gone refl)), still)
    go Lapped gone strange = (w, (refl, mails_here (λ h. let f = strange h in cc)), still)
    go Spent gone strange = (w, (refl, mails_here (λ h. let f = strange h in cc)), still)
    go NoMemory gone strange = (w, (refl, mails_here (λ h. let f = strange h in cc)), still)

-- a refused event may happen, and changes nothing
still_mails : (k : Config) (w : World) (n : ℕ) (s : Session) (allocates : Bool) (shown changes : List Change) (fault : MailFault) → (fault ≡ NoMemory → allocates ≡ true) → Refuses fault changes (w.box s.mailbox) s
    → MailStep k w n s allocates shown changes w
still_mails k w n s allocates shown changes Stranger may why = absurd why
still_mails k w n s allocates shown changes Lapped may why = mail_lapped why refl
still_mails k w n s allocates shown changes Spent may why = mail_spent why.0 why.1 refl
still_mails k w n s allocates shown changes NoMemory may why = mail_no_memory (may refl) why.0 why.1 refl

still_leaves : (k : Config) (w : World) (n : ℕ) (s : Session) (remove : Bool) (fault : MailFault) → Leaves remove (Err fault) (w.box s.mailbox) s → LeaveStep k w n s (removals_if remove (rows_of (w.box s.mailbox).log)) w
still_leaves k w n s remove Stranger why = absurd why
still_leaves k w n s remove Lapped why = absurd why
still_leaves k w n s remove Spent why = leave_spent why refl
still_leaves k w n s remove NoMemory why = absurd why

same_fault : {A : Type 0} (r : Result A MailFault) (f g : MailFault) → r ≡ Err f → r ≡ Err g → f ≡ g
same_fault r f g a b = cc

-- ---- Read, Store, Leave

pub reads : (old new : DeliveryCore) (n uid : ℕ) (mark : Bool) (result : Result (Option Row) MailFault) → (result ≡ Err Stranger) ↔ (client_of old n ≡ None)
    → (IsSome (client_of old n) → (k : Config) → Does k old (world.Read n uid mark) n (Reads mark uid result) new)
    → OnOk result ((k : Config) → Makes k old n (λ b s. []) (λ b. seen_logged mark (rows_of b.log) uid) new)
    → view_of new n ≡ view_of old n → SameDelivery old new → SameCounts old new → OnErr result (new ≡ old)
    → Serves (serving old n) (Read uid mark) (answer Found result) (serving new n)
reads old new n uid mark (Ok row) strange event done view rest counts refused = record {
  same = refl;
  meets = λ k. done_in k old new n (world.Read n uid mark) (λ b s. []) (λ b. seen_logged mark (rows_of b.log) uid) (Reads mark uid (Ok row)) (event (served old n (Ok row) row refl strange) k) (done k) (λ w v s is d. (s, is, mails d.mailbox d.kept d.logs d.made));
  rest = rest;
  counts = counts;
  view = view;
  behind = tt;
}
reads old new n uid mark (Err fault) strange event done view rest counts refused = record {
  same = refl;
  meets = λ k. refused_for k old new n (world.Read n uid mark) (Reads mark uid (Err fault)) fault refused (λ e. strange.0 (ap (λ f. Err f) e)) (λ h. same_fault (Err fault) fault Stranger refl (strange.1 h)) (λ some. event some k) (λ w s is why. (s, is, still_mails k w n s true [] (seen_logged mark (rows_of (w.box s.mailbox).log) uid) fault (λ e. refl) why));
  rest = rest;
  counts = counts;
  view = view;
  behind = tt;
}

pub alters : (old new : DeliveryCore) (n uid : ℕ) (op : FlagOp) (result : Result (Option Flags) MailFault) → (result ≡ Err Stranger) ↔ (client_of old n ≡ None) → (result ≡ Err NoMemory → ⊥)
    → (IsSome (client_of old n) → (k : Config) → Does k old (world.Store n uid op) n (Alters uid op result) new)
    → OnOk result ((k : Config) → Makes k old n (λ b s. []) (λ b. flags_logged (rows_of b.log) uid op) new)
    → view_of new n ≡ view_of old n → SameDelivery old new → SameCounts old new → OnErr result (new ≡ old)
    → Serves (serving old n) (Alter uid op) (answer Altered result) (serving new n)
alters old new n uid op (Ok flags) strange memory event done view rest counts refused = record {
  same = refl;
  meets = λ k. done_in k old new n (world.Store n uid op) (λ b s. []) (λ b. flags_logged (rows_of b.log) uid op) (Alters uid op (Ok flags)) (event (served old n (Ok flags) flags refl strange) k) (done k) (λ w v s is d. (s, is, mails d.mailbox d.kept d.logs d.made));
  rest = rest;
  counts = counts;
  view = view;
  behind = tt;
}
alters old new n uid op (Err fault) strange memory event done view rest counts refused = record {
  same = refl;
  meets = λ k. refused_for k old new n (world.Store n uid op) (Alters uid op (Err fault)) fault refused (λ e. strange.0 (ap (λ f. Err f) e)) (λ h. same_fault (Err fault) fault Stranger refl (strange.1 h)) (λ some. event some k) (λ w s is why. (s, is, still_mails k w n s false [] (flags_logged (rows_of (w.box s.mailbox).log) uid op) fault (λ e. absurd (memory (ap (λ f. Err f) e))) why));
  rest = rest;
  counts = counts;
  view = view;
  behind = tt;
}

pub leaves : (old new : DeliveryCore) (n : ℕ) (remove : Bool) (result : Result ℕ MailFault) → (result ≡ Err Stranger) ↔ (client_of old n ≡ None)
    → (IsSome (client_of old n) → (k : Config) → Does k old (world.Leave n remove) n (Leaves remove result) new)
    → OnOk result (client_of new n ≡ None) → SameDelivery old new → SameCounts old new → OnErr result (new ≡ old)
    → Serves (serving old n) (Leave remove) (answer Left result) (serving new n)
leaves old new n remove (Ok gone) strange event left rest counts refused = record {
  same = refl;
  meets = λ k w S.
      let m = mails_of k old new n (world.Leave n remove) (Leaves remove (Ok gone)) (event (served old n (Ok gone) gone refl strange) k) w S in
      (m.0, (m.1, no_session k m.0 new n m.2 left), m.2);
  rest = rest;
  counts = counts;
  view = tt;
  behind = tt;
}
leaves old new n remove (Err fault) strange event left rest counts refused = record {
  same = refl;
  meets = λ k. refused_for k old new n (world.Leave n remove) (Leaves remove (Err fault)) fault refused (λ e. strange.0 (ap (λ f. Err f) e)) (λ h. same_fault (Err fault) fault Stranger refl (strange.1 h)) (λ some. event some k) (λ w s is why. (s, is, still_leaves k w n s remove fault why));
  rest = rest;
  counts = counts;
  view = ap (λ h. view_of h n) refused;
  behind = tt;
}

-- ---- Enter

mail_at : (boxes : List Mailbox) (i : ℕ) → i < length boxes → (b : Mailbox) × (b ≡ get_or boxes i b)
mail_at [] i l = absurd (omega arith)
mail_at (b ∷ boxes) zero l = (b, refl)
mail_at (b ∷ boxes) (suc i) l = mail_at boxes i (omega arith)

validity_here : (k : Config) (w : World) (old : DeliveryCore) (m u : ℕ) → StandsFor k old w → m < length old.boxes → ((d : Mailbox) → u ≡ (slice_index_or old.boxes m d).uidvalidity) → u ≡ k.uidvalidity
validity_here k w old m u S l same = let b = mail_at old.boxes m l in same b.0 ∙ (S.boxes m b.0 l).uidvalidity

mailbox_there : (k : Config) (w v : World) (n m : ℕ) → EnterStep k w n m v → m < k.mailboxes
mailbox_there k w v n m (enters a b c d e) = b
mailbox_there k w v n m (enter_spent a b c d e) = b
mailbox_there k w v n m (enter_no_memory a b c d e) = b

turned_away : (k : Config) (w : World) (n m : ℕ) (fault : MailFault) → (fault ≡ Lapped → ⊥) → (fault ≡ Stranger → Allowed k w (world.Enter n m) → ⊥) → ((fault ≡ Stranger → ⊥) → Step k w (world.Enter n m) w × Opens k w m (Err fault)) → IsTurnedAway k n m w fault w
turned_away k w n m Stranger lapsed strange step = (strange refl, refl)
turned_away k w n m Lapped lapsed strange step = absurd (lapsed refl)
turned_away k w n m Spent lapsed strange step = let s = step (λ e. cc) in (s.0, refl, s.1)
turned_away k w n m NoMemory lapsed strange step = let s = step (λ e. cc) in (s.0, refl, s.1)

-- a session that may enter now
still : (k : Config) (w v : World) (n m : ℕ) → EnterStep k w n m v → EnterStep k w n m w
still k w v n m (enters a b c d e) = enter_no_memory a b c d refl
still k w v n m (enter_spent a b c d e) = enter_spent a b c d refl
still k w v n m (enter_no_memory a b c d e) = enter_no_memory a b c d refl

not_allowed : (k : Config) (w : World) (old : DeliveryCore) (n m : ℕ) → StandsFor k old w → (length old.clients ≤ n) ⊎ (IsSome (client_of old n) ⊎ (length old.boxes ≤ m)) → Allowed k w (world.Enter n m) → ⊥
not_allowed k w old n m S (inl few) (a, b, c) = absurd (omega (arith, few, a, S.sessions))
not_allowed k w old n m S (inr (inl some)) (a, b, c) =
    let one = client_is (client_of old n) some in
    let s = session_at k w old n one.0 S one.1 in
    let e : w.session n ≡ Some s.0 = s.1 in
    cc
not_allowed k w old n m S (inr (inr few)) (a, b, c) = absurd (omega (arith, few, b, S.mailboxes))

client_in : (x : Option Client) (m : ℕ) → option_map (λ (c : Client). c.mailbox) x ≡ Some m → (c : Client) × (x ≡ Some c) × (c.mailbox ≡ m)
client_in None m e = cc
client_in (Some c) m e = (c, refl, cc)

selected : (k : Config) (v : World) (new : DeliveryCore) (n m : ℕ) → StandsFor k new v → option_map (λ (c : Client). c.mailbox) (client_of new n) ≡ Some m → Selected v n (λ s. s.mailbox ≡ m)
selected k v new n m S entered =
    let c = client_in (client_of new n) m entered in
    let s = session_at k v new n c.0 S c.1 in
    (s.0, s.1, sym s.2.mailbox ∙ c.2)

pub opens : (old new : DeliveryCore) (n m : ℕ) (result : Result Opening MailFault)
    → (result ≡ Err Stranger) ↔ ((length old.clients ≤ n) ⊎ (IsSome (client_of old n) ⊎ (length old.boxes ≤ m))) → (result ≡ Err Lapped → ⊥)
    → ((result ≡ Err Stranger → ⊥) → (k : Config) → Enters k old n m result new)
    → OnOk result (option_map (λ (c : Client). c.mailbox) (client_of new n) ≡ Some m) → IfOk result (λ opening. (d : Mailbox) → opening.uidvalidity ≡ (slice_index_or old.boxes m d).uidvalidity)
    → SameDelivery old new → SameCounts old new → OnErr result (new ≡ old)
    → Serves (serving old n) (Enter m) (answer Entered result) (serving new n)
opens old new n m (Ok opening) strange lapsed event entered validity rest counts refused = record {
  same = refl;
  meets = λ k w S.
      let d = event (λ e. cc) k w S in
      let l : m < k.mailboxes = mailbox_there k w d.0 n m d.1 in
      (d.0, (d.1, selected k d.0 new n m d.2 entered, d.3, validity_here k w old m opening.uidvalidity S (omega (arith, l, S.mailboxes)) validity), d.2);
  rest = rest;
  counts = counts;
  view = tt;
  behind = tt;
}
opens old new n m (Err fault) strange lapsed event entered validity rest counts refused = record {
  same = refl;
  meets = λ k w S. (
    w,
    turned_away k w n m fault (λ e. lapsed (ap (λ f. Err f) e)) (λ e. not_allowed k w old n m S (strange.0 (ap (λ f. Err f) e)))
        (λ other. let d = event (λ e. other (same_fault (Err fault) fault Stranger refl e)) k w S in (still k w d.0 n m d.1, d.3)),
    subst (λ h. StandsFor k h w) (sym refused) S,
  );
  rest = rest;
  counts = counts;
  view = ap (λ h. view_of h n) refused;
  behind = tt;
}

-- ---- Look, Count

pub looked : (core : DeliveryCore) (n : ℕ) (by_uid : Bool) (set : List SeqRange) (view copied : List ℕ) → copied ≡ view → view ≡ view_of core n
    → ((k : Config) (w : World) → StandsFor k core w → Selected w n (λ s. view ≡ view_at (w.box s.mailbox).log s.cursor))
    → Serves (serving core n) (Look by_uid set) (Looked copied) (serving core n)
looked core n by_uid set view copied same is log = record {
  same = refl;
  meets = λ k w S. let d = log k w S in (w, (refl, (d.0, d.1, same ∙ d.2)), S);
  rest = same_delivery core;
  counts = same_counts core;
  view = (same ∙ is, refl);
  behind = tt;
}

pub not_looked : (core : DeliveryCore) (n : ℕ) (by_uid : Bool) (set : List SeqRange) (fault : MailFault) → fault ≡ Stranger → client_of core n ≡ None → Serves (serving core n) (Look by_uid set) (Refused fault) (serving core n)
not_looked core n by_uid set fault is gone = subst (λ (f : MailFault). Serves (serving core n) (Look by_uid set) (Refused f) (serving core n)) (sym is) (record {
  same = refl;
  meets = λ k w S. (w, (refl, no_session k w core n S gone), S);
  rest = same_delivery core;
  counts = same_counts core;
  view = refl;
  behind = tt;
})

-- memory was refused to a look whose set names a message of the view
pub refused_memory : (core : DeliveryCore) (n : ℕ) (by_uid : Bool) (set : List SeqRange) (view : List ℕ) → names_one by_uid set view ≡ true → view ≡ view_of core n
    → ((k : Config) (w : World) → StandsFor k core w → Selected w n (λ s. view ≡ view_at (w.box s.mailbox).log s.cursor))
    → Serves (serving core n) (Look by_uid set) (Refused NoMemory) (serving core n)
refused_memory core n by_uid set view named is log = record {
  same = refl;
  meets = λ k w S. let d = log k w S in (w, (refl, (refl, (d.0, d.1, subst (λ (v : List ℕ). names_one by_uid set v ≡ true) d.2 named))), S);
  rest = same_delivery core;
  counts = same_counts core;
  view = refl;
  behind = tt;
}

pub counted : (core : DeliveryCore) (n m : ℕ) (status : Status) → m < length core.boxes → ((k : Config) (w : World) → StandsFor k core w → IsStatus k (w.box m) status)
    → ((d : Mailbox) → status.uidvalidity ≡ (slice_index_or core.boxes m d).uidvalidity)
    → Serves (serving core n) (Count m) (Counted status) (serving core n)
counted core n m status l is validity = record {
  same = refl;
  meets = λ k w S. (w, (refl, omega (arith, l, S.mailboxes), is k w S, validity_here k w core m status.uidvalidity S l validity), S);
  rest = same_delivery core;
  counts = same_counts core;
  view = refl;
  behind = tt;
}

-- ---- Discard

-- a Discard was refused: as a stranger where there is no such mailbox, and else as the event says
not_discarded : (k : Config) (w : World) (old : DeliveryCore) (m : ℕ) (changes : List Change) (fault : MailFault) → StandsFor k old w → (fault ≡ Stranger → length old.boxes ≤ m) → ((fault ≡ Stranger → ⊥) → DiscardsNot k m changes w fault) → DiscardsNot k m changes w fault
not_discarded k w old m changes Stranger S few other = omega (arith, few refl, S.mailboxes)
not_discarded k w old m changes Lapped S few other = other (λ e. cc)
not_discarded k w old m changes Spent S few other = other (λ e. cc)
not_discarded k w old m changes NoMemory S few other = other (λ e. cc)

pub discarded : (old new : DeliveryCore) (n m : ℕ) (uids : List ℕ) (result : Result (Unit {0}) MailFault) → (result ≡ Err Stranger) ↔ (length old.boxes ≤ m)
    → ((result ≡ Err Stranger → ⊥) → (k : Config) → Removes k old m (in_set (Some uids)) result new)
    → ((session : ℕ) → view_of new session ≡ view_of old session) → SameDelivery old new → SameCounts old new → OnErr result (new ≡ old)
    → store.Discards (λ a. Serves (serving old n) (Discard m uids) a (serving new n)) result
discarded old new n m uids (Ok done) strange event views rest counts refused = record {
  same = refl;
  meets = λ k w S. let d = event (λ e. cc) k w S in (d.0, d.3, d.2);
  rest = rest;
  counts = counts;
  view = views n;
  behind = tt;
}
discarded old new n m uids (Err fault) strange event views rest counts refused = record {
  same = refl;
  meets = λ k w S. (
    w,
    (
      refl,
      not_discarded k w old m (discards (in_set (Some uids)) (rows_of (w.box m).log)) fault S (λ e. strange.0 (ap (λ f. Err f) e)) (λ other. (event (λ e. other (same_fault (Err fault) fault Stranger refl e)) k w S).3.1),
    ),
    subst (λ h. StandsFor k h w) (sym refused) S,
  );
  rest = rest;
  counts = counts;
  view = views n;
  behind = tt;
}

-- ---- Feed, Expunge

-- what the core has of a session is what its world has
seen : (k : Config) (w : World) (old : DeliveryCore) (n : ℕ) (s : Session) → StandsFor k old w → IsSome (client_of old n) → w.session n ≡ Some s → (w.box s.mailbox).base ≤ s.cursor
    → (view_of old n ≡ view_at (w.box s.mailbox).log s.cursor) × (pending_for old n ≡ pending (w.box s.mailbox) s)
seen k w old n s S some is low =
    let c = client_is (client_of old n) some in
    let b = mail_at old.boxes c.0.mailbox (there_at k w old n c.0 S c.1) in (
      always (λ (t : Session). view_of old n ≡ view_at (w.box t.mailbox).log t.cursor) (view_seen k w old n c.0 b.0 S c.1 b.1),
      here (λ (t : Session). pending_for old n ≡ pending (w.box t.mailbox) t) (pending_seen k w old n c.0 b.0 S c.1 b.1),
    )
  where
    same : (t : Session) → w.session n ≡ Some t → t ≡ s
    same t e = cc

    always : (P : Session → Type 0) → Selected w n (λ t. P t) → P s
    always P (t, e, shown) = subst P (same t e) shown

    here : (P : Session → Type 0) → Selected w n (λ t. (w.box t.mailbox).base ≤ t.cursor → P t) → P s
    here P (t, e, shown) = subst (λ (x : Session). (w.box x.mailbox).base ≤ x.cursor → P x) (same t e) shown low

pub feeds : (old new : DeliveryCore) (n limit : ℕ) (before after : List ℕ) (result : Result ℕ MailFault) → (result ≡ Err Stranger) ↔ (client_of old n ≡ None)
    → (IsSome (client_of old n) → (k : Config) → Does k old (world.Feed n limit) n (Feeds limit before after result) new)
    → OnOk result ((k : Config) → Makes k old n (λ b s. take limit (pending b s)) (λ b. []) new)
    → IfOk result (λ count. Sees old new n (take count (pending_for old n)) before after)
    → IfOk result (λ count. (count ≤ limit) × (length (take count (pending_for old n)) ≡ count))
    → IfOk result (λ count. (count ≡ min limit (behind old n)) × (behind new n + count ≡ behind old n))
    → SameDelivery old new → SameCounts old new → OnErr result ((new ≡ old) × (after ≡ before))
    → store.Feeds (λ a. Serves (serving old n) (Feed limit) a (serving new n)) limit before after result
feeds old new n limit before after (Ok count) strange event done sees counted less rest counts refused = (
  view_of old n,
  take count (pending_for old n),
  record { same = refl; meets = fed; rest = rest; counts = counts; view = (refl, sees.view); behind = (some, counted.1 ∙ less.0, ap (λ (i : ℕ). behind new n + i) counted.1 ∙ less.1) },
  counted.1,
  counted.0,
  sees.text,
)
  where
    some : IsSome (client_of old n)
    some = served old n (Ok count) count refl strange

    handed : (b : Box) (s : Session) → pending_for old n ≡ pending b s → count ≡ length (take limit (pending b s)) → take count (pending_for old n) ≡ take limit (pending b s)
    handed b s same long = ap (take count) same ∙ ap (λ i. take i (pending b s)) long ∙ take_self limit (pending b s)

    fed : (k : Config) (w : World) → StandsFor k old w → (v : World) × IsDone k n w (world.Feed n limit) (λ b s. take limit (pending b s)) (λ b. []) (λ b s. Shows (view_of old n) (take count (pending_for old n)) (take limit (pending b s)) b s) v × StandsFor k new v
    fed k w S =
        let m = done k w S in
        let s = m.2.0 in
        let is = m.2.1 in
        let did = m.2.2 in
        let told = at_session w n s is (λ t. Feeds limit before after (Ok count) (w.box t.mailbox) t) (event some k w S).3 in
        let both = seen k w old n s S some is told.0.kept in (
          m.0,
          ((s, is, mails did.mailbox did.kept did.logs did.made), (s, is, (did, record { kept = told.0.kept; counted = both.0; handed = handed (w.box s.mailbox) s both.1 told.1 }))),
          m.1,
        )
feeds old new n limit before after (Err fault) strange event done sees counted less rest counts refused = (
  record {
    same = refl;
    meets = λ k. refused_for k old new n (world.Feed n limit) (Feeds limit before after (Err fault)) fault refused.0 (λ e. strange.0 (ap (λ f. Err f) e)) (λ h. same_fault (Err fault) fault Stranger refl (strange.1 h)) (λ some. event some k) (λ w s is why. (s, is, still_mails k w n s true (take limit (pending (w.box s.mailbox) s)) [] fault (λ e. refl) why));
    rest = rest;
    counts = counts;
    view = ap (λ h. view_of h n) refused.0;
    behind = tt;
  },
  refused.1,
)

pub expunges : (old new : DeliveryCore) (n : ℕ) (uids : Option (List ℕ)) (before after : List ℕ) (result : Result ℕ MailFault) → (result ≡ Err Stranger) ↔ (client_of old n ≡ None)
    → (IsSome (client_of old n) → (k : Config) → Does k old (world.Expunge n (in_set uids)) n (Expunges (in_set uids) before after result) new)
    → OnOk result ((k : Config) → Makes k old n (λ b s. pending b s) (λ b. removals (in_set uids) (rows_of b.log)) new)
    → OnOk result (Sees old new n (pending_for old n) before after)
    → SameDelivery old new → SameCounts old new → OnErr result ((new ≡ old) × (after ≡ before))
    → store.Expunges (λ a. Serves (serving old n) (Expunge uids) a (serving new n)) before after result
expunges old new n uids before after (Ok gone) strange event done sees rest counts refused = (
  view_of old n,
  pending_for old n,
  record { same = refl; meets = expunged; rest = rest; counts = counts; view = (refl, sees.view); behind = tt },
  sees.text,
)
  where
    some : IsSome (client_of old n)
    some = served old n (Ok gone) gone refl strange

    expunged : (k : Config) (w : World) → StandsFor k old w → (v : World)
        × IsDone k n w (world.Expunge n (in_set uids)) pending (λ b. removals (in_set uids) (rows_of b.log)) (λ b s. Shows (view_of old n) (pending_for old n) (pending b s) b s × (gone ≡ length (removals (in_set uids) (rows_of b.log)))) v × StandsFor k new v
    expunged k w S =
        let m = done k w S in
        let s = m.2.0 in
        let is = m.2.1 in
        let did = m.2.2 in
        let told = at_session w n s is (λ t. Expunges (in_set uids) before after (Ok gone) (w.box t.mailbox) t) (event some k w S).3 in
        let both = seen k w old n s S some is told.0.kept in (
          m.0,
          ((s, is, mails did.mailbox did.kept did.logs did.made), (s, is, (did, (record { kept = told.0.kept; counted = both.0; handed = both.1 }, told.1)))),
          m.1,
        )
expunges old new n uids before after (Err fault) strange event done sees rest counts refused = (
  record {
    same = refl;
    meets = λ k. refused_for k old new n (world.Expunge n (in_set uids)) (Expunges (in_set uids) before after (Err fault)) fault refused.0 (λ e. strange.0 (ap (λ f. Err f) e)) (λ h. same_fault (Err fault) fault Stranger refl (strange.1 h)) (λ some. event some k) (λ w s is why. (s, is, still_mails k w n s true (pending (w.box s.mailbox) s) (removals (in_set uids) (rows_of (w.box s.mailbox).log)) fault (λ e. refl) why));
    rest = rest;
    counts = counts;
    view = ap (λ h. view_of h n) refused.0;
    behind = tt;
  },
  refused.1,
)
