-- Every event keeps what Kept says, and what follows of it.
use Rattle.std.proofs.Common.{◌≡◌, ℕ, ◌+◌, zero, suc, ◌<◌, ◌≤◌, ◌≢◌, ◌⊎◌, inl, inr, Bool, true, false, cond, ◌==◌, eqb, List, [], ◌∷◌, ◌++◌, map, length, get_or, drop, filter, filter_map, AllPairs, Contains, refl, sym, ap, ◌∙◌, arith, subst, append-nil, take-append-drop, Option, Some, None}
use Rattle.std.proofs.lemmas.Bool.{cases_lt, eq-eqb}
use Rattle.std.proofs.lemmas.Bool.Decides.{eqb_tells}
use Rattle.std.proofs.lemmas.List.Elements.{filter_map-append}
use Rattle.std.specs.List.{cons_option, range_with_len}
use Rattle.shard_queue.specs.declared.lane.Entry.{Entry}
use Rattle.shard_queue.specs.declared.lane.Entry.TheVariants.{Item, End}
use Rattle.shard_queue.specs.Lane.{of, IsClosed}
use Rattle.delivery_token.specs.declared.CopyKey.{CopyKey}
use Rattle.delivery_token.specs.declared.Job.{Job}
use Rattle.delivery_token.specs.Keys.{Below}
use Rattle.delivery_token.specs.declared.Verdict.TheVariants.{Stored}
use Rattle.delivery_token.specs.declared.Refusal.TheVariants.{Full, NoMemory, Shut}
use Rattle.delivery_token.specs.declared.log.Noted.{Noted}
use Rattle.change_ring.specs.Log.{Row, added, rows_of, IsLegalLog, FitsView, seen_logged, removals_if}
use Rattle.change_ring.specs.declared.change.Change.{Change}
use Rattle.delivery_token.specs.Copies.{stored_pair, stored_in}
use Rattle.shard_queue.proofs.AtLaws.{at_cases}
use Rattle.shard_queue.proofs.LaneLaws.{of_append, closed_is_empty, closed_not_live}
use Rattle.world.specs.World.{Config, World, Box, Session, Event, Put, PutEnd, Take, Deliver, Answer, Hear, Enter, Status, Read, Store, Expunge, Feed, Leave, Discard, Step, Steps, IsWorld, put_joins, put_full, put_no_memory, put_shut, end_joins, end_full, takes, take_empty, delivers, deliver_spent, deliver_full, deliver_no_memory, answers, answer_full, hears_one, enters, enter_spent, enter_no_memory, MailStep, mails, mail_lapped, mail_spent, mail_no_memory, LeaveStep, leaves, leave_spent, discards_them, discard_spent, shard_of, pending, empty_world}
use Rattle.world.specs.Law.{stored, due, accepted_of, pair_of, pairs, copies, key_of, keys, copy_for, taken_copies, IsShown, IsPart, none, keeps, skips, StandsOnce, Headline}
use Rattle.world.proofs.Base.{Every, Rising, rising_pair, rising_map, part_more, part_front, part_self, part_both, part_rising, part_filter, part_map}
use Rattle.world.specs.Known.{key_in}
use Rattle.world.proofs.Mails.{uids, rows_rising, discards_there, added_discards, removals_there, added_removals, flags_there, added_flags, range_rising, IsIn}
use Rattle.world.proofs.Kept.{Kept, BoxOk, OwnCopy, hand_copies, SessionOk, kept_empty, kept_put, kept_end, kept_hears, kept_take, kept_refused, kept_delivered, kept_answer, kept_hear, kept_mail, kept_leave, kept_discard, kept_enter}
use Rattle.world.proofs.Verdicts.{Verdicts, verdicts_always, one_verdict, refused_nowhere, below_itself}

uids_rise : (k : Config) (b : Box) → BoxOk k b → Rising (λ u v. u < v) (added b.log)
uids_rise k b B = rw B.counted (range_rising k.first_uid (length b.accepted))

rows_in_order : (k : Config) (w : World) (m : ℕ) → Kept k w → Rising (λ u v. u < v) (uids (rows_of (w.box m).log))
rows_in_order k w m K = rows_rising (w.box m).log (uids_rise k (w.box m) (K.boxes m))

kept_mail_step : (k : Config) (w : World) (n : ℕ) (s : Session) (allocates : Bool) (shown rest changes : List Change) (v : World) → Kept k w → w.session n ≡ Some s
    → FitsView (uids (rows_of (w.box s.mailbox).log)) changes → added changes ≡ [] → shown ++ rest ≡ pending (w.box s.mailbox) s → MailStep k w n s allocates shown changes v → Kept k v
kept_mail_step k w n s allocates shown rest changes v K is names none_added cut (mails b fresh L e) = rw e (kept_mail k w n s b shown rest changes K is L names none_added cut)
kept_mail_step k w n s allocates shown rest changes v K is names none_added cut (mail_lapped h e) = rw e K
kept_mail_step k w n s allocates shown rest changes v K is names none_added cut (mail_spent h i e) = rw e K
kept_mail_step k w n s allocates shown rest changes v K is names none_added cut (mail_no_memory h i j e) = rw e K

kept_leave_step : (k : Config) (w : World) (n : ℕ) (s : Session) (changes : List Change) (v : World) → Kept k w
    → FitsView (uids (rows_of (w.box s.mailbox).log)) changes → added changes ≡ [] → LeaveStep k w n s changes v → Kept k v
kept_leave_step k w n s changes v K names none_added (leaves b L e) = rw e (kept_leave k w n s b changes K L names none_added)
kept_leave_step k w n s changes v K names none_added (leave_spent h e) = rw e K

seen_there : (mark : Bool) (rows : List Row) (u : ℕ) → FitsView (uids rows) (seen_logged mark rows u)
seen_there true rows u = flags_there rows u _
seen_there false rows u = tt

added_seen : (mark : Bool) (rows : List Row) (u : ℕ) → added (seen_logged mark rows u) ≡ []
added_seen true rows u = added_flags rows u _
added_seen false rows u = refl

removed_there : (removing : Bool) (rows : List Row) → Rising (λ u v. u < v) (map (λ r. r.uid) rows) → FitsView (uids rows) (removals_if removing rows)
removed_there true rows h = removals_there (λ _. true) rows h
removed_there false rows h = tt

added_removed : (removing : Bool) (rows : List Row) → added (removals_if removing rows) ≡ []
added_removed true rows = added_removals (λ _. true) rows
added_removed false rows = refl

pub kept_step : (k : Config) (w : World) (e : Event) (v : World) → Kept k w → Step k w e v → Kept k v
kept_step k w (Put p s c) v K (put_joins may live room e) = rw e (kept_put k w p s c K may live room)
kept_step k w (Put p s c) v K (put_full may live room e) = rw e (kept_hears k w p _ Full K refl)
kept_step k w (Put p s c) v K (put_no_memory may live room e) = rw e (kept_hears k w p _ NoMemory K refl)
kept_step k w (Put p s c) v K (put_shut may ended e) = rw e (kept_hears k w p _ Shut K refl)
kept_step k w (PutEnd p s) v K (end_joins seat shard live room e) = rw e (kept_end k w p s K seat live room)
kept_step k w (PutEnd p s) v K (end_full seat shard live room e) = rw e K
kept_step k w (Take s) v K (takes x others empty front e) = rw e (kept_take k w s x others K empty front)
kept_step k w (Take s) v K (take_empty empty front e) = rw e K
kept_step k w (Deliver s) v K (delivers c b was uid room L e) = rw e (kept_delivered k w s c b K was L)
kept_step k w (Deliver s) v K (deliver_spent c was h e) = rw e (kept_refused k w s c _ _ K was refl refl)
kept_step k w (Deliver s) v K (deliver_full c was h i e) = rw e (kept_refused k w s c _ _ K was refl refl)
kept_step k w (Deliver s) v K (deliver_no_memory c was h i e) = rw e (kept_refused k w s c _ _ K was refl refl)
kept_step k w (Answer s) v K (answers r was room e) = rw e (kept_answer k w s r K was room)
kept_step k w (Answer s) v K (answer_full r was room e) = rw e K
kept_step k w (Hear p) v K (hears_one s r others front e) = rw e (kept_hear k w p s r others K front)
kept_step k w (Enter n m) v K (enters a b c d e) = rw e (kept_enter k w n m _ K)
kept_step k w (Enter n m) v K (enter_spent a b c d e) = rw e K
kept_step k w (Enter n m) v K (enter_no_memory a b c d e) = rw e K
kept_step k w (Status m) v K e = rw e K
kept_step k w (Read n u mark) v K (s, is, step) = kept_mail_step k w n s true [] _ _ v K is (seen_there mark _ u) (added_seen mark _ u) refl step
kept_step k w (Store n u op) v K (s, is, step) = kept_mail_step k w n s false [] _ _ v K is (flags_there _ u op) (added_flags _ u op) refl step
kept_step k w (Expunge n may_go) v K (s, is, step) = kept_mail_step k w n s true _ [] _ v K is (removals_there may_go (rows_of (w.box s.mailbox).log) (rows_in_order k w s.mailbox K)) (added_removals may_go (rows_of (w.box s.mailbox).log)) (append-nil _) step
kept_step k w (Feed n limit) v K (s, is, step) = kept_mail_step k w n s true _ (drop limit (pending (w.box s.mailbox) s)) [] v K is tt refl (take-append-drop limit _) step
kept_step k w (Leave n removing) v K (s, is, step) = kept_leave_step k w n s _ v K (removed_there removing (rows_of (w.box s.mailbox).log) (rows_in_order k w s.mailbox K)) (added_removed removing (rows_of (w.box s.mailbox).log)) step
kept_step k w (Discard m goes) v K (discards_them b there L e) = rw e (kept_discard k w m b _ K L (discards_there goes (rows_of (w.box m).log) (rows_in_order k w m K)) (added_discards goes (rows_of (w.box m).log)))
kept_step k w (Discard m goes) v K (discard_spent there h e) = rw e K

pub kept_steps : (k : Config) (w : World) (es : List Event) (v : World) → Kept k w → Steps k w es v → Kept k v
kept_steps k w [] v K e = rw e K
kept_steps k w (x ∷ es) v K (u, one, others) = kept_steps k u es v (kept_step k w x u K one) others

pub kept_always : (k : Config) (events : List Event) (w : World) → IsWorld k events w → Kept k w
kept_always k events w h = kept_steps k empty_world events w (kept_empty k) h

-- What follows for the history of a mailbox

-- what was taken of p for m is, by its keys, a part of what p sent
taken_part : (k : Config) (s p m : ℕ) (es : List (Entry Job)) → Every (OwnCopy k s) es → IsPart (map key_of (filter_map (copy_for p m) es)) (filter_map key_in (of p es))
taken_part k s p m [] h = none
taken_part k s p m (Item q c ∷ es) h = go (eqb_tells c.key.seat p) (eqb_tells c.mailbox m) (taken_part k s p m es h.1)
  where
    go : ((eqb c.key.seat p ≡ true) × (c.key.seat ≡ p)) ⊎ ((eqb c.key.seat p ≡ false) × (c.key.seat ≢ p)) → ((eqb c.mailbox m ≡ true) × (c.mailbox ≡ m)) ⊎ ((eqb c.mailbox m ≡ false) × (c.mailbox ≢ m))
        → IsPart (map key_of (filter_map (copy_for p m) es)) (filter_map key_in (of p es)) → IsPart (map key_of (filter_map (copy_for p m) (Item q c ∷ es))) (filter_map key_in (of p (Item q c ∷ es)))
    go (inl (t, i)) (inl (u, j)) part = rw (← h.0.0, t, u) (keeps c.key part)
    go (inl (t, i)) (inr (u, j)) part = rw (← h.0.0, t, u) (skips c.key part)
    go (inr (t, i)) b part = rw (← h.0.0, t) part
taken_part k s p m (End q ∷ es) h = go (q == p) (taken_part k s p m es h.1)
  where
    go : (a : Bool) → IsPart (map key_of (filter_map (copy_for p m) es)) (filter_map key_in (of p es)) → IsPart (map key_of (filter_map (copy_for p m) es)) (filter_map key_in (cond a (End q ∷ of p es) (of p es)))
    go true part = part
    go false part = part

pub every_front : {A : Type 0} (P : A → Type 0) (xs ys : List A) → Every P (xs ++ ys) → Every P xs
every_front P [] ys h = tt
every_front P (x ∷ xs) ys h = (h.0, every_front P xs ys h.1)

pub accepted_taken : (k : Config) (w : World) → Kept k w → (p m : ℕ) → IsPart (copies (accepted_of w p m)) (taken_copies k w p m)
accepted_taken k w K p m = part_front (copies (accepted_of w p m)) (hand_copies p m (w.hand (shard_of k m))) (K.part p m)

keys_rise : (k : Config) (w : World) → Kept k w → (p m : ℕ) → Rising Below (keys (accepted_of w p m))
keys_rise k w K p m =
    let s : ℕ = shard_of k m in
    let sent : filter_map key_in ((w.lane s).sent p) ≡ filter_map key_in (of p (w.lane s).got) ++ filter_map key_in (of p (w.lane s).waiting) =
    ap (filter_map key_in) (sym ((K.lanes s).each p) ∙ of_append p (w.lane s).got (w.lane s).waiting) ∙ filter_map-append key_in (of p (w.lane s).got) (of p (w.lane s).waiting) in
    part_rising Below (part_both (part_both (part_more (filter_map key_in (of p (w.lane s).waiting)) (part_self _)) (taken_part k s p m (w.lane s).got (every_front (OwnCopy k s) (w.lane s).got (w.lane s).waiting (K.own s)))) (part_map key_of (accepted_taken k w K p m)))
    (subst (Rising Below) sent (K.rising p s))

pub in_order : (k : Config) (w : World) → Kept k w → (p m : ℕ) → AllPairs Below (keys (accepted_of w p m))
in_order k w K p m = rising_pair Below (keys (accepted_of w p m)) (keys_rise k w K p m)

-- a pair whose key another has too comes after it among its seat's
no_other : (x : CopyKey) (accepted : List (Job × ℕ)) → Every (Below x) (keys (filter (λ a. a.0.key.seat == x.seat) accepted)) → Every (λ a. x ≢ a.0.key) accepted
no_other x [] h = tt
no_other x (y ∷ ys) h = go (eqb_tells y.0.key.seat x.seat) (λ k. no_other x ys k)
  where
    go : ((eqb y.0.key.seat x.seat ≡ true) × (y.0.key.seat ≡ x.seat)) ⊎ ((eqb y.0.key.seat x.seat ≡ false) × (y.0.key.seat ≢ x.seat))
        → (Every (Below x) (keys (filter (λ a. a.0.key.seat == x.seat) ys)) → Every (λ a. x ≢ a.0.key) ys) → Every (λ a. x ≢ a.0.key) (y ∷ ys)
    go (inl (t, s)) more =
        let h2 : Below x y.0.key × Every (Below x) (keys (filter (λ a. a.0.key.seat == x.seat) ys)) = rw t at h in
        ((λ e. below_itself x (subst (Below x) (sym e) h2.0)), more h2.1)
    go (inr (t, s)) more =
        let h2 : Every (Below x) (keys (filter (λ a. a.0.key.seat == x.seat) ys)) = rw t at h in
        ((λ e. s (ap (λ y. y.seat) (sym e))), more h2)

rising_rest : (x : Job × ℕ) (xs : List (Job × ℕ)) (p : ℕ) → Rising Below (keys (filter (λ a. a.0.key.seat == p) (x ∷ xs))) → Rising Below (keys (filter (λ a. a.0.key.seat == p) xs))
rising_rest x xs p = go (x.0.key.seat == p)
  where
    go : (b : Bool) → Rising Below (keys (cond b (x ∷ filter (λ a. a.0.key.seat == p) xs) (filter (λ a. a.0.key.seat == p) xs))) → Rising Below (keys (filter (λ a. a.0.key.seat == p) xs))
    go true h = h.1
    go false h = h

no_twice : (accepted : List (Job × ℕ)) → ((p : ℕ) → Rising Below (keys (filter (λ a. a.0.key.seat == p) accepted))) → Rising (λ a b. a.0.key ≢ b.0.key) accepted
no_twice [] h = tt
no_twice (x ∷ xs) h =
    let own : Every (Below x.0.key) (keys (filter (λ a. a.0.key.seat == x.0.key.seat) xs)) × Rising Below (keys (filter (λ a. a.0.key.seat == x.0.key.seat) xs)) = rw (eq-eqb x.0.key.seat x.0.key.seat refl) at (h x.0.key.seat) in
    (no_other x.0.key xs own.0, no_twice xs (λ p. rising_rest x xs p (h p)))

keys_apart : (k : Config) (w : World) → Kept k w → (m : ℕ) → Rising (λ a b. a.0.key ≢ b.0.key) (w.box m).accepted
keys_apart k w K m = no_twice (w.box m).accepted (λ p. keys_rise k w K p m)

pub no_key_twice : (k : Config) (w : World) → Kept k w → (m : ℕ) → AllPairs (λ a b. a.0.key ≢ b.0.key) (w.box m).accepted
no_key_twice k w K m = rising_pair (λ a b. a.0.key ≢ b.0.key) (w.box m).accepted (no_twice (w.box m).accepted (λ p. keys_rise k w K p m))

pub counted : (k : Config) (w : World) → Kept k w → (m : ℕ) → map (λ a. a.1) (w.box m).accepted ≡ range_with_len k.first_uid (length (w.box m).accepted)
counted k w K m = sym (K.boxes m).given ∙ (K.boxes m).counted

pub legal : (k : Config) (w : World) → Kept k w → (m : ℕ) → IsLegalLog (w.box m).log
legal k w K m = record { rising = λ i l. rising_pair (λ u v. u < v) (added (w.box m).log) (uids_rise k (w.box m) (K.boxes m)) i (i + 1) 0 (omega arith) l; there = (K.boxes m).there }

pub shown_exactly : (k : Config) (w : World) → Kept k w → (n : ℕ) (s : Session) → w.session n ≡ Some s → IsShown (w.box s.mailbox).log s
shown_exactly k w K n s is = subst (SessionOk w.box) is (K.sessions n)

-- Closed lanes

mail_lane : (k : Config) (w : World) (n : ℕ) (x : Session) (allocates : Bool) (shown changes : List Change) (v : World) (s : ℕ) → MailStep k w n x allocates shown changes v → v.lane s ≡ w.lane s
mail_lane k w n x allocates shown changes v s (mails b fresh L e) = rw e refl
mail_lane k w n x allocates shown changes v s (mail_lapped h e) = rw e refl
mail_lane k w n x allocates shown changes v s (mail_spent h i e) = rw e refl
mail_lane k w n x allocates shown changes v s (mail_no_memory h i j e) = rw e refl

pub closed_step : (k : Config) (w : World) (e : Event) (v : World) (s : ℕ) → Kept k w → IsClosed k.seats (w.lane s) → Step k w e v → v.lane s ≡ w.lane s
closed_step k w (Put p t c) v s K closed (put_joins may live room e) = rw e (at_cases (λ l. l ≡ w.lane s) w.lane t _ s
    (λ same. absurd (closed_not_live k.seats k.depth (w.lane t) (K.lanes t) (subst (λ x. IsClosed k.seats (w.lane x)) same closed) p may.seat live)) (λ _. refl))
closed_step k w (Put p t c) v s K closed (put_full may live room e) = rw e refl
closed_step k w (Put p t c) v s K closed (put_no_memory may live room e) = rw e refl
closed_step k w (Put p t c) v s K closed (put_shut may ended e) = rw e refl
closed_step k w (PutEnd p t) v s K closed (end_joins seat shard live room e) = rw e (at_cases (λ l. l ≡ w.lane s) w.lane t _ s
    (λ same. absurd (closed_not_live k.seats k.depth (w.lane t) (K.lanes t) (subst (λ x. IsClosed k.seats (w.lane x)) same closed) p seat live)) (λ _. refl))
closed_step k w (PutEnd p t) v s K closed (end_full seat shard live room e) = rw e refl
closed_step k w (Take t) v s K closed (takes x others empty front e) = rw e (at_cases (λ l. l ≡ w.lane s) w.lane t _ s
    (λ same. absurd (cons_nil x others (sym front ∙ closed_is_empty k.seats k.depth (w.lane t) (K.lanes t) (subst (λ y. IsClosed k.seats (w.lane y)) same closed)))) (λ _. refl))
  where
    cons_nil : (y : Entry Job) (ys : List (Entry Job)) → y ∷ ys ≡ [] → ⊥
    cons_nil y ys h = cc
closed_step k w (Take t) v s K closed (take_empty empty front e) = rw e refl
closed_step k w (Deliver t) v s K closed (delivers c b was uid room L e) = rw e refl
closed_step k w (Deliver t) v s K closed (deliver_spent c was h e) = rw e refl
closed_step k w (Deliver t) v s K closed (deliver_full c was h i e) = rw e refl
closed_step k w (Deliver t) v s K closed (deliver_no_memory c was h i e) = rw e refl
closed_step k w (Answer t) v s K closed (answers r was room e) = rw e refl
closed_step k w (Answer t) v s K closed (answer_full r was room e) = rw e refl
closed_step k w (Hear p) v s K closed (hears_one t r others front e) = rw e refl
closed_step k w (Enter n m) v s K closed (enters a b c d e) = rw e refl
closed_step k w (Enter n m) v s K closed (enter_spent a b c d e) = rw e refl
closed_step k w (Enter n m) v s K closed (enter_no_memory a b c d e) = rw e refl
closed_step k w (Status m) v s K closed e = rw e refl
closed_step k w (Read n u mark) v s K closed (x, is, step) = mail_lane k w n x _ _ _ v s step
closed_step k w (Store n u op) v s K closed (x, is, step) = mail_lane k w n x _ _ _ v s step
closed_step k w (Expunge n may_go) v s K closed (x, is, step) = mail_lane k w n x _ _ _ v s step
closed_step k w (Feed n limit) v s K closed (x, is, step) = mail_lane k w n x _ _ _ v s step
closed_step k w (Leave n removing) v s K closed (x, is, leaves b L e) = rw e refl
closed_step k w (Leave n removing) v s K closed (x, is, leave_spent h e) = rw e refl
closed_step k w (Discard m goes) v s K closed (discards_them b there L e) = rw e refl
closed_step k w (Discard m goes) v s K closed (discard_spent there h e) = rw e refl

pub closed_stays : (k : Config) (w : World) (es : List Event) (v : World) (s : ℕ) → Kept k w → IsClosed k.seats (w.lane s) → Steps k w es v → v.lane s ≡ w.lane s
closed_stays k w [] v s K closed e = rw e refl
closed_stays k w (x ∷ es) v s K closed (u, one, others) =
    let same : u.lane s ≡ w.lane s = closed_step k w x u s K closed one in
    closed_stays k u es v s (kept_step k w x u K one) (rw same closed) others ∙ same

-- A copy that was heard as stored

is_in_part : {A : Type 0} (x : A) {xs ys : List A} → IsPart xs ys → IsIn x xs → IsIn x ys
is_in_part x none h = h
is_in_part x (keeps y p) (inl e) = inl e
is_in_part x (keeps y p) (inr h) = inr (is_in_part x p h)
is_in_part x (skips y p) h = inr (is_in_part x p h)

is_in_front : {A : Type 0} (x : A) (xs ys : List A) → IsIn x xs → IsIn x (xs ++ ys)
is_in_front x [] ys h = absurd h
is_in_front x (y ∷ xs) ys (inl e) = inl e
is_in_front x (y ∷ xs) ys (inr h) = inr (is_in_front x xs ys h)

stored_heard : (m u : ℕ) (r : Noted) (rs : List Noted) → IsIn r rs → r.mailbox ≡ m → r.verdict ≡ Stored u → IsIn (r.key, u) (stored_in m rs)
stored_heard m u r [] h e v = absurd h
stored_heard m u r (x ∷ rs) (inl same) e v = rw (← same, v, eq-eqb r.mailbox m e) (inl refl)
stored_heard m u r (x ∷ rs) (inr h) e v = go (stored_pair m x x.verdict) (stored_heard m u r rs h e v)
  where
    go : (o : Option (CopyKey × ℕ)) → IsIn (r.key, u) (stored_in m rs) → IsIn (r.key, u) (cons_option o (stored_in m rs))
    go None k = k
    go (Some y) k = inr k

-- where an element stands
position_of : {A : Type 0} (x : A) (xs : List A) → IsIn x xs → (i : ℕ) × (i < length xs) × (get_or xs i x ≡ x)
position_of x [] h = absurd h
position_of x (y ∷ ys) (inl e) = (0, omega arith, sym e)
position_of x (y ∷ ys) (inr h) =
    let c : (i : ℕ) × (i < length ys) × (get_or ys i x ≡ x) = position_of x ys h in
    (suc c.0, omega (arith, c.1), c.2)

is_in_of : {A : Type 0} (x : A) (xs : List A) (i : ℕ) → i < length xs → get_or xs i x ≡ x → IsIn x xs
is_in_of x [] i l e = absurd (omega arith)
is_in_of x (y ∷ ys) zero l e = inl (sym e)
is_in_of x (y ∷ ys) (suc i) l e = inr (is_in_of x ys i (omega arith) e)

-- at a position of the list the default is of no account
get_or-any : {A : Type 0} (xs : List A) (i : ℕ) (c d : A) → i < length xs → get_or xs i c ≡ get_or xs i d
get_or-any [] i c d l = absurd (omega arith)
get_or-any (x ∷ xs) zero c d l = refl
get_or-any (x ∷ xs) (suc i) c d l = get_or-any xs i c d (omega arith)

once : (pairs : List (CopyKey × ℕ)) (x : CopyKey) (u : ℕ) → AllPairs (λ a b. a.0 ≢ b.0) pairs → IsIn (x, u) pairs → StandsOnce pairs x u
once pairs x u apart h = record { position = c.0; within = c.1; here = c.2; alone = alone }
  where
    c : (i : ℕ) × (i < length pairs) × (get_or pairs i (x, u) ≡ (x, u))
    c = position_of (x, u) pairs h

    alone : (i : ℕ) (d : CopyKey × ℕ) → i < length pairs → (get_or pairs i d).0 ≡ x → i ≡ c.0
    alone i d l e = go (cases_lt i c.0) (cases_lt c.0 i)
      where
        same : (get_or pairs i (x, u)).0 ≡ x
        same = ap (λ pair. pair.0) (get_or-any pairs i (x, u) d l) ∙ e

        go : (i < c.0) ⊎ (c.0 ≤ i) → (c.0 < i) ⊎ (i ≤ c.0) → i ≡ c.0
        go (inl lt) b = absurd (apart i c.0 (x, u) lt c.1 (same ∙ sym (ap (λ pair. pair.0) c.2)))
        go (inr le) (inl gt) = absurd (apart c.0 i (x, u) gt l (ap (λ pair. pair.0) c.2 ∙ sym same))
        go (inr le) (inr ge) = omega arith

pub heard_once : (k : Config) (w : World) → Kept k w → (p u : ℕ) (r : Noted) → Contains (w.heard p) r → r.verdict ≡ Stored u → StandsOnce (pairs (w.box r.mailbox).accepted) r.key u
heard_once k w K p u r h v = once (pairs (w.box r.mailbox).accepted) r.key u
    (rising_pair (λ a b. a.0 ≢ b.0) (pairs (w.box r.mailbox).accepted) (rising_map (λ a b. a.0 ≢ b.0) pair_of (w.box r.mailbox).accepted (keys_apart k w K r.mailbox)))
    (is_in_part (r.key, u) (part_map pair_of (part_filter (λ a. a.0.key.seat == p) (w.box r.mailbox).accepted))
    (subst (IsIn (r.key, u)) (sym (K.history p r.mailbox)) (is_in_front (r.key, u) (stored w p r.mailbox) (due k w p r.mailbox)
    (stored_heard r.mailbox u r (w.heard p) (is_in_of r (w.heard p) h.0 h.1 h.2) refl v))))

pub headline : (k : Config) (w : World) → Kept k w → Verdicts w → Headline k w
headline k w K V = record {
  history = K.history;
  answered = heard_once k w K;
  refused = λ p r why h. refused_nowhere k w K V p r why (is_in_of r (w.heard p) h.0 h.1 h.2);
  one_verdict = one_verdict w V;
  in_order = in_order k w K;
  taken = accepted_taken k w K;
  no_key_twice = no_key_twice k w K;
  uids = counted k w K;
  given = λ m. (K.boxes m).given;
  logs = legal k w K;
  windows = λ m. (K.boxes m).based;
  held_back = λ m. (K.boxes m).window;
  lanes = K.lanes;
  reply_lanes = K.replies;
  closed = λ s closed. (closed_is_empty k.seats k.depth (w.lane s) (K.lanes s) closed, λ later v more. closed_stays k w later v s K closed more);
  shown = shown_exactly k w K;
}

pub always : (k : Config) (events : List Event) (w : World) → IsWorld k events w → Headline k w
always k events w h = headline k w (kept_always k events w h) (verdicts_always k events w h)

-- some events, and then some more
pub steps_join : (k : Config) (u : World) (es : List Event) (v : World) (fs : List Event) (w : World) → Steps k u es v → Steps k v fs w → Steps k u (es ++ fs) w
steps_join k u [] v fs w e h = subst (λ x. Steps k x fs w) e h
steps_join k u (x ∷ es) v fs w (y, one, others) h = (y, one, steps_join k y es v fs w others h)
