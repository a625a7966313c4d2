-- Each event that is allowed has an outcome, also without want of memory; and a first run.
use Rattle.std.proofs.Common.{◌≡◌, ℕ, suc, ◌+◌, ◌<◌, ◌≤◌, ◌⊎◌, inl, inr, Bool, true, false, List, [], ◌∷◌, ◌++◌, length, take, refl}
use Rattle.std.proofs.lemmas.Bool.{cases_lt}
use Rattle.shard_queue.specs.Lane.{has_end}
use Rattle.shard_queue.specs.declared.lane.Entry.{Entry}
use Rattle.delivery_token.specs.declared.Job.{Job}
use Rattle.change_ring.specs.declared.change.Change.{Change}
use Rattle.change_ring.specs.Log.{rows_of, arrival, discards, flags_logged, removals, seen_logged, removals_if, BaseAfter}
use Rattle.world.specs.World.{Config, World, Box, Session, Empty, Taken, Event, Put, PutEnd, Take, Deliver, Answer, Hear, Enter, Status, Read, Store, Expunge, Feed, Leave, Discard, Step, Allowed, put_joins, put_full, put_no_memory, put_shut, end_joins, end_full, TakeStep, takes, take_empty, DeliverStep, delivers, deliver_spent, deliver_full, deliver_no_memory, answers, answer_full, hears_one, enters, enter_spent, enter_no_memory, MailStep, mails, mail_lapped, mail_spent, LeaveStep, DiscardStep, leaves, leave_spent, discards_them, discard_spent, Logs, reply_room, pending, next_uid, most_changes, most_entries, last_uid}

base_stays : (ring total base : ℕ) (cs : List Change) → BaseAfter ring total base cs base
base_stays ring total base [] = refl
base_stays ring total base (c ∷ cs) = inl (base_stays ring (suc total) base cs)

logged : (k : Config) (b : Box) (cs : List Change) (more : List (Job × ℕ)) → length b.log + length cs ≤ most_changes → (new : Box) × Logs k b cs more new
logged k b cs more room = (record { log = b.log ++ cs; base = b.base; accepted = b.accepted ++ more }, record { room = room; log = refl; base = base_stays k.ring (length b.log) b.base cs; accepted = refl })

mail_outcome : (k : Config) (w : World) (n : ℕ) (s : Session) (allocates : Bool) (shown changes : List Change) → (v : World) × MailStep k w n s allocates shown changes v
mail_outcome k w n s allocates shown changes = go (cases_lt s.cursor (w.box s.mailbox).base) (cases_lt most_changes (length (w.box s.mailbox).log + length changes))
  where
    go : (s.cursor < (w.box s.mailbox).base) ⊎ ((w.box s.mailbox).base ≤ s.cursor) → (most_changes < length (w.box s.mailbox).log + length changes) ⊎ (length (w.box s.mailbox).log + length changes ≤ most_changes) → (v : World) × MailStep k w n s allocates shown changes v
    go (inl lapped) h = (w, mail_lapped lapped refl)
    go (inr fresh) (inl spent) = (w, mail_spent fresh spent refl)
    go (inr fresh) (inr room) =
        let b : (new : Box) × Logs k (w.box s.mailbox) changes [] new = logged k (w.box s.mailbox) changes [] room in
        (_, mails b.0 fresh b.1 refl)

leave_outcome : (k : Config) (w : World) (n : ℕ) (s : Session) (changes : List Change) → (v : World) × LeaveStep k w n s changes v
leave_outcome k w n s changes = go (cases_lt most_changes (length (w.box s.mailbox).log + length changes))
  where
    go : (most_changes < length (w.box s.mailbox).log + length changes) ⊎ (length (w.box s.mailbox).log + length changes ≤ most_changes) → (v : World) × LeaveStep k w n s changes v
    go (inl spent) = (w, leave_spent spent refl)
    go (inr room) =
        let b : (new : Box) × Logs k (w.box s.mailbox) changes [] new = logged k (w.box s.mailbox) changes [] room in
        (_, leaves b.0 b.1 refl)

discard_outcome : (k : Config) (w : World) (m : ℕ) (changes : List Change) → m < k.mailboxes → (v : World) × DiscardStep k w m changes v
discard_outcome k w m changes there = go (cases_lt most_changes (length (w.box m).log + length changes))
  where
    go : (most_changes < length (w.box m).log + length changes) ⊎ (length (w.box m).log + length changes ≤ most_changes) → (v : World) × DiscardStep k w m changes v
    go (inl spent) = (w, discard_spent there spent refl)
    go (inr room) =
        let b : (new : Box) × Logs k (w.box m) changes [] new = logged k (w.box m) changes [] room in
        (_, discards_them b.0 there b.1 refl)

deliver_outcome : (k : Config) (w : World) (s : ℕ) (c : Job) → w.hand s ≡ Taken c → (v : World) × DeliverStep k w s v
deliver_outcome k w s c was = go (cases_lt (next_uid k b) last_uid) (cases_lt most_changes (length b.log + length (arrival (next_uid k b) c.flags))) (cases_lt (length (rows_of b.log)) k.messages)
  where
    b : Box
    b = w.box c.mailbox

    go : (next_uid k b < last_uid) ⊎ (last_uid ≤ next_uid k b) → (most_changes < length b.log + length (arrival (next_uid k b) c.flags)) ⊎ (length b.log + length (arrival (next_uid k b) c.flags) ≤ most_changes) → (length (rows_of b.log) < k.messages) ⊎ (k.messages ≤ length (rows_of b.log)) → (v : World) × DeliverStep k w s v
    go (inr no_uid) h i = (_, deliver_spent c was (inl no_uid) refl)
    go (inl uid) (inl no_room) i = (_, deliver_spent c was (inr no_room) refl)
    go (inl uid) (inr room) (inr full) = (_, deliver_full c was (uid, room) full refl)
    go (inl uid) (inr room) (inl free) =
        let new : (new : Box) × Logs k b (arrival (next_uid k b) c.flags) ((c, next_uid k b) ∷ []) new = logged k b _ _ room in
        (_, delivers c new.0 was (uid, room) free new.1 refl)

take_outcome : (w : World) (s : ℕ) (es : List (Entry Job)) → w.hand s ≡ Empty → (w.lane s).waiting ≡ es → (v : World) × TakeStep w s v
take_outcome w s [] empty h = (w, take_empty empty h refl)
take_outcome w s (e ∷ others) empty h = (_, takes e others empty h refl)

pub outcome : (k : Config) (w : World) (e : Event) → Allowed k w e → (v : World) × Step k w e v
outcome k w (Put p s c) may = go (has_end ((w.lane s).sent p)) refl (cases_lt (length (w.lane s).waiting) k.depth)
  where
    go : (ended : Bool) → has_end ((w.lane s).sent p) ≡ ended → (length (w.lane s).waiting < k.depth) ⊎ (k.depth ≤ length (w.lane s).waiting) → (v : World) × Step k w (Put p s c) v
    go true ended h = (_, put_shut may ended refl)
    go false live (inl room) = (_, put_joins may live room refl)
    go false live (inr full) = (_, put_full may live full refl)
outcome k w (PutEnd p s) (seat, shard, live) = go (cases_lt (length (w.lane s).waiting) k.depth)
  where
    go : (length (w.lane s).waiting < k.depth) ⊎ (k.depth ≤ length (w.lane s).waiting) → (v : World) × Step k w (PutEnd p s) v
    go (inl room) = (_, end_joins seat shard live room refl)
    go (inr full) = (_, end_full seat shard live full refl)
outcome k w (Take s) empty = take_outcome w s (w.lane s).waiting empty refl
outcome k w (Deliver s) (c, was) = deliver_outcome k w s c was
outcome k w (Answer s) (r, was) = go (cases_lt (length (w.replies r.key.seat).waiting) reply_room)
  where
    go : (length (w.replies r.key.seat).waiting < reply_room) ⊎ (reply_room ≤ length (w.replies r.key.seat).waiting) → (v : World) × Step k w (Answer s) v
    go (inl room) = (_, answers r was room refl)
    go (inr full) = (_, answer_full r was full refl)
outcome k w (Hear p) (s, r, others, front) = (_, hears_one s r others front refl)
outcome k w (Enter n m) (inside, box, free) = go (cases_lt (w.opened m) most_entries)
  where
    go : (w.opened m < most_entries) ⊎ (most_entries ≤ w.opened m) → (v : World) × Step k w (Enter n m) v
    go (inl left) = (_, enters inside box free left refl)
    go (inr spent) = (w, enter_spent inside box free spent refl)
outcome k w (Status m) h = (w, refl)
outcome k w (Read n u mark) (s, is) = let o : (v : World) × MailStep k w n s true [] (seen_logged mark (rows_of (w.box s.mailbox).log) u) v = mail_outcome k w n s true [] _ in (o.0, (s, is, o.1))
outcome k w (Store n u op) (s, is) = let o : (v : World) × MailStep k w n s false [] (flags_logged (rows_of (w.box s.mailbox).log) u op) v = mail_outcome k w n s false [] _ in (o.0, (s, is, o.1))
outcome k w (Expunge n may_go) (s, is) = let o : (v : World) × MailStep k w n s true (pending (w.box s.mailbox) s) (removals may_go (rows_of (w.box s.mailbox).log)) v = mail_outcome k w n s true _ _ in (o.0, (s, is, o.1))
outcome k w (Feed n limit) (s, is) = let o : (v : World) × MailStep k w n s true (take limit (pending (w.box s.mailbox) s)) [] v = mail_outcome k w n s true _ [] in (o.0, (s, is, o.1))
outcome k w (Leave n removing) (s, is) = let o : (v : World) × LeaveStep k w n s (removals_if removing (rows_of (w.box s.mailbox).log)) v = leave_outcome k w n s _ in (o.0, (s, is, o.1))
outcome k w (Discard m goes) there = discard_outcome k w m (discards goes (rows_of (w.box m).log)) there

pub only_allowed : (k : Config) (w : World) (e : Event) (v : World) → Step k w e v → Allowed k w e
only_allowed k w (Put p s c) v (put_joins may live room e) = may
only_allowed k w (Put p s c) v (put_full may live room e) = may
only_allowed k w (Put p s c) v (put_no_memory may live room e) = may
only_allowed k w (Put p s c) v (put_shut may ended e) = may
only_allowed k w (PutEnd p s) v (end_joins seat shard live room e) = (seat, shard, live)
only_allowed k w (PutEnd p s) v (end_full seat shard live room e) = (seat, shard, live)
only_allowed k w (Take s) v (takes x others empty front e) = empty
only_allowed k w (Take s) v (take_empty empty front e) = empty
only_allowed k w (Deliver s) v (delivers c b was uid room L e) = (c, was)
only_allowed k w (Deliver s) v (deliver_spent c was h e) = (c, was)
only_allowed k w (Deliver s) v (deliver_full c was h i e) = (c, was)
only_allowed k w (Deliver s) v (deliver_no_memory c was h i e) = (c, was)
only_allowed k w (Answer s) v (answers r was room e) = (r, was)
only_allowed k w (Answer s) v (answer_full r was room e) = (r, was)
only_allowed k w (Hear p) v (hears_one s r others front e) = (s, r, others, front)
only_allowed k w (Enter n m) v (enters a b c d e) = (a, b, c)
only_allowed k w (Enter n m) v (enter_spent a b c d e) = (a, b, c)
only_allowed k w (Enter n m) v (enter_no_memory a b c d e) = (a, b, c)
only_allowed k w (Status m) v e = tt
only_allowed k w (Read n u mark) v (s, is, step) = (s, is)
only_allowed k w (Store n u op) v (s, is, step) = (s, is)
only_allowed k w (Expunge n may_go) v (s, is, step) = (s, is)
only_allowed k w (Feed n limit) v (s, is, step) = (s, is)
only_allowed k w (Leave n removing) v (s, is, step) = (s, is)
only_allowed k w (Discard m goes) v (discards_them b there L e) = there
only_allowed k w (Discard m goes) v (discard_spent there h e) = there
