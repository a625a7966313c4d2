-- What every event keeps.
use Rattle.std.proofs.Common.{◌-◌, ◌≡◌, ℕ, ◌<◌, ◌≤◌, ◌≢◌, ◌⊎◌, inl, inr, Bool, true, false, cond, ◌&&◌, if◌then◌else◌, ◌==◌, eqb, List, [], ◌∷◌, ◌++◌, map, length, drop, filter, filter_map, refl, sym, ap, ◌∙◌, arith, subst, append_assoc, append-nil, length-append, drop_of_length-le, le_refl, Option, Some, None}
use Rattle.std.proofs.lemmas.List.{map-append}
use Rattle.std.proofs.Math.Seq.{take-length}
use Rattle.std.proofs.lemmas.Bool.{eq-eqb}
use Rattle.std.proofs.lemmas.Bool.Decides.{eqb_tells}
use Rattle.std.proofs.lemmas.List.Elements.{filter-append, filter_map-append}
use Rattle.shard_queue.specs.declared.lane.Entry.{Entry}
use Rattle.shard_queue.specs.declared.lane.Entry.TheVariants.{Item, End}
use Rattle.shard_queue.specs.Lane.{producer, has_end, put, took, IsLive, IsMerge, set_at}
use Rattle.delivery_token.specs.declared.CopyKey.{CopyKey}
use Rattle.delivery_token.specs.declared.Job.{Job}
use Rattle.delivery_token.specs.Keys.{Below}
use Rattle.delivery_token.specs.declared.Verdict.{Verdict}
use Rattle.delivery_token.specs.declared.Verdict.TheVariants.{Stored, Refused}
use Rattle.delivery_token.specs.declared.Refusal.{Refusal}
use Rattle.delivery_token.specs.declared.log.Noted.{Noted}
use Rattle.change_ring.specs.declared.change.Change.{Change}
use Rattle.change_ring.specs.Log.{added, rows_of, replay, FitsView, arrival}
use Rattle.delivery_token.specs.Copies.{stored_pair, stored_in}
use Rattle.std.specs.List.{range_with_len}
use Rattle.shard_queue.proofs.AtLaws.{at_cases, at_both, at_each}
use Rattle.shard_queue.proofs.LaneLaws.{empty_merge, merge_put, merge_took}
use Rattle.world.specs.World.{Config, World, Box, Session, Hand, Empty, Taken, Done, IsShardOf, shard_of, reply_room, puts, hears, reply_to, MayPut, EntryBelow, in_hand, Logs, delivered, refused, next_uid, most_changes, shows, pending, empty_world}
use Rattle.world.specs.Law.{item_of, items, stored, held, due, accepted_of, pair_of, pairs, copies, copy_for, taken_copies, IsShown, IsPart as Part, none}
use Rattle.world.proofs.Base.{Every, every_append, every_of_all, Rising, rising_push, part_append, part_front}
use Rattle.world.proofs.Mails.{uids, base_within, window_full, shown_grows, shown_more}
use Rattle.world.specs.Known.{key_in}
use Rattle.change_ring.proofs.LogLaws.{FitsView-append, added-append, arrival-added, arrival-fits, uids-rows_after}
use Rattle.change_ring.proofs.RangeLaws.{range-push}

-- an entry of shard s's lane that is a copy has its producer's seat, and a mailbox of that shard
abbrev pub OwnCopy : Config → ℕ → Entry Job → Type 0
OwnCopy k s (Item p c) = (c.key.seat ≡ p) × IsShardOf k c.mailbox s
OwnCopy k s (End p) = Unit {0}

abbrev pub HandOk : Config → ℕ → Hand → Type 0
HandOk k s Empty = Unit {0}
HandOk k s (Taken c) = IsShardOf k c.mailbox s
HandOk k s (Done r) = IsShardOf k r.mailbox s

-- seat p's copy for mailbox m that is in the hand and not yet delivered
abbrev pub hand_copies : ℕ → ℕ → Hand → List Job
hand_copies p m Empty = []
hand_copies p m (Taken c) = if c.key.seat == p && c.mailbox == m then c ∷ [] else []
hand_copies p m (Done r) = []

abbrev pub SessionOk : (ℕ → Box) → Option Session → Type 0
SessionOk boxes None = Unit {0}
SessionOk boxes (Some s) = IsShown (boxes s.mailbox).log s

pub record BoxOk (k : Config) (b : Box) : Type 0 where
  pub there : FitsView [] b.log
  pub given : added b.log ≡ map (λ a. a.1) b.accepted
  pub counted : added b.log ≡ range_with_len k.first_uid (length b.accepted)
  pub based : b.base ≤ length b.log
  pub window : 0 < b.base → k.ring ≤ length b.log - b.base
  pub room : length b.log ≤ most_changes

pub record Kept (k : Config) (w : World) : Type 0 where
  pub lanes : (s : ℕ) → IsMerge k.seats k.depth (w.lane s)
  pub own : (s : ℕ) → Every (OwnCopy k s) ((w.lane s).got ++ (w.lane s).waiting)
  pub rising : (p s : ℕ) → Rising Below (filter_map key_in ((w.lane s).sent p))
  pub hands : (s : ℕ) → HandOk k s (w.hand s)
  pub replies : (p : ℕ) → IsMerge k.shards reply_room (w.replies p)
  pub live : (p s : ℕ) → IsLive (w.replies p) s
  pub history : (p m : ℕ) → pairs (accepted_of w p m) ≡ stored w p m ++ due k w p m
  pub part : (p m : ℕ) → Part (copies (accepted_of w p m) ++ hand_copies p m (w.hand (shard_of k m))) (taken_copies k w p m)
  pub boxes : (m : ℕ) → BoxOk k (w.box m)
  pub sessions : (n : ℕ) → SessionOk w.box (w.session n)

pub kept_empty : (k : Config) → Kept k empty_world
kept_empty k = record {
  lanes = λ s. empty_merge k.seats k.depth;
  own = λ s. tt;
  rising = λ p s. tt;
  hands = λ s. tt;
  replies = λ p. empty_merge k.shards reply_room;
  live = λ p s. refl;
  history = λ p m. refl;
  part = λ p m. none;
  boxes = λ m. record { there = tt; given = refl; counted = refl; based = omega arith; window = λ h. absurd (omega arith); room = omega arith };
  sessions = λ n. tt;
}

-- Put and End

-- an entry joins a lane
kept_puts : (k : Config) (w : World) (s : ℕ) (e : Entry Job) → Kept k w → producer e < k.seats → IsLive (w.lane s) (producer e) → length (w.lane s).waiting < k.depth → OwnCopy k s e
    → Rising Below (filter_map key_in ((w.lane s).sent (producer e) ++ e ∷ [])) → Kept k (puts w s e)
kept_puts k w s e K known live room own up = record {
  lanes = at_each (λ t l. IsMerge k.seats k.depth l) w.lane s _ K.lanes (merge_put k.seats k.depth (w.lane s) e (K.lanes s) known live room);
  own = at_each (λ t l. Every (OwnCopy k t) (l.got ++ l.waiting)) w.lane s _ K.own (rw (← append_assoc (w.lane s).got (w.lane s).waiting (e ∷ [])) (every_append (OwnCopy k s) _ (e ∷ []) (K.own s) (own, tt)));
  rising = λ p. at_each (λ t l. Rising Below (filter_map key_in (l.sent p))) w.lane s _ (K.rising p)
      (at_cases (λ es. Rising Below (filter_map key_in es)) (w.lane s).sent (producer e) _ p (λ _. up) (λ _. K.rising p s));
  hands = K.hands;
  replies = K.replies;
  live = K.live;
  history = K.history;
  part = λ p m. at_cases (λ l. Part (copies (accepted_of w p m) ++ hand_copies p m (w.hand (shard_of k m))) (filter_map (copy_for p m) l.got)) w.lane s _ (shard_of k m) (λ same. subst (λ t. Part (copies (accepted_of w p m) ++ hand_copies p m (w.hand (shard_of k m))) (filter_map (copy_for p m) (w.lane t).got)) same (K.part p m)) (λ _. K.part p m);
  boxes = K.boxes;
  sessions = K.sessions;
}

-- the keys of these entries are below y
keys_below : (y : CopyKey) (es : List (Entry Job)) → Every (EntryBelow y) es → Every (λ x. Below x y) (filter_map key_in es)
keys_below y [] h = tt
keys_below y (Item p c ∷ es) h = (h.0, keys_below y es h.1)
keys_below y (End p ∷ es) h = keys_below y es h.1

pub kept_put : (k : Config) (w : World) (p s : ℕ) (c : Job) → Kept k w → MayPut k w p s c → IsLive (w.lane s) p → length (w.lane s).waiting < k.depth → Kept k (puts w s (Item p c))
kept_put k w p s c K may live room = kept_puts k w s (Item p c) K may.seat live room (may.own, may.shard)
    (rw filter_map-append (rising_push Below (filter_map key_in ((w.lane s).sent p)) c.key (K.rising p s) (keys_below c.key ((w.lane s).sent p) (every_of_all (EntryBelow c.key) ((w.lane s).sent p) (may.above_sent s)))))

pub kept_end : (k : Config) (w : World) (p s : ℕ) → Kept k w → p < k.seats → IsLive (w.lane s) p → length (w.lane s).waiting < k.depth → Kept k (puts w s (End p))
kept_end k w p s K known live room = kept_puts k w s (End p) K known live room tt
    (rw (filter_map-append key_in ((w.lane s).sent p) (End p ∷ []), append-nil) (K.rising p s))

stored_refused : (m : ℕ) (r : Noted) (why : Refusal) → r.verdict ≡ Refused why → stored_in m (r ∷ []) ≡ []
stored_refused m r why e = rw e refl

-- a seat hears that a copy was refused
pub kept_hears : (k : Config) (w : World) (p : ℕ) (r : Noted) (why : Refusal) → Kept k w → r.verdict ≡ Refused why → Kept k (hears w p r)
kept_hears k w p r why K e = record {
  lanes = K.lanes;
  own = K.own;
  rising = K.rising;
  hands = K.hands;
  replies = K.replies;
  live = K.live;
  history = λ q m. at_cases (λ rs. pairs (accepted_of w q m) ≡ stored_in m rs ++ due k w q m) w.heard p _ q
      (λ same. rw (filter_map-append (λ x. stored_pair m x x.verdict) (w.heard p) (r ∷ []), stored_refused m r why e, append-nil) (subst (λ x. pairs (accepted_of w q m) ≡ stored_in m (w.heard x) ++ due k w q m) same (K.history q m)))
      (λ _. K.history q m);
  part = K.part;
  boxes = K.boxes;
  sessions = K.sessions;
}

-- Take

every_back : {A : Type 0} (P : A → Type 0) (xs : List A) (y : A) (ys : List A) → Every P (xs ++ y ∷ ys) → P y
every_back P [] y ys h = h.0
every_back P (x ∷ xs) y ys h = every_back P xs y ys h.1

hand_after_take : (k : Config) (s : ℕ) (e : Entry Job) → OwnCopy k s e → HandOk k s (in_hand e)
hand_after_take k s (Item p c) h = h.1
hand_after_take k s (End p) h = tt

held_taken : (p : ℕ) (e : Entry Job) → held p (in_hand e) ≡ []
held_taken p (Item q c) = refl
held_taken p (End q) = refl

copies_taken : (p m : ℕ) (e : Entry Job) → filter_map (copy_for p m) (e ∷ []) ≡ hand_copies p m (in_hand e)
copies_taken p m (Item q c) = go (c.key.seat == p && c.mailbox == m)
  where
    go : (b : Bool) → filter_map (λ x. x) ((cond b (Some c) None) ∷ []) ≡ cond b (c ∷ []) []
    go true = refl
    go false = refl
copies_taken p m (End q) = refl

pub kept_take : (k : Config) (w : World) (s : ℕ) (e : Entry Job) (others : List (Entry Job)) → Kept k w → w.hand s ≡ Empty → (w.lane s).waiting ≡ e ∷ others
    → Kept k (record w { lane = set_at w.lane s (took (w.lane s) e others); hand = set_at w.hand s (in_hand e) })
kept_take k w s e others K empty front = record {
  lanes = at_each (λ t l. IsMerge k.seats k.depth l) w.lane s _ K.lanes (merge_took k.seats k.depth (w.lane s) e others (K.lanes s) front);
  own = at_each (λ t l. Every (OwnCopy k t) (l.got ++ l.waiting)) w.lane s _ K.own (rw append_assoc all_own);
  rising = λ p. at_each (λ t l. Rising Below (filter_map key_in (l.sent p))) w.lane s _ (K.rising p) (K.rising p s);
  hands = at_each (HandOk k) w.hand s _ K.hands (hand_after_take k s e (every_back (OwnCopy k s) (w.lane s).got e others all_own));
  replies = K.replies;
  live = K.live;
  history = λ p m. at_cases (λ h. pairs (accepted_of w p m) ≡ stored w p m ++ (stored_in m (items (w.replies p).waiting) ++ stored_in m (held p h))) w.hand s _ (shard_of k m)
      (λ same. rw held_taken (subst (λ h. pairs (accepted_of w p m) ≡ stored w p m ++ (stored_in m (items (w.replies p).waiting) ++ stored_in m (held p h))) (ap w.hand same ∙ empty) (K.history p m)))
      (λ _. K.history p m);
  part = λ p m. at_both (λ l h. Part (copies (accepted_of w p m) ++ hand_copies p m h) (filter_map (copy_for p m) l.got)) w.lane w.hand s _ _ (shard_of k m)
      (λ same. rw (filter_map-append (copy_for p m) (w.lane s).got (e ∷ []), copies_taken p m e)
      (part_append (hand_copies p m (in_hand e)) (rw append-nil at (subst (λ h. Part (copies (accepted_of w p m) ++ hand_copies p m h) (filter_map (copy_for p m) (w.lane s).got)) empty
      (subst (λ t. Part (copies (accepted_of w p m) ++ hand_copies p m (w.hand t)) (filter_map (copy_for p m) (w.lane t).got)) same (K.part p m))))))
      (λ _. K.part p m);
  boxes = K.boxes;
  sessions = K.sessions;
}
  where
    all_own : Every (OwnCopy k s) ((w.lane s).got ++ e ∷ others)
    all_own = subst (λ es. Every (OwnCopy k s) ((w.lane s).got ++ es)) front (K.own s)

-- Deliver

-- a reply for another mailbox, and one that refuses, are none of mailbox m's
held_other : (p m : ℕ) (r : Noted) → r.mailbox ≢ m → stored_in m (held p (Done r)) ≡ []
held_other p m r other = go (r.key.seat == p) r.verdict refl
  where
    none_here : (v : Verdict) → stored_pair m r v ≡ None
    none_here (Stored u) = go2 (eqb_tells r.mailbox m)
      where
        go2 : ((eqb r.mailbox m ≡ true) × (r.mailbox ≡ m)) ⊎ ((eqb r.mailbox m ≡ false) × (r.mailbox ≢ m)) → stored_pair m r (Stored u) ≡ None
        go2 (inl (t, e)) = absurd (other e)
        go2 (inr (t, e)) = rw t refl
    none_here (Refused why) = refl

    go : (b : Bool) (v : Verdict) → r.verdict ≡ v → stored_in m (cond b (r ∷ []) []) ≡ []
    go true v e = rw none_here refl
    go false v e = refl

held_refused : (p m : ℕ) (r : Noted) (why : Refusal) → r.verdict ≡ Refused why → stored_in m (held p (Done r)) ≡ []
held_refused p m r why e = go (r.key.seat == p)
  where
    go : (b : Bool) → stored_in m (cond b (r ∷ []) []) ≡ []
    go true = stored_refused m r why e
    go false = refl

-- the reply that a copy was stored in mailbox m is p's exactly where the accepted copy is
held_stored : (p m u : ℕ) (c : Job) → c.mailbox ≡ m → stored_in m (held p (Done (reply_to c (Stored u)))) ≡ pairs (filter (λ a. a.0.key.seat == p) ((c, u) ∷ []))
held_stored p m u c e = go (c.key.seat == p)
  where
    go : (b : Bool) → stored_in m (cond b (reply_to c (Stored u) ∷ []) []) ≡ pairs (cond b ((c, u) ∷ []) [])
    go true = rw (eq-eqb c.mailbox m e) refl
    go false = refl

-- the hand of a shard turns from a copy to a reply that refuses
pub kept_refused : (k : Config) (w : World) (s : ℕ) (c : Job) (r : Noted) (why : Refusal) → Kept k w → w.hand s ≡ Taken c → r.mailbox ≡ c.mailbox → r.verdict ≡ Refused why → Kept k (refused w s r)
kept_refused k w s c r why K was box verdict = record {
  lanes = K.lanes;
  own = K.own;
  rising = K.rising;
  hands = at_each (HandOk k) w.hand s _ K.hands (rw box (subst (HandOk k s) was (K.hands s)));
  replies = K.replies;
  live = K.live;
  history = λ p m. at_cases (λ h. pairs (accepted_of w p m) ≡ stored w p m ++ (stored_in m (items (w.replies p).waiting) ++ stored_in m (held p h))) w.hand s _ (shard_of k m)
      (λ same. rw (held_refused p m r why verdict) (subst (λ h. pairs (accepted_of w p m) ≡ stored w p m ++ (stored_in m (items (w.replies p).waiting) ++ stored_in m (held p h))) (ap w.hand same ∙ was) (K.history p m)))
      (λ _. K.history p m);
  part = λ p m. at_cases (λ h. Part (copies (accepted_of w p m) ++ hand_copies p m h) (taken_copies k w p m)) w.hand s _ (shard_of k m)
      (λ same. rw append-nil (part_front (copies (accepted_of w p m)) (hand_copies p m (w.hand (shard_of k m))) (K.part p m)))
      (λ _. K.part p m);
  boxes = K.boxes;
  sessions = K.sessions;
}

-- a mailbox logs changes that name rows, and its accepted pairs are their Adds
box_logs : (k : Config) (b new : Box) (cs : List Change) (more : List (Job × ℕ)) → BoxOk k b → Logs k b cs more new → FitsView (uids (rows_of b.log)) cs → added cs ≡ map (λ a. a.1) more
    → added b.log ++ added cs ≡ range_with_len k.first_uid (length (b.accepted ++ more)) → BoxOk k new
box_logs k b new cs more B L names both counted = record {
  there = rw L.log (FitsView-append [] b.log cs B.there (let e : uids (rows_of b.log) ≡ replay [] b.log = uids-rows_after [] b.log in rw e at names));
  given = ap added L.log ∙ (added-append b.log cs ∙ (ap (λ xs. xs ++ added cs) B.given ∙ (ap (λ xs. map (λ a. a.1) b.accepted ++ xs) both ∙ (sym (map-append (λ a. a.1) b.accepted more) ∙ ap (map (λ a. a.1)) (sym L.accepted)))));
  counted = ap added L.log ∙ (added-append b.log cs ∙ (counted ∙ ap (λ xs. range_with_len k.first_uid (length xs)) (sym L.accepted)));
  based = omega (arith, ap length L.log, length-append b.log cs, base_within k.ring (length b.log) b.base cs new.base B.based L.base);
  window = λ p. omega (arith, ap length L.log, length-append b.log cs, window_full k.ring (length b.log) b.base cs new.base B.based B.window L.base p);
  room = omega (arith, ap length L.log, length-append b.log cs, L.room);
}

-- every session's shown changes are the same ones of the longer log
sessions_log : (k : Config) (boxes : ℕ → Box) (m : ℕ) (new : Box) (cs : List Change) (more : List (Job × ℕ)) → Logs k (boxes m) cs more new → (s : Option Session) → SessionOk boxes s → SessionOk (set_at boxes m new) s
sessions_log k boxes m new cs more L None h = tt
sessions_log k boxes m new cs more L (Some s) h = at_cases (λ b. IsShown b.log s) boxes m new s.mailbox
    (λ same. rw L.log (shown_grows (boxes m).log cs s (subst (λ x. IsShown (boxes x).log s) same h)))
    (λ _. h)

pub kept_delivered : (k : Config) (w : World) (s : ℕ) (c : Job) (new : Box) → Kept k w → w.hand s ≡ Taken c
    → Logs k (w.box c.mailbox) (arrival (next_uid k (w.box c.mailbox)) c.flags) ((c, next_uid k (w.box c.mailbox)) ∷ []) new
    → Kept k (delivered w s c.mailbox new (reply_to c (Stored (next_uid k (w.box c.mailbox)))))
kept_delivered k w s c new K was L = record {
  lanes = K.lanes;
  own = K.own;
  rising = K.rising;
  hands = at_each (HandOk k) w.hand s _ K.hands mine;
  replies = K.replies;
  live = K.live;
  history = λ p m. at_cases (λ b. pairs (filter (λ a. a.0.key.seat == p) b.accepted) ≡ stored w p m ++ (stored_in m (items (w.replies p).waiting) ++ stored_in m (held p (set_at w.hand s (Done r) (shard_of k m))))) w.box c.mailbox new m
      (λ same. at_cases (λ h. pairs (filter (λ a. a.0.key.seat == p) new.accepted) ≡ stored w p m ++ (stored_in m (items (w.replies p).waiting) ++ stored_in m (held p h))) w.hand s _ (shard_of k m)
      (λ here. history_more p m same here)
      (λ there. absurd (there (ap (shard_of k) same ∙ mine.1))))
      (λ other. at_cases (λ h. pairs (accepted_of w p m) ≡ stored w p m ++ (stored_in m (items (w.replies p).waiting) ++ stored_in m (held p h))) w.hand s _ (shard_of k m)
      (λ here. rw (held_other p m r (λ e. other (sym e))) (subst (λ h. pairs (accepted_of w p m) ≡ stored w p m ++ (stored_in m (items (w.replies p).waiting) ++ stored_in m (held p h))) (ap w.hand here ∙ was) (K.history p m)))
      (λ _. K.history p m));
  part = λ p m. at_cases (λ b. Part (copies (filter (λ a. a.0.key.seat == p) b.accepted) ++ hand_copies p m (set_at w.hand s (Done r) (shard_of k m))) (taken_copies k w p m)) w.box c.mailbox new m
      (λ same. at_cases (λ h. Part (copies (filter (λ a. a.0.key.seat == p) new.accepted) ++ hand_copies p m h) (taken_copies k w p m)) w.hand s _ (shard_of k m)
      (λ here. part_more_copies p m same here)
      (λ there. absurd (there (ap (shard_of k) same ∙ mine.1))))
      (λ other. at_cases (λ h. Part (copies (accepted_of w p m) ++ hand_copies p m h) (taken_copies k w p m)) w.hand s _ (shard_of k m)
      (λ here. rw append-nil (part_front (copies (accepted_of w p m)) (hand_copies p m (w.hand (shard_of k m))) (K.part p m)))
      (λ _. K.part p m));
  boxes = at_each (λ m b. BoxOk k b) w.box c.mailbox new K.boxes
      (box_logs k (w.box c.mailbox) new _ _ (K.boxes c.mailbox) L (arrival-fits _ (next_uid k (w.box c.mailbox)) c.flags) (arrival-added (next_uid k (w.box c.mailbox)) c.flags)
      (rw (arrival-added (next_uid k (w.box c.mailbox)) c.flags, (K.boxes c.mailbox).counted, length-append) (range-push k.first_uid (length (w.box c.mailbox).accepted))));
  sessions = λ n. sessions_log k w.box c.mailbox new _ _ L (w.session n) (K.sessions n);
}
  where
    r : Noted
    r = reply_to c (Stored (next_uid k (w.box c.mailbox)))

    mine : IsShardOf k c.mailbox s
    mine = subst (HandOk k s) was (K.hands s)

    history_more : (p m : ℕ) → m ≡ c.mailbox → shard_of k m ≡ s → pairs (filter (λ a. a.0.key.seat == p) new.accepted) ≡ stored w p m ++ (stored_in m (items (w.replies p).waiting) ++ stored_in m (held p (Done r)))
    history_more p m same here =
        let old : pairs (filter (λ a. a.0.key.seat == p) (w.box c.mailbox).accepted) ≡ stored w p m ++ (stored_in m (items (w.replies p).waiting) ++ []) =
        subst (λ x. pairs (filter (λ a. a.0.key.seat == p) (w.box x).accepted) ≡ stored w p m ++ (stored_in m (items (w.replies p).waiting) ++ [])) same
        (subst (λ h. pairs (accepted_of w p m) ≡ stored w p m ++ (stored_in m (items (w.replies p).waiting) ++ stored_in m (held p h))) (ap w.hand here ∙ was) (K.history p m)) in
        ap (λ xs. pairs (filter (λ a. a.0.key.seat == p) xs)) L.accepted
        ∙ (ap pairs (filter-append (λ a. a.0.key.seat == p) (w.box c.mailbox).accepted ((c, next_uid k (w.box c.mailbox)) ∷ []))
        ∙ (map-append pair_of (filter (λ a. a.0.key.seat == p) (w.box c.mailbox).accepted) (filter (λ a. a.0.key.seat == p) ((c, next_uid k (w.box c.mailbox)) ∷ []))
        ∙ (ap (λ xs. xs ++ pairs (filter (λ a. a.0.key.seat == p) ((c, next_uid k (w.box c.mailbox)) ∷ []))) old
        ∙ rw (held_stored p m (next_uid k (w.box c.mailbox)) c (sym same)) (simp (append_assoc, append-nil)))))

    own_copies : (p m : ℕ) → c.mailbox ≡ m → copies (filter (λ a. a.0.key.seat == p) ((c, next_uid k (w.box c.mailbox)) ∷ [])) ≡ hand_copies p m (Taken c)
    own_copies p m e = go (c.key.seat == p)
      where
        go : (b : Bool) → copies (cond b ((c, next_uid k (w.box c.mailbox)) ∷ []) []) ≡ cond (b && (c.mailbox == m)) (c ∷ []) []
        go true = rw (eq-eqb c.mailbox m e) refl
        go false = refl

    part_more_copies : (p m : ℕ) → m ≡ c.mailbox → shard_of k m ≡ s → Part (copies (filter (λ a. a.0.key.seat == p) new.accepted) ++ []) (taken_copies k w p m)
    part_more_copies p m same here =
        let old : Part (copies (filter (λ a. a.0.key.seat == p) (w.box c.mailbox).accepted) ++ hand_copies p m (Taken c)) (taken_copies k w p m) =
        subst (λ x. Part (copies (filter (λ a. a.0.key.seat == p) (w.box x).accepted) ++ hand_copies p m (Taken c)) (taken_copies k w p m)) same
        (subst (λ h. Part (copies (accepted_of w p m) ++ hand_copies p m h) (taken_copies k w p m)) (ap w.hand here ∙ was) (K.part p m)) in
        let e : copies (filter (λ a. a.0.key.seat == p) new.accepted) ++ [] ≡ copies (filter (λ a. a.0.key.seat == p) (w.box c.mailbox).accepted) ++ hand_copies p m (Taken c) =
        append-nil _ ∙ (ap (λ xs. copies (filter (λ a. a.0.key.seat == p) xs)) L.accepted
        ∙ (ap copies (filter-append (λ a. a.0.key.seat == p) (w.box c.mailbox).accepted ((c, next_uid k (w.box c.mailbox)) ∷ []))
        ∙ (map-append (λ a. a.0) (filter (λ a. a.0.key.seat == p) (w.box c.mailbox).accepted) (filter (λ a. a.0.key.seat == p) ((c, next_uid k (w.box c.mailbox)) ∷ []))
        ∙ ap (λ xs. copies (filter (λ a. a.0.key.seat == p) (w.box c.mailbox).accepted) ++ xs) (own_copies p m (sym same))))) in
        subst (λ xs. Part xs (taken_copies k w p m)) (sym e) old

-- Answer and Hear

live_more : {A : Type 0} (es : List (Entry A)) (s : ℕ) (x : A) → has_end es ≡ false → has_end (es ++ Item s x ∷ []) ≡ false
live_more [] s x h = refl
live_more (Item p y ∷ es) s x h = live_more es s x h
live_more (End p ∷ es) s x h = h

stored_other : (m : ℕ) (r : Noted) → r.mailbox ≢ m → stored_in m (r ∷ []) ≡ []
stored_other m r other = go r.verdict
  where
    go : (v : Verdict) → filter_map (λ x. stored_pair m x v) (r ∷ []) ≡ []
    go (Stored u) = go2 (eqb_tells r.mailbox m)
      where
        go2 : ((eqb r.mailbox m ≡ true) × (r.mailbox ≡ m)) ⊎ ((eqb r.mailbox m ≡ false) × (r.mailbox ≢ m)) → filter_map (λ x. stored_pair m x (Stored u)) (r ∷ []) ≡ []
        go2 (inl (t, e)) = absurd (other e)
        go2 (inr (t, e)) = rw t refl
    go (Refused why) = refl

held_mine : (p : ℕ) (r : Noted) → p ≡ r.key.seat → held p (Done r) ≡ r ∷ []
held_mine p r e = rw (eq-eqb r.key.seat p (sym e)) refl

held_others : (p : ℕ) (r : Noted) → p ≢ r.key.seat → held p (Done r) ≡ []
held_others p r e = go (eqb_tells r.key.seat p)
  where
    go : ((eqb r.key.seat p ≡ true) × (r.key.seat ≡ p)) ⊎ ((eqb r.key.seat p ≡ false) × (r.key.seat ≢ p)) → held p (Done r) ≡ []
    go (inl (t, s)) = absurd (e (sym s))
    go (inr (t, s)) = rw t refl

items_push : (m : ℕ) (es : List (Entry Noted)) (s : ℕ) (r : Noted) → stored_in m (items (es ++ Item s r ∷ [])) ≡ stored_in m (items es) ++ stored_in m (r ∷ [])
items_push m es s r = rw (filter_map-append item_of es (Item s r ∷ [])) (filter_map-append (λ x. stored_pair m x x.verdict) (items es) (r ∷ []))

pub kept_answer : (k : Config) (w : World) (s : ℕ) (r : Noted) → Kept k w → w.hand s ≡ Done r → length (w.replies r.key.seat).waiting < reply_room
    → Kept k (record w { hand = set_at w.hand s Empty; replies = set_at w.replies r.key.seat (put (w.replies r.key.seat) (Item s r)) })
kept_answer k w s r K was room = record {
  lanes = K.lanes;
  own = K.own;
  rising = K.rising;
  hands = at_each (HandOk k) w.hand s _ K.hands tt;
  replies = at_each (λ p l. IsMerge k.shards reply_room l) w.replies q _ K.replies (merge_put k.shards reply_room (w.replies q) (Item s r) (K.replies q) mine.0 (K.live q s) room);
  live = λ p t. at_cases (λ l. IsLive l t) w.replies q _ p
      (λ _. at_cases (λ es. has_end es ≡ false) (w.replies q).sent s _ t (λ _. live_more ((w.replies q).sent s) s r (K.live q s)) (λ _. K.live q t))
      (λ _. K.live p t);
  history = λ p m. at_cases (λ l. pairs (accepted_of w p m) ≡ stored w p m ++ (stored_in m (items l.waiting) ++ stored_in m (held p (set_at w.hand s Empty (shard_of k m))))) w.replies q _ p
      (λ own. at_cases (λ h. pairs (accepted_of w p m) ≡ stored w p m ++ (stored_in m (items ((w.replies q).waiting ++ Item s r ∷ [])) ++ stored_in m (held p h))) w.hand s _ (shard_of k m)
      (λ here.
      let old : pairs (accepted_of w p m) ≡ stored w p m ++ (stored_in m (items (w.replies q).waiting) ++ stored_in m (r ∷ [])) =
      subst (λ rs. pairs (accepted_of w p m) ≡ stored w p m ++ (stored_in m (items (w.replies q).waiting) ++ stored_in m rs)) (held_mine p r own) (before p m own here) in
      rw (items_push, append-nil) old)
      (λ there.
      let old : pairs (accepted_of w p m) ≡ stored w p m ++ (stored_in m (items (w.replies q).waiting) ++ stored_in m (held p (w.hand (shard_of k m)))) =
      subst (λ x. pairs (accepted_of w p m) ≡ stored w p m ++ (stored_in m (items (w.replies x).waiting) ++ stored_in m (held p (w.hand (shard_of k m))))) own (K.history p m) in
      rw (items_push, stored_other m r (λ e. there (sym (ap (shard_of k) e) ∙ mine.1)), append-nil) old))
      (λ other. at_cases (λ h. pairs (accepted_of w p m) ≡ stored w p m ++ (stored_in m (items (w.replies p).waiting) ++ stored_in m (held p h))) w.hand s _ (shard_of k m)
      (λ here. subst (λ rs. pairs (accepted_of w p m) ≡ stored w p m ++ (stored_in m (items (w.replies p).waiting) ++ stored_in m rs)) (held_others p r other)
      (subst (λ h. pairs (accepted_of w p m) ≡ stored w p m ++ (stored_in m (items (w.replies p).waiting) ++ stored_in m (held p h))) (ap w.hand here ∙ was) (K.history p m)))
      (λ _. K.history p m));
  part = λ p m. at_cases (λ h. Part (copies (accepted_of w p m) ++ hand_copies p m h) (taken_copies k w p m)) w.hand s _ (shard_of k m)
      (λ here. subst (λ h. Part (copies (accepted_of w p m) ++ hand_copies p m h) (taken_copies k w p m)) (ap w.hand here ∙ was) (K.part p m))
      (λ _. K.part p m);
  boxes = K.boxes;
  sessions = K.sessions;
}
  where
    q : ℕ
    q = r.key.seat

    mine : IsShardOf k r.mailbox s
    mine = subst (HandOk k s) was (K.hands s)

    before : (p m : ℕ) → p ≡ q → shard_of k m ≡ s → pairs (accepted_of w p m) ≡ stored w p m ++ (stored_in m (items (w.replies q).waiting) ++ stored_in m (held p (Done r)))
    before p m own here = subst (λ x. pairs (accepted_of w p m) ≡ stored w p m ++ (stored_in m (items (w.replies x).waiting) ++ stored_in m (held p (Done r)))) own
        (subst (λ h. pairs (accepted_of w p m) ≡ stored w p m ++ (stored_in m (items (w.replies p).waiting) ++ stored_in m (held p h))) (ap w.hand here ∙ was) (K.history p m))

pub kept_hear : (k : Config) (w : World) (p s : ℕ) (r : Noted) (others : List (Entry Noted)) → Kept k w → (w.replies p).waiting ≡ Item s r ∷ others
    → Kept k (record w { replies = set_at w.replies p (took (w.replies p) (Item s r) others); heard = set_at w.heard p (w.heard p ++ r ∷ []) })
kept_hear k w p s r others K front = record {
  lanes = K.lanes;
  own = K.own;
  rising = K.rising;
  hands = K.hands;
  replies = at_each (λ q l. IsMerge k.shards reply_room l) w.replies p _ K.replies (merge_took k.shards reply_room (w.replies p) (Item s r) others (K.replies p) front);
  live = at_each (λ q l. (t : ℕ) → IsLive l t) w.replies p _ K.live (K.live p);
  history = λ q m. at_both (λ l hs. pairs (accepted_of w q m) ≡ stored_in m hs ++ (stored_in m (items l.waiting) ++ stored_in m (held q (w.hand (shard_of k m))))) w.replies w.heard p _ _ q
      (λ same.
      let old : pairs (accepted_of w q m) ≡ stored_in m (w.heard p) ++ (stored_in m (items (Item s r ∷ others)) ++ stored_in m (held q (w.hand (shard_of k m)))) =
      subst (λ es. pairs (accepted_of w q m) ≡ stored_in m (w.heard p) ++ (stored_in m (items es) ++ stored_in m (held q (w.hand (shard_of k m))))) front
      (subst (λ x. pairs (accepted_of w q m) ≡ stored_in m (w.heard x) ++ (stored_in m (items (w.replies x).waiting) ++ stored_in m (held q (w.hand (shard_of k m))))) same (K.history q m)) in
      old ∙ regroup m (w.heard p) r (items others) (stored_in m (held q (w.hand (shard_of k m)))))
      (λ _. K.history q m);
  part = K.part;
  boxes = K.boxes;
  sessions = K.sessions;
}
  where
    regroup : (m : ℕ) (hs : List Noted) (x : Noted) (rs : List Noted) (d : List (CopyKey × ℕ)) → stored_in m hs ++ (stored_in m (x ∷ rs) ++ d) ≡ stored_in m (hs ++ x ∷ []) ++ (stored_in m rs ++ d)
    regroup m hs x rs d =
        rw (filter_map-append (λ y. stored_pair m y y.verdict) (x ∷ []) rs) (rw (filter_map-append (λ y. stored_pair m y y.verdict) hs (x ∷ [])) (simp append_assoc))

-- Sessions

no_adds : (k : Config) (b new : Box) (cs : List Change) → BoxOk k b → Logs k b cs [] new → FitsView (uids (rows_of b.log)) cs → added cs ≡ [] → BoxOk k new
no_adds k b new cs B L names none_added = box_logs k b new cs [] B L names none_added
    (rw (none_added, append-nil, append-nil) B.counted)

-- a mailbox logs changes none of which is an Add, and the sessions become others
kept_logs : (k : Config) (w : World) (m : ℕ) (new : Box) (cs : List Change) (sessions : ℕ → Option Session) → Kept k w → Logs k (w.box m) cs [] new → FitsView (uids (rows_of (w.box m).log)) cs → added cs ≡ []
    → ((n : ℕ) → SessionOk (set_at w.box m new) (sessions n)) → Kept k (record w { box = set_at w.box m new; session = sessions })
kept_logs k w m new cs sessions K L names none_added fine = record {
  lanes = K.lanes;
  own = K.own;
  rising = K.rising;
  hands = K.hands;
  replies = K.replies;
  live = K.live;
  history = λ p x. at_cases (λ b. pairs (filter (λ a. a.0.key.seat == p) b.accepted) ≡ stored w p x ++ due k w p x) w.box m new x
      (λ same. rw same_accepted (subst (λ y. pairs (filter (λ a. a.0.key.seat == p) (w.box y).accepted) ≡ stored w p x ++ due k w p x) same (K.history p x)))
      (λ _. K.history p x);
  part = λ p x. at_cases (λ b. Part (copies (filter (λ a. a.0.key.seat == p) b.accepted) ++ hand_copies p x (w.hand (shard_of k x))) (taken_copies k w p x)) w.box m new x
      (λ same. rw same_accepted (subst (λ y. Part (copies (filter (λ a. a.0.key.seat == p) (w.box y).accepted) ++ hand_copies p x (w.hand (shard_of k x))) (taken_copies k w p x)) same (K.part p x)))
      (λ _. K.part p x);
  boxes = at_each (λ x b. BoxOk k b) w.box m new K.boxes (no_adds k (w.box m) new cs (K.boxes m) L names none_added);
  sessions = fine;
}
  where
    same_accepted : new.accepted ≡ (w.box m).accepted
    same_accepted = L.accepted ∙ append-nil (w.box m).accepted

pub kept_mail : (k : Config) (w : World) (n : ℕ) (s : Session) (new : Box) (shown rest changes : List Change) → Kept k w → w.session n ≡ Some s → Logs k (w.box s.mailbox) changes [] new
    → FitsView (uids (rows_of (w.box s.mailbox).log)) changes → added changes ≡ [] → shown ++ rest ≡ pending (w.box s.mailbox) s
    → Kept k (record w { box = set_at w.box s.mailbox new; session = set_at w.session n (Some (shows s shown)) })
kept_mail k w n s new shown rest changes K is L names none_added cut = kept_logs k w s.mailbox new changes _ K L names none_added
    (at_each (λ i x. SessionOk (set_at w.box s.mailbox new) x) w.session n _ (λ i. sessions_log k w.box s.mailbox new changes [] L (w.session i) (K.sessions i))
    (sessions_log k w.box s.mailbox new changes [] L (Some (shows s shown)) (shown_more (w.box s.mailbox).log shown rest s (subst (SessionOk w.box) is (K.sessions n)) cut)))

pub kept_leave : (k : Config) (w : World) (n : ℕ) (s : Session) (new : Box) (changes : List Change) → Kept k w → Logs k (w.box s.mailbox) changes [] new
    → FitsView (uids (rows_of (w.box s.mailbox).log)) changes → added changes ≡ []
    → Kept k (record w { box = set_at w.box s.mailbox new; session = set_at w.session n None })
kept_leave k w n s new changes K L names none_added = kept_logs k w s.mailbox new changes _ K L names none_added
    (at_each (λ i x. SessionOk (set_at w.box s.mailbox new) x) w.session n _ (λ i. sessions_log k w.box s.mailbox new changes [] L (w.session i) (K.sessions i)) tt)

pub kept_discard : (k : Config) (w : World) (m : ℕ) (new : Box) (changes : List Change) → Kept k w → Logs k (w.box m) changes [] new
    → FitsView (uids (rows_of (w.box m).log)) changes → added changes ≡ [] → Kept k (record w { box = set_at w.box m new })
kept_discard k w m new changes K L names none_added = kept_logs k w m new changes w.session K L names none_added
    (λ i. sessions_log k w.box m new changes [] L (w.session i) (K.sessions i))

pub kept_enter : (k : Config) (w : World) (n m : ℕ) (opened : ℕ → ℕ) → Kept k w
    → Kept k (record w { session = set_at w.session n (Some (record { mailbox = m; start = length (w.box m).log; cursor = length (w.box m).log; shown = [] })); opened = opened })
kept_enter k w n m opened K = record {
  lanes = K.lanes;
  own = K.own;
  rising = K.rising;
  hands = K.hands;
  replies = K.replies;
  live = K.live;
  history = K.history;
  part = K.part;
  boxes = K.boxes;
  sessions = at_each (λ i x. SessionOk w.box x) w.session n _ K.sessions (record {
    shown = sym (ap (drop (length (w.box m).log)) (take-length (w.box m).log) ∙ drop_of_length-le (w.box m).log (le_refl (length (w.box m).log)));
    began = omega arith;
    within = omega arith;
  });
}
