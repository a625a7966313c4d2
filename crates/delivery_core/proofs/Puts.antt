-- A put is a put of the world.
use Rattle.std.proofs.Common.{◌≡◌, inl, inr, Bool, true, false, not, ℕ, ◌%◌, ◌<◌, List, [], ◌∷◌, ◌++◌, length, get_or, set, refl, sym, ap, subst, ◌∙◌, arith, length-set, Option, Some, None, All}
use Rattle.std.proofs.lemmas.List.Elements.{All-push, All-weaker}
use Rattle.std.specs.Prelude.{◌↔◌}
use Rattle.shard_queue.specs.Lane.{put, IsLive}
use Rattle.delivery_token.specs.Keys.{Below, AtLeast, past}
use Rattle.shard_queue.proofs.AtLaws.{at_cases}
use Rattle.delivery_token.specs.declared.CopyKey.{CopyKey}
use Rattle.delivery_token.specs.declared.Job.{Job}
use Rattle.delivery_token.specs.declared.Refusal.{Refusal}
use Rattle.delivery_token.specs.declared.Refusal.TheVariants.{Full, NoMemory, Shut}
use Rattle.delivery_token.specs.declared.Verdict.TheVariants.{Refused}
use Rattle.delivery_token.specs.declared.log.Noted.{Noted}
use Rattle.delivery_token.specs.WorkerLog.{WorkerLog}
use Rattle.shard_queue.specs.PlainLane.{PlainLane}
use Rattle.shard_queue.specs.declared.lane.Entry.{Entry}
use Rattle.shard_queue.specs.declared.lane.Entry.TheVariants.{Item, End}
use Rattle.world.specs.World.{Config, World, Steps, Put, PutStep, MayPut, put_joins, put_full, put_no_memory, put_shut, puts, hears, reply_to, EntryBelow}
use Rattle.delivery_core.specs.DeliveryCore.{DeliveryCore, is_ended, lane_of}
use Rattle.delivery_core.specs.Stands.{EachAt, StandsFor, IsNext}
use Rattle.shard_queue.specs.Plain.{StandsForLane}
use Rattle.delivery_core.specs.inner.Puts.{LanePuts, joins, has_no_room, has_no_memory, is_over}
use Rattle.delivery_core.proofs.Follow.{each_here, each_set, each_but, get_or-any, reached_step, set_back}
use Rattle.shard_queue.proofs.PlainLaws.{lane_put}

below_trans : (x y z : CopyKey) → Below x y → Below y z → Below x z
below_trans x y z (inl a) (inl b) = inl (omega arith)
below_trans x y z (inl a) (inr b) = inl (omega (arith, b.0))
below_trans x y z (inr a) (inl b) = inl (omega (arith, a.0))
below_trans x y z (inr (e, inl a)) (inr (f, inl b)) = inr (e ∙ f, inl (omega arith))
below_trans x y z (inr (e, inl a)) (inr (f, inr b)) = inr (e ∙ f, inl (omega (arith, b.0)))
below_trans x y z (inr (e, inr a)) (inr (f, inl b)) = inr (e ∙ f, inl (omega (arith, a.0)))
below_trans x y z (inr (e, inr a)) (inr (f, inr b)) = inr (e ∙ f, inr (a.0 ∙ b.0, omega (arith, a.1, b.1)))

below_least : (x y z : CopyKey) → Below x y → AtLeast y z → Below x z
below_least x y z a (inl e) = subst (Below x) e a
below_least x y z a (inr b) = below_trans x y z a b

entry_least : (y z : CopyKey) → AtLeast y z → (e : Entry Job) → EntryBelow y e → EntryBelow z e
entry_least y z a (Item p c) h = below_least c.key y z h a
entry_least y z a (End p) h = tt

past_above : (key : CopyKey) → Below key (past key)
past_above key = inr (refl, inr (refl, omega arith))

least_past : (y key : CopyKey) → AtLeast y key → AtLeast y (past key)
least_past y key (inl e) = inr (subst (λ x. Below x (past key)) (sym e) (past_above key))
least_past y key (inr b) = inr (below_trans y key (past key) b (past_above key))

-- where it is not over for the seat on a lane, neither is it in the world
live_there : (k : Config) (w : World) (s p : ℕ) (l : PlainLane Job) → StandsForLane k.seats k.depth l (w.lane s) → p < k.seats → get_or l.live p false ≡ true → IsLive (w.lane s) p
live_there k w s p l was inp live = was.live p false (omega (arith, was.producers)) ∙ ap not live

pub may_put : (k : Config) (w : World) (old : DeliveryCore) (s : ℕ) (c : Job) → StandsFor k old w
    → s < length old.lanes → c.key.seat < length old.replies
    → AtLeast (get_or old.next c.key.seat c.key) c.key → c.mailbox < length old.boxes → s ≡ c.mailbox % length old.lanes → MayPut k w c.key.seat s c
may_put k w old s c S ins inp least box shard =
    let p : ℕ = c.key.seat in
    let y : CopyKey = get_or old.next p c.key in
    let n : IsNext w p y = S.next p c.key (omega (arith, S.nexts, S.seats)) in
    record {
      seat = omega (arith, S.seats);
      own = refl;
      mailbox = omega (arith, S.mailboxes);
      shard = (omega (arith, S.shards), sym (shard ∙ ap (λ m. c.mailbox % m) S.shards));
      above_sent = λ t. All-weaker (EntryBelow y) (EntryBelow c.key) (entry_least y c.key least) ((w.lane t).sent p) (n.sent t);
      above_heard = All-weaker (λ r. Below r.key y) (λ r. Below r.key c.key) (λ r h. below_least r.key y c.key h least) (w.heard p) n.heard;
    }

-- what the next key is above, where a copy was put
next_puts : (w : World) (s : ℕ) (c : Job) (ys : List CopyKey) → EachAt (λ p y. IsNext w p y) ys → c.key.seat < length ys → AtLeast (get_or ys c.key.seat c.key) c.key → EachAt (λ p y. IsNext (puts w s (Item c.key.seat c)) p y) (set ys c.key.seat (past c.key))
next_puts w s c ys all inp least = each_but (λ p y. IsNext w p y) (λ p y. IsNext v p y) ys p (past c.key) all
    (λ q y other n. record {
      own = n.own;
      sent = λ t. at_cases (λ l. All (EntryBelow y) (l.sent q)) w.lane s (put (w.lane s) (Item p c)) t
          (λ same. at_cases (λ es. All (EntryBelow y) es) (w.lane s).sent p ((w.lane s).sent p ++ Item p c ∷ []) q (λ e. absurd (other e)) (λ _. n.sent s)) (λ _. n.sent t);
      heard = n.heard;
    })
    (record {
      own = refl;
      sent = λ t. at_cases (λ l. All (EntryBelow (past c.key)) (l.sent p)) w.lane s (put (w.lane s) (Item p c)) t
          (λ same. at_cases (λ es. All (EntryBelow (past c.key)) es) (w.lane s).sent p ((w.lane s).sent p ++ Item p c ∷ []) p
          (λ _. All-push (EntryBelow (past c.key)) ((w.lane s).sent p) (Item p c) (later s) (past_above c.key)) (λ e. absurd (e refl)))
          (λ _. later t);
      heard = All-weaker (λ r. Below r.key y) (λ r. Below r.key (past c.key)) (λ r h. below_least r.key y (past c.key) h up) (w.heard p) n.heard;
    })
  where
    p : ℕ
    p = c.key.seat

    v : World
    v = puts w s (Item c.key.seat c)

    y : CopyKey
    y = get_or ys c.key.seat c.key

    n : IsNext w c.key.seat (get_or ys c.key.seat c.key)
    n = all c.key.seat c.key inp

    up : AtLeast (get_or ys c.key.seat c.key) (past c.key)
    up = least_past (get_or ys c.key.seat c.key) c.key least

    later : (t : ℕ) → All (EntryBelow (past c.key)) ((w.lane t).sent c.key.seat)
    later t = All-weaker (EntryBelow (get_or ys c.key.seat c.key)) (EntryBelow (past c.key)) (entry_least (get_or ys c.key.seat c.key) (past c.key) up) ((w.lane t).sent c.key.seat) (n.sent t)

-- and where the seat heard that it was refused
next_hears : (w : World) (c : Job) (r : Noted) (ys : List CopyKey) → r.key ≡ c.key → EachAt (λ p y. IsNext w p y) ys → c.key.seat < length ys → AtLeast (get_or ys c.key.seat c.key) c.key → EachAt (λ p y. IsNext (hears w c.key.seat r) p y) (set ys c.key.seat (past c.key))
next_hears w c r ys own all inp least = each_but (λ p y. IsNext w p y) (λ p y. IsNext (hears w c.key.seat r) p y) ys c.key.seat (past c.key) all
    (λ q y other n. record {
      own = n.own;
      sent = n.sent;
      heard = at_cases (λ rs. All (λ x. Below x.key y) rs) w.heard c.key.seat (w.heard c.key.seat ++ r ∷ []) q (λ e. absurd (other e)) (λ _. n.heard);
    })
    (record {
      own = refl;
      sent = λ t. All-weaker (EntryBelow (get_or ys c.key.seat c.key)) (EntryBelow (past c.key)) (entry_least (get_or ys c.key.seat c.key) (past c.key) up) ((w.lane t).sent c.key.seat) (n.sent t);
      heard = at_cases (λ rs. All (λ x. Below x.key (past c.key)) rs) w.heard c.key.seat (w.heard c.key.seat ++ r ∷ []) c.key.seat
          (λ _. All-push (λ x. Below x.key (past c.key)) (w.heard c.key.seat) r
          (All-weaker (λ x. Below x.key (get_or ys c.key.seat c.key)) (λ x. Below x.key (past c.key)) (λ x h. below_least x.key (get_or ys c.key.seat c.key) (past c.key) h up) (w.heard c.key.seat) n.heard)
          (subst (λ x. Below x (past c.key)) (sym own) (past_above c.key)))
          (λ e. absurd (e refl));
    })
  where
    n : IsNext w c.key.seat (get_or ys c.key.seat c.key)
    n = all c.key.seat c.key inp

    up : AtLeast (get_or ys c.key.seat c.key) (past c.key)
    up = least_past (get_or ys c.key.seat c.key) c.key least

-- The copy joined.
pub put_follows : (k : Config) (w : World) (old new : DeliveryCore) (s : ℕ) (c : Job) (l l2 : PlainLane Job) (book0 book1 : WorkerLog) → StandsFor k old w
    → s < length old.lanes → l ≡ get_or old.lanes s l → c.key.seat < length old.replies
    → AtLeast (get_or old.next c.key.seat c.key) c.key → c.mailbox < length old.boxes → s ≡ c.mailbox % length old.lanes
    → book0 ≡ get_or old.heard c.key.seat book0 → book1.notes ≡ book0.notes → LanePuts l c.key.seat c l2 None
    → new.lanes ≡ set old.lanes s l2 → new.heard ≡ set old.heard c.key.seat book1 → new.next ≡ set old.next c.key.seat (past c.key)
    → new.hands ≡ old.hands → new.replies ≡ old.replies → new.boxes ≡ old.boxes → new.clients ≡ old.clients
    → (v : World) × Steps k w (Put c.key.seat s c ∷ []) v × StandsFor k new v
put_follows k w old new s c l l2 book0 book1 S ins there inp least box shard first kept (has_no_room live h e same) lanes heard next hands replies boxes clients = absurd (cc)
put_follows k w old new s c l l2 book0 book1 S ins there inp least box shard first kept (has_no_memory live room e same) lanes heard next hands replies boxes clients = absurd (cc)
put_follows k w old new s c l l2 book0 book1 S ins there inp least box shard first kept (is_over over e same) lanes heard next hands replies boxes clients = absurd (cc)
put_follows k w old new s c l l2 book0 book1 S ins there inp least box shard first kept (joins live room e put_it) lanes heard next hands replies boxes clients =
    let p : ℕ = c.key.seat in
    let was : StandsForLane k.seats k.depth l (w.lane s) = rw there (S.lanes s l ins) in
    let may : MayPut k w p s c = may_put k w old s c S ins inp least box shard in
    let step : PutStep k w p s c (puts w s (Item p c)) = put_joins may (live_there k w s p l was may.seat live) (omega (arith, room, was.capacity, ap length was.waiting)) refl in (
      puts w s (Item p c),
      (puts w s (Item p c), step, refl),
      record {
        reached = reached_step k w (Put p s c) (puts w s (Item p c)) S.reached step;
        shards = ap length lanes ∙ (length-set old.lanes s l2 ∙ S.shards);
        in_hands = ap length hands ∙ S.in_hands;
        seats = ap length replies ∙ S.seats;
        hearing = ap length heard ∙ (length-set old.heard p book1 ∙ S.hearing);
        nexts = ap length next ∙ (length-set old.next p (past c.key) ∙ S.nexts);
        mailboxes = ap length boxes ∙ S.mailboxes;
        sessions = ap length clients ∙ S.sessions;
        clients = rw clients S.clients;
        attached = rw (boxes, clients) S.attached;
        opened = rw boxes S.opened;
        lanes = rw lanes (each_set (λ a b. StandsForLane k.seats k.depth a b) old.lanes w.lane s l2 (put (w.lane s) (Item p c)) S.lanes (lane_put k.seats k.depth p c l l2 (w.lane s) was put_it));
        hands = rw hands S.hands;
        replies = rw replies S.replies;
        heard = rw heard (each_here (λ q b. b.notes ≡ w.heard q) old.heard p book1 S.heard (kept ∙ rw first (S.heard p book0 (omega (arith, S.hearing, S.seats)))));
        boxes = rw boxes S.boxes;
        next = rw next (next_puts w s c old.next S.next (omega (arith, S.nexts, S.seats)) least);
      },
    )

-- It was refused, and the seat heard so.
pub refused_follows : (k : Config) (w : World) (old new : DeliveryCore) (s : ℕ) (c : Job) (why : Refusal) (l l2 : PlainLane Job) (book0 book1 : WorkerLog) → StandsFor k old w
    → s < length old.lanes → l ≡ get_or old.lanes s l → c.key.seat < length old.replies
    → AtLeast (get_or old.next c.key.seat c.key) c.key → c.mailbox < length old.boxes → s ≡ c.mailbox % length old.lanes
    → book0 ≡ get_or old.heard c.key.seat book0 → book1.notes ≡ book0.notes ++ reply_to c (Refused why) ∷ []
    → LanePuts l c.key.seat c l2 (Some why)
    → new.lanes ≡ set old.lanes s l2 → new.heard ≡ set old.heard c.key.seat book1 → new.next ≡ set old.next c.key.seat (past c.key)
    → new.hands ≡ old.hands → new.replies ≡ old.replies → new.boxes ≡ old.boxes → new.clients ≡ old.clients
    → (v : World) × Steps k w (Put c.key.seat s c ∷ []) v × StandsFor k new v
refused_follows k w old new s c why l l2 book0 book1 S ins there inp least box shard first noted does lanes heard next hands replies boxes clients = go does
  where
    p : ℕ
    p = c.key.seat

    r : Noted
    r = reply_to c (Refused why)

    was : StandsForLane k.seats k.depth l (w.lane s)
    was = rw there (S.lanes s l ins)

    may : MayPut k w c.key.seat s c
    may = may_put k w old s c S ins inp least box shard

    inh : c.key.seat < length old.heard
    inh = omega (arith, S.hearing, S.seats)

    done : l2 ≡ l → PutStep k w c.key.seat s c (hears w c.key.seat (reply_to c (Refused why))) → (v : World) × Steps k w (Put c.key.seat s c ∷ []) v × StandsFor k new v
    done same step = (
      hears w c.key.seat (reply_to c (Refused why)),
      (hears w c.key.seat (reply_to c (Refused why)), step, refl),
      record {
        reached = reached_step k w (Put c.key.seat s c) (hears w c.key.seat (reply_to c (Refused why))) S.reached step;
        shards = ap length lanes ∙ (length-set old.lanes s l2 ∙ S.shards);
        in_hands = ap length hands ∙ S.in_hands;
        seats = ap length replies ∙ S.seats;
        hearing = ap length heard ∙ (length-set old.heard c.key.seat book1 ∙ S.hearing);
        nexts = ap length next ∙ (length-set old.next c.key.seat (past c.key) ∙ S.nexts);
        mailboxes = ap length boxes ∙ S.mailboxes;
        sessions = ap length clients ∙ S.sessions;
        clients = rw clients S.clients;
        attached = rw (boxes, clients) S.attached;
        opened = rw boxes S.opened;
        lanes = rw lanes (rw (← (sym (ap (set old.lanes s) same ∙ set_back old.lanes s l ins there))) S.lanes);
        hands = rw hands S.hands;
        replies = rw replies S.replies;
        heard = rw heard (each_set (λ b h. b.notes ≡ h) old.heard w.heard c.key.seat book1 (w.heard c.key.seat ++ reply_to c (Refused why) ∷ []) S.heard (noted ∙ ap (λ rs. rs ++ reply_to c (Refused why) ∷ []) (rw first (S.heard c.key.seat book0 inh))));
        boxes = rw boxes S.boxes;
        next = rw next (next_hears w c (reply_to c (Refused why)) old.next refl S.next (omega (arith, S.nexts, S.seats)) least);
      },
    )

    some_same : (a b : Refusal) → Some a ≡ Some b → a ≡ b
    some_same a b e = cc

    go : LanePuts l c.key.seat c l2 (Some why) → (v : World) × Steps k w (Put c.key.seat s c ∷ []) v × StandsFor k new v
    go (joins live room e put_it) = absurd (cc)
    go (has_no_room live full e same) = done same (subst (λ x. PutStep k w c.key.seat s c (hears w c.key.seat (reply_to c (Refused x)))) (sym (some_same why Full e)) (put_full may (live_there k w s c.key.seat l was may.seat live) (omega (arith, full, was.capacity, ap length was.waiting)) refl))
    go (has_no_memory live room e same) = done same (subst (λ x. PutStep k w c.key.seat s c (hears w c.key.seat (reply_to c (Refused x)))) (sym (some_same why NoMemory e)) (put_no_memory may (live_there k w s c.key.seat l was may.seat live) (omega (arith, room, was.capacity, ap length was.waiting)) refl))
    go (is_over over e same) = done same (subst (λ x. PutStep k w c.key.seat s c (hears w c.key.seat (reply_to c (Refused x)))) (sym (some_same why Shut e)) (put_shut may (was.live c.key.seat false (omega (arith, was.producers, may.seat)) ∙ ap not over) refl))

-- It is told as shut exactly where the seat has ended.
pub shut_tells : (h : DeliveryCore) (seat s : ℕ) (c : Job) (l l2 : PlainLane Job) (why : Option Refusal) → s < length h.lanes → l ≡ get_or h.lanes s l → LanePuts l seat c l2 why
    → (why ≡ Some Shut) ↔ (is_ended seat (lane_of h s) ≡ true)
shut_tells h seat s c l l2 why ins there does = subst (λ (x : PlainLane Job). (why ≡ Some Shut) ↔ (is_ended seat x ≡ true)) (there ∙ get_or-any h.lanes s _ _ ins) (go does)
  where
    not_both : (b : Bool) → b ≡ true → not b ≡ true → ⊥
    not_both true live over = cc
    not_both false live over = cc

    go : LanePuts l seat c l2 why → (why ≡ Some Shut) ↔ (is_ended seat l ≡ true)
    go (joins live room e put_it) = ((λ f. absurd (cc)), (λ over. absurd (not_both _ live over)))
    go (has_no_room live full e same) = ((λ f. absurd (cc)), (λ over. absurd (not_both _ live over)))
    go (has_no_memory live room e same) = ((λ f. absurd (cc)), (λ over. absurd (not_both _ live over)))
    go (is_over over e same) = ((λ f. ap not over), (λ f. e))
