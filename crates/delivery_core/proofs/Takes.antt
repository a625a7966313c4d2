-- A take, an answer and a hearing are those of the world.
use Rattle.std.proofs.Common.{◌≡◌, inl, inr, Bool, true, false, not, ℕ, ◌<◌, List, [], ◌∷◌, ◌++◌, length, get_or, set, filter_map, refl, sym, ap, subst, ◌∙◌, arith, length-set, Some, None, All}
use Rattle.std.specs.Prelude.{option_map}
use Rattle.std.proofs.lemmas.List.Elements.{All-head, All-tail, All-push}
use Rattle.shard_queue.specs.Lane.{took, put, has_end, set_at}
use Rattle.delivery_token.specs.Keys.{Below}
use Rattle.shard_queue.proofs.AtLaws.{at_cases}
use Rattle.delivery_token.specs.declared.CopyKey.{CopyKey}
use Rattle.delivery_token.specs.declared.Job.{Job}
use Rattle.delivery_token.specs.declared.log.Noted.{Noted}
use Rattle.delivery_token.specs.WorkerLog.{WorkerLog}
use Rattle.shard_queue.specs.PlainLane.{PlainLane}
use Rattle.shard_queue.specs.Plain.{before_taking, taken_entry, StandsForLane}
use Rattle.shard_queue.specs.declared.lane.Taken.{Taken}
use Rattle.shard_queue.specs.declared.lane.Taken.TheVariants as took_one
use Rattle.shard_queue.specs.declared.lane.Entry.{Entry}
use Rattle.shard_queue.specs.declared.lane.Entry.TheVariants.{Item, End}
use Rattle.world.specs.declared.hand.Hand.{Hand}
use Rattle.world.specs.declared.hand.Hand.TheVariants.{Empty, Done}
use Rattle.world.specs.World.{Config, World, Steps, Take, TakeStep, takes, Answer, AnswerStep, answers, Hear, HearStep, hears_one, in_hand, EntryBelow, reply_room}
use Rattle.world.proofs.Mails.{IsIn}
use Rattle.world.specs.Known.{key_in}
use Rattle.world.proofs.Known.{HandKnown, ReplyKnown, known_always}
use Rattle.world.proofs.Always.{kept_always}
use Rattle.delivery_core.specs.DeliveryCore.{DeliveryCore}
use Rattle.delivery_core.specs.Stands.{EachAt, StandsFor, IsNext}
use Rattle.shard_queue.proofs.PlainLaws.{lane_put}
use Rattle.delivery_core.proofs.Follow.{each_set, next_same, reached_step}

-- Take

from_taken : (t : Taken Job) (hand : Hand) (ws : List (Entry Job)) → Some hand ≡ option_map in_hand (taken_entry t) → (e : Entry Job) × (before_taking t ws ≡ e ∷ ws) × (hand ≡ in_hand e)
from_taken (took_one.Item p x) hand ws h = (Item p x, refl, cc)
from_taken (took_one.End p) hand ws h = (End p, refl, cc)
from_taken took_one.Empty hand ws h = absurd (cc)

pub take_none : (t : Taken Job) (l l2 : PlainLane Job) → None ≡ option_map in_hand (taken_entry t) → l ≡ record { capacity = l2.capacity; live = l2.live; waiting = before_taking t l2.waiting } → l ≡ l2
take_none (took_one.Item p x) l l2 h e = absurd (cc)
take_none (took_one.End p) l l2 h e = absurd (cc)
take_none took_one.Empty l l2 h e = e

-- nothing was taken
pub none_taken : (t : Taken Job) → None ≡ option_map in_hand (taken_entry t) → taken_entry t ≡ None
none_taken (took_one.Item p x) h = absurd (cc)
none_taken (took_one.End p) h = absurd (cc)
none_taken took_one.Empty h = refl

took_sent : (w : World) (s : ℕ) (e : Entry Job) (others : List (Entry Job)) (t p : ℕ) → (set_at w.lane s (took (w.lane s) e others) t).sent p ≡ (w.lane t).sent p
took_sent w s e others t p = at_cases (λ l. l.sent p ≡ (w.lane t).sent p) w.lane s (took (w.lane s) e others) t (λ same. ap (λ i. (w.lane i).sent p) (sym same)) (λ _. refl)

pub take_follows : (k : Config) (w : World) (old new : DeliveryCore) (s : ℕ) (l l2 : PlainLane Job) (t : Taken Job) (hand : Hand) → StandsFor k old w
    → s < length old.lanes → s < length old.hands → Empty ≡ get_or old.hands s Empty → l ≡ get_or old.lanes s l
    → l ≡ record { capacity = l2.capacity; live = l2.live; waiting = before_taking t l2.waiting } → Some hand ≡ option_map in_hand (taken_entry t)
    → new.lanes ≡ set old.lanes s l2 → new.hands ≡ set old.hands s hand
    → new.replies ≡ old.replies → new.heard ≡ old.heard → new.boxes ≡ old.boxes → new.next ≡ old.next → new.clients ≡ old.clients
    → (v : World) × Steps k w (Take s ∷ []) v × StandsFor k new v
take_follows k w old new s l l2 t hand S ins inh is there front held lanes hands replies heard boxes next clients =
    let got : (e : Entry Job) × (before_taking t l2.waiting ≡ e ∷ l2.waiting) × (hand ≡ in_hand e) = from_taken t hand l2.waiting held in
    let e : Entry Job = got.0 in
    let was : StandsForLane k.seats k.depth l (w.lane s) = rw there (S.lanes s l ins) in
    let waits : (w.lane s).waiting ≡ e ∷ l2.waiting = sym was.waiting ∙ (ap (λ x. x.waiting) front ∙ got.1) in
    let v : World = record w { lane = set_at w.lane s (took (w.lane s) e l2.waiting); hand = set_at w.hand s (in_hand e) } in
    let step : TakeStep w s v = takes e l2.waiting (sym (S.hands s Empty inh) ∙ sym is) waits refl in (
      v,
      (v, step, refl),
      record {
        reached = reached_step k w (Take s) v S.reached step;
        shards = ap length lanes ∙ (length-set old.lanes s l2 ∙ S.shards);
        in_hands = ap length hands ∙ (length-set old.hands s hand ∙ S.in_hands);
        seats = ap length replies ∙ S.seats;
        hearing = ap length heard ∙ S.hearing;
        nexts = ap length next ∙ S.nexts;
        mailboxes = ap length boxes ∙ S.mailboxes;
        sessions = ap length clients ∙ S.sessions;
        clients = rw clients S.clients;
        attached = rw (boxes, clients) S.attached;
        opened = rw boxes S.opened;
        lanes = rw lanes (each_set (λ a b. StandsForLane k.seats k.depth a b) old.lanes w.lane s l2 (took (w.lane s) e l2.waiting) S.lanes
            (record { capacity = sym (ap (λ x. x.capacity) front) ∙ was.capacity; producers = sym (ap (λ x. length x.live) front) ∙ was.producers; waiting = refl; live = subst (λ xs. EachAt (λ p live. has_end ((w.lane s).sent p) ≡ not live) xs) (ap (λ x. x.live) front) was.live }));
        hands = rw hands (each_set (λ a b. a ≡ b) old.hands w.hand s hand (in_hand e) S.hands got.2);
        replies = rw replies S.replies;
        heard = rw heard S.heard;
        boxes = rw boxes S.boxes;
        next = rw next (next_same w v old.next (took_sent w s e l2.waiting) (λ p. refl) S.next);
      },
    )

-- Answer

-- the verdict in a hand is for a seat that is there, and its reply lane is live
pub reply_within : (k : Config) (w : World) (old : DeliveryCore) (s : ℕ) (r : Noted) → StandsFor k old w → s < length old.hands → Done r ≡ get_or old.hands s (Done r) → r.key.seat < length old.replies
reply_within k w old s r S inh is =
    let known : HandKnown k w (w.hand s) = (known_always k S.reached.0 w S.reached.1).hands s in
    let here : HandKnown k w (Done r) = subst (HandKnown k w) (sym (is ∙ S.hands s (Done r) inh)) known in
    omega (arith, here.seat, S.seats)

not_true : (b : Bool) → false ≡ not b → b ≡ true
not_true true e = refl
not_true false e = cc

pub reply_live : (k : Config) (w : World) (old : DeliveryCore) (s p : ℕ) (l : PlainLane Noted) → StandsFor k old w → s < length old.lanes → p < length old.replies → l ≡ get_or old.replies p l → get_or l.live s false ≡ true
reply_live k w old s p l S ins inp there =
    let was : StandsForLane k.shards reply_room l (w.replies p) = rw there (S.replies p l inp) in
    not_true (get_or l.live s false) (sym ((kept_always k S.reached.0 w S.reached.1).live p s) ∙ was.live s false (omega (arith, was.producers, S.shards)))

pub answer_follows : (k : Config) (w : World) (old new : DeliveryCore) (s : ℕ) (r : Noted) (l l2 : PlainLane Noted) → StandsFor k old w
    → s < length old.hands → Done r ≡ get_or old.hands s (Done r) → r.key.seat < length old.replies → l ≡ get_or old.replies r.key.seat l
    → length l.waiting < l.capacity → l2 ≡ record { capacity = l.capacity; live = l.live; waiting = l.waiting ++ Item s r ∷ [] }
    → new.hands ≡ set old.hands s Empty → new.replies ≡ set old.replies r.key.seat l2
    → new.lanes ≡ old.lanes → new.heard ≡ old.heard → new.boxes ≡ old.boxes → new.next ≡ old.next → new.clients ≡ old.clients
    → (v : World) × Steps k w (Answer s ∷ []) v × StandsFor k new v
answer_follows k w old new s r l l2 S inh is inp there room puts hands replies lanes heard boxes next clients =
    let p : ℕ = r.key.seat in
    let was : StandsForLane k.shards reply_room l (w.replies p) = rw there (S.replies p l inp) in
    let v : World = record w { hand = set_at w.hand s Empty; replies = set_at w.replies p (put (w.replies p) (Item s r)) } in
    let step : AnswerStep w s v = answers r (sym (is ∙ S.hands s (Done r) inh)) (omega (arith, room, was.capacity, ap length was.waiting)) refl in (
      v,
      (v, step, refl),
      record {
        reached = reached_step k w (Answer s) v S.reached step;
        shards = ap length lanes ∙ S.shards;
        in_hands = ap length hands ∙ (length-set old.hands s Empty ∙ S.in_hands);
        seats = ap length replies ∙ (length-set old.replies p l2 ∙ S.seats);
        hearing = ap length heard ∙ S.hearing;
        nexts = ap length next ∙ S.nexts;
        mailboxes = ap length boxes ∙ S.mailboxes;
        sessions = ap length clients ∙ S.sessions;
        clients = rw clients S.clients;
        attached = rw (boxes, clients) S.attached;
        opened = rw boxes S.opened;
        lanes = rw lanes S.lanes;
        hands = rw hands (each_set (λ a b. a ≡ b) old.hands w.hand s Empty Empty S.hands refl);
        replies = rw replies (each_set (λ a b. StandsForLane k.shards reply_room a b) old.replies w.replies p l2 (put (w.replies p) (Item s r)) S.replies (lane_put k.shards reply_room s r l l2 (w.replies p) was puts));
        heard = rw heard S.heard;
        boxes = rw boxes S.boxes;
        next = rw next (next_same w v old.next (λ t q. refl) (λ q. refl) S.next);
      },
    )

-- Hear

below_sent : (y key : CopyKey) (es : List (Entry Job)) → All (EntryBelow y) es → IsIn key (filter_map key_in es) → Below key y
below_sent y key [] h i = absurd i
below_sent y key (Item p c ∷ es) h (inl e) = rw e (All-head (EntryBelow y) (Item p c) es h)
below_sent y key (Item p c ∷ es) h (inr i) = below_sent y key es (All-tail (EntryBelow y) (Item p c) es h) i
below_sent y key (End p ∷ es) h i = below_sent y key es (All-tail (EntryBelow y) (End p) es h) i

pub hear_follows : (k : Config) (w : World) (old new : DeliveryCore) (p s : ℕ) (r : Noted) (l l2 : PlainLane Noted) (book0 book1 : WorkerLog) → StandsFor k old w
    → p < length old.replies → p < length old.heard → l ≡ get_or old.replies p l → l ≡ record { capacity = l2.capacity; live = l2.live; waiting = Item s r ∷ l2.waiting }
    → book0 ≡ get_or old.heard p book0 → book1.notes ≡ book0.notes ++ r ∷ []
    → new.replies ≡ set old.replies p l2 → new.heard ≡ set old.heard p book1
    → new.lanes ≡ old.lanes → new.hands ≡ old.hands → new.boxes ≡ old.boxes → new.next ≡ old.next → new.clients ≡ old.clients
    → (v : World) × Steps k w (Hear p ∷ []) v × StandsFor k new v
hear_follows k w old new p s r l l2 book0 book1 S inp inh there front first noted replies heard lanes hands boxes next clients =
    let was : StandsForLane k.shards reply_room l (w.replies p) = rw there (S.replies p l inp) in
    let waits : (w.replies p).waiting ≡ Item s r ∷ l2.waiting = sym was.waiting ∙ ap (λ x. x.waiting) front in
    let v : World = record w { replies = set_at w.replies p (took (w.replies p) (Item s r) l2.waiting); heard = set_at w.heard p (w.heard p ++ r ∷ []) } in
    let step : HearStep w p v = hears_one s r l2.waiting waits refl in
    let known : ReplyKnown k w p (Item s r) = (rw waits at ((known_always k S.reached.0 w S.reached.1).replies p)).0 in (
      v,
      (v, step, refl),
      record {
        reached = reached_step k w (Hear p) v S.reached step;
        shards = ap length lanes ∙ S.shards;
        in_hands = ap length hands ∙ S.in_hands;
        seats = ap length replies ∙ (length-set old.replies p l2 ∙ S.seats);
        hearing = ap length heard ∙ (length-set old.heard p book1 ∙ S.hearing);
        nexts = ap length next ∙ S.nexts;
        mailboxes = ap length boxes ∙ S.mailboxes;
        sessions = ap length clients ∙ S.sessions;
        clients = rw clients S.clients;
        attached = rw (boxes, clients) S.attached;
        opened = rw boxes S.opened;
        lanes = rw lanes S.lanes;
        hands = rw hands S.hands;
        replies = rw replies (each_set (λ a b. StandsForLane k.shards reply_room a b) old.replies w.replies p l2 (took (w.replies p) (Item s r) l2.waiting) S.replies
            (record { capacity = sym (ap (λ x. x.capacity) front) ∙ was.capacity; producers = sym (ap (λ x. length x.live) front) ∙ was.producers; waiting = refl; live = subst (λ xs. EachAt (λ q live. has_end ((w.replies p).sent q) ≡ not live) xs) (ap (λ x. x.live) front) was.live }));
        heard = rw heard (each_set (λ b h. b.notes ≡ h) old.heard w.heard p book1 (w.heard p ++ r ∷ []) S.heard (noted ∙ ap (λ rs. rs ++ r ∷ []) (rw first (S.heard p book0 inh))));
        boxes = rw boxes S.boxes;
        next = rw next (λ q d h.
            let n : IsNext w q (get_or old.next q d) = S.next q d h in
            record {
              own = n.own;
              sent = n.sent;
              heard = at_cases (λ rs. All (λ x. Below x.key (get_or old.next q d)) rs) w.heard p (w.heard p ++ r ∷ []) q
                  (λ same. All-push (λ x. Below x.key (get_or old.next q d)) (w.heard p) r (subst (λ (i : ℕ). All (λ x. Below x.key (get_or old.next q d)) (w.heard i)) same n.heard)
                  (below_sent (get_or old.next q d) r.key ((w.lane known.1.shard).sent r.key.seat) (rw (known.0 ∙ sym same) (n.sent known.1.shard)) known.1.sent))
                  (λ _. n.heard);
            });
      },
    )
