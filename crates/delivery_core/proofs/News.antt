-- A new delivery side stands for the empty world.
use Rattle.std.proofs.Common.{◌≡◌, ℕ, zero, suc, ◌<◌, ◌≤◌, get_or, List, [], ◌∷◌, length, map, refl, sym, ap, ◌∙◌, arith, subst, Option, Some, None}
use Rattle.std.specs.Prelude.{replicate}
use Rattle.cursor_set.specs.Cursors.{CursorSet}
use Rattle.delivery_core.specs.declared.client.Client.{Client}
use Rattle.delivery_core.specs.Attached.{AreAttached, client_at, cursors_of}
use Rattle.std.proofs.lemmas.List.Elements.{All-replicate}
use Rattle.std.proofs.lemmas.List.{length-replicate}
use Rattle.shard_queue.specs.Lane.{empty_lane}
use Rattle.shard_queue.specs.Plain.{StandsForLane}
use Rattle.shard_queue.proofs.PlainLaws.{lane_new}
use Rattle.mailbox.specs.Mailbox.{Mailbox}
use Rattle.shard_queue.specs.PlainLane.{PlainLane}
use Rattle.world.specs.declared.hand.Hand.TheVariants.{Empty}
use Rattle.world.specs.World.{Config, empty_world, reply_room}
use Rattle.delivery_core.specs.DeliveryCore.{DeliveryCore}
use Rattle.delivery_core.specs.New.{new_lane, first_key, IsNewBox}
use Rattle.delivery_core.specs.Stands.{EachAt, StandsFor, StandsForPlace, text_of}
use Rattle.world.specs.Law.{IsPart, none}

client_none : (sessions n : ℕ) → client_at (replicate sessions None) n ≡ None
client_none zero n = refl
client_none (suc sessions) zero = refl
client_none (suc sessions) (suc n) = client_none sessions n

no_client : (sessions n : ℕ) (c : Client) → client_at (replicate sessions None) n ≡ Some c → ⊥
no_client sessions n c e = let none : Some c ≡ None = sym e ∙ client_none sessions n in cc

-- where there is no client, each has its cursor
pub attached_none : (all : List CursorSet) (sessions : ℕ) → AreAttached all (replicate sessions None)
attached_none all sessions = record {
  there = λ n c e. absurd (no_client sessions n c e);
  known = λ n c e. absurd (no_client sessions n c e);
  apart = λ m n c d e f other same. absurd (no_client sessions m c e);
}

new_stands_for : {T : Type 0} (l : PlainLane T) (count room producers : ℕ) → producers ≡ count → l ≡ new_lane room producers → StandsForLane count room l empty_lane
new_stands_for l count room producers e is = subst (λ (n : ℕ). StandsForLane n room l empty_lane) e (lane_new room producers l is)

-- no cursor was opened yet
next_none : (boxes : List Mailbox) (m : ℕ) (d : CursorSet) → m < length (cursors_of boxes) → ((i : ℕ) (b : Mailbox) → i < length boxes → (get_or boxes i b).cursors.next ≡ 0) → (get_or (cursors_of boxes) m d).next ≡ 0
next_none [] m d l all = absurd (omega (arith, l))
next_none (b ∷ bs) zero d l all = all zero b (omega arith)
next_none (b ∷ bs) (suc m) d l all = next_none bs m d (omega (arith, l)) (λ i c h. all (suc i) c (omega (arith, h)))

pub new_stands : (k : Config) (h : DeliveryCore) (seats shards mailboxes depth most sessions : ℕ) → k.seats ≡ seats → k.shards ≡ shards → k.mailboxes ≡ mailboxes → k.depth ≡ depth
    → length h.lanes ≡ shards → EachAt (λ i l. l ≡ new_lane depth seats) h.lanes → length h.hands ≡ shards → EachAt (λ i x. x ≡ Empty) h.hands
    → length h.replies ≡ seats → EachAt (λ i l. l ≡ new_lane 128 shards) h.replies → length h.heard ≡ seats → EachAt (λ i b. b.notes ≡ []) h.heard
    → length h.boxes ≡ mailboxes → EachAt (λ i b. IsNewBox i k.uidvalidity k.first_uid k.messages k.ring most b) h.boxes → length h.next ≡ seats → EachAt (λ p y. y ≡ first_key p) h.next
    → k.sessions ≡ sessions → h.clients ≡ replicate sessions None → k.ring_max ≡ most → k.ring ≤ most → StandsFor k h empty_world
new_stands k h seats shards mailboxes depth most sessions ks kh km kd a1 a2 b1 b2 c1 c2 d1 d2 e1 e2 f1 f2 kn g most_is ring = record {
  reached = ([], refl);
  shards = a1 ∙ sym kh;
  in_hands = b1 ∙ sym kh;
  seats = c1 ∙ sym ks;
  hearing = d1 ∙ sym ks;
  nexts = f1 ∙ sym ks;
  mailboxes = e1 ∙ sym km;
  sessions = ap length g ∙ (length-replicate sessions None ∙ sym kn);
  opened = λ m d l. next_none h.boxes m d l (λ i b lt. let one : IsNewBox i k.uidvalidity k.first_uid k.messages k.ring most _ = e2 i b lt in ap (λ s. s.next) one.clients);
  clients = rw g (λ n d l. All-replicate (λ (c : Option Client). StandsForPlace c None) sessions None tt n d l);
  attached = rw g (attached_none (cursors_of h.boxes) sessions);
  lanes = λ i d l. new_stands_for _ k.seats k.depth seats (sym ks) (a2 i d l ∙ ap (λ n. new_lane n seats) (sym kd));
  hands = b2;
  replies = λ i d l. new_stands_for _ k.shards reply_room shards (sym kh) (c2 i d l);
  heard = d2;
  boxes = λ i d l. let b : IsNewBox i k.uidvalidity k.first_uid k.messages k.ring most _ = e2 i d l in
      record { log = b.log; base = ap (λ w. w.base) b.window; accepted = b.accepted; texts = subst (λ ms. IsPart (map text_of ms) []) (sym b.empty) none; first_uid = b.first; uidvalidity = b.validity; messages = b.limit; ring = omega (arith, ap (λ w. w.capacity) b.window); held = omega (arith, ap (λ w. length w.changes) b.window); most = omega (arith, ap (λ w. w.capacity) b.window, ap (λ w. w.max) b.window, ring); ring_max = ap (λ w. w.max) b.window ∙ sym most_is };
  next = λ p d l. rw (f2 p d l) (record { own = refl; sent = λ t j e m. absurd (omega arith); heard = λ j e m. absurd (omega arith) });
}
