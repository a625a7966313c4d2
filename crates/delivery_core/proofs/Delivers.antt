-- A delivery is a delivery of the world.
use Rattle.std.proofs.Common.{◌≡◌, ℕ, ◌<◌, [], ◌∷◌, length, get_or, set, refl, sym, ap, subst, ◌∙◌, arith, length-set}
use Rattle.delivery_token.specs.declared.Job.{Job}
use Rattle.delivery_token.specs.declared.Verdict.{Verdict}
use Rattle.delivery_token.specs.declared.Verdict.TheVariants.{Stored, Refused}
use Rattle.delivery_token.specs.declared.Refusal.TheVariants.{MailboxFull, NoMemory, UidSpent}
use Rattle.mailbox.specs.Mailbox.{Mailbox}
use Rattle.world.specs.World.{Config, World, Box, Steps, Deliver, DeliverStep, delivers, deliver_spent, deliver_full, deliver_no_memory, delivered, refused, reply_to, next_uid}
use Rattle.world.specs.declared.hand.Hand.TheVariants.{Taken, Done}
use Rattle.world.proofs.Known.{HandKnown, known_always}
use Rattle.delivery_core.specs.DeliveryCore.{DeliveryCore}
use Rattle.delivery_core.specs.Stands.{EachAt, StandsFor, StandsForBox}
use Rattle.delivery_core.specs.inner.Boxes.{BoxDelivers, stores, has_no_uid, has_no_space, has_no_memory}
use Rattle.delivery_core.specs.Attached.{cursors_of}
use Rattle.delivery_core.proofs.Follow.{each_here, each_set, next_same, reached_step}
use Rattle.delivery_core.proofs.AttachedLaws.{cursors_same}

-- the copy in a hand is for a mailbox that is there
pub job_within : (k : Config) (w : World) (old : DeliveryCore) (s : ℕ) (c : Job) → StandsFor k old w → s < length old.hands → Taken c ≡ get_or old.hands s (Taken c) → c.mailbox < length old.boxes
job_within k w old s c S ins is =
    let known : HandKnown k w (w.hand s) = (known_always k S.reached.0 w S.reached.1).hands s in
    let here : HandKnown k w (Taken c) = subst (HandKnown k w) (sym (is ∙ S.hands s (Taken c) ins)) known in
    omega (arith, here.mailbox, S.mailboxes)

-- only the hand and that mailbox changed
stands : (k : Config) (w v : World) (old new : DeliveryCore) (s : ℕ) (c : Job) (verdict : Verdict) (b : Mailbox) → StandsFor k old w
    → new.hands ≡ set old.hands s (Done (reply_to c verdict)) → new.boxes ≡ set old.boxes c.mailbox b
    → new.lanes ≡ old.lanes → new.replies ≡ old.replies → new.heard ≡ old.heard → new.next ≡ old.next
    → new.clients ≡ old.clients → cursors_of (set old.boxes c.mailbox b) ≡ cursors_of old.boxes
    → v.lane ≡ w.lane → v.replies ≡ w.replies → v.heard ≡ w.heard → v.session ≡ w.session → v.opened ≡ w.opened
    → DeliverStep k w s v → EachAt (λ s hand. hand ≡ v.hand s) (set old.hands s (Done (reply_to c verdict))) → EachAt (λ m b. StandsForBox k b (v.box m)) (set old.boxes c.mailbox b)
    → StandsFor k new v
stands k w v old new s c verdict b S hands boxes lanes replies heard next clients cursors vl vr vh vs vo step hand_at box_at = record {
  reached = reached_step k w (Deliver s) v S.reached step;
  shards = ap length lanes ∙ S.shards;
  in_hands = ap length hands ∙ (length-set old.hands s (Done (reply_to c verdict)) ∙ S.in_hands);
  seats = ap length replies ∙ S.seats;
  hearing = ap length heard ∙ S.hearing;
  nexts = ap length next ∙ S.nexts;
  mailboxes = ap length boxes ∙ (length-set old.boxes c.mailbox b ∙ S.mailboxes);
  lanes = rw (lanes, vl) S.lanes;
  sessions = ap length clients ∙ S.sessions;
  clients = rw (clients, vs) S.clients;
  attached = rw (boxes, clients, cursors) S.attached;
  opened = rw (boxes, cursors, vo) S.opened;
  hands = rw hands hand_at;
  replies = rw (replies, vr) S.replies;
  heard = rw (heard, vh) S.heard;
  boxes = rw boxes box_at;
  next = rw next (next_same w v old.next (λ t p. ap (λ f. (f t).sent p) vl) (λ p. ap (λ f. f p) vh) S.next);
}

pub deliver_follows : (k : Config) (w : World) (old new : DeliveryCore) (s : ℕ) (c : Job) (verdict : Verdict) (before b : Mailbox) → StandsFor k old w
    → s < length old.hands → Taken c ≡ get_or old.hands s (Taken c) → before ≡ get_or old.boxes c.mailbox before
    → ((x : Box) → StandsForBox k before x → BoxDelivers k x c verdict b)
    → new.hands ≡ set old.hands s (Done (reply_to c verdict)) → new.boxes ≡ set old.boxes c.mailbox b
    → new.lanes ≡ old.lanes → new.replies ≡ old.replies → new.heard ≡ old.heard → new.next ≡ old.next
    → new.clients ≡ old.clients → b.cursors ≡ before.cursors
    → (v : World) × Steps k w (Deliver s ∷ []) v × StandsFor k new v
deliver_follows k w old new s c verdict before b S ins is there does hands boxes lanes replies heard next clients kept =
    go (does (w.box c.mailbox) (rw there (S.boxes c.mailbox before (job_within k w old s c S ins is))))
  where
    was : w.hand s ≡ Taken c
    was = sym (is ∙ S.hands s (Taken c) ins)

    cursors : cursors_of (set old.boxes c.mailbox b) ≡ cursors_of old.boxes
    cursors = cursors_same old.boxes c.mailbox before b (job_within k w old s c S ins is) there kept

    -- the mailbox said no, and its box is as it was
    no : (said : Verdict) → verdict ≡ said → StandsForBox k b (w.box c.mailbox) → DeliverStep k w s (refused w s (reply_to c said)) → (v : World) × Steps k w (Deliver s ∷ []) v × StandsFor k new v
    no said e box step = (
      refused w s (reply_to c said),
      (refused w s (reply_to c said), step, refl),
      stands k w (refused w s (reply_to c said)) old new s c verdict b S hands boxes lanes replies heard next clients cursors refl refl refl refl refl step
          (each_set (λ a y. a ≡ y) old.hands w.hand s (Done (reply_to c verdict)) (Done (reply_to c said)) S.hands (ap (λ x. Done (reply_to c x)) e))
          (each_here (λ m x. StandsForBox k x (w.box m)) old.boxes c.mailbox b S.boxes box),
    )

    go : BoxDelivers k (w.box c.mailbox) c verdict b → (v : World) × Steps k w (Deliver s ∷ []) v × StandsFor k new v
    go (stores u has room logs e box) =
        let said : Verdict = Stored (next_uid k (w.box c.mailbox)) in
        let step : DeliverStep k w s (delivered w s c.mailbox u (reply_to c said)) = delivers c u was has room logs refl in (
          delivered w s c.mailbox u (reply_to c said),
          (delivered w s c.mailbox u (reply_to c said), step, refl),
          stands k w (delivered w s c.mailbox u (reply_to c said)) old new s c verdict b S hands boxes lanes replies heard next clients cursors refl refl refl refl refl step
              (each_set (λ a y. a ≡ y) old.hands w.hand s (Done (reply_to c verdict)) (Done (reply_to c said)) S.hands (ap (λ x. Done (reply_to c x)) e))
              (each_set (λ x y. StandsForBox k x y) old.boxes w.box c.mailbox b u S.boxes box),
        )
    go (has_no_uid spent e box) = no (Refused UidSpent) e box (deliver_spent c was spent refl)
    go (has_no_space has full e box) = no (Refused MailboxFull) e box (deliver_full c was has full refl)
    go (has_no_memory has room e box) = no (Refused NoMemory) e box (deliver_no_memory c was has room refl)
