-- A producer's end is one in the world.
use Rattle.std.proofs.Common.{◌≡◌, inl, inr, zero, suc, ◌≤◌, sym, Bool, get_or-set_same, true, false, not, ℕ, ◌<◌, List, [], ◌∷◌, ◌++◌, length, get_or, set, refl, ap, ◌∙◌, arith, length-set, subst, All}
use Rattle.std.proofs.lemmas.List.Elements.{All-push}
use Rattle.shard_queue.specs.Lane.{put}
use Rattle.shard_queue.proofs.AtLaws.{at_cases}
use Rattle.delivery_token.specs.declared.Job.{Job}
use Rattle.shard_queue.specs.PlainLane.{PlainLane}
use Rattle.shard_queue.specs.declared.lane.Entry.TheVariants.{End}
use Rattle.world.specs.World.{Config, World, Steps, PutEnd, EndStep, end_joins, puts, EntryBelow}
use Rattle.std.specs.Prelude.{◌↔◌}
use Rattle.delivery_core.specs.Changes.{Ends, CannotEnd}
use Rattle.delivery_core.specs.DeliveryCore.{DeliveryCore, is_ended, lane_of}
use Rattle.delivery_core.specs.Stands.{StandsFor, IsNext}
use Rattle.shard_queue.specs.Plain.{StandsForLane}
use Rattle.shard_queue.proofs.PlainLaws.{lane_end}
use Rattle.delivery_core.proofs.Follow.{each_set, get_or-any, reached_step}

pub end_follows : (k : Config) (w : World) (old new : DeliveryCore) (p s : ℕ) (l l2 : PlainLane Job) → StandsFor k old w
    → s < length old.lanes → p < length old.replies → l ≡ get_or old.lanes s l → get_or l.live p false ≡ true
    → length l.waiting < l.capacity → l2 ≡ record { capacity = l.capacity; live = set l.live p false; waiting = l.waiting ++ End p ∷ [] }
    → new.lanes ≡ set old.lanes s l2 → new.hands ≡ old.hands → new.replies ≡ old.replies → new.heard ≡ old.heard → new.boxes ≡ old.boxes → new.next ≡ old.next → new.clients ≡ old.clients
    → (v : World) × Steps k w (PutEnd p s ∷ []) v × StandsFor k new v
end_follows k w old new p s l l2 S ins inp there live room ends lanes hands replies heard boxes next clients =
    let was : StandsForLane k.seats k.depth l (w.lane s) = rw there (S.lanes s l ins) in
    let v : World = puts w s (End p) in
    let step : EndStep k w p s v = end_joins (omega (arith, S.seats)) (omega (arith, S.shards)) (was.live p false (omega (arith, was.producers, S.seats)) ∙ ap not live) (omega (arith, room, was.capacity, ap length was.waiting)) refl in (
      v,
      (v, step, refl),
      record {
        reached = reached_step k w (PutEnd p s) v S.reached step;
        shards = ap length lanes ∙ (length-set old.lanes s l2 ∙ S.shards);
        in_hands = ap length hands ∙ S.in_hands;
        seats = ap length replies ∙ S.seats;
        hearing = ap length heard ∙ S.hearing;
        nexts = ap length next ∙ S.nexts;
        mailboxes = ap length boxes ∙ S.mailboxes;
        sessions = ap length clients ∙ S.sessions;
        clients = rw clients S.clients;
        attached = rw (boxes, clients) S.attached;
        opened = rw boxes S.opened;
        lanes = rw lanes (each_set (λ a b. StandsForLane k.seats k.depth a b) old.lanes w.lane s l2 (put (w.lane s) (End p)) S.lanes (lane_end k.seats k.depth p l l2 (w.lane s) was ends));
        hands = rw hands S.hands;
        replies = rw replies S.replies;
        heard = rw heard S.heard;
        boxes = rw boxes S.boxes;
        next = rw next (λ q d h.
            let n : IsNext w q (get_or old.next q d) = S.next q d h in
            record {
              own = n.own;
              sent = λ t. at_cases (λ m. All (EntryBelow (get_or old.next q d)) (m.sent q)) w.lane s (put (w.lane s) (End p)) t
                  (λ same. at_cases (λ es. All (EntryBelow (get_or old.next q d)) es) (w.lane s).sent p ((w.lane s).sent p ++ End p ∷ []) q
                  (λ own. All-push (EntryBelow (get_or old.next q d)) ((w.lane s).sent p) (End p) (subst (λ (i : ℕ). All (EntryBelow (get_or old.next q d)) ((w.lane s).sent i)) own (n.sent s)) tt) (λ _. n.sent s))
                  (λ _. n.sent t);
              heard = n.heard;
            });
      },
    )

-- the end went into the lane, where there was room and none had been put
pub ends_in : (h : DeliveryCore) (seat s : ℕ) (l l2 : PlainLane Job) → s < length h.lanes → l ≡ get_or h.lanes s l → get_or l.live seat false ≡ true → length l.waiting < l.capacity
    → l2 ≡ record { capacity = l.capacity; live = set l.live seat false; waiting = l.waiting ++ End seat ∷ [] } → Ends h (record h { lanes = set h.lanes s l2 }) seat s
ends_in h seat s l l2 within there live room is = record {
  live = ap (is_ended seat) was ∙ ap not live;
  room = subst (λ (x : PlainLane Job). length x.waiting < x.capacity) (sym was) room;
  ended = ap (is_ended seat) (now ∙ is) ∙ ap not (end_set l.live seat);
  last = ap (λ (x : PlainLane Job). x.waiting) (now ∙ is) ∙ ap (λ (x : PlainLane Job). x.waiting ++ End seat ∷ []) (sym was);
}
  where
    was : lane_of h s ≡ l
    was = get_or-any h.lanes s _ l within ∙ sym there

    now : lane_of (record h { lanes = set h.lanes s l2 }) s ≡ l2
    now = get_or-set_same h.lanes s l2 _ within

    end_set : (xs : List Bool) (p : ℕ) → get_or (set xs p false) p false ≡ false
    end_set [] p = refl
    end_set (x ∷ xs) zero = refl
    end_set (x ∷ xs) (suc p) = end_set xs p

-- why it cannot go in
pub cannot_end_live : (h : DeliveryCore) (seat s : ℕ) (l : PlainLane Job) (live : Bool) → s < length h.lanes → l ≡ get_or h.lanes s l → (live ≡ true) ↔ (get_or l.live seat false ≡ true) → live ≡ false → CannotEnd h seat s
cannot_end_live h seat s l live within there tells is = inl (ap (is_ended seat) (get_or-any h.lanes s _ l within ∙ sym there) ∙ ap not (dead (get_or l.live seat false) (λ e. both live (tells.1 e) is)))
  where
    dead : (b : Bool) → (b ≡ true → ⊥) → b ≡ false
    dead true never = absurd (never refl)
    dead false never = refl

    both : (b : Bool) → b ≡ true → b ≡ false → ⊥
    both true e f = cc
    both false e f = cc

pub cannot_end_full : (h : DeliveryCore) (seat s : ℕ) (l : PlainLane Job) → s < length h.lanes → l ≡ get_or h.lanes s l → length l.waiting ≡ l.capacity → CannotEnd h seat s
cannot_end_full h seat s l within there full = inr (subst (λ (x : PlainLane Job). x.capacity ≤ length x.waiting) (there ∙ get_or-any h.lanes s l _ within) (omega (arith, full)))
