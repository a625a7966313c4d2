-- What an event does to a mailbox: nothing, or it logs changes, or a copy arrives.
use Rattle.std.proofs.Common.{◌≡◌, ℕ, ◌<◌, ◌≤◌, List, [], ◌∷◌, length, refl, sym, subst, arith, append-nil, length-append}
use Rattle.shard_queue.proofs.AtLaws.{at_cases}
use Rattle.delivery_token.specs.declared.Job.{Job}
use Rattle.change_ring.specs.declared.change.Change.{Change}
use Rattle.world.specs.World.{Config, World, Box, Session, Event, Put, PutEnd, Take, Deliver, Answer, Hear, Enter, Status, Read, Store, Expunge, Feed, Leave, Step, Steps, IsWorld, put_joins, put_full, put_no_memory, put_shut, end_joins, end_full, takes, take_empty, delivers, deliver_spent, deliver_full, deliver_no_memory, answers, answer_full, hears_one, enters, enter_spent, enter_no_memory, MailStep, mails, mail_lapped, mail_spent, mail_no_memory, LeaveStep, leaves, leave_spent, Logs, last_uid, most_changes, next_uid, empty_world, Discard, DiscardStep, discards_them, discard_spent}
use Rattle.laws_client.specs.HouseClients.{HasSmallNumbers}

pub data Goes (k : Config) (old new : Box) : Type 0 where
  unmoved : new ≡ old → Goes k old new
  logged : (changes : List Change) → Logs k old changes [] new → Goes k old new
  arrived : (changes : List Change) (c : Job) → next_uid k old < last_uid → Logs k old changes ((c, next_uid k old) ∷ []) new → Goes k old new

mail_goes : (k : Config) (w : World) (n : ℕ) (s : Session) (a : _) (shown changes : List Change) (v : World) (m : ℕ) → MailStep k w n s a shown changes v → Goes k (w.box m) (v.box m)
mail_goes k w n s a shown changes v m (mails b i L e) =
    rw e (at_cases (λ x. Goes k (w.box m) x) w.box s.mailbox b m (λ is. logged changes (subst (λ j. Logs k (w.box j) changes [] b) (sym is) L)) (λ other. unmoved refl))
mail_goes k w n s a shown changes v m (mail_lapped i e) = rw e (unmoved refl)
mail_goes k w n s a shown changes v m (mail_spent i j e) = rw e (unmoved refl)
mail_goes k w n s a shown changes v m (mail_no_memory h i j e) = rw e (unmoved refl)

leave_goes : (k : Config) (w : World) (n : ℕ) (s : Session) (changes : List Change) (v : World) (m : ℕ) → LeaveStep k w n s changes v → Goes k (w.box m) (v.box m)
leave_goes k w n s changes v m (leaves b L e) =
    rw e (at_cases (λ x. Goes k (w.box m) x) w.box s.mailbox b m (λ is. logged changes (subst (λ j. Logs k (w.box j) changes [] b) (sym is) L)) (λ other. unmoved refl))
leave_goes k w n s changes v m (leave_spent i e) = rw e (unmoved refl)

discard_goes : (k : Config) (w : World) (i : ℕ) (changes : List Change) (v : World) (m : ℕ) → DiscardStep k w i changes v → Goes k (w.box m) (v.box m)
discard_goes k w i changes v m (discards_them b there L e) =
    rw e (at_cases (λ x. Goes k (w.box m) x) w.box i b m (λ is. logged changes (subst (λ j. Logs k (w.box j) changes [] b) (sym is) L)) (λ other. unmoved refl))
discard_goes k w i changes v m (discard_spent there i_full e) = rw e (unmoved refl)

pub box_goes : (k : Config) (w : World) (e : Event) (v : World) (m : ℕ) → Step k w e v → Goes k (w.box m) (v.box m)
box_goes k w (Put q s c) v m (put_joins may live room e) = rw e (unmoved refl)
box_goes k w (Put q s c) v m (put_full may live room e) = rw e (unmoved refl)
box_goes k w (Put q s c) v m (put_no_memory may live room e) = rw e (unmoved refl)
box_goes k w (Put q s c) v m (put_shut may ended e) = rw e (unmoved refl)
box_goes k w (PutEnd q s) v m (end_joins seat shard live room e) = rw e (unmoved refl)
box_goes k w (PutEnd q s) v m (end_full seat shard live room e) = rw e (unmoved refl)
box_goes k w (Take s) v m (takes x others empty front e) = rw e (unmoved refl)
box_goes k w (Take s) v m (take_empty empty front e) = rw e (unmoved refl)
box_goes k w (Deliver s) v m (delivers c b was uid room L e) =
    rw e (at_cases (λ x. Goes k (w.box m) x) w.box c.mailbox b m
    (λ is. subst (λ j. Goes k (w.box j) b) (sym is) (arrived _ c uid.0 L)) (λ other. unmoved refl))
box_goes k w (Deliver s) v m (deliver_spent c was h e) = rw e (unmoved refl)
box_goes k w (Deliver s) v m (deliver_full c was h i e) = rw e (unmoved refl)
box_goes k w (Deliver s) v m (deliver_no_memory c was h i e) = rw e (unmoved refl)
box_goes k w (Answer s) v m (answers r was room e) = rw e (unmoved refl)
box_goes k w (Answer s) v m (answer_full r was room e) = rw e (unmoved refl)
box_goes k w (Hear q) v m (hears_one s r others front e) = rw e (unmoved refl)
box_goes k w (Enter n i) v m (enters a b c d e) = rw e (unmoved refl)
box_goes k w (Enter n i) v m (enter_spent a b c d e) = rw e (unmoved refl)
box_goes k w (Enter n i) v m (enter_no_memory a b c d e) = rw e (unmoved refl)
box_goes k w (Status i) v m e = rw e (unmoved refl)
box_goes k w (Read n u mark) v m (s, is, step) = mail_goes k w n s _ _ _ v m step
box_goes k w (Store n u op) v m (s, is, step) = mail_goes k w n s _ _ _ v m step
box_goes k w (Expunge n may_go) v m (s, is, step) = mail_goes k w n s _ _ _ v m step
box_goes k w (Feed n limit) v m (s, is, step) = mail_goes k w n s _ _ _ v m step
box_goes k w (Leave n removing) v m (s, is, step) = leave_goes k w n s _ v m step
box_goes k w (Discard i goes) v m step = discard_goes k w i _ v m step

-- ---- a mailbox stays small

pub record IsSmall (k : Config) (b : Box) : Type 0 where
  pub log : length b.log ≤ most_changes
  pub next : next_uid k b ≤ last_uid

pub goes_small : (k : Config) (old new : Box) → Goes k old new → IsSmall k old → IsSmall k new
goes_small k old new (unmoved e) S = rw e S
goes_small k old new (logged changes L) S = record {
  log = rw (L.log, length-append old.log changes) L.room;
  next = rw (L.accepted, append-nil old.accepted) S.next;
}
goes_small k old new (arrived changes c room L) S = record {
  log = rw (L.log, length-append old.log changes) L.room;
  next = rw (L.accepted, length-append old.accepted ((c, next_uid k old) ∷ [])) (omega (arith, room));
}

small_steps : (k : Config) (w : World) (es : List Event) (v : World) → ((m : ℕ) → IsSmall k (w.box m)) → Steps k w es v → (m : ℕ) → IsSmall k (v.box m)
small_steps k w [] v S e m = rw e (S m)
small_steps k w (x ∷ es) v S (u, one, others) m = small_steps k u es v (λ j. goes_small k (w.box j) (u.box j) (box_goes k w x u j one) (S j)) others m

pub small_always : (k : Config) (events : List Event) (w : World) → HasSmallNumbers k → IsWorld k events w → (m : ℕ) → IsSmall k (w.box m)
small_always k events w h is m = small_steps k empty_world events w (λ j. record { log = omega arith; next = omega (arith, h.first_uid) }) is m
