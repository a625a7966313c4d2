-- Where a core has no client, no world for which it stands has a session.
use Rattle.std.proofs.Common.{◌≡◌, ℕ, ◌<◌, ◌≤◌, ◌⊎◌, inl, inr, Bool, List, [], ◌∷◌, length, refl, arith, subst, Option, Some, None}
use Rattle.std.proofs.Math.Nat.{lt_of_not-le}
use Rattle.std.proofs.lemmas.Bool.{cases_lt}
use Rattle.change_ring.specs.declared.change.Change.{Change}
use Rattle.shard_queue.proofs.AtLaws.{at_cases}
use Rattle.shard_queue.specs.Lane.{set_at}
use Rattle.world.specs.World as ev
use Rattle.world.specs.World.{Config, World, Session, Event, Step, Steps, IsWorld, empty_world, MailStep, LeaveStep, put_joins, put_full, put_no_memory, put_shut, end_joins, end_full, takes, take_empty, delivers, deliver_spent, deliver_full, deliver_no_memory, answers, answer_full, hears_one, enters, enter_spent, enter_no_memory, mails, mail_lapped, mail_spent, mail_no_memory, leaves, leave_spent, discards_them, discard_spent}
use Rattle.delivery_core.specs.DeliveryCore.{DeliveryCore, client_of}
use Rattle.delivery_core.specs.Stands.{StandsFor, StandsForPlace}

-- ---- no world has a session beyond the places that there are

abbrev NoneBeyond : Config → World → Type 0
NoneBeyond k w = (n : ℕ) → k.sessions ≤ n → w.session n ≡ None

set_within : (k : Config) (f : ℕ → Option Session) (i : ℕ) (x : Option Session) → ((n : ℕ) → k.sessions ≤ n → f n ≡ None) → i < k.sessions → (n : ℕ) → k.sessions ≤ n → set_at f i x n ≡ None
set_within k f i x none within n beyond = at_cases (λ (y : Option Session). y ≡ None) f i x n (λ e. absurd (omega arith)) (λ _. none n beyond)

inside : (k : Config) (w : World) (i : ℕ) (s : Session) → NoneBeyond k w → w.session i ≡ Some s → i < k.sessions
inside k w i s none is = lt_of_not-le (λ h. let e : w.session i ≡ None = none i h in cc)

mail_keeps : (k : Config) (w : World) (n : ℕ) (s : Session) (allocates : Bool) (shown changes : List Change) (v : World) → NoneBeyond k w → w.session n ≡ Some s → MailStep k w n s allocates shown changes v → NoneBeyond k v
mail_keeps k w n s allocates shown changes v none is (mails b low L e) = rw e (set_within k w.session n _ none (inside k w n s none is))
mail_keeps k w n s allocates shown changes v none is (mail_lapped low e) = rw e none
mail_keeps k w n s allocates shown changes v none is (mail_spent low many e) = rw e none
mail_keeps k w n s allocates shown changes v none is (mail_no_memory may low few e) = rw e none

leave_keeps : (k : Config) (w : World) (n : ℕ) (s : Session) (changes : List Change) (v : World) → NoneBeyond k w → w.session n ≡ Some s → LeaveStep k w n s changes v → NoneBeyond k v
leave_keeps k w n s changes v none is (leaves b L e) = rw e (set_within k w.session n _ none (inside k w n s none is))
leave_keeps k w n s changes v none is (leave_spent many e) = rw e none

step_keeps : (k : Config) (w : World) (e : Event) (v : World) → NoneBeyond k w → Step k w e v → NoneBeyond k v
step_keeps k w (ev.Put p s c) v none (put_joins may live room e) = rw e none
step_keeps k w (ev.Put p s c) v none (put_full may live room e) = rw e none
step_keeps k w (ev.Put p s c) v none (put_no_memory may live room e) = rw e none
step_keeps k w (ev.Put p s c) v none (put_shut may ended e) = rw e none
step_keeps k w (ev.PutEnd p s) v none (end_joins seat shard live room e) = rw e none
step_keeps k w (ev.PutEnd p s) v none (end_full seat shard live room e) = rw e none
step_keeps k w (ev.Take s) v none (takes x others empty front e) = rw e none
step_keeps k w (ev.Take s) v none (take_empty empty front e) = rw e none
step_keeps k w (ev.Deliver s) v none (delivers c b was uid room L e) = rw e none
step_keeps k w (ev.Deliver s) v none (deliver_spent c was h e) = rw e none
step_keeps k w (ev.Deliver s) v none (deliver_full c was h i e) = rw e none
step_keeps k w (ev.Deliver s) v none (deliver_no_memory c was h i e) = rw e none
step_keeps k w (ev.Answer s) v none (answers r was room e) = rw e none
step_keeps k w (ev.Answer s) v none (answer_full r was room e) = rw e none
step_keeps k w (ev.Hear p) v none (hears_one s r others front e) = rw e none
step_keeps k w (ev.Enter n m) v none (enters a b c d e) = rw e (set_within k w.session n _ none a)
step_keeps k w (ev.Enter n m) v none (enter_spent a b c d e) = rw e none
step_keeps k w (ev.Enter n m) v none (enter_no_memory a b c d e) = rw e none
step_keeps k w (ev.Status m) v none e = rw e none
step_keeps k w (ev.Read n u mark) v none (s, is, step) = mail_keeps k w n s _ _ _ v none is step
step_keeps k w (ev.Store n u op) v none (s, is, step) = mail_keeps k w n s _ _ _ v none is step
step_keeps k w (ev.Expunge n may_go) v none (s, is, step) = mail_keeps k w n s _ _ _ v none is step
step_keeps k w (ev.Feed n limit) v none (s, is, step) = mail_keeps k w n s _ _ _ v none is step
step_keeps k w (ev.Leave n removing) v none (s, is, step) = leave_keeps k w n s _ v none is step
step_keeps k w (ev.Discard m goes) v none (discards_them b there L e) = rw e none
step_keeps k w (ev.Discard m goes) v none (discard_spent there many e) = rw e none

steps_keep : (k : Config) (w : World) (events : List Event) (v : World) → NoneBeyond k w → Steps k w events v → NoneBeyond k v
steps_keep k w [] v none e = rw e none
steps_keep k w (x ∷ events) v none (u, one, others) = steps_keep k u events v (step_keeps k w x u none one) others

none_beyond : (k : Config) (events : List Event) (w : World) → IsWorld k events w → NoneBeyond k w
none_beyond k events w h = steps_keep k empty_world events w (λ n _. refl) h

-- ---- where there is no client

none_here : (x : Option Session) → StandsForPlace None x → x ≡ None
none_here None h = refl
none_here (Some s) h = absurd h

pub no_session : (k : Config) (w : World) (old : DeliveryCore) (n : ℕ) → StandsFor k old w → client_of old n ≡ None → w.session n ≡ None
no_session k w old n S gone = go (cases_lt n (length old.clients))
  where
    go : (n < length old.clients) ⊎ (length old.clients ≤ n) → w.session n ≡ None
    go (inl l) = none_here (w.session n) (subst (λ x. StandsForPlace x (w.session n)) gone (S.clients n None l))
    go (inr l) = none_beyond k S.reached.0 w S.reached.1 n (omega (arith, S.sessions))
