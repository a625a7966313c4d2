-- What a seat has put into each lane, and what a step of the world does to that.
use Rattle.std.proofs.Common.{◌≡◌, ◌≢◌, ℕ, ◌⊎◌, inl, inr, List, [], ◌∷◌, ◌++◌, refl, ap, sym, subst}
use Rattle.delivery_token.specs.declared.Job.{Job}
use Rattle.shard_queue.specs.Lane.{set_at, Lane, put}
use Rattle.shard_queue.specs.declared.lane.Entry.{Entry}
use Rattle.shard_queue.specs.declared.lane.Entry.TheVariants.{Item, End}
use Rattle.shard_queue.proofs.AtLaws.{at_cases, set_at-same}
use Rattle.world.specs.World as world
use Rattle.world.specs.World.{Config, World, Event, Put, PutEnd, Take, Deliver, Answer, Hear, Enter, Status, Read, Store, Expunge, Feed, Leave, Step, answer_full, deliver_full, deliver_no_memory, deliver_spent, delivers, end_full, end_joins, enter_no_memory, enter_spent, enters, hears_one, leave_spent, leaves, mail_lapped, mail_no_memory, mail_spent, mails, put_full, put_joins, put_no_memory, put_shut, take_empty, takes, Discard, discards_them, discard_spent}

-- what a seat put into each lane
abbrev pub put_by : World → ℕ → ℕ → List (Entry Job)
put_by w seat t = (w.lane t).sent seat

-- it put nothing more there, or its end
abbrev pub PutsNoCopy : ℕ → World → World → Type 0
PutsNoCopy seat w v = (t : ℕ) → (put_by v seat t ≡ put_by w seat t) ⊎ (put_by v seat t ≡ put_by w seat t ++ End seat ∷ [])

-- ---- steps

-- an event that puts no copy of this seat
abbrev pub IsNoPutOf : ℕ → Event → Type 0
IsNoPutOf seat (Put p s c) = seat ≢ p
IsNoPutOf seat event = Unit {0}

-- a lane was changed at one position: what the seat sent there is this
at_lane : (w : World) (s : ℕ) (lane : Lane Job) (seat : ℕ) (tail : List (Entry Job)) → (lane.sent seat ≡ (w.lane s).sent seat) ⊎ (lane.sent seat ≡ (w.lane s).sent seat ++ tail)
    → (t : ℕ) → ((set_at w.lane s lane t).sent seat ≡ (w.lane t).sent seat) ⊎ ((set_at w.lane s lane t).sent seat ≡ (w.lane t).sent seat ++ tail)
at_lane w s lane seat tail h t =
    at_cases (λ (l : Lane Job). (l.sent seat ≡ (w.lane t).sent seat) ⊎ (l.sent seat ≡ (w.lane t).sent seat ++ tail)) w.lane s lane t
    (λ same. subst (λ (i : ℕ). (lane.sent seat ≡ (w.lane i).sent seat) ⊎ (lane.sent seat ≡ (w.lane i).sent seat ++ tail)) (sym same) h) (λ other. inl refl)

-- another seat's entry
not_mine : (l : Lane Job) (p : ℕ) (es : List (Entry Job)) (seat : ℕ) → seat ≢ p → set_at l.sent p es seat ≡ l.sent seat
not_mine l p es seat other = at_cases (λ (x : List (Entry Job)). x ≡ l.sent seat) l.sent p es seat (λ same. absurd (other same)) (λ _. refl)

its_end : (l : Lane Job) (p seat : ℕ) → (set_at l.sent p (l.sent p ++ End p ∷ []) seat ≡ l.sent seat) ⊎ (set_at l.sent p (l.sent p ++ End p ∷ []) seat ≡ l.sent seat ++ End seat ∷ [])
its_end l p seat =
    at_cases (λ (x : List (Entry Job)). (x ≡ l.sent seat) ⊎ (x ≡ l.sent seat ++ End seat ∷ [])) l.sent p (l.sent p ++ End p ∷ []) seat
    (λ same. inr (ap (λ (i : ℕ). l.sent i ++ End i ∷ []) (sym same))) (λ _. inl refl)

pub step_puts : (k : Config) (w : World) (e : Event) (v : World) (seat : ℕ) → IsNoPutOf seat e → Step k w e v → PutsNoCopy seat w v
step_puts k w (Put p s c) v seat other (put_joins may live room e) = rw e
    (at_lane w s (put (w.lane s) (Item p c)) seat (End seat ∷ []) (inl (not_mine (w.lane s) p ((w.lane s).sent p ++ Item p c ∷ []) seat other)))
step_puts k w (Put p s c) v seat other (put_full may live room e) = rw e (λ t. inl refl)
step_puts k w (Put p s c) v seat other (put_no_memory may live room e) = rw e (λ t. inl refl)
step_puts k w (Put p s c) v seat other (put_shut may ended e) = rw e (λ t. inl refl)
step_puts k w (PutEnd p s) v seat other (end_joins there shard live room e) = rw e (at_lane w s (put (w.lane s) (End p)) seat (End seat ∷ []) (its_end (w.lane s) p seat))
step_puts k w (PutEnd p s) v seat other (end_full there shard live room e) = rw e (λ t. inl refl)
step_puts k w (Take s) v seat other (takes entry others empty front e) = rw e (at_lane w s _ seat (End seat ∷ []) (inl refl))
step_puts k w (Take s) v seat other (take_empty empty none e) = rw e (λ t. inl refl)
step_puts k w (Deliver s) v seat other (delivers c b hand has room logs e) = rw e (λ t. inl refl)
step_puts k w (Deliver s) v seat other (deliver_spent c hand spent e) = rw e (λ t. inl refl)
step_puts k w (Deliver s) v seat other (deliver_full c hand has full e) = rw e (λ t. inl refl)
step_puts k w (Deliver s) v seat other (deliver_no_memory c hand has room e) = rw e (λ t. inl refl)
step_puts k w (Answer s) v seat other (world.answers r hand room e) = rw e (λ t. inl refl)
step_puts k w (Answer s) v seat other (answer_full r hand room e) = rw e (λ t. inl refl)
step_puts k w (Hear p) v seat other (hears_one s r others front e) = rw e (λ t. inl refl)
step_puts k w (Enter n m) v seat other (enters there mailbox free more e) = rw e (λ t. inl refl)
step_puts k w (Enter n m) v seat other (enter_spent there mailbox free more e) = rw e (λ t. inl refl)
step_puts k w (Enter n m) v seat other (enter_no_memory there mailbox free more e) = rw e (λ t. inl refl)
step_puts k w (Status m) v seat other e = rw e (λ t. inl refl)
step_puts k w (Read n u mark) v seat other (x, there, mails b base logs e) = rw e (λ t. inl refl)
step_puts k w (Read n u mark) v seat other (x, there, mail_lapped lapped e) = rw e (λ t. inl refl)
step_puts k w (Read n u mark) v seat other (x, there, mail_spent base spent e) = rw e (λ t. inl refl)
step_puts k w (Read n u mark) v seat other (x, there, mail_no_memory allocates base room e) = rw e (λ t. inl refl)
step_puts k w (Store n u op) v seat other (x, there, mails b base logs e) = rw e (λ t. inl refl)
step_puts k w (Store n u op) v seat other (x, there, mail_lapped lapped e) = rw e (λ t. inl refl)
step_puts k w (Store n u op) v seat other (x, there, mail_spent base spent e) = rw e (λ t. inl refl)
step_puts k w (Store n u op) v seat other (x, there, mail_no_memory allocates base room e) = rw e (λ t. inl refl)
step_puts k w (Expunge n may_go) v seat other (x, there, mails b base logs e) = rw e (λ t. inl refl)
step_puts k w (Expunge n may_go) v seat other (x, there, mail_lapped lapped e) = rw e (λ t. inl refl)
step_puts k w (Expunge n may_go) v seat other (x, there, mail_spent base spent e) = rw e (λ t. inl refl)
step_puts k w (Expunge n may_go) v seat other (x, there, mail_no_memory allocates base room e) = rw e (λ t. inl refl)
step_puts k w (Feed n limit) v seat other (x, there, mails b base logs e) = rw e (λ t. inl refl)
step_puts k w (Feed n limit) v seat other (x, there, mail_lapped lapped e) = rw e (λ t. inl refl)
step_puts k w (Feed n limit) v seat other (x, there, mail_spent base spent e) = rw e (λ t. inl refl)
step_puts k w (Feed n limit) v seat other (x, there, mail_no_memory allocates base room e) = rw e (λ t. inl refl)
step_puts k w (Leave n removing) v seat other (x, there, leaves b logs e) = rw e (λ t. inl refl)
step_puts k w (Leave n removing) v seat other (x, there, leave_spent spent e) = rw e (λ t. inl refl)
step_puts k w (Discard m goes) v seat other (discards_them b there logs e) = rw e (λ t. inl refl)
step_puts k w (Discard m goes) v seat other (discard_spent there spent e) = rw e (λ t. inl refl)

-- the copy joined a lane, or was refused at once
abbrev pub Puts : ℕ → Job → (sent later : ℕ → List (Entry Job)) → Type 0
Puts seat copy sent later = (t : ℕ) → (later t ≡ sent t) ⊎ (later t ≡ sent t ++ Item seat copy ∷ [])

-- the seat's own copy
pub step_puts_copy : (k : Config) (w : World) (p s : ℕ) (c : Job) (v : World) → Step k w (Put p s c) v → Puts p c (put_by w p) (put_by v p)
step_puts_copy k w p s c v (put_joins may live room e) = rw e (at_lane w s (put (w.lane s) (Item p c)) p (Item p c ∷ []) (inr (set_at-same (w.lane s).sent p ((w.lane s).sent p ++ Item p c ∷ []))))
step_puts_copy k w p s c v (put_full may live room e) = rw e (λ t. inl refl)
step_puts_copy k w p s c v (put_no_memory may live room e) = rw e (λ t. inl refl)
step_puts_copy k w p s c v (put_shut may ended e) = rw e (λ t. inl refl)
