-- The copy of a message is out: its seat put it into the lane of its mailbox's shard, or heard at once that it was refused.
use Rattle.std.proofs.Common.{◌≡◌, ◌≢◌, ℕ, ◌⊎◌, inl, inr, false, true, eqb, List, [], ◌∷◌, ◌++◌, Contains, refl, ap, sym, ◌∙◌, subst}
use Rattle.std.specs.Prelude.{All}
use Rattle.std.proofs.lemmas.Bool.Decides.{eqb_tells}
use Rattle.delivery_token.specs.declared.CopyKey.{CopyKey}
use Rattle.delivery_token.specs.declared.Job.{Job}
use Rattle.delivery_token.specs.declared.Refusal.{Refusal}
use Rattle.delivery_token.specs.declared.Verdict.TheVariants.{Refused}
use Rattle.delivery_token.specs.declared.log.Noted.{Noted}
use Rattle.delivery_token.specs.Keys.{Below}
use Rattle.shard_queue.specs.Lane.{Lane, put}
use Rattle.shard_queue.specs.declared.lane.Entry.{Entry}
use Rattle.shard_queue.specs.declared.lane.Entry.TheVariants.{Item, End}
use Rattle.shard_queue.proofs.AtLaws.{set_at-same}
use Rattle.world.specs.World as world
use Rattle.world.specs.World.{Config, EntryBelow, Event, MayPut, Put, Step, World, put_full, put_joins, put_no_memory, put_shut, reply_to, shard_of}
use Rattle.world.proofs.Base.{Every, every_append, every_of_all, every_weaker}
use Rattle.world.proofs.Mails.{IsIn, is_in_contains}
use Rattle.imap_session.specs.Exchange.{Event as Happened, Sent}
use Rattle.imap_session.specs.Store.{Met}
use Rattle.exactly_once.proofs.Going.{below_itself}
use Rattle.exactly_once.proofs.Grown.{heard_stays_heard}
use Rattle.exactly_once.proofs.Histories.{every_in}
use Rattle.exactly_once.proofs.Lanes.{Puts, PutsNoCopy, put_by, step_puts, step_puts_copy}
use Rattle.laws_client.proofs.Moved.{Calls, Moved, moved, rested, stepped}

-- the copy of a message of the session with this serial at a seat
abbrev pub copy_of : (seat serial : ℕ) → Sent → Job
copy_of seat serial message =
    record { key = record { seat = seat; serial = serial; message = message.append.message; recipient = 0 }; mailbox = message.append.mailbox; text = message.append.text; flags = message.append.flags }

-- an entry of this key is this copy
abbrev pub IsOnly : Job → Entry Job → Type 0
IsOnly c (Item p d) = d.key ≡ c.key → d ≡ c
IsOnly c (End p) = Unit {0}

-- it was put, and no other copy of its key
pub record IsOut (k : Config) (w : World) (seat : ℕ) (c : Job) : Type 0 where
  pub there : IsIn (Item seat c) (put_by w seat (shard_of k c.mailbox))
  pub alone : (t : ℕ) → Every (IsOnly c) (put_by w seat t)

abbrev pub WasRefused : World → (seat : ℕ) → CopyKey → Type 0
WasRefused w seat key = (mailbox : ℕ) × (why : Refusal) × Contains (w.heard seat) (record { key = key; mailbox = mailbox; verdict = Refused why })

abbrev pub Fate : Config → World → (seat : ℕ) → Job → Type 0
Fate k w seat c = IsOut k w seat c ⊎ WasRefused w seat c.key

in_front : {A : Type 0} (x : A) (xs ys : List A) → IsIn x xs → IsIn x (xs ++ ys)
in_front x [] ys h = absurd h
in_front x (z ∷ xs) ys (inl e) = inl e
in_front x (z ∷ xs) ys (inr h) = inr (in_front x xs ys h)

last_in : {A : Type 0} (x : A) (xs : List A) → IsIn x (xs ++ x ∷ [])
last_in x [] = inl refl
last_in x (z ∷ xs) = inr (last_in x xs)

-- ---- steps

no_copy_out : (k : Config) (w v : World) (seat : ℕ) (c : Job) → PutsNoCopy seat w v → IsOut k w seat c → IsOut k v seat c
no_copy_out k w v seat c h o = record { there = by (h (shard_of k c.mailbox)); alone = λ t. also t (h t) }
  where
    by : (put_by v seat (shard_of k c.mailbox) ≡ put_by w seat (shard_of k c.mailbox)) ⊎ (put_by v seat (shard_of k c.mailbox) ≡ put_by w seat (shard_of k c.mailbox) ++ End seat ∷ []) → IsIn (Item seat c) (put_by v seat (shard_of k c.mailbox))
    by (inl same) = subst (IsIn (Item seat c)) (sym same) o.there
    by (inr more) = subst (IsIn (Item seat c)) (sym more) (in_front (Item seat c) (put_by w seat (shard_of k c.mailbox)) (End seat ∷ []) o.there)

    also : (t : ℕ) → (put_by v seat t ≡ put_by w seat t) ⊎ (put_by v seat t ≡ put_by w seat t ++ End seat ∷ []) → Every (IsOnly c) (put_by v seat t)
    also t (inl same) = subst (Every (IsOnly c)) (sym same) (o.alone t)
    also t (inr more) = subst (Every (IsOnly c)) (sym more) (every_append (IsOnly c) (put_by w seat t) (End seat ∷ []) (o.alone t) (tt, tt))

-- a later copy has a later key
copy_out : (k : Config) (w v : World) (seat : ℕ) (c d : Job) → Puts seat d (put_by w seat) (put_by v seat) → Below c.key d.key → IsOut k w seat c → IsOut k v seat c
copy_out k w v seat c d h below o = record { there = by (h (shard_of k c.mailbox)); alone = λ t. also t (h t) }
  where
    by : (put_by v seat (shard_of k c.mailbox) ≡ put_by w seat (shard_of k c.mailbox)) ⊎ (put_by v seat (shard_of k c.mailbox) ≡ put_by w seat (shard_of k c.mailbox) ++ Item seat d ∷ []) → IsIn (Item seat c) (put_by v seat (shard_of k c.mailbox))
    by (inl same) = subst (IsIn (Item seat c)) (sym same) o.there
    by (inr more) = subst (IsIn (Item seat c)) (sym more) (in_front (Item seat c) (put_by w seat (shard_of k c.mailbox)) (Item seat d ∷ []) o.there)

    also : (t : ℕ) → (put_by v seat t ≡ put_by w seat t) ⊎ (put_by v seat t ≡ put_by w seat t ++ Item seat d ∷ []) → Every (IsOnly c) (put_by v seat t)
    also t (inl same) = subst (Every (IsOnly c)) (sym same) (o.alone t)
    also t (inr more) = subst (Every (IsOnly c)) (sym more) (every_append (IsOnly c) (put_by w seat t) (Item seat d ∷ []) (o.alone t) ((λ e. absurd (below_itself c.key d.key below (sym e))), tt))

may_put : (k : Config) (w : World) (p s : ℕ) (c : Job) (v : World) → Step k w (Put p s c) v → MayPut k w p s c
may_put k w p s c v (put_joins may live room e) = may
may_put k w p s c v (put_full may live full e) = may
may_put k w p s c v (put_no_memory may live room e) = may
may_put k w p s c v (put_shut may ended e) = may

below_of : (key : CopyKey) (p : ℕ) (c : Job) (es : List (Entry Job)) → Every (EntryBelow key) es → IsIn (Item p c) es → Below c.key key
below_of key p c es h there = every_in (EntryBelow key) (Item p c) es h there

put_step : (k : Config) (w : World) (p s : ℕ) (d : Job) (v : World) (seat : ℕ) (c : Job) → Step k w (Put p s d) v → IsOut k w seat c → IsOut k v seat c
put_step k w p s d v seat c step o = by (eqb_tells seat p)
  where
    by : ((eqb seat p ≡ true) × (seat ≡ p)) ⊎ ((eqb seat p ≡ false) × (seat ≢ p)) → IsOut k v seat c
    by (inl (t, same)) =
        let puts : Puts seat d (put_by w seat) (put_by v seat) = subst (λ (q : ℕ). Puts q d (put_by w q) (put_by v q)) (sym same) (step_puts_copy k w p s d v step) in
        let above : Every (EntryBelow d.key) (put_by w seat (shard_of k c.mailbox)) =
        every_of_all (EntryBelow d.key) (put_by w seat (shard_of k c.mailbox)) (subst (λ (q : ℕ). (t : ℕ) → All (EntryBelow d.key) ((w.lane t).sent q)) (sym same) (may_put k w p s d v step).above_sent (shard_of k c.mailbox)) in
        copy_out k w v seat c d puts (below_of d.key seat c (put_by w seat (shard_of k c.mailbox)) above o.there) o
    by (inr (t, other)) = no_copy_out k w v seat c (step_puts k w (Put p s d) v seat other step) o

pub step_out : (k : Config) (w : World) (e : Event) (v : World) (seat : ℕ) (c : Job) → Step k w e v → IsOut k w seat c → IsOut k v seat c
step_out k w (Put p s d) v seat c step o = put_step k w p s d v seat c step o
step_out k w e v seat c step o = no_copy_out k w v seat c (step_puts k w e v seat tt step) o

pub fate_step : (k : Config) (w : World) (e : Event) (v : World) (seat : ℕ) (c : Job) → Step k w e v → Fate k w seat c → Fate k v seat c
fate_step k w e v seat c step (inl o) = inl (step_out k w e v seat c step o)
fate_step k w e v seat c step (inr (mailbox, why, heard)) = inr (mailbox, why, heard_stays_heard k w (e ∷ []) v seat _ (v, step, refl) heard)

fate_moved : (k : Config) (n : ℕ) (w v : World) (seat : ℕ) (c : Job) → Moved k n w v → Fate k w seat c → Fate k v seat c
fate_moved k n w v seat c (rested e) f = rw e f
fate_moved k n w v seat c (stepped e step own short) f = fate_step k w e v seat c step f

pub fate_met : (k : Config) (n : ℕ) (w : World) (events : List Happened) (v : World) (seat : ℕ) (c : Job) → Met (Calls k n) w events v → Fate k w seat c → Fate k v seat c
fate_met k n w [] v seat c met f = rw met f
fate_met k n w (e ∷ events) v seat c (mid, one, more) f = fate_met k n mid events v seat c more (fate_moved k n w mid seat c (moved k n w e.call e.answer mid one) f)

-- ---- it is put

was_refused : (w v : World) (p : ℕ) (c : Job) (why : Refusal) → v ≡ world.hears w p (reply_to c (Refused why)) → WasRefused v p c.key
was_refused w v p c why e =
    let r : Noted = reply_to c (Refused why) in
    let heard : v.heard p ≡ w.heard p ++ r ∷ [] = ap (λ (u : World). u.heard p) e ∙ set_at-same w.heard p (w.heard p ++ r ∷ []) in
    (c.mailbox, why, subst (λ (rs : List Noted). Contains rs r) (sym heard) (is_in_contains r (w.heard p ++ r ∷ []) (last_in r (w.heard p))))

joins_out : (k : Config) (w v : World) (p : ℕ) (c : Job) → MayPut k w p (shard_of k c.mailbox) c → Puts p c (put_by w p) (put_by v p) → v ≡ world.puts w (shard_of k c.mailbox) (Item p c) → IsOut k v p c
joins_out k w v p c may puts e = record { there = subst (IsIn (Item p c)) (sym here) (last_in (Item p c) (put_by w p s)); alone = λ t. also t (puts t) }
  where
    s : ℕ
    s = shard_of k c.mailbox

    here : put_by v p (shard_of k c.mailbox) ≡ put_by w p (shard_of k c.mailbox) ++ Item p c ∷ []
    here =
        ap (λ (u : World). put_by u p (shard_of k c.mailbox)) e ∙ ap (λ (l : Lane Job). l.sent p) (set_at-same w.lane (shard_of k c.mailbox) (put (w.lane (shard_of k c.mailbox)) (Item p c)))
        ∙ set_at-same (w.lane (shard_of k c.mailbox)).sent p ((w.lane (shard_of k c.mailbox)).sent p ++ Item p c ∷ [])

    others : (t : ℕ) → Every (IsOnly c) (put_by w p t)
    others t = every_weaker (EntryBelow c.key) (IsOnly c) only (put_by w p t) (every_of_all (EntryBelow c.key) (put_by w p t) (may.above_sent t))
      where
        only : (x : Entry Job) → EntryBelow c.key x → IsOnly c x
        only (Item q d) below = λ same. absurd (below_itself d.key c.key below same)
        only (End q) below = tt

    also : (t : ℕ) → (put_by v p t ≡ put_by w p t) ⊎ (put_by v p t ≡ put_by w p t ++ Item p c ∷ []) → Every (IsOnly c) (put_by v p t)
    also t (inl same) = subst (Every (IsOnly c)) (sym same) (others t)
    also t (inr more) = subst (Every (IsOnly c)) (sym more) (every_append (IsOnly c) (put_by w p t) (Item p c ∷ []) (others t) ((λ e. refl), tt))

pub put_fate : (k : Config) (w v : World) (p : ℕ) (c : Job) → Step k w (Put p (shard_of k c.mailbox) c) v → Fate k v p c
put_fate k w v p c (put_joins may live room e) = inl (joins_out k w v p c may (step_puts_copy k w p (shard_of k c.mailbox) c v (put_joins may live room e)) e)
put_fate k w v p c (put_full may live full e) = inr (was_refused w v p c _ e)
put_fate k w v p c (put_no_memory may live room e) = inr (was_refused w v p c _ e)
put_fate k w v p c (put_shut may ended e) = inr (was_refused w v p c _ e)
