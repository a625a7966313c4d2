-- What is on its way was sent: each copy and each reply that waits, or is in a hand, has a key that its seat sent.
use Rattle.std.proofs.Common.{◌≡◌, ℕ, ◌<◌, List, [], ◌∷◌, ◌++◌, filter_map, refl, subst, inl, inr, Option}
use Rattle.std.proofs.lemmas.List.Elements.{filter_map-append}
use Rattle.shard_queue.specs.declared.lane.Entry.{Entry}
use Rattle.shard_queue.specs.declared.lane.Entry.TheVariants.{Item, End}
use Rattle.shard_queue.specs.Lane.{producer, put, took, set_at}
use Rattle.delivery_token.specs.declared.CopyKey.{CopyKey}
use Rattle.delivery_token.specs.declared.Job.{Job}
use Rattle.delivery_token.specs.declared.log.Noted.{Noted}
use Rattle.shard_queue.proofs.AtLaws.{at_cases, at_each}
use Rattle.world.specs.World.{Config, World, Box, Session, Hand, Empty, Taken, Done, MayPut, put_joins, put_full, put_no_memory, put_shut, end_joins, end_full, takes, take_empty, delivers, deliver_spent, deliver_full, deliver_no_memory, answers, answer_full, hears_one, enters, enter_spent, enter_no_memory, MailStep, mails, mail_lapped, mail_spent, mail_no_memory, LeaveStep, leaves, leave_spent, discards_them, discard_spent, Event, Put, PutEnd, Take, Deliver, Answer, Hear, Enter, Status, Read, Store, Expunge, Feed, Leave, Discard, Step, Steps, IsWorld, in_hand, puts, empty_world}
use Rattle.world.proofs.Base.{Every, every_append, every_weaker}
use Rattle.world.proofs.Mails.{IsIn}
use Rattle.world.specs.Known.{key_in}

-- of this configuration, and sent by its seat to some shard
pub record Wanted (k : Config) (w : World) (key : CopyKey) (m : ℕ) : Type 0 where
  pub seat : key.seat < k.seats
  pub mailbox : m < k.mailboxes
  pub shard : ℕ
  pub sent : IsIn key (filter_map key_in ((w.lane shard).sent key.seat))

abbrev pub EntryKnown : Config → World → Entry Job → Type 0
EntryKnown k w (Item p c) = (c.key.seat ≡ p) × Wanted k w c.key c.mailbox
EntryKnown k w (End p) = Unit {0}

abbrev pub HandKnown : Config → World → Hand → Type 0
HandKnown k w Empty = Unit {0}
HandKnown k w (Taken c) = Wanted k w c.key c.mailbox
HandKnown k w (Done r) = Wanted k w r.key r.mailbox

abbrev pub ReplyKnown : Config → World → ℕ → Entry Noted → Type 0
ReplyKnown k w p (Item s r) = (r.key.seat ≡ p) × Wanted k w r.key r.mailbox
ReplyKnown k w p (End s) = ⊥

pub record Known (k : Config) (w : World) : Type 0 where
  pub lanes : (s : ℕ) → Every (EntryKnown k w) (w.lane s).waiting
  pub hands : (s : ℕ) → HandKnown k w (w.hand s)
  pub replies : (p : ℕ) → Every (ReplyKnown k w p) (w.replies p).waiting

-- all that was sent in the one world was sent in the other
abbrev pub SentMore : World → World → Type 0
SentMore w v = (t p : ℕ) (x : CopyKey) → IsIn x (filter_map key_in ((w.lane t).sent p)) → IsIn x (filter_map key_in ((v.lane t).sent p))

wanted_more : (k : Config) (w v : World) (key : CopyKey) (m : ℕ) → SentMore w v → Wanted k w key m → Wanted k v key m
wanted_more k w v key m more h = record { seat = h.seat; mailbox = h.mailbox; shard = h.shard; sent = more h.shard key.seat key h.sent }

entry_more : (k : Config) (w v : World) → SentMore w v → (e : Entry Job) → EntryKnown k w e → EntryKnown k v e
entry_more k w v more (Item p c) h = (h.0, wanted_more k w v c.key c.mailbox more h.1)
entry_more k w v more (End p) h = tt

hand_more : (k : Config) (w v : World) → SentMore w v → (x : Hand) → HandKnown k w x → HandKnown k v x
hand_more k w v more Empty h = tt
hand_more k w v more (Taken c) h = wanted_more k w v c.key c.mailbox more h
hand_more k w v more (Done r) h = wanted_more k w v r.key r.mailbox more h

reply_more : (k : Config) (w v : World) (p : ℕ) → SentMore w v → (e : Entry Noted) → ReplyKnown k w p e → ReplyKnown k v p e
reply_more k w v p more (Item s r) h = (h.0, wanted_more k w v r.key r.mailbox more h.1)
reply_more k w v p more (End s) h = absurd h

in_more : (x : CopyKey) (xs ys : List CopyKey) → IsIn x xs → IsIn x (xs ++ ys)
in_more x [] ys h = absurd h
in_more x (y ∷ xs) ys (inl e) = inl e
in_more x (y ∷ xs) ys (inr h) = inr (in_more x xs ys h)

in_last : (x : CopyKey) (xs : List CopyKey) → IsIn x (xs ++ x ∷ [])
in_last x [] = inl refl
in_last x (y ∷ xs) = inr (in_last x xs)

-- a put sends more, a take sends the same
more_put : (w : World) (s : ℕ) (e : Entry Job) → SentMore w (puts w s e)
more_put w s e t p x = at_cases (λ l. IsIn x (filter_map key_in ((w.lane t).sent p)) → IsIn x (filter_map key_in (l.sent p))) w.lane s (put (w.lane s) e) t
    (λ same. at_cases (λ es. IsIn x (filter_map key_in ((w.lane t).sent p)) → IsIn x (filter_map key_in es)) (w.lane s).sent (producer e) ((w.lane s).sent (producer e) ++ e ∷ []) p
    (λ own. rw (filter_map-append key_in ((w.lane s).sent (producer e)) (e ∷ []), same, own) (λ h. in_more x _ _ h))
    (λ _. rw same (λ h. h)))
    (λ _. λ h. h)

more_took : (w : World) (s : ℕ) (e : Entry Job) (others : List (Entry Job)) (hand : ℕ → Hand) → SentMore w (record w { lane = set_at w.lane s (took (w.lane s) e others); hand = hand })
more_took w s e others hand t p x = at_cases (λ l. IsIn x (filter_map key_in ((w.lane t).sent p)) → IsIn x (filter_map key_in (l.sent p))) w.lane s (took (w.lane s) e others) t
    (λ same. rw same (λ h. h)) (λ _. λ h. h)

known_puts : (k : Config) (w : World) (s : ℕ) (e : Entry Job) → Known k w → EntryKnown k (puts w s e) e → Known k (puts w s e)
known_puts k w s e K own = record {
  lanes = at_each (λ t l. Every (EntryKnown k (puts w s e)) l.waiting) w.lane s (put (w.lane s) e)
      (λ t. every_weaker _ _ (entry_more k w (puts w s e) (more_put w s e)) (w.lane t).waiting (K.lanes t))
      (every_append (EntryKnown k (puts w s e)) (w.lane s).waiting (e ∷ []) (every_weaker _ _ (entry_more k w (puts w s e) (more_put w s e)) (w.lane s).waiting (K.lanes s)) (own, tt));
  hands = λ t. hand_more k w (puts w s e) (more_put w s e) (w.hand t) (K.hands t);
  replies = λ p. every_weaker _ _ (reply_more k w (puts w s e) p (more_put w s e)) (w.replies p).waiting (K.replies p);
}

known_put : (k : Config) (w : World) (p s : ℕ) (c : Job) → Known k w → MayPut k w p s c → Known k (puts w s (Item p c))
known_put k w p s c K may = known_puts k w s (Item p c) K (may.own, record { seat = rw may.own may.seat; mailbox = may.mailbox; shard = s; sent = here })
  where
    here : IsIn c.key (filter_map key_in (((puts w s (Item p c)).lane s).sent c.key.seat))
    here = at_cases (λ l. IsIn c.key (filter_map key_in (l.sent c.key.seat))) w.lane s (put (w.lane s) (Item p c)) s
        (λ _. at_cases (λ es. IsIn c.key (filter_map key_in es)) (w.lane s).sent p ((w.lane s).sent p ++ Item p c ∷ []) c.key.seat
        (λ _. rw (filter_map-append key_in ((w.lane s).sent p) (Item p c ∷ [])) (in_last c.key (filter_map key_in ((w.lane s).sent p))))
        (λ other. absurd (other may.own)))
        (λ other. absurd (other refl))

hand_known : (k : Config) (w : World) (e : Entry Job) → EntryKnown k w e → HandKnown k w (in_hand e)
hand_known k w (Item p c) h = h.1
hand_known k w (End p) h = tt

known_take : (k : Config) (w : World) (s : ℕ) (e : Entry Job) (others : List (Entry Job)) → Known k w → (w.lane s).waiting ≡ e ∷ others → Known k (record w { lane = set_at w.lane s (took (w.lane s) e others); hand = set_at w.hand s (in_hand e) })
known_take k w s e others K front = record {
  lanes = at_each (λ t l. Every (EntryKnown k v) l.waiting) w.lane s (took (w.lane s) e others)
      (λ t. every_weaker _ _ (entry_more k w v more) (w.lane t).waiting (K.lanes t))
      (every_weaker _ _ (entry_more k w v more) others all.1);
  hands = at_each (λ t x. HandKnown k v x) w.hand s (in_hand e) (λ t. hand_more k w v more (w.hand t) (K.hands t)) (hand_known k v e (entry_more k w v more e all.0));
  replies = λ p. every_weaker _ _ (reply_more k w v p more) (w.replies p).waiting (K.replies p);
}
  where
    v : World
    v = record w { lane = set_at w.lane s (took (w.lane s) e others); hand = set_at w.hand s (in_hand e) }

    more : SentMore w v
    more = more_took w s e others (set_at w.hand s (in_hand e))

    all : Every (EntryKnown k w) (e ∷ others)
    all = subst (λ es. Every (EntryKnown k w) es) front (K.lanes s)

-- the hand changes, and mailboxes
known_hand : (k : Config) (w : World) (s : ℕ) (x : Hand) (box : ℕ → Box) → Known k w → HandKnown k w x → Known k (record w { hand = set_at w.hand s x; box = box })
known_hand k w s x box K h = record {
  lanes = λ t. every_weaker _ _ (entry_more k w v (λ t p y i. i)) (w.lane t).waiting (K.lanes t);
  hands = at_each (λ t y. HandKnown k v y) w.hand s x (λ t. hand_more k w v (λ t p y i. i) (w.hand t) (K.hands t)) (hand_more k w v (λ t p y i. i) x h);
  replies = λ p. every_weaker _ _ (reply_more k w v p (λ t p y i. i)) (w.replies p).waiting (K.replies p);
}
  where
    v : World
    v = record w { hand = set_at w.hand s x; box = box }

known_answer : (k : Config) (w : World) (s : ℕ) (r : Noted) → Known k w → w.hand s ≡ Done r → Known k (record w { hand = set_at w.hand s Empty; replies = set_at w.replies r.key.seat (put (w.replies r.key.seat) (Item s r)) })
known_answer k w s r K is = record {
  lanes = λ t. every_weaker _ _ (entry_more k w v (λ t p y i. i)) (w.lane t).waiting (K.lanes t);
  hands = at_each (λ t y. HandKnown k v y) w.hand s Empty (λ t. hand_more k w v (λ t p y i. i) (w.hand t) (K.hands t)) tt;
  replies = at_each (λ p l. Every (ReplyKnown k v p) l.waiting) w.replies r.key.seat (put (w.replies r.key.seat) (Item s r))
      (λ p. every_weaker _ _ (reply_more k w v p (λ t p y i. i)) (w.replies p).waiting (K.replies p))
      (every_append (ReplyKnown k v r.key.seat) (w.replies r.key.seat).waiting (Item s r ∷ []) (every_weaker _ _ (reply_more k w v r.key.seat (λ t p y i. i)) (w.replies r.key.seat).waiting (K.replies r.key.seat))
      ((refl, wanted_more k w v r.key r.mailbox (λ t p y i. i) (subst (HandKnown k w) is (K.hands s))), tt));
}
  where
    v : World
    v = record w { hand = set_at w.hand s Empty; replies = set_at w.replies r.key.seat (put (w.replies r.key.seat) (Item s r)) }

known_hear : (k : Config) (w : World) (p s : ℕ) (r : Noted) (others : List (Entry Noted)) (heard : ℕ → List Noted) → Known k w → (w.replies p).waiting ≡ Item s r ∷ others → Known k (record w { replies = set_at w.replies p (took (w.replies p) (Item s r) others); heard = heard })
known_hear k w p s r others heard K front = record {
  lanes = λ t. every_weaker _ _ (entry_more k w v (λ t p y i. i)) (w.lane t).waiting (K.lanes t);
  hands = λ t. hand_more k w v (λ t p y i. i) (w.hand t) (K.hands t);
  replies = at_each (λ q l. Every (ReplyKnown k v q) l.waiting) w.replies p (took (w.replies p) (Item s r) others)
      (λ q. every_weaker _ _ (reply_more k w v q (λ t p y i. i)) (w.replies q).waiting (K.replies q))
      (every_weaker _ _ (reply_more k w v p (λ t p y i. i)) others all.1);
}
  where
    v : World
    v = record w { replies = set_at w.replies p (took (w.replies p) (Item s r) others); heard = heard }

    all : Every (ReplyKnown k w p) (Item s r ∷ others)
    all = subst (λ es. Every (ReplyKnown k w p) es) front (K.replies p)

-- only what was heard, mailboxes and sessions change
known_rest : (k : Config) (w : World) (heard : ℕ → List Noted) (box : ℕ → Box) (session : ℕ → Option Session) (opened : ℕ → ℕ) → Known k w → Known k (record w { heard = heard; box = box; session = session; opened = opened })
known_rest k w heard box session opened K = record {
  lanes = λ t. every_weaker _ _ (entry_more k w v (λ t p y i. i)) (w.lane t).waiting (K.lanes t);
  hands = λ t. hand_more k w v (λ t p y i. i) (w.hand t) (K.hands t);
  replies = λ p. every_weaker _ _ (reply_more k w v p (λ t p y i. i)) (w.replies p).waiting (K.replies p);
}
  where
    v : World
    v = record w { heard = heard; box = box; session = session; opened = opened }

known_mail : (k : Config) (w : World) (n : ℕ) (s : Session) (a : _) (shown changes : List _) (v : World) → Known k w → MailStep k w n s a shown changes v → Known k v
known_mail k w n s a shown changes v K (mails b i L e) = rw e (known_rest k w _ _ _ _ K)
known_mail k w n s a shown changes v K (mail_lapped i e) = rw e K
known_mail k w n s a shown changes v K (mail_spent i j e) = rw e K
known_mail k w n s a shown changes v K (mail_no_memory h i j e) = rw e K

known_leave : (k : Config) (w : World) (n : ℕ) (s : Session) (changes : List _) (v : World) → Known k w → LeaveStep k w n s changes v → Known k v
known_leave k w n s changes v K (leaves b L e) = rw e (known_rest k w _ _ _ _ K)
known_leave k w n s changes v K (leave_spent i e) = rw e K

pub known_step : (k : Config) (w : World) (e : Event) (v : World) → Known k w → Step k w e v → Known k v
known_step k w (Put p s c) v K (put_joins may live room e) = rw e (known_put k w p s c K may)
known_step k w (Put p s c) v K (put_full may live room e) = rw e (known_rest k w _ _ _ _ K)
known_step k w (Put p s c) v K (put_no_memory may live room e) = rw e (known_rest k w _ _ _ _ K)
known_step k w (Put p s c) v K (put_shut may ended e) = rw e (known_rest k w _ _ _ _ K)
known_step k w (PutEnd p s) v K (end_joins seat shard live room e) = rw e (known_puts k w s (End p) K tt)
known_step k w (PutEnd p s) v K (end_full seat shard live room e) = rw e K
known_step k w (Take s) v K (takes x others empty front e) = rw e (known_take k w s x others K front)
known_step k w (Take s) v K (take_empty empty front e) = rw e K
known_step k w (Deliver s) v K (delivers c b was uid room L e) = rw e (known_hand k w s _ _ K (subst (HandKnown k w) was (K.hands s)))
known_step k w (Deliver s) v K (deliver_spent c was h e) = rw e (known_hand k w s _ _ K (subst (HandKnown k w) was (K.hands s)))
known_step k w (Deliver s) v K (deliver_full c was h i e) = rw e (known_hand k w s _ _ K (subst (HandKnown k w) was (K.hands s)))
known_step k w (Deliver s) v K (deliver_no_memory c was h i e) = rw e (known_hand k w s _ _ K (subst (HandKnown k w) was (K.hands s)))
known_step k w (Answer s) v K (answers r was room e) = rw e (known_answer k w s r K was)
known_step k w (Answer s) v K (answer_full r was room e) = rw e K
known_step k w (Hear p) v K (hears_one s r others front e) = rw e (known_hear k w p s r others _ K front)
known_step k w (Enter n m) v K (enters a b c d e) = rw e (known_rest k w _ _ _ _ K)
known_step k w (Enter n m) v K (enter_spent a b c d e) = rw e K
known_step k w (Enter n m) v K (enter_no_memory a b c d e) = rw e K
known_step k w (Status m) v K e = rw e K
known_step k w (Read n u mark) v K (s, is, step) = known_mail k w n s _ _ _ v K step
known_step k w (Store n u op) v K (s, is, step) = known_mail k w n s _ _ _ v K step
known_step k w (Expunge n may_go) v K (s, is, step) = known_mail k w n s _ _ _ v K step
known_step k w (Feed n limit) v K (s, is, step) = known_mail k w n s _ _ _ v K step
known_step k w (Leave n removing) v K (s, is, step) = known_leave k w n s _ v K step
known_step k w (Discard m goes) v K (discards_them b there L e) = rw e (known_rest k w _ _ _ _ K)
known_step k w (Discard m goes) v K (discard_spent there h e) = rw e K

pub known_steps : (k : Config) (w : World) (es : List Event) (v : World) → Known k w → Steps k w es v → Known k v
known_steps k w [] v K e = rw e K
known_steps k w (x ∷ es) v K (u, first, others) = known_steps k u es v (known_step k w x u K first) others

pub known_always : (k : Config) (events : List Event) (w : World) → IsWorld k events w → Known k w
known_always k events w h = known_steps k empty_world events w (record { lanes = λ s. tt; hands = λ s. tt; replies = λ p. tt }) h
