-- Texts that are put stay as long as they are: of lanes, hands and mailboxes.
use Rattle.std.proofs.Common.{◌≡◌, ℕ, ◌<◌, ◌^◌, List, [], ◌∷◌, length, sym, subst}
use Rattle.shard_queue.specs.Lane.{set_at, Lane, put, took}
use Rattle.shard_queue.proofs.AtLaws.{at_each}
use Rattle.shard_queue.specs.declared.lane.Entry.{Entry}
use Rattle.shard_queue.specs.declared.lane.Entry.TheVariants.{Item, End}
use Rattle.delivery_token.specs.declared.Job.{Job}
use Rattle.delivery_token.specs.Text.{Text}
use Rattle.world.specs.declared.hand.Hand.{Hand}
use Rattle.world.specs.declared.hand.Hand.TheVariants.{Empty, Taken, Done}
use Rattle.world.specs.World.{Config, World, Box, Session, Event, Put, PutEnd, Take, Deliver, Answer, Hear, Enter, Status, Read, Store, Expunge, Feed, Leave, Step, put_joins, put_full, put_no_memory, put_shut, end_joins, end_full, takes, take_empty, delivers, deliver_spent, deliver_full, deliver_no_memory, answers, answer_full, hears_one, enters, enter_spent, enter_no_memory, MailStep, mails, mail_lapped, mail_spent, mail_no_memory, LeaveStep, leaves, leave_spent, Logs, in_hand, empty_world, puts, Discard, discards_them, discard_spent}
use Rattle.world.proofs.Base.{Every, all_of_every, every_append}
use Rattle.laws_client.specs.Sizes.{HasShortTexts}

-- a length of 32 bits
abbrev pub IsShort : Text → Type 0
IsShort text = length text.bytes < 2 ^ 32

abbrev pub IsJobShort : Job → Type 0
IsJobShort c = IsShort c.text

abbrev pub IsEntryShort : Entry Job → Type 0
IsEntryShort (Item p c) = IsJobShort c
IsEntryShort (End p) = Unit {0}

abbrev pub IsHandShort : Hand → Type 0
IsHandShort Empty = Unit {0}
IsHandShort (Taken c) = IsJobShort c
IsHandShort (Done r) = Unit {0}

abbrev pub IsCopyShort : Job × ℕ → Type 0
IsCopyShort a = IsShort a.0.text

pub record AreShort (w : World) : Type 0 where
  pub lanes : (s : ℕ) → Every IsEntryShort (w.lane s).waiting
  pub hands : (s : ℕ) → IsHandShort (w.hand s)
  pub boxes : (m : ℕ) → Every IsCopyShort (w.box m).accepted

pub short_empty : AreShort empty_world
short_empty = record { lanes = λ s. tt; hands = λ s. tt; boxes = λ m. tt }

pub has_short : (w : World) → AreShort w → HasShortTexts w
has_short w S m = all_of_every IsCopyShort (w.box m).accepted (S.boxes m)

-- the event puts no text that is too long
abbrev pub PutsShort : Event → Type 0
PutsShort (Put p s c) = IsJobShort c
PutsShort event = Unit {0}

entry_put : (w : World) (s : ℕ) (e : Entry Job) → AreShort w → IsEntryShort e → AreShort (puts w s e)
entry_put w s e S short = record {
  lanes = at_each (λ j (l : Lane Job). Every IsEntryShort l.waiting) w.lane s (put (w.lane s) e) S.lanes (every_append IsEntryShort (w.lane s).waiting (e ∷ []) (S.lanes s) (short, tt));
  hands = S.hands;
  boxes = S.boxes;
}

hand_short : (e : Entry Job) → IsEntryShort e → IsHandShort (in_hand e)
hand_short (Item p c) h = h
hand_short (End p) h = tt

logs_short : (k : Config) (old new : Box) (changes : List _) (copies : List (Job × ℕ)) → Logs k old changes copies new → Every IsCopyShort old.accepted → Every IsCopyShort copies → Every IsCopyShort new.accepted
logs_short k old new changes copies L h c = subst (λ (xs : List (Job × ℕ)). Every IsCopyShort xs) (sym L.accepted) (every_append IsCopyShort old.accepted copies h c)

mail_short : (k : Config) (w : World) (n : ℕ) (s : Session) (a : _) (shown changes : List _) (v : World) → AreShort w → MailStep k w n s a shown changes v → AreShort v
mail_short k w n s a shown changes v S (mails b i L e) = rw e (record {
  lanes = S.lanes;
  hands = S.hands;
  boxes = at_each (λ j (x : Box). Every IsCopyShort x.accepted) w.box s.mailbox b S.boxes (logs_short k (w.box s.mailbox) b changes [] L (S.boxes s.mailbox) tt);
})
mail_short k w n s a shown changes v S (mail_lapped i e) = rw e S
mail_short k w n s a shown changes v S (mail_spent i j e) = rw e S
mail_short k w n s a shown changes v S (mail_no_memory h i j e) = rw e S

leave_short : (k : Config) (w : World) (n : ℕ) (s : Session) (changes : List _) (v : World) → AreShort w → LeaveStep k w n s changes v → AreShort v
leave_short k w n s changes v S (leaves b L e) = rw e (record {
  lanes = S.lanes;
  hands = S.hands;
  boxes = at_each (λ j (x : Box). Every IsCopyShort x.accepted) w.box s.mailbox b S.boxes (logs_short k (w.box s.mailbox) b changes [] L (S.boxes s.mailbox) tt);
})
leave_short k w n s changes v S (leave_spent i e) = rw e S

taken_short : (w : World) (s : ℕ) → AreShort w → (c : Job) → w.hand s ≡ Taken c → IsJobShort c
taken_short w s S c e = subst IsHandShort e (S.hands s)

-- a hand that holds a verdict, or nothing
hand_set : (w : World) (s : ℕ) (h : Hand) → AreShort w → IsHandShort h → (j : ℕ) → IsHandShort (set_at w.hand s h j)
hand_set w s h S short = at_each (λ j (x : Hand). IsHandShort x) w.hand s h S.hands short

pub short_step : (k : Config) (w : World) (e : Event) (v : World) → AreShort w → PutsShort e → Step k w e v → AreShort v
short_step k w (Put p s c) v S h (put_joins may live room e) = rw e (entry_put w s (Item p c) S h)
short_step k w (Put p s c) v S h (put_full may live room e) = rw e (record { lanes = S.lanes; hands = S.hands; boxes = S.boxes })
short_step k w (Put p s c) v S h (put_no_memory may live room e) = rw e (record { lanes = S.lanes; hands = S.hands; boxes = S.boxes })
short_step k w (Put p s c) v S h (put_shut may ended e) = rw e (record { lanes = S.lanes; hands = S.hands; boxes = S.boxes })
short_step k w (PutEnd p s) v S h (end_joins seat shard live room e) = rw e (entry_put w s (End p) S tt)
short_step k w (PutEnd p s) v S h (end_full seat shard live room e) = rw e S
short_step k w (Take s) v S h (takes x more empty front e) =
    let all : Every IsEntryShort (x ∷ more) = subst (λ (xs : List (Entry Job)). Every IsEntryShort xs) front (S.lanes s) in
    rw e (record {
      lanes = at_each (λ j (l : Lane Job). Every IsEntryShort l.waiting) w.lane s (took (w.lane s) x more) S.lanes all.1;
      hands = hand_set w s (in_hand x) S (hand_short x all.0);
      boxes = S.boxes;
    })
short_step k w (Take s) v S h (take_empty empty front e) = rw e S
short_step k w (Deliver s) v S h (delivers c b was uid room L e) = rw e (record {
  lanes = S.lanes;
  hands = hand_set w s _ S tt;
  boxes = at_each (λ j (x : Box). Every IsCopyShort x.accepted) w.box c.mailbox b S.boxes (logs_short k (w.box c.mailbox) b _ _ L (S.boxes c.mailbox) (taken_short w s S c was, tt));
})
short_step k w (Deliver s) v S h (deliver_spent c was i e) = rw e (record { lanes = S.lanes; hands = hand_set w s _ S tt; boxes = S.boxes })
short_step k w (Deliver s) v S h (deliver_full c was i j e) = rw e (record { lanes = S.lanes; hands = hand_set w s _ S tt; boxes = S.boxes })
short_step k w (Deliver s) v S h (deliver_no_memory c was i j e) = rw e (record { lanes = S.lanes; hands = hand_set w s _ S tt; boxes = S.boxes })
short_step k w (Answer s) v S h (answers r was room e) = rw e (record { lanes = S.lanes; hands = hand_set w s Empty S tt; boxes = S.boxes })
short_step k w (Answer s) v S h (answer_full r was room e) = rw e S
short_step k w (Hear q) v S h (hears_one s r more front e) = rw e (record { lanes = S.lanes; hands = S.hands; boxes = S.boxes })
short_step k w (Enter n i) v S h (enters a b c d e) = rw e (record { lanes = S.lanes; hands = S.hands; boxes = S.boxes })
short_step k w (Enter n i) v S h (enter_spent a b c d e) = rw e S
short_step k w (Enter n i) v S h (enter_no_memory a b c d e) = rw e S
short_step k w (Status i) v S h e = rw e S
short_step k w (Read n u mark) v S h (s, is, step) = mail_short k w n s _ _ _ v S step
short_step k w (Store n u op) v S h (s, is, step) = mail_short k w n s _ _ _ v S step
short_step k w (Expunge n may_go) v S h (s, is, step) = mail_short k w n s _ _ _ v S step
short_step k w (Feed n limit) v S h (s, is, step) = mail_short k w n s _ _ _ v S step
short_step k w (Leave n removing) v S h (s, is, step) = leave_short k w n s _ v S step
short_step k w (Discard m goes) v S h (discards_them b there L e) = rw e (record {
  lanes = S.lanes;
  hands = S.hands;
  boxes = at_each (λ j (x : Box). Every IsCopyShort x.accepted) w.box m b S.boxes (logs_short k (w.box m) b _ [] L (S.boxes m) tt);
})
short_step k w (Discard m goes) v S h (discard_spent there spent e) = rw e S
