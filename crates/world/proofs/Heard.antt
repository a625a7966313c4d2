-- Only a seat's own Put and Hear change what it has heard.
use Rattle.std.proofs.Common.{◌≡◌, ◌≢◌, ℕ, List, refl}
use Rattle.shard_queue.proofs.AtLaws.{at_cases}
use Rattle.world.specs.World.{Config, World, Session, Event, Put, PutEnd, Take, Deliver, Answer, Hear, Enter, Status, Read, Store, Expunge, Feed, Leave, Discard, Step, put_joins, put_full, put_no_memory, put_shut, end_joins, end_full, takes, take_empty, delivers, deliver_spent, deliver_full, deliver_no_memory, answers, answer_full, hears_one, enters, enter_spent, enter_no_memory, MailStep, mails, mail_lapped, mail_spent, mail_no_memory, leaves, leave_spent, discards_them, discard_spent}

-- the event is no Put and no Hear of seat p
abbrev pub IsOfOthers : ℕ → Event → Type 0
IsOfOthers p (Put q s c) = p ≢ q
IsOfOthers p (Hear q) = p ≢ q
IsOfOthers p _ = Unit {0}

mail_heard : (k : Config) (w : World) (n : ℕ) (s : Session) (a : _) (shown changes : List _) (v : World) (p : ℕ) → MailStep k w n s a shown changes v → v.heard p ≡ w.heard p
mail_heard k w n s a shown changes v p (mails b i L e) = rw e refl
mail_heard k w n s a shown changes v p (mail_lapped i e) = rw e refl
mail_heard k w n s a shown changes v p (mail_spent i j e) = rw e refl
mail_heard k w n s a shown changes v p (mail_no_memory h i j e) = rw e refl

pub heard_stays : (k : Config) (w : World) (e : Event) (v : World) (p : ℕ) → IsOfOthers p e → Step k w e v → v.heard p ≡ w.heard p
heard_stays k w (Put q s c) v p o (put_joins may live room e) = rw e refl
heard_stays k w (Put q s c) v p o (put_full may live room e) = rw e (at_cases (λ rs. rs ≡ w.heard p) w.heard q _ p (λ same. absurd (o same)) (λ _. refl))
heard_stays k w (Put q s c) v p o (put_no_memory may live room e) = rw e (at_cases (λ rs. rs ≡ w.heard p) w.heard q _ p (λ same. absurd (o same)) (λ _. refl))
heard_stays k w (Put q s c) v p o (put_shut may ended e) = rw e (at_cases (λ rs. rs ≡ w.heard p) w.heard q _ p (λ same. absurd (o same)) (λ _. refl))
heard_stays k w (PutEnd q s) v p o (end_joins seat shard live room e) = rw e refl
heard_stays k w (PutEnd q s) v p o (end_full seat shard live room e) = rw e refl
heard_stays k w (Take s) v p o (takes x others empty front e) = rw e refl
heard_stays k w (Take s) v p o (take_empty empty front e) = rw e refl
heard_stays k w (Deliver s) v p o (delivers c b was uid room L e) = rw e refl
heard_stays k w (Deliver s) v p o (deliver_spent c was h e) = rw e refl
heard_stays k w (Deliver s) v p o (deliver_full c was h i e) = rw e refl
heard_stays k w (Deliver s) v p o (deliver_no_memory c was h i e) = rw e refl
heard_stays k w (Answer s) v p o (answers r was room e) = rw e refl
heard_stays k w (Answer s) v p o (answer_full r was room e) = rw e refl
heard_stays k w (Hear q) v p o (hears_one s r others front e) = rw e (at_cases (λ rs. rs ≡ w.heard p) w.heard q _ p (λ same. absurd (o same)) (λ _. refl))
heard_stays k w (Enter n m) v p o (enters a b c d e) = rw e refl
heard_stays k w (Enter n m) v p o (enter_spent a b c d e) = rw e refl
heard_stays k w (Enter n m) v p o (enter_no_memory a b c d e) = rw e refl
heard_stays k w (Status m) v p o e = rw e refl
heard_stays k w (Read n u mark) v p o (s, is, step) = mail_heard k w n s _ _ _ v p step
heard_stays k w (Store n u op) v p o (s, is, step) = mail_heard k w n s _ _ _ v p step
heard_stays k w (Expunge n may_go) v p o (s, is, step) = mail_heard k w n s _ _ _ v p step
heard_stays k w (Feed n limit) v p o (s, is, step) = mail_heard k w n s _ _ _ v p step
heard_stays k w (Leave n removing) v p o (s, is, leaves b L e) = rw e refl
heard_stays k w (Leave n removing) v p o (s, is, leave_spent i e) = rw e refl
heard_stays k w (Discard m goes) v p o (discards_them b there L e) = rw e refl
heard_stays k w (Discard m goes) v p o (discard_spent there h e) = rw e refl
