-- What a session's calls do to lanes and to what was heard, where it speaks IMAP: nothing.
use Rattle.std.proofs.Common.{◌≡◌, ℕ, refl, ap, ◌∙◌, Some, []}
use Rattle.mailbox.specs.Events.{in_set}
use Rattle.mailbox.specs.declared.clients.MailFault.{MailFault}
use Rattle.mailbox.specs.declared.clients.MailFault.TheVariants.{Stranger, Lapped, Spent, NoMemory}
use Rattle.world.specs.World as world
use Rattle.world.specs.World.{Config, World, Event, Put, PutEnd, Take, Deliver, Answer, Hear, Enter, Status, Read, Store, Expunge, Feed, Leave, Discard, Step, discard_spent, discards_them, enter_no_memory, enter_spent, enters, leave_spent, leaves, mail_lapped, mail_no_memory, mail_spent, mails}
use Rattle.imap_session.specs.Exchange as calls
use Rattle.imap_session.specs.Exchange.{Call, Look, Read as ReadCall, Count, Alter, Expunge as ExpungeCall, Feed as FeedCall, Leave as LeaveCall, Discard as DiscardCall, Enter as EnterCall, Entered, Looked, Found, Counted, Altered, Expunged, Fed, Left, Discarded, Refused}
use Rattle.house.specs.Meets.{Meets, IsRefused, IsTurnedAway}
use Rattle.imap_session.proofs.Carried.{Carries, converses_carried, turns_carried, verdict_carried}
use Rattle.laws_relay.specs.RecordLaws.{AreStill, IsStill, imap_sessions}

-- ---- steps

pub same_world : (w v : World) → v ≡ w → IsStill w v
same_world w v e = (ap (λ (x : World). x.lane) e, ap (λ (x : World). x.heard) e)

pub still_then : (w u v : World) → IsStill w u → IsStill u v → IsStill w v
still_then w u v a b = (b.0 ∙ a.0, b.1 ∙ a.1)

-- an event of a mailbox
abbrev IsOfMail : Event → Type 0
IsOfMail (Put p s c) = ⊥
IsOfMail (PutEnd p s) = ⊥
IsOfMail (Take s) = ⊥
IsOfMail (Deliver s) = ⊥
IsOfMail (Answer s) = ⊥
IsOfMail (Hear p) = ⊥
IsOfMail event = Unit {0}

still_step : (k : Config) (w : World) (e : Event) (v : World) → IsOfMail e → Step k w e v → IsStill w v
still_step k w (Put p s c) v h step = absurd h
still_step k w (PutEnd p s) v h step = absurd h
still_step k w (Take s) v h step = absurd h
still_step k w (Deliver s) v h step = absurd h
still_step k w (Answer s) v h step = absurd h
still_step k w (Hear p) v h step = absurd h
still_step k w (Enter n m) v h (enters there mailbox free more e) = rw e (refl, refl)
still_step k w (Enter n m) v h (enter_spent there mailbox free more e) = rw e (refl, refl)
still_step k w (Enter n m) v h (enter_no_memory there mailbox free more e) = rw e (refl, refl)
still_step k w (Status m) v h e = rw e (refl, refl)
still_step k w (Read n u mark) v h (x, there, mails b base logs e) = rw e (refl, refl)
still_step k w (Read n u mark) v h (x, there, mail_lapped lapped e) = rw e (refl, refl)
still_step k w (Read n u mark) v h (x, there, mail_spent base spent e) = rw e (refl, refl)
still_step k w (Read n u mark) v h (x, there, mail_no_memory allocates base room e) = rw e (refl, refl)
still_step k w (Store n u op) v h (x, there, mails b base logs e) = rw e (refl, refl)
still_step k w (Store n u op) v h (x, there, mail_lapped lapped e) = rw e (refl, refl)
still_step k w (Store n u op) v h (x, there, mail_spent base spent e) = rw e (refl, refl)
still_step k w (Store n u op) v h (x, there, mail_no_memory allocates base room e) = rw e (refl, refl)
still_step k w (Expunge n may_go) v h (x, there, mails b base logs e) = rw e (refl, refl)
still_step k w (Expunge n may_go) v h (x, there, mail_lapped lapped e) = rw e (refl, refl)
still_step k w (Expunge n may_go) v h (x, there, mail_spent base spent e) = rw e (refl, refl)
still_step k w (Expunge n may_go) v h (x, there, mail_no_memory allocates base room e) = rw e (refl, refl)
still_step k w (Feed n limit) v h (x, there, mails b base logs e) = rw e (refl, refl)
still_step k w (Feed n limit) v h (x, there, mail_lapped lapped e) = rw e (refl, refl)
still_step k w (Feed n limit) v h (x, there, mail_spent base spent e) = rw e (refl, refl)
still_step k w (Feed n limit) v h (x, there, mail_no_memory allocates base room e) = rw e (refl, refl)
still_step k w (Leave n removing) v h (x, there, leaves b logs e) = rw e (refl, refl)
still_step k w (Leave n removing) v h (x, there, leave_spent spent e) = rw e (refl, refl)
still_step k w (Discard m goes) v h (discards_them b there logs e) = rw e (refl, refl)
still_step k w (Discard m goes) v h (discard_spent there spent e) = rw e (refl, refl)

-- ---- calls

was_refused : (k : Config) (n : ℕ) (w : World) (fault : MailFault) (why : Type 0) (v : World) → IsRefused n w fault why v → IsStill w v
was_refused k n w Stranger why v m = same_world w v m.0
was_refused k n w Lapped why v m = same_world w v m.0
was_refused k n w Spent why v m = same_world w v m.0
was_refused k n w NoMemory why v m = same_world w v m.0

turned_away : (k : Config) (n m : ℕ) (w : World) (fault : MailFault) (v : World) → IsTurnedAway k n m w fault v → IsStill w v
turned_away k n m w Stranger v t = same_world w v t.1
turned_away k n m w Lapped v t = absurd t
turned_away k n m w Spent v t = same_world w v t.1
turned_away k n m w NoMemory v t = same_world w v t.1

pub meets_still : (k : Config) (n : ℕ) (w : World) (call : Call) (answer : calls.Answer) (v : World) → Meets k n w call answer v → IsStill w v
meets_still k n w (EnterCall i) (Entered opening) v m = still_step k w (world.Enter n i) v tt m.0
meets_still k n w (EnterCall i) (Refused fault) v m = turned_away k n i w fault v m
meets_still k n w (Look by_uid set) (Looked view) v m = same_world w v m.0
meets_still k n w (Look by_uid set) (Refused fault) v m = was_refused k n w fault _ v m
meets_still k n w (ReadCall uid mark) (Found row) v m = still_step k w (world.Read n uid mark) v tt m.0
meets_still k n w (ReadCall uid mark) (Refused fault) v m = was_refused k n w fault _ v m
meets_still k n w (Count i) (Counted status) v m = same_world w v m.0
meets_still k n w (Count i) (Refused fault) v m = same_world w v m.0
meets_still k n w (Alter uid op) (Altered flags) v m = still_step k w (world.Store n uid op) v tt m.0
meets_still k n w (Alter uid op) (Refused fault) v m = was_refused k n w fault _ v m
meets_still k n w (ExpungeCall uids) (Expunged view changes gone) v m = still_step k w (world.Expunge n (in_set uids)) v tt m.0
meets_still k n w (ExpungeCall uids) (Refused fault) v m = was_refused k n w fault _ v m
meets_still k n w (FeedCall limit) (Fed view changes) v m = still_step k w (world.Feed n limit) v tt m.0
meets_still k n w (FeedCall limit) (Refused fault) v m = was_refused k n w fault _ v m
meets_still k n w (LeaveCall remove) (Left gone) v m = still_step k w (world.Leave n remove) v tt m.0.0
meets_still k n w (LeaveCall remove) (Refused fault) v m = was_refused k n w fault _ v m
meets_still k n w (DiscardCall i uids) Discarded v m = still_step k w (world.Discard i (in_set (Some uids))) v tt (discards_them m.mailbox m.there m.logs m.made)
meets_still k n w (DiscardCall i uids) (Refused fault) v m = same_world w v m.0
meets_still k n w _ _ v m = absurd m

-- ---- what is said over them

each_still : (k : Config) (n : ℕ) (w : World) → Carries {S = World} {T = Unit {0}} (Meets k n) (λ a call answer b. Unit {0}) (λ v x. IsStill w v)
each_still k n w old new call answer x step before = (tt, tt, still_then w old new before (meets_still k n old call answer new step))

pub imap_is_still : AreStill imap_sessions
imap_is_still = record {
  meets = meets_still;
  answers = λ k n at next waits still said w v a. (converses_carried {S = World} {T = Unit {0}} (Meets k n) (λ a call answer b. Unit {0}) (λ v x. IsStill w v) (each_still k n w) at a.sent w v said a.how next tt a.converses (refl, refl)).2;
  hears = λ k n at next verdict how said w v a. (verdict_carried {S = World} {T = Unit {0}} (Meets k n) (λ a call answer b. Unit {0}) (λ v x. IsStill w v) (each_still k n w) at verdict w v [] said how next tt a (refl, refl)).2;
  idles = λ k n at next shown said w v a. (turns_carried {S = World} {T = Unit {0}} (Meets k n) (λ a call answer b. Unit {0}) (λ v x. IsStill w v) (each_still k n w) at w v [] said shown next tt a (refl, refl)).2;
}
