-- What a session counts, in every world: it can be printed, and what others do leaves it as it was.
use Rattle.std.proofs.Common.{◌≡◌, ◌≢◌, ℕ, ◌≤◌, List, [], ◌++◌, length, take, drop, refl, sym, subst, ap, ◌∙◌, arith, length-append, append-nil}
use Rattle.std.specs.Prelude.{Option, Some, None}
use Rattle.std.proofs.lemmas.List.{take-append-drop}
use Rattle.std.proofs.lemmas.List.FromFn.{length-range_with_len}
use Rattle.shard_queue.proofs.AtLaws.{at_cases}
use Rattle.change_ring.specs.declared.change.Change.{Change}
use Rattle.change_ring.specs.Log.{added, view_at}
use Rattle.change_ring.proofs.LogLaws.{added-append}
use Rattle.world.specs.World.{Config, World, Box, Session, Event, Put, PutEnd, Take, Deliver, Answer, Hear, Enter, Status, Read, Store, Expunge, Feed, Leave, Step, IsWorld, put_joins, put_full, put_no_memory, put_shut, end_joins, end_full, takes, take_empty, delivers, deliver_spent, deliver_full, deliver_no_memory, answers, answer_full, hears_one, enters, enter_spent, enter_no_memory, MailStep, mails, mail_lapped, mail_spent, mail_no_memory, LeaveStep, leaves, leave_spent, last_uid, Discard, discards_them, discard_spent}
use Rattle.world.proofs.Kept.{Kept, SessionOk}
use Rattle.world.proofs.Always.{kept_always}
use Rattle.laws_client.specs.Fetches.{AreSmall, IsNumbered}
use Rattle.laws_client.specs.HouseClients.{HasSmallNumbers}
use Rattle.laws_client.specs.Views.{view_in, view_of}
use Rattle.laws_client.specs.HouseClients.{IsOfOthers}
use Rattle.laws_client.specs.RecordLaws.{OthersLeaveViews, ViewsAreNumbered}
use Rattle.laws_client.proofs.Boxes.{Goes, unmoved, logged, arrived, IsSmall, box_goes, small_always}
use Rattle.laws_client.proofs.Logs.{length_replay, small_front, small_range, small_replay, view_stays}

pub record Sound (k : Config) (w : World) : Type 0 where
  pub kept : Kept k w
  pub small : (m : ℕ) → IsSmall k (w.box m)

pub sound_always : (k : Config) (events : List Event) (w : World) → HasSmallNumbers k → IsWorld k events w → Sound k w
sound_always k events w h is = record { kept = kept_always k events w is; small = small_always k events w h is }

pub added_small : (k : Config) (w : World) → Sound k w → (m : ℕ) → AreSmall (added (w.box m).log)
added_small k w S m = rw (S.kept.boxes m).counted (small_range k.first_uid (length (w.box m).accepted) (omega (arith, (S.small m).next)))

pub added_few : (k : Config) (w : World) → Sound k w → (m : ℕ) → length (added (w.box m).log) ≤ last_uid
added_few k w S m = rw ((S.kept.boxes m).counted, length-range_with_len k.first_uid (length (w.box m).accepted)) (omega (arith, (S.small m).next))

-- up to any position
pub numbered_at : (log : List Change) (c : ℕ) → AreSmall (added log) → length (added log) ≤ last_uid → IsNumbered (view_at log c)
numbered_at log c small few =
    let parts : added log ≡ added (take c log) ++ added (drop c log) = ap added (sym (take-append-drop c log)) ∙ added-append (take c log) (drop c log) in
    let front : AreSmall (added (take c log)) = small_front (added (take c log)) (added (drop c log)) (subst AreSmall parts small) in record {
      few = omega (arith, few, ap length parts, length-append (added (take c log)) (added (drop c log)), length_replay [] (take c log));
      small = small_replay [] (take c log) tt front;
    }

pub numbered_view : (k : Config) (w : World) (n : ℕ) → Sound k w → IsNumbered (view_of w n)
numbered_view k w n S = by (w.session n)
  where
    by : (o : Option Session) → IsNumbered (view_in w o)
    by None = record { few = omega arith; small = tt }
    by (Some s) = numbered_at (w.box s.mailbox).log s.cursor (added_small k w S s.mailbox) (added_few k w S s.mailbox)

pub views_are_numbered : ViewsAreNumbered
views_are_numbered k events w n h is = numbered_view k w n (sound_always k events w h is)

-- ---- a mailbox grows

pub record Grows (old new : Box) : Type 0 where
  pub changes : List Change
  pub log : new.log ≡ old.log ++ changes

pub goes_grows : (k : Config) (old new : Box) → Goes k old new → Grows old new
goes_grows k old new (unmoved e) = record { changes = []; log = rw e (sym (append-nil old.log)) }
goes_grows k old new (logged changes L) = record { changes = changes; log = L.log }
goes_grows k old new (arrived changes c room L) = record { changes = changes; log = L.log }

-- what a session counts stays where it is the same session, and logs have grown
pub view_kept : (k : Config) (w v : World) (n : ℕ) → Kept k w → v.session n ≡ w.session n → ((m : ℕ) → Grows (w.box m) (v.box m)) → view_of v n ≡ view_of w n
view_kept k w v n K stays grows = ap (view_in v) stays ∙ by (w.session n) (K.sessions n)
  where
    by : (o : Option Session) → SessionOk w.box o → view_in v o ≡ view_in w o
    by None ok = refl
    by (Some s) ok =
        let g = grows s.mailbox in
        ap (λ log. view_at log s.cursor) g.log ∙ view_stays s.cursor (w.box s.mailbox).log g.changes ok.within

mail_others : (k : Config) (w : World) (n : ℕ) (s : Session) (a : _) (shown changes : List Change) (v : World) (j : ℕ) → j ≢ n → MailStep k w n s a shown changes v → v.session j ≡ w.session j
mail_others k w n s a shown changes v j o (mails b i L e) = rw e (at_cases (λ x. x ≡ w.session j) w.session n _ j (λ is. absurd (o is)) (λ _. refl))
mail_others k w n s a shown changes v j o (mail_lapped i e) = rw e refl
mail_others k w n s a shown changes v j o (mail_spent i h e) = rw e refl
mail_others k w n s a shown changes v j o (mail_no_memory h i l e) = rw e refl

leave_others : (k : Config) (w : World) (n : ℕ) (s : Session) (changes : List Change) (v : World) (j : ℕ) → j ≢ n → LeaveStep k w n s changes v → v.session j ≡ w.session j
leave_others k w n s changes v j o (leaves b L e) = rw e (at_cases (λ x. x ≡ w.session j) w.session n _ j (λ is. absurd (o is)) (λ _. refl))
leave_others k w n s changes v j o (leave_spent i e) = rw e refl

pub session_stays : (k : Config) (w : World) (e : Event) (v : World) (j : ℕ) → IsOfOthers j e → Step k w e v → v.session j ≡ w.session j
session_stays k w (Put q s c) v j o (put_joins may live room e) = rw e refl
session_stays k w (Put q s c) v j o (put_full may live room e) = rw e refl
session_stays k w (Put q s c) v j o (put_no_memory may live room e) = rw e refl
session_stays k w (Put q s c) v j o (put_shut may ended e) = rw e refl
session_stays k w (PutEnd q s) v j o (end_joins seat shard live room e) = rw e refl
session_stays k w (PutEnd q s) v j o (end_full seat shard live room e) = rw e refl
session_stays k w (Take s) v j o (takes x others empty front e) = rw e refl
session_stays k w (Take s) v j o (take_empty empty front e) = rw e refl
session_stays k w (Deliver s) v j o (delivers c b was uid room L e) = rw e refl
session_stays k w (Deliver s) v j o (deliver_spent c was h e) = rw e refl
session_stays k w (Deliver s) v j o (deliver_full c was h i e) = rw e refl
session_stays k w (Deliver s) v j o (deliver_no_memory c was h i e) = rw e refl
session_stays k w (Answer s) v j o (answers r was room e) = rw e refl
session_stays k w (Answer s) v j o (answer_full r was room e) = rw e refl
session_stays k w (Hear q) v j o (hears_one s r others front e) = rw e refl
session_stays k w (Enter n i) v j o (enters a b c d e) = rw e (at_cases (λ x. x ≡ w.session j) w.session n _ j (λ is. absurd (o is)) (λ _. refl))
session_stays k w (Enter n i) v j o (enter_spent a b c d e) = rw e refl
session_stays k w (Enter n i) v j o (enter_no_memory a b c d e) = rw e refl
session_stays k w (Status i) v j o e = rw e refl
session_stays k w (Read n u mark) v j o (s, is, step) = mail_others k w n s _ _ _ v j o step
session_stays k w (Store n u op) v j o (s, is, step) = mail_others k w n s _ _ _ v j o step
session_stays k w (Expunge n may_go) v j o (s, is, step) = mail_others k w n s _ _ _ v j o step
session_stays k w (Feed n limit) v j o (s, is, step) = mail_others k w n s _ _ _ v j o step
session_stays k w (Leave n removing) v j o (s, is, step) = leave_others k w n s _ v j o step
session_stays k w (Discard m goes) v j o (discards_them b there logs e) = rw e refl
session_stays k w (Discard m goes) v j o (discard_spent there spent e) = rw e refl

pub others_leave_views : OthersLeaveViews
others_leave_views k events w e v n is step o =
    view_kept k w v n (kept_always k events w is) (session_stays k w e v n o step) (λ m. goes_grows k (w.box m) (v.box m) (box_goes k w e v m step))
