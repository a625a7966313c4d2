-- A session's call is an event of the world.
use Rattle.std.proofs.Common.{◌≡◌, ℕ, zero, suc, ◌+◌, ◌<◌, ◌≤◌, Bool, true, false, List, [], ◌∷◌, length, set, get_or, refl, sym, ap, ◌∙◌, arith, subst, length-set, Option, Some, None, IsSome, is_some}
use Rattle.std.specs.Prelude.{option_map}
use Rattle.change_ring.specs.declared.change.Change.{Change}
use Rattle.cursor_set.specs.Cursors.{CursorSet, Open, CursorHandle, Updates, after_showing, held, in_slot}
use Rattle.mailbox.specs.Mailbox.{Mailbox}
use Rattle.shard_queue.specs.Lane.{set_at}
use Rattle.world.specs.World.{Config, World, Box, Session, Event, Step, Logs, MailStep, mails, mail_lapped, mail_spent, mail_no_memory, Selected, shows, most_changes}
use Rattle.world.specs.Law.{IsShown}
use Rattle.world.proofs.Kept.{BoxOk, Kept, SessionOk}
use Rattle.world.proofs.Always.{kept_always}
use Rattle.delivery_core.specs.declared.client.Client.{Client}
use Rattle.delivery_core.specs.Clients.{Done, Makes}
use Rattle.delivery_core.specs.DeliveryCore.{DeliveryCore}
use Rattle.delivery_core.specs.Attached.{AreAttached, client_at, cursors_at, cursors_of}
use Rattle.delivery_core.specs.Stands.{EachAt, Reached, StandsFor, StandsForBox, StandsForClient, StandsForPlace}
use Rattle.delivery_core.proofs.Follow.{each_here, each_set, next_same, reached_step, get_or-any, set_back}
use Rattle.delivery_core.proofs.AttachedLaws.{SameElsewhere, HasSlot, held_shown, some_of, cursors_get, cursors_same, cursors_set, length_cursors, own_slot, place_within, attached_after}

-- ---- the client and its session

pub session_of : (c : Client) (x : Option Session) → StandsForPlace (Some c) x → (s : Session) × (x ≡ Some s) × StandsForClient c s
session_of c None h = absurd h
session_of c (Some s) h = (s, refl, h)

pub session_at : (k : Config) (w : World) (old : DeliveryCore) (n : ℕ) (c : Client) → StandsFor k old w → client_at old.clients n ≡ Some c → (s : Session) × (w.session n ≡ Some s) × StandsForClient c s
session_at k w old n c S e = session_of c (w.session n) (subst (λ (o : Option Client). StandsForPlace o (w.session n)) e (S.clients n None (place_within old.clients n c e)))

pub there_at : (k : Config) (w : World) (old : DeliveryCore) (n : ℕ) (c : Client) → StandsFor k old w → client_at old.clients n ≡ Some c → c.mailbox < length old.boxes
there_at k w old n c S e = omega (arith, S.attached.there n c e, length_cursors old.boxes)

-- ---- what stands after mailboxes and clients changed

pub stands_after : (k : Config) (w v : World) (old : DeliveryCore) (boxes : List Mailbox) (clients : List (Option Client)) → StandsFor k old w → Reached k v
    → length boxes ≡ length old.boxes → length clients ≡ length old.clients
    → v.lane ≡ w.lane → v.hand ≡ w.hand → v.replies ≡ w.replies → v.heard ≡ w.heard
    → EachAt (λ m b. StandsForBox k b (v.box m)) boxes → EachAt (λ n c. StandsForPlace c (v.session n)) clients → EachAt (λ m s. s.next ≡ v.opened m) (cursors_of boxes) → AreAttached (cursors_of boxes) clients
    → StandsFor k (record old { boxes = boxes; clients = clients }) v
stands_after k w v old boxes clients S reached many places lane hand replies heard box_at client_each opened attached = record {
  reached = reached;
  shards = S.shards;
  in_hands = S.in_hands;
  seats = S.seats;
  hearing = S.hearing;
  nexts = S.nexts;
  mailboxes = many ∙ S.mailboxes;
  sessions = places ∙ S.sessions;
  lanes = rw lane S.lanes;
  hands = rw hand S.hands;
  replies = rw replies S.replies;
  heard = rw heard S.heard;
  boxes = box_at;
  next = next_same w v old.next (λ t p. ap (λ f. (f t).sent p) lane) (λ p. ap (λ f. f p) heard) S.next;
  clients = client_each;
  opened = opened;
  attached = attached;
}

-- one mailbox gives its next cursor this serial
pub opened_set : (boxes : List Mailbox) (f : ℕ → ℕ) (i n : ℕ) (b : Mailbox) → EachAt (λ m s. s.next ≡ f m) (cursors_of boxes) → b.cursors.next ≡ n → EachAt (λ m s. s.next ≡ set_at f i n m) (cursors_of (set boxes i b))
opened_set boxes f i n b each is = subst (EachAt (λ m s. s.next ≡ set_at f i n m)) (sym (cursors_set boxes i b)) (each_set (λ (s : CursorSet) (x : ℕ). s.next ≡ x) (cursors_of boxes) f i b.cursors n each is)

-- the serial that a mailbox gives its next cursor
pub opened_at : (boxes : List Mailbox) (f : ℕ → ℕ) (i : ℕ) (b : Mailbox) → EachAt (λ m s. s.next ≡ f m) (cursors_of boxes) → i < length boxes → b ≡ get_or boxes i b → b.cursors.next ≡ f i
opened_at boxes f i b each l there = ap (λ (s : CursorSet). s.next) (ap (λ (z : Mailbox). z.cursors) there ∙ sym (cursors_get boxes i b l)) ∙ each i _ (omega (arith, l, length_cursors boxes))

-- one mailbox was changed, and gives its next cursor the serial that it gave before
pub opened_same : (boxes : List Mailbox) (f : ℕ → ℕ) (i : ℕ) (b b2 : Mailbox) → EachAt (λ m s. s.next ≡ f m) (cursors_of boxes) → i < length boxes → b ≡ get_or boxes i b → b2.cursors.next ≡ b.cursors.next
    → EachAt (λ m s. s.next ≡ f m) (cursors_of (set boxes i b2))
opened_same boxes f i b b2 each l there same = subst (EachAt (λ m s. s.next ≡ f m)) (sym (cursors_set boxes i b2))
    (each_here (λ (m : ℕ) (s : CursorSet). s.next ≡ f m) (cursors_of boxes) i b2.cursors each (same ∙ opened_at boxes f i b each l there))

-- ---- a call of a client

-- what a mailbox leaves of its cursors, where the client of a handle did something
pub record CursorMoves (old new : CursorSet) (handle moved : CursorHandle) : Type 0 where
  pub elsewhere : SameElsewhere old new handle.slot
  pub slot : moved.slot ≡ handle.slot
  pub known : IsSome (held new moved)
  pub next : new.next ≡ old.next

-- what a mailbox does for a client, as the event of the world that it is
pub data BoxMails (k : Config) (x : Box) (s : Session) (allocates : Bool) (shown changes : List Change) (new : Mailbox) (handle : CursorHandle) : Type 0 where
  box_mails : (y : Box) → x.base ≤ s.cursor → Logs k x changes [] y → StandsForBox k new y → handle.at ≡ s.cursor + length shown → BoxMails k x s allocates shown changes new handle
  box_lapsed : s.cursor < x.base → StandsForBox k new x → handle.at ≡ s.cursor → BoxMails k x s allocates shown changes new handle
  box_spent : x.base ≤ s.cursor → most_changes < length x.log + length changes → StandsForBox k new x → handle.at ≡ s.cursor → BoxMails k x s allocates shown changes new handle
  box_no_memory : allocates ≡ true → x.base ≤ s.cursor → length x.log + length changes ≤ most_changes → StandsForBox k new x → handle.at ≡ s.cursor → BoxMails k x s allocates shown changes new handle

-- the clients' cursors after it
pub attached_mailed : (boxes : List Mailbox) (clients : List (Option Client)) (n : ℕ) (c : Client) (b b2 : Mailbox) (handle2 : CursorHandle) → AreAttached (cursors_of boxes) clients → client_at clients n ≡ Some c → b ≡ get_or boxes c.mailbox b
    → CursorMoves b.cursors b2.cursors c.handle handle2
    → AreAttached (cursors_of (set boxes c.mailbox b2)) (set clients n (Some (record { mailbox = c.mailbox; handle = handle2 })))
attached_mailed boxes clients n c b b2 handle2 S e there moves =
    subst (λ (all : List CursorSet). AreAttached all (set clients n (Some (record { mailbox = c.mailbox; handle = handle2 })))) (sym (cursors_set boxes c.mailbox b2))
    (attached_after (cursors_of boxes) clients n c.mailbox c.handle.slot b2.cursors (Some (record { mailbox = c.mailbox; handle = handle2 })) S (S.there n c e)
    (subst (λ (s : CursorSet). SameElsewhere s b2.cursors c.handle.slot) (sym was) moves.elsewhere)
    (own_slot (cursors_of boxes) clients n c S e)
    (λ d same. has d same))
  where
    was : cursors_at (cursors_of boxes) c.mailbox ≡ b.cursors
    was = cursors_get boxes c.mailbox b (omega (arith, S.there n c e, length_cursors boxes)) ∙ ap (λ (m : Mailbox). m.cursors) (sym there)

    same_client : (a d : Client) → Some a ≡ Some d → a ≡ d
    same_client a d same = cc

    has : (d : Client) → Some (record { mailbox = c.mailbox; handle = handle2 }) ≡ Some d → HasSlot c.mailbox c.handle.slot b2.cursors d
    has d same = subst (HasSlot c.mailbox c.handle.slot b2.cursors) (same_client _ d same) (record { mailbox_is = refl; slot_is = moves.slot; known = moves.known })

pub mails_follow : (k : Config) (w : World) (old : DeliveryCore) (n : ℕ) (c : Client) (b b2 : Mailbox) (handle2 : CursorHandle) (allocates : Bool) (shown : Box → Session → List Change) (changes : Box → List Change)
    (P : Box → Session → Type 0) (R : World → Type 0) → ((v : World) → R v → Reached k v) → ((v : World) → Selected w n (λ s. MailStep k w n s allocates (shown (w.box s.mailbox) s) (changes (w.box s.mailbox)) v) → R v)
    → StandsFor k old w → client_at old.clients n ≡ Some c → b ≡ get_or old.boxes c.mailbox b → CursorMoves b.cursors b2.cursors c.handle handle2
    → ((x : Box) (s : Session) → StandsForBox k b x → c.handle.at ≡ s.cursor → BoxOk k x → IsShown x.log s → BoxMails k x s allocates (shown x s) (changes x) b2 handle2 × P x s)
    → (v : World) × R v × StandsFor k (record old { boxes = set old.boxes c.mailbox b2; clients = set old.clients n (Some (record { mailbox = c.mailbox; handle = handle2 })) }) v
    × Selected w n (λ s. P (w.box s.mailbox) s)
mails_follow k w old n c b b2 handle2 allocates shown changes P R reach as_step S e there moves does = go (session_at k w old n c S e)
  where
    boxes2 : List Mailbox
    boxes2 = set old.boxes c.mailbox b2

    next : Client
    next = record { mailbox = c.mailbox; handle = handle2 }

    attached : AreAttached (cursors_of (set old.boxes c.mailbox b2)) (set old.clients n (Some (record { mailbox = c.mailbox; handle = handle2 })))
    attached = attached_mailed old.boxes old.clients n c b b2 handle2 S.attached e there moves

    kept : Kept k w
    kept = kept_always k S.reached.0 w S.reached.1

    within : c.mailbox < length old.boxes
    within = there_at k w old n c S e

    opened : EachAt (λ m s. s.next ≡ w.opened m) (cursors_of (set old.boxes c.mailbox b2))
    opened = opened_same old.boxes w.opened c.mailbox b b2 S.opened within there moves.next

    go : (s : Session) × (w.session n ≡ Some s) × StandsForClient c s
        → (v : World) × R v × StandsFor k (record old { boxes = set old.boxes c.mailbox b2; clients = set old.clients n (Some (record { mailbox = c.mailbox; handle = handle2 })) }) v
        × Selected w n (λ s. P (w.box s.mailbox) s)
    go (s, is, same) = done (does (w.box s.mailbox) s here same.cursor (kept.boxes s.mailbox) (subst (SessionOk w.box) is (kept.sessions n)))
      where
        here : StandsForBox k b (w.box s.mailbox)
        here = subst (λ (m : ℕ). StandsForBox k b (w.box m)) same.mailbox (subst (λ (x : Mailbox). StandsForBox k x (w.box c.mailbox)) (sym there) (S.boxes c.mailbox b within))

        -- it was refused, and nothing changed
        still : P (w.box s.mailbox) s → StandsForBox k b2 (w.box s.mailbox) → handle2.at ≡ s.cursor → MailStep k w n s allocates (shown (w.box s.mailbox) s) (changes (w.box s.mailbox)) w
            → (v : World) × R v × StandsFor k (record old { boxes = set old.boxes c.mailbox b2; clients = set old.clients n (Some (record { mailbox = c.mailbox; handle = handle2 })) }) v
            × Selected w n (λ s. P (w.box s.mailbox) s)
        still p box at step = (
          w,
          as_step w (s, is, step),
          stands_after k w w old (set old.boxes c.mailbox b2) (set old.clients n (Some (record { mailbox = c.mailbox; handle = handle2 }))) S S.reached
              (length-set old.boxes c.mailbox b2) (length-set old.clients n _) refl refl refl refl
              (each_here (λ m x. StandsForBox k x (w.box m)) old.boxes c.mailbox b2 S.boxes (subst (λ (m : ℕ). StandsForBox k b2 (w.box m)) (sym same.mailbox) box))
              (each_here (λ m x. StandsForPlace x (w.session m)) old.clients n (Some (record { mailbox = c.mailbox; handle = handle2 })) S.clients
              (subst (λ (o : Option Session). StandsForPlace (Some (record { mailbox = c.mailbox; handle = handle2 })) o) (sym is) (record { mailbox = same.mailbox; cursor = at })))
              opened attached,
          (s, is, p),
        )

        moved : P (w.box s.mailbox) s → (y : Box) → StandsForBox k b2 y → handle2.at ≡ s.cursor + length (shown (w.box s.mailbox) s)
            → MailStep k w n s allocates (shown (w.box s.mailbox) s) (changes (w.box s.mailbox)) (record w { box = set_at w.box s.mailbox y; session = set_at w.session n (Some (shows s (shown (w.box s.mailbox) s))) })
            → (v : World) × R v × StandsFor k (record old { boxes = set old.boxes c.mailbox b2; clients = set old.clients n (Some (record { mailbox = c.mailbox; handle = handle2 })) }) v
            × Selected w n (λ s. P (w.box s.mailbox) s)
        moved p y box at step =
            let v : World = record w { box = set_at w.box s.mailbox y; session = set_at w.session n (Some (shows s (shown (w.box s.mailbox) s))) } in
            let made : R v = as_step v (s, is, step) in (
              v,
              made,
              stands_after k w v old (set old.boxes c.mailbox b2) (set old.clients n (Some (record { mailbox = c.mailbox; handle = handle2 }))) S (reach v made)
                  (length-set old.boxes c.mailbox b2) (length-set old.clients n _) refl refl refl refl
                  (subst (λ (m : ℕ). EachAt (λ i x. StandsForBox k x (set_at w.box m y i)) (set old.boxes c.mailbox b2)) same.mailbox
                  (each_set (λ x z. StandsForBox k x z) old.boxes w.box c.mailbox b2 y S.boxes box))
                  (each_set (λ x z. StandsForPlace x z) old.clients w.session n (Some (record { mailbox = c.mailbox; handle = handle2 })) (Some (shows s (shown (w.box s.mailbox) s))) S.clients
                  (record { mailbox = same.mailbox; cursor = at }))
                  opened attached,
              (s, is, p),
            )

        done : BoxMails k (w.box s.mailbox) s allocates (shown (w.box s.mailbox) s) (changes (w.box s.mailbox)) b2 handle2 × P (w.box s.mailbox) s
            → (v : World) × R v × StandsFor k (record old { boxes = set old.boxes c.mailbox b2; clients = set old.clients n (Some (record { mailbox = c.mailbox; handle = handle2 })) }) v
            × Selected w n (λ s. P (w.box s.mailbox) s)
        done (box_mails y kept logs box at, p) = moved p y box at (mails y kept logs refl)
        done (box_lapsed low box at, p) = still p box at (mail_lapped low refl)
        done (box_spent kept many box at, p) = still p box at (mail_spent kept many refl)
        done (box_no_memory may kept few box at, p) = still p box at (mail_no_memory may kept few refl)

-- ---- calls as the code makes them

pub client_here : (clients : List (Option Client)) (p n : ℕ) (o : Option Client) (c : Client) → p ≡ n → p < length clients → o ≡ get_or clients p o → o ≡ Some c → client_at clients n ≡ Some c
client_here clients p n o c same l there is = ap (client_at clients) (sym same) ∙ get_or-any clients p None o l ∙ sym there ∙ is

client_back : (clients : List (Option Client)) (n : ℕ) (c : Client) → client_at clients n ≡ Some c → set clients n (Some c) ≡ clients
client_back clients n c e = set_back clients n (Some c) (place_within clients n c e) (sym e ∙ get_or-any clients n None (Some c) (place_within clients n c e))

set_again : {A : Type 0} (xs : List A) (i : ℕ) (a b : A) → set (set xs i a) i b ≡ set xs i b
set_again [] i a b = refl
set_again (x ∷ xs) zero a b = refl
set_again (x ∷ xs) (suc i) a b = ap (λ ys. x ∷ ys) (set_again xs i a b)

-- a client's mailbox knows it
pub known_at : (boxes : List Mailbox) (clients : List (Option Client)) (n : ℕ) (c : Client) (b : Mailbox) → AreAttached (cursors_of boxes) clients → client_at clients n ≡ Some c → b ≡ get_or boxes c.mailbox b → IsSome (held b.cursors c.handle)
known_at boxes clients n c b S e there = subst (λ (s : CursorSet). IsSome (held s c.handle))
    (cursors_get boxes c.mailbox b (omega (arith, S.there n c e, length_cursors boxes)) ∙ ap (λ (m : Mailbox). m.cursors) (sym there)) (S.known n c e)

pub mailbox_within : (boxes : List Mailbox) (clients : List (Option Client)) (n m : ℕ) (c : Client) → AreAttached (cursors_of boxes) clients → client_at clients n ≡ Some c → m ≡ c.mailbox → m < length boxes
mailbox_within boxes clients n m c S e same = omega (arith, S.there n c e, length_cursors boxes)

cursor_stays : (old new : CursorSet) (handle : CursorHandle) → new ≡ old → IsSome (held old handle) → CursorMoves old new handle handle
cursor_stays old new handle same some = record {
  elsewhere = record { number = ap (λ (s : CursorSet). s.number) same; others = λ slot other. ap (λ (s : CursorSet). in_slot s slot) same };
  slot = refl;
  known = subst (λ (s : CursorSet). IsSome (held s handle)) (sym same) some;
  next = ap (λ (s : CursorSet). s.next) same;
}

-- a call that moves no cursor
pub still_follow : (k : Config) (w : World) (old : DeliveryCore) (n m : ℕ) (c : Client) (b b2 : Mailbox) (allocates : Bool) (changes : Box → List Change) (P : Box → Session → Type 0) (R : World → Type 0) → ((v : World) → R v → Reached k v)
    → ((v : World) → Selected w n (λ s. MailStep k w n s allocates [] (changes (w.box s.mailbox)) v) → R v)
    → StandsFor k old w → client_at old.clients n ≡ Some c → m ≡ c.mailbox → b ≡ get_or old.boxes m b → b2.cursors ≡ b.cursors
    → ((x : Box) (s : Session) → StandsForBox k b x → c.handle.at ≡ s.cursor → BoxOk k x → IsShown x.log s → BoxMails k x s allocates [] (changes x) b2 c.handle × P x s)
    → (v : World) × R v × StandsFor k (record old { boxes = set old.boxes m b2 }) v × Selected w n (λ s. P (w.box s.mailbox) s)
still_follow k w old n m c b b2 allocates changes P R reach as_step S e same there kept does =
    subst (λ (i : ℕ). (v : World) × R v × StandsFor k (record old { boxes = set old.boxes i b2 }) v × Selected w n (λ s. P (w.box s.mailbox) s)) (sym same)
    (subst (λ (cs : List (Option Client)). (v : World) × R v × StandsFor k (record old { boxes = set old.boxes c.mailbox b2; clients = cs }) v × Selected w n (λ s. P (w.box s.mailbox) s)) (client_back old.clients n c e)
    (mails_follow k w old n c b b2 c.handle allocates (λ x s. []) changes P R reach as_step S e here (cursor_stays b.cursors b2.cursors c.handle kept (known_at old.boxes old.clients n c b S.attached e here)) does))
  where
    here : b ≡ get_or old.boxes c.mailbox b
    here = there ∙ ap (λ (i : ℕ). get_or old.boxes i b) same

-- a call that moves the client's cursor, whose client was taken from its place and put back
pub moved_follow : (k : Config) (w : World) (old : DeliveryCore) (n p m : ℕ) (c : Client) (b b2 : Mailbox) (handle2 : CursorHandle) (vacant : Option Client) (allocates : Bool) (shown : Box → Session → List Change) (changes : Box → List Change)
    (P : Box → Session → Type 0) (R : World → Type 0) → ((v : World) → R v → Reached k v)
    → ((v : World) → Selected w n (λ s. MailStep k w n s allocates (shown (w.box s.mailbox) s) (changes (w.box s.mailbox)) v) → R v)
    → StandsFor k old w → client_at old.clients n ≡ Some c → p ≡ n → m ≡ c.mailbox → b ≡ get_or old.boxes m b → CursorMoves b.cursors b2.cursors c.handle handle2
    → ((x : Box) (s : Session) → StandsForBox k b x → c.handle.at ≡ s.cursor → BoxOk k x → IsShown x.log s → BoxMails k x s allocates (shown x s) (changes x) b2 handle2 × P x s)
    → (v : World) × R v × StandsFor k (record old { boxes = set old.boxes m b2; clients = set (set old.clients p vacant) p (Some (record { mailbox = c.mailbox; handle = handle2 })) }) v
    × Selected w n (λ s. P (w.box s.mailbox) s)
moved_follow k w old n p m c b b2 handle2 vacant allocates shown changes P R reach as_step S e place same there moves does =
    subst (λ (i : ℕ). (v : World) × R v × StandsFor k (record old { boxes = set old.boxes i b2; clients = set (set old.clients p vacant) p (Some next) }) v × Selected w n (λ s. P (w.box s.mailbox) s)) (sym same)
    (subst (λ (cs : List (Option Client)). (v : World) × R v × StandsFor k (record old { boxes = set old.boxes c.mailbox b2; clients = cs }) v × Selected w n (λ s. P (w.box s.mailbox) s))
    (ap (λ (i : ℕ). set old.clients i (Some next)) (sym place) ∙ sym (set_again old.clients p vacant (Some next)))
    (mails_follow k w old n c b b2 handle2 allocates shown changes P R reach as_step S e (there ∙ ap (λ (i : ℕ). get_or old.boxes i b) same) moves does))
  where
    next : Client
    next = record { mailbox = c.mailbox; handle = handle2 }

-- ---- calls that were not refused

pub with_memory : (k : Config) (w : World) (n : ℕ) (s : Session) (shown changes : List Change) (v : World) → MailStep k w n s false shown changes v → MailStep k w n s true shown changes v
with_memory k w n s shown changes v (mails b low logs e) = mails b low logs e
with_memory k w n s shown changes v (mail_lapped low e) = mail_lapped low e
with_memory k w n s shown changes v (mail_spent low many e) = mail_spent low many e
with_memory k w n s shown changes v (mail_no_memory may low few e) = mail_no_memory refl low few e

done_of : (k : Config) (w : World) (n : ℕ) (s : Session) (shown changes : List Change) (v : World) → (w.box s.mailbox).base ≤ s.cursor → length (w.box s.mailbox).log + length changes ≤ most_changes
    → MailStep k w n s false shown changes v → Done k w n s shown changes v
done_of k w n s shown changes v kept room (mails b low logs e) = record { kept = low; mailbox = b; logs = logs; made = e }
done_of k w n s shown changes v kept room (mail_lapped low e) = absurd (omega (arith, low, kept))
done_of k w n s shown changes v kept room (mail_spent low many e) = absurd (omega (arith, many, room))
done_of k w n s shown changes v kept room (mail_no_memory may low few e) = cc

-- a step for which no memory was refused
abbrev Passes : Config → World → ℕ → Event → (Box → Session → List Change) → (Box → List Change) → World → Type 0
Passes k w n event shown changes v = Step k w event v × Selected w n (λ s. MailStep k w n s false (shown (w.box s.mailbox) s) (changes (w.box s.mailbox)) v)

-- neither lapsed nor spent
abbrev pub HasRoom : (Box → List Change) → Box → Session → Type 0
HasRoom changes x s = (x.base ≤ s.cursor) × (length x.log + length (changes x) ≤ most_changes)

done_in : (k : Config) (w : World) (n : ℕ) (event : Event) (shown : Box → Session → List Change) (changes : Box → List Change) (v : World) → Passes k w n event shown changes v → Selected w n (λ s. HasRoom changes (w.box s.mailbox) s)
    → Selected w n (λ s. Done k w n s (shown (w.box s.mailbox) s) (changes (w.box s.mailbox)) v)
done_in k w n event shown changes v (step, (t, e, m)) (s, is, room) = (
  s,
  is,
  done_of k w n s (shown (w.box s.mailbox) s) (changes (w.box s.mailbox)) v room.0 room.1 (subst (λ (x : Session). MailStep k w n x false (shown (w.box x.mailbox) x) (changes (w.box x.mailbox)) v) same m),
)
  where
    same : t ≡ s
    same = cc

pub still_done : (k : Config) (old : DeliveryCore) (n m : ℕ) (c : Client) (b b2 : Mailbox) (changes : Box → List Change) (event : Event)
    → ((w v : World) → Selected w n (λ s. MailStep k w n s false [] (changes (w.box s.mailbox)) v) → Step k w event v)
    → client_at old.clients n ≡ Some c → m ≡ c.mailbox → b ≡ get_or old.boxes m b → b2.cursors ≡ b.cursors
    → ((x : Box) (s : Session) → StandsForBox k b x → c.handle.at ≡ s.cursor → BoxOk k x → IsShown x.log s → BoxMails k x s false [] (changes x) b2 c.handle × HasRoom changes x s)
    → Makes k old n (λ x s. []) changes (record old { boxes = set old.boxes m b2 })
still_done k old n m c b b2 changes event as_step e same there kept does w S =
    let r = still_follow k w old n m c b b2 false changes (λ x s. HasRoom changes x s) (λ v. Passes k w n event (λ x s. []) changes v) (λ v made. reached_step k w event v S.reached made.0) (λ v h. (as_step w v h, h)) S e same there kept does in
    (r.0, r.2, done_in k w n event (λ x s. []) changes r.0 r.1 r.3)

pub moved_done : (k : Config) (old : DeliveryCore) (n p m : ℕ) (c : Client) (b b2 : Mailbox) (handle2 : CursorHandle) (vacant : Option Client) (shown : Box → Session → List Change) (changes : Box → List Change) (event : Event)
    → ((w v : World) → Selected w n (λ s. MailStep k w n s false (shown (w.box s.mailbox) s) (changes (w.box s.mailbox)) v) → Step k w event v)
    → client_at old.clients n ≡ Some c → p ≡ n → m ≡ c.mailbox → b ≡ get_or old.boxes m b → CursorMoves b.cursors b2.cursors c.handle handle2
    → ((x : Box) (s : Session) → StandsForBox k b x → c.handle.at ≡ s.cursor → BoxOk k x → IsShown x.log s → BoxMails k x s false (shown x s) (changes x) b2 handle2 × HasRoom changes x s)
    → Makes k old n shown changes (record old { boxes = set old.boxes m b2; clients = set (set old.clients p vacant) p (Some (record { mailbox = c.mailbox; handle = handle2 })) })
moved_done k old n p m c b b2 handle2 vacant shown changes event as_step e place same there moves does w S =
    let r = moved_follow k w old n p m c b b2 handle2 vacant false shown changes (λ x s. HasRoom changes x s) (λ v. Passes k w n event shown changes v) (λ v made. reached_step k w event v S.reached made.0) (λ v h. (as_step w v h, h)) S e place same there moves does in
    (r.0, r.2, done_in k w n event shown changes r.0 r.1 r.3)

-- the clients' cursors after these
pub still_attached : (boxes : List Mailbox) (clients : List (Option Client)) (n m : ℕ) (c : Client) (b b2 : Mailbox) → AreAttached (cursors_of boxes) clients → client_at clients n ≡ Some c → m ≡ c.mailbox → b ≡ get_or boxes m b → b2.cursors ≡ b.cursors
    → AreAttached (cursors_of (set boxes m b2)) clients
still_attached boxes clients n m c b b2 S e same there kept =
    subst (λ (all : List CursorSet). AreAttached all clients) (sym (cursors_same boxes m b b2 (mailbox_within boxes clients n m c S e same) there kept)) S

-- a handle whose client was shown these changes
pub cursor_moves : (old new : CursorSet) (handle moved : CursorHandle) (cs : List Change) → IsSome (held old handle) → Updates old new handle.slot (option_map (after_showing cs) (held old handle)) → moved ≡ record handle { at = handle.at + length cs } → new.next ≡ old.next → CursorMoves old new handle moved
cursor_moves old new handle moved cs some u is next =
    let o : (x : Open) × (held old handle ≡ Some x) = some_of (held old handle) some in
    let v : Updates old new handle.slot (Some (after_showing cs o.0)) = subst (λ (x : Option Open). Updates old new handle.slot (option_map (after_showing cs) x)) o.1 u in
    record {
      elsewhere = record { number = u.number; others = u.others };
      slot = ap (λ (z : CursorHandle). z.slot) is;
      known = subst (λ (z : CursorHandle). IsSome (held new z)) (sym is) (ap is_some (held_shown old new handle o.0 cs o.1 v));
      next = next;
    }

-- or was refused
pub cursor_same : (old new : CursorSet) (handle moved : CursorHandle) → IsSome (held old handle) → new ≡ old → moved ≡ handle → CursorMoves old new handle moved
cursor_same old new handle moved some same is = subst (CursorMoves old new handle) (sym is) (cursor_stays old new handle same some)

-- a call that moves the client's cursor leaves it attached
pub moved_attached : (boxes : List Mailbox) (clients : List (Option Client)) (n p m : ℕ) (c : Client) (b b2 : Mailbox) (handle2 : CursorHandle) (vacant : Option Client) → AreAttached (cursors_of boxes) clients → client_at clients n ≡ Some c → p ≡ n → m ≡ c.mailbox → b ≡ get_or boxes m b
    → CursorMoves b.cursors b2.cursors c.handle handle2 → AreAttached (cursors_of (set boxes m b2)) (set (set clients p vacant) p (Some (record { mailbox = c.mailbox; handle = handle2 })))
moved_attached boxes clients n p m c b b2 handle2 vacant S e place same there moves =
    subst (λ (i : ℕ). AreAttached (cursors_of (set boxes i b2)) (set (set clients p vacant) p (Some next))) (sym same)
    (subst (λ (cs : List (Option Client)). AreAttached (cursors_of (set boxes c.mailbox b2)) cs)
    (ap (λ (i : ℕ). set clients i (Some next)) (sym place) ∙ sym (set_again clients p vacant (Some next)))
    (attached_mailed boxes clients n c b b2 handle2 S e (there ∙ ap (λ (i : ℕ). get_or boxes i b) same) moves))
  where
    next : Client
    next = record { mailbox = c.mailbox; handle = handle2 }

-- a client that was taken from its place and put back as it was
pub put_back : (clients : List (Option Client)) (n p : ℕ) (c : Client) (vacant : Option Client) (handle2 : CursorHandle) → client_at clients n ≡ Some c → p ≡ n → handle2 ≡ c.handle → set (set clients p vacant) p (Some (record { mailbox = c.mailbox; handle = handle2 })) ≡ clients
put_back clients n p c vacant handle2 e place same =
    set_again clients p vacant _ ∙ ap (λ (i : ℕ). set clients i (Some (record { mailbox = c.mailbox; handle = handle2 }))) place
    ∙ ap (λ (z : CursorHandle). set clients n (Some (record { mailbox = c.mailbox; handle = z }))) same ∙ client_back clients n c e

-- where neither the mailbox nor the handle changed, nothing did
pub nothing_moved : (old : DeliveryCore) (n p m : ℕ) (c : Client) (b b2 : Mailbox) (handle2 : CursorHandle) (vacant : Option Client) → AreAttached (cursors_of old.boxes) old.clients → client_at old.clients n ≡ Some c → p ≡ n → m ≡ c.mailbox → b ≡ get_or old.boxes m b → b2 ≡ b → handle2 ≡ c.handle
    → record old { boxes = set old.boxes m b2; clients = set (set old.clients p vacant) p (Some (record { mailbox = c.mailbox; handle = handle2 })) } ≡ old
nothing_moved old n p m c b b2 handle2 vacant S e place same there still kept =
    ap (λ (bs : List Mailbox). let h : DeliveryCore = record old { boxes = bs; clients = set (set old.clients p vacant) p (Some (record { mailbox = c.mailbox; handle = handle2 })) } in h)
    (ap (set old.boxes m) still ∙ set_back old.boxes m b (mailbox_within old.boxes old.clients n m c S e same) there)
    ∙ ap (λ (cs : List (Option Client)). let h : DeliveryCore = record old { clients = cs } in h) (put_back old.clients n p c vacant handle2 e place kept)
