-- What a session sees of its mailbox without an event of its own.
use Rattle.std.proofs.Common.{◌≡◌, ◌≢◌, ℕ, zero, suc, ◌+◌, ◌<◌, ◌≤◌, ◌⊎◌, inl, inr, Bool, true, false, cond, List, [], ◌∷◌, ◌++◌, length, drop, map, get_or, set, length-set, get_or-set_same, refl, sym, ap, ap₂, ◌∙◌, arith, subst, Option, Some, None, IsSome}
use Rattle.std.specs.Prelude.{if◌then◌else◌, ◌==◌, not, option_map, IfSome, count_by, sum_by}
use Rattle.std.proofs.lemmas.Bool.Decides.{eqb_tells}
use Rattle.std.proofs.lemmas.Bool.{eq-eqb}
use Rattle.std.proofs.lemmas.List.Sums.{sum_by-cons}
use Rattle.delivery_token.specs.Text.{Text}
use Rattle.delivery_token.specs.declared.Job.{Job}
use Rattle.change_ring.specs.declared.change.Change.{Change}
use Rattle.change_ring.specs.Log.{Row, replay, view_at, changes_from}
use Rattle.change_ring.proofs.WindowLaws.{changes_from-log}
use Rattle.cursor_set.specs.Cursors.{CursorSet, Open, CursorHandle, Updates, after_showing, held}
use Rattle.cursor_set.specs.Lines.{lines}
use Rattle.mailbox.specs.Counts.{bytes_in_all, deleted_count, unseen_count}
use Rattle.mailbox.specs.Mailbox.{Mailbox, Message, row_of, next_uid as mail_uid}
use Rattle.mailbox.specs.declared.mailbox.Status.{Status}
use Rattle.world.specs.World.{Config, World, Box, Session, Selected, pending}
use Rattle.world.specs.Law.{IsPart, none, keeps, skips}
use Rattle.world.proofs.Base.{Every, Rising, part_every, part_map}
use Rattle.world.proofs.Kept.{BoxOk}
use Rattle.world.proofs.Always.{kept_always}
use Rattle.world.proofs.Mails.{range_rising}
use Rattle.delivery_core.specs.declared.client.Client.{Client}
use Rattle.delivery_core.specs.DeliveryCore.{DeliveryCore, pending_for, pending_in, shown_to, view_in, view_of, window_at}
use Rattle.delivery_core.specs.Attached.{AreAttached, client_at, cursors_at, cursors_of}
use Rattle.delivery_core.specs.Stands.{StandsFor, StandsForBox, StandsForClient, text_of, accepted_text}
use Rattle.delivery_core.specs.Clients.{IsStatus, Sees, text_with}
use Rattle.delivery_core.proofs.Boxes as boxed
use Rattle.delivery_core.proofs.AttachedLaws.{Matches, cursors_get, held_shown, matches, place_within, some_of}
use Rattle.delivery_core.proofs.MailBoxes.{numbers_of, text_accepted, text_at}
use Rattle.delivery_core.proofs.Mailed.{known_at, mailbox_within, session_at}

-- ---- the view

view_is : (x : Option Open) (view : List ℕ) → option_map (λ (o : Open). o.view) x ≡ Some view → view ≡ view_in x
view_is None view e = cc
view_is (Some o) view e = cc

pub view_shown : (old : DeliveryCore) (n m : ℕ) (c : Client) (b : Mailbox) (view : List ℕ) → AreAttached (cursors_of old.boxes) old.clients → client_at old.clients n ≡ Some c → m ≡ c.mailbox → b ≡ get_or old.boxes m b
    → option_map (λ (o : Open). o.view) (held b.cursors c.handle) ≡ Some view → view ≡ view_of old n
view_shown old n m c b view S e same there e2 =
    view_is (held b.cursors c.handle) view e2
    ∙ ap (λ (s : CursorSet). view_in (held s c.handle)) (sym (ap (cursors_at (cursors_of old.boxes)) (sym same) ∙ cursors_get old.boxes m b (mailbox_within old.boxes old.clients n m c S e same) ∙ ap (λ (z : Mailbox). z.cursors) (sym there)))
    ∙ ap (shown_to old) (sym e)

found : (x : Option Open) (view : List ℕ) → option_map (λ (o : Open). o.view) x ≡ Some view → (o : Open) × (x ≡ Some o) × (o.view ≡ view)
found None view e = cc
found (Some o) view e = (o, refl, cc)

pub view_log : (k : Config) (w : World) (old : DeliveryCore) (n m : ℕ) (c : Client) (b : Mailbox) (view : List ℕ) → StandsFor k old w → client_at old.clients n ≡ Some c → m ≡ c.mailbox → b ≡ get_or old.boxes m b
    → option_map (λ (o : Open). o.view) (held b.cursors c.handle) ≡ Some view
    → Selected w n (λ s. view ≡ view_at (w.box s.mailbox).log s.cursor)
view_log k w old n m c b view S e same there has = go (session_at k w old n c S e) (found (held b.cursors c.handle) view has)
  where
    within : m < length old.boxes
    within = mailbox_within old.boxes old.clients n m c S.attached e same

    go : (s : Session) × (w.session n ≡ Some s) × StandsForClient c s → (o : Open) × (held b.cursors c.handle ≡ Some o) × (o.view ≡ view) → Selected w n (λ s. view ≡ view_at (w.box s.mailbox).log s.cursor)
    go (s, is, one) (o, open_is, shown) = (
      s,
      is,
      let here : StandsForBox k b (w.box s.mailbox) = subst (λ (i : ℕ). StandsForBox k b (w.box i)) (same ∙ one.mailbox) (subst (λ (x : Mailbox). StandsForBox k x (w.box m)) (sym there) (S.boxes m b within)) in
          let fits : Matches b.cursors c.handle o = matches b.cursors c.handle o open_is in
          let at : o.at ≡ s.cursor = fits.at ∙ one.cursor in
          sym shown ∙ (here.log.cursors c.handle.slot o fits.slot).view ∙ ap (view_at (w.box s.mailbox).log) at,
    )

pub no_stranger_here : (b : Mailbox) (handle : CursorHandle) → IsSome (held b.cursors handle) → held b.cursors handle ≡ None → ⊥
no_stranger_here b handle some gone = nobody (held b.cursors handle) some gone
  where
    nobody : (o : Option Open) → IsSome o → o ≡ None → ⊥
    nobody None h e = cc
    nobody (Some o) h e = cc

pub window_get : (boxes : List Mailbox) (i : ℕ) (d : Mailbox) → i < length boxes → window_at boxes i ≡ (get_or boxes i d).window
window_get [] i d l = absurd (omega arith)
window_get (x ∷ xs) zero d l = refl
window_get (x ∷ xs) (suc i) d l = window_get xs i d (omega arith)

-- what is pending for a client, as its mailbox has it
pub pending_here : (old : DeliveryCore) (n m : ℕ) (c : Client) (b : Mailbox) → AreAttached (cursors_of old.boxes) old.clients → client_at old.clients n ≡ Some c → m ≡ c.mailbox → b ≡ get_or old.boxes m b → pending_for old n ≡ changes_from c.handle.at b.window
pending_here old n m c b S e same there =
    ap (pending_in old) e ∙ ap (λ (j : ℕ). changes_from c.handle.at (window_at old.boxes j)) (sym same)
    ∙ ap (changes_from c.handle.at) (window_get old.boxes m b (mailbox_within old.boxes old.clients n m c S e same) ∙ ap (λ (z : Mailbox). z.window) (sym there))

-- the view of a client that has its cursor
view_here : (boxes : List Mailbox) (clients : List (Option Client)) (old : DeliveryCore) (n m : ℕ) (c : Client) (b : Mailbox) (o : Open) → m < length old.boxes → client_at old.clients n ≡ Some c → m ≡ c.mailbox → b ≡ get_or old.boxes m b → held b.cursors c.handle ≡ Some o → view_of old n ≡ o.view
view_here boxes clients old n m c b o within e same there has =
    ap (shown_to old) e ∙ ap (λ (s : CursorSet). view_in (held s c.handle)) (ap (cursors_at (cursors_of old.boxes)) (sym same) ∙ cursors_get old.boxes m b within ∙ ap (λ (z : Mailbox). z.cursors) (sym there)) ∙ ap view_in has

-- a session was shown these changes, and its client put back
pub saw : (old : DeliveryCore) (n p m : ℕ) (c : Client) (b b2 : Mailbox) (handle2 : CursorHandle) (vacant : Option Client) (cs : List Change) (before after : List ℕ) → AreAttached (cursors_of old.boxes) old.clients → client_at old.clients n ≡ Some c → p ≡ n → m ≡ c.mailbox → b ≡ get_or old.boxes m b
    → Updates b.cursors b2.cursors c.handle.slot (option_map (after_showing cs) (held b.cursors c.handle)) → handle2 ≡ record c.handle { at = c.handle.at + length cs } → IfSome (held b.cursors c.handle) (λ (o : Open). after ≡ before ++ lines o.view cs)
    → Sees old (record old { boxes = set old.boxes m b2; clients = set (set old.clients p vacant) p (Some (record { mailbox = c.mailbox; handle = handle2 })) }) n cs before after
saw old n p m c b b2 handle2 vacant cs before after S e place same there moved is written = go (some_of (held b.cursors c.handle) (known_at old.boxes old.clients n c b S e (there ∙ ap (λ (i : ℕ). get_or old.boxes i b) same)))
  where
    next : Client
    next = record { mailbox = c.mailbox; handle = handle2 }

    new : DeliveryCore
    new = record old { boxes = set old.boxes m b2; clients = set (set old.clients p vacant) p (Some (record { mailbox = c.mailbox; handle = handle2 })) }

    within : m < length old.boxes
    within = mailbox_within old.boxes old.clients n m c S e same

    attached : client_at (set (set old.clients p vacant) p (Some (record { mailbox = c.mailbox; handle = handle2 }))) n ≡ Some (record { mailbox = c.mailbox; handle = handle2 })
    attached = ap (client_at (set (set old.clients p vacant) p (Some (record { mailbox = c.mailbox; handle = handle2 })))) (sym place)
        ∙ get_or-set_same (set old.clients p vacant) p _ None (omega (arith, place_within old.clients n c e, place, length-set old.clients p vacant))

    go : (o : Open) × (held b.cursors c.handle ≡ Some o)
        → Sees old (record old { boxes = set old.boxes m b2; clients = set (set old.clients p vacant) p (Some (record { mailbox = c.mailbox; handle = handle2 })) }) n cs before after
    go (o, has) =
        let was : view_of old n ≡ o.view = view_here old.boxes old.clients old n m c b o within e same there has in
        let u : Updates b.cursors b2.cursors c.handle.slot (Some (after_showing cs o)) = subst (λ (x : Option Open). Updates b.cursors b2.cursors c.handle.slot (option_map (after_showing cs) x)) has moved in
        let holds : held b2.cursors handle2 ≡ Some (after_showing cs o) = ap (held b2.cursors) is ∙ held_shown b.cursors b2.cursors c.handle o cs has u in
        let now : view_of new n ≡ replay o.view cs = view_here new.boxes new.clients new n m next b2 (after_showing cs o) (omega (arith, within, length-set old.boxes m b2)) attached same (sym (get_or-set_same old.boxes m b2 b2 within)) holds in
        let wrote : after ≡ before ++ lines o.view cs = subst (λ (x : Option Open). IfSome x (λ (y : Open). after ≡ before ++ lines y.view cs)) has written in
        record {
          text = wrote ∙ ap (λ (v : List ℕ). before ++ lines v cs) (sym was);
          view = now ∙ ap (λ (v : List ℕ). replay v cs) (sym was);
        }

-- nothing of the clients' cursors changed, and so no view
pub same_view : (old : DeliveryCore) (boxes : List Mailbox) (n : ℕ) → cursors_of boxes ≡ cursors_of old.boxes → view_of (record old { boxes = boxes }) n ≡ view_of old n
same_view old boxes n same = go (client_at old.clients n)
  where
    go : (x : Option Client) → shown_to (record old { boxes = boxes }) x ≡ shown_to old x
    go None = refl
    go (Some c) = ap (λ (all : List CursorSet). view_in (held (cursors_at all c.mailbox) c.handle)) same

-- ---- in a world

-- a client's view is what its session was shown of the log
pub view_seen : (k : Config) (w : World) (old : DeliveryCore) (n : ℕ) (c : Client) (b : Mailbox) → StandsFor k old w → client_at old.clients n ≡ Some c → b ≡ get_or old.boxes c.mailbox b
    → Selected w n (λ s. view_of old n ≡ view_at (w.box s.mailbox).log s.cursor)
view_seen k w old n c b S e there = go (some_of (held b.cursors c.handle) (known_at old.boxes old.clients n c b S.attached e there))
  where
    go : (o : Open) × (held b.cursors c.handle ≡ Some o) → Selected w n (λ s. view_of old n ≡ view_at (w.box s.mailbox).log s.cursor)
    go (o, has) = view_log k w old n c.mailbox c b (view_of old n) S e refl there
        (ap (option_map (λ (x : Open). x.view)) has ∙ ap (λ (v : List ℕ). Some v) (sym (view_here old.boxes old.clients old n c.mailbox c b o (mailbox_within old.boxes old.clients n c.mailbox c S.attached e refl) e refl there has)))

-- and what is pending for it is what its session has before it
pub pending_seen : (k : Config) (w : World) (old : DeliveryCore) (n : ℕ) (c : Client) (b : Mailbox) → StandsFor k old w → client_at old.clients n ≡ Some c → b ≡ get_or old.boxes c.mailbox b
    → Selected w n (λ s. (w.box s.mailbox).base ≤ s.cursor → pending_for old n ≡ pending (w.box s.mailbox) s)
pending_seen k w old n c b S e there = go (session_at k w old n c S e)
  where
    within : c.mailbox < length old.boxes
    within = mailbox_within old.boxes old.clients n c.mailbox c S.attached e refl

    go : (s : Session) × (w.session n ≡ Some s) × StandsForClient c s → Selected w n (λ s. (w.box s.mailbox).base ≤ s.cursor → pending_for old n ≡ pending (w.box s.mailbox) s)
    go (s, is, one) = (
      s,
      is,
      λ low.
          let here : StandsForBox k b (w.box s.mailbox) = subst (λ (i : ℕ). StandsForBox k b (w.box i)) one.mailbox (subst (λ (x : Mailbox). StandsForBox k x (w.box c.mailbox)) (sym there) (S.boxes c.mailbox b within)) in
          pending_here old n c.mailbox c b S.attached e refl there ∙ changes_from-log b.window (w.box s.mailbox).log c.handle.at here.log.window (omega (arith, low, here.base, one.cursor))
          ∙ ap (λ (i : ℕ). drop i (w.box s.mailbox).log) one.cursor,
    )

-- ---- Status

abbrev Texts : Type 0
Texts = List (ℕ × Text)

shift : (y : ℕ × Text) (ys xs : Texts) → Every (λ u. y.0 < u) (map (λ p. p.0) xs) → Every (λ p. text_at p.0 ys ≡ Some p.1) xs → Every (λ p. text_at p.0 (y ∷ ys) ≡ Some p.1) xs
shift y ys [] above all = tt
shift y ys (x ∷ xs) above all = (go (eqb_tells y.0 x.0), shift y ys xs above.1 all.1)
  where
    go : (((y.0 == x.0) ≡ true) × (y.0 ≡ x.0)) ⊎ (((y.0 == x.0) ≡ false) × (y.0 ≢ x.0)) → text_at x.0 (y ∷ ys) ≡ Some x.1
    go (inl (t, same)) = absurd (omega (arith, above.0))
    go (inr (t, other)) = subst (λ (b : Bool). (if b then Some y.1 else text_at x.0 ys) ≡ Some x.1) (sym t) all.0

-- each text of a part stands in the whole under its UID
part_texts : {xs ys : Texts} → IsPart xs ys → Rising (λ u v. u < v) (map (λ p. p.0) ys) → Every (λ p. text_at p.0 ys ≡ Some p.1) xs
part_texts none o = tt
part_texts (keeps y {xs} {ys} p) o = (
  subst (λ (b : Bool). (if b then Some y.1 else text_at y.0 ys) ≡ Some y.1) (sym (eq-eqb y.0 y.0 refl)) refl,
  shift y ys xs (part_every (λ u. y.0 < u) (part_map (λ (q : ℕ × Text). q.0) p) o.0) (part_texts p o.1),
)
part_texts (skips y {xs} {ys} p) o = shift y ys xs (part_every (λ u. y.0 < u) (part_map (λ (q : ℕ × Text). q.0) p) o.0) (part_texts p o.1)

sum_texts : (ms : List Message) (copies : List (Job × ℕ)) → Every (λ p. text_at p.0 (map accepted_text copies) ≡ Some p.1) (map text_of ms)
    → sum_by (λ (m : Message). length m.text.bytes) ms ≡ sum_by (λ (row : Row). length (text_with row.uid copies).bytes) (map row_of ms)
sum_texts [] copies all = refl
sum_texts (m ∷ ms) copies all =
    sum_by-cons (λ (x : Message). length x.text.bytes) m ms
    ∙ ap₂ (λ (a b : ℕ). a + b) (ap (λ (t : Text). length t.bytes) (sym (text_accepted m.uid copies m.text all.0))) (sum_texts ms copies all.1)
    ∙ sym (sum_by-cons (λ (row : Row). length (text_with row.uid copies).bytes) (row_of m) (map row_of ms))

sum_rows : (f : Row → ℕ) (ms : List Message) → sum_by (λ (m : Message). f (row_of m)) ms ≡ sum_by f (map row_of ms)
sum_rows f [] = refl
sum_rows f (m ∷ ms) = sum_by-cons (λ (x : Message). f (row_of x)) m ms ∙ ap (λ (s : ℕ). f (row_of m) + s) (sum_rows f ms) ∙ sym (sum_by-cons f (row_of m) (map row_of ms))

pub status_told : (k : Config) (w : World) (old : DeliveryCore) (m i : ℕ) (b : Mailbox) (status : Status) → StandsFor k old w → i ≡ m → i < length old.boxes → b ≡ get_or old.boxes i b
    → status ≡ record { messages = length b.messages; uidnext = mail_uid b; uidvalidity = b.uidvalidity; unseen = unseen_count b.messages; deleted = deleted_count b.messages; size = bytes_in_all b.messages }
    → IsStatus k (w.box m) status
status_told k w old m i b status S same within there is = record {
  messages = ap (λ (z : Status). z.messages) is ∙ boxed.same_rows k b x here;
  uidnext = ap (λ (z : Status). z.uidnext) is ∙ boxed.same_uid k b x here;
  unseen = ap (λ (z : Status). z.unseen) is ∙ sum_rows (λ row. cond (not row.flags.seen) 1 0) b.messages ∙ ap (count_by (λ (row : Row). not row.flags.seen)) here.log.messages;
  deleted = ap (λ (z : Status). z.deleted) is ∙ sum_rows (λ row. cond row.flags.deleted 1 0) b.messages ∙ ap (count_by (λ (row : Row). row.flags.deleted)) here.log.messages;
  size = ap (λ (z : Status). z.size) is ∙ sum_texts b.messages x.accepted (part_texts here.texts rises) ∙ ap (sum_by (λ (row : Row). length (text_with row.uid x.accepted).bytes)) here.log.messages;
}
  where
    x : Box
    x = w.box m

    here : StandsForBox k b (w.box m)
    here = subst (λ (j : ℕ). StandsForBox k b (w.box j)) same (subst (λ (y : Mailbox). StandsForBox k y (w.box i)) (sym there) (S.boxes i b within))

    ok : BoxOk k (w.box m)
    ok = (kept_always k S.reached.0 w S.reached.1).boxes m

    rises : Rising (λ u v. u < v) (map (λ p. p.0) (map accepted_text (w.box m).accepted))
    rises = subst (Rising (λ u v. u < v)) (sym (numbers_of (w.box m).accepted ∙ sym ok.given ∙ ok.counted)) (range_rising k.first_uid (length (w.box m).accepted))
