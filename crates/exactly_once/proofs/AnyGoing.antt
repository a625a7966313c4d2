-- Each event of the house, and many of them: what is printed is replies of that kind and lines of sessions, and the world comes by its own events.
use Rattle.std.proofs.Common.{◌≡◌, ◌≢◌, ℕ, ◌+◌, ◌≤◌, ◌⊎◌, inl, inr, Bool, true, false, eqb, List, [], ◌∷◌, ◌++◌, map, arith, refl, sym, ap, ◌∙◌, subst, append-nil, append_assoc, Option, Some, None}
use Rattle.std.specs.Prelude.{flat_map, All, Contains}
use Rattle.std.proofs.lemmas.Bool.Decides.{eqb_tells}
use Rattle.std.proofs.lemmas.List.{map-append}
use Rattle.std.proofs.lemmas.Grind.{flat_map-append}
use Rattle.std.proofs.lemmas.List.Elements.{All-contains}
use Rattle.std.specs.Borrow.{Bor}
use Rattle.line_io.specs.Wire.{IsCut, joined, marked}
use Rattle.shard_queue.specs.Lane.{set_at}
use Rattle.shard_queue.proofs.AtLaws.{at_cases, at_each, set_at-same}
use Rattle.delivery_token.specs.Keys.{Below}
use Rattle.delivery_token.specs.declared.CopyKey.{CopyKey}
use Rattle.delivery_token.specs.declared.log.Noted.{Noted}
use Rattle.world.specs.World as world
use Rattle.world.specs.World.{World}
use Rattle.world.specs.Law.{Headline}
use Rattle.world.proofs.Always.{always}
use Rattle.world.proofs.Base.{all_of_every, every_weaker, rising_pair}
use Rattle.house_peers.specs.Speech.{IsSpeech}
use Rattle.house_peers.specs.AnyCaller.{Caller, more_waits, greeted}
use Rattle.house.specs.Setup.{AreGuests, AreLines, Peers, Reached, Setup, session_seat, terms_of}
use Rattle.house.specs.declared.event.Event.{Event}
use Rattle.house.specs.declared.event.Event.TheVariants.{Bytes, Vanish, Put, Take, Deliver, Answer, Hear, End, Close, Enter, Say, Idle, Leave}
use Rattle.house.specs.AnyScene.{Prints, prints_all, prints_none, of_session, with_session, BytesPlay, ClosePlay, ConnectionHears, ConnectionPuts, EnterPlay, HearPlay, Happened, IdlePlay, LeavePlay, LeavesMailbox, Lingers, Moves, Parts, Plays, PutPlay, SayPlay, Scene, SessionGoes, SessionHears, SessionPuts, SessionTalks, VanishPlay, comes_in, connection_hears, connection_puts, empty_scene, fades, goes_on, opens, parts, place_of, remains, seat_of, session_hears, session_puts, waits}
use Rattle.house_peers.specs.AnyVisitor.{SeatedVisitor, seated_greeted, session_more_waits as visitor_more_waits}
use Rattle.house.specs.AnyScene as scene
use Rattle.exactly_once.specs.AnyPromise.{HearsItsOwn, HearsLines, PutsLines, serial_of, Said, Piece, Replies, Lines, Silence, text_of, IsOwn, Entry, IsRecord, told_in, verdicts_of, TellsOnce, NoneTwice, ExactlyOnce}
use Rattle.exactly_once.proofs.Grown.{heard_stays_heard, moves, stays, reached_then}
use Rattle.exactly_once.proofs.Told.{AreTold, InOrder, IsTold, none_told, told_front}
use Rattle.exactly_once.proofs.Lines.{cut_of, goes_both, whole_append}
use Rattle.exactly_once.proofs.Saying.{ConnectionOk, Spoke, caller_grows, greeted_talking, proceeds_spoke, unread_silent, verdicts}

-- nothing was told yet
abbrev pub none_yet : ℕ → List Noted
none_yet p = []

pub below_itself : (a b : CopyKey) → Below a b → a ≢ b
below_itself a b (inl l) e = let x = ap (λ (y : CopyKey). y.serial) e in absurd (omega (arith, l, x))
below_itself a b (inr (s, inl l)) e = let x = ap (λ (y : CopyKey). y.message) e in absurd (omega (arith, l, x))
below_itself a b (inr (s, inr (m, l))) e = let x = ap (λ (y : CopyKey). y.recipient) e in absurd (omega (arith, l, x))

module _ (peers : Peers) where
  pub none_twice : (w : World) (entries : List (Entry peers)) → TellsOnce peers w entries → NoneTwice peers entries
  none_twice w entries h = record {
    at_a_seat = λ p i j d l m. below_itself _ _ (h.in_order p i j d l m);
    at_two = λ p q a b other here there e. other (sym (All-contains (λ n. n.key.seat ≡ p) (verdicts_of peers p entries) a (h.at_own_seat p) here) ∙ ap (λ (x : CopyKey). x.seat) e
        ∙ All-contains (λ n. n.key.seat ≡ q) (verdicts_of peers q entries) b (h.at_own_seat q) there);
  }

module _ (peers : Peers) (speaks : IsSpeech peers.speech) (visits : AreGuests peers) where
  -- what a session has still to print is whole lines
  abbrev pub SessionOk : Option (SeatedVisitor peers.guest) → Type 0
  SessionOk None = Unit {0}
  SessionOk (Some v) = AreLines v.session.unsaid

  -- what every event keeps, where these verdicts were told at each seat: what callers have still to print comes after them
  pub record SceneOk (k : Setup) (told : ℕ → List Noted) (s : Scene peers) : Type 0 where
    pub callers : (seat : ℕ) → ConnectionOk peers speaks k seat (s.world.heard seat) (s.next seat) (told seat) (s.caller seat)
    pub visitors : (place : ℕ) → SessionOk (s.visitor place)

  pub told_same : (k : Setup) (told more : ℕ → List Noted) (s : Scene peers) → ((p : ℕ) → told p ≡ more p) → SceneOk k told s → SceneOk k more s
  told_same k told more s same ok = record {
    callers = λ j. subst (λ (x : List Noted). ConnectionOk peers speaks k j (s.world.heard j) (s.next j) x (s.caller j)) (same j) (ok.callers j);
    visitors = ok.visitors;
  }

  -- the same after a piece was printed
  abbrev pub with_piece : (ℕ → List Noted) → (Piece peers) → ℕ → List Noted
  with_piece told piece p = told p ++ told_in peers p piece

  -- what an event printed, of its own, and what it led to
  pub record Did (k : Setup) (told : ℕ → List Noted) (s : Scene peers) (e : Event) (t : Scene peers) (printed : List ℕ) : Type 0 where
    pub piece : (Piece peers)
    pub is : printed ≡ text_of peers k piece
    pub own : IsOwn peers k s e t piece
    pub ok : SceneOk k (with_piece told piece) t
    pub reached : Reached k.config s.world t.world

  -- from one scene to another
  pub record Went (k : Setup) (told : ℕ → List Noted) (s t : Scene peers) (printed : List ℕ) : Type 0 where
    pub entries : List (Entry peers)
    pub leads : IsRecord peers k entries s t
    pub is : printed ≡ flat_map (λ entry. text_of peers k entry.piece) entries
    pub ok : SceneOk k (λ p. told p ++ verdicts_of peers p entries) t
    pub reached : Reached k.config s.world t.world

  -- ---- one event

  -- a seat at which nobody does anything
  seat_stays : (k : Setup) (told : ℕ → List Noted) (s : Scene peers) (v : World) (seat next : ℕ) → SceneOk k told s → Reached k.config s.world v → s.next seat ≤ next
      → ConnectionOk peers speaks k seat (v.heard seat) next (told seat ++ []) (s.caller seat)
  seat_stays k told s v seat next ok r l =
      subst (λ (x : List Noted). ConnectionOk peers speaks k seat (v.heard seat) next x (s.caller seat)) (sym (append-nil (told seat)))
      (caller_grows peers speaks k seat (s.world.heard seat) (v.heard seat) (s.next seat) next (told seat) (s.caller seat) (λ n c. heard_stays_heard k.config s.world r.0 v seat n r.1 c) l (ok.callers seat))

  -- the connection at a seat went on in a world that may have moved
  caller_did : (k : Setup) (told : ℕ → List Noted) (s : Scene peers) (e : Event) (v : World) (seat : ℕ) (o : Option (Caller peers.speech)) (next : ℕ → ℕ) (printed : List ℕ) → SceneOk k told s → Reached k.config s.world v
      → ((t : Scene peers) (said : List (Said peers)) → HearsItsOwn peers s seat said → IsOwn peers k s e t (Replies seat said)) → ((j : ℕ) → s.next j ≤ next j) → (serial : ℕ) → serial ≡ serial_of peers (s.next seat) (s.caller seat) → Spoke peers speaks k seat serial (v.heard seat) (next seat) (told seat) o printed
      → Did k told s e (record { world = v; caller = set_at s.caller seat o; next = next; visitor = s.visitor; entered = s.entered; shut = s.shut }) printed
  caller_did k told s e v seat o next printed ok r own l serial here spoke = record {
    piece = Replies seat spoke.said;
    is = spoke.is;
    own = own _ spoke.said (subst (λ (x : ℕ). All (λ n. n.key.serial ≡ x) (verdicts peers speaks spoke.said)) here (all_of_every (λ n. n.key.serial ≡ serial) (verdicts peers speaks spoke.said) spoke.own));
    ok = record { callers = λ j. at j (eqb_tells j seat); visitors = ok.visitors };
    reached = r;
  }
    where
      at : (j : ℕ) → ((eqb j seat ≡ true) × (j ≡ seat)) ⊎ ((eqb j seat ≡ false) × (j ≢ seat)) → ConnectionOk peers speaks k j (v.heard j) (next j) (told j ++ told_in peers j (Replies seat spoke.said)) (set_at s.caller seat o j)
      at j (inl (t, same)) = rw t (rw same spoke.left)
      at j (inr (f, other)) = rw f (seat_stays k told s v j (next j) ok r (l j))

  -- the same of who stands at a seat, where it prints nothing
  seat_did : (k : Setup) (told : ℕ → List Noted) (s : Scene peers) (e : Event) (seat : ℕ) (o : Option (Caller peers.speech)) (printed : List ℕ) → SceneOk k told s
      → ConnectionOk peers speaks k seat (s.world.heard seat) (s.next seat) (told seat) o → printed ≡ []
      → Did k told s e (record { world = s.world; caller = set_at s.caller seat o; next = s.next; visitor = s.visitor; entered = s.entered; shut = s.shut }) printed
  seat_did k told s e seat o printed ok here is = record {
    piece = Silence;
    is = is;
    own = tt;
    ok = record { callers = λ j. at j (eqb_tells j seat); visitors = ok.visitors };
    reached = stays k.config s.world s.world refl;
  }
    where
      at : (j : ℕ) → ((eqb j seat ≡ true) × (j ≡ seat)) ⊎ ((eqb j seat ≡ false) × (j ≢ seat)) → ConnectionOk peers speaks k j (s.world.heard j) (s.next j) (told j ++ []) (set_at s.caller seat o j)
      at j (inl (t, same)) = rw t (rw same (subst (λ (x : List Noted). ConnectionOk peers speaks k seat (s.world.heard seat) (s.next seat) x o) (sym (append-nil (told seat))) here))
      at j (inr (f, other)) = rw f (seat_stays k told s s.world j (s.next j) ok (stays k.config s.world s.world refl) (omega arith))

  -- who stands at a seat, in a world that may have moved
  at_seat : (k : Setup) (told : ℕ → List Noted) (s : Scene peers) (v : World) (seat : ℕ) (b : Caller peers.speech) → SceneOk k told s → Reached k.config s.world v → s.caller seat ≡ Some b
      → ConnectionOk peers speaks k seat (v.heard seat) (s.next seat) (told seat) (Some b)
  at_seat k told s v seat b ok r there =
      caller_grows peers speaks k seat (s.world.heard seat) (v.heard seat) (s.next seat) (s.next seat) (told seat) (Some b) (λ n c. heard_stays_heard k.config s.world r.0 v seat n r.1 c) (omega arith)
      (subst (ConnectionOk peers speaks k seat (s.world.heard seat) (s.next seat) (told seat)) there (ok.callers seat))

  one_later : (f : ℕ → ℕ) (i j : ℕ) → f j ≤ set_at f i (f i + 1) j
  one_later f i j = at_cases (λ n. f j ≤ n) f i (f i + 1) j (λ same. rw same (omega arith)) (λ other. omega arith)

  bytes_did : (k : Setup) (told : ℕ → List Noted) (s : Scene peers) (e : Event) (seat : ℕ) (piece : List ℕ) (t : Scene peers) (printed : List ℕ) → ((t : Scene peers) (said : List (Said peers)) → HearsItsOwn peers s seat said → IsOwn peers k s e t (Replies seat said))
      → SceneOk k told s → BytesPlay peers k false s seat piece t printed → Did k told s e t printed
  bytes_did k told s e seat piece t printed own ok (opens there free more o g after) =
      let next = set_at s.next seat (s.next seat + 1) in
      let later : s.next seat + 1 ≡ next seat = sym (set_at-same s.next seat (s.next seat + 1)) in
      let fresh : ConnectionOk peers speaks k seat (s.world.heard seat) (s.next seat) (told seat) None = subst (ConnectionOk peers speaks k seat (s.world.heard seat) (s.next seat) (told seat)) free (ok.callers seat) in
      rw after (caller_did k told s e s.world seat o next printed ok (stays k.config s.world s.world refl) own (one_later s.next seat) (s.next seat) (ap (serial_of peers (s.next seat)) (sym free))
      (proceeds_spoke peers speaks k s.shut false seat (s.world.heard seat) (next seat) (told seat) (more_waits peers.speech (greeted peers.speech (terms_of k s.shut) seat (s.next seat)) piece) o printed
      (greeted_talking peers speaks k s.shut seat (s.next seat) (s.world.heard seat) (told seat) (next seat) (omega (arith, later)) fresh) g))
  bytes_did k told s e seat piece t printed own ok (goes_on b there read o g after) =
      let r = stays k.config s.world s.world refl in
      rw after (caller_did k told s e s.world seat o s.next printed ok r own (λ j. omega arith) b.serial (ap (serial_of peers (s.next seat)) (sym there))
      (proceeds_spoke peers speaks k s.shut false seat (s.world.heard seat) (s.next seat) (told seat) (more_waits peers.speech b piece) o printed (at_seat k told s s.world seat b ok r there) g))

  connection_put_did : (k : Setup) (told : ℕ → List Noted) (s : Scene peers) (e : Event) (seat : ℕ) (t : Scene peers) (printed : List ℕ) → ((t : Scene peers) (said : List (Said peers)) → HearsItsOwn peers s seat said → IsOwn peers k s e t (Replies seat said))
      → SceneOk k told s → ConnectionPuts peers k false s seat t printed → Did k told s e t printed
  connection_put_did k told s e seat t printed own ok p =
      let r = moves k.config s.world p.moved (world.Put seat (world.shard_of k.config p.copy.mailbox) p.copy) p.step in
      rw p.after (caller_did k told s e p.moved seat p.left s.next printed ok r own (λ j. omega arith) p.caller.serial (ap (serial_of peers (s.next seat)) (sym p.there))
      (proceeds_spoke peers speaks k s.shut false seat (p.moved.heard seat) (s.next seat) (told seat) (record { serial = p.caller.serial; gone = p.caller.gone; talk = p.caller.talk; to_put = p.others }) p.left printed
      (at_seat k told s p.moved seat p.caller ok r p.there) p.goes))

  connection_hear_did : (k : Setup) (told : ℕ → List Noted) (s : Scene peers) (e : Event) (seat : ℕ) (t : Scene peers) (printed : List ℕ) → ((t : Scene peers) (said : List (Said peers)) → HearsItsOwn peers s seat said → IsOwn peers k s e t (Replies seat said))
      → SceneOk k told s → ConnectionHears peers k false s seat t printed → Did k told s e t printed
  connection_hear_did k told s e seat t printed own ok p =
      let r = moves k.config s.world p.moved (world.Hear seat) p.step in
      rw p.after (caller_did k told s e p.moved seat p.left s.next printed ok r own (λ j. omega arith) p.caller.serial (ap (serial_of peers (s.next seat)) (sym p.there))
      (proceeds_spoke peers speaks k s.shut false seat (p.moved.heard seat) (s.next seat) (told seat) p.caller p.left printed (at_seat k told s p.moved seat p.caller ok r p.there) p.goes))

  vanish_did : (k : Setup) (told : ℕ → List Noted) (s : Scene peers) (e : Event) (seat : ℕ) (t : Scene peers) (printed : List ℕ)
      → SceneOk k told s → VanishPlay peers k false s seat t printed → Did k told s e t printed
  vanish_did k told s e seat t printed ok p =
      let here = at_seat k told s s.world seat p.caller ok (stays k.config s.world s.world refl) p.there in
      let u = unread_silent peers speaks k s.shut false seat (s.world.heard seat) (s.next seat) (told seat) p.caller p.left printed here p.goes in
      rw p.after (seat_did k told s e seat p.left printed ok u.0 u.1)

  -- ---- what no connection says

  -- what is left of the callers where none of them did anything, and of the visitors
  nobody_spoke : (k : Setup) (told : ℕ → List Noted) (s : Scene peers) (v : World) (visitor : ℕ → Option (SeatedVisitor peers.guest)) (entered : ℕ → ℕ) → SceneOk k told s → Reached k.config s.world v → ((place : ℕ) → SessionOk (visitor place))
      → SceneOk k (λ p. told p ++ []) (record { world = v; caller = s.caller; next = s.next; visitor = visitor; entered = entered; shut = s.shut })
  nobody_spoke k told s v visitor entered ok r visitors = record { callers = λ j. seat_stays k told s v j (s.next j) ok r (omega arith); visitors = visitors }

  moves_did : (k : Setup) (told : ℕ → List Noted) (s : Scene peers) (e : Event) (event : world.Event) (t : Scene peers) (printed : List ℕ) → SceneOk k told s
      → Moves peers k s event t printed → Did k told s e t printed
  moves_did k told s e event t printed ok m =
      let r = moves k.config s.world m.moved event m.step in
      rw m.after (record { piece = Silence; is = m.silent; own = tt; ok = nobody_spoke k told s m.moved s.visitor s.entered ok r ok.visitors; reached = r })

  -- a shard is shut, and nobody says a word
  close_did : (k : Setup) (told : ℕ → List Noted) (s : Scene peers) (shard : ℕ) (t : Scene peers) (printed : List ℕ) → SceneOk k told s → ClosePlay peers k s shard t printed → Did k told s (Close shard) t printed
  close_did k told s shard t printed ok p =
      let r = stays k.config s.world s.world refl in
      rw p.after (record { piece = Silence; is = p.silent; own = tt; ok = record { callers = λ j. seat_stays k told s s.world j (s.next j) ok r (omega arith); visitors = ok.visitors }; reached = r })

  -- ---- sessions

  leaves_reached : (k : Setup) (place : ℕ) (w v : World) → LeavesMailbox peers k place w v → Reached k.config w v
  leaves_reached k place w v l = visits.meets k.config place w peers.guest.leave l.0 v l.1

  pub parts_reached : (k : Setup) (whole : Bool) (place : ℕ) (after : SeatedVisitor peers.guest) (w v : World) (o : Option (SeatedVisitor peers.guest)) → Parts peers k whole place after w v o → Reached k.config w v
  parts_reached k whole place after w v o (parts ended said l e) = leaves_reached k place w v l
  parts_reached k whole place after w v o (remains not e f) = stays k.config w v e

  -- what a session printed of these bytes, which are whole lines: nothing, or all
  data Wrote (k : Setup) (n : ℕ) (bytes printed : List ℕ) : Type 0 where
    nothing : printed ≡ [] → Wrote k n bytes printed
    wrote : (lines : List (List ℕ)) → IsCut bytes lines [] → printed ≡ text_of peers k (Lines n lines) → Wrote k n bytes printed

  wrote_of : (k : Setup) (n : ℕ) (bytes still printed : List ℕ) → AreLines bytes → Prints of_session n bytes still printed → Wrote k n bytes printed
  wrote_of k n bytes still printed w (prints_none l p) = nothing p
  wrote_of k n bytes still printed w (prints_all l p) =
      let cut = cut_of bytes w in
      wrote cut.0 cut.1 (p ∙ ap (λ (x : List ℕ). marked of_session n x) (cut.1.whole ∙ append-nil (joined cut.0)))

  -- what it has still to print
  unsaid_whole : (n : ℕ) (bytes still printed : List ℕ) → AreLines bytes → Prints of_session n bytes still printed → AreLines still
  unsaid_whole n bytes still printed w (prints_all l p) = inl l
  unsaid_whole n bytes still printed w (prints_none l p) = subst AreLines (sym l) w

  left_whole : (k : Setup) (place : ℕ) (after : SeatedVisitor peers.guest) (w v : World) (o : Option (SeatedVisitor peers.guest)) → AreLines after.session.unsaid → Parts peers k false place after w v o → SessionOk o
  left_whole k place after w v o whole (parts ended said l e) = rw e tt
  left_whole k place after w v o whole (remains not e f) = rw f whole

  lingers_whole : (seat : ℕ) (heard : List Noted) (v : SeatedVisitor peers.guest) (o : Option (SeatedVisitor peers.guest)) → AreLines v.session.unsaid → Lingers peers seat heard v o → SessionOk o
  lingers_whole seat heard v o whole (waits a e) = rw e whole
  lingers_whole seat heard v o whole (fades a e) = rw e tt

  -- who is at a place, and its session's bytes
  at_place : (k : Setup) (told : ℕ → List Noted) (s : Scene peers) (place : ℕ) (b : SeatedVisitor peers.guest) → SceneOk k told s → s.visitor place ≡ Some b → AreLines b.session.unsaid
  at_place k told s place b ok there = subst SessionOk there (ok.visitors place)

  -- a session went on, and may have left
  visited : (k : Setup) (told : ℕ → List Noted) (s : Scene peers) (v : World) (place : ℕ) (o : Option (SeatedVisitor peers.guest)) (entered : ℕ → ℕ) → SceneOk k told s → Reached k.config s.world v → SessionOk o
      → SceneOk k (λ p. told p ++ []) (record { world = v; caller = s.caller; next = s.next; visitor = set_at s.visitor place o; entered = entered; shut = s.shut })
  visited k told s v place o entered ok r here = nobody_spoke k told s v (set_at s.visitor place o) entered ok r (at_each (λ j x. SessionOk x) s.visitor place o ok.visitors here)

  -- what a session's bytes and its place came to
  record Visited (k : Setup) (told : ℕ → List Noted) (s t : Scene peers) (n : ℕ) (bytes printed : List ℕ) : Type 0 where
    pub words : Wrote k n bytes printed
    pub ok : SceneOk k (λ p. told p ++ []) t
    pub reached : Reached k.config s.world t.world

  -- from a world that the scene's has come to
  goes_visited : (k : Setup) (told : ℕ → List Noted) (s : Scene peers) (w : World) (place : ℕ) (heard : List Noted) (b : SeatedVisitor peers.guest) (v : World) (o : Option (SeatedVisitor peers.guest)) (printed : List ℕ) (entered : ℕ → ℕ) → SceneOk k told s → Reached k.config s.world w
      → AreLines b.session.unsaid → (g : SessionTalks peers k false place heard w b v o printed)
      → Visited k told s (record { world = v; caller = s.caller; next = s.next; visitor = set_at s.visitor place o; entered = entered; shut = s.shut }) (place + 1) (b.session.unsaid ++ g.speaks.said) printed
  goes_visited k told s w place heard b v o printed entered ok came whole g =
      let bytes = b.session.unsaid ++ g.speaks.said in
      let both = goes_both peers visits k.config place false (session_seat k place) heard b w g.mid g.speaks.spoken g.speaks.said g.speaks.goes in
      let all = whole_append b.session.unsaid g.speaks.said whole both.0 in
      let r = reached_then k.config s.world w v came (reached_then k.config w g.mid v both.1 (parts_reached k false place g.after g.mid v o g.left)) in
      let still : AreLines g.after.session.unsaid = subst (λ (x : SeatedVisitor peers.guest). AreLines x.session.unsaid) (sym g.speaks.is) (unsaid_whole (place + 1) bytes g.speaks.still printed all g.speaks.prints) in
      record {
        words = wrote_of k (place + 1) bytes g.speaks.still printed all g.speaks.prints;
        ok = visited k told s v place o entered ok r (left_whole k place g.after g.mid v o still g.left);
        reached = r;
      }

  enter_did : (k : Setup) (told : ℕ → List Noted) (s : Scene peers) (session : ℕ) (user : Bor (List ℕ)) (t : Scene peers) (printed : List ℕ) → SceneOk k told s
      → EnterPlay peers k false s (place_of session) user.now t printed → Did k told s (Enter session user) t printed
  enter_did k told s session user t printed ok p = go (subst (λ (x : Scene peers). Visited k told s x (place_of session + 1) (peers.guest.greeting (comes_in peers k user.now) ++ p.goes.speaks.said) printed) (sym p.after)
      (goes_visited k told s s.world (place_of session) (s.world.heard (session_seat k (place_of session))) (seated_greeted peers.guest (s.entered (place_of session)) (comes_in peers k user.now)) p.moved p.left printed
      (set_at s.entered (place_of session) (s.entered (place_of session) + 1)) ok (stays k.config s.world s.world refl) (visits.greets (comes_in peers k user.now)) p.goes))
    where
      by : (v : Visited k told s t (place_of session + 1) (peers.guest.greeting (comes_in peers k user.now) ++ p.goes.speaks.said) printed) → Wrote k (place_of session + 1) (peers.guest.greeting (comes_in peers k user.now) ++ p.goes.speaks.said) printed → Did k told s (Enter session user) t printed
      by v (nothing e) = record { piece = Silence; is = e; own = tt; ok = v.ok; reached = v.reached }
      by v (wrote lines cut e) = record {
        piece = Lines (place_of session + 1) lines;
        is = e;
        own = (let x = subst (λ (x : List ℕ). (p : EnterPlay peers k false s (place_of session) user.now t x) × IsCut (peers.guest.greeting (comes_in peers k user.now) ++ p.goes.speaks.said) lines []) e (p, cut) in (refl, x.0, x.1));
        ok = v.ok;
        reached = v.reached;
      }

      go : Visited k told s t (place_of session + 1) (peers.guest.greeting (comes_in peers k user.now) ++ p.goes.speaks.said) printed → Did k told s (Enter session user) t printed
      go v = by v v.words

  say_did : (k : Setup) (told : ℕ → List Noted) (s : Scene peers) (session : ℕ) (piece : Bor (List ℕ)) (t : Scene peers) (printed : List ℕ) → SceneOk k told s
      → SayPlay peers k false s (place_of session) piece.now t printed → Did k told s (Say session piece) t printed
  say_did k told s session piece t printed ok p = go (subst (λ (x : Scene peers). Visited k told s x (place_of session + 1) (p.visitor.session.unsaid ++ p.goes.speaks.said) printed) (sym p.after)
      (goes_visited k told s s.world (place_of session) (s.world.heard (session_seat k (place_of session))) (with_session peers.guest (visitor_more_waits peers.guest p.visitor.session piece.now) p.visitor) p.moved p.left printed s.entered ok (stays k.config s.world s.world refl)
      (at_place k told s (place_of session) p.visitor ok p.there) p.goes))
    where
      by : (v : Visited k told s t (place_of session + 1) (p.visitor.session.unsaid ++ p.goes.speaks.said) printed) → Wrote k (place_of session + 1) (p.visitor.session.unsaid ++ p.goes.speaks.said) printed → Did k told s (Say session piece) t printed
      by v (nothing e) = record { piece = Silence; is = e; own = tt; ok = v.ok; reached = v.reached }
      by v (wrote lines cut e) = record {
        piece = Lines (place_of session + 1) lines;
        is = e;
        own = (let x = subst (λ (x : List ℕ). (p : SayPlay peers k false s (place_of session) piece.now t x) × IsCut (p.visitor.session.unsaid ++ p.goes.speaks.said) lines []) e (p, cut) in (refl, x.0, x.1));
        ok = v.ok;
        reached = v.reached;
      }

      go : Visited k told s t (place_of session + 1) (p.visitor.session.unsaid ++ p.goes.speaks.said) printed → Did k told s (Say session piece) t printed
      go v = by v v.words

  idle_did : (k : Setup) (told : ℕ → List Noted) (s : Scene peers) (session : ℕ) (t : Scene peers) (printed : List ℕ) → SceneOk k told s
      → IdlePlay peers k false s (place_of session) t printed → Did k told s (Idle session) t printed
  idle_did k told s session t printed ok p = by words
    where
      both : AreLines p.goes.idles.said × Reached k.config s.world p.goes.mid
      both = visits.idles k.config (place_of session) p.visitor.session.standing p.goes.after.standing p.goes.shown p.goes.idles.said s.world p.goes.mid p.goes.idles.turned

      whole : AreLines (p.visitor.session.unsaid ++ p.goes.idles.said)
      whole = whole_append p.visitor.session.unsaid p.goes.idles.said (at_place k told s (place_of session) p.visitor ok p.there)
          both.0

      words : Wrote k (place_of session + 1) (p.visitor.session.unsaid ++ p.goes.idles.said) printed
      words = wrote_of k (place_of session + 1) (p.visitor.session.unsaid ++ p.goes.idles.said) p.goes.after.unsaid printed whole p.goes.idles.prints

      reached : Reached k.config s.world p.moved
      reached = reached_then k.config s.world p.goes.mid p.moved both.1
          (parts_reached k false (place_of session) (with_session peers.guest p.goes.after p.visitor) p.goes.mid p.moved p.left p.goes.left)

      there : SceneOk k (λ q. told q ++ []) t
      there = rw p.after (visited k told s p.moved (place_of session) p.left s.entered ok reached
          (left_whole k (place_of session) (with_session peers.guest p.goes.after p.visitor) p.goes.mid p.moved p.left
          (unsaid_whole (place_of session + 1) (p.visitor.session.unsaid ++ p.goes.idles.said) p.goes.after.unsaid printed whole p.goes.idles.prints) p.goes.left))

      reached_there : Reached k.config s.world t.world
      reached_there = rw p.after reached

      by : Wrote k (place_of session + 1) (p.visitor.session.unsaid ++ p.goes.idles.said) printed → Did k told s (Idle session) t printed
      by (nothing e) = record { piece = Silence; is = e; own = tt; ok = there; reached = reached_there }
      by (wrote lines cut e) = record {
        piece = Lines (place_of session + 1) lines;
        is = e;
        own = (let x = subst (λ (x : List ℕ). (p : IdlePlay peers k false s (place_of session) t x) × IsCut (p.visitor.session.unsaid ++ p.goes.idles.said) lines []) e (p, cut) in (refl, x.0, x.1));
        ok = there;
        reached = reached_there;
      }

  leave_did : (k : Setup) (told : ℕ → List Noted) (s : Scene peers) (e : Event) (place : ℕ) (t : Scene peers) (printed : List ℕ) → SceneOk k told s
      → LeavePlay peers k s place t printed → Did k told s e t printed
  leave_did k told s e place t printed ok p =
      let r = leaves_reached k place s.world p.moved p.leaves in
      rw p.after (record { piece = Silence; is = p.silent; own = tt; ok = visited k told s p.moved place p.left s.entered ok r (lingers_whole (session_seat k place) (s.world.heard (session_seat k place)) _ p.left (inl refl) p.stays); reached = r })

  -- ---- sessions that put and hear

  -- one whose client is gone says nothing
  gone_did : (k : Setup) (told : ℕ → List Noted) (s : Scene peers) (e : Event) (w : World) (place : ℕ) (b : SeatedVisitor peers.guest) (o : Option (SeatedVisitor peers.guest)) (t : Scene peers) (printed : List ℕ) → SceneOk k told s → Reached k.config s.world w → AreLines b.session.unsaid
      → (heard : List Noted) → Lingers peers (session_seat k place) heard b o → printed ≡ [] → t ≡ record { world = w; caller = s.caller; next = s.next; visitor = set_at s.visitor place o; entered = s.entered; shut = s.shut } → Did k told s e t printed
  gone_did k told s e w place b o t printed ok came whole heard l silent after =
      rw after (record { piece = Silence; is = silent; own = tt; ok = visited k told s w place o s.entered ok came (lingers_whole (session_seat k place) heard b o whole l); reached = came })

  -- one that talks prints whole lines, which are of this kind, or nothing
  talked_did : (k : Setup) (told : ℕ → List Noted) (s : Scene peers) (e : Event) (n : ℕ) (bytes : List ℕ) (t : Scene peers) (printed : List ℕ) → Visited k told s t n bytes printed
      → ((lines : List (List ℕ)) → IsCut bytes lines [] → printed ≡ text_of peers k (Lines n lines) → IsOwn peers k s e t (Lines n lines)) → Did k told s e t printed
  talked_did k told s e n bytes t printed v own = by v.words
    where
      by : Wrote k n bytes printed → Did k told s e t printed
      by (nothing silent) = record { piece = Silence; is = silent; own = tt; ok = v.ok; reached = v.reached }
      by (wrote lines cut is) = record { piece = Lines n lines; is = is; own = own lines cut is; ok = v.ok; reached = v.reached }

  session_put_did : (k : Setup) (told : ℕ → List Noted) (s : Scene peers) (number place : ℕ) (t : Scene peers) (printed : List ℕ) → seat_of number ≡ session_seat k place → SceneOk k told s → SessionPuts peers k false s place t printed → Did k told s (Put number) t printed
  session_put_did k told s number place t printed at ok p = by p.goes
    where
      rest : SeatedVisitor peers.guest
      rest = record { session = p.visitor.session; serial = p.visitor.serial; gone = p.visitor.gone; to_put = p.others }

      came : Reached k.config s.world p.moved
      came = moves k.config s.world p.moved (world.Put (session_seat k place) (world.shard_of k.config p.copy.mailbox) p.copy) p.step

      by : SessionGoes peers k false place (p.moved.heard (session_seat k place)) p.moved (record { session = p.visitor.session; serial = p.visitor.serial; gone = p.visitor.gone; to_put = p.others }) p.later p.left printed → Did k told s (Put number) t printed
      by (scene.talks l g) = talked_did k told s (Put number) (place + 1) (p.visitor.session.unsaid ++ g.speaks.said) t printed
          (subst (λ (x : Scene peers). Visited k told s x (place + 1) (p.visitor.session.unsaid ++ g.speaks.said) printed) (sym p.after)
          (goes_visited k told s p.moved place (p.moved.heard (session_seat k place)) rest p.later p.left printed s.entered ok came (at_place k told s place p.visitor ok p.there) g))
          (λ lines cut is. own lines is (p, g, cut))
        where
          own : (lines : List (List ℕ)) → printed ≡ text_of peers k (Lines (place + 1) lines)
              → (q : SessionPuts peers k false s place t printed) × (g : SessionTalks peers k false place (q.moved.heard (session_seat k place)) q.moved (record { session = q.visitor.session; serial = q.visitor.serial; gone = q.visitor.gone; to_put = q.others }) q.later q.left printed)
              × IsCut (q.visitor.session.unsaid ++ g.speaks.said) lines [] → PutsLines peers k s number (place + 1) lines t
          own lines is q =
              let x = subst (λ (x : List ℕ). (q : SessionPuts peers k false s place t x) × (g : SessionTalks peers k false place (q.moved.heard (session_seat k place)) q.moved (record { session = q.visitor.session; serial = q.visitor.serial; gone = q.visitor.gone; to_put = q.others }) q.later q.left x)
              × IsCut (q.visitor.session.unsaid ++ g.speaks.said) lines []) is q in
              record { place = place; own = refl; seat = at; puts = x.0; talks = x.1; cut = x.2 }
      by (scene.lingers l g same silent) = gone_did k told s (Put number) p.later place rest p.left t printed ok (subst (λ (x : World). Reached k.config s.world x) (sym same) came) (at_place k told s place p.visitor ok p.there) (p.moved.heard (session_seat k place)) g silent p.after

  session_hear_did : (k : Setup) (told : ℕ → List Noted) (s : Scene peers) (number place : ℕ) (t : Scene peers) (printed : List ℕ) → seat_of number ≡ session_seat k place → SceneOk k told s → SessionHears peers k false s place t printed → Did k told s (Hear number) t printed
  session_hear_did k told s number place t printed at ok p = by p.goes
    where
      came : Reached k.config s.world p.moved
      came = moves k.config s.world p.moved (world.Hear (session_seat k place)) p.step

      by : SessionGoes peers k false place (p.moved.heard (session_seat k place)) p.moved p.visitor p.later p.left printed → Did k told s (Hear number) t printed
      by (scene.talks l g) = talked_did k told s (Hear number) (place + 1) (p.visitor.session.unsaid ++ g.speaks.said) t printed
          (subst (λ (x : Scene peers). Visited k told s x (place + 1) (p.visitor.session.unsaid ++ g.speaks.said) printed) (sym p.after)
          (goes_visited k told s p.moved place (p.moved.heard (session_seat k place)) p.visitor p.later p.left printed s.entered ok came (at_place k told s place p.visitor ok p.there) g))
          (λ lines cut is. own lines is (p, g, cut))
        where
          own : (lines : List (List ℕ)) → printed ≡ text_of peers k (Lines (place + 1) lines)
              → (q : SessionHears peers k false s place t printed) × (g : SessionTalks peers k false place (q.moved.heard (session_seat k place)) q.moved q.visitor q.later q.left printed) × IsCut (q.visitor.session.unsaid ++ g.speaks.said) lines []
              → HearsLines peers k s number (place + 1) lines t
          own lines is q =
              let x = subst (λ (x : List ℕ). (q : SessionHears peers k false s place t x) × (g : SessionTalks peers k false place (q.moved.heard (session_seat k place)) q.moved q.visitor q.later q.left x) × IsCut (q.visitor.session.unsaid ++ g.speaks.said) lines []) is q in
              record { place = place; own = refl; seat = at; hears = x.0; talks = x.1; cut = x.2 }
      by (scene.lingers l g same silent) = gone_did k told s (Hear number) p.later place p.visitor p.left t printed ok (subst (λ (x : World). Reached k.config s.world x) (sym same) came) (at_place k told s place p.visitor ok p.there) (p.moved.heard (session_seat k place)) g silent p.after

  -- ---- of both kinds

  put_did : (k : Setup) (told : ℕ → List Noted) (s : Scene peers) (number : ℕ) (t : Scene peers) (printed : List ℕ) → SceneOk k told s → PutPlay peers k false s (seat_of number) t printed → Did k told s (Put number) t printed
  put_did k told s number t printed ok (connection_puts l p) = connection_put_did k told s (Put number) (seat_of number) t printed (λ u said x. (refl, l, x)) ok p
  put_did k told s number t printed ok (session_puts place e p) = session_put_did k told s number place t printed e ok p

  hear_did : (k : Setup) (told : ℕ → List Noted) (s : Scene peers) (number : ℕ) (t : Scene peers) (printed : List ℕ) → SceneOk k told s → HearPlay peers k false s (seat_of number) t printed → Did k told s (Hear number) t printed
  hear_did k told s number t printed ok (connection_hears l p) = connection_hear_did k told s (Hear number) (seat_of number) t printed (λ u said x. (refl, l, x)) ok p
  hear_did k told s number t printed ok (session_hears place e p) = session_hear_did k told s number place t printed e ok p

  -- ---- all events

  pub plays_did : (k : Setup) (told : ℕ → List Noted) (s : Scene peers) (e : Event) (t : Scene peers) (printed : List ℕ) → SceneOk k told s → Plays peers k false s e t printed → Did k told s e t printed
  plays_did k told s (Bytes connection piece) t printed ok p = bytes_did k told s (Bytes connection piece) (seat_of connection) piece.now t printed (λ u said x. (refl, x)) ok p
  plays_did k told s (Vanish connection) t printed ok p = vanish_did k told s (Vanish connection) (seat_of connection) t printed ok p
  plays_did k told s (Put number) t printed ok p = put_did k told s number t printed ok p
  plays_did k told s (Take shard) t printed ok p = moves_did k told s (Take shard) (world.Take shard) t printed ok p
  plays_did k told s (Deliver shard) t printed ok p = moves_did k told s (Deliver shard) (world.Deliver shard) t printed ok p
  plays_did k told s (Answer shard) t printed ok p = moves_did k told s (Answer shard) (world.Answer shard) t printed ok p
  plays_did k told s (Hear number) t printed ok p = hear_did k told s number t printed ok p
  plays_did k told s (End connection shard) t printed ok p = moves_did k told s (End connection shard) (world.PutEnd (seat_of connection) shard) t printed ok p
  plays_did k told s (Close shard) t printed ok p = close_did k told s shard t printed ok p
  plays_did k told s (Enter session user) t printed ok p = enter_did k told s session user t printed ok p
  plays_did k told s (Say session piece) t printed ok p = say_did k told s session piece t printed ok p
  plays_did k told s (Idle session) t printed ok p = idle_did k told s session t printed ok p
  plays_did k told s (Leave session) t printed ok p = leave_did k told s (Leave session) (place_of session) t printed ok p

  -- ---- many events

  -- an event that was played is an entry
  pub entry_went : (k : Setup) (told : ℕ → List Noted) (s : Scene peers) (e : Event) (t : Scene peers) (printed : List ℕ) → Plays peers k false s e t printed → Did k told s e t printed → Went k told s t printed
  entry_went k told s e t printed p d = record {
    entries = record { event = e; after = t; piece = d.piece } ∷ [];
    leads = (record { plays = subst (Plays peers k false s e t) d.is p; own = d.own }, refl);
    is = d.is ∙ sym (append-nil (text_of peers k d.piece));
    ok = told_same k (with_piece told d.piece) (λ p. told p ++ verdicts_of peers p (record { event = e; after = t; piece = d.piece } ∷ [])) t (λ j. ap (λ (x : List Noted). told j ++ x) (sym (append-nil (told_in peers j d.piece)))) d.ok;
    reached = d.reached;
  }

  pub went_none : (k : Setup) (told : ℕ → List Noted) (s : Scene peers) → SceneOk k told s → Went k told s s []
  went_none k told s ok = record {
    entries = [];
    leads = refl;
    is = refl;
    ok = told_same k told (λ p. told p ++ []) s (λ j. sym (append-nil (told j))) ok;
    reached = stays k.config s.world s.world refl;
  }

  pub record_append : (k : Setup) (es fs : List (Entry peers)) (s m t : Scene peers) → IsRecord peers k es s m → IsRecord peers k fs m t → IsRecord peers k (es ++ fs) s t
  record_append k [] fs s m t e r = subst (λ (x : Scene peers). IsRecord peers k fs x t) e r
  record_append k (x ∷ es) fs s m t h r = (h.0, record_append k es fs x.after m t h.1 r)

  pub verdicts-append : (p : ℕ) (es fs : List (Entry peers)) → verdicts_of peers p (es ++ fs) ≡ verdicts_of peers p es ++ verdicts_of peers p fs
  verdicts-append p es fs = flat_map-append (λ (entry : Entry peers). told_in peers p entry.piece) es fs

  pub went_both : (k : Setup) (told : ℕ → List Noted) (s m t : Scene peers) (one two : List ℕ) → (a : Went k told s m one) → Went k (λ p. told p ++ verdicts_of peers p a.entries) m t two → Went k told s t (one ++ two)
  went_both k told s m t one two a b =
      let text : (Entry peers) → List ℕ = λ entry. text_of peers k entry.piece in
      record {
        entries = a.entries ++ b.entries;
        leads = record_append k a.entries b.entries s m t a.leads b.leads;
        is = ap (λ (x : List ℕ). x ++ two) a.is ∙ ap (λ (x : List ℕ). flat_map text a.entries ++ x) b.is ∙ sym (flat_map-append text a.entries b.entries);
        ok = told_same k (λ p. (told p ++ verdicts_of peers p a.entries) ++ verdicts_of peers p b.entries) (λ p. told p ++ verdicts_of peers p (a.entries ++ b.entries)) t
            (λ j. append_assoc (told j) (verdicts_of peers j a.entries) (verdicts_of peers j b.entries) ∙ ap (λ (x : List Noted). told j ++ x) (sym (verdicts-append j a.entries b.entries))) b.ok;
        reached = reached_then k.config s.world m.world t.world a.reached b.reached;
      }

  -- these events happened
  pub record WentBy (k : Setup) (told : ℕ → List Noted) (es : List Event) (s t : Scene peers) (printed : List ℕ) : Type 0 where
    pub went : Went k told s t printed
    pub events : map (λ entry. entry.event) went.entries ≡ es

  events-append : (xs ys : List (Entry peers)) → map (λ entry. entry.event) (xs ++ ys) ≡ map (λ entry. entry.event) xs ++ map (λ entry. entry.event) ys
  events-append xs ys = map-append (λ (entry : Entry peers). entry.event) xs ys

  pub happened_went : (k : Setup) (told : ℕ → List Noted) (es : List Event) (s t : Scene peers) (printed : List ℕ) → SceneOk k told s → Happened peers k es s t printed → WentBy k told es s t printed
  unfolding went_none went_both entry_went
  happened_went k told [] s t printed ok (e, p) = rw (e, p) (record { went = went_none k told s ok; events = refl })
  happened_went k told (e ∷ es) s t printed ok (m, one, two, p, more, q) =
      let a = entry_went k told s e m one p (plays_did k told s e m one ok p) in
      let b = happened_went k (λ p. told p ++ verdicts_of peers p a.entries) es m t two a.ok more in
      rw q (record { went = went_both k told s m t one two a b.went; events = events-append a.entries b.went.entries ∙ ap (λ (x : List Event). e ∷ x) b.events })

  pub nobody_ok : (k : Setup) → SceneOk k none_yet (empty_scene peers k)
  nobody_ok k = record { callers = λ seat. none_told seat [] 0 0; visitors = λ place. tt }

  -- ---- what follows of it

  -- what was told at a seat, whoever stands there
  told_there : (k : Setup) (seat : ℕ) (heard : List Noted) (next : ℕ) (told : List Noted) (o : Option (Caller peers.speech)) → ConnectionOk peers speaks k seat heard next told o → (serial : ℕ) × (message : ℕ) × AreTold seat heard serial message told
  told_there k seat heard next told None c = (next, 0, c)
  told_there k seat heard next told (Some b) c = (b.serial, c.message, told_front seat heard b.serial c.message told (verdicts peers speaks c.said) c.in_order)

  pub tells_once : (k : Setup) (t : Scene peers) (entries : List (Entry peers)) → Headline k.config t.world → SceneOk k (λ p. verdicts_of peers p entries) t → TellsOnce peers t.world entries
  tells_once k t entries h ok = record {
    at_own_seat = λ p. let a = at p in all_of_every (λ n. n.key.seat ≡ p) (verdicts_of peers p entries) (every_weaker (IsTold p (t.world.heard p) a.0 a.1) (λ n. n.key.seat ≡ p) (λ n x. x.0) (verdicts_of peers p entries) a.2.each);
    as_heard = heard;
    in_order = λ p. rising_pair InOrder (verdicts_of peers p entries) (at p).2.rising;
    delivered = λ p uid noted there e. h.answered p uid noted (All-contains (Contains (t.world.heard p)) (verdicts_of peers p entries) noted (heard p) there) e;
  }
    where
      at : (p : ℕ) → (serial : ℕ) × (message : ℕ) × AreTold p (t.world.heard p) serial message (verdicts_of peers p entries)
      at p = told_there k p (t.world.heard p) (t.next p) (verdicts_of peers p entries) (t.caller p) (ok.callers p)

      heard : (p : ℕ) → All (Contains (t.world.heard p)) (verdicts_of peers p entries)
      heard p = let a = at p in all_of_every (Contains (t.world.heard p)) (verdicts_of peers p entries) (every_weaker (IsTold p (t.world.heard p) a.0 a.1) (Contains (t.world.heard p)) (λ n x. x.1) (verdicts_of peers p entries) a.2.each)

  pub happened_once : (k : Setup) (es : List Event) (t : Scene peers) (printed : List ℕ) → Happened peers k es (empty_scene peers k) t printed → ExactlyOnce peers k es t printed
  happened_once k es t printed x =
      let by = happened_went k none_yet es (empty_scene peers k) t printed (nobody_ok k) x in
      let g = by.went in
      let h = always k.config g.reached.0 t.world g.reached.1 in
      record {
        entries = g.entries;
        happened = by.events;
        leads = g.leads;
        whole = g.is;
        steps = g.reached.0;
        came = g.reached.1;
        world = h;
        told = tells_once k t g.entries h g.ok;
      }
