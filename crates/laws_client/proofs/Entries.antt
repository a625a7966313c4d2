-- Entry by entry: the client of each session that is there goes on to keep up.
use Rattle.std.proofs.Common.{◌≡◌, ◌≢◌, ℕ, ◌+◌, ◌⊎◌, inl, inr, Bool, true, false, ◌==◌, eqb, List, [], ◌∷◌, ◌++◌, refl, sym, subst, ◌∙◌, arith, append-nil}
use Rattle.std.specs.Prelude.{Option, Some}
use Rattle.std.proofs.lemmas.Bool.{eq-eqb}
use Rattle.std.proofs.lemmas.Bool.Decides.{eqb_tells}
use Rattle.std.specs.Borrow.{Bor}
use Rattle.line_io.specs.Wire.{joined}
use Rattle.shard_queue.specs.Lane.{set_at}
use Rattle.shard_queue.proofs.AtLaws.{at_cases}
use Rattle.world.specs.World.{Event, IsWorld, Step, World, empty_world}
use Rattle.world.proofs.Always.{steps_join}
use Rattle.imap_session.specs.Exchange as calls
use Rattle.house_peers.specs.Caller.{Caller}
use Rattle.imap_session.specs.Folders.{folders_of}
use Rattle.house_peers.specs.Visitor.{Visitor, greeted, more_waits as session_more_waits, SeatedVisitor, seated_greeted}
use Rattle.house.specs.Setup.{Setup, session_seat, admitted_in}
use Rattle.house.specs.Printing.{with_session}
use Rattle.house.specs.Scene as scene
use Rattle.house.specs.Scene.{EnterPlay, IdlePlay, LeavePlay, SayPlay, Scene, SessionTalks, place_of}
use Rattle.house.specs.declared.event.Event as house
use Rattle.house.specs.declared.event.Event.TheVariants.{Enter, Say, Idle, Leave}
use Rattle.exactly_once.specs.Promise.{Lines, Piece, Silence}
use Rattle.exactly_once.proofs.Whole.{IsWhole, greeting_whole, idles_whole, whole_append}
use Rattle.laws_client.specs.ClientRecords.{began_in, is_left, lets_in, sent_in, stays_in, unless, user_in, serial_in, first_words}
use Rattle.laws_client.specs.HouseClients.{shown_in}
use Rattle.laws_client.specs.HouseClients.{HasSmallNumbers}
use Rattle.laws_client.specs.HouseClients.{IsOfOthers}
use Rattle.laws_client.proofs.Recording.{Arrival, Client, Walk, Watched, client_more, client_others, came_as, client_said, goes, heard_small, lingers_watched, parted, stands, still_whole, talks_walk, talks_watched, walk_call, walk_met, walk_parts, walk_then, walk_world, watched_others, watched_walk}
use Rattle.laws_client.proofs.Seated.{IsHere, here_as, here_met, idle_here}
use Rattle.laws_client.proofs.Talked.{idles_reached, talked_none}

-- ---- places

pub differs : (a b : ℕ) → (b ≡ a → ⊥) → (a == b) ≡ false
differs a b other = by (eqb_tells a b)
  where
    by : ((eqb a b ≡ true) × (a ≡ b)) ⊎ ((eqb a b ≡ false) × (a ≢ b)) → (a == b) ≡ false
    by (inl (t, same)) = absurd (other (sym same))
    by (inr (f, not)) = f

-- what is known of each place of a scene
pub record SceneKnown (k : Setup) (users : ℕ → Arrival) (sent shown : ℕ → List ℕ) (s : Scene) : Type 0 where
  pub events : List Event
  pub came : IsWorld k.config events s.world
  pub watched : (n : ℕ) → Watched k n (users n) (sent n) (shown n) s.world (s.visitor n)

-- who was let in there, behind an event
abbrev pub arrival_in : ℕ → Scene → house.Event → Arrival → Arrival
arrival_in n s event a = record { user = user_in n event a.user; began = began_in n s event a.began; stays = stays_in n event a.stays; serial = serial_in n s event a.serial }

abbrev pub users_then : Scene → (ℕ → Arrival) → house.Event → ℕ → Arrival
users_then s users event n = arrival_in n s event (users n)

abbrev pub sent_then : (ℕ → List ℕ) → house.Event → ℕ → List ℕ
sent_then sent event n = unless (lets_in n event) (sent n) ++ sent_in n event

abbrev pub shown_then : (ℕ → List ℕ) → house.Event → Piece → ℕ → List ℕ
shown_then shown event piece n = unless (lets_in n event) (shown n) ++ shown_in n piece

-- what an entry is of the session at a place, and that it is nothing of any other
pub record IsAt (q : ℕ) (event : house.Event) (piece : Piece) (lets : Bool) (more new : List ℕ) : Type 0 where
  pub let_in : lets_in q event ≡ lets
  pub sent : sent_in q event ≡ more
  pub shown : shown_in q piece ≡ new
  pub not_in : (n : ℕ) → n ≢ q → lets_in n event ≡ false
  pub not_left : (n : ℕ) → n ≢ q → is_left n event ≡ false
  pub not_sent : (n : ℕ) → n ≢ q → sent_in n event ≡ []
  pub not_shown : (n : ℕ) → n ≢ q → shown_in n piece ≡ []

elsewhere : (k : Setup) (n : ℕ) (user named : Arrival) (s h : List ℕ) (w : World) (o : Option SeatedVisitor) (lets : Bool) (more new : List ℕ) → named ≡ user → lets ≡ false → more ≡ [] → new ≡ [] → Watched k n user s h w o
    → Watched k n named (unless lets s ++ more) (unless lets h ++ new) w o
elsewhere k n user named s h w o lets more new u e f g c = rw (u, e, f, g, append-nil s, append-nil h) c

here : (k : Setup) (n : ℕ) (name named : Arrival) (s h : List ℕ) (w : World) (o : Option SeatedVisitor) (lets is : Bool) (more sent new shown : List ℕ) → named ≡ name → is ≡ lets → sent ≡ more → shown ≡ new
    → Watched k n name (unless lets s ++ more) (unless lets h ++ new) w o → Watched k n named (unless is s ++ sent) (unless is h ++ shown) w o
here k n name named s h w o lets is more sent new shown u e f g c = rw (u, e, f, g) c

-- it is the same user's as long as no session is let in
user_stays : (n : ℕ) (event : house.Event) (before : List ℕ) → lets_in n event ≡ false → user_in n event before ≡ before
user_stays n (Enter session user) before e = rw e refl
user_stays n _ before e = refl

-- and nothing else changes of it, where its client doesn't go
pub arrival_stays : (n : ℕ) (s : Scene) (event : house.Event) (a : Arrival) → lets_in n event ≡ false → is_left n event ≡ false → arrival_in n s event a ≡ a
arrival_stays n s event a e f = rw (user_stays n event a.user e, e, f) refl

-- the session at a place did something
pub visit_known : (k : Setup) (users : ℕ → Arrival) (sent shown : ℕ → List ℕ) (s : Scene) (q : ℕ) (event : house.Event) (piece : Piece) (lets : Bool) (more new : List ℕ) (v : World) (o : Option SeatedVisitor)
    (caller : ℕ → Option Caller) (next entered : ℕ → ℕ) (shut : List Bool) (name : Arrival) → SceneKnown k users sent shown s → IsAt q event piece lets more new → arrival_in q s event (users q) ≡ name
    → Walk k.config q s.world v → Watched k q name (unless lets (sent q) ++ more) (unless lets (shown q) ++ new) v o
    → SceneKnown k (users_then s users event) (sent_then sent event) (shown_then shown event piece) (record { world = v; caller = caller; next = next; visitor = set_at s.visitor q o; entered = entered; shut = shut })
visit_known k users sent shown s q event piece lets more new v o caller next entered shut name K at named walk watched =
    let came = walk_world k.config q s.world K.events K.came walk in record {
      events = came.0;
      came = came.1;
      watched = λ n. at_cases (λ x. Watched k n (users_then s users event n) (sent_then sent event n) (shown_then shown event piece n) v x) s.visitor q o n
          (λ same. subst (λ j. Watched k j (users_then s users event j) (sent_then sent event j) (shown_then shown event piece j) v o) (sym same)
          (here k q name (arrival_in q s event (users q)) (sent q) (shown q) v o lets (lets_in q event) more (sent_in q event) new (shown_in q piece) named at.let_in at.sent at.shown watched))
          (λ other. elsewhere k n (users n) (arrival_in n s event (users n)) (sent n) (shown n) v (s.visitor n) (lets_in n event) (sent_in n event) (shown_in n piece) (arrival_stays n s event (users n) (at.not_in n other) (at.not_left n other)) (at.not_in n other) (at.not_sent n other) (at.not_shown n other)
          (watched_walk k n q (users n) (sent n) (shown n) s.world (s.visitor n) other walk (K.watched n)));
    }

-- an entry that is nothing of any session
pub record IsAside (event : house.Event) (piece : Piece) : Type 0 where
  pub not_in : (n : ℕ) → lets_in n event ≡ false
  pub not_left : (n : ℕ) → is_left n event ≡ false
  pub not_sent : (n : ℕ) → sent_in n event ≡ []
  pub not_shown : (n : ℕ) → shown_in n piece ≡ []

pub aside_known : (k : Setup) (users : ℕ → Arrival) (sent shown : ℕ → List ℕ) (s : Scene) (event : house.Event) (piece : Piece) (caller : ℕ → Option Caller) (next entered : ℕ → ℕ) (shut : List Bool) → SceneKnown k users sent shown s → IsAside event piece
    → SceneKnown k (users_then s users event) (sent_then sent event) (shown_then shown event piece) (record { world = s.world; caller = caller; next = next; visitor = s.visitor; entered = entered; shut = shut })
aside_known k users sent shown s event piece caller next entered shut K aside = record {
  events = K.events;
  came = K.came;
  watched = λ n. elsewhere k n (users n) (arrival_in n s event (users n)) (sent n) (shown n) s.world (s.visitor n) (lets_in n event) (sent_in n event) (shown_in n piece) (arrival_stays n s event (users n) (aside.not_in n) (aside.not_left n)) (aside.not_in n) (aside.not_sent n) (aside.not_shown n) (K.watched n);
}

-- and the world moves by what is no session's
pub moves_known : (k : Setup) (users : ℕ → Arrival) (sent shown : ℕ → List ℕ) (s : Scene) (event : house.Event) (piece : Piece) (moves : Event) (v : World) (caller : ℕ → Option Caller) (next entered : ℕ → ℕ) (shut : List Bool)
    → SceneKnown k users sent shown s → IsAside event piece → ((n : ℕ) → IsOfOthers n moves) → Step k.config s.world moves v
    → SceneKnown k (users_then s users event) (sent_then sent event) (shown_then shown event piece) (record { world = v; caller = caller; next = next; visitor = s.visitor; entered = entered; shut = shut })
moves_known k users sent shown s event piece moves v caller next entered shut K aside own step = record {
  events = K.events ++ moves ∷ [];
  came = steps_join k.config empty_world K.events s.world (moves ∷ []) v K.came (v, step, refl);
  watched = λ n. elsewhere k n (users n) (arrival_in n s event (users n)) (sent n) (shown n) v (s.visitor n) (lets_in n event) (sent_in n event) (shown_in n piece) (arrival_stays n s event (users n) (aside.not_in n) (aside.not_left n)) (aside.not_in n) (aside.not_sent n) (aside.not_shown n)
      (watched_others k n (users n) (sent n) (shown n) s.world (s.visitor n) moves v (own n) step (K.watched n));
}

-- ---- what is printed of a place

pub silent_at : (q : ℕ) (event : house.Event) (lets : Bool) (more : List ℕ) → lets_in q event ≡ lets → sent_in q event ≡ more → ((n : ℕ) → n ≢ q → lets_in n event ≡ false) → ((n : ℕ) → n ≢ q → sent_in n event ≡ [])
    → ((n : ℕ) → n ≢ q → is_left n event ≡ false) → IsAt q event Silence lets more []
silent_at q event lets more e f g h i = record { let_in = e; sent = f; shown = refl; not_in = g; not_left = i; not_sent = h; not_shown = λ n other. refl }

pub lines_at : (q number : ℕ) (lines : List (List ℕ)) (event : house.Event) (lets : Bool) (more : List ℕ) → number ≡ q + 1 → lets_in q event ≡ lets → sent_in q event ≡ more
    → ((n : ℕ) → n ≢ q → lets_in n event ≡ false) → ((n : ℕ) → n ≢ q → sent_in n event ≡ []) → ((n : ℕ) → n ≢ q → is_left n event ≡ false) → IsAt q event (Lines number lines) lets more (joined lines)
lines_at q number lines event lets more own e f g h i = record {
  let_in = e;
  sent = f;
  shown = rw (own, eq-eqb (q + 1) (q + 1) refl) refl;
  not_in = g;
  not_left = i;
  not_sent = h;
  not_shown = λ n other. rw (own, differs (q + 1) (n + 1) (λ e. other (omega (arith, e)))) refl;
}

-- ---- a session is let in

pub let_known : (k : Setup) (users : ℕ → Arrival) (sent shown : ℕ → List ℕ) (s : Scene) (session : ℕ) (user : Bor (List ℕ)) (t : Scene) (printed new : List ℕ) (piece : Piece) → HasSmallNumbers k.config → SceneKnown k users sent shown s
    → (p : EnterPlay k false s (place_of session) user.now t printed) → IsAt (place_of session) (Enter session user) piece true [] new → new ++ p.goes.speaks.still ≡ first_words k user.now ++ p.goes.speaks.said
    → SceneKnown k (users_then s users (Enter session user)) (sent_then sent (Enter session user)) (shown_then shown (Enter session user) piece) t
let_known k users sent shown s session user t printed new piece h K p at fits =
    let q : ℕ = place_of session in
    let first : Visitor = greeted (admitted_in k user.now) (folders_of k.directory user.now) in
    let a : Arrival = record { user = user.now; began = s.world; stays = true; serial = s.entered q } in
    let c : Client k q a [] [] s.world first = record {
      events = K.events;
      came = K.came;
      said = [];
      reached = record { sent = []; talked = talked_none k.config q (came_as k q a) s.world (tt, tt, tt) refl refl; waits = refl };
      printed = append-nil (first_words k user.now);
      whole = greeting_whole (admitted_in k user.now).profile;
    } in
    subst (λ (x : Scene). SceneKnown k (users_then s users (Enter session user)) (sent_then sent (Enter session user)) (shown_then shown (Enter session user) piece) x) (sym p.after)
    (visit_known k users sent shown s q (Enter session user) piece true [] new p.moved p.left s.caller s.next (set_at s.entered q (s.entered q + 1)) s.shut a K at (rw (eq-eqb q q refl) refl)
    (talks_walk k false q (s.world.heard (session_seat k q)) s.world (seated_greeted (s.entered q) (admitted_in k user.now) (folders_of k.directory user.now)) p.moved p.left printed p.goes)
    (talks_watched k false q a [] [] new s.world (seated_greeted (s.entered q) (admitted_in k user.now) (folders_of k.directory user.now)) p.moved p.left printed
    (heard_small k.config K.events s.world (session_seat k q) h K.came) refl (record { own = refl; due = inl refl; out = λ none. tt }) p.goes fits c))

-- ---- its client sends

pub the_client : (k : Setup) (users : ℕ → Arrival) (sent shown : ℕ → List ℕ) (s : Scene) (q : ℕ) (v : SeatedVisitor) → SceneKnown k users sent shown s → s.visitor q ≡ Some v → v.gone ≡ false → Client k q (users q) (sent q) (shown q) s.world v.session
the_client k users sent shown s q v K there read = (subst (λ (o : Option SeatedVisitor). Watched k q (users q) (sent q) (shown q) s.world o) there (K.watched q)).0 read

-- it has the serial under which it was let in, and its copy is where it should be
pub the_serial : (k : Setup) (users : ℕ → Arrival) (sent shown : ℕ → List ℕ) (s : Scene) (q : ℕ) (v : SeatedVisitor) → SceneKnown k users sent shown s → s.visitor q ≡ Some v → IsHere k.config (session_seat k q) (users q).serial s.world v
the_serial k users sent shown s q v K there = (subst (λ (o : Option SeatedVisitor). Watched k q (users q) (sent q) (shown q) s.world o) there (K.watched q)).2

-- one whose client is gone doesn't stay
gone_client : (k : Setup) (users : ℕ → Arrival) (sent shown : ℕ → List ℕ) (s : Scene) (q : ℕ) (v : SeatedVisitor) → SceneKnown k users sent shown s → s.visitor q ≡ Some v → v.gone ≡ true → (users q).stays ≡ false
gone_client k users sent shown s q v K there gone = (subst (λ (o : Option SeatedVisitor). Watched k q (users q) (sent q) (shown q) s.world o) there (K.watched q)).1 gone

pub say_known : (k : Setup) (users : ℕ → Arrival) (sent shown : ℕ → List ℕ) (s : Scene) (session : ℕ) (bytes : Bor (List ℕ)) (t : Scene) (printed new : List ℕ) (piece : Piece) → HasSmallNumbers k.config → SceneKnown k users sent shown s
    → (p : SayPlay k false s (place_of session) bytes.now t printed) → IsAt (place_of session) (Say session bytes) piece false bytes.now new → new ++ p.goes.speaks.still ≡ p.visitor.session.unsaid ++ p.goes.speaks.said
    → SceneKnown k (users_then s users (Say session bytes)) (sent_then sent (Say session bytes)) (shown_then shown (Say session bytes) piece) t
say_known k users sent shown s session bytes t printed new piece h K p at fits =
    let q : ℕ = place_of session in
    let c = client_more k q (users q) (sent q) (shown q) bytes.now s.world p.visitor.session (the_client k users sent shown s q p.visitor K p.there p.is_read) in
    let b : SeatedVisitor = with_session (session_more_waits p.visitor.session bytes.now) p.visitor in
    subst (λ (x : Scene). SceneKnown k (users_then s users (Say session bytes)) (sent_then sent (Say session bytes)) (shown_then shown (Say session bytes) piece) x) (sym p.after)
    (visit_known k users sent shown s q (Say session bytes) piece false bytes.now new p.moved p.left s.caller s.next s.entered s.shut (users q) K at refl
    (talks_walk k false q (s.world.heard (session_seat k q)) s.world b p.moved p.left printed p.goes)
    (talks_watched k false q (users q) (sent q ++ bytes.now) (shown q) new s.world b p.moved p.left printed (heard_small k.config K.events s.world (session_seat k q) h K.came) p.is_read
    (here_as k.config (session_seat k q) (users q).serial s.world p.visitor b refl refl refl (the_serial k users sent shown s q p.visitor K p.there)) p.goes fits c))

-- ---- it has a turn while it idles

pub idle_known : (k : Setup) (users : ℕ → Arrival) (sent shown : ℕ → List ℕ) (s : Scene) (session : ℕ) (t : Scene) (printed new : List ℕ) (piece : Piece) → SceneKnown k users sent shown s
    → (p : IdlePlay k false s (place_of session) t printed) → IsAt (place_of session) (Idle session) piece false [] new → new ++ p.goes.after.unsaid ≡ p.visitor.session.unsaid ++ p.goes.idles.said
    → SceneKnown k (users_then s users (Idle session)) (sent_then sent (Idle session)) (shown_then shown (Idle session) piece) t
idle_known k users sent shown s session t printed new piece K p at fits =
    let q : ℕ = place_of session in
    let c = the_client k users sent shown s q p.visitor K p.there p.goes.is_read in
    let g = p.goes in
    let r = idles_reached k.config q (came_as k q (users q)) (users q).began (sent q) c.said p.visitor.session g.after s.world g.mid g.idles.said g.shown g.idles.turned g.idles.waits c.reached in
    let all : IsWhole (p.visitor.session.unsaid ++ g.idles.said) = whole_append p.visitor.session.unsaid g.idles.said c.whole (idles_whole _ p.visitor.session.standing s.world g.mid g.idles.said g.shown g.after.standing g.idles.turned) in
    let d = client_said k q (users q) (sent q) (shown q) new g.idles.said s.world g.mid p.visitor.session g.after c r fits (still_whole (q + 1) (p.visitor.session.unsaid ++ g.idles.said) g.after.unsaid printed all g.idles.prints) in
    subst (λ (x : Scene). SceneKnown k (users_then s users (Idle session)) (sent_then sent (Idle session)) (shown_then shown (Idle session) piece) x) (sym p.after)
    (visit_known k users sent shown s q (Idle session) piece false [] new p.moved p.left s.caller s.next s.entered s.shut (users q) K at refl
    (walk_parts k false q s.world g.mid (with_session g.after p.visitor) p.moved p.left (walk_met k.config q s.world s.world g.idles.turned.events g.mid stands g.idles.turned.met) g.left)
    (subst (λ (x : List ℕ). Watched k q (users q) x (shown q ++ new) p.moved p.left) (sym (append-nil (sent q))) (parted k false q (users q) (sent q) (shown q ++ new) (with_session g.after p.visitor) g.mid p.moved p.left g.is_read
    (idle_here k.config q (session_seat k q) (users q).serial s.world g.mid p.visitor g.after g.idles.said g.shown g.idles.turned (the_serial k users sent shown s q p.visitor K p.there)) d g.left)))

-- ---- its client is gone

pub leave_known : (k : Setup) (users : ℕ → Arrival) (sent shown : ℕ → List ℕ) (s : Scene) (session : ℕ) (t : Scene) (printed : List ℕ) → SceneKnown k users sent shown s → (p : LeavePlay k s (place_of session) t printed)
    → SceneKnown k (users_then s users (Leave session)) (sent_then sent (Leave session)) (shown_then shown (Leave session) Silence) t
leave_known k users sent shown s session t printed K p =
    let q : ℕ = place_of session in
    let a : Arrival = record { user = (users q).user; began = (users q).began; stays = false; serial = (users q).serial } in
    subst (λ (x : Scene). SceneKnown k (users_then s users (Leave session)) (sent_then sent (Leave session)) (shown_then shown (Leave session) Silence) x) (sym p.after)
    (visit_known k users sent shown s q (Leave session) Silence false [] [] p.moved p.left s.caller s.next s.entered s.shut a K (silent_at q (Leave session) false [] refl refl (λ n other. refl) (λ n other. refl) (λ n other. differs q n other))
    (rw (eq-eqb q q refl) refl)
    (walk_call k.config q s.world s.world (calls.Leave false) p.leaves.0 p.moved stands p.leaves.1)
    (lingers_watched k q (session_seat k q) a (sent q ++ []) (shown q ++ []) (s.world.heard (session_seat k q)) p.moved _ p.left refl
    (here_as k.config (session_seat k q) (users q).serial p.moved p.visitor _ refl refl refl
    (here_met k.config q (session_seat k q) (users q).serial s.world (record { call = calls.Leave false; answer = p.leaves.0 } ∷ []) p.moved p.visitor (p.moved, p.leaves.1, refl) (the_serial k users sent shown s q p.visitor K p.there))) refl p.stays))

-- ---- its copy is put, and its verdict is heard

-- what it says next, in a world that was moved, where its client is there
pub data Speech (k : Setup) (q : ℕ) (heard : _) (w : World) (b : SeatedVisitor) (v : World) (o : Option SeatedVisitor) (new : List ℕ) : Type 0 where
  says : {printed : List ℕ} → b.gone ≡ false → (g : SessionTalks k false q heard w b v o printed) → new ++ g.speaks.still ≡ b.session.unsaid ++ g.speaks.said → Speech k q heard w b v o new
  lingers : b.gone ≡ true → scene.Lingers (session_seat k q) heard b o → v ≡ w → Speech k q heard w b v o new

speech_walk : (k : Setup) (q : ℕ) (heard : _) (w : World) (b : SeatedVisitor) (v : World) (o : Option SeatedVisitor) (new : List ℕ) → Speech k q heard w b v o new → Walk k.config q w v
speech_walk k q heard w b v o new (says {printed = printed} l g fits) = talks_walk k false q heard w b v o printed g
speech_walk k q heard w b v o new (lingers l g same) = rw same stands

pub moved_known : (k : Setup) (users : ℕ → Arrival) (sent shown : ℕ → List ℕ) (s : Scene) (event : house.Event) (q : ℕ) (moves : Event) (moved : World) (visitor b : SeatedVisitor) (later : World) (left : Option SeatedVisitor) (new : List ℕ) (piece : Piece)
    → HasSmallNumbers k.config → SceneKnown k users sent shown s → s.visitor q ≡ Some visitor → b.session ≡ visitor.session → b.gone ≡ visitor.gone → (IsHere k.config (session_seat k q) (users q).serial s.world visitor → IsHere k.config (session_seat k q) (users q).serial moved b) → IsAt q event piece false [] new → is_left q event ≡ false → ((n : ℕ) → IsOfOthers n moves) → Step k.config s.world moves moved
    → Speech k q (moved.heard (session_seat k q)) moved b later left new
    → SceneKnown k (users_then s users event) (sent_then sent event) (shown_then shown event piece) (record { world = later; caller = s.caller; next = s.next; visitor = set_at s.visitor q left; entered = s.entered; shut = s.shut })
moved_known k users sent shown s event q moves moved visitor b later left new piece h K there same alike still at stays own step speech =
    visit_known k users sent shown s q event piece false [] new later left s.caller s.next s.entered s.shut (users q) K at (arrival_stays q s event (users q) at.let_in stays)
    (walk_then k.config q s.world moved later (goes stands moves (λ n other. own n) moved step) (speech_walk k q (moved.heard (session_seat k q)) moved b later left new speech))
    (subst (λ (x : List ℕ). Watched k q (users q) x (shown q ++ new) later left) (sym (append-nil (sent q))) (by speech))
  where
    by : Speech k q (moved.heard (session_seat k q)) moved b later left new → Watched k q (users q) (sent q) (shown q ++ new) later left
    by (says {printed = printed} l g fits) =
        let c0 = the_client k users sent shown s q visitor K there (sym alike ∙ l) in
        let c1 = client_others k q (users q) (sent q) (shown q) s.world visitor.session moves moved c0 (own q) step in
        let c : Client k q (users q) (sent q) (shown q) moved b.session = subst (λ (x : Visitor). Client k q (users q) (sent q) (shown q) moved x) (sym same) c1 in
        let came : IsWorld k.config (K.events ++ moves ∷ []) moved = steps_join k.config empty_world K.events s.world (moves ∷ []) moved K.came (moved, step, refl) in
        talks_watched k false q (users q) (sent q) (shown q) new moved b later left printed
        (heard_small k.config (K.events ++ moves ∷ []) moved (session_seat k q) h came) l (still (the_serial k users sent shown s q visitor K there)) g fits c
    by (lingers l g e) = lingers_watched k q (session_seat k q) (users q) (sent q) (shown q ++ new) (moved.heard (session_seat k q)) later b left l (subst (λ (x : World). IsHere k.config (session_seat k q) (users q).serial x b) (sym e) (still (the_serial k users sent shown s q visitor K there))) (gone_client k users sent shown s q visitor K there (sym alike ∙ l)) g
