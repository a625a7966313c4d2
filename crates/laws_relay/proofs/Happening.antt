-- Each event by itself, and a whole record.
use Rattle.std.proofs.Common.{◌≡◌, ◌≢◌, ℕ, ◌+◌, ◌<◌, Bool, true, false, ◌&&◌, ◌||◌, List, [], ◌∷◌, ◌++◌, Contains, refl, ap, sym, subst, ◌∙◌, append-nil, append_assoc, arith, Option, Some, None}
use Rattle.std.specs.Borrow.{Bor}
use Rattle.delivery_token.specs.declared.log.Noted.{Noted}
use Rattle.shard_queue.specs.Lane.{set_at}
use Rattle.shard_queue.proofs.AtLaws.{at_cases, set_at-same}
use Rattle.world.specs.World as world
use Rattle.world.specs.World.{shard_of}
use Rattle.lmtp_machine.specs.Dialogue.{wire}
use Rattle.house_peers.specs.Caller.{Caller, greeted, more_waits, unread}
use Rattle.house.specs.Printing.{ConnectionGoes}
use Rattle.house.specs.Scene.{connection_hears, connection_puts, goes_on, opens, place_of, seat_of, session_hears, session_puts}
use Rattle.house.specs.Setup.{Setup, session_seat, terms_of}
use Rattle.house.specs.declared.event.Event.{Event}
use Rattle.house.specs.declared.event.Event.TheVariants.{Bytes, Vanish, Put, Take, Deliver, Answer, Hear, End, Close, Enter, Say, Idle, Leave}
use Rattle.laws_relay.specs.Handed.{IsInLine}
use Rattle.exactly_once.specs.Promise.{Lines, Replies, Silence}
use Rattle.laws_relay.specs.RecordLaws.{came_for, came_in, has_vanished, is_meant, told_in, told_to, vanishes_in, AreStill, Sessions, peers_of}
use Rattle.exactly_once.proofs.Lanes.{IsNoPutOf, put_by, step_puts, step_puts_copy}
use Rattle.laws_relay.proofs.Moving.{no_copy_grows}
use Rattle.laws_relay.proofs.Printed.{Past, WentOn, goes_on_known}
use Rattle.laws_relay.proofs.Scenes.{Brings, BringsNothing, IsQuiet, SceneKnown, Says, at_caller, bytes_says, caller_known, hear_quiet, hear_says, here_known, no_session, nobody_known, nothing_brought, past_same, past_then, put_quiet, put_says, says_nothing, stander_known, went_gone, where_meant}
use Rattle.laws_relay.proofs.Seated.{greeted_known, known_grows, more_known, own_copy, put_known, puts_of_another, unread_known}
use Rattle.laws_relay.proofs.Seats.{SeatKnown, no_past, own_terms, seat_stays}
use Rattle.laws_relay.proofs.Stilling.{goes_still, idles_still, leaves_still, talks_still}
use Rattle.laws_relay.proofs.Worlds.{bears_same, bears_step, bears_still, bears_then, step_hears}
use Rattle.house.specs.AnyScene as any
use Rattle.exactly_once.specs.AnyPromise as promised

module _ (sessions : Sessions) (still : AreStill sessions) where
  abbrev Scene : Type 0
  Scene = any.Scene (peers_of sessions)

  abbrev BytesPlay : (k : Setup) (whole : Bool) (s : Scene) (seat : ℕ) (piece : List ℕ) (t : Scene) (printed : List ℕ) → Type 0
  BytesPlay = any.BytesPlay (peers_of sessions)

  abbrev ConnectionHears : (k : Setup) (whole : Bool) (s : Scene) (seat : ℕ) (t : Scene) (printed : List ℕ) → Type 0
  ConnectionHears = any.ConnectionHears (peers_of sessions)

  abbrev ConnectionPuts : (k : Setup) (whole : Bool) (s : Scene) (seat : ℕ) (t : Scene) (printed : List ℕ) → Type 0
  ConnectionPuts = any.ConnectionPuts (peers_of sessions)

  abbrev HearPlay : (k : Setup) (whole : Bool) (s : Scene) (seat : ℕ) (t : Scene) (printed : List ℕ) → Type 0
  HearPlay = any.HearPlay (peers_of sessions)

  abbrev Moves : (k : Setup) (s : Scene) (event : world.Event) (t : Scene) (printed : List ℕ) → Type 0
  Moves = any.Moves (peers_of sessions)

  abbrev Plays : Setup → Bool → Scene → Event → Scene → List ℕ → Type 0
  Plays = any.Plays (peers_of sessions)

  abbrev PutPlay : (k : Setup) (whole : Bool) (s : Scene) (seat : ℕ) (t : Scene) (printed : List ℕ) → Type 0
  PutPlay = any.PutPlay (peers_of sessions)

  abbrev SessionHears : (k : Setup) (whole : Bool) (s : Scene) (place : ℕ) (t : Scene) (printed : List ℕ) → Type 0
  SessionHears = any.SessionHears (peers_of sessions)

  abbrev SessionPuts : (k : Setup) (whole : Bool) (s : Scene) (place : ℕ) (t : Scene) (printed : List ℕ) → Type 0
  SessionPuts = any.SessionPuts (peers_of sessions)

  abbrev VanishPlay : (k : Setup) (whole : Bool) (s : Scene) (seat : ℕ) (t : Scene) (printed : List ℕ) → Type 0
  VanishPlay = any.VanishPlay (peers_of sessions)

  abbrev empty_scene : Setup → Scene
  empty_scene = any.empty_scene (peers_of sessions)

  abbrev Entry : Type 0
  Entry = promised.Entry (peers_of sessions)

  abbrev Piece : Type 0
  Piece = promised.Piece (peers_of sessions)

  abbrev IsOwn : Setup → Scene → Event → Scene → Piece → Type 0
  IsOwn = promised.IsOwn (peers_of sessions)

  abbrev IsRecord : Setup → List Entry → Scene → Scene → Type 0
  IsRecord = promised.IsRecord (peers_of sessions)

  abbrev Said : Type 0
  Said = promised.Said (peers_of sessions)

  abbrev serial_of : (next : ℕ) → Option Caller → ℕ
  serial_of = promised.serial_of (peers_of sessions)

  abbrev text_of : Setup → Piece → List ℕ
  text_of = promised.text_of (peers_of sessions)

  -- ---- connections

  other_position : (f : ℕ → ℕ) (at x seat : ℕ) → seat ≢ at → set_at f at x seat ≡ f seat
  other_position f at x seat d = at_cases (λ (n : ℕ). n ≡ f seat) f at x seat (λ same. absurd (d same)) (λ _. refl)

  or_true : (b : Bool) → true ≡ (b || true)
  or_true true = refl
  or_true false = refl

  or_false : (b : Bool) → b ≡ (b || false)
  or_false true = refl
  or_false false = refl

  -- a connection is opened by its first bytes
  opens_here : (k : Setup) (pasts : (seat serial : ℕ) → Past) (s : Scene) (e : Event) (piece : Piece) (at : ℕ) (bytes : List ℕ) (o : Option Caller) → IsInLine k.host → SceneKnown sessions k pasts s
      → Says sessions k s at piece → Brings sessions s e at bytes false → s.caller at ≡ None
      → ConnectionGoes (terms_of k s.shut) false at (s.world.heard at) (more_waits (greeted (terms_of k s.shut) at (s.next at)) bytes) o (text_of k piece)
      → at < k.connections → SeatKnown k at (s.world.heard at) (put_by s.world at) (set_at s.next at (s.next at + 1) at) (past_then sessions k pasts s e piece at) o
  opens_here k pasts s e piece at bytes o in_line h says brings free goes l =
      let heard = s.world.heard at in
      let sent = put_by s.world at in
      let serial = s.next at in
      let is : serial ≡ serial_of (s.next at) (s.caller at) = ap (serial_of (s.next at)) (sym free) in
      let seat = at_caller sessions k pasts s at None h l free in
      let new = seat.later serial (omega arith) in
      let first = greeted (terms_of k s.shut) at serial in
      let known = more_known (own_terms k) at heard sent [] [] bytes first refl (greeted_known (own_terms k) s.shut at serial heard sent new.1) in
      let went = goes_on_known (own_terms k) s.shut false at heard sent bytes [] (more_waits first bytes) o (text_of k piece) says.replies in_line known goes says.text in
      here_known sessions k pasts s e piece at bytes false s.world o (set_at s.next at (s.next at + 1)) serial says brings is (set_at-same s.next at (s.next at + 1)) (λ r c. c) (λ n d these u x. x)
      seat.there (λ n m. seat.later n (omega (arith, m)))
      (subst (λ (x : Past). WentOn (own_terms k) at heard sent (record { came = x.came ++ bytes; told = x.told ++ wire k.host says.replies; gone = x.gone || false }) serial o) (sym new.0) went)

  -- bytes come for one that stands there
  bytes_here : (k : Setup) (pasts : (seat serial : ℕ) → Past) (s : Scene) (e : Event) (piece : Piece) (at : ℕ) (bytes : List ℕ) (b : Caller) (o : Option Caller) → IsInLine k.host
      → SceneKnown sessions k pasts s → Says sessions k s at piece → Brings sessions s e at bytes false → s.caller at ≡ Some b → b.gone ≡ false
      → ConnectionGoes (terms_of k s.shut) false at (s.world.heard at) (more_waits b bytes) o (text_of k piece)
      → at < k.connections → SeatKnown k at (s.world.heard at) (put_by s.world at) (s.next at) (past_then sessions k pasts s e piece at) o
  bytes_here k pasts s e piece at bytes b o in_line h says brings there read goes l =
      let heard = s.world.heard at in
      let sent = put_by s.world at in
      let past = pasts at b.serial in
      let seat = at_caller sessions k pasts s at (Some b) h l there in
      let known = more_known (own_terms k) at heard sent past.came past.told bytes b read seat.there.1 in
      let went = goes_on_known (own_terms k) s.shut false at heard sent (past.came ++ bytes) past.told (more_waits b bytes) o (text_of k piece) says.replies in_line known goes says.text in
      stander_known sessions k pasts s e piece at bytes false s.world b o says brings there (λ r c. c) (λ n d these u x. x) seat
      (went_gone sessions (own_terms k) at heard sent (past.came ++ bytes) (past.came ++ bytes) (past.told ++ wire k.host says.replies) b.gone (past.gone || false) b.serial o refl
      (seat.there.2 ∙ or_false past.gone) went)

  bytes_known : (k : Setup) (pasts : (seat serial : ℕ) → Past) (s : Scene) (connection : ℕ) (bytes : Bor (List ℕ)) (piece : Piece) (t : Scene) → IsInLine k.host → SceneKnown sessions k pasts s
      → IsOwn k s (Bytes connection bytes) t piece → BytesPlay k false s (seat_of connection) bytes.now t (text_of k piece) → SceneKnown sessions k (past_then sessions k pasts s (Bytes connection bytes) piece) t
  bytes_known k pasts s connection bytes piece t in_line h own play =
      by (seat_of connection) (bytes_says sessions k s t connection bytes piece own) (record { came = λ seat n. refl; gone = λ seat n. never (is_meant sessions seat n s (seat_of connection)) }) play
    where
      never : (x : Bool) → false ≡ (x && false)
      never true = refl
      never false = refl

      by : (at : ℕ) → Says sessions k s at piece → Brings sessions s (Bytes connection bytes) at bytes.now false → BytesPlay k false s at bytes.now t (text_of k piece)
          → SceneKnown sessions k (past_then sessions k pasts s (Bytes connection bytes) piece) t
      by at says brings (opens there free more o g after) =
          rw after (record {
            seats = caller_known sessions k pasts s (Bytes connection bytes) piece at bytes.now false s.world o (set_at s.next at (s.next at + 1)) h says brings (λ seat r c. c) (λ seat d n these u x. x)
                (other_position s.next at (s.next at + 1)) (opens_here k pasts s (Bytes connection bytes) piece at bytes.now o in_line h says brings free g);
          })
      by at says brings (goes_on b there read o g after) =
          rw after (record {
            seats = caller_known sessions k pasts s (Bytes connection bytes) piece at bytes.now false s.world o s.next h says brings (λ seat r c. c) (λ seat d n these u x. x) (λ seat d. refl)
                (bytes_here k pasts s (Bytes connection bytes) piece at bytes.now b o in_line h says brings there read g);
          })

  -- its peer is gone
  vanish_known : (k : Setup) (pasts : (seat serial : ℕ) → Past) (s : Scene) (e : Event) (piece : Piece) (at : ℕ) (t : Scene) → IsInLine k.host → SceneKnown sessions k pasts s → Brings sessions s e at [] true
      → Says sessions k s at piece
      → VanishPlay k false s at t (text_of k piece) → SceneKnown sessions k (past_then sessions k pasts s e piece) t
  vanish_known k pasts s e piece at t in_line h brings says p =
      rw p.after (record { seats = caller_known sessions k pasts s e piece at [] true s.world p.left s.next h says brings (λ seat r c. c) (λ seat d n these u x. x) (λ seat d. refl) here })
    where
      here : at < k.connections → SeatKnown k at (s.world.heard at) (put_by s.world at) (s.next at) (past_then sessions k pasts s e piece at) p.left
      here l =
          let b = p.caller in
          let heard = s.world.heard at in
          let sent = put_by s.world at in
          let past = pasts at b.serial in
          let seat = at_caller sessions k pasts s at (Some b) h l p.there in
          let known = unread_known (own_terms k) at heard sent past.came past.told b seat.there.1 in
          let went = goes_on_known (own_terms k) s.shut false at heard sent past.came past.told (unread b) p.left (text_of k piece) says.replies in_line known p.goes says.text in
          stander_known sessions k pasts s e piece at [] true s.world b p.left says brings p.there (λ r c. c) (λ n d these u x. x) seat
          (went_gone sessions (own_terms k) at heard sent past.came (past.came ++ []) (past.told ++ wire k.host says.replies) true (past.gone || true) b.serial p.left (sym (append-nil past.came))
          (or_true past.gone) went)

  -- it puts a copy
  connection_put_known : (k : Setup) (pasts : (seat serial : ℕ) → Past) (s : Scene) (e : Event) (piece : Piece) (at : ℕ) (t : Scene) → IsInLine k.host → SceneKnown sessions k pasts s → BringsNothing sessions s e
      → Says sessions k s at piece
      → ConnectionPuts k false s at t (text_of k piece) → SceneKnown sessions k (past_then sessions k pasts s e piece) t
  connection_put_known k pasts s e piece at t in_line h none says p =
      rw p.after (record {
        seats = caller_known sessions k pasts s e piece at [] false p.moved p.left s.next h says (nothing_brought sessions s e at none)
            (λ seat r c. step_hears k.config s.world (world.Put at (shard_of k.config p.copy.mailbox) p.copy) p.moved seat r p.step c)
            (λ seat d n. no_copy_grows seat s.world p.moved (step_puts k.config s.world (world.Put at (shard_of k.config p.copy.mailbox) p.copy) p.moved seat d p.step) n) (λ seat d. refl) here;
      })
    where
      here : at < k.connections → SeatKnown k at (p.moved.heard at) (put_by p.moved at) (s.next at) (past_then sessions k pasts s e piece at) p.left
      here l =
          let b = p.caller in
          let sent = put_by s.world at in
          let later = put_by p.moved at in
          let past = pasts at b.serial in
          let seat = at_caller sessions k pasts s at (Some b) h l p.there in
          let puts = step_puts_copy k.config s.world at (shard_of k.config p.copy.mailbox) p.copy p.moved p.step in
          let hears : (r : Noted) → Contains (s.world.heard at) r → Contains (p.moved.heard at) r =
          λ r c. step_hears k.config s.world (world.Put at (shard_of k.config p.copy.mailbox) p.copy) p.moved at r p.step c in
          let mine = own_copy (own_terms k) at (s.world.heard at) sent past.came past.told b p.copy p.others p.front seat.there.1 in
          let known = put_known (own_terms k) at (s.world.heard at) (p.moved.heard at) sent later past.came past.told b p.copy p.others p.front hears puts seat.there.1 in
          let went = goes_on_known (own_terms k) s.shut false at (p.moved.heard at) later past.came past.told (record { serial = b.serial; gone = b.gone; talk = b.talk; to_put = p.others }) p.left
          (text_of k piece) says.replies in_line known p.goes says.text in
          stander_known sessions k pasts s e piece at [] false p.moved b p.left says (nothing_brought sessions s e at none) p.there hears
          (λ n d. puts_of_another at n p.copy sent later puts (λ x. d (sym x ∙ mine))) seat
          (went_gone sessions (own_terms k) at (p.moved.heard at) later past.came (past.came ++ []) (past.told ++ wire k.host says.replies) b.gone (past.gone || false) b.serial p.left
          (sym (append-nil past.came)) (seat.there.2 ∙ or_false past.gone) went)

  -- its seat hears a verdict
  connection_hear_known : (k : Setup) (pasts : (seat serial : ℕ) → Past) (s : Scene) (e : Event) (piece : Piece) (at : ℕ) (t : Scene) → IsInLine k.host → SceneKnown sessions k pasts s → BringsNothing sessions s e
      → Says sessions k s at piece
      → ConnectionHears k false s at t (text_of k piece) → SceneKnown sessions k (past_then sessions k pasts s e piece) t
  connection_hear_known k pasts s e piece at t in_line h none says p =
      rw p.after (record {
        seats = caller_known sessions k pasts s e piece at [] false p.moved p.left s.next h says (nothing_brought sessions s e at none)
            (λ seat r c. step_hears k.config s.world (world.Hear at) p.moved seat r p.step c)
            (λ seat d n. no_copy_grows seat s.world p.moved (step_puts k.config s.world (world.Hear at) p.moved seat tt p.step) n) (λ seat d. refl) here;
      })
    where
      here : at < k.connections → SeatKnown k at (p.moved.heard at) (put_by p.moved at) (s.next at) (past_then sessions k pasts s e piece at) p.left
      here l =
          let b = p.caller in
          let sent = put_by s.world at in
          let later = put_by p.moved at in
          let past = pasts at b.serial in
          let seat = at_caller sessions k pasts s at (Some b) h l p.there in
          let hears : (r : Noted) → Contains (s.world.heard at) r → Contains (p.moved.heard at) r = λ r c. step_hears k.config s.world (world.Hear at) p.moved at r p.step c in
          let puts = no_copy_grows at s.world p.moved (step_puts k.config s.world (world.Hear at) p.moved at tt p.step) in
          let known = known_grows (own_terms k) at (s.world.heard at) (p.moved.heard at) sent later past.came past.told b hears (puts b.serial) seat.there.1 in
          let went = goes_on_known (own_terms k) s.shut false at (p.moved.heard at) later past.came past.told b p.left (text_of k piece) says.replies in_line known p.goes says.text in
          stander_known sessions k pasts s e piece at [] false p.moved b p.left says (nothing_brought sessions s e at none) p.there hears (λ n d. puts n) seat
          (went_gone sessions (own_terms k) at (p.moved.heard at) later past.came (past.came ++ []) (past.told ++ wire k.host says.replies) b.gone (past.gone || false) b.serial p.left
          (sym (append-nil past.came)) (seat.there.2 ∙ or_false past.gone) went)

  -- ---- what isn't a connection's

  no_replies : (k : Setup) (s : Scene) (piece : Piece) → ((seat : ℕ) (said : List Said) → piece ≡ Replies seat said → ⊥) → IsQuiet sessions k s piece
  no_replies k s (Replies seat said) none j n = absurd (none seat said refl)
  no_replies k s (Lines session lines) none j n = refl
  no_replies k s Silence none j n = refl

  session_put_known : (k : Setup) (pasts : (seat serial : ℕ) → Past) (s : Scene) (number place : ℕ) (piece : Piece) (t : Scene) → SceneKnown sessions k pasts s
      → seat_of number ≡ session_seat k place
      → IsOwn k s (Put number) t piece → SessionPuts k false s place t (text_of k piece) → SceneKnown sessions k (past_then sessions k pasts s (Put number) piece) t
  session_put_known k pasts s number place piece t h e own p =
      rw p.after (record {
        seats = nobody_known sessions k pasts s (Put number) piece p.later h
            (bears_then k.connections s.world p.moved p.later
            (bears_step k.config k.connections s.world (world.Put (session_seat k place) (shard_of k.config p.copy.mailbox) p.copy) p.moved (λ seat l x. no_session sessions k seat place l x) p.step)
            (bears_still k.connections p.moved p.later (goes_still sessions still k false place (p.moved.heard (session_seat k place)) p.moved _ p.later p.left (text_of k piece) p.goes)))
            (record { came = λ seat n. refl; gone = λ seat n. refl }) (put_quiet sessions k s t number place piece e own);
      })

  session_hear_known : (k : Setup) (pasts : (seat serial : ℕ) → Past) (s : Scene) (number place : ℕ) (piece : Piece) (t : Scene) → SceneKnown sessions k pasts s
      → seat_of number ≡ session_seat k place
      → IsOwn k s (Hear number) t piece → SessionHears k false s place t (text_of k piece) → SceneKnown sessions k (past_then sessions k pasts s (Hear number) piece) t
  session_hear_known k pasts s number place piece t h e own p =
      rw p.after (record {
        seats = nobody_known sessions k pasts s (Hear number) piece p.later h
            (bears_then k.connections s.world p.moved p.later (bears_step k.config k.connections s.world (world.Hear (session_seat k place)) p.moved (λ seat l. tt) p.step)
            (bears_still k.connections p.moved p.later (goes_still sessions still k false place (p.moved.heard (session_seat k place)) p.moved p.visitor p.later p.left (text_of k piece) p.goes)))
            (record { came = λ seat n. refl; gone = λ seat n. refl }) (hear_quiet sessions k s t number place piece e own);
      })

  moves_known : (k : Setup) (pasts : (seat serial : ℕ) → Past) (s : Scene) (e : Event) (event : world.Event) (piece : Piece) (t : Scene) (printed : List ℕ) → SceneKnown sessions k pasts s
      → ((seat : ℕ) → seat < k.connections → IsNoPutOf seat event)
      → BringsNothing sessions s e → IsQuiet sessions k s piece → Moves k s event t printed → SceneKnown sessions k (past_then sessions k pasts s e piece) t
  moves_known k pasts s e event piece t printed h others none quiet m =
      rw m.after (record { seats = nobody_known sessions k pasts s e piece m.moved h (bears_step k.config k.connections s.world event m.moved others m.step) none quiet })

  put_known_by : (k : Setup) (pasts : (seat serial : ℕ) → Past) (s : Scene) (number : ℕ) (piece : Piece) (t : Scene) → IsInLine k.host → SceneKnown sessions k pasts s
      → IsOwn k s (Put number) t piece → PutPlay k false s (seat_of number) t (text_of k piece) → SceneKnown sessions k (past_then sessions k pasts s (Put number) piece) t
  put_known_by k pasts s number piece t in_line h own (connection_puts l p) = connection_put_known k pasts s (Put number) piece (seat_of number) t in_line h
      (record { came = λ seat n. refl; gone = λ seat n. refl })
      (put_says sessions k s t number piece l own) p
  put_known_by k pasts s number piece t in_line h own (session_puts place e p) = session_put_known k pasts s number place piece t h e own p

  hear_known_by : (k : Setup) (pasts : (seat serial : ℕ) → Past) (s : Scene) (number : ℕ) (piece : Piece) (t : Scene) → IsInLine k.host → SceneKnown sessions k pasts s
      → IsOwn k s (Hear number) t piece → HearPlay k false s (seat_of number) t (text_of k piece) → SceneKnown sessions k (past_then sessions k pasts s (Hear number) piece) t
  hear_known_by k pasts s number piece t in_line h own (connection_hears l p) = connection_hear_known k pasts s (Hear number) piece (seat_of number) t in_line h
      (record { came = λ seat n. refl; gone = λ seat n. refl })
      (hear_says sessions k s t number piece l own) p
  hear_known_by k pasts s number piece t in_line h own (session_hears place e p) = session_hear_known k pasts s number place piece t h e own p

  -- the peer is gone, and nothing is printed
  vanish_known_by : (k : Setup) (pasts : (seat serial : ℕ) → Past) (s : Scene) (connection : ℕ) (piece : Piece) (t : Scene) → IsInLine k.host → SceneKnown sessions k pasts s
      → IsOwn k s (Vanish connection) t piece → VanishPlay k false s (seat_of connection) t (text_of k piece) → SceneKnown sessions k (past_then sessions k pasts s (Vanish connection) piece) t
  vanish_known_by k pasts s connection (Replies seat said) t in_line h own p = absurd own
  vanish_known_by k pasts s connection (Lines session lines) t in_line h own p = absurd own
  vanish_known_by k pasts s connection Silence t in_line h own p =
      vanish_known k pasts s (Vanish connection) Silence (seat_of connection) t in_line h
      (record { came = λ seat n. none (is_meant sessions seat n s (seat_of connection)); gone = λ seat n. always (is_meant sessions seat n s (seat_of connection)) }) (says_nothing sessions k s (seat_of connection)) p
    where
      none : (x : Bool) → [] ≡ where_meant sessions x []
      none true = refl
      none false = refl

      always : (x : Bool) → x ≡ (x && true)
      always true = refl
      always false = refl

  -- ---- one entry

  pub event_known : (k : Setup) (pasts : (seat serial : ℕ) → Past) (s : Scene) (e : Event) (piece : Piece) (t : Scene) → IsInLine k.host → SceneKnown sessions k pasts s → IsOwn k s e t piece
      → Plays k false s e t (text_of k piece)
      → SceneKnown sessions k (past_then sessions k pasts s e piece) t
  event_known k pasts s (Bytes connection bytes) piece t in_line h own p = bytes_known k pasts s connection bytes piece t in_line h own p
  event_known k pasts s (Vanish connection) piece t in_line h own p = vanish_known_by k pasts s connection piece t in_line h own p
  event_known k pasts s (Put number) piece t in_line h own p = put_known_by k pasts s number piece t in_line h own p
  event_known k pasts s (Hear number) piece t in_line h own p = hear_known_by k pasts s number piece t in_line h own p
  event_known k pasts s (Take shard) piece t in_line h own p =
      moves_known k pasts s (Take shard) (world.Take shard) piece t (text_of k piece) h (λ seat l. tt) (record { came = λ seat n. refl; gone = λ seat n. refl })
      (no_replies k s piece (λ seat said e. subst (IsOwn k s (Take shard) t) e own)) p
  event_known k pasts s (Deliver shard) piece t in_line h own p =
      moves_known k pasts s (Deliver shard) (world.Deliver shard) piece t (text_of k piece) h (λ seat l. tt) (record { came = λ seat n. refl; gone = λ seat n. refl })
      (no_replies k s piece (λ seat said e. subst (IsOwn k s (Deliver shard) t) e own)) p
  event_known k pasts s (Answer shard) piece t in_line h own p =
      moves_known k pasts s (Answer shard) (world.Answer shard) piece t (text_of k piece) h (λ seat l. tt) (record { came = λ seat n. refl; gone = λ seat n. refl })
      (no_replies k s piece (λ seat said e. subst (IsOwn k s (Answer shard) t) e own)) p
  event_known k pasts s (End number shard) piece t in_line h own p =
      moves_known k pasts s (End number shard) (world.PutEnd (seat_of number) shard) piece t (text_of k piece) h (λ seat l. tt) (record { came = λ seat n. refl; gone = λ seat n. refl })
      (no_replies k s piece (λ seat said e. subst (IsOwn k s (End number shard) t) e own)) p
  event_known k pasts s (Close shard) piece t in_line h own p =
      rw p.after (record {
        seats = nobody_known sessions k pasts s (Close shard) piece s.world h (bears_same k.connections s.world) (record { came = λ seat n. refl; gone = λ seat n. refl })
            (no_replies k s piece (λ seat said e. subst (IsOwn k s (Close shard) t) e own));
      })
  event_known k pasts s (Enter session user) piece t in_line h own p =
      rw p.after (record {
        seats = nobody_known sessions k pasts s (Enter session user) piece p.moved h
            (bears_still k.connections s.world p.moved (talks_still sessions still k false (place_of session) _ s.world _ p.moved p.left (text_of k piece) p.goes))
            (record { came = λ seat n. refl; gone = λ seat n. refl })
            (no_replies k s piece (λ seat said e. subst (IsOwn k s (Enter session user) t) e own));
      })
  event_known k pasts s (Say session bytes) piece t in_line h own p =
      rw p.after (record {
        seats = nobody_known sessions k pasts s (Say session bytes) piece p.moved h
            (bears_still k.connections s.world p.moved (talks_still sessions still k false (place_of session) _ s.world _ p.moved p.left (text_of k piece) p.goes))
            (record { came = λ seat n. refl; gone = λ seat n. refl })
            (no_replies k s piece (λ seat said e. subst (IsOwn k s (Say session bytes) t) e own));
      })
  event_known k pasts s (Idle session) piece t in_line h own p =
      rw p.after (record {
        seats = nobody_known sessions k pasts s (Idle session) piece p.moved h
            (bears_still k.connections s.world p.moved (idles_still sessions still k false (place_of session) s.world p.visitor p.moved p.left (text_of k piece) p.goes))
            (record { came = λ seat n. refl; gone = λ seat n. refl })
            (no_replies k s piece (λ seat said e. subst (IsOwn k s (Idle session) t) e own));
      })
  event_known k pasts s (Leave session) piece t in_line h own p =
      rw p.after (record {
        seats = nobody_known sessions k pasts s (Leave session) piece p.moved h (bears_still k.connections s.world p.moved (leaves_still sessions still k (place_of session) s.world p.moved p.leaves))
            (record { came = λ seat n. refl; gone = λ seat n. refl })
            (no_replies k s piece (λ seat said e. subst (IsOwn k s (Leave session) t) e own));
      })

  -- ---- a record

  -- what came and what was told by the end of these entries
  abbrev pub past_after : Setup → ((seat serial : ℕ) → Past) → Scene → List Entry → (seat serial : ℕ) → Past
  past_after k pasts s entries seat n = record {
    came = (pasts seat n).came ++ came_for sessions seat n s entries;
    told = (pasts seat n).told ++ told_to sessions k seat n s entries;
    gone = (pasts seat n).gone || has_vanished sessions seat n s entries;
  }

  -- the same histories
  scene_same : (k : Setup) (pasts now : (seat serial : ℕ) → Past) (s : Scene) → ((seat n : ℕ) → now seat n ≡ pasts seat n) → SceneKnown sessions k pasts s → SceneKnown sessions k now s
  scene_same k pasts now s e h = record {
    seats = λ seat l. seat_stays k seat (s.world.heard seat) (s.world.heard seat) (put_by s.world seat) (put_by s.world seat) (s.next seat) (pasts seat) (now seat) (s.caller seat)
        (λ r c. c) (λ n these t x. x) (e seat) (h.seats seat l);
  }

  or_assoc : (a b c : Bool) → (a || (b || c)) ≡ ((a || b) || c)
  or_assoc true b c = refl
  or_assoc false b c = refl

  past_assoc : (past : Past) (came more told said : List ℕ) (gone left : Bool)
      → ◌≡◌ {A = Past} (record { came = past.came ++ (came ++ more); told = past.told ++ (told ++ said); gone = past.gone || (gone || left) })
      (record { came = (past.came ++ came) ++ more; told = (past.told ++ told) ++ said; gone = (past.gone || gone) || left })
  past_assoc past came more told said gone left =
      ap (λ (x : List ℕ). record { came = x; told = past.told ++ (told ++ said); gone = past.gone || (gone || left) }) (sym (append_assoc past.came came more))
      ∙ ap (λ (x : List ℕ). record { came = (past.came ++ came) ++ more; told = x; gone = past.gone || (gone || left) }) (sym (append_assoc past.told told said))
      ∙ ap (λ (x : Bool). record { came = (past.came ++ came) ++ more; told = (past.told ++ told) ++ said; gone = x }) (or_assoc past.gone gone left)

  pub record_known : (k : Setup) (pasts : (seat serial : ℕ) → Past) (s : Scene) (entries : List Entry) (t : Scene) → IsInLine k.host → SceneKnown sessions k pasts s → IsRecord k entries s t
      → SceneKnown sessions k (past_after k pasts s entries) t
  record_known k pasts s [] t in_line h r =
      subst (SceneKnown sessions k (past_after k pasts s [])) (sym r) (scene_same k pasts (past_after k pasts s []) s (λ seat n. past_same sessions (pasts seat n)) h)
  record_known k pasts s (entry ∷ entries) t in_line h r =
      let one = event_known k pasts s entry.event entry.piece entry.after in_line h r.0.own r.0.plays in
      let all = record_known k (past_then sessions k pasts s entry.event entry.piece) entry.after entries t in_line one r.1 in
      scene_same k (past_after k (past_then sessions k pasts s entry.event entry.piece) entry.after entries) (past_after k pasts s (entry ∷ entries)) t
      (λ seat n. past_assoc (pasts seat n) (came_in sessions seat n s entry.event) (came_for sessions seat n entry.after entries) (told_in sessions k seat n s entry.piece) (told_to sessions k seat n entry.after entries)
      (vanishes_in sessions seat n s entry.event) (has_vanished sessions seat n entry.after entries)) all

  abbrev pub no_pasts : (seat serial : ℕ) → Past
  no_pasts seat n = no_past

  -- nothing has come to a new house, and nobody was there
  pub nothing_known : (k : Setup) → SceneKnown sessions k no_pasts (empty_scene k)
  nothing_known k = record { seats = λ seat l. record { there = λ n m. absurd (omega (arith, m)); later = λ n m. (refl, λ t. tt) } }
