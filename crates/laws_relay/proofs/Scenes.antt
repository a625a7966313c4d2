-- Each event of a house: what is known of all connections afterwards.
use Rattle.std.proofs.Common.{◌≡◌, ◌≢◌, ℕ, ◌+◌, ◌<◌, ◌≤◌, ◌⊎◌, inl, inr, Bool, true, false, eqb, ◌&&◌, ◌||◌, if◌then◌else◌, List, [], ◌++◌, map, Contains, refl, ap, sym, subst, ◌∙◌, append-nil, arith, Option, Some}
use Rattle.std.proofs.lemmas.Bool.{eq-eqb}
use Rattle.std.proofs.lemmas.Bool.Decides.{eqb_tells}
use Rattle.std.specs.Borrow.{Bor}
use Rattle.delivery_token.specs.declared.Job.{Job}
use Rattle.delivery_token.specs.declared.log.Noted.{Noted}
use Rattle.shard_queue.specs.Lane.{set_at}
use Rattle.shard_queue.specs.declared.lane.Entry.{Entry as LaneEntry}
use Rattle.world.specs.World.{World}
use Rattle.lmtp_machine.specs.declared.reply.Reply.{Reply}
use Rattle.lmtp_machine.specs.Dialogue.{wire}
use Rattle.house_peers.specs.Caller.{Caller, Terms}
use Rattle.line_io.specs.Wire.{marked}
use Rattle.house.specs.Printing.{of_connection}
use Rattle.house.specs.Scene.{seat_of}
use Rattle.house.specs.Setup.{Setup, session_seat}
use Rattle.house.specs.declared.event.Event.{Event}
use Rattle.house.specs.declared.event.Event.TheVariants.{Bytes, Put, Hear}
use Rattle.exactly_once.specs.Promise.{Lines, Replies, Silence}
use Rattle.laws_relay.specs.RecordLaws.{came_in, is_meant, told_in, vanishes_in, Sessions, peers_of}
use Rattle.exactly_once.proofs.Lanes.{put_by}
use Rattle.laws_relay.proofs.Printed.{Past, WentOn}
use Rattle.laws_relay.proofs.Seated.{SentGrows}
use Rattle.laws_relay.proofs.Seats.{ArePast, IsNew, SeatKnown, own_terms, seat_stays, seat_went}
use Rattle.laws_relay.proofs.Worlds.{Bears}
use Rattle.house.specs.AnyScene as any
use Rattle.exactly_once.specs.AnyPromise as promised

module _ (sessions : Sessions) where
  abbrev Scene : Type 0
  Scene = any.Scene (peers_of sessions)

  abbrev Piece : Type 0
  Piece = promised.Piece (peers_of sessions)

  abbrev IsOwn : Setup → Scene → Event → Scene → Piece → Type 0
  IsOwn = promised.IsOwn (peers_of sessions)

  abbrev Said : Type 0
  Said = promised.Said (peers_of sessions)

  abbrev reply_of : Said → Reply
  reply_of = promised.reply_of (peers_of sessions)

  abbrev serial_of : (next : ℕ) → Option Caller → ℕ
  serial_of = promised.serial_of (peers_of sessions)

  abbrev text_of : Setup → Piece → List ℕ
  text_of = promised.text_of (peers_of sessions)

  -- what is known of each seat, by what came for each of its connections and what it was told so far
  pub record SceneKnown (k : Setup) (pasts : (seat serial : ℕ) → Past) (s : Scene) : Type 0 where
    pub seats : (seat : ℕ) → seat < k.connections → SeatKnown k seat (s.world.heard seat) (put_by s.world seat) (s.next seat) (pasts seat) (s.caller seat)

  -- what came and what was told by then
  abbrev pub past_then : Setup → ((seat serial : ℕ) → Past) → Scene → Event → Piece → (seat serial : ℕ) → Past
  past_then k pasts s e piece seat n = record {
    came = (pasts seat n).came ++ came_in sessions seat n s e;
    told = (pasts seat n).told ++ told_in sessions k seat n s piece;
    gone = (pasts seat n).gone || vanishes_in sessions seat n s e;
  }

  past_is : (past : Past) (came told : List ℕ) (gone : Bool) (more said : List ℕ) (left : Bool) → more ≡ came → said ≡ told → left ≡ gone
      → ◌≡◌ {A = Past} (record { came = past.came ++ more; told = past.told ++ said; gone = past.gone || left })
      (record { came = past.came ++ came; told = past.told ++ told; gone = past.gone || gone })
  past_is past came told gone more said left e f g =
      ap (λ (x : List ℕ). record { came = past.came ++ x; told = past.told ++ said; gone = past.gone || left }) e
      ∙ ap (λ (x : List ℕ). record { came = past.came ++ came; told = past.told ++ x; gone = past.gone || left }) f
      ∙ ap (λ (x : Bool). record { came = past.came ++ came; told = past.told ++ told; gone = past.gone || x }) g

  or_false : (b : Bool) → (b || false) ≡ b
  or_false true = refl
  or_false false = refl

  pub past_same : (past : Past) → ◌≡◌ {A = Past} (record { came = past.came ++ []; told = past.told ++ []; gone = past.gone || false }) past
  past_same past =
      ap (λ (x : List ℕ). record { came = x; told = past.told ++ []; gone = past.gone || false }) (append-nil past.came)
      ∙ ap (λ (x : List ℕ). record { came = past.came; told = x; gone = past.gone || false }) (append-nil past.told)
      ∙ ap (λ (x : Bool). record { came = past.came; told = past.told; gone = x }) (or_false past.gone)

  -- ---- who is meant

  pub meant_elsewhere : (seat n : ℕ) (s : Scene) (at : ℕ) → seat ≢ at → is_meant sessions seat n s at ≡ false
  meant_elsewhere seat n s at other = by (eqb_tells at seat)
    where
      by : ((eqb at seat ≡ true) × (at ≡ seat)) ⊎ ((eqb at seat ≡ false) × (at ≢ seat)) → is_meant sessions seat n s at ≡ false
      by (inl (t, e)) = absurd (other (sym e))
      by (inr (t, e)) = rw t refl

  pub meant_other : (n : ℕ) (s : Scene) (at : ℕ) → n ≢ serial_of (s.next at) (s.caller at) → is_meant sessions at n s at ≡ false
  meant_other n s at other = by (eqb_tells (serial_of (s.next at) (s.caller at)) n)
    where
      by : ((eqb (serial_of (s.next at) (s.caller at)) n ≡ true) × (serial_of (s.next at) (s.caller at) ≡ n)) ⊎
          ((eqb (serial_of (s.next at) (s.caller at)) n ≡ false) × (serial_of (s.next at) (s.caller at) ≢ n)) → is_meant sessions at n s at ≡ false
      by (inl (t, e)) = absurd (other (sym e))
      by (inr (t, e)) = rw (eq-eqb at at refl, t) refl

  pub meant_here : (n : ℕ) (s : Scene) (at : ℕ) → n ≡ serial_of (s.next at) (s.caller at) → is_meant sessions at n s at ≡ true
  meant_here n s at e = rw (eq-eqb at at refl) (eq-eqb (serial_of (s.next at) (s.caller at)) n (sym e))

  -- what is of the one that is meant alone
  abbrev pub where_meant : Bool → List ℕ → List ℕ
  where_meant b bytes = if b then bytes else []

  not_meant : (b : Bool) (bytes : List ℕ) → b ≡ false → where_meant b bytes ≡ []
  not_meant b bytes e = ap (λ (x : Bool). where_meant x bytes) e

  -- what an event brings the one at a seat
  pub record Brings (s : Scene) (e : Event) (at : ℕ) (bytes : List ℕ) (vanishes : Bool) : Type 0 where
    pub came : (seat n : ℕ) → came_in sessions seat n s e ≡ where_meant (is_meant sessions seat n s at) bytes
    pub gone : (seat n : ℕ) → vanishes_in sessions seat n s e ≡ (is_meant sessions seat n s at && vanishes)

  -- ---- what a piece says

  -- what the connection at a seat says in a piece
  pub record Says (k : Setup) (s : Scene) (at : ℕ) (piece : Piece) : Type 0 where
    pub replies : List Reply
    pub text : text_of k piece ≡ marked of_connection (at + 1) (wire k.host replies)
    pub told : (seat n : ℕ) → told_in sessions k seat n s piece ≡ where_meant (is_meant sessions seat n s at) (wire k.host replies)

  pub says_nothing : (k : Setup) (s : Scene) (at : ℕ) → Says k s at Silence
  says_nothing k s at = record { replies = []; text = refl; told = λ seat n. by (is_meant sessions seat n s at) }
    where
      by : (b : Bool) → [] ≡ where_meant b []
      by true = refl
      by false = refl

  says_replies : (k : Setup) (s : Scene) (at seat : ℕ) (said : List Said) → seat ≡ at → Says k s at (Replies seat said)
  says_replies k s at seat said e =
      subst (λ (x : ℕ). Says k s x (Replies seat said)) e (record { replies = map reply_of said; text = refl; told = λ j n. refl })

  pub bytes_says : (k : Setup) (s t : Scene) (connection : ℕ) (bytes : Bor (List ℕ)) (piece : Piece) → IsOwn k s (Bytes connection bytes) t piece → Says k s (seat_of connection) piece
  bytes_says k s t connection bytes (Replies seat said) own = says_replies k s (seat_of connection) seat said own.0
  bytes_says k s t connection bytes (Lines session lines) own = absurd own
  bytes_says k s t connection bytes Silence own = says_nothing k s (seat_of connection)

  pub no_session : (k : Setup) (seat place : ℕ) → seat < k.connections → seat ≡ session_seat k place → ⊥
  no_session k seat place l e = omega (arith, l, e)

  pub put_says : (k : Setup) (s t : Scene) (number : ℕ) (piece : Piece) → seat_of number < k.connections → IsOwn k s (Put number) t piece → Says k s (seat_of number) piece
  put_says k s t number (Replies seat said) l own = says_replies k s (seat_of number) seat said own.0
  put_says k s t number (Lines session lines) l own = absurd (no_session k (seat_of number) own.place l own.seat)
  put_says k s t number Silence l own = says_nothing k s (seat_of number)

  pub hear_says : (k : Setup) (s t : Scene) (number : ℕ) (piece : Piece) → seat_of number < k.connections → IsOwn k s (Hear number) t piece → Says k s (seat_of number) piece
  hear_says k s t number (Replies seat said) l own = says_replies k s (seat_of number) seat said own.0
  hear_says k s t number (Lines session lines) l own = absurd (no_session k (seat_of number) own.place l own.seat)
  hear_says k s t number Silence l own = says_nothing k s (seat_of number)

  -- no connection says anything
  abbrev pub IsQuiet : Setup → Scene → Piece → Type 0
  IsQuiet k s piece = (seat n : ℕ) → told_in sessions k seat n s piece ≡ []

  pub put_quiet : (k : Setup) (s t : Scene) (number place : ℕ) (piece : Piece) → seat_of number ≡ session_seat k place → IsOwn k s (Put number) t piece → IsQuiet k s piece
  put_quiet k s t number place (Replies seat said) e own seat_j n = absurd (no_session k seat place own.1 (own.0 ∙ e))
  put_quiet k s t number place (Lines session lines) e own seat n = refl
  put_quiet k s t number place Silence e own seat n = refl

  pub hear_quiet : (k : Setup) (s t : Scene) (number place : ℕ) (piece : Piece) → seat_of number ≡ session_seat k place → IsOwn k s (Hear number) t piece → IsQuiet k s piece
  hear_quiet k s t number place (Replies seat said) e own seat_j n = absurd (no_session k seat place own.1 (own.0 ∙ e))
  hear_quiet k s t number place (Lines session lines) e own seat n = refl
  hear_quiet k s t number place Silence e own seat n = refl

  -- nothing comes for any connection
  pub record BringsNothing (s : Scene) (e : Event) : Type 0 where
    pub came : (seat n : ℕ) → came_in sessions seat n s e ≡ []
    pub gone : (seat n : ℕ) → vanishes_in sessions seat n s e ≡ false

  pub nothing_brought : (s : Scene) (e : Event) (at : ℕ) → BringsNothing s e → Brings s e at [] false
  nothing_brought s e at b = record { came = λ seat n. b.came seat n ∙ none (is_meant sessions seat n s at); gone = λ seat n. b.gone seat n ∙ never (is_meant sessions seat n s at) }
    where
      none : (x : Bool) → [] ≡ where_meant x []
      none true = refl
      none false = refl

      never : (x : Bool) → false ≡ (x && false)
      never true = refl
      never false = refl

  -- ---- nobody at a seat of connections does anything

  pub nobody_known : (k : Setup) (pasts : (seat serial : ℕ) → Past) (s : Scene) (e : Event) (piece : Piece) (v : World) → SceneKnown k pasts s → Bears k.connections s.world v
      → BringsNothing s e → IsQuiet k s piece
      → (seat : ℕ) → seat < k.connections → SeatKnown k seat (v.heard seat) (put_by v seat) (s.next seat) (past_then k pasts s e piece seat) (s.caller seat)
  nobody_known k pasts s e piece v h bears none quiet seat l =
      seat_stays k seat (s.world.heard seat) (v.heard seat) (put_by s.world seat) (put_by v seat) (s.next seat) (pasts seat) (past_then k pasts s e piece seat) (s.caller seat)
      (bears.heard seat) (bears.sent seat l)
      (λ n. past_is (pasts seat n) [] [] false (came_in sessions seat n s e) (told_in sessions k seat n s piece) (vanishes_in sessions seat n s e) (none.came seat n) (quiet seat n) (none.gone seat n) ∙ past_same
      (pasts seat n)) (h.seats seat l)

  -- ---- a connection does something

  -- who isn't meant has what it had
  other_past : (k : Setup) (pasts : (seat serial : ℕ) → Past) (s : Scene) (e : Event) (piece : Piece) (at : ℕ) (bytes : List ℕ) (vanishes : Bool) → Says k s at piece → Brings s e at bytes vanishes
      → (seat n : ℕ) → is_meant sessions seat n s at ≡ false → past_then k pasts s e piece seat n ≡ pasts seat n
  other_past k pasts s e piece at bytes vanishes says brings seat n f =
      past_is (pasts seat n) [] [] false (came_in sessions seat n s e) (told_in sessions k seat n s piece) (vanishes_in sessions seat n s e)
      (brings.came seat n ∙ not_meant (is_meant sessions seat n s at) bytes f) (says.told seat n ∙ not_meant (is_meant sessions seat n s at) (wire k.host says.replies) f)
      (brings.gone seat n ∙ ap (λ (x : Bool). x && vanishes) f)
      ∙ past_same (pasts seat n)

  -- and who is meant has more
  more_past : (k : Setup) (pasts : (seat serial : ℕ) → Past) (s : Scene) (e : Event) (piece : Piece) (at : ℕ) (bytes : List ℕ) (vanishes : Bool) → (says : Says k s at piece)
      → Brings s e at bytes vanishes
      → (seat n : ℕ) → is_meant sessions seat n s at ≡ true
      → ◌≡◌ {A = Past} (past_then k pasts s e piece seat n)
      (record { came = (pasts seat n).came ++ bytes; told = (pasts seat n).told ++ wire k.host says.replies; gone = (pasts seat n).gone || vanishes })
  more_past k pasts s e piece at bytes vanishes says brings seat n t =
      past_is (pasts seat n) bytes (wire k.host says.replies) vanishes (came_in sessions seat n s e) (told_in sessions k seat n s piece) (vanishes_in sessions seat n s e)
      (brings.came seat n ∙ ap (λ (x : Bool). where_meant x bytes) t) (says.told seat n ∙ ap (λ (x : Bool). where_meant x (wire k.host says.replies)) t)
      (brings.gone seat n ∙ ap (λ (x : Bool). x && vanishes) t)

  -- one seat, and all others
  pub caller_known : (k : Setup) (pasts : (seat serial : ℕ) → Past) (s : Scene) (e : Event) (piece : Piece) (at : ℕ) (bytes : List ℕ) (vanishes : Bool) (v : World) (o : Option Caller)
      (next : ℕ → ℕ) → SceneKnown k pasts s → Says k s at piece → Brings s e at bytes vanishes
      → ((seat : ℕ) (r : Noted) → Contains (s.world.heard seat) r → Contains (v.heard seat) r) → ((seat : ℕ) → seat ≢ at → (n : ℕ) → SentGrows n (put_by s.world seat) (put_by v seat))
      → ((seat : ℕ) → seat ≢ at → next seat ≡ s.next seat)
      → (at < k.connections → SeatKnown k at (v.heard at) (put_by v at) (next at) (past_then k pasts s e piece at) o)
      → (seat : ℕ) → seat < k.connections → SeatKnown k seat (v.heard seat) (put_by v seat) (next seat) (past_then k pasts s e piece seat) (set_at s.caller at o seat)
  caller_known k pasts s e piece at bytes vanishes v o next h says brings heard sent same here seat l = by (eqb_tells seat at)
    where
      by : ((eqb seat at ≡ true) × (seat ≡ at)) ⊎ ((eqb seat at ≡ false) × (seat ≢ at))
          → SeatKnown k seat (v.heard seat) (put_by v seat) (next seat) (past_then k pasts s e piece seat) (set_at s.caller at o seat)
      by (inl (t, x)) = rw t (subst (λ (j : ℕ). SeatKnown k j (v.heard j) (put_by v j) (next j) (past_then k pasts s e piece j) o) (sym x) (here (subst (λ (j : ℕ). j < k.connections) x l)))
      by (inr (t, x)) = rw t (subst (λ (m : ℕ). SeatKnown k seat (v.heard seat) (put_by v seat) m (past_then k pasts s e piece seat) (s.caller seat)) (sym (same seat x))
          (seat_stays k seat (s.world.heard seat) (v.heard seat) (put_by s.world seat) (put_by v seat) (s.next seat) (pasts seat) (past_then k pasts s e piece seat) (s.caller seat)
          (heard seat) (sent seat x) (λ n. other_past k pasts s e piece at bytes vanishes says brings seat n (meant_elsewhere seat n s at x)) (h.seats seat l)))

  -- its connection, which has this serial, went on
  pub here_known : (k : Setup) (pasts : (seat serial : ℕ) → Past) (s : Scene) (e : Event) (piece : Piece) (at : ℕ) (bytes : List ℕ) (vanishes : Bool) (v : World) (o : Option Caller)
      (next : ℕ → ℕ) (serial : ℕ) (says : Says k s at piece) → Brings s e at bytes vanishes
      → serial ≡ serial_of (s.next at) (s.caller at) → next at ≡ serial + 1 → ((r : Noted) → Contains (s.world.heard at) r → Contains (v.heard at) r)
      → ((n : ℕ) → n ≢ serial → SentGrows n (put_by s.world at) (put_by v at))
      → ArePast k at (s.world.heard at) (put_by s.world at) (pasts at) serial → ((n : ℕ) → serial + 1 ≤ n → IsNew (put_by s.world at) (pasts at) n)
      → WentOn (own_terms k) at (v.heard at) (put_by v at)
      (record { came = (pasts at serial).came ++ bytes; told = (pasts at serial).told ++ wire k.host says.replies; gone = (pasts at serial).gone || vanishes }) serial o
      → SeatKnown k at (v.heard at) (put_by v at) (next at) (past_then k pasts s e piece at) o
  here_known k pasts s e piece at bytes vanishes v o next serial says brings is follows heard sent past new went =
      seat_went k at (s.world.heard at) (v.heard at) (put_by s.world at) (put_by v at) (next at) (pasts at) (past_then k pasts s e piece at) o serial heard sent
      (λ n d. other_past k pasts s e piece at bytes vanishes says brings at n (meant_other n s at (λ x. d (x ∙ sym is)))) follows past new
      (subst (λ (x : Past). WentOn (own_terms k) at (v.heard at) (put_by v at) x serial o)
      (sym (more_past k pasts s e piece at bytes vanishes says brings at serial (meant_here serial s at is))) went)

  -- who stands at a seat
  pub at_caller : (k : Setup) (pasts : (seat serial : ℕ) → Past) (s : Scene) (at : ℕ) (o : Option Caller) → SceneKnown k pasts s → at < k.connections → s.caller at ≡ o
      → SeatKnown k at (s.world.heard at) (put_by s.world at) (s.next at) (pasts at) o
  at_caller k pasts s at o h l there = subst (SeatKnown k at (s.world.heard at) (put_by s.world at) (s.next at) (pasts at)) there (h.seats at l)

  -- the one at a seat went on
  pub stander_known : (k : Setup) (pasts : (seat serial : ℕ) → Past) (s : Scene) (e : Event) (piece : Piece) (at : ℕ) (bytes : List ℕ) (vanishes : Bool) (v : World) (b : Caller)
      (o : Option Caller) (says : Says k s at piece) → Brings s e at bytes vanishes
      → s.caller at ≡ Some b → ((r : Noted) → Contains (s.world.heard at) r → Contains (v.heard at) r) → ((n : ℕ) → n ≢ b.serial → SentGrows n (put_by s.world at) (put_by v at))
      → SeatKnown k at (s.world.heard at) (put_by s.world at) (s.next at) (pasts at) (Some b)
      → WentOn (own_terms k) at (v.heard at) (put_by v at)
      (record { came = (pasts at b.serial).came ++ bytes; told = (pasts at b.serial).told ++ wire k.host says.replies; gone = (pasts at b.serial).gone || vanishes }) b.serial o
      → SeatKnown k at (v.heard at) (put_by v at) (s.next at) (past_then k pasts s e piece at) o
  stander_known k pasts s e piece at bytes vanishes v b o says brings there heard sent h went =
      here_known k pasts s e piece at bytes vanishes v o s.next b.serial says brings (ap (serial_of (s.next at)) (sym there)) h.there.0 heard sent h.there.3
      (λ n l. h.later n (subst (λ (x : ℕ). x ≤ n) (sym h.there.0) l)) went

  -- what it came to, by whether its peer is gone
  pub went_gone : (g : Terms) (at : ℕ) (heard : List Noted) (sent : ℕ → List (LaneEntry Job)) (came now told : List ℕ) (gone left : Bool) (serial : ℕ) (o : Option Caller) → came ≡ now
      → gone ≡ left
      → WentOn g at heard sent (record { came = came; told = told; gone = gone }) serial o → WentOn g at heard sent (record { came = now; told = told; gone = left }) serial o
  went_gone g at heard sent came now told gone left serial o e f h =
      subst (λ (x : List ℕ). WentOn g at heard sent (record { came = x; told = told; gone = left }) serial o) e
      (subst (λ (x : Bool). WentOn g at heard sent (record { came = came; told = told; gone = x }) serial o) f h)
