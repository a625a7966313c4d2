-- Over a whole record the client of each session that is there keeps up.
use Rattle.std.proofs.Common.{◌≡◌, ◌≢◌, ℕ, ◌+◌, ◌<◌, true, false, ◌==◌, List, ◌∷◌, ◌++◌, refl, sym, subst, ap, ◌∙◌, arith, append-nil, []}
use Rattle.std.specs.Prelude.{Option, Some, None, if◌then◌else◌}
use Rattle.std.proofs.lemmas.Bool.{eq-eqb, false≢true}
use Rattle.std.specs.Borrow.{Bor}
use Rattle.line_io.specs.Wire.{IsCut, joined}
use Rattle.world.specs.World as world
use Rattle.world.specs.World.{Config, Event, Steps, World, empty_world}
use Rattle.house_peers.specs.Visitor.{SeatedVisitor}
use Rattle.house.specs.Setup.{Setup, session_seat, admitted_in}
use Rattle.house.specs.Printing.{Prints, of_session}
use Rattle.house.specs.Scene as scene
use Rattle.house.specs.Scene.{BytesPlay, ConnectionHears, ConnectionPuts, EnterPlay, HearPlay, IdlePlay, Moves, Plays, PutPlay, SayPlay, Scene, SessionGoes, SessionHears, SessionPuts, SessionTalks, connection_hears, connection_puts, empty_scene, goes_on, opens, place_of, seat_of, session_hears, session_puts}
use Rattle.house.specs.declared.event.Event as house
use Rattle.house.specs.declared.event.Event.TheVariants.{Bytes, Vanish, Put, Take, Deliver, Answer, Hear, End, Close, Enter, Say, Idle, Leave}
use Rattle.imap_session.specs.Exchange as calls
use Rattle.exactly_once.specs.Promise.{Entry, HearsLines, IsOwn, IsRecord, Lines, Piece, PutsLines, Replies, Silence, text_of}
use Rattle.exactly_once.proofs.Whole.{IsWhole, goes_whole, greeting_whole, idles_whole, whole_append}
use Rattle.laws_client.specs.ClientRecords.{serial_by_then, TextsStayShort, ClientsKeepUp, ClientsKeptUp, ClientsOfHousesKeepUp, KeepsUp, KeptUp, began_by_then, is_left, lets_in, sent_by_then, sent_in, shown_by_then, stays_by_then, user_by_then, first_words}
use Rattle.laws_client.specs.HouseClients.{IsPrintable, first_standing}
use Rattle.laws_client.specs.Sizes.{HasShortTexts}
use Rattle.laws_client.specs.HouseClients.{HasSmallNumbers}
use Rattle.laws_client.specs.RecordTurns.{Stands}
use Rattle.laws_client.specs.HouseClients.{IsOfOthers}
use Rattle.laws_client.proofs.Entries.{IsAside, IsAt, SceneKnown, Speech, aside_known, differs, idle_known, leave_known, let_known, lines_at, lingers, moved_known, moves_known, say_known, says, sent_then, shown_then, users_then, silent_at, the_client}
use Rattle.laws_client.proofs.Folded.{folders_plain}
use Rattle.laws_client.proofs.Living.{lives_known}
use Rattle.laws_client.specs.Clients.{IsRightAbout, hears_all}
use Rattle.imap_session.specs.Happenings.{Told}
use Rattle.laws_client.proofs.Boxes.{box_goes}
use Rattle.laws_client.proofs.RecordCurrent.{all_counted}
use Rattle.laws_client.proofs.Moved.{moved, moved_extends, short_before}
use Rattle.laws_client.proofs.Names.{goes_extends}
use Rattle.laws_client.proofs.Recording.{Arrival, Client, Finished, Watched, fits_lines, fits_silence}
use Rattle.laws_client.proofs.Seated.{here_step, put_here}
use Rattle.laws_client.proofs.Shortness.{texts_short}
use Rattle.laws_client.proofs.Texts.{has_short}
use Rattle.laws_client.proofs.RecordWorlds.{sound_always}

abbrev Then : Setup → Scene → (ℕ → Arrival) → (ℕ → List ℕ) → (ℕ → List ℕ) → house.Event → Piece → Scene → Type 0
Then k s users sent shown event piece t = SceneKnown k (users_then s users event) (sent_then sent event) (shown_then shown event piece) t

-- ---- connections, and what is no session's

-- a piece of replies, or none, says nothing of any session
replies_aside : (event : house.Event) (seat : ℕ) (said : _) → ((n : ℕ) → lets_in n event ≡ false) → ((n : ℕ) → sent_in n event ≡ []) → ((n : ℕ) → is_left n event ≡ false) → IsAside event (Replies seat said)
replies_aside event seat said e f g = record { not_in = e; not_left = g; not_sent = f; not_shown = λ n. refl }

silent_aside : (event : house.Event) → ((n : ℕ) → lets_in n event ≡ false) → ((n : ℕ) → sent_in n event ≡ []) → ((n : ℕ) → is_left n event ≡ false) → IsAside event Silence
silent_aside event e f g = record { not_in = e; not_left = g; not_sent = f; not_shown = λ n. refl }

bytes_known : (k : Setup) (users : ℕ → Arrival) (sent shown : ℕ → List ℕ) (s : Scene) (event : house.Event) (seat : ℕ) (bytes : List ℕ) (t : Scene) (printed : List ℕ) (piece : Piece) → SceneKnown k users sent shown s → IsAside event piece
    → BytesPlay k false s seat bytes t printed → Then k s users sent shown event piece t
bytes_known k users sent shown s event seat bytes t printed piece K aside (opens there free more o g after) = subst (λ (x : Scene). Then k s users sent shown event piece x) (sym after) (aside_known k users sent shown s event piece _ _ s.entered s.shut K aside)
bytes_known k users sent shown s event seat bytes t printed piece K aside (goes_on b there read o g after) = subst (λ (x : Scene). Then k s users sent shown event piece x) (sym after) (aside_known k users sent shown s event piece _ s.next s.entered s.shut K aside)

world_known : (k : Setup) (users : ℕ → Arrival) (sent shown : ℕ → List ℕ) (s : Scene) (event : house.Event) (moves : world.Event) (t : Scene) (printed : List ℕ) → SceneKnown k users sent shown s → IsAside event Silence → ((n : ℕ) → IsOfOthers n moves)
    → Moves k s moves t printed → Then k s users sent shown event Silence t
world_known k users sent shown s event moves t printed K aside own m =
    subst (λ (x : Scene). Then k s users sent shown event Silence x) (sym m.after) (moves_known k users sent shown s event Silence moves m.moved s.caller s.next s.entered s.shut K aside own m.step)

puts_known : (k : Setup) (users : ℕ → Arrival) (sent shown : ℕ → List ℕ) (s : Scene) (number seat : ℕ) (t : Scene) (printed : List ℕ) (piece : Piece) → SceneKnown k users sent shown s → IsAside (Put number) piece → ConnectionPuts k false s seat t printed
    → Then k s users sent shown (Put number) piece t
puts_known k users sent shown s number seat t printed piece K aside p =
    subst (λ (x : Scene). Then k s users sent shown (Put number) piece x) (sym p.after)
    (moves_known k users sent shown s (Put number) piece (world.Put seat (world.shard_of k.config p.copy.mailbox) p.copy) p.moved _ s.next s.entered s.shut K aside (λ n. tt) p.step)

hears_known : (k : Setup) (users : ℕ → Arrival) (sent shown : ℕ → List ℕ) (s : Scene) (number seat : ℕ) (t : Scene) (printed : List ℕ) (piece : Piece) → SceneKnown k users sent shown s → IsAside (Hear number) piece → ConnectionHears k false s seat t printed
    → Then k s users sent shown (Hear number) piece t
hears_known k users sent shown s number seat t printed piece K aside p =
    subst (λ (x : Scene). Then k s users sent shown (Hear number) piece x) (sym p.after)
    (moves_known k users sent shown s (Hear number) piece (world.Hear seat) p.moved _ s.next s.entered s.shut K aside (λ n. tt) p.step)

-- ---- sessions that put and hear

-- nothing was printed of it
silent_speech : (k : Setup) (users : ℕ → Arrival) (sent shown : ℕ → List ℕ) (s : Scene) (q : ℕ) (visitor b : SeatedVisitor) (heard : _) (w v : world.World) (o : Option SeatedVisitor) → SceneKnown k users sent shown s → s.visitor q ≡ Some visitor → b.session ≡ visitor.session → b.gone ≡ visitor.gone
    → SessionGoes k false q heard w b v o [] → Speech k q heard w b v o []
silent_speech k users sent shown s q visitor b heard w v o K there same alike (scene.talks l g) =
    let c = the_client k users sent shown s q visitor K there (sym alike ∙ l) in
    let unsaid : IsWhole b.session.unsaid = subst (λ x. IsWhole x.unsaid) (sym same) c.whole in
    let whole : IsWhole (b.session.unsaid ++ g.speaks.said) = whole_append b.session.unsaid g.speaks.said unsaid (goes_whole _ false (session_seat k q) heard b w g.mid g.speaks.spoken g.speaks.said g.speaks.goes) in
    says l g (fits_silence (q + 1) (b.session.unsaid ++ g.speaks.said) g.speaks.still [] whole refl g.speaks.prints)
silent_speech k users sent shown s q visitor b heard w v o K there same alike (scene.lingers l g e f) = lingers l g e

-- these lines were
lines_speech : (k : Setup) (q : ℕ) (b : SeatedVisitor) (heard : _) (w v : world.World) (o : Option SeatedVisitor) (lines : List (List ℕ)) (number : ℕ) → number ≡ q + 1
    → SessionGoes k false q heard w b v o (text_of k (Lines number lines)) → (g : SessionTalks k false q heard w b v o (text_of k (Lines number lines))) → IsCut (b.session.unsaid ++ g.speaks.said) lines []
    → Speech k q heard w b v o (joined lines)
lines_speech k q b heard w v o lines number own (scene.talks l other) g cut =
    says l g (fits_lines k (q + 1) (b.session.unsaid ++ g.speaks.said) g.speaks.still lines cut (subst (λ (n : ℕ). Prints of_session (q + 1) (b.session.unsaid ++ g.speaks.said) g.speaks.still (text_of k (Lines n lines))) own g.speaks.prints))
lines_speech k q b heard w v o lines number own (scene.lingers l other e f) g cut = lingers l other e

session_puts_known : (k : Setup) (users : ℕ → Arrival) (sent shown : ℕ → List ℕ) (s : Scene) (number q : ℕ) (t : Scene) (printed new : List ℕ) (piece : Piece) → HasSmallNumbers k.config → SceneKnown k users sent shown s → (p : SessionPuts k false s q t printed)
    → IsAt q (Put number) piece false [] new
    → Speech k q (p.moved.heard (session_seat k q)) p.moved (record { session = p.visitor.session; serial = p.visitor.serial; gone = p.visitor.gone; to_put = p.others }) p.later p.left new → Then k s users sent shown (Put number) piece t
session_puts_known k users sent shown s number q t printed new piece h K p at speech =
    subst (λ (x : Scene). Then k s users sent shown (Put number) piece x) (sym p.after)
    (moved_known k users sent shown s (Put number) q (world.Put (session_seat k q) (world.shard_of k.config p.copy.mailbox) p.copy) p.moved p.visitor
    (record { session = p.visitor.session; serial = p.visitor.serial; gone = p.visitor.gone; to_put = p.others }) p.later p.left new piece h K p.there refl refl
    (λ here. put_here k.config (session_seat k q) (users q).serial s.world p.moved p.visitor p.copy p.others p.front p.step here) at refl (λ n. tt) p.step speech)

session_hears_known : (k : Setup) (users : ℕ → Arrival) (sent shown : ℕ → List ℕ) (s : Scene) (number q : ℕ) (t : Scene) (printed new : List ℕ) (piece : Piece) → HasSmallNumbers k.config → SceneKnown k users sent shown s → (p : SessionHears k false s q t printed)
    → IsAt q (Hear number) piece false [] new → Speech k q (p.moved.heard (session_seat k q)) p.moved p.visitor p.later p.left new → Then k s users sent shown (Hear number) piece t
session_hears_known k users sent shown s number q t printed new piece h K p at speech =
    subst (λ (x : Scene). Then k s users sent shown (Hear number) piece x) (sym p.after)
    (moved_known k users sent shown s (Hear number) q (world.Hear (session_seat k q)) p.moved p.visitor p.visitor p.later p.left new piece h K p.there refl refl
    (λ here. here_step k.config (session_seat k q) (users q).serial s.world (world.Hear (session_seat k q)) p.moved p.visitor p.step here) at refl (λ n. tt) p.step speech)

put_silent : (k : Setup) (users : ℕ → Arrival) (sent shown : ℕ → List ℕ) (s : Scene) (number : ℕ) (t : Scene) → HasSmallNumbers k.config → SceneKnown k users sent shown s → PutPlay k false s (seat_of number) t [] → Then k s users sent shown (Put number) Silence t
put_silent k users sent shown s number t h K (connection_puts l p) = puts_known k users sent shown s number (seat_of number) t [] Silence K (silent_aside (Put number) (λ n. refl) (λ n. refl) (λ n. refl)) p
put_silent k users sent shown s number t h K (session_puts place e p) =
    session_puts_known k users sent shown s number place t [] [] Silence h K p (silent_at place (Put number) false [] refl refl (λ n other. refl) (λ n other. refl) (λ n other. refl))
    (silent_speech k users sent shown s place p.visitor (record { session = p.visitor.session; serial = p.visitor.serial; gone = p.visitor.gone; to_put = p.others }) (p.moved.heard (session_seat k place)) p.moved p.later p.left K p.there refl refl p.goes)

put_replies : (k : Setup) (users : ℕ → Arrival) (sent shown : ℕ → List ℕ) (s : Scene) (number seat : ℕ) (said : _) (t : Scene) (printed : List ℕ) → SceneKnown k users sent shown s → seat ≡ seat_of number → seat < k.connections → PutPlay k false s (seat_of number) t printed
    → Then k s users sent shown (Put number) (Replies seat said) t
put_replies k users sent shown s number seat said t printed K is l (connection_puts few p) = puts_known k users sent shown s number (seat_of number) t printed (Replies seat said) K (replies_aside (Put number) seat said (λ n. refl) (λ n. refl) (λ n. refl)) p
put_replies k users sent shown s number seat said t printed K is l (session_puts place e p) = absurd (omega (arith, is, l, e))

put_lines : (k : Setup) (users : ℕ → Arrival) (sent shown : ℕ → List ℕ) (s : Scene) (number n : ℕ) (lines : List (List ℕ)) (t : Scene) → HasSmallNumbers k.config → SceneKnown k users sent shown s → PutsLines k s number n lines t → Then k s users sent shown (Put number) (Lines n lines) t
put_lines k users sent shown s number n lines t h K own =
    let p = own.puts in
    session_puts_known k users sent shown s number own.place t (text_of k (Lines n lines)) (joined lines) (Lines n lines) h K p (lines_at own.place n lines (Put number) false [] own.own refl refl (λ j other. refl) (λ j other. refl) (λ j other. refl))
    (lines_speech k own.place (record { session = p.visitor.session; serial = p.visitor.serial; gone = p.visitor.gone; to_put = p.others }) (p.moved.heard (session_seat k own.place)) p.moved p.later p.left lines n own.own p.goes own.talks own.cut)

hear_silent : (k : Setup) (users : ℕ → Arrival) (sent shown : ℕ → List ℕ) (s : Scene) (number : ℕ) (t : Scene) → HasSmallNumbers k.config → SceneKnown k users sent shown s → HearPlay k false s (seat_of number) t [] → Then k s users sent shown (Hear number) Silence t
hear_silent k users sent shown s number t h K (connection_hears l p) = hears_known k users sent shown s number (seat_of number) t [] Silence K (silent_aside (Hear number) (λ n. refl) (λ n. refl) (λ n. refl)) p
hear_silent k users sent shown s number t h K (session_hears place e p) =
    session_hears_known k users sent shown s number place t [] [] Silence h K p (silent_at place (Hear number) false [] refl refl (λ n other. refl) (λ n other. refl) (λ n other. refl))
    (silent_speech k users sent shown s place p.visitor p.visitor (p.moved.heard (session_seat k place)) p.moved p.later p.left K p.there refl refl p.goes)

hear_replies : (k : Setup) (users : ℕ → Arrival) (sent shown : ℕ → List ℕ) (s : Scene) (number seat : ℕ) (said : _) (t : Scene) (printed : List ℕ) → SceneKnown k users sent shown s → seat ≡ seat_of number → seat < k.connections → HearPlay k false s (seat_of number) t printed
    → Then k s users sent shown (Hear number) (Replies seat said) t
hear_replies k users sent shown s number seat said t printed K is l (connection_hears few p) = hears_known k users sent shown s number (seat_of number) t printed (Replies seat said) K (replies_aside (Hear number) seat said (λ n. refl) (λ n. refl) (λ n. refl)) p
hear_replies k users sent shown s number seat said t printed K is l (session_hears place e p) = absurd (omega (arith, is, l, e))

hear_lines : (k : Setup) (users : ℕ → Arrival) (sent shown : ℕ → List ℕ) (s : Scene) (number n : ℕ) (lines : List (List ℕ)) (t : Scene) → HasSmallNumbers k.config → SceneKnown k users sent shown s → HearsLines k s number n lines t → Then k s users sent shown (Hear number) (Lines n lines) t
hear_lines k users sent shown s number n lines t h K own =
    let p = own.hears in
    session_hears_known k users sent shown s number own.place t (text_of k (Lines n lines)) (joined lines) (Lines n lines) h K p (lines_at own.place n lines (Hear number) false [] own.own refl refl (λ j other. refl) (λ j other. refl) (λ j other. refl))
    (lines_speech k own.place p.visitor (p.moved.heard (session_seat k own.place)) p.moved p.later p.left lines n own.own p.goes own.talks own.cut)

-- ---- sessions that are let in, are sent bytes, and idle

not_place : (session n : ℕ) → n ≢ place_of session → (place_of session == n) ≡ false
not_place session n other = differs (place_of session) n other

pub prints_at : (k : Setup) (q number : ℕ) (bytes still : List ℕ) (lines : List (List ℕ)) → number ≡ q + 1 → Prints of_session (q + 1) bytes still (text_of k (Lines number lines)) → Prints of_session (q + 1) bytes still (text_of k (Lines (q + 1) lines))
prints_at k q number bytes still lines own p = subst (λ (n : ℕ). Prints of_session (q + 1) bytes still (text_of k (Lines n lines))) own p

enter_silent : (k : Setup) (users : ℕ → Arrival) (sent shown : ℕ → List ℕ) (s : Scene) (session : ℕ) (user : Bor (List ℕ)) (t : Scene) → HasSmallNumbers k.config → SceneKnown k users sent shown s → EnterPlay k false s (place_of session) user.now t []
    → Then k s users sent shown (Enter session user) Silence t
enter_silent k users sent shown s session user t h K p =
    let g = p.goes.speaks in
    let words : List ℕ = first_words k user.now in
    let whole : IsWhole (words ++ g.said) = whole_append words g.said (greeting_whole (admitted_in k user.now).profile) (goes_whole _ false (session_seat k (place_of session)) _ _ s.world p.goes.mid g.spoken g.said g.goes) in
    let_known k users sent shown s session user t [] [] Silence h K p (silent_at (place_of session) (Enter session user) true [] (eq-eqb (place_of session) (place_of session) refl) refl (not_place session) (λ n other. refl) (λ n other. refl))
    (fits_silence (place_of session + 1) (words ++ g.said) g.still [] whole refl g.prints)

enter_lines : (k : Setup) (users : ℕ → Arrival) (sent shown : ℕ → List ℕ) (s : Scene) (session : ℕ) (user : Bor (List ℕ)) (number : ℕ) (lines : List (List ℕ)) (t : Scene) → HasSmallNumbers k.config → SceneKnown k users sent shown s → number ≡ place_of session + 1
    → (p : EnterPlay k false s (place_of session) user.now t (text_of k (Lines number lines))) → IsCut (first_words k user.now ++ p.goes.speaks.said) lines [] → Then k s users sent shown (Enter session user) (Lines number lines) t
enter_lines k users sent shown s session user number lines t h K own p cut =
    let g = p.goes.speaks in
    let_known k users sent shown s session user t (text_of k (Lines number lines)) (joined lines) (Lines number lines) h K p
    (lines_at (place_of session) number lines (Enter session user) true [] own (eq-eqb (place_of session) (place_of session) refl) refl (not_place session) (λ n other. refl) (λ n other. refl))
    (fits_lines k (place_of session + 1) (first_words k user.now ++ g.said) g.still lines cut (prints_at k (place_of session) number (first_words k user.now ++ g.said) g.still lines own g.prints))

pub sent_here : (session : ℕ) (bytes : List ℕ) → (if place_of session == place_of session then bytes else []) ≡ bytes
sent_here session bytes = rw (eq-eqb (place_of session) (place_of session) refl) refl

sent_there : (session n : ℕ) (bytes : List ℕ) → n ≢ place_of session → (if place_of session == n then bytes else []) ≡ []
sent_there session n bytes other = rw (not_place session n other) refl

say_silent : (k : Setup) (users : ℕ → Arrival) (sent shown : ℕ → List ℕ) (s : Scene) (session : ℕ) (bytes : Bor (List ℕ)) (t : Scene) → HasSmallNumbers k.config → SceneKnown k users sent shown s → SayPlay k false s (place_of session) bytes.now t []
    → Then k s users sent shown (Say session bytes) Silence t
say_silent k users sent shown s session bytes t h K p =
    let g = p.goes.speaks in
    let c = the_client k users sent shown s (place_of session) p.visitor K p.there p.is_read in
    let whole : IsWhole (p.visitor.session.unsaid ++ g.said) = whole_append p.visitor.session.unsaid g.said c.whole (goes_whole _ false (session_seat k (place_of session)) _ _ s.world p.goes.mid g.spoken g.said g.goes) in
    say_known k users sent shown s session bytes t [] [] Silence h K p (silent_at (place_of session) (Say session bytes) false bytes.now refl (sent_here session bytes.now) (λ n other. refl) (λ n other. sent_there session n bytes.now other) (λ n other. refl))
    (fits_silence (place_of session + 1) (p.visitor.session.unsaid ++ g.said) g.still [] whole refl g.prints)

say_lines : (k : Setup) (users : ℕ → Arrival) (sent shown : ℕ → List ℕ) (s : Scene) (session : ℕ) (bytes : Bor (List ℕ)) (number : ℕ) (lines : List (List ℕ)) (t : Scene) → HasSmallNumbers k.config → SceneKnown k users sent shown s → number ≡ place_of session + 1
    → (p : SayPlay k false s (place_of session) bytes.now t (text_of k (Lines number lines))) → IsCut (p.visitor.session.unsaid ++ p.goes.speaks.said) lines [] → Then k s users sent shown (Say session bytes) (Lines number lines) t
say_lines k users sent shown s session bytes number lines t h K own p cut =
    let g = p.goes.speaks in
    say_known k users sent shown s session bytes t (text_of k (Lines number lines)) (joined lines) (Lines number lines) h K p
    (lines_at (place_of session) number lines (Say session bytes) false bytes.now own refl (sent_here session bytes.now) (λ n other. refl) (λ n other. sent_there session n bytes.now other) (λ n other. refl))
    (fits_lines k (place_of session + 1) (p.visitor.session.unsaid ++ g.said) g.still lines cut (prints_at k (place_of session) number (p.visitor.session.unsaid ++ g.said) g.still lines own g.prints))

idle_silent : (k : Setup) (users : ℕ → Arrival) (sent shown : ℕ → List ℕ) (s : Scene) (session : ℕ) (t : Scene) → SceneKnown k users sent shown s → IdlePlay k false s (place_of session) t [] → Then k s users sent shown (Idle session) Silence t
idle_silent k users sent shown s session t K p =
    let g = p.goes in
    let c = the_client k users sent shown s (place_of session) p.visitor K p.there g.is_read in
    let whole : IsWhole (p.visitor.session.unsaid ++ g.idles.said) = whole_append p.visitor.session.unsaid g.idles.said c.whole (idles_whole _ p.visitor.session.standing s.world g.mid g.idles.said g.shown g.after.standing g.idles.turned) in
    idle_known k users sent shown s session t [] [] Silence K p (silent_at (place_of session) (Idle session) false [] refl refl (λ n other. refl) (λ n other. refl) (λ n other. refl))
    (fits_silence (place_of session + 1) (p.visitor.session.unsaid ++ g.idles.said) g.after.unsaid [] whole refl g.idles.prints)

idle_lines : (k : Setup) (users : ℕ → Arrival) (sent shown : ℕ → List ℕ) (s : Scene) (session number : ℕ) (lines : List (List ℕ)) (t : Scene) → SceneKnown k users sent shown s → number ≡ place_of session + 1
    → (p : IdlePlay k false s (place_of session) t (text_of k (Lines number lines))) → IsCut (p.visitor.session.unsaid ++ p.goes.idles.said) lines [] → Then k s users sent shown (Idle session) (Lines number lines) t
idle_lines k users sent shown s session number lines t K own p cut =
    let g = p.goes in
    idle_known k users sent shown s session t (text_of k (Lines number lines)) (joined lines) (Lines number lines) K p
    (lines_at (place_of session) number lines (Idle session) false [] own refl refl (λ n other. refl) (λ n other. refl) (λ n other. refl))
    (fits_lines k (place_of session + 1) (p.visitor.session.unsaid ++ g.idles.said) g.after.unsaid lines cut (prints_at k (place_of session) number (p.visitor.session.unsaid ++ g.idles.said) g.after.unsaid lines own g.idles.prints))

-- ---- all events

entry_known : (k : Setup) (users : ℕ → Arrival) (sent shown : ℕ → List ℕ) (s : Scene) (event : house.Event) (t : Scene) (piece : Piece) → HasSmallNumbers k.config → SceneKnown k users sent shown s → Plays k false s event t (text_of k piece) → IsOwn k s event t piece
    → Then k s users sent shown event piece t
entry_known k users sent shown s (Bytes connection bytes) t Silence h K p own = bytes_known k users sent shown s (Bytes connection bytes) (seat_of connection) bytes.now t [] Silence K (silent_aside (Bytes connection bytes) (λ n. refl) (λ n. refl) (λ n. refl)) p
entry_known k users sent shown s (Bytes connection bytes) t (Replies seat said) h K p own =
    bytes_known k users sent shown s (Bytes connection bytes) (seat_of connection) bytes.now t _ (Replies seat said) K (replies_aside (Bytes connection bytes) seat said (λ n. refl) (λ n. refl) (λ n. refl)) p
entry_known k users sent shown s (Vanish connection) t Silence h K p own =
    subst (λ (x : Scene). Then k s users sent shown (Vanish connection) Silence x) (sym p.after) (aside_known k users sent shown s (Vanish connection) Silence _ s.next s.entered s.shut K (silent_aside (Vanish connection) (λ n. refl) (λ n. refl) (λ n. refl)))
entry_known k users sent shown s (Put number) t Silence h K p own = put_silent k users sent shown s number t h K p
entry_known k users sent shown s (Put number) t (Replies seat said) h K p own = put_replies k users sent shown s number seat said t _ K own.0 own.1 p
entry_known k users sent shown s (Put number) t (Lines n lines) h K p own = put_lines k users sent shown s number n lines t h K own
entry_known k users sent shown s (Take shard) t Silence h K p own = world_known k users sent shown s (Take shard) (world.Take shard) t [] K (silent_aside (Take shard) (λ n. refl) (λ n. refl) (λ n. refl)) (λ n. tt) p
entry_known k users sent shown s (Deliver shard) t Silence h K p own = world_known k users sent shown s (Deliver shard) (world.Deliver shard) t [] K (silent_aside (Deliver shard) (λ n. refl) (λ n. refl) (λ n. refl)) (λ n. tt) p
entry_known k users sent shown s (Answer shard) t Silence h K p own = world_known k users sent shown s (Answer shard) (world.Answer shard) t [] K (silent_aside (Answer shard) (λ n. refl) (λ n. refl) (λ n. refl)) (λ n. tt) p
entry_known k users sent shown s (Hear number) t Silence h K p own = hear_silent k users sent shown s number t h K p
entry_known k users sent shown s (Hear number) t (Replies seat said) h K p own = hear_replies k users sent shown s number seat said t _ K own.0 own.1 p
entry_known k users sent shown s (Hear number) t (Lines n lines) h K p own = hear_lines k users sent shown s number n lines t h K own
entry_known k users sent shown s (End number shard) t Silence h K p own = world_known k users sent shown s (End number shard) (world.PutEnd (seat_of number) shard) t [] K (silent_aside (End number shard) (λ n. refl) (λ n. refl) (λ n. refl)) (λ n. tt) p
entry_known k users sent shown s (Close shard) t Silence h K p own =
    subst (λ (x : Scene). Then k s users sent shown (Close shard) Silence x) (sym p.after) (aside_known k users sent shown s (Close shard) Silence s.caller s.next s.entered _ K (silent_aside (Close shard) (λ n. refl) (λ n. refl) (λ n. refl)))
entry_known k users sent shown s (Enter session user) t Silence h K p own = enter_silent k users sent shown s session user t h K p
entry_known k users sent shown s (Enter session user) t (Lines n lines) h K p own = enter_lines k users sent shown s session user n lines t h K own.0 own.1 own.2
entry_known k users sent shown s (Say session bytes) t Silence h K p own = say_silent k users sent shown s session bytes t h K p
entry_known k users sent shown s (Say session bytes) t (Lines n lines) h K p own = say_lines k users sent shown s session bytes n lines t h K own.0 own.1 own.2
entry_known k users sent shown s (Idle session) t Silence h K p own = idle_silent k users sent shown s session t K p
entry_known k users sent shown s (Idle session) t (Lines n lines) h K p own = idle_lines k users sent shown s session n lines t K own.0 own.1 own.2
entry_known k users sent shown s (Leave session) t Silence h K p own = leave_known k users sent shown s session t [] K p
entry_known k users sent shown s _ t _ h _ p own = absurd own

-- ---- the whole record

-- under which serial one was let in at a place
-- who was let in at a place, by these entries
abbrev pub arrival_by_then : ℕ → Arrival → Scene → List Entry → Arrival
arrival_by_then n a s entries = record { user = user_by_then n a.user entries; began = began_by_then n a.began s entries; stays = stays_by_then n a.stays entries; serial = serial_by_then n a.serial s entries }

record_known : (k : Setup) (users : ℕ → Arrival) (sent shown : ℕ → List ℕ) (s : Scene) (entries : List Entry) (t : Scene) → HasSmallNumbers k.config → SceneKnown k users sent shown s → IsRecord k entries s t
    → SceneKnown k (λ n. arrival_by_then n (users n) s entries) (λ n. sent_by_then n (sent n) entries) (λ n. shown_by_then n (shown n) entries) t
record_known k users sent shown s [] t h K e = rw e K
record_known k users sent shown s (entry ∷ entries) t h K (one, more) =
    record_known k (users_then s users entry.event) (sent_then sent entry.event) (shown_then shown entry.event entry.piece) entry.after entries t h (entry_known k users sent shown s entry.event entry.after entry.piece h K one.plays one.own) more

pub texts_stay_short : TextsStayShort
texts_stay_short k entries t small is = has_short t.world (texts_short k entries t small is)

-- nobody was let in yet
abbrev pub nobody : Arrival
nobody = record { user = []; began = empty_world; stays = false; serial = 0 }

-- what is known behind a whole record
pub all_known : (k : Setup) (entries : List Entry) (t : Scene) → HasSmallNumbers k.config → IsRecord k entries (empty_scene k) t
    → SceneKnown k (λ n. arrival_by_then n nobody (empty_scene k) entries) (λ n. sent_by_then n [] entries) (λ n. shown_by_then n [] entries) t
all_known k entries t small is =
    let K : SceneKnown k (λ n. nobody) (λ n. []) (λ n. []) (empty_scene k) = record { events = []; came = refl; watched = λ n stays. absurd (false≢true stays) } in
    record_known k (λ n. nobody) (λ n. []) (λ n. []) (empty_scene k) entries t small K is

pub first_stands : (k : Setup) (user : List ℕ) → IsPrintable k → Stands (first_standing k user)
first_stands k user printable = record { tags = (tt, tt, tt); names = folders_plain k.directory user printable.names }

-- one that keeps up, and was told this
pub record KeepsBy (k : Setup) (entries : List Entry) (place : ℕ) (v : SeatedVisitor) (t : Scene) (told : List Told) : Type 0 where
  pub keeps : KeepsUp k entries place v t
  pub is : keeps.told ≡ told

pub keeps_by : (k : Setup) (entries : List Entry) (t : Scene) (place : ℕ) (v : SeatedVisitor) → IsPrintable k → IsRecord k entries (empty_scene k) t
    → (c : Client k place (arrival_by_then place nobody (empty_scene k) entries) (sent_by_then place [] entries) (shown_by_then place [] entries) t.world v.session) → KeepsBy k entries place v t c.reached.talked.told
keeps_by k entries t place v printable is c =
    let short : HasShortTexts t.world = texts_stay_short k entries t printable.texts is in
    let talked = c.reached.talked in
    let user : List ℕ = user_by_then place [] entries in
    let began : World = began_by_then place empty_world (empty_scene k) entries in
    let known = lives_known k.config place (first_standing k user) began printable.numbers (sound_always k.config c.events began printable.numbers c.came) (first_stands k user printable) talked.lives short in record {
      keeps = record {
        began = began;
        let_in = refl;
        events = c.events;
        came = c.came;
        sent = c.reached.sent;
        told = talked.told;
        lives = talked.lives;
        answered = c.reached.waits;
        printed = ap (λ (x : List ℕ). first_words k user ++ x) talked.bytes ∙ c.printed;
        right = known.right;
        all = λ s at none. subst (λ (view : List ℕ). IsRightAbout view (hears_all None talked.told)) (all_counted k.config t.world place s known.sound.kept at none) known.right;
      };
      is = refl;
    }

pub clients_keep_up : ClientsKeepUp
clients_keep_up k entries t place v printable is there read =
    (keeps_by k entries t place v printable is
    (the_client k (λ n. arrival_by_then n nobody (empty_scene k) entries) (λ n. sent_by_then n [] entries) (λ n. shown_by_then n [] entries) t place v (all_known k entries t printable.numbers is) there read)).keeps

-- texts were short before, too
pub short_steps : (k : Config) (events : List Event) (w v : World) → Steps k w events v → HasShortTexts v → HasShortTexts w
short_steps k [] w v e short = subst (λ (u : World). HasShortTexts u) e short
short_steps k (event ∷ events) w v (u, step, more) short =
    short_before w u (λ m. goes_extends k (w.box m) (u.box m) (box_goes k w event u m step)) (short_steps k events u v more short)

-- how it finished
pub the_finished : (k : Setup) (entries : List Entry) (t : Scene) (place : ℕ) → IsPrintable k → IsRecord k entries (empty_scene k) t → stays_by_then place false entries ≡ true → t.visitor place ≡ None
    → Finished k place (arrival_by_then place nobody (empty_scene k) entries) (sent_by_then place [] entries) (shown_by_then place [] entries) t.world
the_finished k entries t place printable is stays none =
    subst (λ (o : Option SeatedVisitor). Watched k place (arrival_by_then place nobody (empty_scene k) entries) (sent_by_then place [] entries) (shown_by_then place [] entries) t.world o) none
    ((all_known k entries t printable.numbers is).watched place) stays

-- texts were short when it had ended
short_then : (k : Setup) (entries : List Entry) (t : Scene) (place : ℕ) → IsPrintable k → IsRecord k entries (empty_scene k) t
    → (f : Finished k place (arrival_by_then place nobody (empty_scene k) entries) (sent_by_then place [] entries) (shown_by_then place [] entries) t.world) → HasShortTexts f.last
short_then k entries t place printable is f =
    short_before f.last f.left (moved_extends k.config place f.last f.left (moved k.config place f.last (calls.Leave false) f.leaves.0 f.left f.leaves.1))
    (short_steps k.config f.later f.left t.world f.moved (texts_stay_short k entries t printable.texts is))

-- one that kept up, and was told this
pub record KeptBy (k : Setup) (entries : List Entry) (place : ℕ) (t : Scene) (told : List Told) : Type 0 where
  pub kept : KeptUp k entries place t
  pub is : kept.told ≡ told

pub kept_by : (k : Setup) (entries : List Entry) (t : Scene) (place : ℕ) → IsPrintable k → IsRecord k entries (empty_scene k) t
    → (f : Finished k place (arrival_by_then place nobody (empty_scene k) entries) (sent_by_then place [] entries) (shown_by_then place [] entries) t.world) → KeptBy k entries place t f.client.reached.talked.told
kept_by k entries t place printable is f =
    let a : Arrival = arrival_by_then place nobody (empty_scene k) entries in
    let c = f.client in
    let talked = c.reached.talked in
    let short : HasShortTexts f.last = short_then k entries t place printable is f in record {
      is = refl;
      kept = record {
        began = a.began;
        let_in = refl;
        events = c.events;
        came = c.came;
        sent = c.reached.sent;
        told = talked.told;
        now = f.visitor.standing;
        last = f.last;
        waits = f.visitor.waits;
        lives = talked.lives;
        ended = f.ended;
        left = f.left;
        leaves = f.leaves;
        later = f.later;
        moved = f.moved;
        answered = c.reached.waits;
        printed = ap (λ (x : List ℕ). first_words k a.user ++ x) talked.bytes ∙ c.printed ∙ ap (λ (x : List ℕ). shown_by_then place [] entries ++ x) f.silent ∙ append-nil (shown_by_then place [] entries);
        right = (lives_known k.config place (first_standing k a.user) a.began printable.numbers (sound_always k.config c.events a.began printable.numbers c.came) (first_stands k a.user printable) talked.lives short).right;
      };
    }

pub clients_kept_up : ClientsKeptUp
clients_kept_up k entries t place printable is stays none = (kept_by k entries t place printable is (the_finished k entries t place printable is stays none)).kept

pub clients_of_houses_keep_up : ClientsOfHousesKeepUp
clients_of_houses_keep_up k events t printed once place v printable there read = clients_keep_up k once.entries t place v printable once.leads there read
