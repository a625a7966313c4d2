-- The client of each session that is there keeps up, entry by entry.
use Rattle.std.proofs.Common.{◌≡◌, ◌≢◌, ℕ, ◌+◌, inl, inr, Bool, true, false, List, [], ◌∷◌, ◌++◌, length, map, refl, sym, subst, ap, ap₂, ◌∙◌, arith, append-nil, append_assoc}
use Rattle.std.specs.Prelude.{IfSome, Option, Some, None, codes, decimal, flat_map}
use Rattle.std.proofs.lemmas.Bool.{false≢true}
use Rattle.line_io.specs.Wire.{IsCut, joined, marked, wire_lines}
use Rattle.line_io.specs.inner.WireLaws.{lines_are}
use Rattle.delivery_token.specs.declared.CopyKey.{CopyKey}
use Rattle.delivery_token.specs.declared.Job.{Job}
use Rattle.delivery_token.specs.declared.Verdict.{Verdict}
use Rattle.delivery_token.specs.declared.Verdict.TheVariants.{Stored, Refused as Was_refused}
use Rattle.delivery_token.specs.declared.log.Noted.{Noted}
use Rattle.world.specs.World.{Config, Event, IsWorld, Step, Steps, World, empty_world}
use Rattle.world.specs.Law.{StandsOnce, pair_of, pairs}
use Rattle.world.proofs.Always.{always, steps_join}
use Rattle.world.proofs.Mails.{IsIn}
use Rattle.imap_session.specs.Exchange as calls
use Rattle.imap_session.specs.Exchange.{Call, Answer}
use Rattle.imap_session.specs.Store.{Met}
use Rattle.house.specs.Meets.{Meets}
use Rattle.house_peers.specs.Visitor.{Visitor, GoesOn, SeatedVisitor, answers, rests, sent_by, stalls, works}
use Rattle.house_peers.specs.Visitor as seated
use Rattle.house.specs.Setup.{Setup, session_seat}
use Rattle.house.specs.Printing.{Prints, Speaks, of_session, prints_all, prints_none}
use Rattle.house.specs.inner.Printing.{still_unsaid}
use Rattle.house.specs.Scene.{LeavesMailbox, Lingers, Parts, SessionTalks, parts, remains, waits, fades}
use Rattle.house.proofs.Carried.{speaks_carried}
use Rattle.exactly_once.specs.Promise.{Lines, text_of}
use Rattle.exactly_once.proofs.Whole.{IsWhole, cut_of, goes_whole, whole_append}
use Rattle.imap_session.specs.Happenings.{IsPrinted}
use Rattle.laws_client.specs.ClientRecords.{first_words}
use Rattle.laws_client.specs.HouseClients.{first_standing}
use Rattle.laws_client.specs.HouseClients.{HasSmallNumbers}
use Rattle.laws_client.specs.HouseClients.{IsOfOthers}
use Rattle.laws_client.proofs.Moved.{Calls, Moved, moved, rested, stepped}
use Rattle.laws_client.proofs.Names.{in_range, is_in, numbers}
use Rattle.laws_client.proofs.Answered.{Came}
use Rattle.laws_client.proofs.Seated.{IsFated, IsHere, goes_here, here_as, here_step}
use Rattle.laws_client.proofs.Talked.{AreHeardSmall, Heeds, Reached, goes_reached, talked_others}
use Rattle.laws_client.proofs.RecordWorlds.{Sound, sound_always}

-- ---- what a seat has heard

pair_number : (key : CopyKey) (u : ℕ) (xs : List (Job × ℕ)) → IsIn (key, u) (map pair_of xs) → IsIn u (numbers xs)
pair_number key u [] h = absurd h
pair_number key u (x ∷ xs) (inl e) = inl (ap (λ (p : CopyKey × ℕ). p.1) e)
pair_number key u (x ∷ xs) (inr more) = inr (pair_number key u xs more)

pub heard_small : (k : Config) (events : List Event) (w : World) (p : ℕ) → HasSmallNumbers k → IsWorld k events w → AreHeardSmall (w.heard p)
heard_small k events w p h is noted heard = by noted.verdict refl
  where
    S : Sound k w
    S = sound_always k events w h is

    by : (verdict : Verdict) → noted.verdict ≡ verdict → IsPrinted verdict
    by (Was_refused why) e = tt
    by (Stored uid) e =
        let once : StandsOnce (pairs (w.box noted.mailbox).accepted) noted.key uid = (always k events w is).answered p uid noted heard e in
        let there : IsIn uid (numbers (w.box noted.mailbox).accepted) =
        pair_number noted.key uid (w.box noted.mailbox).accepted (is_in (noted.key, uid) (pairs (w.box noted.mailbox).accepted) (once.position, once.within, once.here)) in
        let B = S.kept.boxes noted.mailbox in
        let range = in_range uid k.first_uid (length (w.box noted.mailbox).accepted) (subst (IsIn uid) (sym B.given ∙ B.counted) there) in
        omega (arith, range.1, (S.small noted.mailbox).next)

-- ---- events of one session

-- from the one world to the other by events that are all of session q
pub data Walk (k : Config) (q : ℕ) (w : World) : World → Type 0 where
  stands : Walk k q w w
  goes : {u : World} → Walk k q w u → (event : Event) → ((n : ℕ) → n ≢ q → IsOfOthers n event) → (v : World) → Step k u event v → Walk k q w v

walk_moved : (k : Config) (q : ℕ) (w u v : World) → Walk k q w u → Moved k q u v → Walk k q w v
walk_moved k q w u v walk (rested e) = rw e walk
walk_moved k q w u v walk (stepped event step own short) = goes walk event own v step

pub walk_then : (k : Config) (q : ℕ) (w u v : World) → Walk k q w u → Walk k q u v → Walk k q w v
walk_then k q w u v one stands = one
walk_then k q w u v one (goes {u = mid} two event own v2 step) = goes (walk_then k q w u mid one two) event own v2 step

pub walk_call : (k : Config) (q : ℕ) (w u : World) (call : Call) (answer : Answer) (v : World) → Walk k q w u → Meets k q u call answer v → Walk k q w v
walk_call k q w u call answer v walk m = walk_moved k q w u v walk (moved k q u call answer v m)

pub walk_met : (k : Config) (q : ℕ) (w u : World) (events : List calls.Event) (v : World) → Walk k q w u → Met (Calls k q) u events v → Walk k q w v
walk_met k q w u [] v walk met = rw met walk
walk_met k q w u (e ∷ events) v walk (mid, one, more) = walk_met k q w mid events v (walk_call k q w u e.call e.answer mid walk one) more

pub walk_world : (k : Config) (q : ℕ) (w : World) (events : List Event) {v : World} → IsWorld k events w → Walk k q w v → (more : List Event) × IsWorld k more v
walk_world k q w events is stands = (events, is)
walk_world k q w events is (goes {u = u} walk event own v step) =
    let before = walk_world k q w events is walk in
    (before.0 ++ event ∷ [], steps_join k empty_world before.0 u (event ∷ []) v before.1 (v, step, refl))

walk_speaks : (k : Config) (q : ℕ) (whole : Bool) (seat n : ℕ) (heard : List Noted) (w mid : World) (before after : SeatedVisitor) (printed : List ℕ) → Speaks (Meets k q) whole seat n heard before w mid after printed → Walk k q w mid
walk_speaks k q whole seat n heard w mid before after printed s =
    (speaks_carried {S = World} {T = Unit {0}} (Meets k q) (λ a call answer b. Unit {0}) (λ v x. Walk k q w v)
    (λ old new call answer x step walk. (tt, tt, walk_call k q w old call answer new walk step))
    whole seat n heard before w mid after printed tt s stands).2

pub walk_parts : (k : Setup) (whole : Bool) (q : ℕ) (w u : World) (after : SeatedVisitor) (v : World) (o : Option SeatedVisitor) → Walk k.config q w u → Parts k whole q after u v o → Walk k.config q w v
walk_parts k whole q w u after v o walk (parts ended said left e) = walk_call k.config q w u (calls.Leave false) left.0 v walk left.1
walk_parts k whole q w u after v o walk (remains not e f) = rw e walk

-- ---- what is printed

-- what is printed of a session's whole lines, and what is still to be printed of them
no_lines : (n : ℕ) (bytes : List ℕ) (lines : List (List ℕ)) → IsCut bytes lines [] → marked of_session n bytes ≡ [] → bytes ≡ []
no_lines n bytes lines cut silent = by lines cut.whole (lines_are bytes lines [] cut).0
  where
    by : (ls : List (List ℕ)) → bytes ≡ joined ls ++ [] → wire_lines bytes ≡ ls → bytes ≡ []
    by [] e f = e
    by (l ∷ ls) e f = absurd (omega (arith, ap length (sym (ap (flat_map (λ line. of_session ∷ decimal n ++ codes " " ++ line ++ 10 ∷ [])) f) ∙ silent)))

-- a piece with these lines
pub fits_lines : (k : Setup) (n : ℕ) (bytes still : List ℕ) (lines : List (List ℕ)) → IsCut bytes lines [] → Prints of_session n bytes still (text_of k (Lines n lines)) → joined lines ++ still ≡ bytes
fits_lines k n bytes still lines cut (prints_all none p) = ap (λ (x : List ℕ). joined lines ++ x) none ∙ sym cut.whole
fits_lines k n bytes still lines cut (prints_none all silent) =
    let whole : bytes ≡ joined lines = cut.whole ∙ append-nil (joined lines) in
    let empty : bytes ≡ [] = no_lines n bytes lines cut (ap (marked of_session n) whole ∙ silent) in
    ap₂ (λ (x y : List ℕ). x ++ y) (sym whole ∙ empty) all

-- a piece without any
pub fits_silence : (n : ℕ) (bytes still printed : List ℕ) → IsWhole bytes → printed ≡ [] → Prints of_session n bytes still printed → [] ++ still ≡ bytes
fits_silence n bytes still printed whole silent (prints_all none p) =
    let cut = cut_of bytes whole in
    none ∙ sym (no_lines n bytes cut.0 cut.1 (sym p ∙ silent))
fits_silence n bytes still printed whole silent (prints_none all p) = all

pub still_whole : (n : ℕ) (bytes still printed : List ℕ) → IsWhole bytes → Prints of_session n bytes still printed → IsWhole still
still_whole n bytes still printed w (prints_all none p) = inl none
still_whole n bytes still printed w (prints_none all p) = subst IsWhole (sym all) w

-- ---- the client of a session that is there

-- who was let in, into which world, whether its client stays, and under which serial
pub record Arrival : Type 0 where
  pub user : List ℕ
  pub began : World
  pub stays : Bool
  pub serial : ℕ

abbrev pub came_as : Setup → (place : ℕ) → Arrival → Came
came_as k place a = record { standing = first_standing k a.user; seat = session_seat k place; serial = a.serial }

pub record Client (k : Setup) (place : ℕ) (a : Arrival) (sent shown : List ℕ) (w : World) (v : Visitor) : Type 0 where
  pub events : List Event
  pub came : IsWorld k.config events a.began
  pub said : List ℕ
  pub reached : Reached k.config place (came_as k place a) a.began sent said v w
  pub printed : first_words k a.user ++ said ≡ shown ++ v.unsaid
  pub whole : IsWhole v.unsaid

-- one that has ended by itself, and left its mailbox
pub record Finished (k : Setup) (place : ℕ) (a : Arrival) (sent shown : List ℕ) (w : World) : Type 0 where
  pub last : World
  pub visitor : Visitor
  pub client : Client k place a sent shown last visitor
  pub ended : visitor.standing.ended ≡ true
  pub silent : visitor.unsaid ≡ []
  pub left : World
  pub leaves : LeavesMailbox k place last left
  pub later : List Event
  pub moved : Steps k.config left later w

abbrev pub Watched : Setup → ℕ → Arrival → List ℕ → List ℕ → World → Option SeatedVisitor → Type 0
Watched k place a sent shown w None = a.stays ≡ true → Finished k place a sent shown w
Watched k place a sent shown w (Some v) = (v.gone ≡ false → Client k place a sent shown w v.session) × (v.gone ≡ true → a.stays ≡ false) × IsHere k.config (session_seat k place) a.serial w v

-- an event of others
pub client_others : (k : Setup) (n : ℕ) (a : Arrival) (sent shown : List ℕ) (w : World) (v : Visitor) (event : Event) (u : World) → Client k n a sent shown w v → IsOfOthers n event → Step k.config w event u → Client k n a sent shown u v
client_others k n a sent shown w v event u c o step = record {
  events = c.events;
  came = c.came;
  said = c.said;
  reached = record {
    sent = c.reached.sent;
    talked = talked_others k.config n (came_as k n a) a.began c.reached.sent c.said v.standing w event u c.reached.talked o step;
    waits = c.reached.waits;
  };
  printed = c.printed;
  whole = c.whole;
}

pub watched_others : (k : Setup) (n : ℕ) (a : Arrival) (sent shown : List ℕ) (w : World) (o : Option SeatedVisitor) (event : Event) (u : World) → IsOfOthers n event → Step k.config w event u → Watched k n a sent shown w o → Watched k n a sent shown u o
watched_others k n a sent shown w None event u own step c = λ stays.
    let f = c stays in record {
      last = f.last;
      visitor = f.visitor;
      client = f.client;
      ended = f.ended;
      silent = f.silent;
      left = f.left;
      leaves = f.leaves;
      later = f.later ++ event ∷ [];
      moved = steps_join k.config f.left f.later w (event ∷ []) u f.moved (u, step, refl);
    }
watched_others k n a sent shown w (Some v) event u own step c = ((λ there. client_others k n a sent shown w v.session event u (c.0 there) own step), c.1, here_step k.config (session_seat k n) a.serial w event u v step c.2)

pub watched_walk : (k : Setup) (n q : ℕ) (a : Arrival) (sent shown : List ℕ) (w : World) (o : Option SeatedVisitor) {u : World} → n ≢ q → Walk k.config q w u → Watched k n a sent shown w o → Watched k n a sent shown u o
watched_walk k n q a sent shown w o other stands c = c
watched_walk k n q a sent shown w o other (goes {u = u} walk event own v step) c =
    watched_others k n a sent shown u o event v (own n other) step (watched_walk k n q a sent shown w o other walk c)

-- more came
pub client_more : (k : Setup) (n : ℕ) (a : Arrival) (sent shown more : List ℕ) (w : World) (v : Visitor) → Client k n a sent shown w v
    → Client k n a (sent ++ more) shown w (record { standing = v.standing; waits = v.waits ++ more; unsaid = v.unsaid })
client_more k n a sent shown more w v c = record {
  events = c.events;
  came = c.came;
  said = c.said;
  reached = record {
    sent = c.reached.sent;
    talked = c.reached.talked;
    waits = ap (λ (s : List ℕ). s ++ more) c.reached.waits ∙ append_assoc c.reached.sent v.waits more;
  };
  printed = c.printed;
  whole = c.whole;
}

pub regroup : (g a b s u : List ℕ) → g ++ a ≡ s ++ u → g ++ (a ++ b) ≡ s ++ (u ++ b)
regroup g a b s u e = sym (append_assoc g a b) ∙ ap (λ (x : List ℕ). x ++ b) e ∙ append_assoc s u b

-- it said more, of which this was printed
pub client_said : (k : Setup) (n : ℕ) (a : Arrival) (sent shown new said : List ℕ) (w u : World) (v after : Visitor) → (c : Client k n a sent shown w v) → Reached k.config n (came_as k n a) a.began sent (c.said ++ said) after u
    → new ++ after.unsaid ≡ v.unsaid ++ said → IsWhole after.unsaid → Client k n a sent (shown ++ new) u after
client_said k n a sent shown new said w u v after c reached fits whole = record {
  events = c.events;
  came = c.came;
  said = c.said ++ said;
  reached = reached;
  printed = regroup (first_words k a.user) c.said said shown v.unsaid c.printed ∙ ap (λ (x : List ℕ). shown ++ x) (sym fits) ∙ sym (append_assoc shown new after.unsaid);
  whole = whole;
}

-- ---- a session that talks

pub parted : (k : Setup) (whole : Bool) (n : ℕ) (a : Arrival) (sent shown : List ℕ) (after : SeatedVisitor) (u v : World) (o : Option SeatedVisitor) → after.gone ≡ false → IsHere k.config (session_seat k n) a.serial u after → Client k n a sent shown u after.session → Parts k whole n after u v o → Watched k n a sent shown v o
parted k whole n a sent shown after u v o there own c (parts over silent leaves e) =
    rw e (λ stays. record { last = u; visitor = after.session; client = c; ended = over; silent = silent; left = v; leaves = leaves; later = []; moved = refl })
parted k whole n a sent shown after u v o there own c (remains not e f) = rw (f, e) ((λ same. c), (λ gone. absurd (false≢true (sym there ∙ gone))), own)

-- its client is there as before
goes_gone : (k : Config) (n : ℕ) (whole : Bool) (seat : ℕ) (heard : List Noted) (b after : SeatedVisitor) (w u : World) (said : List ℕ) → GoesOn (Meets k n) whole seat heard b w u after said → after.gone ≡ b.gone
goes_gone k n whole seat heard b after w u said (works none g) = ap (λ (v : SeatedVisitor). v.gone) g.is
goes_gone k n whole seat heard b after w u said (answers verdict mid one two how next going known s g e) = ap (λ (v : SeatedVisitor). v.gone) g.is
goes_gone k n whole seat heard b after w u said (seated.waits awaits e f g) = ap (λ (v : SeatedVisitor). v.gone) f
goes_gone k n whole seat heard b after w u said (rests ended e f g) = ap (λ (v : SeatedVisitor). v.gone) f
goes_gone k n whole seat heard b after w u said (stalls part e f g) = ap (λ (v : SeatedVisitor). v.gone) f

-- the notes of its own seat
pub heeds : (k : Setup) (place : ℕ) (b : SeatedVisitor) (a : Arrival) (w : World) → AreHeardSmall (w.heard (session_seat k place)) → IsHere k.config (session_seat k place) a.serial w b
    → Heeds k.config (came_as k place a) (session_seat k place) b (w.heard (session_seat k place)) w
heeds k place b a w small here = record {
  small = small;
  at = refl;
  own = here.own;
  out = λ none. subst (λ (n : ℕ). IfSome (sent_by b) (IsFated k.config w (session_seat k place) n)) here.own (here.out none);
  heard = λ noted c. c;
}

-- what it said was printed so
pub talks_watched : (k : Setup) (whole : Bool) (n : ℕ) (a : Arrival) (sent shown new : List ℕ) (w : World) (b : SeatedVisitor) (v : World) (o : Option SeatedVisitor) (printed : List ℕ) → AreHeardSmall (w.heard (session_seat k n)) → b.gone ≡ false → IsHere k.config (session_seat k n) a.serial w b
    → (g : SessionTalks k whole n (w.heard (session_seat k n)) w b v o printed) → new ++ g.speaks.still ≡ b.session.unsaid ++ g.speaks.said → Client k n a sent shown w b.session → Watched k n a sent (shown ++ new) v o
talks_watched k whole n a sent shown new w b v o printed small there own g fits c =
    let heard : List Noted = w.heard (session_seat k n) in
    let spoken : SeatedVisitor = g.speaks.spoken in
    let r : Reached k.config n (came_as k n a) a.began sent (c.said ++ g.speaks.said) spoken.session g.mid =
    goes_reached k.config n whole (session_seat k n) heard (came_as k n a) a.began sent c.said b spoken w g.mid g.speaks.said (heeds k n b a w small own) g.speaks.goes c.reached in
    let still : SeatedVisitor = still_unsaid g.speaks.still spoken in
    let all : IsWhole (b.session.unsaid ++ g.speaks.said) =
    whole_append b.session.unsaid g.speaks.said c.whole (goes_whole (Meets k.config n) whole (session_seat k n) heard b w g.mid spoken g.speaks.said g.speaks.goes) in
    let d : Client k n a sent (shown ++ new) g.mid still.session =
    client_said k n a sent shown new g.speaks.said w g.mid b.session still.session c (record { sent = r.sent; talked = r.talked; waits = r.waits }) fits
    (still_whole (n + 1) (b.session.unsaid ++ g.speaks.said) g.speaks.still printed all g.speaks.prints) in
    parted k whole n a sent (shown ++ new) g.after g.mid v o
    (ap (λ (x : SeatedVisitor). x.gone) g.speaks.is ∙ goes_gone k.config n whole (session_seat k n) heard b spoken w g.mid g.speaks.said g.speaks.goes ∙ there)
    (subst (λ (x : SeatedVisitor). IsHere k.config (session_seat k n) a.serial g.mid x) (sym g.speaks.is)
    (here_as k.config (session_seat k n) a.serial g.mid spoken still refl refl refl (goes_here k.config n whole (session_seat k n) a.serial heard b spoken w g.mid g.speaks.said g.speaks.goes own)))
    (subst (λ (x : SeatedVisitor). Client k n a sent (shown ++ new) g.mid x.session) (sym g.speaks.is) d) g.left

pub talks_walk : (k : Setup) (whole : Bool) (n : ℕ) (heard : List Noted) (w : World) (b : SeatedVisitor) (v : World) (o : Option SeatedVisitor) (printed : List ℕ) → SessionTalks k whole n heard w b v o printed → Walk k.config n w v
talks_walk k whole n heard w b v o printed g =
    walk_parts k whole n w g.mid g.after v o (walk_speaks k.config n whole (session_seat k n) (n + 1) heard w g.mid b g.after printed g.speaks) g.left

-- one whose client is gone isn't watched
pub lingers_watched : (k : Setup) (n seat : ℕ) (a : Arrival) (sent shown : List ℕ) (heard : List Noted) (w : World) (b : SeatedVisitor) (o : Option SeatedVisitor) → b.gone ≡ true → IsHere k.config (session_seat k n) a.serial w b → a.stays ≡ false → Lingers seat heard b o → Watched k n a sent shown w o
lingers_watched k n seat a sent shown heard w b o gone own left (waits awaits e) = rw e ((λ there. absurd (false≢true (sym there ∙ gone))), (λ same. left), own)
lingers_watched k n seat a sent shown heard w b o gone own left (fades settled e) = rw e (λ stays. absurd (false≢true (sym left ∙ stays)))
