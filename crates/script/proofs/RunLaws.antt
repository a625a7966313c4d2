-- From what the house promises of its calls to what a run promises of a line, of a turn and of all its turns.
use Rattle.std.proofs.Common.{◌≡◌, ℕ, zero, suc, ◌+◌, ◌*◌, ◌<◌, ◌≤◌, ◌⊎◌, inl, inr, List, [], ◌∷◌, ◌++◌, length, take, get_or, length-set, refl, sym, ap, ◌∙◌, subst, arith, append_assoc, append-nil, length-append, le_refl, Option, Some, None, Result, Ok, Err}
use Rattle.std.proofs.Math.Seq.{take-append-add, take-length, take-suc}
use Rattle.std.proofs.lemmas.Int.Digits.{digits_value_push}
use Rattle.std.specs.Char.{digit_value}
use Rattle.std.specs.Str.Parse.{digits_value}
use Rattle.std.proofs.lemmas.List.{length-replicate}
use Rattle.std.proofs.KnownBytes.{Appends-trans, Appends-nil}
use Rattle.hex.specs.declared.error.FromHexError.{FromHexError}
use Rattle.std.specs.Io.BufRead.{drop_through, take_through}
use Rattle.std.specs.Io.KnownBytes.{Appends}
use Rattle.delivery_token.specs.declared.CopyKey.{CopyKey}
use Rattle.delivery_token.specs.declared.log.Noted.{Noted}
use Rattle.envelope.specs.Names.{Directory, number_of}
use Rattle.house.specs.declared.event.HouseFault.{HouseFault}
use Rattle.house.specs.declared.event.HouseFault.TheVariants as faults
use Rattle.script.specs.declared.run.TurnFault.{TurnFault}
use Rattle.script.specs.declared.run.TurnFault.TheVariants as turn_faults
use Rattle.house_peers.specs.HouseConnection.{HouseConnection}
use Rattle.house.specs.House.{House}
use Rattle.house_peers.specs.Caller.{Caller, Terms}
use Rattle.house.specs.Setup.{Setup, terms_of}
use Rattle.house.specs.Scene.{Plays, Scene, empty_scene, seat_of}
use Rattle.house.specs.Stands.{StandsFor, StandsForOne}
use Rattle.house.specs.declared.event.Event.{Event}
use Rattle.house.specs.Steps.{FollowsInPart, IsEmptySeat, IsNoSeat, IsSpent, IsUnread, Led, is_unread}
use Rattle.house.specs.Settled.{BrokeOffFrom, SettledFrom, is_held}
use Rattle.house.specs.Settling.{Settles, SettlingBreaksOff}
use Rattle.house.specs.Window.{PrintsWindow}
use Rattle.script.specs.Script.{IsAway, IsNoConnection, IsOwing, LinePlays, NobodyThere, ScriptLine, Asks, Enters, Leaves, Sends, Vanishes, Hold, Free, Closes, Tail, Skip, Bad, asked, brought, closes_nobody, goes_again, goes_nobody, held_after, held_by, is_bad, line_of, most_bytes, none_held, skips, stands_nobody, stands_still, tails, tails_nobody}
use Rattle.script.specs.Promise.{refusal}
use Rattle.script.specs.Leaving.{WritesBeginning, unwritten, LineBegins, LineWanting, undone, begun, PlayWanting, settling}
use Rattle.std.specs.Prelude.{Bool, IfNone, IfSome, codes, false, true}
use Rattle.script.specs.inner.Running.{HasRun, IsClipped, IsOver, IsUnread as IsUnreadTurn, IsUnwritten, LineCut, LineDone, LinePlayed, LineTold, LineWritten, SetsHeld, TellWanting, playing, telling, TurnTells, sets, sets_nobody}
use Rattle.script.specs.Telling.{IsLeftUntold, wanting, untold, TellsAll, TellsBeginning, TellsFirst, ToldOnce, ToldSome, asked_by, lines_of, rendered, told}
use Rattle.settings.specs.declared.asking.Form.{Form}
use Rattle.script.proofs.Once.{script_once}
use Rattle.script.proofs.ScriptLaws.{first_of_lines}
use Rattle.script.proofs.TellingLaws.{asked_both, delivers, plays_on, same_front, told_on}

-- ---- nobody is there

pub below : (a b : ℕ) → (a < b) ⊎ (b ≤ a)
below a zero = inr (omega arith)
below zero (suc b) = inl (omega arith)
below (suc a) (suc b) = elim (below a b) [ inl h ↦ inl (omega arith) | inr h ↦ inr (omega arith) ]

no_caller : (k : Terms) (seat : ℕ) (next : CopyKey) (heard : List Noted) (serials : ℕ) (line : Option HouseConnection) (o : Option Caller) → line ≡ None → StandsForOne k seat next heard serials line o → o ≡ None
no_caller k seat next heard serials None None e s = refl
no_caller k seat next heard serials None (Some b) e s = absurd s
no_caller k seat next heard serials (Some h) o e s = absurd (let n : Some h ≡ None = e in cc)

-- what a seat of the house is in the scene, where there is such a seat
pub seat_cases : (k : Setup) (h : House) (s : Scene) (connection : ℕ) → StandsFor k h s → 0 < connection → IsNoConnection k connection ⊎ (seat_of connection < length h.callers)
seat_cases k h s connection st some = elim (below (seat_of connection) (length h.callers)) [
  | inl l ↦ inr l
  | inr l ↦ inl (inr (let e = st.connections in omega arith))
]

pub nobody_there : (k : Setup) (h : House) (s : Scene) (connection : ℕ) → StandsFor k h s → IsNoSeat h connection ⊎ (IsEmptySeat h connection × IsSpent h connection) → NobodyThere k s connection
nobody_there k h s connection st (inl (inl e)) = inl (inl e)
nobody_there k h s connection st (inl (inr l)) = inl (inr (let e = st.connections in omega arith))
nobody_there k h s zero st (inr n) = inl (inl refl)
nobody_there k h s (suc c) st (inr n) = elim (seat_cases k h s (suc c) st (omega arith)) [
  | inl l ↦ inl l
  | inr l ↦ (let at = st.each (seat_of (suc c)) (record { seat = 0; serial = 0; message = 0; recipient = 0 }) 0 None l in
      inr (no_caller (terms_of k s.shut) (seat_of (suc c)) _ _ _ _ _ n.0 at.who, (let e = at.counted in let m = n.1 in omega (arith, e, m))))
]

pub away : (k : Setup) (h : House) (s : Scene) (connection : ℕ) → StandsFor k h s → IsNoSeat h connection ⊎ IsEmptySeat h connection → IsAway k s connection
away k h s connection st (inl (inl e)) = inl (inl e)
away k h s connection st (inl (inr l)) = inl (inr (let e = st.connections in omega arith))
away k h s zero st (inr n) = inl (inl refl)
away k h s (suc c) st (inr n) = elim (seat_cases k h s (suc c) st (omega arith)) [
  | inl l ↦ inl l
  | inr l ↦ (let at = st.each (seat_of (suc c)) (record { seat = 0; serial = 0; message = 0; recipient = 0 }) 0 None l in
      inr (no_caller (terms_of k s.shut) (seat_of (suc c)) _ _ _ _ _ n at.who))
]

owing_caller : (k : Terms) (seat : ℕ) (next : CopyKey) (heard : List Noted) (serials : ℕ) (line : Option HouseConnection) (o : Option Caller) → is_unread line ≡ true → StandsForOne k seat next heard serials line o
    → (b : Caller) × (o ≡ Some b) × (b.gone ≡ true)
owing_caller k seat next heard serials None o e s = absurd (let x : false ≡ true = e in cc)
owing_caller k seat next heard serials (Some h) None e s = absurd s
owing_caller k seat next heard serials (Some h) (Some b) e s = (b, refl, sym s.0.gone ∙ e)

pub owing : (k : Setup) (h : House) (s : Scene) (connection : ℕ) → StandsFor k h s → IsUnread h connection → IsOwing s connection
owing k h s connection st u =
    let l : seat_of connection < length h.callers = let n = u.number in let m = u.seat in omega (arith, n, m) in
    let at = st.each (seat_of connection) (record { seat = 0; serial = 0; message = 0; recipient = 0 }) 0 None l in
    owing_caller (terms_of k s.shut) (seat_of connection) _ _ _ _ _ u.gone at.who

-- ---- a line

none_wanting : ◌≡◌ {A = Result (Unit {0}) HouseFault} (Err faults.Nobody) (Err faults.NoMemory) → ⊥
none_wanting e = cc

pub not_wanting : (f : HouseFault) → f ≡ faults.Nobody → ◌≡◌ {A = Result (Unit {0}) HouseFault} (Err f) (Err faults.NoMemory) → ⊥
not_wanting f e x = none_wanting (ap (λ (g : HouseFault). let r : Result (Unit {0}) HouseFault = Err g in r) (sym e) ∙ x)

pub is_nobody : (f : HouseFault) → f ≡ faults.Nobody → ◌≡◌ {A = Result (Unit {0}) HouseFault} (Err f) (Err faults.Nobody)
is_nobody f e = ap (λ (g : HouseFault). let r : Result (Unit {0}) HouseFault = Err g in r) e

wants_other : ◌≡◌ {A = Result (Unit {0}) HouseFault} (Err faults.Busy) (Err faults.NoMemory) → ⊥
wants_other e = cc

pub busy_not_wanting : (f : HouseFault) → f ≡ faults.Busy → ◌≡◌ {A = Result (Unit {0}) HouseFault} (Err f) (Err faults.NoMemory) → ⊥
busy_not_wanting f e x = wants_other (ap (λ (g : HouseFault). let r : Result (Unit {0}) HouseFault = Err g in r) (sym e) ∙ x)

pub is_busy : (f : HouseFault) → f ≡ faults.Busy → ◌≡◌ {A = Result (Unit {0}) HouseFault} (Err f) (Err faults.Busy)
is_busy f e = ap (λ (g : HouseFault). let r : Result (Unit {0}) HouseFault = Err g in r) e

pub held_done : (k : Setup) (number : ℕ) (s : Scene) (held holds : List Bool) (shard : ℕ) (h : House) (old new : List ℕ)
    → StandsFor k h s → length held ≡ k.config.shards → SetsHeld held number shard true holds old new → LineDone k number (Hold shard) s h old new
held_done k number s held holds shard h old new st many (sets l e f) = record { after = s; printed = []; does = stands_still shard (omega (arith, l, many)) refl refl; stands = st; out = f ∙ sym (append-nil old) }
held_done k number s held holds shard h old new st many (sets_nobody l e f) = record { after = s; printed = _; does = stands_nobody shard (omega (arith, l, many)) refl refl; stands = st; out = f }

pub freed_done : (k : Setup) (number : ℕ) (s : Scene) (held holds : List Bool) (shard : ℕ) (h : House) (old new : List ℕ)
    → StandsFor k h s → length held ≡ k.config.shards → SetsHeld held number shard false holds old new → LineDone k number (Free shard) s h old new
freed_done k number s held holds shard h old new st many (sets l e f) = record { after = s; printed = []; does = goes_again shard (omega (arith, l, many)) refl refl; stands = st; out = f ∙ sym (append-nil old) }
freed_done k number s held holds shard h old new st many (sets_nobody l e f) = record { after = s; printed = _; does = goes_nobody shard (omega (arith, l, many)) refl refl; stands = st; out = f }

pub closed_nobody : (k : Setup) (number : ℕ) (s : Scene) (shard : ℕ) (h : House) (old new : List ℕ) → StandsFor k h s → h.directory.shards ≤ shard → new ≡ old ++ refusal number (codes "Nobody") → LineDone k number (Closes shard) s h old new
closed_nobody k number s shard h old new st l e =
    let n = ap (λ (d : Directory). d.shards) st.directory ∙ st.shards in
    record { after = s; printed = _; does = closes_nobody shard (omega (arith, l, n)) refl refl; stands = st; out = e }

pub shown_tail : (k : Setup) (number : ℕ) (s : Scene) (word : List ℕ) (h : House) (old new : List ℕ) → StandsFor k h s → PrintsWindow k s word old new → LineDone k number (Tail word) s h old new
shown_tail k number s word h old new st p = record { after = s; printed = _; does = tails word p.mailbox p.named refl refl; stands = st; out = p.out }

pub shown_nobody : (k : Setup) (number : ℕ) (s : Scene) (word : List ℕ) (h : House) (old new : List ℕ) → StandsFor k h s → number_of k.directory word ≡ None
    → new ≡ old ++ refusal number (codes "Nobody") → LineDone k number (Tail word) s h old new
shown_nobody k number s word h old new st none e = record { after = s; printed = _; does = tails_nobody word none refl refl; stands = st; out = e }

pub skipped : (k : Setup) (number : ℕ) (s : Scene) (h : House) (old : List ℕ) → StandsFor k h s → LineDone k number Skip s h old old
skipped k number s h old st = record { after = s; printed = []; does = skips refl refl; stands = st; out = sym (append-nil old) }

pub refused : (k : Setup) (number : ℕ) (s : Scene) (h : House) (old new : List ℕ) → StandsFor k h s → new ≡ old ++ refusal number (codes "Line") → LineDone k number Bad s h old new
refused k number s h old new st e = record { after = s; printed = _; does = is_bad refl refl; stands = st; out = e }

-- and then the house settles
pub played : (k : Setup) (number : ℕ) (held holds : List Bool) (line : ScriptLine) (s : Scene) (g h : House) (mid new : List ℕ) → LineDone k number line s g [] mid → holds ≡ held_after held line
    → ((j : Setup) (t : Scene) → StandsFor j g t → SettledFrom j holds t h mid new) → LinePlayed k number held line s h [] new
played k number held holds line s g h mid new d same f =
    let t = f k d.after d.stands in
    record {
      after = t.after;
      printed = d.printed ++ t.printed;
      plays = record { between = d.after; one = d.printed; two = t.printed; does = d.does; settles = subst (λ (x : List Bool). Settles k (is_held x) d.after t.after t.printed) same t.settles; both = refl };
      stands = t.stands;
      out = t.out ∙ ap (λ (x : List ℕ). x ++ t.printed) d.out;
    }

-- and what it printed is told
pub tells_line : (form : Form) (k : Setup) (number : ℕ) (held : List Bool) (line : List ℕ) (s : Scene) (h : House) (text new : List ℕ) → LinePlayed k number held (asked line) s h [] text
    → new ≡ rendered form number line text → LineTold form k number held line s h new
tells_line form k number held line s h text new p is =
    record { after = p.after; printed = p.printed; plays = p.plays; stands = p.stands; out = is ∙ ap (rendered form number line) p.out }

-- ---- a turn

pub turn_written : (form : Form) (k : Setup) (number : ℕ) (held holds : List Bool) (s : Scene) (input piece text : List ℕ) (h : House) (left old new : Option (List ℕ)) (sent : ℕ)
    → asked (line_of piece) ≡ asked (line_of (take_through 10 input)) → take most_bytes (line_of piece) ≡ take most_bytes (line_of (take_through 10 input))
    → 0 < length (take_through 10 input) → left ≡ Some (drop_through 10 input) → LineTold form k number held (line_of piece) s h text → holds ≡ held_after held (asked (line_of piece))
    → Appends old new text → sent ≡ length text → LineWritten form k number held s input h holds left old new sent
turn_written form k number held holds s input piece text h left old new sent e front some rest p now a n =
    let line = line_of (take_through 10 input) in
    let whole : text ≡ rendered form number line p.printed = p.out ∙ same_front form number (line_of piece) line p.printed front in
    record {
      line = line;
      rest = drop_through 10 input;
      remaining = rest;
      first = first_of_lines input some;
      after = p.after;
      printed = p.printed;
      plays = subst (λ (x : ScriptLine). LinePlays k number held x s p.after p.printed) e p.plays;
      holds_now = now ∙ ap (held_after held) e;
      stands = p.stands;
      out = subst (Appends old new) whole a;
      count = n ∙ ap length whole;
    }

pub turn_cut : (form : Form) (k : Setup) (number : ℕ) (held : List Bool) (s : Scene) (input piece text : List ℕ) (h : House) (old new : Option (List ℕ)) (sent : ℕ)
    → asked (line_of piece) ≡ asked (line_of (take_through 10 input)) → take most_bytes (line_of piece) ≡ take most_bytes (line_of (take_through 10 input))
    → 0 < length (take_through 10 input) → LineTold form k number held (line_of piece) s h text
    → Appends old new (take sent text) → sent < length text → LineCut form k number held s input h old new sent
turn_cut form k number held s input piece text h old new sent e front some p a n =
    let line = line_of (take_through 10 input) in
    let whole : text ≡ rendered form number line p.printed = p.out ∙ same_front form number (line_of piece) line p.printed front in
    record {
      line = line;
      others = lines_of (drop_through 10 input);
      first = first_of_lines input some;
      after = p.after;
      printed = p.printed;
      plays = subst (λ (x : ScriptLine). LinePlays k number held x s p.after p.printed) e p.plays;
      stands = p.stands;
      within = subst (λ (x : List ℕ). sent < length x) whole n;
      out = subst (λ (x : List ℕ). Appends old new (take sent x)) whole a;
    }

-- ---- numbers of shards

-- a number of digits, and one digit more
pub one_more : (n : ℕ) (i : ℕ) (ds : List ℕ) → i < length ds → IsClipped n (digits_value 10 (take i ds) * 10 + digit_value (get_or ds i 0)) → IsClipped n (digits_value 10 (take (i + 1) ds))
one_more n i ds l h =
    let s : i + 1 ≡ suc i = omega arith in
    let e = ap (λ (j : ℕ). take j ds) s ∙ take-suc ds i 0 l in
    subst (λ (x : ℕ). IsClipped n x) (sym (ap (digits_value 10) e ∙ digits_value_push 10 (take i ds) (get_or ds i 0))) h

-- no shard has a number that is clipped to one behind them all
pub beyond_all : (c n shards : ℕ) → IsClipped c n → shards ≤ c → shards < 256 → shards ≤ n
beyond_all c n shards (inl (e, l)) a b = omega (arith, a, e)
beyond_all c n shards (inr (e, l)) a b = omega (arith, b, l)

-- the number of a shard that is there isn't clipped
pub the_number : (c n shards : ℕ) → IsClipped c n → c < shards → shards < 256 → c ≡ n
the_number c n shards (inl (e, l)) a b = e
the_number c n shards (inr (e, l)) a b = absurd (omega (arith, e, a, b))

-- ---- the run

-- which shards are held after some lines and one more
held_push : (held : List Bool) (lines : List ScriptLine) (line : ScriptLine) → held_by held (lines ++ line ∷ []) ≡ held_after (held_by held lines) line
held_push held [] line = refl
held_push held (l ∷ ls) line = held_push (held_after held l) ls line

held_as_many : (held : List Bool) (line : ScriptLine) → length (held_after held line) ≡ length held
held_as_many held (Sends connection bytes) = refl
held_as_many held (Vanishes connection) = refl
held_as_many held (Enters session user) = refl
held_as_many held (Asks session bytes) = refl
held_as_many held (Leaves session) = refl
held_as_many held (Hold shard) = length-set held shard true
held_as_many held (Free shard) = length-set held shard false
held_as_many held (Closes shard) = refl
held_as_many held (Tail word) = refl
held_as_many held Skip = refl
held_as_many held Bad = refl

by_as_many : (held : List Bool) (lines : List ScriptLine) → length (held_by held lines) ≡ length held
by_as_many held [] = refl
by_as_many held (l ∷ ls) = by_as_many (held_after held l) ls ∙ held_as_many held l

-- there is one for each shard
pub one_for_each : (form : Form) (k : Setup) (input : List ℕ) (count : ℕ) (h : House) (holds : List Bool) (left old new : Option (List ℕ)) (sent : ℕ) (start : Scene)
    → HasRun form k input count h holds left old new sent start → length holds ≡ k.config.shards
one_for_each form k input count h holds left old new sent start r = ap length r.holds_now ∙ by_as_many (none_held k) (asked_by r.lines) ∙ length-replicate k.config.shards false

pub none_run : (form : Form) (k : Setup) (input : List ℕ) (h : House) (holds : List Bool) (left old : Option (List ℕ)) (start : Scene) → StandsFor k h start → holds ≡ none_held k → left ≡ Some input
    → HasRun form k input 0 h holds left old old 0 start
none_run form k input h holds left old start st none e = record {
  lines = [];
  rest = input;
  remaining = e;
  split = refl;
  counted = refl;
  after = start;
  texts = [];
  plays = (refl, refl);
  holds_now = none;
  stands = st;
  out = Appends-nil old;
  total = refl;
}

pub run_more : (form : Form) (k : Setup) (input : List ℕ) (count : ℕ) (g h : House) (held holds : List Bool) (before left old mid new : Option (List ℕ)) (sent more : ℕ) (start : Scene)
    → (r : HasRun form k input count g held before old mid sent start) → (o : Option ℕ) → o ≡ Some more → TurnTells form k (count + 1) held r.after r.rest h holds left mid new (Ok o)
    → HasRun form k input (count + 1) h holds left old new (sent + more) start
run_more form k input count g h held holds before left old mid new sent more start r o is tells =
    let w : LineWritten form k (count + 1) held r.after r.rest h holds left mid new more = subst (λ (x : Option ℕ). TurnTells form k (count + 1) held r.after r.rest h holds left mid new (Ok x)) is tells in
    let tells_on = told_on form k count r.lines w.line start r.after r.texts w.printed r.counted r.plays in
    record {
      lines = r.lines ++ w.line ∷ [];
      rest = w.rest;
      remaining = w.remaining;
      split = r.split ∙ ap (λ (x : List (List ℕ)). r.lines ++ x) w.first ∙ sym (append_assoc r.lines (w.line ∷ []) (lines_of w.rest));
      counted = length-append r.lines (w.line ∷ []) ∙ ap (λ (n : ℕ). n + 1) r.counted;
      after = w.after;
      texts = r.texts ++ w.printed ∷ [];
      plays = plays_on k count r.lines w.line start r.after w.after r.texts w.printed r.counted r.plays
          (subst (λ (x : List Bool). LinePlays k (count + 1) x (asked w.line) r.after w.after w.printed) r.holds_now w.plays);
      holds_now = w.holds_now ∙ ap (λ (x : List Bool). held_after x (asked w.line)) r.holds_now ∙ sym (held_push (none_held k) (asked_by r.lines) (asked w.line))
          ∙ ap (held_by (none_held k)) (sym (asked_both r.lines (w.line ∷ [])));
      stands = w.stands;
      out = subst (Appends old new) (sym tells_on) (Appends-trans old mid new (told form 1 r.lines r.texts) (rendered form (count + 1) w.line w.printed) r.out w.out);
      total = (let a = r.total in let b = w.count in let l = length-append (told form 1 r.lines r.texts) (rendered form (count + 1) w.line w.printed) in let m = ap length tells_on in omega (arith, a, b, l, m));
    }

-- all that tells of the lines that were read was written
abbrev pub whole_front : (form : Form) (k : Setup) (input : List ℕ) (count : ℕ) (h : House) (held : List Bool) (left old mid new : Option (List ℕ)) (sent : ℕ)
    → (r : HasRun form k input count h held left old mid sent (empty_scene k)) → new ≡ mid → ToldOnce form k (lines_of input) old new
whole_front form k input count h held left old mid new sent r same = record {
  some = r.lines;
  others = lines_of r.rest;
  split = r.split;
  after = r.after;
  texts = r.texts;
  plays = r.plays;
  once = delivers k r.lines r.after r.texts r.plays;
  sent = length (told form 1 r.lines r.texts);
  within = le_refl (length (told form 1 r.lines r.texts));
  out = subst (Appends old new) (sym (take-length (told form 1 r.lines r.texts)))
      (subst (λ (x : Option (List ℕ)). Appends old x (told form 1 r.lines r.texts)) (sym same) r.out);
}

pub run_over : (form : Form) (k : Setup) (input : List ℕ) (count : ℕ) (g h : House) (held holds : List Bool) (before left old mid new : Option (List ℕ)) (sent : ℕ)
    → (r : HasRun form k input count g held before old mid sent (empty_scene k)) → (o : Option ℕ) → o ≡ None → TurnTells form k (count + 1) held r.after r.rest h holds left mid new (Ok o)
    → TellsAll form k (lines_of input) h old new
run_over form k input count g h held holds before left old mid new sent r o is tells =
    let over : IsOver k r.after r.rest h mid new = subst (λ (x : Option ℕ). TurnTells form k (count + 1) held r.after r.rest h holds left mid new (Ok x)) is tells in
    record {
      tells = record {
        tells = whole_front form k input count g held before old mid new sent r over.silent;
        all = ap (λ (x : List ℕ). lines_of x) over.ended;
        whole = refl;
      };
      stands = over.stands;
    }

pub run_stops : (form : Form) (k : Setup) (input : List ℕ) (count : ℕ) (h : House) (held : List Bool) (left old mid new : Option (List ℕ)) (sent : ℕ) (Left : ℕ → List Bool → List ScriptLine → Scene → Type 0)
    → (r : HasRun form k input count h held left old mid sent (empty_scene k)) → Left (count + 1) held (asked_by (lines_of r.rest)) r.after → new ≡ mid
    → TellsBeginning form k (lines_of input) Left old new
run_stops form k input count h held left old mid new sent Left r is same = record {
  tells = record { tells = whole_front form k input count h held left old mid new sent r same; whole = refl };
  left = subst (λ (n : ℕ). Left (n + 1) (held_by (none_held k) (asked_by r.lines)) (asked_by (lines_of r.rest)) r.after) (sym r.counted)
      (subst (λ (x : List Bool). Left (count + 1) x (asked_by (lines_of r.rest)) r.after) r.holds_now is);
}

-- nothing was read or written yet
pub run_unbegun : (k : Setup) (lines : List ScriptLine) (old : Option (List ℕ)) (Left : ℕ → List Bool → List ScriptLine → Scene → Type 0) → Left 1 (none_held k) lines (empty_scene k) → WritesBeginning k lines Left old old
run_unbegun k lines old Left is = record {
  writes = record {
    wrote = record {
      some = [];
      others = lines;
      split = refl;
      delivered = record {
        count = 0;
        after = empty_scene k;
        printed = [];
        once = script_once k [] (empty_scene k) [] (refl, refl);
        sent = 0;
        within = le_refl 0;
        out = Appends-nil old;
      };
      counted = refl;
      script = (refl, refl);
    };
    whole = refl;
  };
  left = is;
}

-- the same, in any form
abbrev pub nothing_told : (form : Form) (k : Setup) (lines : List (List ℕ)) (old : Option (List ℕ)) → ToldSome form k lines old old
nothing_told form k lines old = record {
  tells = record {
    some = [];
    others = lines;
    split = refl;
    after = empty_scene k;
    texts = [];
    plays = (refl, refl);
    once = delivers k [] (empty_scene k) [] (refl, refl);
    sent = 0;
    within = le_refl 0;
    out = Appends-nil old;
  };
  whole = refl;
}

pub told_unbegun : (form : Form) (k : Setup) (lines : List (List ℕ)) (old : Option (List ℕ)) (Left : ℕ → List Bool → List ScriptLine → Scene → Type 0)
    → Left 1 (none_held k) (asked_by lines) (empty_scene k) → TellsBeginning form k lines Left old old
told_unbegun form k lines old Left is = record { tells = nothing_told form k lines old; left = is }

pub run_cut : (form : Form) (k : Setup) (input : List ℕ) (count : ℕ) (g h : House) (held holds : List Bool) (before left old mid new : Option (List ℕ)) (sent more : ℕ)
    → (r : HasRun form k input count g held before old mid sent (empty_scene k)) → (f : TurnFault) → f ≡ turn_faults.Write more → TurnTells form k (count + 1) held r.after r.rest h holds left mid new (Err f)
    → TellsFirst form k (lines_of input) (sent + more) h old new
run_cut form k input count g h held holds before left old mid new sent more r f is tells =
    let w : LineCut form k (count + 1) held r.after r.rest h mid new more = subst (λ (x : TurnFault). TurnTells form k (count + 1) held r.after r.rest h holds left mid new (Err x)) is tells in
    let front = told form 1 r.lines r.texts in
    let last = rendered form (count + 1) w.line w.printed in
    let tells_on = told_on form k count r.lines w.line (empty_scene k) r.after r.texts w.printed r.counted r.plays in
    let played = plays_on k count r.lines w.line (empty_scene k) r.after w.after r.texts w.printed r.counted r.plays
    (subst (λ (x : List Bool). LinePlays k (count + 1) x (asked w.line) r.after w.after w.printed) r.holds_now w.plays) in
    let less : sent + more < length (told form 1 (r.lines ++ w.line ∷ []) (r.texts ++ w.printed ∷ [])) =
    (let a = r.total in let b = w.within in let l = length-append front last in let m = ap length tells_on in omega (arith, a, b, l, m)) in
    record {
      tells = record {
        tells = record {
          some = r.lines ++ w.line ∷ [];
          others = w.others;
          split = r.split ∙ ap (λ (x : List (List ℕ)). r.lines ++ x) w.first ∙ sym (append_assoc r.lines (w.line ∷ []) w.others);
          after = w.after;
          texts = r.texts ++ w.printed ∷ [];
          plays = played;
          once = delivers k (r.lines ++ w.line ∷ []) w.after (r.texts ++ w.printed ∷ []) played;
          sent = sent + more;
          within = omega (arith, less);
          out = subst (λ (x : List ℕ). Appends old new (take (sent + more) x)) (sym tells_on)
              (subst (Appends old new) (sym (take-append-add front last more) ∙ ap (λ (n : ℕ). take (n + more) (front ++ last)) (sym r.total)) (Appends-trans old mid new front (take more last) r.out w.out));
        };
        stopped = refl;
        within = less;
      };
      stands = w.stands;
    }

-- a turn failed before it read anything
pub turn_unread : (form : Form) (k : Setup) (number : ℕ) (held : List Bool) (s : Scene) (input : List ℕ) (h : House) (holds : List Bool) (left old new : Option (List ℕ)) (f : TurnFault)
    → f ≡ turn_faults.Read → TurnTells form k number held s input h holds left old new (Err f) → IsUnreadTurn k s h old new
turn_unread form k number held s input h holds left old new f is tells = subst (λ (x : TurnFault). TurnTells form k number held s input h holds left old new (Err x)) is tells

-- memory was wanting in a turn
pub turn_unwritten : (form : Form) (k : Setup) (number : ℕ) (held : List Bool) (s : Scene) (input : List ℕ) (h : House) (holds : List Bool) (left old new : Option (List ℕ)) (f : TurnFault)
    → f ≡ turn_faults.NoMemory → TurnTells form k number held s input h holds left old new (Err f) → IsUnwritten form k number held s input h old new
turn_unwritten form k number held s input h holds left old new f is tells = subst (λ (x : TurnFault). TurnTells form k number held s input h holds left old new (Err x)) is tells

-- memory was wanting as a line was played, or behind that
pub turn_wanting : (form : Form) (k : Setup) (number : ℕ) (held : List Bool) (s : Scene) (input piece : List ℕ) (h : House) (old new : Option (List ℕ))
    → asked (line_of piece) ≡ asked (line_of (take_through 10 input)) → 0 < length (take_through 10 input) → TellWanting form k number held (asked (line_of piece)) s h → new ≡ old
    → IsUnwritten form k number held s input h old new
turn_wanting form k number held s input piece h old new e some p same = record { left = left_so p; silent = same }
  where
    behind : List ScriptLine
    behind = asked_by (lines_of (drop_through 10 input))

    first : asked_by (lines_of input) ≡ asked (line_of piece) ∷ behind
    first = ap asked_by (first_of_lines input some) ∙ ap (λ (x : ScriptLine). x ∷ behind) (sym e)

    left_so : TellWanting form k number held (asked (line_of piece)) s h → IsLeftUntold form k h number held (asked_by (lines_of input)) s
    left_so (playing w) = wanting (unwritten (asked (line_of piece)) behind first w)
    left_so (telling is after printed plays st) = untold (asked (line_of piece)) behind after printed is first plays st

-- memory was wanting as the house settled behind a line
pub settling_wanting : (k : Setup) (number : ℕ) (held holds : List Bool) (line : ScriptLine) (s : Scene) (g h : House) (mid new : List ℕ) → LineDone k number line s g [] mid → holds ≡ held_after held line
    → ((j : Setup) (t : Scene) → StandsFor j g t → BrokeOffFrom j holds t h mid new) → PlayWanting k number held line s h
settling_wanting k number held holds line s g h mid new d e f =
    let t = f k d.after d.stands in settling d.after d.printed t.after t.printed d.does (subst (λ (x : List Bool). SettlingBreaksOff k (is_held x) d.after t.after t.printed) e t.breaks_off) t.stands

-- ---- where memory is wanting

-- nothing happened, since the house is as it was
pub nothing_done : (k : Setup) (line : ScriptLine) (s : Scene) (g h : House) → h ≡ g → StandsFor k g s → LineWanting k line s h
nothing_done k line s g h e st = undone (subst (λ (x : House). StandsFor k x s) (sym e) st)

-- a step of the house failed
pub step_failed : (k : Setup) (line : ScriptLine) (event : Event) (s : Scene) (g h : House) (old new : List ℕ) (f : HouseFault)
    → ((t : Scene) (printed : List ℕ) → Plays k false s event t printed → LineBegins k s t printed line)
    → (◌≡◌ {A = Result (Unit {0}) HouseFault} (Err f) (Err faults.NoMemory) → FollowsInPart g event h old new)
    → ((◌≡◌ {A = Result (Unit {0}) HouseFault} (Err f) (Err faults.NoMemory) → ⊥) → (h ≡ g) × (new ≡ old)) → StandsFor k g s → LineWanting k line s h
step_failed k line event s g h old new faults.NoMemory begins part whole st = in_part (part refl k s st)
  where
    in_part : Led k false s event h old new ⊎ (StandsFor k h s × (new ≡ old)) → LineWanting k line s h
    in_part (inl l) = begun l.after l.printed (begins l.after l.printed l.plays) l.stands
    in_part (inr x) = undone x.0
step_failed k line event s g h old new faults.Nobody begins part whole st = nothing_done k line s g h (whole none_wanting).0 st
step_failed k line event s g h old new faults.Busy begins part whole st = nothing_done k line s g h (whole wants_other).0 st
step_failed k line event s g h old new faults.Nothing begins part whole st = nothing_done k line s g h (whole wants_nothing).0 st
  where
    wants_nothing : ◌≡◌ {A = Result (Unit {0}) HouseFault} (Err faults.Nothing) (Err faults.NoMemory) → ⊥
    wants_nothing e = cc

-- ---- hexadecimal digits

-- no shard is held or freed by them
pub hex_holds_nothing : (held : List Bool) (brings : List ℕ → ScriptLine) (r : Result (List ℕ) FromHexError) → ((bytes : List ℕ) → held_after held (brings bytes) ≡ held) → held_after held (brought brings r) ≡ held
hex_holds_nothing held brings (Err f) h = refl
hex_holds_nothing held brings (Ok []) h = refl
hex_holds_nothing held brings (Ok (b ∷ bs)) h = h (b ∷ bs)

-- what holds where there is nothing
pub if_none : {A : Type 0} (o : Option A) (P : Type 0) → o ≡ None → IfNone o P → P
if_none {A = A} None P e h = h
if_none {A = A} (Some x) P e h = absurd (none_some x e)
  where
    none_some : (x : A) → ◌≡◌ {A = Option A} (Some x) None → ⊥
    none_some x e = cc

-- what holds where there is something
pub if_some : {A : Type 0} (o : Option A) (P : A → Type 0) (x : A) → o ≡ Some x → IfSome o P → P x
if_some {A = A} (Some y) P x e h = subst P (same e) h
  where
    same : ◌≡◌ {A = Option A} (Some y) (Some x) → y ≡ x
    same e = cc
if_some {A = A} None P x e h = absurd (none_some e)
  where
    none_some : ◌≡◌ {A = Option A} None (Some x) → ⊥
    none_some e = cc

-- digits that can't be read are a bad line
pub digits_refused : (k : Setup) (number : ℕ) (s : Scene) (brings : List ℕ → ScriptLine) (r : Result (List ℕ) FromHexError) (h : House) (old new : List ℕ)
    → brought brings r ≡ Bad → StandsFor k h s → new ≡ old ++ refusal number (codes "Line") → LineDone k number (brought brings r) s h old new
digits_refused k number s brings r h old new bad st e = subst (λ (l : ScriptLine). LineDone k number l s h old new) (sym bad) (refused k number s h old new st e)
