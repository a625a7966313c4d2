-- What a connection says first is its greeting: nobody is told anything who never came.
use Rattle.std.proofs.Common.{eqb, ◌≡◌, ◌≢◌, ◌⊎◌, inl, inr, ℕ, ◌+◌, ◌<◌, Bool, true, false, List, [], ◌∷◌, ◌++◌, refl, sym, ap, subst, ◌∙◌, append_assoc, append-nil, arith, Option, Some, None}
use Rattle.std.specs.Prelude.{codes, decimal, drop, flat_map, ◌==◌, ◌&&◌, if◌then◌else◌}
use Rattle.std.proofs.lemmas.Bool.Decides.{eqb_tells}
use Rattle.delivery_token.specs.declared.log.Noted.{Noted}
use Rattle.line_io.specs.Wire.{Reading, begins_with_lf, marked, put_first, reading}
use Rattle.house_peers.specs.Caller.{Caller, GoesOn, Proceeds, Terms, answers, fades, greeted, lingers, more_waits, stalls, talks, unread, waits, with_unsaid, works}
use Rattle.house.specs.Setup.{Setup, terms_of}
use Rattle.house.specs.Printing.{ConnectionGoes, Leaves, Prints, goes, of_connection, prints_all, prints_none, stays}
use Rattle.house.specs.Scene.{BytesPlay, ConnectionHears, ConnectionPuts, Plays, Scene, VanishPlay, empty_scene, connection_hears, connection_puts, goes_on, opens, seat_of, session_hears, session_puts, with_caller}
use Rattle.house.specs.declared.event.Event.{Event}
use Rattle.house.specs.declared.event.Event.TheVariants.{Bytes, Hear, Put, Take, Vanish}
use Rattle.exactly_once.specs.Promise.{Entry, IsEntry, IsOwn, Lines, Piece, Replies, Silence, text_of}
use Rattle.script.proofs.Begins.{lines_begin}

-- ---- a greeting is a whole line

-- 220, and there is a CRLF behind it
pub record IsGreeting (said : List ℕ) : Type 0 where
  pub front : List ℕ
  pub back : List ℕ
  pub is : said ≡ 50 ∷ 50 ∷ 48 ∷ 32 ∷ (front ++ 13 ∷ 10 ∷ back)

-- a line more
abbrev HasLine : Reading → Type 0
HasLine r = (line : List ℕ) × (lines : List (List ℕ)) × (r.lines ≡ line ∷ lines)

put_first_line : (x : ℕ) (line : List ℕ) (lines : List (List ℕ)) (rest : List ℕ) → HasLine (put_first x (line ∷ lines) rest)
put_first_line x line lines rest = by ((x == 13) && begins_with_lf line)
  where
    by : (b : Bool)
        → HasLine (if b then record { lines = [] ∷ drop 1 line ∷ lines; rest = rest } else record { lines = (x ∷ line) ∷ lines; rest = rest })
    by true = (_, _, refl)
    by false = (_, _, refl)

line_more : (x : ℕ) (r : Reading) → HasLine r → HasLine (put_first x r.lines r.rest)
line_more x r h = subst (λ (ls : List (List ℕ)). HasLine (put_first x ls r.rest)) (sym h.2) (put_first_line x h.0 h.1 r.rest)

crlf_ends : (r : Reading) → HasLine (let more = put_first 10 r.lines r.rest in put_first 13 more.lines more.rest)
crlf_ends r = by r.lines
  where
    by : (lines : List (List ℕ)) → HasLine (let more = put_first 10 lines r.rest in put_first 13 more.lines more.rest)
    by [] = (_, _, refl)
    by (line ∷ lines) = (_, _, refl)

has_line : (front back : List ℕ) → HasLine (reading (front ++ 13 ∷ 10 ∷ back))
has_line [] back = crlf_ends (reading back)
has_line (x ∷ front) back = line_more x (reading (front ++ 13 ∷ 10 ∷ back)) (has_line front back)

begun : (r : Reading) → HasLine r
    → (let a = put_first 32 r.lines r.rest in let b = put_first 48 a.lines a.rest in let c = put_first 50 b.lines b.rest in
    (line : List ℕ) × (lines : List (List ℕ)) × ((put_first 50 c.lines c.rest).lines ≡ (50 ∷ 50 ∷ 48 ∷ 32 ∷ line) ∷ lines))
begun r h = by r.lines h.2
  where
    by : (ls : List (List ℕ)) → ls ≡ h.0 ∷ h.1
        → (let a = put_first 32 ls r.rest in let b = put_first 48 a.lines a.rest in let c = put_first 50 b.lines b.rest in
        (line : List ℕ) × (lines : List (List ℕ)) × ((put_first 50 c.lines c.rest).lines ≡ (50 ∷ 50 ∷ 48 ∷ 32 ∷ line) ∷ lines))
    by [] e = absurd cc
    by (line ∷ lines) e = (line, lines, refl)

-- so it is printed, with its mark
pub greets : (mark n : ℕ) (said : List ℕ) → IsGreeting said → (more : List ℕ) × (marked mark n said ≡ mark ∷ (decimal n ++ 32 ∷ 50 ∷ 50 ∷ 48 ∷ 32 ∷ more))
greets mark n said g =
    let r = reading (g.front ++ 13 ∷ 10 ∷ g.back) in
    let b = begun r (has_line g.front g.back) in
    let line : List ℕ = 50 ∷ 50 ∷ 48 ∷ 32 ∷ b.0 in
    let others = flat_map (λ line. mark ∷ decimal n ++ codes " " ++ line ++ 10 ∷ []) b.1 in (
      b.0 ++ 10 ∷ others,
      ap (λ (x : List ℕ). marked mark n x) g.is ∙ ap (λ (ls : List (List ℕ)). flat_map (λ line. mark ∷ decimal n ++ codes " " ++ line ++ 10 ∷ []) ls) b.2
          ∙ ap (λ (x : List ℕ). mark ∷ x)
          (append_assoc ((decimal n ++ 32 ∷ []) ++ line) (10 ∷ []) others ∙ append_assoc (decimal n ++ 32 ∷ []) line (10 ∷ others) ∙ append_assoc (decimal n) (32 ∷ []) (line ++ 10 ∷ others)),
    )

says_more : (said more : List ℕ) → IsGreeting said → IsGreeting (said ++ more)
says_more said more g = record {
  front = g.front;
  back = g.back ++ more;
  is = ap (λ (x : List ℕ). x ++ more) g.is ∙ ap (λ (x : List ℕ). 50 ∷ 50 ∷ 48 ∷ 32 ∷ x) (append_assoc g.front (13 ∷ 10 ∷ g.back) more);
}

-- ---- callers

-- who stands at this seat has one that the house has, and was greeted; but for one whose peer is gone, the greeting is still to be printed
abbrev pub IsUnheard : Setup → (seat : ℕ) → Option Caller → Type 0
IsUnheard k seat None = Unit {0}
IsUnheard k seat (Some b) = (seat < k.connections) × (b.gone ≡ false → IsGreeting b.talk.unsaid)

is_greeted : (k : Terms) (seat serial : ℕ) (piece : List ℕ) → IsGreeting (more_waits (greeted k seat serial) piece).talk.unsaid
is_greeted k seat serial piece = record {
  front = k.host ++ codes " LMTP ready";
  back = [];
  is = append-nil _;
}

no_words : (mark : ℕ) (more : List ℕ) → ◌≡◌ {A = List ℕ} [] (mark ∷ more) → ⊥
no_words mark more e = cc

-- these words are its greeting
abbrev Greets : (seat : ℕ) → (printed : List ℕ) → Type 0
Greets seat printed = (more : List ℕ) × (printed ≡ 76 ∷ (decimal (seat + 1) ++ 32 ∷ 50 ∷ 50 ∷ 48 ∷ 32 ∷ more))

-- Where it prints nothing its greeting is still to be printed; else it prints that first.
record Went (k : Setup) (seat : ℕ) (o : Option Caller) (printed : List ℕ) : Type 0 where
  pub silent : printed ≡ [] → IsUnheard k seat o
  pub heard : (more : List ℕ) → printed ≡ 76 ∷ more → Greets seat printed

module _ (k : Setup) (t : Terms) (whole : Bool) (seat : ℕ) (heard : List Noted) (b : Caller) (o : Option Caller) (printed : List ℕ)
    (g : ConnectionGoes t whole seat heard b o printed) where
  -- what it says stands behind what it had still to say
  goes_behind : GoesOn t whole seat heard b g.what g.after → (more : List ℕ) × (g.after.talk.unsaid ≡ b.talk.unsaid ++ more)
  goes_behind (works none w) = (_, ap (λ (x : Caller). x.talk.unsaid) w.is ∙ w.said)
  goes_behind (waits some not_all is same) = ([], ap (λ (x : Caller). x.talk.unsaid) same ∙ sym (append-nil b.talk.unsaid))
  goes_behind (answers vs some all w) = (_, ap (λ (x : Caller). x.talk.unsaid) w.is ∙ w.said ∙ append_assoc b.talk.unsaid _ _)
  goes_behind (stalls short is same) = ([], ap (λ (x : Caller). x.talk.unsaid) same ∙ sym (append-nil b.talk.unsaid))

  left_unheard : seat < k.connections → (g.after.gone ≡ false → IsGreeting g.still) → Leaves whole g.what (with_unsaid g.still g.after) o → IsUnheard k seat o
  left_unheard there h (goes quits said is) = subst (IsUnheard k seat) (sym is) tt
  left_unheard there h (stays a b is) = subst (IsUnheard k seat) (sym is) (there, h)

  greeted_so : seat < k.connections → IsGreeting g.after.talk.unsaid → Prints of_connection (seat + 1) g.after.talk.unsaid g.still printed → Went k seat o printed
  greeted_so there greeting (prints_all none is) =
      let says = greets 76 (seat + 1) g.after.talk.unsaid greeting in
      record { silent = λ e. absurd (no_words 76 _ (sym e ∙ is ∙ says.1)); heard = λ more e. (says.0, is ∙ says.1) }
  greeted_so there greeting (prints_none same is) = record {
    silent = λ e. left_unheard there (λ alive. subst IsGreeting (sym same) greeting) g.leaves;
    heard = λ more e. absurd (no_words 76 more (sym is ∙ e));
  }

  nothing_said : g.after.talk.unsaid ≡ [] → Prints of_connection (seat + 1) g.after.talk.unsaid g.still printed → printed ≡ []
  nothing_said none (prints_all all is) = is ∙ ap (λ (x : List ℕ). marked of_connection (seat + 1) x) none
  nothing_said none (prints_none same is) = is

  gone_so : seat < k.connections → g.after ≡ b → b.gone ≡ true → b.talk.unsaid ≡ [] → Went k seat o printed
  gone_so there same gone none =
      let silent = nothing_said (ap (λ (x : Caller). x.talk.unsaid) same ∙ none) g.prints in
      let is_gone : g.after.gone ≡ true = ap (λ (x : Caller). x.gone) same ∙ gone in
      record {
        silent = λ e. left_unheard there (λ alive. absurd (let x : true ≡ false = sym is_gone ∙ alive in cc)) g.leaves;
        heard = λ more e. absurd (no_words 76 more (sym silent ∙ e));
      }

  went : seat < k.connections → (b.gone ≡ false → IsGreeting b.talk.unsaid) → Went k seat o printed
  went there h = by g.proceeds
    where
      by : Proceeds t whole seat heard b g.what g.after → Went k seat o printed
      by (talks alive p) = let more = goes_behind p in greeted_so there (subst IsGreeting (sym more.1) (says_more b.talk.unsaid more.0 (h alive))) g.prints
      by (lingers gone none not_all is same) = gone_so there same gone none
      by (fades vs gone none all is same) = gone_so there same gone none

-- ---- scenes

-- nobody who stands at a seat was told anything
abbrev pub NobodyHeard : Setup → Scene → Type 0
NobodyHeard k s = (seat : ℕ) → IsUnheard k seat (s.caller seat)

pub nobody_at_first : (k : Setup) → NobodyHeard k (empty_scene k)
nobody_at_first k seat = tt

same_callers : (k : Setup) (s t : Scene) → t.caller ≡ s.caller → NobodyHeard k s → NobodyHeard k t
same_callers k s t same h = subst (λ (f : ℕ → Option Caller). (seat : ℕ) → IsUnheard k seat (f seat)) (sym same) h

module _ (k : Setup) (s t : Scene) (printed : List ℕ) (h : NobodyHeard k s) where
  -- something happened at a seat of connections alone
  record At (seat : ℕ) : Type 0 where
    pub there : seat < k.connections
    pub left : Option Caller
    pub after : t.caller ≡ (with_caller s seat left).caller
    pub went : Went k seat left printed

  at_keeps : (seat : ℕ) → At seat → printed ≡ [] → NobodyHeard k t
  at_keeps seat a silent = same_callers k (with_caller s seat a.left) t a.after (λ j. by j (eqb_tells j seat))
    where
      by : (j : ℕ) → ((eqb j seat ≡ true) × (j ≡ seat)) ⊎ ((eqb j seat ≡ false) × (j ≢ seat)) → IsUnheard k j ((with_caller s seat a.left).caller j)
      by j (inl (e, here)) = rw (e, here) (a.went.silent silent)
      by j (inr (e, other)) = rw e (h j)

  at_seat : (seat : ℕ) (b : Caller) → s.caller seat ≡ Some b → IsUnheard k seat (Some b)
  at_seat seat b there = subst (IsUnheard k seat) there (h seat)

  bytes_at : (seat : ℕ) (piece : List ℕ) → BytesPlay k false s seat piece t printed → At seat
  bytes_at seat piece (opens there free few o g after) = record {
    there = there;
    left = o;
    after = ap (λ (x : Scene). x.caller) after;
    went = went k (terms_of k s.shut) false seat (s.world.heard seat) (more_waits (greeted (terms_of k s.shut) seat (s.next seat)) piece) o printed g there
        (λ alive. is_greeted (terms_of k s.shut) seat (s.next seat) piece);
  }
  bytes_at seat piece (goes_on b there alive o g after) =
      let u = at_seat seat b there in
      record {
        there = u.0;
        left = o;
        after = ap (λ (x : Scene). x.caller) after;
        went = went k (terms_of k s.shut) false seat (s.world.heard seat) (more_waits b piece) o printed g u.0 u.1;
      }

  put_at : (seat : ℕ) → ConnectionPuts k false s seat t printed → At seat
  put_at seat p =
      let u = at_seat seat p.caller p.there in
      record {
        there = u.0;
        left = p.left;
        after = ap (λ (x : Scene). x.caller) p.after;
        went = went k (terms_of k s.shut) false seat (p.moved.heard seat) (record p.caller { to_put = p.others }) p.left printed p.goes u.0 u.1;
      }

  hear_at : (seat : ℕ) → ConnectionHears k false s seat t printed → At seat
  hear_at seat p =
      let u = at_seat seat p.caller p.there in
      record {
        there = u.0;
        left = p.left;
        after = ap (λ (x : Scene). x.caller) p.after;
        went = went k (terms_of k s.shut) false seat (p.moved.heard seat) p.caller p.left printed p.goes u.0 u.1;
      }

  vanish_at : (seat : ℕ) → VanishPlay k false s seat t printed → At seat
  vanish_at seat p =
      let u = at_seat seat p.caller p.there in
      record {
        there = u.0;
        left = p.left;
        after = ap (λ (x : Scene). x.caller) p.after;
        went = went k (terms_of k s.shut) false seat (s.world.heard seat) (unread p.caller) p.left printed p.goes u.0 (λ alive. absurd cc);
      }

  -- what prints nothing leaves it so
  keeps : (e : Event) → Plays k false s e t printed → printed ≡ [] → NobodyHeard k t
  keeps (Bytes connection piece) p silent = at_keeps (seat_of connection) (bytes_at (seat_of connection) piece.now p) silent
  keeps (Vanish connection) p silent = at_keeps (seat_of connection) (vanish_at (seat_of connection) p) silent
  keeps (Put number) (connection_puts there p) silent = at_keeps (seat_of number) (put_at (seat_of number) p) silent
  keeps (Put number) (session_puts place is p) silent = same_callers k s t (ap (λ (x : Scene). x.caller) p.after) h
  keeps (Hear number) (connection_hears there p) silent = at_keeps (seat_of number) (hear_at (seat_of number) p) silent
  keeps (Hear number) (session_hears place is p) silent = same_callers k s t (ap (λ (x : Scene). x.caller) p.after) h
  keeps (Take shard) p silent = same_callers k s t (ap (λ (x : Scene). x.caller) p.after) h
  keeps _ p silent = same_callers k s t (ap (λ (x : Scene). x.caller) p.after) h

-- What a connection is told first is its greeting, and it stands at a seat that the house has.
abbrev pub FirstWords : Setup → (printed : List ℕ) → Type 0
FirstWords k printed = (seat : ℕ) × (seat < k.connections) × Greets seat printed

at_says : (k : Setup) (s t : Scene) (printed : List ℕ) (h : NobodyHeard k s) (seat : ℕ) (more : List ℕ) → At k s t printed h seat → printed ≡ 76 ∷ more → FirstWords k (76 ∷ more)
at_says k s t printed h seat more a e = let w = a.went.heard more e in (seat, a.there, (w.0, sym e ∙ w.1))

pub greeted_first : (k : Setup) (s t : Scene) (e : Event) (piece : Piece) (more : List ℕ) → NobodyHeard k s → Plays k false s e t (text_of k piece) → IsOwn k s e t piece
    → text_of k piece ≡ 76 ∷ more → FirstWords k (76 ∷ more)
greeted_first k s t e Silence more h p own is = absurd (no_words 76 more is)
greeted_first k s t e (Lines session lines) more h p own is = absurd (let x : 76 ≡ 73 = lines_begin k session 76 lines more is in omega (arith, x))
greeted_first k s t (Bytes connection bytes) (Replies seat said) more h p own is =
    let at = seat_of connection in at_says k s t _ h at more (bytes_at k s t _ h at bytes.now p) is
greeted_first k s t (Put number) (Replies seat said) more h (connection_puts there p) own is =
    let at = seat_of number in at_says k s t _ h at more (put_at k s t _ h at p) is
greeted_first k s t (Put number) (Replies seat said) more h (session_puts place beyond p) own is = absurd (let a = own.0 in let b = own.1 in omega (arith, a, b, beyond))
greeted_first k s t (Hear number) (Replies seat said) more h (connection_hears there p) own is =
    let at = seat_of number in at_says k s t _ h at more (hear_at k s t _ h at p) is
greeted_first k s t (Hear number) (Replies seat said) more h (session_hears place beyond p) own is = absurd (let a = own.0 in let b = own.1 in omega (arith, a, b, beyond))
greeted_first k s t e (Replies seat said) more h p own is = absurd own

pub entry_keeps : (k : Setup) (s : Scene) (entry : Entry) → IsEntry k s entry → text_of k entry.piece ≡ [] → NobodyHeard k s → NobodyHeard k entry.after
entry_keeps k s entry is silent h = keeps k s entry.after (text_of k entry.piece) h entry.event is.plays silent
