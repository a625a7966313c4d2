-- What the life of an attended client is, and what that refuses: one thing at a time is wrong. Above each stands what would have happened.
use Rattle.std.proofs.Common.{◌≡◌, ◌≢◌, ◌⊎◌, inl, inr, ◌≤◌, ◌||◌, ℕ, Bool, true, false, List, [], ◌∷◌, ◌++◌, length, take, drop, refl, Option, Some, None, ap, sym, subst, ◌∙◌, append-nil, append_assoc, if◌then◌else◌, arith}
use Rattle.std.specs.Prelude.{codes, flat_map}
use Rattle.std.specs.Fmt.{digits}
use Rattle.std.specs.Io.KnownBytes.{Appends}
use Rattle.std.proofs.KnownBytes.{Appends-trans}
use Rattle.std.proofs.lemmas.Bool.{false≢true}
use Rattle.std.proofs.lemmas.Grind.{flat_map-append}
use Rattle.std.proofs.lemmas.List.{length-append}
use Rattle.std.proofs.lemmas.Option.{none-some}
use Rattle.line_io.specs.Wire.{EndsInCr, crlf}
use Rattle.delivery_token.specs.declared.Verdict.TheVariants.{Stored}
use Rattle.house_history.specs.declared.event.Event as house
use Rattle.house_history.specs.declared.event.Event.TheVariants.{Judged}
use Rattle.house_history.specs.Legal.{IsLife, Legal}
use Rattle.house_history.specs.Legal as fates
use Rattle.house_history.proofs.Follow.{legal_empty}
use Rattle.imap_grammar.specs.Reading.{read}
use Rattle.imap_session.specs.declared.standing.After.TheVariants as afters
use Rattle.imap_session.specs.declared.standing.Profile.TheVariants.{Standard}
use Rattle.imap_session.specs.Exchange.{Answer as StoreAnswer, Event, Standing, Turn, begun_with, may_send, nothing_more}
use Rattle.imap_session.specs.Commands.{greeting, turn_of}
use Rattle.imap_session.specs.Dialogue.{ImapConnection, StandsFor, may_follow}
use Rattle.imap_session.specs.Happenings.{Answer, Happening, Heard, IsSentFor, IsTimely, Line, Literal, Lived, LongLine, Told, Turned, Words, bytes_in, comes, leads_to, told_of, turns}
use Rattle.imap_session.specs.Store.{Met}
use Rattle.session_thread.specs.ByHistory.{ByHistory}
use Rattle.session_thread.specs.declared.locked_store.Entry.{Entry}
use Rattle.session_thread.specs.Life.{known_client}
use Rattle.session_thread.specs.Locks.{LockedStore}
use Rattle.imap_stream.specs.declared.client_slot.Parting.{Parting}
use Rattle.imap_stream.specs.declared.client_slot.Parting.TheVariants.{Broken, Gone, Over, Stopped}
use Rattle.imap_stream.specs.Visits.{Beginning, EndsSo, HasAttended, HasLived, IsCutShort, IsQuiet, said_in, SendsFirst, Visit, farewell, is_over, takes_bytes}
use Rattle.laws_client.proofs.Bytes.{uncut}
use Rattle.laws_client.specs.rows.HistoryRows.{first, outside, within}

-- ---- a visit

abbrev standing : Standing
standing = begun_with (known_client None) []

abbrev link : ImapConnection
link = record { session = standing; cutter = record { max = 100; kept = []; after_cr = false; line = None } }

abbrev beginning : Beginning
beginning = record { first = standing; store = outside []; taken = Some [] }

-- it goes on, and its output took these bytes
abbrev taking : List ℕ → Visit
taking bytes = record { link = link; selection = outside []; taken = Some bytes; failed = false; closed = false; room = 10000 }

-- it ended
abbrev ended : List ℕ → Visit
ended bytes = record (taking bytes) { closed = true }

abbrev hello : List ℕ
hello = greeting Standard

abbrev pub noop : List ℕ
noop = codes "a NOOP\r\n"

abbrev pub answer : List ℕ
answer = codes "a OK NOOP completed\r\n"

abbrev told_noop : List ℕ → List Told
told_noop bytes = Answer (codes "a NOOP") bytes ∷ []

-- ---- what passes

no_cr : EndsInCr [] → ⊥
no_cr (before, is) = let size = ap length is ∙ length-append before (13 ∷ []) in omega (arith, size)

abbrev first_of : List ℕ → ℕ
first_of [] = 0
first_of (x ∷ xs) = x

is_afresh : StandsFor link (record { standing = standing; begun = [] })
is_afresh = record {
  session = refl;
  cutter = record { kept = refl; cr = λ e. absurd (false≢true e); no_cr = λ e ends. no_cr ends };
  uncut = λ cut. (let size = ap length cut.2 ∙ length-append cut.0 (13 ∷ 10 ∷ cut.1) in omega (arith, size));
  alone = λ due. refl;
}

lives_silently : HasLived ByHistory beginning [] [] (taking hello)
lives_silently = record {
  dialogue = record { standing = standing; begun = [] };
  stands = is_afresh;
  answered = [];
  lost = [];
  all = refl;
  none_lost = λ going. refl;
  lives = comes;
  legal = legal_empty;
  sent = length hello;
  took = refl;
  took_all = λ live. refl;
  failed = λ goes. refl;
  why = λ closed. absurd (false≢true closed);
}

isnt_stopped : Gone ≢ Stopped
isnt_stopped e = cc

goes : (text : List ℕ) → EndsSo Gone (taking text) (ended text)
goes text = record {
  closed = refl;
  link = refl;
  quiet = λ other. record { taken = refl; failed = refl; room = refl };
  takes_none = λ over. absurd (let clash : Gone ≡ Over = over in cc);
  told = λ stops going. absurd (isnt_stopped stops);
}

-- A client that says nothing, and goes, was greeted.
says_nothing : HasAttended (Some []) (Some []) Gone beginning (ended hello)
says_nothing = record {
  heard = [];
  dropped = [];
  came = refl;
  kept = λ other. refl;
  told = [];
  last = taking hello;
  lived = lives_silently;
  ends = goes hello;
}

lives_noop : HasLived ByHistory beginning noop (told_noop answer) (taking (hello ++ answer))
unfolding read digits
lives_noop = record {
  dialogue = record { standing = standing; begun = [] };
  stands = is_afresh;
  answered = noop;
  lost = [];
  all = refl;
  none_lost = λ going. refl;
  lives = turns comes (Line (codes "a NOOP") []) noop (record { events = []; bytes = answer; after = afters.Go; standing = standing }) (outside []) (refl, refl, omega arith, uncut (codes "a NOOP") refl) refl tt refl
      refl;
  legal = legal_empty;
  sent = length (hello ++ answer);
  took = refl;
  took_all = λ live. refl;
  failed = λ goes. refl;
  why = λ closed. absurd (false≢true closed);
}

-- One that sends NOOP, and goes, is answered.
says_noop : HasAttended (Some noop) (Some []) Gone beginning (ended (hello ++ answer))
says_noop = record {
  heard = noop;
  dropped = [];
  came = refl;
  kept = λ other. refl;
  told = told_noop answer;
  last = taking (hello ++ answer);
  lived = lives_noop;
  ends = goes (hello ++ answer);
}

-- The server stops as the line was read: it isn't heard, and the client is told so.
is_stopped : HasAttended (Some noop) (Some []) Stopped beginning (ended (hello ++ farewell))
is_stopped = record {
  heard = [];
  dropped = noop;
  came = refl;
  kept = λ other. absurd (other refl);
  told = [];
  last = taking hello;
  lived = lives_silently;
  ends = record {
    closed = refl;
    link = refl;
    quiet = λ other. absurd (stops_open other);
    takes_none = λ over. absurd (let clash : Stopped ≡ Over = over in cc);
    told = λ stops going. inl (refl, refl);
  };
}
  where
    stops_open : (Stopped ≢ Stopped) ⊎ (is_over (taking hello) ≡ true) → ⊥
    stops_open (inl other) = other refl
    stops_open (inr over) = false≢true over

-- ---- what was heard

-- of a client that goes, just what came was heard
all_heard : {came : List ℕ} {v : Visit} (a : HasAttended (Some came) (Some []) Gone beginning v) → came ≡ a.heard
all_heard a = a.came ∙ append-nil (a.heard ++ a.dropped) ∙ ap (λ (d : List ℕ). a.heard ++ d) (a.kept isnt_stopped) ∙ append-nil a.heard

-- It sent a line, and the server heard nothing of it.
unheard : {v : Visit} (a : HasAttended (Some noop) (Some []) Gone beginning v) → a.heard ≡ [] → ⊥
unheard a none = let size : 8 ≡ 0 = ap length (all_heard a ∙ none) in omega (arith, size)

-- It heard the line twice.
heard_twice : {v : Visit} (a : HasAttended (Some noop) (Some []) Gone beginning v) → a.heard ≡ noop ++ noop → ⊥
heard_twice a twice = let size : 8 ≡ 16 = ap length (all_heard a ∙ twice) in omega (arith, size)

-- It heard a line, and its client sent none.
never_came : {v : Visit} (a : HasAttended (Some []) (Some []) Gone beginning v) → a.heard ≡ noop → ⊥
never_came a line = let size : 0 ≡ 8 = ap length (all_heard a ∙ line) in omega (arith, size)

-- It heard the second line before the first.
other_order : {v : Visit} (a : HasAttended (Some (codes "a NOOP\r\nb NOOP\r\n")) (Some []) Gone beginning v) → a.heard ≡ codes "b NOOP\r\na NOOP\r\n" → ⊥
other_order a turned = let byte : 97 ≡ 98 = ap first_of (all_heard a ∙ turned) in omega (arith, byte)

-- The whole line came, and the server waits for more of it.
waits_for_more : {v : Visit} (l : HasLived ByHistory beginning noop [] v) → l.dialogue.begun ≡ noop → ⊥
waits_for_more l begun = l.stands.uncut (codes "a NOOP", [], begun)

-- The visit goes on, and a line that was heard is lost.
lost_and_goes_on : {heard : List ℕ} {told : List Told} {v : Visit} (l : HasLived ByHistory beginning heard told v) → heard ≡ noop → is_over v ≡ false → l.answered ≡ [] → ⊥
lost_and_goes_on l line going none = l.stands.uncut (codes "a NOOP", [], begun)
  where
    begun : l.dialogue.begun ≡ noop
    begun =
        sym (sym line ∙ l.all ∙ ap (λ (x : List ℕ). (l.answered ++ l.dialogue.begun) ++ x) (l.none_lost going) ∙ append-nil (l.answered ++ l.dialogue.begun)
        ∙ ap (λ (x : List ℕ). x ++ l.dialogue.begun) none)

-- The house gave a copy a verdict that nobody had sent.
judged_unsent : {heard : List ℕ} {told : List Told} {v : Visit} (l : HasLived ByHistory beginning heard told v) → v.selection.history ≡ Judged first (Stored 7) 0 ∷ [] → ⊥
judged_unsent {v = v} l is = never (subst Legal is l.legal)
  where
    starts : (events : List house.Event) → IsLife 0 events → events ≡ Judged first (Stored 7) 0 ∷ [] → ⊥
    starts events fates.unused e = cc
    starts events (fates.under_way j) e = cc
    starts events (fates.judged j v) e = cc
    starts events (fates.withdrawn j) e = cc

    never : Legal (Judged first (Stored 7) 0 ∷ []) → ⊥
    never legal = starts _ (legal.lives 0) refl

-- The output failed, and the visit goes on.
failed_and_goes_on : {heard : List ℕ} {told : List Told} {v : Visit} (l : HasLived ByHistory beginning heard told v) → v.failed ≡ true → v.closed ≡ false → ⊥
failed_and_goes_on l failed goes = false≢true (sym (l.failed goes) ∙ failed)

-- ---- a client that says nothing, or NOOP

same_turn : (a b : Turn) → ◌≡◌ {A = Option Turn} (Some a) (Some b) → a ≡ b
same_turn a b e = cc

met_none : (old new : LockedStore) (events : List Event) → events ≡ [] → Met ByHistory old events new → new ≡ old
met_none old new [] none met = met
met_none old new (event ∷ events) none met = absurd cc

empty_front : (xs ys : List ℕ) → xs ++ ys ≡ [] → (xs ≡ []) × (ys ≡ [])
empty_front [] ys e = (refl, e)
empty_front (x ∷ xs) ys e = absurd cc

noop_turn : (answers : List StoreAnswer) (turn : Turn) → turn_of standing (codes "a NOOP") answers ≡ Some turn
    → (turn.standing ≡ standing) × (turn.events ≡ []) × (turn.bytes ≡ answer)
unfolding read digits
noop_turn [] turn e =
    subst (λ (t : Turn). (t.standing ≡ standing) × (t.events ≡ []) × (t.bytes ≡ answer))
    (same_turn (record { events = []; bytes = answer; after = afters.Go; standing = standing }) turn e) (refl, refl, refl)
noop_turn (one ∷ more) turn e = absurd cc

-- Either nothing was sent, and nothing is told, or NOOP, and the answer to that is.
abbrev pub Tells : (sent said : List ℕ) → Type 0
Tells sent said = ((sent ≡ []) × (said ≡ [])) ⊎ ((sent ≡ noop) × (said ≡ answer))

-- a turn by which nothing is done
record DoesNothing (happening : Happening) (sent : List ℕ) (turn : Turn) : Type 0 where
  stands : turn.standing ≡ standing
  nowhere : turn.events ≡ []
  tells : Tells sent (bytes_in (told_of standing happening turn.bytes))

one_more : (happening : Happening) (bytes : List ℕ) (turn : Turn) → IsTimely standing happening → IsSentFor happening bytes
    → ((line : List ℕ) → bytes ≡ line ++ crlf → line ≡ codes "a NOOP") → leads_to standing happening ≡ Some turn → DoesNothing happening bytes turn
one_more (Line line answers) bytes turn timely sends only e =
    let is = only line sends in
    let n = noop_turn answers turn (subst (λ (l : List ℕ). turn_of standing l answers ≡ Some turn) is e) in
    record { stands = n.0; nowhere = n.1; tells = inr (sends ∙ ap (λ (l : List ℕ). l ++ crlf) is, n.2) }
one_more LongLine bytes turn timely (line, long, uncut, is) only e = absurd (let size : length line ≡ 6 = ap length (only line is) in omega (arith, size, long))
one_more (Turned []) bytes turn timely sends only e =
    subst (DoesNothing (Turned []) bytes) (same_turn (nothing_more afters.Idle standing) turn e) (record { stands = refl; nowhere = refl; tells = inl (sends, refl) })
one_more (Turned (one ∷ more)) bytes turn timely sends only e = absurd cc
one_more (Literal kept literal) bytes turn timely sends only e = absurd (let some = timely.1 in let due : length literal ≤ 0 = timely.2 in omega (arith, some, due))
one_more (Heard verdict answers) bytes turn timely sends only e = absurd (none-some turn e)

-- what begins as NOOP does, and has a CRLF
noop_line : (line rest : List ℕ) → line ++ 13 ∷ 10 ∷ rest ≡ noop → line ≡ codes "a NOOP"
noop_line [] rest e = cc
noop_line (a ∷ []) rest e = cc
noop_line (a ∷ b ∷ []) rest e = cc
noop_line (a ∷ b ∷ c ∷ []) rest e = cc
noop_line (a ∷ b ∷ c ∷ d ∷ []) rest e = cc
noop_line (a ∷ b ∷ c ∷ d ∷ x ∷ []) rest e = cc
noop_line (a ∷ b ∷ c ∷ d ∷ x ∷ y ∷ []) rest e = cc
noop_line (a ∷ b ∷ c ∷ d ∷ x ∷ y ∷ z ∷ line) rest e = absurd (let size = sym (length-append line (13 ∷ 10 ∷ rest)) ∙ ap (λ (l : List ℕ). length (drop 7 l)) e in omega (arith, size))

pub first_line : (before bytes rest said line : List ℕ) → (before ++ bytes) ++ rest ≡ noop → Tells before said → bytes ≡ line ++ crlf → line ≡ codes "a NOOP"
first_line before bytes rest said line e (inl (none, silent)) is =
    noop_line line rest (sym (append_assoc line crlf rest) ∙ ap (λ (l : List ℕ). l ++ rest) (sym is) ∙ ap (λ (l : List ℕ). (l ++ bytes) ++ rest) (sym none) ∙ e)
first_line before bytes rest said line e (inr (all, answered)) is =
    absurd (let whole = sym (length-append (before ++ bytes) rest) ∙ ap length e in let both = length-append before bytes in let front = ap length all in
    let back = ap length is ∙ length-append line crlf in omega (arith, whole, both, front, back))

pub joins : (before bytes rest a b : List ℕ) → (before ++ bytes) ++ rest ≡ noop → Tells before a → Tells bytes b → Tells (before ++ bytes) (a ++ b)
joins before bytes rest a b e (inl (x, u)) (inl (y, v)) = inl (ap (λ (l : List ℕ). l ++ bytes) x ∙ y, ap (λ (l : List ℕ). l ++ b) u ∙ v)
joins before bytes rest a b e (inl (x, u)) (inr (y, v)) = inr (ap (λ (l : List ℕ). l ++ bytes) x ∙ y, ap (λ (l : List ℕ). l ++ b) u ∙ v)
joins before bytes rest a b e (inr (x, u)) (inl (y, v)) =
    inr (ap (λ (l : List ℕ). before ++ l) y ∙ append-nil before ∙ x, ap (λ (l : List ℕ). a ++ l) v ∙ append-nil a ∙ u)
joins before bytes rest a b e (inr (x, u)) (inr (y, v)) =
    absurd (let whole = sym (length-append (before ++ bytes) rest) ∙ ap length e in let both = length-append before bytes in let front = ap length x in
    let back = ap length y in omega (arith, whole, both, front, back))

-- a life in which nothing was sent, or NOOP
record Follows (now : Standing) (s : LockedStore) (sent : List ℕ) (told : List Told) : Type 0 where
  stands : now ≡ standing
  same : s ≡ outside []
  tells : Tells sent (flat_map bytes_in told)

-- a life in which the first bytes of NOOP were answered is such a one
follows : {sent : List ℕ} {told : List Told} {now : Standing} {s : LockedStore} (rest : List ℕ) → sent ++ rest ≡ noop
    → Lived ByHistory standing (outside []) sent told now s → Follows now s sent told
follows rest e comes = record { stands = refl; same = refl; tells = inl (refl, refl) }
follows rest e (turns {sent = before} {told = earlier} {now = now} {s = s} lives happening bytes turn next timely sends printed leads met) =
    let so_far = follows (bytes ++ rest) (sym (append_assoc before bytes rest) ∙ e) lives in
    let timely_there = subst (λ (n : Standing). IsTimely n happening) so_far.stands timely in
    let leads_there = subst (λ (n : Standing). leads_to n happening ≡ Some turn) so_far.stands leads in
    let one = one_more happening bytes turn timely_there sends (λ line is. first_line before bytes rest (flat_map bytes_in earlier) line e so_far.tells is) leads_there in
    let last : Told = told_of now happening turn.bytes in
    let tells = subst (λ (n : Standing). Tells bytes (bytes_in (told_of n happening turn.bytes))) (sym so_far.stands) one.tells in
    let all = flat_map-append bytes_in earlier (last ∷ []) ∙ ap (λ (l : List ℕ). flat_map bytes_in earlier ++ l) (append-nil (bytes_in last)) in record {
      stands = one.stands;
      same = met_none s next turn.events one.nowhere met ∙ so_far.same;
      tells = subst (Tells (before ++ bytes)) (sym all) (joins before bytes rest (flat_map bytes_in earlier) (bytes_in last) e so_far.tells tells);
    }

-- so it is where no more was heard
life_of : {heard : List ℕ} {told : List Told} {v : Visit} (l : HasLived ByHistory beginning heard told v) (rest : List ℕ) → heard ++ rest ≡ noop
    → Follows l.dialogue.standing v.selection l.answered told
life_of l rest e = follows ((l.dialogue.begun ++ l.lost) ++ rest) whole l.lives
  where
    whole : l.answered ++ ((l.dialogue.begun ++ l.lost) ++ rest) ≡ noop
    whole =
        sym (append_assoc l.answered (l.dialogue.begun ++ l.lost) rest)
        ∙ ap (λ (x : List ℕ). x ++ rest) (sym (append_assoc l.answered l.dialogue.begun l.lost) ∙ sym l.all) ∙ e

told_nothing : {heard : List ℕ} {told : List Told} {v : Visit} (l : HasLived ByHistory beginning heard told v) → heard ≡ [] → flat_map bytes_in told ≡ []
told_nothing {told = told} l none = by (life_of l noop (ap (λ (x : List ℕ). x ++ noop) none)).tells
  where
    unanswered : l.answered ≡ []
    unanswered = (empty_front l.answered l.dialogue.begun (empty_front (l.answered ++ l.dialogue.begun) l.lost (sym l.all ∙ none)).0).0

    by : Tells l.answered (flat_map bytes_in told) → flat_map bytes_in told ≡ []
    by (inl (nothing, silent)) = silent
    by (inr (all, answered)) = absurd (let size : 0 ≡ 8 = ap length (sym unanswered ∙ all) in omega (arith, size))

abbrev count_in : Option Entry → ℕ
count_in None = 0
count_in (Some here) = 1

-- in how many mailboxes a session is
abbrev box_of : LockedStore → ℕ
box_of store = count_in store.entered

-- It said nothing, and its session is in a mailbox then.
in_a_mailbox : {told : List Told} {v : Visit} (l : HasLived ByHistory beginning [] told v) → v.selection ≡ within [] 3 → ⊥
in_a_mailbox l there = let where_it_is : 1 ≡ 0 = ap box_of (sym there ∙ (life_of l noop refl).same) in omega (arith, where_it_is)

-- ---- what the output took

-- there is room where it stands at first, and it awaits no verdict
not_cut : (room : ℕ) (now : Standing) → now ≡ standing → room ≡ 10000 → IsCutShort room now → ⊥
not_cut room now same big cut = few (subst (IsCutShort room) same cut)
  where
    few : IsCutShort room standing → ⊥
    few (inl short) = omega (arith, short, big)
    few (inr (inl submits)) = let clash : afters.Go ≡ afters.Submit = submits in cc
    few (inr (inr idles)) = false≢true idles

is_closed : (closed over : Bool) → (closed || over) ≡ false → closed ≡ false
is_closed true over e = absurd (false≢true (sym e))
is_closed false over e = refl

is_open : (closed over : Bool) → (closed ≡ true → ⊥) → over ≡ false → (closed || over) ≡ false
is_open true over never e = absurd (never refl)
is_open false over never e = e

stops_or_not : (how : Parting) → (how ≡ Stopped) ⊎ (how ≢ Stopped)
stops_or_not Gone = inr (λ e. cc)
stops_or_not Broken = inr (λ e. cc)
stops_or_not Over = inr (λ e. cc)
stops_or_not Stopped = inl refl

module _ {before after : Option (List ℕ)} {how : Parting} (text : List ℕ) (a : HasAttended before after how beginning (ended text)) where
  -- where its session stands as at first, it went on till it ended
  went_on : a.lived.dialogue.standing ≡ standing → is_over a.last ≡ false
  went_on same = by (is_over a.last) refl
    where
      closes : IsQuiet a.last (ended text) → (a.last.failed ≡ true) ⊎ IsCutShort a.last.room a.lived.dialogue.standing → ⊥
      closes q (inl fails) = false≢true (q.failed ∙ fails)
      closes q (inr cut) = not_cut a.last.room a.lived.dialogue.standing same (sym q.room) cut

      goes_on : IsQuiet a.last (ended text) → is_over a.last ≡ false
      goes_on q =
          is_open a.last.closed a.last.link.session.ended (λ c. closes q (a.lived.why c)) (ap (λ (s : Standing). s.ended) (a.lived.stands.session ∙ same))

      by : (b : Bool) → is_over a.last ≡ b → is_over a.last ≡ false
      by true over = goes_on (a.ends.quiet (inr over))
      by false on = on

  -- its output has all that was said
  said_alone : IsQuiet a.last (ended text) → text ≡ said_in Standard a.told
  said_alone q = subst (λ (t : Option (List ℕ)). Appends (Some []) t (said_in Standard a.told)) (sym q.taken) (a.lived.took_all (sym q.failed))

  -- with the farewell behind it
  dismissed : how ≡ Stopped → is_over a.last ≡ false → text ≡ said_in Standard a.told ++ farewell
  dismissed stops on = by (a.ends.told stops on)
    where
      by : (Appends a.last.taken (Some text) farewell × (false ≡ false)) ⊎ SendsFirst a.last farewell (ended text) → text ≡ said_in Standard a.told ++ farewell
      by (inl (took, live)) =
          let said = a.lived.took_all (a.lived.failed (is_closed a.last.closed a.last.link.session.ended on)) in
          Appends-trans (Some []) a.last.taken (Some text) (said_in Standard a.told) farewell said took
      by (inr cut) = absurd (false≢true cut.failed)

  all_said : (text ≡ said_in Standard a.told) ⊎ (text ≡ said_in Standard a.told ++ farewell)
  all_said = by (stops_or_not how)
    where
      by_over : how ≡ Stopped → (b : Bool) → is_over a.last ≡ b → (text ≡ said_in Standard a.told) ⊎ (text ≡ said_in Standard a.told ++ farewell)
      by_over stops true over = inl (said_alone (a.ends.quiet (inr over)))
      by_over stops false on = inr (dismissed stops on)

      by : (how ≡ Stopped) ⊎ (how ≢ Stopped) → (text ≡ said_in Standard a.told) ⊎ (text ≡ said_in Standard a.told ++ farewell)
      by (inl stops) = by_over stops (is_over a.last) refl
      by (inr other) = inl (said_alone (a.ends.quiet (inl other)))

  life : a.heard ≡ [] → Follows a.lived.dialogue.standing a.last.selection a.lived.answered a.told
  life none = life_of a.lived noop (ap (λ (l : List ℕ). l ++ noop) none)

  was_greeted : a.heard ≡ [] → said_in Standard a.told ≡ hello
  was_greeted none = ap (λ (l : List ℕ). hello ++ l) (told_nothing a.lived none)

nothing_came : {how : Parting} {v : Visit} (a : HasAttended (Some []) (Some []) how beginning v) → a.heard ≡ []
nothing_came a = (empty_front a.heard a.dropped (sym (a.came ∙ append-nil (a.heard ++ a.dropped)))).0

-- Who said nothing, and went, was greeted, and told nothing else.
told_hello : (text : List ℕ) → HasAttended (Some []) (Some []) Gone beginning (ended text) → text ≡ hello
told_hello text a = said_alone text a (a.ends.quiet (inl isnt_stopped)) ∙ was_greeted text a (nothing_came a)

-- It said nothing, and is told of messages.
told_unasked : HasAttended (Some []) (Some []) Gone beginning (ended (hello ++ codes "* 5 EXISTS\r\n")) → ⊥
told_unasked a = let size : 46 ≡ 34 = ap length (told_hello _ a) in omega (arith, size)

-- It said nothing, and is greeted twice.
greeted_twice : HasAttended (Some []) (Some []) Gone beginning (ended (hello ++ hello)) → ⊥
greeted_twice a = let size : 68 ≡ 34 = ap length (told_hello _ a) in omega (arith, size)

-- It went, and is told that the server stops.
told_behind_the_end : HasAttended (Some []) (Some []) Gone beginning (ended (hello ++ farewell)) → ⊥
told_behind_the_end a = let size : 55 ≡ 34 = ap length (told_hello _ a) in omega (arith, size)

-- Its output didn't fail, and has but the first bytes of the greeting.
cut_by_choice : HasAttended (Some []) (Some []) Gone beginning (ended (take 5 hello)) → ⊥
cut_by_choice a = let size : 5 ≡ 34 = ap length (told_hello _ a) in omega (arith, size)

-- Its output didn't fail, and the greeting is missing.
ungreeted : HasAttended (Some []) (Some []) Gone beginning (ended []) → ⊥
ungreeted a = let size : 0 ≡ 34 = ap length (told_hello _ a) in omega (arith, size)

-- It isn't greeted, and the answer to its line is the first that it is told.
not_greeted : {before after : Option (List ℕ)} {how : Parting} → HasAttended before after how beginning (ended answer) → ⊥
not_greeted a = by (all_said answer a)
  where
    by : (answer ≡ said_in Standard a.told) ⊎ (answer ≡ said_in Standard a.told ++ farewell) → ⊥
    by (inl said) = let byte : 97 ≡ 42 = ap first_of said in omega (arith, byte)
    by (inr said) = let byte : 97 ≡ 42 = ap first_of said in omega (arith, byte)

-- Who said nothing as the server stopped was greeted, and told that.
told_farewell : (text : List ℕ) → HasAttended (Some []) (Some []) Stopped beginning (ended text) → text ≡ hello ++ farewell
told_farewell text a =
    let none = nothing_came a in
    dismissed text a refl (went_on text a (life text a none).stands) ∙ ap (λ (l : List ℕ). l ++ farewell) (was_greeted text a none)

-- The server stops, and says nothing.
untold : HasAttended (Some []) (Some []) Stopped beginning (ended hello) → ⊥
untold a = let size : 34 ≡ 55 = ap length (told_farewell _ a) in omega (arith, size)

-- It stops, and says but the first word, though the output takes all.
cut : HasAttended (Some []) (Some []) Stopped beginning (ended (hello ++ codes "* BYE ")) → ⊥
cut a = let size : 40 ≡ 55 = ap length (told_farewell _ a) in omega (arith, size)

-- It stops, and says so in other words.
other_words : HasAttended (Some []) (Some []) Stopped beginning (ended (hello ++ codes "* BYE Have a good day\r\n")) → ⊥
other_words a = let byte : 72 ≡ 83 = ap (λ (l : List ℕ). first_of (drop 40 l)) (told_farewell _ a) in omega (arith, byte)

-- It stops, and says so twice.
dismissed_twice : HasAttended (Some []) (Some []) Stopped beginning (ended (hello ++ (farewell ++ farewell))) → ⊥
dismissed_twice a = let size : 76 ≡ 55 = ap length (told_farewell _ a) in omega (arith, size)

-- ---- how it ended

-- The server ends the visit as one that takes nothing more, and it takes more.
over_too_soon : HasAttended (Some []) (Some []) Over beginning (ended hello) → ⊥
over_too_soon a = false≢true (sym (a.ends.takes_none refl) ∙ takes)
  where
    same : a.lived.dialogue.standing ≡ standing
    same = (life hello a (nothing_came a)).stands

    takes : takes_bytes a.last ≡ true
    takes =
        ap (λ (b : Bool). may_follow (if b then afters.Bye else may_send a.last.link.session)) (is_closed a.last.closed a.last.link.session.ended (went_on hello a same))
        ∙ ap (λ (s : Standing). may_follow (may_send s)) (a.lived.stands.session ∙ same)

-- Nobody attends the client any more, and its visit goes on.
goes_on : {before after : Option (List ℕ)} {how : Parting} {v : Visit} → HasAttended before after how beginning v → v.closed ≡ false → ⊥
goes_on a still_open = false≢true (sym still_open ∙ a.ends.closed)

-- ---- a client that says NOOP

-- Who said NOOP, and went, has its answer.
told_answer : (text : List ℕ) → HasAttended (Some noop) (Some []) Gone beginning (ended text) → text ≡ hello ++ answer
told_answer text a = said_alone text a (a.ends.quiet (inl isnt_stopped)) ∙ ap (λ (l : List ℕ). hello ++ l) (by follow.tells)
  where
    follow : Follows a.lived.dialogue.standing a.last.selection a.lived.answered a.told
    follow = life_of a.lived [] (append-nil a.heard ∙ sym (all_heard a))

    by : Tells a.lived.answered (flat_map bytes_in a.told) → flat_map bytes_in a.told ≡ answer
    by (inl (none, silent)) = absurd (lost_and_goes_on a.lived (sym (all_heard a)) (went_on text a follow.stands) none)
    by (inr (all, answered)) = answered

-- It isn't answered.
all_lost : HasAttended (Some noop) (Some []) Gone beginning (ended hello) → ⊥
all_lost a = let size : 34 ≡ 55 = ap length (told_answer _ a) in omega (arith, size)

-- It is told that it may not.
refused : HasAttended (Some noop) (Some []) Gone beginning (ended (hello ++ codes "a NO Not now\r\n")) → ⊥
refused a = let size : 48 ≡ 55 = ap length (told_answer _ a) in omega (arith, size)

-- It is told under another tag.
another_tag : HasAttended (Some noop) (Some []) Gone beginning (ended (hello ++ codes "b OK NOOP completed\r\n")) → ⊥
another_tag a = let byte : 98 ≡ 97 = ap (λ (l : List ℕ). first_of (drop 34 l)) (told_answer _ a) in omega (arith, byte)

-- It was answered, and its output has the answer twice.
answered_twice : HasAttended (Some noop) (Some []) Gone beginning (ended (hello ++ (answer ++ answer))) → ⊥
answered_twice a = let size : 76 ≡ 55 = ap length (told_answer _ a) in omega (arith, size)

-- Its session is in a mailbox then: no call did that.
enters_by_noop : {told : List Told} {v : Visit} (l : HasLived ByHistory beginning noop told v) → v.selection ≡ within [] 3 → ⊥
enters_by_noop l there = let where_it_is : 1 ≡ 0 = ap box_of (sym there ∙ (life_of l [] refl).same) in omega (arith, where_it_is)

-- It isn't answered, and the visit goes on: the line was taken as bytes of a literal that nobody announced.
swallowed : {told : List Told} {v : Visit} (l : HasLived ByHistory beginning noop told v) → is_over v ≡ false → flat_map bytes_in told ≡ [] → ⊥
swallowed {told} l going nothing = by (life_of l [] refl).tells
  where
    by : Tells l.answered (flat_map bytes_in told) → ⊥
    by (inl (none, silent)) = lost_and_goes_on l refl going none
    by (inr (all, answered)) = let size : 0 ≡ 21 = ap length (sym nothing ∙ answered) in omega (arith, size)

-- ---- a client that is told one thing

none_told : {sent : List ℕ} {told : List Told} {now : Standing} {s : LockedStore} → Lived ByHistory standing (outside []) sent told now s → told ≡ []
    → (sent ≡ []) × (now ≡ standing) × (s ≡ outside [])
none_told comes none = (refl, refl, refl)
none_told (turns {told = earlier} {now = now} lives happening bytes turn next timely sends printed e met) none =
    absurd (let size = sym (length-append earlier (told_of now happening turn.bytes ∷ [])) ∙ ap length none in omega (arith, size))

-- the one turn of a life
record OneTurn (one : Told) (sent : List ℕ) (now : Standing) (s : LockedStore) : Type 0 where
  happening : Happening
  turn : Turn
  timely : IsTimely standing happening
  sends : IsSentFor happening sent
  goes : leads_to standing happening ≡ Some turn
  met : Met ByHistory (outside []) turn.events s
  tells : told_of standing happening turn.bytes ≡ one
  stands : now ≡ turn.standing

last_one : (earlier : List Told) (last one : Told) → earlier ++ last ∷ [] ≡ one ∷ [] → (earlier ≡ []) × (last ≡ one)
last_one [] last one e = (refl, cc)
last_one (other ∷ earlier) last one e = absurd (let size = sym (length-append earlier (last ∷ [])) ∙ ap (λ (l : List Told). length (drop 1 l)) e in omega (arith, size))

one_turn : {sent : List ℕ} {told : List Told} {now : Standing} {s : LockedStore} (one : Told) → Lived ByHistory standing (outside []) sent told now s → told ≡ one ∷ []
    → OneTurn one sent now s
one_turn one comes is = absurd cc
one_turn one (turns {sent = before} {told = earlier} {now = n} {s = x} lives happening bytes turn next timely sends printed e met) is =
    let last = last_one earlier (told_of n happening turn.bytes) one is in
    let none = none_told lives last.0 in record {
      happening = happening;
      turn = turn;
      timely = subst (λ (m : Standing). IsTimely m happening) none.1 timely;
      sends = subst (λ (l : List ℕ). IsSentFor happening (l ++ bytes)) (sym none.0) sends;
      goes = subst (λ (m : Standing). leads_to m happening ≡ Some turn) none.1 e;
      met = subst (λ (o : LockedStore). Met ByHistory o turn.events next) none.2 met;
      tells = subst (λ (m : Standing). told_of m happening turn.bytes ≡ one) none.1 last.1;
      stands = refl;
    }

abbrev line_in : Told → List ℕ
line_in (Answer line bytes) = line
line_in (Words bytes) = []

-- It sent two lines, and they are answered as one.
as_one : {v : Visit} (bytes : List ℕ) → HasLived ByHistory beginning (codes "a NOOP\r\nb NOOP\r\n") (Answer (codes "a NOOP\r\nb NOOP") bytes ∷ []) v → ⊥
as_one {v} bytes l = by t.happening t.timely t.tells
  where
    t : OneTurn (Answer (codes "a NOOP\r\nb NOOP") bytes) l.answered l.dialogue.standing v.selection
    t = one_turn (Answer (codes "a NOOP\r\nb NOOP") bytes) l.lives refl

    by : (happening : Happening) → IsTimely standing happening → told_of standing happening t.turn.bytes ≡ Answer (codes "a NOOP\r\nb NOOP") bytes → ⊥
    by (Line line answers) timely tells = timely.3 (codes "a NOOP", codes "b NOOP", ap line_in tells)
    by LongLine timely tells = absurd cc
    by (Turned answers) timely tells = absurd cc
    by (Literal kept literal) timely tells = absurd cc
    by (Heard verdict answers) timely tells = absurd cc

-- ---- a client that says LOGOUT

abbrev told_logout : List ℕ → Told
told_logout bytes = Answer (codes "a LOGOUT") bytes

logout_turn : (answers : List StoreAnswer) (turn : Turn) → turn_of standing (codes "a LOGOUT") answers ≡ Some turn → turn.standing.ended ≡ true
unfolding read digits
logout_turn [] turn e = sym (ap ends_by e)
  where
    ends_by : Option Turn → Bool
    ends_by None = true
    ends_by (Some turn) = turn.standing.ended
logout_turn (one ∷ more) turn e = absurd cc

logout_told : (bytes : List ℕ) {sent : List ℕ} {now : Standing} {s : LockedStore} → OneTurn (told_logout bytes) sent now s → now.ended ≡ true
logout_told bytes t = ap (λ (n : Standing). n.ended) t.stands ∙ by t.happening t.goes t.tells
  where
    by : (happening : Happening) → leads_to standing happening ≡ Some t.turn → told_of standing happening t.turn.bytes ≡ told_logout bytes → t.turn.standing.ended ≡ true
    by (Line line answers) goes tells = logout_turn answers t.turn (subst (λ (l : List ℕ). turn_of standing l answers ≡ Some t.turn) (ap line_in tells) goes)
    by LongLine goes tells = absurd cc
    by (Turned answers) goes tells = absurd cc
    by (Literal kept literal) goes tells = absurd cc
    by (Heard verdict answers) goes tells = absurd cc

last_two : (earlier : List Told) (last one two : Told) → earlier ++ last ∷ [] ≡ one ∷ two ∷ [] → (earlier ≡ one ∷ []) × (last ≡ two)
last_two [] last one two e = absurd (let size : 1 ≡ 2 = ap (λ (l : List Told). length l) e in omega (arith, size))
last_two (first ∷ earlier) last one two e = let l = last_one earlier last two (ap (drop 1) e) in let none = l.0 in (cc, l.1)

-- It is answered behind LOGOUT.
behind_logout : (bytes more : List ℕ) {heard : List ℕ} {v : Visit} → HasLived ByHistory beginning heard (told_logout bytes ∷ Answer (codes "b NOOP") more ∷ []) v → ⊥
behind_logout bytes more l = by l.lives refl
  where
    comes_late : (now : Standing) (happening : Happening) (said : List ℕ) → now.ended ≡ true → IsTimely now happening
        → told_of now happening said ≡ Answer (codes "b NOOP") more → ⊥
    comes_late now (Line line answers) said left timely tells = false≢true (sym timely.0 ∙ left)
    comes_late now LongLine said left timely tells = cc
    comes_late now (Turned answers) said left timely tells = cc
    comes_late now (Literal kept literal) said left timely tells = cc
    comes_late now (Heard verdict answers) said left timely tells = cc

    by : {sent : List ℕ} {told : List Told} {now : Standing} {s : LockedStore} → Lived ByHistory standing (outside []) sent told now s
        → told ≡ told_logout bytes ∷ Answer (codes "b NOOP") more ∷ [] → ⊥
    by comes is = cc
    by (turns {told = earlier} {now = now} lives happening b turn next timely sends printed e met) is =
        let two = last_two earlier (told_of now happening turn.bytes) (told_logout bytes) (Answer (codes "b NOOP") more) is in
        comes_late now happening turn.bytes (logout_told bytes (one_turn (told_logout bytes) lives two.0)) timely two.1

-- The server stops behind LOGOUT, and says so to a client that it has dismissed.
told_when_over : {before after : Option (List ℕ)} (bytes : List ℕ) (a : HasAttended before after Stopped beginning (ended ((hello ++ bytes) ++ farewell)))
    → a.told ≡ told_logout bytes ∷ [] → ⊥
told_when_over bytes a told =
    let left = logout_told bytes (one_turn (told_logout bytes) a.lived.lives told) in
    let over = is_ended a.last.closed a.last.link.session.ended (ap (λ (s : Standing). s.ended) a.lived.stands.session ∙ left) in
    let said = said_alone _ a (a.ends.quiet (inr over)) ∙ ap (said_in Standard) told ∙ ap (λ (l : List ℕ). hello ++ l) (append-nil bytes) in
    let size = sym (length-append (hello ++ bytes) farewell) ∙ ap length said in omega (arith, size)
  where
    is_ended : (closed over : Bool) → over ≡ true → (closed || over) ≡ true
    is_ended true over e = refl
    is_ended false over e = e
