-- The life of a visit, call by call.
use Rattle.std.proofs.Common.{◌≡◌, ◌≢◌, ◌⊎◌, inl, inr, ℕ, suc, ◌+◌, Bool, true, false, ◌&&◌, ◌||◌, not, List, [], ◌∷◌, ◌++◌, length, take, drop, refl, sym, subst, ap, ◌∙◌, arith, append-nil, append_assoc, Option, Some, None, is_some}
use Rattle.std.specs.Prelude.{Err, Ok, OnErr, OnOk, Result, flat_map}
use Rattle.std.specs.Io.KnownBytes.{Appends}
use Rattle.std.proofs.KnownBytes.{Appends-nil, Appends-trans}
use Rattle.std.proofs.Math.Seq.{drop-length, take-add, take-length}
use Rattle.std.proofs.lemmas.Grind.{flat_map-append}
use Rattle.std.proofs.lemmas.List.{take-append-drop}
use Rattle.line_io.specs.Wire.{crlf}
use Rattle.change_ring.specs.declared.change.Change.{Change}
use Rattle.delivery_token.specs.declared.Verdict.{Verdict}
use Rattle.delivery_token.specs.declared.Verdict.TheVariants.{Stored, Refused as Declined}
use Rattle.house_history.specs.Legal.{HasUid, Legal}
use Rattle.workers_sync.specs.Carried.{Carried}
use Rattle.workers_sync.specs.declared.courier.Lost.{Lost}
use Rattle.imap_session.specs.declared.standing.After.{After}
use Rattle.imap_session.specs.declared.standing.Profile.{Profile}
use Rattle.imap_session.specs.Exchange.{Admission, Folder, Call, Answer, Enter, Look, Read, Count, Alter, Expunge, Feed, Leave, Entered, Looked, Found, Counted, Altered, Expunged, Fed, Left, Refused, Starved, Event, Standing, Turn, may_send, nothing_more, begun_with, Discard, Discarded}
use Rattle.imap_session.specs.Commands.{greeting, turn_of_long_line, with_bytes, says}
use Rattle.imap_session.specs.Store.{Met}
use Rattle.imap_session.specs.Dialogue as dialogue
use Rattle.imap_session.specs.Dialogue.{Answered, AnswersOne, Converses, Dialogue, Sends, StandsFor, spelled}
use Rattle.imap_session.specs.Happenings as talk
use Rattle.imap_session.specs.Happenings.{Happening, IsPrinted, IsSentFor, IsTimely, Lived, Told, VerdictsArePrinted, bytes_in, comes, leads_to, told_line, told_of, turns}
use Rattle.session_thread.specs.ByHistory.{ByHistory, WasShown, WasShownIn, shown_since, shown_then}
use Rattle.session_thread.specs.Locks.{Holds, LockedStore}
use Rattle.session_thread.specs.Life as life
use Rattle.session_thread.specs.Life.{Departs, HasShown, HasTurn, IsForgotten, Moment, Says, SaysFirst, SaysInPart, Speaks, TellsVerdict, moment}
use Rattle.session_thread.proofs.ByHistory.{holds_are_by_history, never, refused}
use Rattle.session_thread.proofs.SinceSelect.{by_call, since_select}
use Rattle.imap_stream.specs.declared.client_slot.Parting.{Parting}
use Rattle.imap_stream.specs.declared.client_slot.Parting.TheVariants.{Broken, Gone, Over, Stopped}
use Rattle.imap_stream.specs.Visits.{GoesOnShowing, Hears, HearsInPart, IsGreeted, LeadsTo, SendsAll, SendsFirst, ShowsAll, ShowsInPart, Tells, Visit, farewell, is_over, takes_bytes, Beginning, EndsSo, HasAttended, HasLived, IsCutShort, IsQuiet, said_in}
use Rattle.imap_stream.specs.Visits as visit
use Rattle.imap_stream.specs.Attending.{Attended, Calls, Ends, HasCalled, HasParted, IsDismissed, no_call, one_more}
use Rattle.imap_stream.specs.Attending as visits
use Rattle.imap_stream.specs.inner.Attending.{HearsOut}

-- ---- legal histories

legal_entered : (old new : LockedStore) (call : Call) (opening : _) → Holds old call (Entered opening) new → Legal new.history
legal_entered old new (Enter m) opening h = h.2.1.3.legal
legal_entered old new _ opening h = absurd h

legal_looked : (old new : LockedStore) (call : Call) (view : List ℕ) → Legal old.history → Holds old call (Looked view) new → Legal new.history
legal_looked old new (Look by_uid set) view legal h = subst (λ (p : LockedStore). Legal p.history) (sym h.0) legal
legal_looked old new _ view legal h = absurd h

legal_found : (old new : LockedStore) (call : Call) (row : _) → Holds old call (Found row) new → Legal new.history
legal_found old new (Read uid mark) row h = h.1.2.3.legal
legal_found old new _ row h = absurd h

legal_counted : (old new : LockedStore) (call : Call) (status : _) → Holds old call (Counted status) new → Legal new.history
legal_counted old new (Count m) status h = h.2.3.legal
legal_counted old new _ status h = absurd h

legal_altered : (old new : LockedStore) (call : Call) (flags : _) → Holds old call (Altered flags) new → Legal new.history
legal_altered old new (Alter uid op) flags h = h.1.2.3.legal
legal_altered old new _ flags h = absurd h

legal_expunged : (old new : LockedStore) (call : Call) (view : List ℕ) (changes : _) (gone : ℕ) → Holds old call (Expunged view changes gone) new → Legal new.history
legal_expunged old new (Expunge uids) view changes gone (here, there, (next, (found, left, does, k), is)) = k.legal
legal_expunged old new _ view changes gone h = absurd h

legal_fed : (old new : LockedStore) (call : Call) (view : List ℕ) (changes : _) → Holds old call (Fed view changes) new → Legal new.history
legal_fed old new (Feed limit) view changes (here, there, (next, (found, left, does, k), is)) = k.legal
legal_fed old new _ view changes h = absurd h

legal_left : (old new : LockedStore) (call : Call) (gone : ℕ) → Holds old call (Left gone) new → Legal new.history
legal_left old new (Leave remove) gone ((here, there, (found, left, does, k)), is) = k.legal
legal_left old new _ gone h = absurd h

legal_discarded : (old new : LockedStore) (call : Call) → Holds old call Discarded new → Legal new.history
legal_discarded old new (Discard m uids) h = h.2.3.legal
legal_discarded old new _ h = absurd h

legal_call : (old new : LockedStore) (call : Call) (answer : Answer) → Legal old.history → Holds old call answer new → Legal new.history
legal_call old new call (Entered opening) legal h = legal_entered old new call opening h
legal_call old new call (Looked view) legal h = legal_looked old new call view legal h
legal_call old new call (Found row) legal h = legal_found old new call row h
legal_call old new call (Counted status) legal h = legal_counted old new call status h
legal_call old new call (Altered flags) legal h = legal_altered old new call flags h
legal_call old new call (Expunged view changes gone) legal h = legal_expunged old new call view changes gone h
legal_call old new call (Fed view changes) legal h = legal_fed old new call view changes h
legal_call old new call (Left gone) legal h = legal_left old new call gone h
legal_call old new call Discarded legal h = legal_discarded old new call h
legal_call old new call (Refused fault) legal h = subst (λ (p : LockedStore). Legal p.history) (sym (refused old new call fault h)) legal
legal_call old new call (Starved n) legal h = absurd (never old new call n h)

legal_met : (old new : LockedStore) (events : List Event) → Legal old.history → Met Holds old events new → Legal new.history
legal_met old new [] legal met = subst (λ (p : LockedStore). Legal p.history) (sym met) legal
legal_met old new (event ∷ events) legal (mid, one, more) = legal_met mid new events (legal_call old mid event.call event.answer legal one) more

legal_lives : (first : Standing) (began : LockedStore) {sent : List ℕ} {told : List Told} {now : Standing} {selection : LockedStore} → Legal began.history → Lived Holds first began sent told now selection → Legal selection.history
legal_lives first began legal comes = legal
legal_lives first began legal (turns {s = selection} lives happening bytes turn next may sent printed e met) = legal_met selection next turn.events (legal_lives first began legal lives) met

-- ---- lives that follow one another

lives_on : (first : Standing) (began : LockedStore) {sent : List ℕ} {told : List Told} {now : Standing} {selection : LockedStore} {more : List ℕ} {further : List Told} {next : Standing} {later : LockedStore}
    → Lived Holds first began sent told now selection → Lived Holds now selection more further next later → Lived Holds first began (sent ++ more) (told ++ further) next later
lives_on first began {sent} {told} {now} {selection} one comes =
    subst (λ (s : List ℕ). Lived Holds first began s (told ++ []) now selection) (sym (append-nil sent))
    (subst (λ (t : List Told). Lived Holds first began sent t now selection) (sym (append-nil told)) one)
lives_on first began {sent} {told} {now} {selection} one (turns {sent = s} {told = t} {now = n} {s = x} lives happening bytes turn new may sends printed e met) =
    let last : Told = told_of n happening turn.bytes in
    subst (λ (bs : List ℕ). Lived Holds first began bs (told ++ (t ++ last ∷ [])) turn.standing new) (append_assoc sent s bytes)
    (subst (λ (ts : List Told). Lived Holds first began ((sent ++ s) ++ bytes) ts turn.standing new) (append_assoc told t (last ∷ []))
    (turns (lives_on first began one lives) happening bytes turn new may sends printed e met))

-- These bytes were answered, and this was said.
record Went (now : Standing) (old : LockedStore) (sent said : List ℕ) (next : Standing) (new : LockedStore) : Type 0 where
  told : List Told
  lives : Lived Holds now old sent told next new
  wrote : said ≡ flat_map bytes_in told

went_none : (now : Standing) (old : LockedStore) → Went now old [] [] now old
went_none now old = record { told = []; lives = comes; wrote = refl }

went_both : (a b c : Standing) (x y z : LockedStore) (sent more said further : List ℕ) → Went a x sent said b y → Went b y more further c z → Went a x (sent ++ more) (said ++ further) c z
went_both a b c x y z sent more said further f g = record {
  told = f.told ++ g.told;
  lives = lives_on a x f.lives g.lives;
  wrote = ap (λ (l : List ℕ). l ++ further) f.wrote ∙ ap (λ (l : List ℕ). flat_map bytes_in f.told ++ l) g.wrote ∙ sym (flat_map-append bytes_in f.told g.told);
}

line_bytes : (whole : Option (List ℕ)) (bytes : List ℕ) → bytes_in (told_line whole bytes) ≡ bytes
line_bytes None bytes = refl
line_bytes (Some line) bytes = refl

told_bytes : (now : Standing) (happening : Happening) (bytes : List ℕ) → bytes_in (told_of now happening bytes) ≡ bytes
told_bytes now (talk.Line line answers) bytes = line_bytes _ bytes
told_bytes now talk.LongLine bytes = refl
told_bytes now (talk.Turned answers) bytes = refl
told_bytes now (talk.Literal kept literal) bytes = refl
told_bytes now (talk.Heard verdict answers) bytes = refl

went_turn : (now : Standing) (old : LockedStore) (happening : Happening) (bytes : List ℕ) (turn : Turn) (new : LockedStore) (said : List ℕ) (next : Standing) → IsTimely now happening → IsSentFor happening bytes → VerdictsArePrinted happening
    → leads_to now happening ≡ Some turn → Met Holds old turn.events new → said ≡ turn.bytes → next ≡ turn.standing → Went now old bytes said next new
went_turn now old happening bytes turn new said next may sends printed e met wrote is = record {
  told = told_of now happening turn.bytes ∷ [];
  lives = subst (λ (s : Standing). Lived Holds now old bytes (told_of now happening turn.bytes ∷ []) s new) (sym is) (turns comes happening bytes turn new may sends printed e met);
  wrote = wrote ∙ sym (told_bytes now happening turn.bytes) ∙ sym (append-nil (bytes_in (told_of now happening turn.bytes)));
}

-- ---- what a client sends

one_went : (now next : Standing) (one : Sends) (old new : LockedStore) (said : List ℕ) (how : After) → AnswersOne Holds now one old new [] said how next → Went now old (spelled one) said next new
one_went now next (dialogue.Line line) old new said how (goes, due, dialogue.reads short a, uncut) =
    went_turn now old (talk.Line line a.answers) (line ++ crlf) (record { events = a.events; bytes = a.bytes; after = how; standing = next }) new said next (goes, due, short, uncut) refl tt a.played a.met a.wrote refl
one_went now next (dialogue.Line line) old new said how (goes, due, dialogue.too_long long same wrote after is, uncut) =
    went_turn now old talk.LongLine (line ++ crlf) (turn_of_long_line now) new said next (goes, due) (line, long, uncut, refl) tt refl same wrote is
one_went now next (dialogue.Bytes bytes) old new said how t =
    let kept : Bool = t.takes.0 in
    let after : Standing = with_bytes kept bytes now in
    went_turn now old (talk.Literal kept bytes) bytes (nothing_more (may_send after) after) new said next (t.goes, t.some, t.due, t.takes.2) refl tt refl t.unasked t.silent t.takes.1

converses_went : {now next : Standing} {sends : List Sends} {old new : LockedStore} {said : List ℕ} {how : After} → Converses Holds now sends old new said how next → Went now old (flat_map spelled sends) said next new
converses_went (dialogue.silent now old) = went_none now old
converses_went (dialogue.parts now next one old new said how ends answers) =
    subst (λ (s : List ℕ). Went now old s said next new) (sym (append-nil (spelled one))) (one_went now next one old new said how answers)
converses_went (dialogue.goes_on now between next one others old mid new first second how goes answers rest) =
    went_both now between next old mid new (spelled one) (flat_map spelled others) first second (one_went now between one old mid first _ answers) (converses_went rest)

-- ---- what happens besides

printed_uid : (verdict : Verdict) → HasUid verdict → IsPrinted verdict
printed_uid (Stored uid) fits = omega (arith, fits)
printed_uid (Declined why) fits = tt

verdict_went : (one : Carried) (before after : Moment) (t : TellsVerdict one before after) → Went before.dialogue.standing before.selection [] t.answered.bytes after.dialogue.standing after.selection
verdict_went one before after t =
    let a = t.answered in
    went_turn before.dialogue.standing before.selection (talk.Heard one.verdict a.answers) [] (record { events = a.events; bytes = a.bytes; after = t.how; standing = after.dialogue.standing }) after.selection a.bytes after.dialogue.standing tt refl
    (printed_uid one.verdict t.uid) a.played a.met refl refl

turn_went : (before after : Moment) (t : HasTurn before after) → Went before.dialogue.standing before.selection [] t.turned.bytes after.dialogue.standing after.selection
turn_went before after t =
    let a = t.turned in
    went_turn before.dialogue.standing before.selection (talk.Turned a.answers) [] (record { events = a.events; bytes = a.bytes; after = a.how; standing = after.dialogue.standing }) after.selection a.bytes after.dialogue.standing tt refl tt a.played a.met refl refl

-- ---- from one moment to another

-- So many of these bytes were used, of which some were answered, and the others have begun a line with what had begun before.
record Goes (bytes : List ℕ) (used : ℕ) (before after : Moment) : Type 0 where
  sent : List ℕ
  said : List ℕ
  went : Went before.dialogue.standing before.selection sent said after.dialogue.standing after.selection
  whole : before.dialogue.begun ++ take used bytes ≡ sent ++ after.dialogue.begun
  text : after.text ≡ before.text ++ said

goes_still : (bytes : List ℕ) (now : Moment) → Goes bytes 0 now now
goes_still bytes now = record {
  sent = [];
  said = [];
  went = went_none now.dialogue.standing now.selection;
  whole = append-nil now.dialogue.begun;
  text = sym (append-nil now.text);
}

-- what is said and written further on
text_on : (a b c said further : List ℕ) → b ≡ a ++ said → c ≡ b ++ further → c ≡ a ++ (said ++ further)
text_on a b c said further one two = two ∙ ap (λ (l : List ℕ). l ++ further) one ∙ append_assoc a said further

goes_first : (bytes : List ℕ) (used more : ℕ) (first now next : Moment) → Goes bytes used first now → SaysFirst (drop used bytes) more now next → Goes bytes (used + more) first next
goes_first bytes used more first now next g s =
    let a = s.answered in
    let sent : List ℕ = flat_map spelled a.sent in record {
      sent = g.sent ++ sent;
      said = g.said ++ s.said;
      went = went_both first.dialogue.standing now.dialogue.standing next.dialogue.standing first.selection now.selection next.selection g.sent sent g.said s.said g.went (converses_went a.converses);
      whole = ap (λ (l : List ℕ). first.dialogue.begun ++ l) (take-add used more bytes) ∙ sym (append_assoc first.dialogue.begun (take used bytes) (take more (drop used bytes)))
          ∙ ap (λ (l : List ℕ). l ++ take more (drop used bytes)) g.whole ∙ append_assoc g.sent now.dialogue.begun (take more (drop used bytes)) ∙ ap (λ (l : List ℕ). g.sent ++ l) a.whole
          ∙ sym (append_assoc g.sent sent next.dialogue.begun);
      text = text_on first.text now.text next.text g.said s.said g.text s.wrote;
    }

-- nothing more was sent, and this was said
goes_saying : (bytes : List ℕ) (used : ℕ) (first now next : Moment) (said : List ℕ) → Goes bytes used first now → Went now.dialogue.standing now.selection [] said next.dialogue.standing next.selection → next.dialogue.begun ≡ now.dialogue.begun
    → next.text ≡ now.text ++ said → Goes bytes used first next
goes_saying bytes used first now next said g w begun text = record {
  sent = g.sent ++ [];
  said = g.said ++ said;
  went = went_both first.dialogue.standing now.dialogue.standing next.dialogue.standing first.selection now.selection next.selection g.sent [] g.said said g.went w;
  whole = g.whole ∙ ap (λ (l : List ℕ). g.sent ++ l) (sym begun) ∙ ap (λ (l : List ℕ). l ++ next.dialogue.begun) (sym (append-nil g.sent));
  text = text_on first.text now.text next.text g.said said g.text text;
}

goes_by : (bytes : List ℕ) (first : Moment) {used : ℕ} {carried : List Carried} {now : Moment} → Speaks bytes first used carried now → Goes bytes used first now
goes_by bytes first life.silent = goes_still bytes first
goes_by bytes first (life.takes used more carried now next speaks goes says) = goes_first bytes used more first now next (goes_by bytes first speaks) says
goes_by bytes first (life.hears used carried one now next speaks tells) = goes_saying bytes used first now next tells.answered.bytes (goes_by bytes first speaks) (verdict_went one now next tells) tells.begun tells.answered.wrote

shows_on : (bytes : List ℕ) (used count : ℕ) (first now next : Moment) → Goes bytes used first now → HasShown count now next → Goes bytes used first next
shows_on bytes used count first now next g shown = let t = shown.1.0 in goes_saying bytes used first now next t.turned.bytes g (turn_went now next t) t.begun t.turned.wrote

goes_showing : (bytes : List ℕ) (used : ℕ) (first middle : Moment) {last : Moment} → Goes bytes used first middle → GoesOnShowing middle last → Goes bytes used first last
goes_showing bytes used first middle g visit.nothing_yet = g
goes_showing bytes used first middle g (visit.another count now next goes some shown) = shows_on bytes used count first now next (goes_showing bytes used first middle g goes) shown

shows_all : (bytes : List ℕ) (used : ℕ) (first middle last : Moment) → Goes bytes used first middle → ShowsAll middle last → Goes bytes used first last
shows_all bytes used first middle last g (visit.awake goes idles) = goes_showing bytes used first middle g goes
shows_all bytes used first middle last g (visit.nothing_left now goes shown) = shows_on bytes used 0 first now last (goes_showing bytes used first middle g goes) shown

-- ---- a session that has ended shows nothing

awake_still : (tag : Option (List ℕ)) (ended : Bool) → (is_some tag && not ended) ≡ true → ended ≡ true → ⊥
awake_still None ended e f = cc
awake_still (Some tag) true e f = cc
awake_still (Some tag) false e f = cc

shows_none : (count : ℕ) (now next : Moment) → now.dialogue.standing.ended ≡ true → HasShown count now next → ⊥
shows_none count now next ended shown = awake_still now.dialogue.standing.idling now.dialogue.standing.ended shown.0 ended

stays_ended : (middle : Moment) {last : Moment} → GoesOnShowing middle last → middle.dialogue.standing.ended ≡ true → last.dialogue.standing.ended ≡ true
stays_ended middle visit.nothing_yet ended = ended
stays_ended middle (visit.another count now next goes some shown) ended = absurd (shows_none count now next (stays_ended middle goes ended) shown)

all_ended : (middle last : Moment) → ShowsAll middle last → middle.dialogue.standing.ended ≡ true → last.dialogue.standing.ended ≡ true
all_ended middle last (visit.awake goes idles) ended = stays_ended middle goes ended
all_ended middle last (visit.nothing_left now goes shown) ended = absurd (shows_none 0 now last (stays_ended middle goes ended) shown)

-- ---- calls

-- Where a call led: some bytes were used, and unless the session has ended all of them, where `whole`.
record Leads (whole : Type 0) (room : ℕ) (bytes : List ℕ) (before after : Moment) : Type 0 where
  stops : whole ⊎ IsCutShort room after.dialogue.standing
  used : ℕ
  goes : Goes bytes used before after
  all : whole → (drop used bytes ≡ []) ⊎ (after.dialogue.standing.ended ≡ true)

abbrev Wholly : Type 0
Wholly = Unit {0}

none_left : (bytes : List ℕ) (used : ℕ) → used ≡ length bytes → drop used bytes ≡ []
none_left bytes used is = ap (λ (n : ℕ). drop n bytes) is ∙ drop-length bytes

hears_leads : (room : ℕ) (bytes : List ℕ) (carried : List Carried) (before after : Moment) → Hears bytes carried before after → Leads Wholly room bytes before after
hears_leads room bytes carried before after h =
    let s = h.says in record {
      stops = inl tt;
      used = s.used;
      goes = shows_all bytes s.used before h.between after (goes_by bytes before s.speaks) h.shows;
      all = λ w. by s.all;
    }
  where
    by : ((h.says.used ≡ length bytes) × (life.takes_more h.between.dialogue.standing ≡ true)) ⊎ (h.between.dialogue.standing.ended ≡ true) → (drop h.says.used bytes ≡ []) ⊎ (after.dialogue.standing.ended ≡ true)
    by (inl whole) = inl (none_left bytes h.says.used whole.0)
    by (inr ended) = inr (all_ended h.between after h.shows ended)

says_in_part : (room : ℕ) (bytes : List ℕ) (why : Lost) (before after : Moment) → SaysInPart room bytes why before after → Leads ⊥ room bytes before after
says_in_part room bytes why before after (life.short used carried speaks short is) = record { stops = inr (inl short); used = used; goes = goes_by bytes before speaks; all = λ no. absurd no }
says_in_part room bytes why before after (life.unheard used carried speaks waits) = record { stops = inr (inr (inl waits)); used = used; goes = goes_by bytes before speaks; all = λ no. absurd no }

hears_in_part : (room : ℕ) (bytes : List ℕ) (why : Lost) (before after : Moment) → HearsInPart room bytes why before after → Leads ⊥ room bytes before after
hears_in_part room bytes why before after (visit.within_bytes part) = says_in_part room bytes why before after part
hears_in_part room bytes why before after (visit.within_turns between carried says shows is) = record {
  stops = inr (inr (inr shows.idles));
  used = says.used;
  goes = goes_showing bytes says.used before between (goes_by bytes before says.speaks) shows.showed;
  all = λ no. absurd no;
}

looks_leads : (room : ℕ) (before after : Moment) → ShowsAll before after → Leads Wholly room [] before after
looks_leads room before after shows = record { stops = inl tt; used = 0; goes = shows_all [] 0 before before after (goes_still [] before) shows; all = λ w. inl refl }

looks_in_part : (room : ℕ) (before after : Moment) → ShowsInPart room before after → Leads Wholly room [] before after
looks_in_part room before after shows = record { stops = inl tt; used = 0; goes = goes_showing [] 0 before before (goes_still [] before) shows.showed; all = λ w. inl refl }

-- ---- a visit

-- what was sent of what a call said
record Sent (old : Visit) (said : List ℕ) (new : Visit) : Type 0 where
  count : ℕ
  took : Appends old.taken new.taken (take count said)
  took_all : new.failed ≡ false → Appends old.taken new.taken said
  failed : new.closed ≡ false → new.failed ≡ false

true_false : {b : Bool} → b ≡ true → b ≡ false → ⊥
true_false e f = let g = sym e ∙ f in cc

sent_all : (old : Visit) (said : List ℕ) (new : Visit) → SendsAll old said new → Sent old said new
sent_all old said new s = record {
  count = length said;
  took = subst (λ (l : List ℕ). Appends old.taken new.taken l) (sym (take-length said)) s.took;
  took_all = λ live. s.took;
  failed = λ goes. s.live;
}

sent_first : (old : Visit) (said : List ℕ) (new : Visit) → SendsFirst old said new → Sent old said new
sent_first old said new s = record {
  count = s.sent;
  took = s.took;
  took_all = λ live. absurd (true_false s.failed live);
  failed = λ goes. absurd (true_false s.over goes);
}

is_open : (closed ended : Bool) → (closed || ended) ≡ false → (closed ≡ false) × (ended ≡ false)
is_open true ended e = cc
is_open false ended e = (refl, e)

take_behind : (a b : List ℕ) (n : ℕ) → take (length a + n) (a ++ b) ≡ a ++ take n b
take_behind [] b n = ap (λ (k : ℕ). take k b) (omega arith)
take_behind (x ∷ a) b n =
    let on : suc (length a) + n ≡ suc (length a + n) = omega arith in
    ap (λ (k : ℕ). take k (x ∷ (a ++ b))) on ∙ ap (λ (l : List ℕ). x ∷ l) (take_behind a b n)

said_more : (profile : Profile) (told more : List Told) → said_in profile (told ++ more) ≡ said_in profile told ++ flat_map bytes_in more
said_more profile told more = ap (λ (l : List ℕ). greeting profile ++ l) (flat_map-append bytes_in told more) ∙ sym (append_assoc (greeting profile) (flat_map bytes_in told) (flat_map bytes_in more))

-- the bytes that were heard, one piece more
heard_on : (heard piece answered begun lost front sent next rest : List ℕ) → heard ≡ (answered ++ begun) ++ lost → lost ≡ [] → piece ≡ front ++ rest → begun ++ front ≡ sent ++ next → heard ++ piece ≡ ((answered ++ sent) ++ next) ++ rest
heard_on heard piece answered begun lost front sent next rest is none parts whole =
    ap (λ (l : List ℕ). l ++ piece) (is ∙ ap (λ (l : List ℕ). (answered ++ begun) ++ l) none ∙ append-nil (answered ++ begun)) ∙ append_assoc answered begun piece ∙ ap (λ (l : List ℕ). answered ++ (begun ++ l)) parts
    ∙ ap (λ (l : List ℕ). answered ++ l) (sym (append_assoc begun front rest) ∙ ap (λ (l : List ℕ). l ++ rest) whole) ∙ sym (append_assoc answered (sent ++ next) rest)
    ∙ ap (λ (l : List ℕ). l ++ rest) (sym (append_assoc answered sent next))

went_on : (whole : Type 0) (P : Moment → Moment → Type 0) (beginning : Beginning) (heard piece : List ℕ) (told : List Told) (old new : Visit) (said : List ℕ) → HasLived Holds beginning heard told old → is_over old ≡ false
    → LeadsTo P old said new → ((before after : Moment) → P before after → Leads whole new.room piece before after) → (new.closed ≡ false → whole) → (new.closed ≡ true → whole → new.failed ≡ true) → Sent old said new
    → (more : List Told) × HasLived Holds beginning (heard ++ piece) (told ++ more) new
went_on whole P beginning heard piece told old new said L over leads by wholly closes sends =
    let still_open = is_open old.closed old.link.session.ended over in
    let next = leads L.dialogue L.stands in
    let led = by (moment L.dialogue old.selection []) (moment next.0 new.selection said) next.2 in
    let g = led.goes in
    let w = g.went in
    let more : List Told = w.told in
    let is : said ≡ flat_map bytes_in more = g.text ∙ w.wrote in
    let lives = lives_on beginning.first beginning.store L.lives w.lives in
    let live = L.failed still_open.0 in
    let profile : Profile = beginning.first.profile in
    let so : List ℕ = said_in profile told in
    let before : Appends beginning.taken old.taken so = L.took_all live in
    let some : Appends beginning.taken new.taken (so ++ take sends.count said) = Appends-trans beginning.taken old.taken new.taken so (take sends.count said) before sends.took in (
      more,
      record {
        dialogue = next.0;
        stands = next.1;
        answered = L.answered ++ g.sent;
        lost = drop led.used piece;
        all = heard_on heard piece L.answered L.dialogue.begun L.lost (take led.used piece) g.sent next.0.begun (drop led.used piece) L.all (L.none_lost over) (sym (take-append-drop led.used piece)) g.whole;
        none_lost = λ going. nothing_lost new next.0 next.1 piece led.used (led.all (wholly (is_open new.closed new.link.session.ended going).0)) going;
        lives = lives;
        legal = legal_lives L.dialogue.standing old.selection L.legal w.lives;
        sent = length so + sends.count;
        took = subst (λ (l : List ℕ). Appends beginning.taken new.taken l)
            (sym (ap (take (length so + sends.count)) (said_more profile told more ∙ ap (λ (l : List ℕ). so ++ l) (sym is)) ∙ take_behind so said sends.count)) some;
        took_all = λ ok. subst (λ (l : List ℕ). Appends beginning.taken new.taken l) (ap (λ (l : List ℕ). so ++ l) is ∙ sym (said_more profile told more))
            (Appends-trans beginning.taken old.taken new.taken so said before (sends.took_all ok));
        failed = sends.failed;
        why = λ c. stopped next.0.standing c led.stops;
      },
    )
  where
    stopped : (now : Standing) → new.closed ≡ true → whole ⊎ IsCutShort new.room now → (new.failed ≡ true) ⊎ IsCutShort new.room now
    stopped now c (inl w) = inl (closes c w)
    stopped now c (inr cut) = inr cut

    nothing_lost : (new : Visit) (d : Dialogue) → StandsFor new.link d → (piece : List ℕ) (used : ℕ) → (drop used piece ≡ []) ⊎ (d.standing.ended ≡ true) → is_over new ≡ false → drop used piece ≡ []
    nothing_lost new d stands piece used (inl none) going = none
    nothing_lost new d stands piece used (inr ended) going =
        absurd (true_false (subst (λ (s : Standing). s.ended ≡ true) (sym stands.session) ended) (is_open new.closed new.link.session.ended going).1)

pub visits_begin : (admission : Admission) (folders : List Folder) (store : LockedStore) (taken : Option (List ℕ)) (v : Visit) → Legal store.history → IsGreeted admission folders store taken v
    → HasLived Holds (record { first = begun_with admission folders; store = store; taken = taken }) [] [] v
visits_begin admission folders store taken v legal g = record {
  dialogue = record { standing = begun_with admission folders; begun = [] };
  stands = g.stands;
  answered = [];
  lost = [];
  all = refl;
  none_lost = λ going. refl;
  lives = subst (λ (p : LockedStore). Lived Holds (begun_with admission folders) store [] [] (begun_with admission folders) p) (sym g.store) comes;
  legal = subst (λ (p : LockedStore). Legal p.history) (sym g.store) legal;
  sent = length (said_in admission.profile []);
  took = subst (λ (l : List ℕ). Appends taken v.taken l) (sym (take-length (said_in admission.profile []))) greeted;
  took_all = λ live. greeted;
  failed = λ goes. g.live;
  why = λ c. absurd (true_false c g.goes_on);
}
  where
    greeted : Appends taken v.taken (said_in admission.profile [])
    greeted = subst (λ (l : List ℕ). Appends taken v.taken l) (sym (append-nil (greeting admission.profile))) g.took

-- no piece was heard
looking : (beginning : Beginning) (heard piece : List ℕ) (told : List Told) (new : Visit) → piece ≡ [] → (more : List Told) × HasLived Holds beginning (heard ++ []) (told ++ more) new → (more : List Told) × HasLived Holds beginning (heard ++ piece) (told ++ more) new
looking beginning heard piece told new none went = (went.0, subst (λ (l : List ℕ). HasLived Holds beginning (heard ++ l) (told ++ went.0) new) (sym none) went.1)

pub visits_go_on : (beginning : Beginning) (heard piece : List ℕ) (told : List Told) (old new : Visit) → HasLived Holds beginning heard told old → is_over old ≡ false → HasCalled piece old new
    → (more : List Told) × HasLived Holds beginning (heard ++ piece) (told ++ more) new
visits_go_on beginning heard piece told old new L over (visits.heard carried t same) =
    went_on Wholly (Hears piece carried) beginning heard piece told old new t.said L over t.leads (hears_leads new.room piece carried) (λ goes. tt) (λ c w. absurd (true_false c (same ∙ (is_open old.closed old.link.session.ended over).0))) (sent_all old t.said new t.sends)
visits_go_on beginning heard piece told old new L over (visits.heard_in_part why t ends) =
    went_on ⊥ (HearsInPart new.room piece why) beginning heard piece told old new t.said L over t.leads (hears_in_part new.room piece why) (λ goes. true_false ends goes) (λ c w. absurd w) (sent_all old t.said new t.sends)
visits_go_on beginning heard piece told old new L over (visits.heard_and_cut carried t) =
    went_on Wholly (Hears piece carried) beginning heard piece told old new t.said L over t.leads (hears_leads new.room piece carried) (λ goes. tt) (λ c w. t.sends.failed) (sent_first old t.said new t.sends)
visits_go_on beginning heard piece told old new L over (visits.heard_in_part_and_cut why t) =
    went_on ⊥ (HearsInPart new.room piece why) beginning heard piece told old new t.said L over t.leads (hears_in_part new.room piece why) (λ goes. true_false t.sends.over goes) (λ c w. absurd w) (sent_first old t.said new t.sends)
visits_go_on beginning heard piece told old new L over (visits.looked none t same) =
    looking beginning heard piece told new none (went_on Wholly ShowsAll beginning heard [] told old new t.said L over t.leads (looks_leads new.room) (λ goes. tt) (λ c w. absurd (true_false c (same ∙ (is_open old.closed old.link.session.ended over).0))) (sent_all old t.said new t.sends))
visits_go_on beginning heard piece told old new L over (visits.looked_in_part none t same) =
    looking beginning heard piece told new none (went_on Wholly (ShowsInPart new.room) beginning heard [] told old new t.said L over t.leads (looks_in_part new.room) (λ goes. tt) (λ c w. absurd (true_false c (same ∙ (is_open old.closed old.link.session.ended over).0))) (sent_all old t.said new t.sends))
visits_go_on beginning heard piece told old new L over (visits.looked_and_cut none t) =
    looking beginning heard piece told new none (went_on Wholly ShowsAll beginning heard [] told old new t.said L over t.leads (looks_leads new.room) (λ goes. tt) (λ c w. t.sends.failed) (sent_first old t.said new t.sends))
visits_go_on beginning heard piece told old new L over (visits.looked_in_part_and_cut none t) =
    looking beginning heard piece told new none (went_on Wholly (ShowsInPart new.room) beginning heard [] told old new t.said L over t.leads (looks_in_part new.room) (λ goes. tt) (λ c w. t.sends.failed) (sent_first old t.said new t.sends))

pub calls_went : (beginning : Beginning) (before : List ℕ) (told : List Told) (old : Visit) {heard : List ℕ} {new : Visit} → HasLived Holds beginning before told old → Calls old heard new
    → (more : List Told) × HasLived Holds beginning (before ++ heard) (told ++ more) new
calls_went beginning before told old lived no_call =
    ([], subst (λ (bs : List ℕ). HasLived Holds beginning bs (told ++ []) old) (sym (append-nil before)) (subst (λ (ts : List Told). HasLived Holds beginning before ts old) (sym (append-nil told)) lived))
calls_went beginning before told old lived (one_more so_far piece now next earlier over call) =
    let first = calls_went beginning before told old lived earlier in
    let last = visits_go_on beginning (before ++ so_far) piece (told ++ first.0) now next first.1 over call in (
      first.0 ++ last.0,
      subst (λ (bs : List ℕ). HasLived Holds beginning bs (told ++ (first.0 ++ last.0)) next) (append_assoc before so_far piece)
          (subst (λ (ts : List Told). HasLived Holds beginning ((before ++ so_far) ++ piece) ts next) (append_assoc told first.0 last.0) last.1),
    )

-- ---- by the history alone

met_by_history : (old new : LockedStore) (events : List Event) (shown : List Change) → Met Holds old events new → WasShown old shown → Met ByHistory old events new
met_by_history old new [] shown met was = met
met_by_history old new (event ∷ events) shown (mid, one, more) was = (
  mid,
  holds_are_by_history old mid event.call event.answer shown one was,
  met_by_history mid new events (shown_then shown event.answer) more (by_call old mid event.call event.answer shown one was).2,
)

-- a life by the history, in which what was shown is up to the cursor
record ByNow (first : Standing) (began : LockedStore) (sent : List ℕ) (told : List Told) (now : Standing) (selection : LockedStore) : Type 0 where
  lives : Lived ByHistory first began sent told now selection
  shown : List Change
  was : WasShown selection shown

by_now : (first : Standing) (began : LockedStore) {sent : List ℕ} {told : List Told} {now : Standing} {selection : LockedStore} → began.entered ≡ None → Lived Holds first began sent told now selection
    → ByNow first began sent told now selection
by_now first began none comes = record {
  lives = comes;
  shown = [];
  was = subst (λ (e : Option _). WasShownIn began.history e []) (sym none) refl;
}
by_now first began none (turns {now = now} {s = selection} lives happening bytes turn next may sent printed e met) =
    let L = by_now first began none lives in record {
      lives = turns L.lives happening bytes turn next may sent printed e (met_by_history selection next turn.events L.shown met L.was);
      shown = shown_since L.shown turn.events;
      was = (since_select selection next turn.events L.shown met L.was).1;
    }

pub lived_by_history : (beginning : Beginning) (heard : List ℕ) (told : List Told) (v : Visit) → beginning.store.entered ≡ None → HasLived Holds beginning heard told v → HasLived ByHistory beginning heard told v
lived_by_history beginning heard told v none L = record {
  dialogue = L.dialogue;
  stands = L.stands;
  answered = L.answered;
  lost = L.lost;
  all = L.all;
  none_lost = L.none_lost;
  lives = (by_now beginning.first beginning.store none L.lives).lives;
  legal = L.legal;
  sent = L.sent;
  took = L.took;
  took_all = L.took_all;
  failed = L.failed;
  why = L.why;
}

-- ---- how it ends

-- where nothing was done behind the last moment
rests : (how : Parting) (last next visit : Visit) → how ≢ Stopped → (how ≡ Over → takes_bytes last ≡ false) → next ≡ last → HasParted next visit → EndsSo how last visit
rests how last next visit other takes same p = record {
  closed = ap (λ (v : Visit). v.closed) p.rest;
  link = ap (λ (v : Visit). v.link) p.rest ∙ ap (λ (v : Visit). v.link) same;
  quiet = λ why. record { taken = ap (λ (v : Visit). v.taken) p.rest ∙ ap (λ (v : Visit). v.taken) same; failed = ap (λ (v : Visit). v.failed) p.rest ∙ ap (λ (v : Visit). v.failed) same; room = ap (λ (v : Visit). v.room) p.rest ∙ ap (λ (v : Visit). v.room) same };
  takes_none = takes;
  told = λ stops going. absurd (other stops);
}

stops : (last next visit : Visit) → IsDismissed last next → HasParted next visit → EndsSo Stopped last visit
stops last next visit d p = record {
  closed = ap (λ (v : Visit). v.closed) p.rest;
  link = ap (λ (v : Visit). v.link) p.rest ∙ d.link;
  quiet = quiet;
  takes_none = λ e. absurd cc;
  told = λ is going. by (d.told going);
}
  where
    quiet : (Stopped ≢ Stopped) ⊎ (is_over last ≡ true) → IsQuiet last visit
    quiet (inl other) = absurd (other refl)
    quiet (inr over) =
        let same = d.over over in
        record { taken = ap (λ (v : Visit). v.taken) p.rest ∙ ap (λ (v : Visit). v.taken) same; failed = ap (λ (v : Visit). v.failed) p.rest ∙ ap (λ (v : Visit). v.failed) same; room = ap (λ (v : Visit). v.room) p.rest ∙ ap (λ (v : Visit). v.room) same }

    by : (Appends last.taken next.taken farewell × (next.failed ≡ false)) ⊎ SendsFirst last farewell next → (Appends last.taken visit.taken farewell × (visit.failed ≡ false)) ⊎ SendsFirst last farewell visit
    by (inl all) = inl (subst (λ (t : Option (List ℕ)). Appends last.taken t farewell) (sym (ap (λ (v : Visit). v.taken) p.rest)) all.0, ap (λ (v : Visit). v.failed) p.rest ∙ all.1)
    by (inr part) = inr (record {
      sent = part.sent;
      few = part.few;
      took = subst (λ (t : Option (List ℕ)). Appends last.taken t (take part.sent farewell)) (sym (ap (λ (v : Visit). v.taken) p.rest)) part.took;
      failed = ap (λ (v : Visit). v.failed) p.rest ∙ part.failed;
      over = ap (λ (v : Visit). v.closed) p.rest;
    })

ends_by : (how : Parting) (dropped : List ℕ) (last next visit : Visit) → Ends how dropped last next → HasParted next visit → EndsSo how last visit
ends_by Gone dropped last next visit e p = rests Gone last next visit (λ s. cc) (λ o. absurd cc) e.0 p
ends_by Broken dropped last next visit e p = rests Broken last next visit (λ s. cc) (λ o. absurd cc) e.0 p
ends_by Over dropped last next visit e p = rests Over last next visit (λ s. cc) (λ o. e.2) e.0 p
ends_by Stopped dropped last next visit e p = stops last next visit e p

kept : (how : Parting) (dropped : List ℕ) (last next : Visit) → Ends how dropped last next → how ≢ Stopped → dropped ≡ []
kept Gone dropped last next e other = e.1
kept Broken dropped last next e other = e.1
kept Over dropped last next e other = e.1
kept Stopped dropped last next e other = absurd (other refl)

pub attended_life : (before after : Option (List ℕ)) (how : Parting) (admission : Admission) (folders : List Folder) (store : LockedStore) (taken : Option (List ℕ)) (old new : Visit) → Legal store.history
    → store.entered ≡ None → IsGreeted admission folders store taken old → Attended before after how old new
    → HasAttended before after how (record { first = begun_with admission folders; store = store; taken = taken }) new
attended_life before after how admission folders store taken old new legal none greeted a =
    let beginning : Beginning = record { first = begun_with admission folders; store = store; taken = taken } in
    let went = calls_went beginning [] [] old (visits_begin admission folders store taken old legal greeted) a.calls in record {
      heard = a.heard;
      dropped = a.dropped;
      came = a.came;
      kept = kept how a.dropped a.last a.next a.ends;
      told = went.0;
      last = a.last;
      lived = lived_by_history beginning a.heard went.0 a.last none went.1;
      ends = ends_by how a.dropped a.last a.next new a.ends a.left;
    }

parted : {F : Type 0} (r : Result (Unit {0}) F) (next new : Visit) → OnOk r (Departs next.selection new.selection) → OnErr r (IsForgotten next.selection new.selection)
    → Departs next.selection new.selection ⊎ IsForgotten next.selection new.selection
parted (Ok done) next new departs forgotten = inl departs
parted (Err fault) next new departs forgotten = inr forgotten

-- its session left, behind what was heard
pub parted_life : {F : Type 0} (before after : Option (List ℕ)) (how : Parting) (left : Result (Unit {0}) F) (admission : Admission) (folders : List Folder) (store : LockedStore) (taken : Option (List ℕ)) (old next new : Visit)
    → Legal store.history → store.entered ≡ None → IsGreeted admission folders store taken old → HearsOut before after how old next → OnOk left (Departs next.selection new.selection)
    → OnErr left (IsForgotten next.selection new.selection) → new ≡ record next { selection = new.selection; closed = true }
    → HasAttended before after how (record { first = begun_with admission folders; store = store; taken = taken }) new
parted_life before after how left admission folders store taken old next new legal none greeted out departs forgotten rest =
    attended_life before after how admission folders store taken old new legal none greeted (record {
      heard = out.heard;
      dropped = out.dropped;
      came = out.came;
      last = out.last;
      calls = out.calls;
      next = next;
      ends = out.ends;
      left = record { departs = parted left next new departs forgotten; rest = rest };
    })
