-- At the entry with which a client's bytes came its list is the mailbox as it is, where the last that it is told is the OK of a command that shows all.
use Rattle.std.proofs.Common.{◌≡◌, ℕ, ◌+◌, Bool, true, false, eq-eqb, List, [], ◌∷◌, ◌++◌, length, refl, sym, subst, ap, ◌∙◌, arith, append-nil, append_assoc, length-append, Option, Some, None}
use Rattle.std.proofs.lemmas.Bool.{false≢true}
use Rattle.std.specs.Prelude.{Ok, codes}
use Rattle.std.proofs.lemmas.Option.{none-some}
use Rattle.line_io.specs.Wire.{IsCut, joined}
use Rattle.std.specs.Borrow.{Bor}
use Rattle.shard_queue.proofs.AtLaws.{set_at-same}
use Rattle.world.specs.World as world
use Rattle.world.specs.World.{Config, Event, IsWorld, Session, Step, World, empty_world}
use Rattle.world.proofs.Always.{steps_join}
use Rattle.delivery_token.specs.declared.log.Noted.{Noted}
use Rattle.imap_grammar.specs.Reading.{read}
use Rattle.imap_grammar.specs.Verbs.{verb_of}
use Rattle.imap_grammar.specs.declared.command.Command.{Command}
use Rattle.imap_session.specs.Commands.{turn_of}
use Rattle.imap_session.specs.Exchange.{Answer as StoreAnswer, Standing, Turn, tagged}
use Rattle.house.specs.Meets.{Meets}
use Rattle.house_peers.specs.Visitor.{Visitor, more_waits as session_more_waits, SeatedVisitor}
use Rattle.house.specs.Setup.{Setup, session_seat}
use Rattle.house.specs.Printing.{with_session}
use Rattle.house.specs.inner.Printing.{still_unsaid}
use Rattle.house.specs.Scene.{HearPlay, Parts, PutPlay, SayPlay, Scene, SessionGoes, SessionHears, SessionPuts, SessionTalks, connection_hears, connection_puts, empty_scene, lingers, parts, place_of, remains, seat_of, session_hears, session_puts, talks, with_visitor, with_world}
use Rattle.house.specs.declared.event.Event as house
use Rattle.house.specs.declared.event.Event.TheVariants.{Hear, Put, Say}
use Rattle.exactly_once.specs.Promise.{Entry, IsEntry, IsRecord, Lines, Piece, Replies, Silence, text_of}
use Rattle.exactly_once.proofs.Going.{record_append}
use Rattle.exactly_once.proofs.Whole.{IsWhole, goes_whole, whole_append}
use Rattle.laws_client.specs.Clients.{EndsWith, IsRight}
use Rattle.laws_client.specs.Client.{Client as Reader, Known, knowing}
use Rattle.imap_session.specs.Happenings.{Answer, Happening, Heard, Line, Literal, LongLine, Told, Turned, Words, bytes_in, leads_to, told_line, told_of, whole_line}
use Rattle.laws_client.specs.AtEntries.{AnswersAt, AnswersMakeCurrent, VerdictsMakeCurrent}
use Rattle.laws_client.specs.Clients.{hears_all}
use Rattle.laws_client.specs.Current.{shows_all}
use Rattle.laws_client.specs.HouseClients.{Lives}
use Rattle.laws_client.specs.ClientRecords.{is_left, lets_in, sent_by_then, sent_in, shown_by_then, unless, first_words}
use Rattle.laws_client.specs.HouseClients.{IsPrintable, shown_in}
use Rattle.laws_client.specs.Sizes.{HasShortTexts}
use Rattle.laws_client.specs.HouseClients.{HasSmallNumbers}
use Rattle.laws_client.specs.RecordTurns.{Stands}
use Rattle.laws_client.specs.Views.{messages_of}
use Rattle.laws_client.specs.HouseClients.{IsOfOthers}
use Rattle.laws_client.proofs.IdleTags.{AreTagsOf}
use Rattle.laws_client.proofs.Answered.{Came, told_bytes}
use Rattle.laws_client.proofs.LastLines.{IsWord}
use Rattle.laws_client.proofs.WordsCurrent.{words_make_current}
use Rattle.laws_client.proofs.Seated.{IsHere, here_as, here_step, put_here}
use Rattle.laws_client.proofs.Talked.{AreHeardSmall}
use Rattle.laws_client.proofs.Entries.{SceneKnown, arrival_in, arrival_stays, the_client, the_serial}
use Rattle.laws_client.proofs.RecordKeeping.{KeepsBy, all_known, arrival_by_then, first_stands, keeps_by, nobody, prints_at, sent_here, texts_stay_short}
use Rattle.laws_client.proofs.OkCurrent.{lists_are_current}
use Rattle.laws_client.proofs.Recording.{Arrival, Client, came_as, client_more, client_others, fits_lines, fits_silence, heard_small, heeds, regroup, still_whole}
use Rattle.laws_client.proofs.Since.{Fresh, Lately, fresh_grown, goes_lately, turned, untold}
use Rattle.imap_session.specs.declared.texts.ResponseText.TheVariants as texts
use Rattle.imap_session.specs.Texts.{response_text}

-- ---- one entry more

arrival_more : (place : ℕ) (a : Arrival) (s : Scene) (entries : List Entry) (e : Entry) → lets_in place e.event ≡ false → is_left place e.event ≡ false → arrival_by_then place a s (entries ++ e ∷ []) ≡ arrival_by_then place a s entries
arrival_more place a s [] e l f = arrival_stays place s e.event a l f
arrival_more place a s (x ∷ entries) e l f = arrival_more place (arrival_in place s x.event a) x.after entries e l f

sent_more : (place : ℕ) (before : List ℕ) (entries : List Entry) (e : Entry) → sent_by_then place before (entries ++ e ∷ []) ≡ unless (lets_in place e.event) (sent_by_then place before entries) ++ sent_in place e.event
sent_more place before [] e = refl
sent_more place before (x ∷ entries) e = sent_more place (unless (lets_in place x.event) before ++ sent_in place x.event) entries e

shown_more : (place : ℕ) (before : List ℕ) (entries : List Entry) (e : Entry) → shown_by_then place before (entries ++ e ∷ []) ≡ unless (lets_in place e.event) (shown_by_then place before entries) ++ shown_in place e.piece
shown_more place before [] e = refl
shown_more place before (x ∷ entries) e = shown_more place (unless (lets_in place x.event) before ++ shown_in place x.piece) entries e

-- ---- the last that was told

abbrev told_first : Told → List Told → Told
told_first d [] = d
told_first d (x ∷ xs) = x

abbrev told_others : List Told → List Told
told_others [] = []
told_others (x ∷ xs) = xs

pub last_same : (xs ys : List Told) (x y : Told) → xs ++ x ∷ [] ≡ ys ++ y ∷ [] → (xs ≡ ys) × (x ≡ y)
last_same [] [] x y e = (refl, ap (told_first x) e)
last_same [] (z ∷ ys) x y e = absurd (omega (arith, ap length e, length-append ys (y ∷ [])))
last_same (z ∷ xs) [] x y e = absurd (omega (arith, ap length e, length-append xs (x ∷ [])))
last_same (z ∷ xs) (u ∷ ys) x y e =
    let more = last_same xs ys x y (ap told_others e) in
    (cong z u xs ys (ap (told_first z) e) more.0, more.1)
  where
    cong : (a b : Told) (ls ms : List Told) → a ≡ b → ls ≡ ms → a ∷ ls ≡ b ∷ ms
    cong a b ls ms p q = rw (p, q) refl

abbrev is_answer : Told → List ℕ → List ℕ → Type 0
is_answer (Answer line bytes) l b = (line ≡ l) × (bytes ≡ b)
is_answer (Words bytes) l b = ⊥

-- an answer was to what came as a command with this line
pub record AnswersLine (now : Standing) (happening : Happening) (turn : Turn) (whole bytes : List ℕ) : Type 0 where
  pub line : List ℕ
  pub answers : List StoreAnswer
  pub is : happening ≡ Line line answers
  pub came : whole_line now line ≡ Some whole
  pub wrote : turn.bytes ≡ bytes

line_told : (o : Option (List ℕ)) (line : List ℕ) (b bytes : List ℕ) → told_line o b ≡ Answer line bytes → (o ≡ Some line) × (b ≡ bytes)
line_told (Some l) line b bytes e =
    let x : is_answer (Answer l b) line bytes = subst (λ (t : Told). is_answer t line bytes) (sym e) (refl, refl) in
    (ap (λ (y : List ℕ). Some y) x.0, x.1)
line_told None line b bytes e = absurd (let x : is_answer (Words b) line bytes = subst (λ (t : Told). is_answer t line bytes) (sym e) (refl, refl) in x)

no_words : (b line bytes : List ℕ) → Words b ≡ Answer line bytes → ⊥
no_words b line bytes e = let x : is_answer (Words b) line bytes = subst (λ (t : Told). is_answer t line bytes) (sym e) (refl, refl) in x

pub answers_line : (now : Standing) (happening : Happening) (turn : Turn) (line bytes : List ℕ) → told_of now happening turn.bytes ≡ Answer line bytes → AnswersLine now happening turn line bytes
answers_line now (Line l answers) turn line bytes e =
    let x = line_told (whole_line now l) line turn.bytes bytes e in
    record { line = l; answers = answers; is = refl; came = x.0; wrote = x.1 }
answers_line now LongLine turn line bytes e = absurd (no_words turn.bytes line bytes e)
answers_line now (Turned answers) turn line bytes e = absurd (no_words turn.bytes line bytes e)
answers_line now (Literal kept literal) turn line bytes e = absurd (no_words turn.bytes line bytes e)
answers_line now (Heard verdict answers) turn line bytes e = absurd (no_words turn.bytes line bytes e)

-- so its list is the mailbox in the world in which that ended
fresh_current : (k : Config) (events : List Event) (n : ℕ) (first : Came) (began : World) (base told more : List Told) (w : World) → HasSmallNumbers k → IsWorld k events began → HasShortTexts w → Stands first.standing
    → told ≡ base ++ more → Fresh k n first began base told w → (front : List Told) (line tag bytes ending : List ℕ) (command : Command) (client : Reader) (s : Session) → more ≡ front ++ Answer line bytes ∷ []
    → read line ≡ Ok (tag, command) → shows_all command ≡ true → bytes ≡ ending ++ tagged tag (response_text (texts.Completed (verb_of command))) → hears_all None (base ++ front) ≡ Some client → w.session n ≡ Some s
    → (list : List Known) × (hears_all None told ≡ Some (knowing (Some list))) × IsRight (messages_of (w.box s.mailbox)) list
fresh_current k events n first began base told more w h is short stands grown (untold e) front line tag bytes ending command client s last reads shows wrote knows at =
    absurd (omega (arith, ap length (sym e ∙ grown), length-append base more, ap length last, length-append front (Answer line bytes ∷ [])))
fresh_current k events n first began base told more w h is short stands grown (turned new sent now u lives happening turn printed e leads met) front line tag bytes ending command client s last reads shows wrote knows at =
    let all : told ≡ (base ++ front) ++ Answer line bytes ∷ [] = grown ∙ ap (λ (x : List Told). base ++ x) last ∙ sym (append_assoc base front (Answer line bytes ∷ [])) in
    let both = last_same (base ++ new) (base ++ front) (told_of now happening turn.bytes) (Answer line bytes) (sym e ∙ all) in
    let a = answers_line now happening turn line bytes both.1 in
    let answered : turn_of now a.line a.answers ≡ Some turn = subst (λ (x : Happening). leads_to now x ≡ Some turn) a.is leads in
    let c = lists_are_current k events n first.standing began sent (base ++ front) now u client a.line line tag command a.answers turn w ending s h is short stands
    (subst (λ (t : List Told). Lives k n first.standing began sent t now u) both.0 lives) knows answered met a.came reads shows (a.wrote ∙ wrote) at in
    (c.0, ap (hears_all None) (all ∙ ap (λ (b : List ℕ). (base ++ front) ++ Answer line b ∷ []) (sym a.wrote)) ∙ c.1, c.2)

-- and so it is where that came to no command
fresh_done : (k : Config) (events : List Event) (n : ℕ) (first : Came) (began : World) (base told more : List Told) (w : World) → HasSmallNumbers k → IsWorld k events began → HasShortTexts w → Stands first.standing → AreTagsOf IsWord first.standing
    → told ≡ base ++ more → Fresh k n first began base told w → (front : List Told) (tag words bytes : List ℕ) (client : Reader) (s : Session) → more ≡ front ++ Words bytes ∷ []
    → EndsWith tag (codes "OK " ++ words) bytes → hears_all None (base ++ front) ≡ Some client → w.session n ≡ Some s
    → (list : List Known) × (hears_all None told ≡ Some (knowing (Some list))) × IsRight (messages_of (w.box s.mailbox)) list
fresh_done k events n first began base told more w h is short stands tags grown (untold e) front tag words bytes client s last ends knows at =
    absurd (omega (arith, ap length (sym e ∙ grown), length-append base more, ap length last, length-append front (Words bytes ∷ [])))
fresh_done k events n first began base told more w h is short stands tags grown (turned new sent now u lives happening turn printed e leads met) front tag words bytes client s last ends knows at =
    let all : told ≡ (base ++ front) ++ Words bytes ∷ [] = grown ∙ ap (λ (x : List Told). base ++ x) last ∙ sym (append_assoc base front (Words bytes ∷ [])) in
    let both = last_same (base ++ new) (base ++ front) (told_of now happening turn.bytes) (Words bytes) (sym e ∙ all) in
    let wrote : bytes ≡ turn.bytes = sym (ap bytes_in both.1) ∙ told_bytes now happening turn.bytes in
    let c = words_make_current k events n first.standing began sent (base ++ front) now u client happening turn w bytes s h is short stands tags
    (subst (λ (t : List Told). Lives k n first.standing began sent t now u) both.0 lives) knows printed leads met both.1 wrote (tag, words, ends) at in
    (c.0, ap (hears_all None) all ∙ c.1, c.2)

-- ---- the entry

-- a client that was told this
record TellsThis (k : Setup) (place : ℕ) (a : Arrival) (sent shown : List ℕ) (w : World) (v : Visitor) (told : List Told) : Type 0 where
  pub client : Client k place a sent shown w v
  pub is : client.reached.talked.told ≡ told

abbrev the_one : SeatedVisitor → Option SeatedVisitor → SeatedVisitor
the_one d None = d
the_one d (Some v) = v

-- the same, of what is equal
moved_to : (k : Setup) (place : ℕ) (a other : Arrival) (sent more shown now : List ℕ) (w u : World) (v after : SeatedVisitor) (told : List Told) → other ≡ a → more ≡ sent → now ≡ shown → u ≡ w → after ≡ v
    → TellsThis k place a sent shown w v.session told → TellsThis k place other more now u after.session told
moved_to k place a other sent more shown now w u v after told e f g h i this = rw (e, f, g, h, i) this

its_lines : (place number : ℕ) (lines : List (List ℕ)) → number ≡ place + 1 → shown_in place (Lines number lines) ≡ joined lines
its_lines place number lines own = rw (own, eq-eqb (place + 1) (place + 1) refl) refl

-- a session that is there behind the entry hasn't ended
still_there : (k : Setup) (s t : Scene) (place : ℕ) (heard : List Noted) (w : World) (b v : SeatedVisitor) (later : World) (left : Option SeatedVisitor) (printed : List ℕ) → (g : SessionTalks k false place heard w b later left printed)
    → t ≡ with_visitor (with_world s later) place left → t.visitor place ≡ Some v → (t.world ≡ g.mid) × (v ≡ g.after)
still_there k s t place heard w b v later left printed g after there = by g.left
  where
    here : left ≡ Some v
    here = sym (set_at-same s.visitor place left) ∙ sym (ap (λ (x : Scene). x.visitor place) after) ∙ there

    by : Parts k false place g.after g.mid later left → (t.world ≡ g.mid) × (v ≡ g.after)
    by (parts over said leaves e) = absurd (none-some v (sym e ∙ here))
    by (remains not e f) = (ap (λ (x : Scene). x.world) after ∙ e, ap (the_one v) (sym here ∙ f))

-- what is known of all places behind some entries
abbrev Known_then : Setup → List Entry → Scene → Type 0
Known_then k entries s = SceneKnown k (λ n. arrival_by_then n nobody (empty_scene k) entries) (λ n. sent_by_then n [] entries) (λ n. shown_by_then n [] entries) s

-- A session talks at an entry, from a world to which that leads: its client was told so much before, and this came and was printed.
talk_current : (k : Setup) (entries : List Entry) (s t : Scene) (event : house.Event) (piece : Piece) (q : ℕ) (before v b : SeatedVisitor) (moved later : World) (left : Option SeatedVisitor) (printed new more : List ℕ) → IsPrintable k → IsRecord k entries (empty_scene k) s
    → IsEntry k s (record { event = event; after = t; piece = piece }) → lets_in q event ≡ false → is_left q event ≡ false → sent_in q event ≡ more → shown_in q piece ≡ new
    → Client k q (arrival_by_then q nobody (empty_scene k) entries) (sent_by_then q [] entries ++ more) (shown_by_then q [] entries) moved b.session
    → b.session.unsaid ≡ before.session.unsaid → IsHere k.config (session_seat k q) (arrival_by_then q nobody (empty_scene k) entries).serial moved b → AreHeardSmall (moved.heard (session_seat k q))
    → (g : SessionTalks k false q (moved.heard (session_seat k q)) moved b later left printed) → new ++ g.speaks.still ≡ b.session.unsaid ++ g.speaks.said
    → t ≡ with_visitor (with_world s later) q left → t.visitor q ≡ Some v → AnswersAt k entries (record { event = event; after = t; piece = piece }) q before v
talk_current k entries s t event piece q before v b moved later left printed new more printable r is lets goes came shown c same own small g fit after there =
    let e : Entry = record { event = event; after = t; piece = piece } in
    let a : Arrival = arrival_by_then q nobody (empty_scene k) entries in
    let sent : List ℕ = sent_by_then q [] entries in
    let told_so : List ℕ = shown_by_then q [] entries in
    let base : List Told = c.reached.talked.told in
    let first : Came = came_as k q a in
    let heard : List Noted = moved.heard (session_seat k q) in
    let start : Lately k.config q first a.began base (sent ++ more) c.said b.session moved = record {
      sent = c.reached.sent;
      since = record { talked = c.reached.talked; fresh = untold refl };
      waits = c.reached.waits;
    } in
    let l = goes_lately k.config q false (session_seat k q) heard first a.began base (sent ++ more) c.said b g.speaks.spoken moved g.mid g.speaks.said (heeds k q b a moved small own) g.speaks.goes start in
    let still : SeatedVisitor = still_unsaid g.speaks.still g.speaks.spoken in
    let whole : IsWhole (b.session.unsaid ++ g.speaks.said) =
    whole_append b.session.unsaid g.speaks.said c.whole (goes_whole (Meets k.config q) false (session_seat k q) heard b moved g.mid g.speaks.spoken g.speaks.said g.speaks.goes) in
    let told : List Told = l.since.talked.told in
    let d : Client k q a (sent ++ more) (told_so ++ new) g.mid still.session = record {
      events = c.events;
      came = c.came;
      said = c.said ++ g.speaks.said;
      reached = record { sent = l.sent; talked = l.since.talked; waits = l.waits };
      printed = regroup (first_words k a.user) c.said g.speaks.said told_so b.session.unsaid c.printed ∙ ap (λ (x : List ℕ). told_so ++ x) (sym fit) ∙ sym (append_assoc told_so new g.speaks.still);
      whole = still_whole (q + 1) (b.session.unsaid ++ g.speaks.said) g.speaks.still printed whole g.speaks.prints;
    } in
    let at = still_there k s t q heard moved b v later left printed g after there in
    let this : TellsThis k q a (sent ++ more) (told_so ++ new) g.mid still.session told = record { client = d; is = refl } in
    let sent_is : sent_by_then q [] (entries ++ e ∷ []) ≡ sent ++ more = sent_more q [] entries e ∙ ap (λ (x : Bool). unless x sent ++ sent_in q event) lets ∙ ap (λ (x : List ℕ). sent ++ x) came in
    let shown_is : shown_by_then q [] (entries ++ e ∷ []) ≡ told_so ++ new = shown_more q [] entries e ∙ ap (λ (x : Bool). unless x told_so ++ shown_in q piece) lets ∙ ap (λ (x : List ℕ). told_so ++ x) shown in
    let seen : TellsThis k q (arrival_by_then q nobody (empty_scene k) (entries ++ e ∷ [])) (sent_by_then q [] (entries ++ e ∷ [])) (shown_by_then q [] (entries ++ e ∷ [])) t.world v.session told =
    moved_to k q a (arrival_by_then q nobody (empty_scene k) (entries ++ e ∷ [])) (sent ++ more) (sent_by_then q [] (entries ++ e ∷ [])) (told_so ++ new) (shown_by_then q [] (entries ++ e ∷ [])) g.mid t.world still v told
    (arrival_more q nobody (empty_scene k) entries e lets goes) sent_is shown_is at.0 (at.1 ∙ g.speaks.is) this in
    let all : IsRecord k (entries ++ e ∷ []) (empty_scene k) t = record_append k entries (e ∷ []) (empty_scene k) s t r (is, refl) in
    let kb : KeepsBy k (entries ++ e ∷ []) q v t seen.client.reached.talked.told = keeps_by k (entries ++ e ∷ []) t q v printable all seen.client in
    let same_told : kb.keeps.told ≡ told = kb.is ∙ seen.is in
    let grown = fresh_grown k.config q first a.began base told g.mid l.since.fresh in
    let short : HasShortTexts g.mid = subst (λ (w : World). HasShortTexts w) at.0 (texts_stay_short k (entries ++ e ∷ []) t printable.texts all) in record {
      keeps = kb.keeps;
      earlier = base;
      more = grown.0;
      told = same_told ∙ grown.1;
      printed = ap (λ (x : List ℕ). first_words k a.user ++ x) c.reached.talked.bytes ∙ c.printed ∙ ap (λ (x : List ℕ). told_so ++ x) same;
      current = λ front line tag words ending command client x last reads shows wrote knows session.
          let here = fresh_current k.config c.events q first a.began base told grown.0 g.mid printable.numbers c.came short (first_stands k a.user printable) grown.1 l.since.fresh front line tag words ending command client x last reads shows wrote knows
          (sym (ap (λ (w : World). w.session q) at.0) ∙ session) in
          (here.0, ap (hears_all None) same_told ∙ here.1, subst (λ (w : World). IsRight (messages_of (w.box x.mailbox)) here.0) (sym at.0) here.2);
      done = λ front tag words bytes client x last ends knows session.
          let here = fresh_done k.config c.events q first a.began base told grown.0 g.mid printable.numbers c.came short (first_stands k a.user printable) (tt, tt, tt) grown.1 l.since.fresh front tag words bytes client x last ends knows
          (sym (ap (λ (w : World). w.session q) at.0) ∙ session) in
          (here.0, ap (hears_all None) same_told ∙ here.1, subst (λ (w : World). IsRight (messages_of (w.box x.mailbox)) here.0) (sym at.0) here.2);
    }

-- who is there is who was there
of_before : (k : Setup) (entries : List Entry) (s : Scene) (e : Entry) (place : ℕ) (before b v : SeatedVisitor) → s.visitor place ≡ Some before → s.visitor place ≡ Some b → AnswersAt k entries e place b v → AnswersAt k entries e place before v
of_before k entries s e place before b v there other answers = subst (λ (x : SeatedVisitor). AnswersAt k entries e place x v) (ap (the_one b) (sym other ∙ there)) answers

-- ---- its client's bytes

says_current : (k : Setup) (entries : List Entry) (s t : Scene) (session : ℕ) (bytes : Bor (List ℕ)) (piece : Piece) (v : SeatedVisitor) (printed new : List ℕ) → IsPrintable k → IsRecord k entries (empty_scene k) s
    → IsEntry k s (record { event = Say session bytes; after = t; piece = piece }) → (p : SayPlay k false s (place_of session) bytes.now t printed) → shown_in (place_of session) piece ≡ new
    → (IsWhole p.visitor.session.unsaid → new ++ p.goes.speaks.still ≡ p.visitor.session.unsaid ++ p.goes.speaks.said) → t.visitor (place_of session) ≡ Some v
    → AnswersAt k entries (record { event = Say session bytes; after = t; piece = piece }) (place_of session) p.visitor v
says_current k entries s t session bytes piece v printed new printable r is p shown fits left =
    let q : ℕ = place_of session in
    let K : Known_then k entries s = all_known k entries s printable.numbers r in
    let c = the_client k (λ n. arrival_by_then n nobody (empty_scene k) entries) (λ n. sent_by_then n [] entries) (λ n. shown_by_then n [] entries) s q p.visitor K p.there p.is_read in
    let own = the_serial k (λ n. arrival_by_then n nobody (empty_scene k) entries) (λ n. sent_by_then n [] entries) (λ n. shown_by_then n [] entries) s q p.visitor K p.there in
    let more = client_more k q (arrival_by_then q nobody (empty_scene k) entries) (sent_by_then q [] entries) (shown_by_then q [] entries) bytes.now s.world p.visitor.session c in
    talk_current k entries s t (Say session bytes) piece q p.visitor v (with_session (session_more_waits p.visitor.session bytes.now) p.visitor) s.world p.moved p.left printed new bytes.now printable r is refl refl (sent_here session bytes.now) shown more refl
    (here_as k.config (session_seat k q) (arrival_by_then q nobody (empty_scene k) entries).serial s.world p.visitor (with_session (session_more_waits p.visitor.session bytes.now) p.visitor) refl refl refl own)
    (heard_small k.config K.events s.world (session_seat k q) printable.numbers K.came) p.goes (fits c.whole) p.after left

pub answers_make_current : AnswersMakeCurrent
answers_make_current k entries s t session bytes piece before v printable r is there left = by piece is
  where
    by : (piece : Piece) → IsEntry k s (record { event = Say session bytes; after = t; piece = piece }) → AnswersAt k entries (record { event = Say session bytes; after = t; piece = piece }) (place_of session) before v
    by Silence is =
        let p = is.plays in
        let g = p.goes.speaks in
        of_before k entries s (record { event = Say session bytes; after = t; piece = Silence }) (place_of session) before p.visitor v there p.there (says_current k entries s t session bytes Silence v [] [] printable r is p refl
        (λ whole. fits_silence (place_of session + 1) (p.visitor.session.unsaid ++ g.said) g.still []
        (whole_append p.visitor.session.unsaid g.said whole (goes_whole _ false (session_seat k (place_of session)) _ _ s.world p.goes.mid g.spoken g.said g.goes)) refl g.prints) left)
    by (Lines number lines) is =
        let own : number ≡ place_of session + 1 = is.own.0 in
        let p = is.own.1 in
        let g = p.goes.speaks in
        of_before k entries s (record { event = Say session bytes; after = t; piece = Lines number lines }) (place_of session) before p.visitor v there p.there
        (says_current k entries s t session bytes (Lines number lines) v (text_of k (Lines number lines)) (joined lines) printable r is p (its_lines (place_of session) number lines own)
        (λ whole. fits_lines k (place_of session + 1) (p.visitor.session.unsaid ++ g.said) g.still lines is.own.2 (prints_at k (place_of session) number (p.visitor.session.unsaid ++ g.said) g.still lines own g.prints)) left)
    by (Replies seat said) is = absurd is.own

-- ---- a copy of it is put, or its seat hears a verdict

-- from the world to which that leads
step_current : (k : Setup) (entries : List Entry) (s t : Scene) (event : house.Event) (piece : Piece) (q : ℕ) (visitor v b : SeatedVisitor) (moves : Event) (moved later : World) (left : Option SeatedVisitor) (printed new : List ℕ) → IsPrintable k → IsRecord k entries (empty_scene k) s
    → IsEntry k s (record { event = event; after = t; piece = piece }) → lets_in q event ≡ false → is_left q event ≡ false → sent_in q event ≡ [] → shown_in q piece ≡ new
    → s.visitor q ≡ Some visitor → visitor.gone ≡ false → b.session ≡ visitor.session → (IsHere k.config (session_seat k q) (arrival_by_then q nobody (empty_scene k) entries).serial s.world visitor → IsHere k.config (session_seat k q) (arrival_by_then q nobody (empty_scene k) entries).serial moved b) → IsOfOthers q moves → Step k.config s.world moves moved
    → (g : SessionTalks k false q (moved.heard (session_seat k q)) moved b later left printed) → (IsWhole b.session.unsaid → new ++ g.speaks.still ≡ b.session.unsaid ++ g.speaks.said)
    → t ≡ with_visitor (with_world s later) q left → t.visitor q ≡ Some v → AnswersAt k entries (record { event = event; after = t; piece = piece }) q visitor v
step_current k entries s t event piece q visitor v b moves moved later left printed new printable r is lets goes came shown at read same alike own step g fits after there =
    let K : Known_then k entries s = all_known k entries s printable.numbers r in
    let a : Arrival = arrival_by_then q nobody (empty_scene k) entries in
    let sent : List ℕ = sent_by_then q [] entries in
    let shown_so : List ℕ = shown_by_then q [] entries in
    let c0 = the_client k (λ n. arrival_by_then n nobody (empty_scene k) entries) (λ n. sent_by_then n [] entries) (λ n. shown_by_then n [] entries) s q visitor K at read in
    let c1 = client_others k q a sent shown_so s.world visitor.session moves moved c0 own step in
    let c : Client k q a sent shown_so moved b.session = subst (λ (x : Visitor). Client k q a sent shown_so moved x) (sym same) c1 in
    let d : Client k q a (sent ++ []) shown_so moved b.session = subst (λ (x : List ℕ). Client k q a x shown_so moved b.session) (sym (append-nil sent)) c in
    let serial = the_serial k (λ n. arrival_by_then n nobody (empty_scene k) entries) (λ n. sent_by_then n [] entries) (λ n. shown_by_then n [] entries) s q visitor K at in
    let world : IsWorld k.config (K.events ++ moves ∷ []) moved = steps_join k.config empty_world K.events s.world (moves ∷ []) moved K.came (moved, step, refl) in
    talk_current k entries s t event piece q visitor v b moved later left printed new [] printable r is lets goes came shown d (ap (λ (x : Visitor). x.unsaid) same) (alike serial)
    (heard_small k.config (K.events ++ moves ∷ []) moved (session_seat k q) printable.numbers world) g (fits d.whole) after there

-- nothing was printed of it
silence_fits : (k : Setup) (q : ℕ) (heard : List Noted) (w : World) (b : SeatedVisitor) (later : World) (left : Option SeatedVisitor) → (g : SessionTalks k false q heard w b later left []) → IsWhole b.session.unsaid → [] ++ g.speaks.still ≡ b.session.unsaid ++ g.speaks.said
silence_fits k q heard w b later left g whole =
    fits_silence (q + 1) (b.session.unsaid ++ g.speaks.said) g.speaks.still [] (whole_append b.session.unsaid g.speaks.said whole (goes_whole _ false (session_seat k q) heard b w g.mid g.speaks.spoken g.speaks.said g.speaks.goes)) refl g.speaks.prints

-- these lines were
lines_fit : (k : Setup) (q number : ℕ) (heard : List Noted) (w : World) (b : SeatedVisitor) (later : World) (left : Option SeatedVisitor) (lines : List (List ℕ)) → number ≡ q + 1 → (g : SessionTalks k false q heard w b later left (text_of k (Lines number lines)))
    → IsCut (b.session.unsaid ++ g.speaks.said) lines [] → IsWhole b.session.unsaid → joined lines ++ g.speaks.still ≡ b.session.unsaid ++ g.speaks.said
lines_fit k q number heard w b later left lines own g cut whole = fits_lines k (q + 1) (b.session.unsaid ++ g.speaks.said) g.speaks.still lines cut (prints_at k q number (b.session.unsaid ++ g.speaks.said) g.speaks.still lines own g.speaks.prints)

talks_there : (k : Setup) (q : ℕ) (heard : List Noted) (w : World) (b : SeatedVisitor) (later : World) (left : Option SeatedVisitor) (printed : List ℕ) → b.gone ≡ false → SessionGoes k false q heard w b later left printed
    → SessionTalks k false q heard w b later left printed
talks_there k q heard w b later left printed there (talks l g) = g
talks_there k q heard w b later left printed there (lingers gone g e f) = absurd (false≢true (sym there ∙ gone))

put_current : (k : Setup) (entries : List Entry) (s t : Scene) (number q : ℕ) (piece : Piece) (v : SeatedVisitor) (printed new : List ℕ) → IsPrintable k → IsRecord k entries (empty_scene k) s → IsEntry k s (record { event = Put number; after = t; piece = piece })
    → (p : SessionPuts k false s q t printed) → p.visitor.gone ≡ false → shown_in q piece ≡ new
    → (g : SessionTalks k false q (p.moved.heard (session_seat k q)) p.moved (record { session = p.visitor.session; serial = p.visitor.serial; gone = p.visitor.gone; to_put = p.others }) p.later p.left printed)
    → (IsWhole p.visitor.session.unsaid → new ++ g.speaks.still ≡ p.visitor.session.unsaid ++ g.speaks.said) → t.visitor q ≡ Some v → AnswersAt k entries (record { event = Put number; after = t; piece = piece }) q p.visitor v
put_current k entries s t number q piece v printed new printable r is p read shown g fits there =
    step_current k entries s t (Put number) piece q p.visitor v (record { session = p.visitor.session; serial = p.visitor.serial; gone = p.visitor.gone; to_put = p.others })
    (world.Put (session_seat k q) (world.shard_of k.config p.copy.mailbox) p.copy) p.moved p.later p.left printed new printable r is refl refl refl shown p.there read refl
    (λ here. put_here k.config (session_seat k q) (arrival_by_then q nobody (empty_scene k) entries).serial s.world p.moved p.visitor p.copy p.others p.front p.step here) tt p.step g fits p.after there

hear_current : (k : Setup) (entries : List Entry) (s t : Scene) (number q : ℕ) (piece : Piece) (v : SeatedVisitor) (printed new : List ℕ) → IsPrintable k → IsRecord k entries (empty_scene k) s → IsEntry k s (record { event = Hear number; after = t; piece = piece })
    → (p : SessionHears k false s q t printed) → p.visitor.gone ≡ false → shown_in q piece ≡ new → (g : SessionTalks k false q (p.moved.heard (session_seat k q)) p.moved p.visitor p.later p.left printed)
    → (IsWhole p.visitor.session.unsaid → new ++ g.speaks.still ≡ p.visitor.session.unsaid ++ g.speaks.said) → t.visitor q ≡ Some v → AnswersAt k entries (record { event = Hear number; after = t; piece = piece }) q p.visitor v
hear_current k entries s t number q piece v printed new printable r is p read shown g fits there =
    step_current k entries s t (Hear number) piece q p.visitor v p.visitor (world.Hear (session_seat k q)) p.moved p.later p.left printed new printable r is refl refl refl shown p.there read refl
    (λ here. here_step k.config (session_seat k q) (arrival_by_then q nobody (empty_scene k) entries).serial s.world (world.Hear (session_seat k q)) p.moved p.visitor p.step here) tt p.step g fits p.after there

still_read : (s : Scene) (q : ℕ) (before b : SeatedVisitor) → s.visitor q ≡ Some before → s.visitor q ≡ Some b → before.gone ≡ false → b.gone ≡ false
still_read s q before b there other read = subst (λ (x : SeatedVisitor). x.gone ≡ false) (sym (ap (the_one b) (sym other ∙ there))) read

puts_current : (k : Setup) (entries : List Entry) (s t : Scene) (place number : ℕ) (piece : Piece) (before v : SeatedVisitor) → IsPrintable k → IsRecord k entries (empty_scene k) s → IsEntry k s (record { event = Put number; after = t; piece = piece })
    → seat_of number ≡ session_seat k place → s.visitor place ≡ Some before → before.gone ≡ false → t.visitor place ≡ Some v → AnswersAt k entries (record { event = Put number; after = t; piece = piece }) place before v
puts_current k entries s t place number piece before v printable r is seat there read left = by piece is
  where
    silent : IsEntry k s (record { event = Put number; after = t; piece = Silence }) → PutPlay k false s (seat_of number) t [] → AnswersAt k entries (record { event = Put number; after = t; piece = Silence }) place before v
    silent is (connection_puts few p) = absurd (omega (arith, few, seat))
    silent is (session_puts q e p) = of_q (let f : session_seat k q ≡ session_seat k place = sym e ∙ seat in omega (arith, f)) p
      where
        of_q : q ≡ place → SessionPuts k false s q t [] → AnswersAt k entries (record { event = Put number; after = t; piece = Silence }) place before v
        of_q same p0 =
            let p : SessionPuts k false s place t [] = subst (λ (n : ℕ). SessionPuts k false s n t []) same p0 in
            let here : p.visitor.gone ≡ false = still_read s place before p.visitor there p.there read in
            let g = talks_there k place _ _ _ _ _ [] here p.goes in
            of_before k entries s (record { event = Put number; after = t; piece = Silence }) place before p.visitor v there p.there (put_current k entries s t number place Silence v [] [] printable r is p here refl g (silence_fits k place _ _ _ _ _ g) left)

    by : (piece : Piece) → IsEntry k s (record { event = Put number; after = t; piece = piece }) → AnswersAt k entries (record { event = Put number; after = t; piece = piece }) place before v
    by Silence is = silent is is.plays
    by (Replies p said) is = absurd (let own = is.own in let few = own.1 in let at = own.0 in omega (arith, few, at, seat))
    by (Lines n lines) is = of_q (let own = is.own in let f : session_seat k own.place ≡ session_seat k place = sym own.seat ∙ seat in omega (arith, f))
      where
        of_q : is.own.place ≡ place → AnswersAt k entries (record { event = Put number; after = t; piece = Lines n lines }) place before v
        of_q same =
            subst (λ (q : ℕ). s.visitor q ≡ Some before → t.visitor q ≡ Some v → AnswersAt k entries (record { event = Put number; after = t; piece = Lines n lines }) q before v) same
            (λ at then.
            let own = is.own in
            let p = own.puts in
            of_before k entries s (record { event = Put number; after = t; piece = Lines n lines }) own.place before p.visitor v at p.there (put_current k entries s t number own.place (Lines n lines) v (text_of k (Lines n lines)) (joined lines) printable r is p
            (still_read s own.place before p.visitor at p.there read) (its_lines own.place n lines own.own) own.talks (lines_fit k own.place n _ _ _ _ _ lines own.own own.talks own.cut) then)) there left

hears_current : (k : Setup) (entries : List Entry) (s t : Scene) (place number : ℕ) (piece : Piece) (before v : SeatedVisitor) → IsPrintable k → IsRecord k entries (empty_scene k) s → IsEntry k s (record { event = Hear number; after = t; piece = piece })
    → seat_of number ≡ session_seat k place → s.visitor place ≡ Some before → before.gone ≡ false → t.visitor place ≡ Some v → AnswersAt k entries (record { event = Hear number; after = t; piece = piece }) place before v
hears_current k entries s t place number piece before v printable r is seat there read left = by piece is
  where
    silent : IsEntry k s (record { event = Hear number; after = t; piece = Silence }) → HearPlay k false s (seat_of number) t [] → AnswersAt k entries (record { event = Hear number; after = t; piece = Silence }) place before v
    silent is (connection_hears few p) = absurd (omega (arith, few, seat))
    silent is (session_hears q e p) = of_q (let f : session_seat k q ≡ session_seat k place = sym e ∙ seat in omega (arith, f)) p
      where
        of_q : q ≡ place → SessionHears k false s q t [] → AnswersAt k entries (record { event = Hear number; after = t; piece = Silence }) place before v
        of_q same p0 =
            let p : SessionHears k false s place t [] = subst (λ (n : ℕ). SessionHears k false s n t []) same p0 in
            let here : p.visitor.gone ≡ false = still_read s place before p.visitor there p.there read in
            let g = talks_there k place _ _ _ _ _ [] here p.goes in
            of_before k entries s (record { event = Hear number; after = t; piece = Silence }) place before p.visitor v there p.there (hear_current k entries s t number place Silence v [] [] printable r is p here refl g (silence_fits k place _ _ _ _ _ g) left)

    by : (piece : Piece) → IsEntry k s (record { event = Hear number; after = t; piece = piece }) → AnswersAt k entries (record { event = Hear number; after = t; piece = piece }) place before v
    by Silence is = silent is is.plays
    by (Replies p said) is = absurd (let own = is.own in let few = own.1 in let at = own.0 in omega (arith, few, at, seat))
    by (Lines n lines) is = of_q (let own = is.own in let f : session_seat k own.place ≡ session_seat k place = sym own.seat ∙ seat in omega (arith, f))
      where
        of_q : is.own.place ≡ place → AnswersAt k entries (record { event = Hear number; after = t; piece = Lines n lines }) place before v
        of_q same =
            subst (λ (q : ℕ). s.visitor q ≡ Some before → t.visitor q ≡ Some v → AnswersAt k entries (record { event = Hear number; after = t; piece = Lines n lines }) q before v) same
            (λ at then.
            let own = is.own in
            let p = own.hears in
            of_before k entries s (record { event = Hear number; after = t; piece = Lines n lines }) own.place before p.visitor v at p.there (hear_current k entries s t number own.place (Lines n lines) v (text_of k (Lines n lines)) (joined lines) printable r is p
            (still_read s own.place before p.visitor at p.there read) (its_lines own.place n lines own.own) own.talks (lines_fit k own.place n _ _ _ _ _ lines own.own own.talks own.cut) then)) there left

pub verdicts_make_current : VerdictsMakeCurrent
verdicts_make_current k entries s t place (Put number) piece before v printable r is on there read left = puts_current k entries s t place number piece before v printable r is on there read left
verdicts_make_current k entries s t place (Hear number) piece before v printable r is on there read left = hears_current k entries s t place number piece before v printable r is on there read left
verdicts_make_current k entries s t place _ piece before v printable r is on there read left = absurd on
