-- Over a whole record no text that is put is too long: of connections, sessions, lanes and mailboxes.
use Rattle.std.proofs.Common.{◌≡◌, ℕ, ◌+◌, ◌≤◌, ◌<◌, ◌^◌, Bool, false, true, List, [], ◌∷◌, length, refl, sym, subst, ap, ◌∙◌, arith}
use Rattle.std.specs.Prelude.{Option, Some, None, IfSome}
use Rattle.shard_queue.specs.Lane.{set_at}
use Rattle.shard_queue.proofs.AtLaws.{at_each}
use Rattle.change_ring.specs.declared.change.Flags.{Flags}
use Rattle.delivery_token.specs.declared.CopyKey.{CopyKey}
use Rattle.delivery_token.specs.Text.{Text}
use Rattle.delivery_token.specs.declared.Job.{Job}
use Rattle.delivery_token.specs.declared.log.Noted.{Noted}
use Rattle.delivery_token.specs.Copies.{copies}
use Rattle.world.specs.World as world
use Rattle.world.specs.World.{Config, Event, World}
use Rattle.world.proofs.Base.{Every, every_append}
use Rattle.lmtp_machine.specs.declared.connection.What.{What}
use Rattle.lmtp_machine.specs.Dialogue as dialogue
use Rattle.lmtp_machine.specs.Dialogue.{Submission}
use Rattle.house_peers.specs.Caller as connection
use Rattle.house_peers.specs.Caller.{Caller, Proceeds, Terms, Works, copies_of, greeted, more_waits, setting_of, with_unsaid}
use Rattle.house_peers.specs.inner.Meeting.{meets}
use Rattle.imap_session.specs.declared.standing.After.{After}
use Rattle.imap_session.specs.Exchange as calls
use Rattle.imap_session.specs.Exchange.{PendingLiteral, Sent, Standing, is_idling}
use Rattle.imap_session.specs.Commands.{due_of, most_return_path}
use Rattle.imap_session.specs.Store.{Met}
use Rattle.imap_session.specs.Dialogue as imap
use Rattle.imap_session.specs.Dialogue.{AnswersLine, AnswersOne, Converses, Sends, goes_on, parts as ends_with, reads, silent, too_long}
use Rattle.house.specs.Meets.{Meets}
use Rattle.imap_session.specs.Folders.{folders_of, admission_of}
use Rattle.house_peers.specs.Visitor as seated
use Rattle.house_peers.specs.Visitor.{GoesOn, SeatedVisitor, seated_greeted}
use Rattle.house.specs.Setup.{Setup, session_seat, terms_of, admitted_in}
use Rattle.house.specs.Printing.{ConnectionGoes, Leaves, goes, stays, with_session}
use Rattle.house.specs.inner.Printing.{still_unsaid}
use Rattle.house.specs.Scene as scene
use Rattle.house.specs.Scene.{BytesPlay, EnterPlay, HearPlay, IdlePlay, LeavePlay, Lingers, Parts, Plays, PutPlay, SayPlay, Scene, SessionGoes, SessionTalks, VanishPlay, connection_hears, connection_puts, empty_scene, opens, goes_on as scene_goes_on, parts, place_of, remains, seat_of, session_hears, session_puts, waits, fades}
use Rattle.house.specs.declared.event.Event as house
use Rattle.house.specs.declared.event.Event.TheVariants.{Bytes, Vanish, Put, Take, Deliver, Answer, Hear, End, Close, Enter, Say, Idle, Leave}
use Rattle.house.proofs.Carried.{speaks_carried}
use Rattle.exactly_once.specs.Promise.{Entry, IsRecord, text_of}
use Rattle.laws_client.proofs.Dialogues.{AreTextsShort, IsSenderShort, dialogue_fine, event_fine}
use Rattle.laws_client.proofs.Mailed.{IsMailShort, bytes_mail, idle_mail, line_mail, long_mail, verdict_mail, OriginFits}
use Rattle.laws_client.proofs.Moved.{Calls, Moved, moved, rested, stepped}
use Rattle.laws_client.proofs.Texts.{AreShort, IsJobShort, PutsShort, short_empty, short_step}

-- ---- copies

fits : (most n : ℕ) → most < 2 ^ 31 → n ≤ most + most_return_path → n < 2 ^ 32
fits most n small h = omega (arith, small, h)

copies_short : (keys : List CopyKey) (mailboxes : List ℕ) (text : Text) (flags : Flags) → length text.bytes < 2 ^ 32 → Every IsJobShort (copies keys mailboxes text flags)
copies_short [] mailboxes text flags h = tt
copies_short (key ∷ keys) [] text flags h = tt
copies_short (key ∷ keys) (m ∷ mailboxes) text flags h = (h, copies_short keys mailboxes text flags h)

all_short : (most : ℕ) (ss : List Submission) → most < 2 ^ 31 → AreTextsShort most ss → Every IsJobShort (copies_of ss)
all_short most [] small h = tt
all_short most (s ∷ ss) small h = every_append IsJobShort (copies s.keys s.mailboxes s.text _) (copies_of ss) (copies_short s.keys s.mailboxes s.text _ (fits most (length s.text.bytes) small h.0)) (all_short most ss small h.1)

-- ---- connections

pub record ConnectionShort (b : Caller) : Type 0 where
  pub to_put : Every IsJobShort b.to_put
  pub sender : IsSenderShort b.talk.at.standing.phase

abbrev pub CallerShort : Option Caller → Type 0
CallerShort None = Unit {0}
CallerShort (Some b) = ConnectionShort b

works_short : (k : Terms) (whole : Bool) (seat : ℕ) (b : Caller) (what : What) (after : Caller) → k.max_message < 2 ^ 31 → ConnectionShort b → Works k whole seat b what after → ConnectionShort after
works_short k whole seat b what after small B w =
    let leads = w.works.leads in
    let fine = dialogue_fine (setting_of k seat b.serial) k.directory b.talk.at.standing leads.events B.sender in
    subst ConnectionShort (sym w.is) (record {
      to_put = subst (λ (t : dialogue.Turn). Every IsJobShort (copies_of t.submissions)) (sym leads.turns) (all_short k.max_message _ small fine.texts);
      sender = subst (λ (s : dialogue.Standing). IsSenderShort s.phase) (sym (leads.stands ∙ ap (λ (t : dialogue.Turn). t.standing) leads.turns)) fine.sender;
    })

meets_short : (k : Terms) (seat : ℕ) (b : Caller) (e : dialogue.Event) → IsSenderShort b.talk.at.standing.phase → ConnectionShort (meets k seat b e)
meets_short k seat b e h = record { to_put = tt; sender = (event_fine (setting_of k seat b.serial) k.directory b.talk.at.standing e h).sender }

connection_on : (k : Terms) (whole : Bool) (seat : ℕ) (heard : List Noted) (b : Caller) (what : What) (after : Caller) → k.max_message < 2 ^ 31 → ConnectionShort b → connection.GoesOn k whole seat heard b what after → ConnectionShort after
connection_on k whole seat heard b what after small B (connection.works p w) = works_short k whole seat b what after small B w
connection_on k whole seat heard b what after small B (connection.waits p n w e) = rw e B
connection_on k whole seat heard b what after small B (connection.answers vs p a w) = works_short k whole seat (meets k seat b (dialogue.Answered vs)) what after small (meets_short k seat b (dialogue.Answered vs) B.sender) w
connection_on k whole seat heard b what after small B (connection.stalls p w e) = rw e B

proceeds_short : (k : Terms) (whole : Bool) (seat : ℕ) (heard : List Noted) (b : Caller) (what : What) (after : Caller) → k.max_message < 2 ^ 31 → ConnectionShort b → Proceeds k whole seat heard b what after → ConnectionShort after
proceeds_short k whole seat heard b what after small B (connection.talks g on) = connection_on k whole seat heard b what after small B on
proceeds_short k whole seat heard b what after small B (connection.lingers g u n w e) = rw e B
proceeds_short k whole seat heard b what after small B (connection.fades vs g u a w e) = rw e B

left_short : (whole : Bool) (what : What) (after : Caller) (o : Option Caller) → ConnectionShort after → Leaves whole what after o → CallerShort o
left_short whole what after o B (goes w u e) = rw e tt
left_short whole what after o B (stays a b e) = rw e B

goes_short : (k : Terms) (whole : Bool) (seat : ℕ) (heard : List Noted) (b : Caller) (o : Option Caller) (printed : List ℕ) → k.max_message < 2 ^ 31 → ConnectionShort b → ConnectionGoes k whole seat heard b o printed → CallerShort o
goes_short k whole seat heard b o printed small B g =
    let after = proceeds_short k whole seat heard b g.what g.after small B g.proceeds in
    left_short whole g.what (with_unsaid g.still g.after) o (record { to_put = after.to_put; sender = after.sender }) g.leaves

-- ---- sessions

pub record SessionShort (most : ℕ) (v : SeatedVisitor) : Type 0 where
  pub to_put : Every IsJobShort v.to_put
  pub mail : IsMailShort most v.session.standing.mailing

abbrev pub VisitorShort : ℕ → Option SeatedVisitor → Type 0
VisitorShort most None = Unit {0}
VisitorShort most (Some v) = SessionShort most v

call_short : (k : Config) (q : ℕ) (w : World) (call : calls.Call) (answer : calls.Answer) (v : World) → AreShort w → Meets k q w call answer v → AreShort v
call_short k q w call answer v S m = by (moved k q w call answer v m)
  where
    by : Moved k q w v → AreShort v
    by (rested e) = rw e S
    by (stepped e step own short) = short_step k w e v S short step

met_short : (k : Config) (q : ℕ) (w : World) (events : List calls.Event) (v : World) → AreShort w → Met (Calls k q) w events v → AreShort v
met_short k q w [] v S met = rw met S
met_short k q w (e ∷ events) v S (mid, one, more) = met_short k q mid events v (call_short k q w e.call e.answer mid S one) more

due_some : (n : ℕ) (begun : Option PendingLiteral) → n ≤ due_of begun → IfSome begun (λ a. n ≤ a.due)
due_some n None h = tt
due_some n (Some a) h = h

line_short : {S : Type 0} (step : S → calls.Call → calls.Answer → S → Type 0) (most : ℕ) (now : Standing) (line : List ℕ) (old new : S) (said : List ℕ) (how : After) (next : Standing) → AnswersLine step now line old new [] said how next
    → IsMailShort most now.mailing → IsMailShort most next.mailing
line_short step most now line old new said how next (reads few a) k = line_mail most now line a.answers (record { events = a.events; bytes = a.bytes; after = how; standing = next }) k a.played
line_short step most now line old new said how next (too_long many s w h e) k = subst (λ (x : Standing). IsMailShort most x.mailing) (sym e) (long_mail most now k)

one_short : {S : Type 0} (step : S → calls.Call → calls.Answer → S → Type 0) (most : ℕ) (now : Standing) (one : Sends) (old new : S) (said : List ℕ) (how : After) (next : Standing) → AnswersOne step now one old new [] said how next
    → IsMailShort most now.mailing → IsMailShort most next.mailing
one_short step most now (imap.Line line) old new said how next a k = line_short step most now line old new said how next a.2 k
one_short step most now (imap.Bytes bytes) old new said how next a k =
    subst (λ (x : Standing). IsMailShort most x.mailing) (sym a.takes.1) (bytes_mail most now a.takes.0 bytes k (due_some (length bytes) now.mailing.begun a.due))

converses_short : {S : Type 0} (step : S → calls.Call → calls.Answer → S → Type 0) (most : ℕ) {now next : Standing} {sends : List Sends} {old new : S} {said : List ℕ} {how : After} → Converses step now sends old new said how next
    → IsMailShort most now.mailing → IsMailShort most next.mailing
converses_short step most (silent now old) k = k
converses_short step most (ends_with now next one old new said how stops a) k = one_short step most now one old new said how next a k
converses_short step most (goes_on now between next one others old mid new first second how follows a more) k = converses_short step most more (one_short step most now one old mid first _ between a k)

sent_short : (most seat serial : ℕ) (sent : Option Sent) → most < 2 ^ 31 → IfSome sent (λ s. (length s.append.text.bytes ≤ most + most_return_path) × OriginFits most s.origin) → Every IsJobShort (seated.copies_of seat serial sent)
sent_short most seat serial None small h = tt
sent_short most seat serial (Some s) small h = copies_short (seated.keys_of seat serial (Some s)) (s.append.mailbox ∷ []) s.append.text s.append.flags (fits most (length s.append.text.bytes) small h.0)

session_works : {S : Type 0} (step : S → calls.Call → calls.Answer → S → Type 0) (most seat : ℕ) (v : SeatedVisitor) (old new : S) (after : SeatedVisitor) (said : List ℕ) → most < 2 ^ 31 → IsMailShort most v.session.standing.mailing
    → seated.Works step seat v old new after said → SessionShort most after
session_works step most seat v old new after said small k w =
    let mail : IsMailShort most after.session.standing.mailing = converses_short step most w.answers.converses k in
    subst (SessionShort most) (sym w.is) (record { to_put = sent_short most seat v.serial (seated.sent_by after) small mail.sent; mail = mail })

session_on : {S : Type 0} (step : S → calls.Call → calls.Answer → S → Type 0) (most : ℕ) (whole : Bool) (seat : ℕ) (heard : List Noted) (v : SeatedVisitor) (old new : S) (after : SeatedVisitor) (said : List ℕ) → most < 2 ^ 31 → SessionShort most v
    → GoesOn step whole seat heard v old new after said → SessionShort most after
session_on step most whole seat heard v old new after said small B (seated.works n w) = session_works step most seat v old new after said small B.mail w
session_on step most whole seat heard v old new after said small B (seated.answers verdict mid first second how next still known a w e) =
    session_works step most seat (seated.told v next) mid new after second small
    (verdict_mail most v.session.standing verdict a.answers (record { events = a.events; bytes = a.bytes; after = how; standing = next }) B.mail a.played) w
session_on step most whole seat heard v old new after said small B (seated.waits a n e f) = rw e B
session_on step most whole seat heard v old new after said small B (seated.rests a n e f) = rw e B
session_on step most whole seat heard v old new after said small B (seated.stalls a n e f) = rw e B

parts_short : (k : Setup) (whole : Bool) (q most : ℕ) (after : SeatedVisitor) (w v : World) (o : Option SeatedVisitor) → SessionShort most after → AreShort w → Parts k whole q after w v o → VisitorShort most o × AreShort v
parts_short k whole q most after w v o B S (parts ended said left e) = (rw e tt, call_short k.config q w (calls.Leave false) left.0 v S left.1)
parts_short k whole q most after w v o B S (remains not e f) = (rw f B, rw e S)

talks_short : (k : Setup) (whole : Bool) (q : ℕ) (heard : List Noted) (w : World) (b : SeatedVisitor) (v : World) (o : Option SeatedVisitor) (printed : List ℕ) → k.max_message < 2 ^ 31 → SessionShort k.max_message b → AreShort w
    → SessionTalks k whole q heard w b v o printed → VisitorShort k.max_message o × AreShort v
talks_short k whole q heard w b v o printed small B S g =
    let spoken = session_on (Meets k.config q) k.max_message whole (session_seat k q) heard b w g.mid g.speaks.spoken g.speaks.said small B g.speaks.goes in
    let mid : AreShort g.mid = (speaks_carried {S = World} {T = Unit {0}} (Meets k.config q) (λ a call answer b. Unit {0}) (λ u x. AreShort u)
    (λ old new call answer x step short. (tt, tt, call_short k.config q old call answer new short step)) whole (session_seat k q) (q + 1) heard b w g.mid g.after printed tt g.speaks S).2 in
    let still : SessionShort k.max_message (still_unsaid g.speaks.still g.speaks.spoken) = record { to_put = spoken.to_put; mail = spoken.mail } in
    parts_short k whole q k.max_message g.after g.mid v o (subst (SessionShort k.max_message) (sym g.speaks.is) still) mid g.left

lingers_short : (most seat : ℕ) (heard : List Noted) (b : SeatedVisitor) (o : Option SeatedVisitor) → SessionShort most b → Lingers seat heard b o → VisitorShort most o
lingers_short most seat heard b o B (waits a e) = rw e B
lingers_short most seat heard b o B (fades a e) = rw e tt

speech_short : (k : Setup) (q : ℕ) (heard : List Noted) (w : World) (b : SeatedVisitor) (v : World) (o : Option SeatedVisitor) (printed : List ℕ) → k.max_message < 2 ^ 31 → SessionShort k.max_message b → AreShort w
    → SessionGoes k false q heard w b v o printed → VisitorShort k.max_message o × AreShort v
speech_short k q heard w b v o printed small B S (scene.talks l g) = talks_short k false q heard w b v o printed small B S g
speech_short k q heard w b v o printed small B S (scene.lingers l g e f) = (lingers_short k.max_message (session_seat k q) heard b o B g, rw e S)

-- ---- scenes

pub record SceneShort (k : Setup) (s : Scene) : Type 0 where
  pub world : AreShort s.world
  pub callers : (n : ℕ) → CallerShort (s.caller n)
  pub visitors : (n : ℕ) → VisitorShort k.max_message (s.visitor n)

caller_at : (k : Setup) (s : Scene) (v : World) (seat : ℕ) (o : Option Caller) (next entered : ℕ → ℕ) (shut : List Bool) → SceneShort k s → AreShort v → CallerShort o
    → SceneShort k (record { world = v; caller = set_at s.caller seat o; next = next; visitor = s.visitor; entered = entered; shut = shut })
caller_at k s v seat o next entered shut B S h = record { world = S; callers = at_each (λ j (x : Option Caller). CallerShort x) s.caller seat o B.callers h; visitors = B.visitors }

visitor_at : (k : Setup) (s : Scene) (v : World) (q : ℕ) (o : Option SeatedVisitor) (next entered : ℕ → ℕ) (shut : List Bool) → SceneShort k s → AreShort v → VisitorShort k.max_message o
    → SceneShort k (record { world = v; caller = s.caller; next = next; visitor = set_at s.visitor q o; entered = entered; shut = shut })
visitor_at k s v q o next entered shut B S h = record { world = S; callers = B.callers; visitors = at_each (λ j (x : Option SeatedVisitor). VisitorShort k.max_message x) s.visitor q o B.visitors h }

same_as : (k : Setup) (t u : Scene) → t ≡ u → SceneShort k u → SceneShort k t
same_as k t u e B = subst (SceneShort k) (sym e) B

the_caller : (k : Setup) (s : Scene) (seat : ℕ) (b : Caller) → SceneShort k s → s.caller seat ≡ Some b → ConnectionShort b
the_caller k s seat b B there = subst CallerShort there (B.callers seat)

the_visitor : (k : Setup) (s : Scene) (q : ℕ) (v : SeatedVisitor) → SceneShort k s → s.visitor q ≡ Some v → SessionShort k.max_message v
the_visitor k s q v B there = subst (VisitorShort k.max_message) there (B.visitors q)

first_short : (k : Terms) (seat serial : ℕ) (piece : List ℕ) → ConnectionShort (more_waits (greeted k seat serial) piece)
first_short k seat serial piece = record { to_put = tt; sender = tt }

bytes_short : (k : Setup) (s : Scene) (seat : ℕ) (piece : List ℕ) (t : Scene) (printed : List ℕ) → k.max_message < 2 ^ 31 → SceneShort k s → BytesPlay k false s seat piece t printed → SceneShort k t
bytes_short k s seat piece t printed small B (opens there free more o g after) =
    same_as k t _ after (caller_at k s s.world seat o (set_at s.next seat (s.next seat + 1)) s.entered s.shut B B.world
    (goes_short (terms_of k s.shut) false seat (s.world.heard seat) (more_waits (greeted (terms_of k s.shut) seat (s.next seat)) piece) o printed small (first_short (terms_of k s.shut) seat (s.next seat) piece) g))
bytes_short k s seat piece t printed small B (scene_goes_on b there read o g after) =
    let c = the_caller k s seat b B there in
    same_as k t _ after (caller_at k s s.world seat o s.next s.entered s.shut B B.world
    (goes_short (terms_of k s.shut) false seat (s.world.heard seat) (more_waits b piece) o printed small (record { to_put = c.to_put; sender = c.sender }) g))

vanish_short : (k : Setup) (s : Scene) (seat : ℕ) (t : Scene) (printed : List ℕ) → k.max_message < 2 ^ 31 → SceneShort k s → VanishPlay k false s seat t printed → SceneShort k t
vanish_short k s seat t printed small B p =
    let c = the_caller k s seat p.caller B p.there in
    same_as k t _ p.after (caller_at k s s.world seat p.left s.next s.entered s.shut B B.world
    (goes_short (terms_of k s.shut) false seat (s.world.heard seat) (connection.unread p.caller) p.left printed small (record { to_put = c.to_put; sender = c.sender }) p.goes))

puts_short : (k : Setup) (s : Scene) (seat : ℕ) (t : Scene) (printed : List ℕ) → k.max_message < 2 ^ 31 → SceneShort k s → PutPlay k false s seat t printed → SceneShort k t
puts_short k s seat t printed small B (connection_puts l p) =
    let c = the_caller k s seat p.caller B p.there in
    let all : Every IsJobShort (p.copy ∷ p.others) = subst (λ (xs : List Job). Every IsJobShort xs) p.front c.to_put in
    let S = short_step k.config s.world (world.Put seat (world.shard_of k.config p.copy.mailbox) p.copy) p.moved B.world all.0 p.step in
    same_as k t _ p.after (caller_at k s p.moved seat p.left s.next s.entered s.shut B S
    (goes_short (terms_of k s.shut) false seat (p.moved.heard seat) (record { serial = p.caller.serial; gone = p.caller.gone; talk = p.caller.talk; to_put = p.others }) p.left printed small (record { to_put = all.1; sender = c.sender }) p.goes))
puts_short k s seat t printed small B (session_puts q e p) =
    let c = the_visitor k s q p.visitor B p.there in
    let all : Every IsJobShort (p.copy ∷ p.others) = subst (λ (xs : List Job). Every IsJobShort xs) p.front c.to_put in
    let S = short_step k.config s.world (world.Put (session_seat k q) (world.shard_of k.config p.copy.mailbox) p.copy) p.moved B.world all.0 p.step in
    let d = speech_short k q (p.moved.heard (session_seat k q)) p.moved (record { session = p.visitor.session; serial = p.visitor.serial; gone = p.visitor.gone; to_put = p.others }) p.later p.left printed small
    (record { to_put = all.1; mail = c.mail }) S p.goes in
    same_as k t _ p.after (visitor_at k s p.later q p.left s.next s.entered s.shut B d.1 d.0)

hears_short : (k : Setup) (s : Scene) (seat : ℕ) (t : Scene) (printed : List ℕ) → k.max_message < 2 ^ 31 → SceneShort k s → HearPlay k false s seat t printed → SceneShort k t
hears_short k s seat t printed small B (connection_hears l p) =
    same_as k t _ p.after (caller_at k s p.moved seat p.left s.next s.entered s.shut B (short_step k.config s.world (world.Hear seat) p.moved B.world tt p.step)
    (goes_short (terms_of k s.shut) false seat (p.moved.heard seat) p.caller p.left printed small (the_caller k s seat p.caller B p.there) p.goes))
hears_short k s seat t printed small B (session_hears q e p) =
    let S = short_step k.config s.world (world.Hear (session_seat k q)) p.moved B.world tt p.step in
    let d = speech_short k q (p.moved.heard (session_seat k q)) p.moved p.visitor p.later p.left printed small (the_visitor k s q p.visitor B p.there) S p.goes in
    same_as k t _ p.after (visitor_at k s p.later q p.left s.next s.entered s.shut B d.1 d.0)

moves_short : (k : Setup) (s : Scene) (event : Event) (t : Scene) (printed : List ℕ) → SceneShort k s → PutsShort event → scene.Moves k s event t printed → SceneShort k t
moves_short k s event t printed B h m = same_as k t _ m.after (record { world = short_step k.config s.world event m.moved B.world h m.step; callers = B.callers; visitors = B.visitors })

-- in both profiles it takes as many bytes
takes_as : (compatible : Bool) (most : Option ℕ) (user : List ℕ) → (admission_of compatible most user).most ≡ most
takes_as false most user = refl
takes_as true most user = refl

enter_short : (k : Setup) (s : Scene) (q : ℕ) (user : List ℕ) (t : Scene) (printed : List ℕ) → k.max_message < 2 ^ 31 → SceneShort k s → EnterPlay k false s q user t printed → SceneShort k t
enter_short k s q user t printed small B p =
    let d = talks_short k false q (s.world.heard (session_seat k q)) s.world (seated_greeted (s.entered q) (admitted_in k user) (folders_of k.directory user)) p.moved p.left printed small
    (record { to_put = tt; mail = record { takes = takes_as k.compatible (Some k.max_message) user; begun = tt; sent = tt } }) B.world p.goes in
    same_as k t _ p.after (visitor_at k s p.moved q p.left s.next (set_at s.entered q (s.entered q + 1)) s.shut B d.1 d.0)

say_short : (k : Setup) (s : Scene) (q : ℕ) (piece : List ℕ) (t : Scene) (printed : List ℕ) → k.max_message < 2 ^ 31 → SceneShort k s → SayPlay k false s q piece t printed → SceneShort k t
say_short k s q piece t printed small B p =
    let c = the_visitor k s q p.visitor B p.there in
    let d = talks_short k false q (s.world.heard (session_seat k q)) s.world _ p.moved p.left printed small (record { to_put = c.to_put; mail = c.mail }) B.world p.goes in
    same_as k t _ p.after (visitor_at k s p.moved q p.left s.next s.entered s.shut B d.1 d.0)

idle_short : (k : Setup) (s : Scene) (q : ℕ) (t : Scene) (printed : List ℕ) → k.max_message < 2 ^ 31 → SceneShort k s → IdlePlay k false s q t printed → SceneShort k t
idle_short k s q t printed small B p =
    let c = the_visitor k s q p.visitor B p.there in
    let g = p.goes in
    let a = g.idles.turned in
    let mail = idle_mail k.max_message p.visitor.session.standing.selected (is_idling p.visitor.session.standing) p.visitor.session.standing a.answers
    (record { events = a.events; bytes = a.bytes; after = a.how; standing = g.after.standing }) c.mail a.played in
    let S = met_short k.config q s.world a.events g.mid B.world a.met in
    let d = parts_short k false q k.max_message (with_session g.after p.visitor) g.mid p.moved p.left (record { to_put = c.to_put; mail = mail }) S g.left in
    same_as k t _ p.after (visitor_at k s p.moved q p.left s.next s.entered s.shut B d.1 d.0)

leave_short : (k : Setup) (s : Scene) (q : ℕ) (t : Scene) (printed : List ℕ) → SceneShort k s → LeavePlay k s q t printed → SceneShort k t
leave_short k s q t printed B p =
    let c = the_visitor k s q p.visitor B p.there in
    same_as k t _ p.after (visitor_at k s p.moved q p.left s.next s.entered s.shut B (call_short k.config q s.world (calls.Leave false) p.leaves.0 p.moved B.world p.leaves.1)
    (lingers_short k.max_message (session_seat k q) (s.world.heard (session_seat k q)) (seated.unread p.visitor) p.left (record { to_put = c.to_put; mail = c.mail }) p.stays))

plays_short : (k : Setup) (s : Scene) (event : house.Event) (t : Scene) (printed : List ℕ) → k.max_message < 2 ^ 31 → SceneShort k s → Plays k false s event t printed → SceneShort k t
plays_short k s (Bytes c piece) t printed small B p = bytes_short k s (seat_of c) piece.now t printed small B p
plays_short k s (Vanish c) t printed small B p = vanish_short k s (seat_of c) t printed small B p
plays_short k s (Put number) t printed small B p = puts_short k s (seat_of number) t printed small B p
plays_short k s (Take shard) t printed small B p = moves_short k s (world.Take shard) t printed B tt p
plays_short k s (Deliver shard) t printed small B p = moves_short k s (world.Deliver shard) t printed B tt p
plays_short k s (Answer shard) t printed small B p = moves_short k s (world.Answer shard) t printed B tt p
plays_short k s (Hear number) t printed small B p = hears_short k s (seat_of number) t printed small B p
plays_short k s (End number shard) t printed small B p = moves_short k s (world.PutEnd (seat_of number) shard) t printed B tt p
plays_short k s (Close shard) t printed small B p = same_as k t _ p.after (record { world = B.world; callers = B.callers; visitors = B.visitors })
plays_short k s (Enter session user) t printed small B p = enter_short k s (place_of session) user.now t printed small B p
plays_short k s (Say session piece) t printed small B p = say_short k s (place_of session) piece.now t printed small B p
plays_short k s (Idle session) t printed small B p = idle_short k s (place_of session) t printed small B p
plays_short k s (Leave session) t printed small B p = leave_short k s (place_of session) t printed B p

record_short : (k : Setup) (s : Scene) (entries : List Entry) (t : Scene) → k.max_message < 2 ^ 31 → SceneShort k s → IsRecord k entries s t → SceneShort k t
record_short k s [] t small B e = rw e B
record_short k s (entry ∷ entries) t small B (one, more) = record_short k entry.after entries t small (plays_short k s entry.event entry.after (text_of k entry.piece) small B one.plays) more

pub texts_short : (k : Setup) (entries : List Entry) (t : Scene) → k.max_message < 2 ^ 31 → IsRecord k entries (empty_scene k) t → AreShort t.world
texts_short k entries t small is = (record_short k (empty_scene k) entries t small (record { world = short_empty; callers = λ n. tt; visitors = λ n. tt }) is).world
