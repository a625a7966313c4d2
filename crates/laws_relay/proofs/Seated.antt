-- What is known of a connection that stands at a seat, by what came for it and what it was told, and how it goes on there.
use Rattle.std.proofs.Common.{◌≡◌, ℕ, suc, ◌+◌, ◌<◌, Bool, true, false, List, [], ◌∷◌, ◌++◌, length, map, refl, ap, ap₂, sym, subst, ◌∙◌, append_assoc, append-nil, arith, ◌⊎◌, inl, inr}
use Rattle.std.specs.Prelude.{Contains, slice_index_or}
use Rattle.std.proofs.lemmas.Bool.{false≢true}
use Rattle.std.proofs.lemmas.Grind.{flat_map-append}
use Rattle.std.proofs.lemmas.List.Elements.{Contains-append_left}
use Rattle.change_ring.specs.Log.{no_flags}
use Rattle.delivery_token.specs.Text.{Text}
use Rattle.delivery_token.specs.declared.CopyKey.{CopyKey}
use Rattle.delivery_token.specs.declared.Job.{Job}
use Rattle.delivery_token.specs.declared.Verdict.{Verdict}
use Rattle.delivery_token.specs.declared.log.Noted.{Noted}
use Rattle.envelope.specs.Names.{Directory, marked}
use Rattle.shard_queue.specs.declared.lane.Entry.{Entry}
use Rattle.shard_queue.specs.declared.lane.Entry.TheVariants.{Item, End}
use Rattle.delivery_token.specs.Copies.{copies, HeardFor}
use Rattle.world.proofs.Base.{Every, every_append, every_weaker}
use Rattle.world.proofs.Mails.{every_in_itself, is_in_contains}
use Rattle.lmtp_machine.specs.declared.connection.What.{What}
use Rattle.lmtp_machine.specs.declared.connection.What.TheVariants.{More, Submit, Quit}
use Rattle.lmtp_machine.specs.declared.reply.Reply.{Reply}
use Rattle.lmtp_machine.specs.declared.reply.Reply.TheVariants.{Greeting}
use Rattle.lmtp_machine.specs.Dialogue.{wire, Phase, Start, Ready, Waiting, Ended, Answered, Setting, Submission, Turn, keys_from, on_verdicts, verdict_reply}
use Rattle.lmtp_machine.specs.Calls.{Tells}
use Rattle.lmtp_machine.specs.Conversation.{Conversation, IsListening}
use Rattle.lmtp_machine.specs.Dialogue as dialogue
use Rattle.lmtp_machine.specs.Kept.{IsMessage}
use Rattle.house_peers.specs.ConnectionStands.{IsAwaited}
use Rattle.house_peers.specs.Caller.{GoesOn, Caller, IsAnswered, Proceeds, Terms, Works, answers, copies_of, fades, greeted, keys_of, lingers, more_waits, setting_of, stalls, talks, unread, waits, works}
use Rattle.house_peers.specs.inner.Meeting.{meets}
use Rattle.exactly_once.proofs.Lanes.{Puts}
use Rattle.laws_relay.specs.Connections.{HasCome}
use Rattle.laws_relay.specs.Numbers.{no_submission}
use Rattle.laws_relay.proofs.Connected.{begins, takes_bytes, tells_verdicts}
use Rattle.laws_relay.proofs.Keyed.{numbers_messages}
use Rattle.exactly_once.proofs.Told.{every_both}

-- ---- terms

-- terms while these shards are shut
abbrev pub with_marks : List Bool → Terms → Terms
with_marks shut g = record { directory = marked shut g.directory; host = g.host; max_message = g.max_message }

-- ---- verdicts

-- the verdicts on each message were heard, one for each of its keys
abbrev pub AreHeard : List Noted → List Submission → List (List Verdict) → Type 0
AreHeard heard [] [] = Unit {0}
AreHeard heard [] (vs ∷ answered) = ⊥
AreHeard heard (s ∷ ss) [] = ⊥
AreHeard heard (s ∷ ss) (vs ∷ answered) = HeardFor heard s.keys vs × AreHeard heard ss answered

are_heard_push : (heard : List Noted) (ss : List Submission) (answered : List (List Verdict)) (s : Submission) (vs : List Verdict) → AreHeard heard ss answered → HeardFor heard s.keys vs
    → AreHeard heard (ss ++ s ∷ []) (answered ++ vs ∷ [])
are_heard_push heard [] [] s vs h k = (k, tt)
are_heard_push heard [] (x ∷ answered) s vs h k = absurd h
are_heard_push heard (x ∷ ss) [] s vs h k = absurd h
are_heard_push heard (x ∷ ss) (y ∷ answered) s vs h k = (h.0, are_heard_push heard ss answered s vs h.1 k)

heard_for_grows : (heard more : List Noted) (keys : List CopyKey) (vs : List Verdict) → ((n : Noted) → Contains heard n → Contains more n) → HeardFor heard keys vs → HeardFor more keys vs
heard_for_grows heard more [] [] grows h = tt
heard_for_grows heard more [] (v ∷ vs) grows h = absurd h
heard_for_grows heard more (key ∷ keys) [] grows h = absurd h
heard_for_grows heard more (key ∷ keys) (v ∷ vs) grows h = ((h.0.0, grows _ h.0.1), heard_for_grows heard more keys vs grows h.1)

are_heard_grows : (heard more : List Noted) (ss : List Submission) (answered : List (List Verdict)) → ((n : Noted) → Contains heard n → Contains more n) → AreHeard heard ss answered
    → AreHeard more ss answered
are_heard_grows heard more [] [] grows h = tt
are_heard_grows heard more [] (vs ∷ answered) grows h = absurd h
are_heard_grows heard more (s ∷ ss) [] grows h = absurd h
are_heard_grows heard more (s ∷ ss) (vs ∷ answered) grows h = (heard_for_grows heard more s.keys vs grows h.0, are_heard_grows heard more ss answered grows h.1)

as_many : (heard : List Noted) (keys : List CopyKey) (vs : List Verdict) → HeardFor heard keys vs → length keys ≡ length vs
as_many heard [] [] h = refl
as_many heard [] (v ∷ vs) h = absurd h
as_many heard (key ∷ keys) [] h = absurd h
as_many heard (key ∷ keys) (v ∷ vs) h = ap suc (as_many heard keys vs h.1)

-- ---- copies

-- an entry of a seat's lane that is a copy of the connection of this serial is one of these
abbrev pub IsOneOf : ℕ → List Job → Entry Job → Type 0
IsOneOf serial these (Item p job) = job.key.serial ≡ serial → Contains these job
IsOneOf serial these (End p) = Unit {0}

-- a copy of this connection, and one of these
abbrev pub IsOwn : ℕ → List Job → Job → Type 0
IsOwn serial these job = (job.key.serial ≡ serial) × Contains these job

-- what a seat put of the connection of this serial is among the same copies also later
abbrev pub SentGrows : (serial : ℕ) → (sent later : ℕ → List (Entry Job)) → Type 0
SentGrows serial sent later = (these : List Job) (t : ℕ) → Every (IsOneOf serial these) (sent t) → Every (IsOneOf serial these) (later t)

one_of_more : (serial : ℕ) (these more : List Job) → ((job : Job) → Contains these job → Contains more job) → (e : Entry Job) → IsOneOf serial these e → IsOneOf serial more e
one_of_more serial these more grows (Item p job) h = λ same. grows job (h same)
one_of_more serial these more grows (End p) h = tt

copies-append : (xs ys : List Submission) → copies_of (xs ++ ys) ≡ copies_of xs ++ copies_of ys
copies-append [] ys = refl
copies-append (x ∷ xs) ys = ap (λ (l : List Job). copies x.keys x.mailboxes x.text no_flags ++ l) (copies-append xs ys) ∙ sym
    (append_assoc (copies x.keys x.mailboxes x.text no_flags) (copies_of xs) (copies_of ys))

-- messages that are numbered from the first on
abbrev pub AreFrom : Setting → ℕ → ℕ → List Submission → Type 0
AreFrom setting homes first [] = Unit {0}
AreFrom setting homes first (s ∷ ss) = IsMessage setting homes first s × AreFrom setting homes (first + 1) ss

are_from : (setting : Setting) (homes first : ℕ) (ss : List Submission) → ((n : ℕ) → n < length ss → IsMessage setting homes (first + n) (slice_index_or ss n no_submission))
    → AreFrom setting homes first ss
are_from setting homes first [] h = tt
are_from setting homes first (s ∷ ss) h = (
  (let e : first + 0 ≡ first = omega arith in subst (λ (m : ℕ). IsMessage setting homes m s) e (h 0 (omega arith))),
  are_from setting homes (first + 1) ss
      (λ n l. let e : first + suc n ≡ (first + 1) + n = omega arith in subst (λ (m : ℕ). IsMessage setting homes m (slice_index_or ss n no_submission)) e (h (suc n) (omega (arith, l)))),
)

pub messages_from : (setting : Setting) (directory : Directory) (taken : List ℕ) (said : List Reply) (submitted : List Submission) (told : List (List Verdict)) (c : Conversation)
    → HasCome setting directory taken said submitted told c → AreFrom setting (length directory.homes) 0 submitted
messages_from setting directory taken said submitted told c h =
    are_from setting (length directory.homes) 0 submitted
    (λ n l. let e : n ≡ 0 + n = omega arith in subst (λ (m : ℕ). IsMessage setting (length directory.homes) m (slice_index_or submitted n no_submission)) e
    (numbers_messages setting directory taken said submitted told c h n l))

keys_serial : (setting : Setting) (number i : ℕ) (mailboxes : List ℕ) → Every (λ (key : CopyKey). key.serial ≡ setting.serial) (keys_from setting number i mailboxes)
keys_serial setting number i [] = tt
keys_serial setting number i (m ∷ ms) = (refl, keys_serial setting number (i + 1) ms)

one_serial : (serial : ℕ) (keys : List CopyKey) (mailboxes : List ℕ) (text : Text) → Every (λ (key : CopyKey). key.serial ≡ serial) keys
    → Every (λ (job : Job). job.key.serial ≡ serial) (copies keys mailboxes text no_flags)
one_serial serial [] mailboxes text h = tt
one_serial serial (key ∷ keys) [] text h = tt
one_serial serial (key ∷ keys) (m ∷ ms) text h = (h.0, one_serial serial keys ms text h.1)

all_serial : (setting : Setting) (homes first : ℕ) (ss : List Submission) → AreFrom setting homes first ss → Every (λ (job : Job). job.key.serial ≡ setting.serial) (copies_of ss)
all_serial setting homes first [] h = tt
all_serial setting homes first (s ∷ ss) h =
    every_append (λ (job : Job). job.key.serial ≡ setting.serial) (copies s.keys s.mailboxes s.text no_flags) (copies_of ss)
    (one_serial setting.serial s.keys s.mailboxes s.text (subst (Every (λ (key : CopyKey). key.serial ≡ setting.serial)) (sym h.0.keys) (keys_serial setting first 0 s.mailboxes)))
    (all_serial setting homes (first + 1) ss h.1)

every_back : {A : Type 0} (P : A → Type 0) (xs ys : List A) → Every P (xs ++ ys) → Every P ys
every_back P [] ys h = h
every_back P (x ∷ xs) ys h = every_back P xs ys h.1

contains_each : {A : Type 0} (xs : List A) → Every (Contains xs) xs
contains_each xs = every_weaker (λ x. Rattle.world.proofs.Mails.IsIn x xs) (Contains xs) (λ x h. is_in_contains x xs h) xs (every_in_itself xs)

-- ---- a connection

-- The connection at a seat is here, of which these bytes came and these were told. Where its peer is gone, nothing is known of what waited and wasn't said.
pub record IsKnown (g : Terms) (seat : ℕ) (heard : List Noted) (sent : ℕ → List (Entry Job)) (came told : List ℕ) (b : Caller) : Type 0 where
  pub taken : List ℕ
  pub waited : List ℕ
  pub said : List Reply
  pub printed : List Reply
  pub unprinted : List Reply
  pub submitted : List Submission
  pub judged : List Submission
  pub answered : List (List Verdict)
  pub come : HasCome (setting_of g seat b.serial) g.directory taken said submitted answered b.talk.at
  pub came_is : came ≡ taken ++ waited
  pub said_is : Greeting ∷ said ≡ printed ++ unprinted
  pub told_is : told ≡ wire g.host printed
  pub reads : b.gone ≡ false → waited ≡ b.talk.waits
  pub says : b.gone ≡ false → b.talk.unsaid ≡ wire g.host unprinted
  pub silent : b.gone ≡ true → b.talk.unsaid ≡ []
  pub awaited : IsAwaited b.talk.pending b.talk.at.standing.phase
  pub parts : submitted ≡ judged ++ b.talk.pending
  pub heard_each : AreHeard heard judged answered
  pub sent_each : (t : ℕ) → Every (IsOneOf b.serial (copies_of submitted)) (sent t)
  pub left : Every (IsOwn b.serial (copies_of submitted)) b.to_put

-- more was heard, and others put what they had
pub known_grows : (g : Terms) (seat : ℕ) (heard more : List Noted) (sent later : ℕ → List (Entry Job)) (came told : List ℕ) (b : Caller)
    → ((n : Noted) → Contains heard n → Contains more n) → SentGrows b.serial sent later → IsKnown g seat heard sent came told b → IsKnown g seat more later came told b
known_grows g seat heard more sent later came told b grows puts h = record {
  taken = h.taken;
  waited = h.waited;
  said = h.said;
  printed = h.printed;
  unprinted = h.unprinted;
  submitted = h.submitted;
  judged = h.judged;
  answered = h.answered;
  come = h.come;
  came_is = h.came_is;
  said_is = h.said_is;
  told_is = h.told_is;
  reads = h.reads;
  says = h.says;
  silent = h.silent;
  awaited = h.awaited;
  parts = h.parts;
  heard_each = are_heard_grows heard more h.judged h.answered grows h.heard_each;
  sent_each = λ t. puts (copies_of h.submitted) t (h.sent_each t);
  left = h.left;
}

-- bytes came and wait
pub more_known : (g : Terms) (seat : ℕ) (heard : List Noted) (sent : ℕ → List (Entry Job)) (came told piece : List ℕ) (b : Caller)
    → b.gone ≡ false → IsKnown g seat heard sent came told b → IsKnown g seat heard sent (came ++ piece) told (more_waits b piece)
more_known g seat heard sent came told piece b there h = record {
  taken = h.taken;
  waited = h.waited ++ piece;
  said = h.said;
  printed = h.printed;
  unprinted = h.unprinted;
  submitted = h.submitted;
  judged = h.judged;
  answered = h.answered;
  come = h.come;
  came_is = ap (λ (l : List ℕ). l ++ piece) h.came_is ∙ append_assoc h.taken h.waited piece;
  said_is = h.said_is;
  told_is = h.told_is;
  reads = λ e. ap (λ (l : List ℕ). l ++ piece) (h.reads e);
  says = h.says;
  silent = h.silent;
  awaited = h.awaited;
  parts = h.parts;
  heard_each = h.heard_each;
  sent_each = h.sent_each;
  left = h.left;
}

-- the peer is gone
pub unread_known : (g : Terms) (seat : ℕ) (heard : List Noted) (sent : ℕ → List (Entry Job)) (came told : List ℕ) (b : Caller)
    → IsKnown g seat heard sent came told b → IsKnown g seat heard sent came told (unread b)
unread_known g seat heard sent came told b h = record {
  taken = h.taken;
  waited = h.waited;
  said = h.said;
  printed = h.printed;
  unprinted = h.unprinted;
  submitted = h.submitted;
  judged = h.judged;
  answered = h.answered;
  come = h.come;
  came_is = h.came_is;
  said_is = h.said_is;
  told_is = h.told_is;
  reads = λ e. absurd (false≢true (sym e));
  says = λ e. absurd (false≢true (sym e));
  silent = λ e. refl;
  awaited = h.awaited;
  parts = h.parts;
  heard_each = h.heard_each;
  sent_each = h.sent_each;
  left = h.left;
}

-- ---- it takes what waits

wire-append : (host : List ℕ) (xs ys : List Reply) → wire host (xs ++ ys) ≡ wire host xs ++ wire host ys
wire-append host xs ys = flat_map-append _ xs ys

tells_awaited : (what : What) (turn : Turn) → Tells what turn → IsAwaited turn.submissions turn.standing.phase
tells_awaited More turn h = listening turn.submissions turn.standing.phase h.0 h.1
  where
    none_waits : (phase : Phase) → IsListening phase → (n : ℕ) → phase ≡ Waiting n → ⊥
    none_waits phase l n e = subst IsListening e l

    listening : (ss : List Submission) (phase : Phase) → ss ≡ [] → IsListening phase → IsAwaited ss phase
    listening ss phase e l = subst (λ (x : List Submission). IsAwaited x phase) (sym e) (none_waits phase l)
tells_awaited Submit turn h = subst (λ (x : List Submission). IsAwaited x turn.standing.phase) (sym h.only) (refl, h.waits)
tells_awaited Quit turn h = subst (λ (x : List Submission). IsAwaited x turn.standing.phase) (sym h.0) (λ n e. ended n (sym h.1 ∙ e))
  where
    ended : (n : ℕ) → Ended ≡ Waiting n → ⊥
    ended n e = cc

works_known : (g : Terms) (shut : List Bool) (whole : Bool) (seat : ℕ) (heard : List Noted) (sent : ℕ → List (Entry Job)) (came told : List ℕ) (b : Caller) (what : What)
    (after : Caller)
    → b.gone ≡ false → b.talk.pending ≡ [] → IsKnown g seat heard sent came told b → Works (with_marks shut g) whole seat b what after → IsKnown g seat heard sent came told after
works_known g shut whole seat heard sent came told b what after there none h w =
    let setting : Setting = setting_of g seat b.serial in
    let turn : Turn = w.turn in
    let more = takes_bytes setting g.directory h.taken h.said h.submitted h.answered b.talk.at w.talk.at h.come shut w.works.taken turn w.works.leads in
    let all : List Submission = h.submitted ++ turn.submissions in
    let judged : h.submitted ≡ h.judged = h.parts ∙ ap (λ (ss : List Submission). h.judged ++ ss) none ∙ append-nil h.judged in
    let joins : copies_of all ≡ copies_of h.submitted ++ copies_of turn.submissions = copies-append h.submitted turn.submissions in
    let grows : (job : Job) → Contains (copies_of h.submitted) job → Contains (copies_of all) job =
    λ job c. subst (λ (l : List Job). Contains l job) (sym joins) (Contains-append_left (copies_of h.submitted) (copies_of turn.submissions) job c) in
    let own : Every (IsOwn b.serial (copies_of all)) (copies_of all) =
    every_both (λ (job : Job). job.key.serial ≡ b.serial) (Contains (copies_of all)) (copies_of all)
    (all_serial setting (length g.directory.homes) 0 all (messages_from setting g.directory _ _ all h.answered w.talk.at more)) (contains_each (copies_of all)) in
    let back : Every (IsOwn b.serial (copies_of all)) (copies_of turn.submissions) =
    every_back (IsOwn b.serial (copies_of all)) (copies_of h.submitted) (copies_of turn.submissions) (subst (Every (IsOwn b.serial (copies_of all))) joins own) in
    let standing : IsAwaited w.talk.pending w.talk.at.standing.phase =
    subst (λ (ss : List Submission). IsAwaited ss w.talk.at.standing.phase) (sym w.works.submits)
    (subst (λ (s : dialogue.Standing). IsAwaited turn.submissions s.phase) (sym w.works.leads.stands) (tells_awaited what turn w.works.tells)) in
    subst (IsKnown g seat heard sent came told) (sym w.is) (record {
      taken = h.taken ++ w.works.taken;
      waited = w.talk.waits;
      said = h.said ++ turn.replies;
      printed = h.printed;
      unprinted = h.unprinted ++ turn.replies;
      submitted = all;
      judged = h.judged;
      answered = h.answered;
      come = more;
      came_is = h.came_is ∙ ap (λ (l : List ℕ). h.taken ++ l) (h.reads there ∙ w.works.waited) ∙ sym (append_assoc h.taken w.works.taken w.talk.waits);
      said_is = ap (λ (l : List Reply). l ++ turn.replies) h.said_is ∙ append_assoc h.printed h.unprinted turn.replies;
      told_is = h.told_is;
      reads = λ e. refl;
      says = λ e. w.said ∙ ap (λ (l : List ℕ). l ++ wire g.host turn.replies) (h.says there) ∙ sym (wire-append g.host h.unprinted turn.replies);
      silent = λ e. absurd (false≢true (sym there ∙ e));
      awaited = standing;
      parts = ap₂ (λ (x y : List Submission). x ++ y) judged (sym w.works.submits);
      heard_each = h.heard_each;
      sent_each = λ t. every_weaker (IsOneOf b.serial (copies_of h.submitted)) (IsOneOf b.serial (copies_of all)) (one_of_more b.serial (copies_of h.submitted) (copies_of all) grows) (sent t)
          (h.sent_each t);
      left = back;
    })

-- ---- its verdicts are known

-- a message is awaited, and just so many verdicts
awaited_one : (heard : List Noted) (pending : List Submission) (phase : Phase) (vs : List Verdict) → IsAwaited pending phase → 0 < length pending → HeardFor heard (keys_of pending) vs
    → (s : Submission) × (pending ≡ s ∷ []) × (phase ≡ Waiting (length vs)) × HeardFor heard s.keys vs
awaited_one heard [] phase vs a some h = absurd (omega (arith, some))
awaited_one heard (s ∷ ss) phase vs a some h =
    let keys : keys_of (s ∷ ss) ≡ s.keys = ap (λ (l : List Submission). s.keys ++ keys_of l) a.0 ∙ append-nil s.keys in
    let each : HeardFor heard s.keys vs = subst (λ (l : List CopyKey). HeardFor heard l vs) keys h in
    (s, ap (λ (l : List Submission). s ∷ l) a.0, a.1 ∙ ap Waiting (as_many heard s.keys vs each), each)

answers_known : (g : Terms) (shut : List Bool) (seat : ℕ) (heard : List Noted) (sent : ℕ → List (Entry Job)) (came told : List ℕ) (b : Caller) (vs : List Verdict)
    → b.gone ≡ false → 0 < length b.talk.pending → IsAnswered heard b vs → IsKnown g seat heard sent came told b
    → IsKnown g seat heard sent came told (meets (with_marks shut g) seat b (Answered vs))
answers_known g shut seat heard sent came told b vs there some is h =
    let setting : Setting = setting_of g seat b.serial in
    let one = awaited_one heard b.talk.pending b.talk.at.standing.phase vs h.awaited some is.each in
    let more = tells_verdicts setting g.directory h.taken h.said h.submitted h.answered b.talk.at h.come shut vs one.2 in
    let n : ℕ = b.talk.at.standing.submitted in
    let replies : (on_verdicts b.talk.at.standing.phase n vs).replies ≡ map verdict_reply vs = ap (λ (p : Phase). (on_verdicts p n vs).replies) one.2 in
    let phase : (on_verdicts b.talk.at.standing.phase n vs).standing.phase ≡ Ready = ap (λ (p : Phase). (on_verdicts p n vs).standing.phase) one.2 in
    let judged : h.submitted ≡ h.judged ++ one.0 ∷ [] = h.parts ∙ ap (λ (ss : List Submission). h.judged ++ ss) one.1 in
    record {
      taken = h.taken;
      waited = h.waited;
      said = h.said ++ map verdict_reply vs;
      printed = h.printed;
      unprinted = h.unprinted ++ map verdict_reply vs;
      submitted = h.submitted;
      judged = h.judged ++ one.0 ∷ [];
      answered = h.answered ++ vs ∷ [];
      come = more;
      came_is = h.came_is;
      said_is = ap (λ (l : List Reply). l ++ map verdict_reply vs) h.said_is ∙ append_assoc h.printed h.unprinted (map verdict_reply vs);
      told_is = h.told_is;
      reads = h.reads;
      says = λ e. ap₂ (λ (x y : List ℕ). x ++ y) (h.says e) (ap (wire g.host) replies) ∙ sym (wire-append g.host h.unprinted (map verdict_reply vs));
      silent = λ e. absurd (false≢true (sym there ∙ e));
      awaited = (λ m e. ready m (sym phase ∙ e));
      parts = judged ∙ sym (append-nil (h.judged ++ one.0 ∷ []));
      heard_each = are_heard_push heard h.judged h.answered one.0 vs h.heard_each one.3;
      sent_each = h.sent_each;
      left = tt;
    }
  where
    ready : (m : ℕ) → Ready ≡ Waiting m → ⊥
    ready m e = cc

-- ---- it goes on

goes_known : (g : Terms) (shut : List Bool) (whole : Bool) (seat : ℕ) (heard : List Noted) (sent : ℕ → List (Entry Job)) (came told : List ℕ) (b : Caller) (what : What)
    (after : Caller)
    → b.gone ≡ false → IsKnown g seat heard sent came told b → GoesOn (with_marks shut g) whole seat heard b what after → IsKnown g seat heard sent came told after
goes_known g shut whole seat heard sent came told b what after there h (works none w) = works_known g shut whole seat heard sent came told b what after there none h w
goes_known g shut whole seat heard sent came told b what after there h (waits some unknown is same) = subst (IsKnown g seat heard sent came told) (sym same) h
goes_known g shut whole seat heard sent came told b what after there h (answers vs some is w) =
    works_known g shut whole seat heard sent came told (meets (with_marks shut g) seat b (Answered vs)) what after there refl
    (answers_known g shut seat heard sent came told b vs there some is h) w
goes_known g shut whole seat heard sent came told b what after there h (stalls part is same) = subst (IsKnown g seat heard sent came told) (sym same) h

pub proceeds_known : (g : Terms) (shut : List Bool) (whole : Bool) (seat : ℕ) (heard : List Noted) (sent : ℕ → List (Entry Job)) (came told : List ℕ) (b : Caller) (what : What)
    (after : Caller)
    → IsKnown g seat heard sent came told b → Proceeds (with_marks shut g) whole seat heard b what after → IsKnown g seat heard sent came told after
proceeds_known g shut whole seat heard sent came told b what after h (talks there goes) = goes_known g shut whole seat heard sent came told b what after there h goes
proceeds_known g shut whole seat heard sent came told b what after h (lingers gone silent unknown is same) = subst (IsKnown g seat heard sent came told) (sym same) h
proceeds_known g shut whole seat heard sent came told b what after h (fades vs gone silent answered is same) = subst (IsKnown g seat heard sent came told) (sym same) h

-- ---- a new one

pub greeted_known : (g : Terms) (shut : List Bool) (seat serial : ℕ) (heard : List Noted) (sent : ℕ → List (Entry Job)) → ((t : ℕ) → Every (IsOneOf serial []) (sent t))
    → IsKnown g seat heard sent [] [] (greeted (with_marks shut g) seat serial)
greeted_known g shut seat serial heard sent none = record {
  taken = [];
  waited = [];
  said = [];
  printed = [];
  unprinted = Greeting ∷ [];
  submitted = [];
  judged = [];
  answered = [];
  come = begins (setting_of g seat serial) g.directory;
  came_is = refl;
  said_is = refl;
  told_is = refl;
  reads = λ e. refl;
  says = λ e. refl;
  silent = λ e. absurd (false≢true e);
  awaited = (λ m e. start m e);
  parts = refl;
  heard_each = tt;
  sent_each = none;
  left = tt;
}
  where
    start : (m : ℕ) → Start ≡ Waiting m → ⊥
    start m e = cc

-- ---- it puts a copy

-- it is no other connection's
pub puts_of_another : (seat n : ℕ) (copy : Job) (sent later : ℕ → List (Entry Job)) → Puts seat copy sent later → (copy.key.serial ≡ n → ⊥) → SentGrows n sent later
puts_of_another seat n copy sent later puts other these t h = by (puts t)
  where
    by : (later t ≡ sent t) ⊎ (later t ≡ sent t ++ Item seat copy ∷ []) → Every (IsOneOf n these) (later t)
    by (inl same) = subst (Every (IsOneOf n these)) (sym same) h
    by (inr more) = subst (Every (IsOneOf n these)) (sym more) (every_append (IsOneOf n these) (sent t) (Item seat copy ∷ []) h ((λ e. absurd (other e)), tt))

puts_own : (seat n : ℕ) (copy : Job) (these : List Job) (sent later : ℕ → List (Entry Job)) → Puts seat copy sent later → Contains these copy → (t : ℕ) → Every (IsOneOf n these) (sent t)
    → Every (IsOneOf n these) (later t)
puts_own seat n copy these sent later puts own t h = by (puts t)
  where
    by : (later t ≡ sent t) ⊎ (later t ≡ sent t ++ Item seat copy ∷ []) → Every (IsOneOf n these) (later t)
    by (inl same) = subst (Every (IsOneOf n these)) (sym same) h
    by (inr more) = subst (Every (IsOneOf n these)) (sym more) (every_append (IsOneOf n these) (sent t) (Item seat copy ∷ []) h ((λ e. own), tt))

pub own_copy : (g : Terms) (seat : ℕ) (heard : List Noted) (sent : ℕ → List (Entry Job)) (came told : List ℕ) (b : Caller) (copy : Job) (others : List Job) → b.to_put ≡ copy ∷ others
    → IsKnown g seat heard sent came told b → copy.key.serial ≡ b.serial
own_copy g seat heard sent came told b copy others front h = (subst (Every (IsOwn b.serial (copies_of h.submitted))) front h.left).0.0

pub put_known : (g : Terms) (seat : ℕ) (heard more : List Noted) (sent later : ℕ → List (Entry Job)) (came told : List ℕ) (b : Caller) (copy : Job) (others : List Job)
    → b.to_put ≡ copy ∷ others
    → ((n : Noted) → Contains heard n → Contains more n) → Puts seat copy sent later → IsKnown g seat heard sent came told b
    → IsKnown g seat more later came told (record { serial = b.serial; gone = b.gone; talk = b.talk; to_put = others })
put_known g seat heard more sent later came told b copy others front grows puts h =
    let left : Every (IsOwn b.serial (copies_of h.submitted)) (copy ∷ others) = subst (Every (IsOwn b.serial (copies_of h.submitted))) front h.left in
    record {
      taken = h.taken;
      waited = h.waited;
      said = h.said;
      printed = h.printed;
      unprinted = h.unprinted;
      submitted = h.submitted;
      judged = h.judged;
      answered = h.answered;
      come = h.come;
      came_is = h.came_is;
      said_is = h.said_is;
      told_is = h.told_is;
      reads = h.reads;
      says = h.says;
      silent = h.silent;
      awaited = h.awaited;
      parts = h.parts;
      heard_each = are_heard_grows heard more h.judged h.answered grows h.heard_each;
      sent_each = λ t. puts_own seat b.serial copy (copies_of h.submitted) sent later puts left.0.1 t (h.sent_each t);
      left = left.1;
    }
