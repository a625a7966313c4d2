-- Connections, turn by turn.
use Rattle.std.proofs.Common.{◌≡◌, ◌⊎◌, inl, inr, ℕ, zero, suc, ◌-◌, ◌+◌, ◌++◌, ◌∙◌, ap, refl, sym, subst, List, [], ◌∷◌, length, map, take, drop, Bool, true, false, append_assoc, append-nil, arith}
use Rattle.std.proofs.lemmas.List.{take_rest}
use Rattle.std.proofs.lemmas.List.Concat.{flat_map-append}
use Rattle.line_io.specs.Wire.{crlf}
use Rattle.delivery_token.specs.declared.Job.{Job}
use Rattle.delivery_token.specs.declared.Verdict.{Verdict}
use Rattle.delivery_token.specs.declared.log.Noted.{Noted}
use Rattle.envelope.specs.Names.{Directory}
use Rattle.lmtp_machine.specs.declared.connection.Fed.{Fed}
use Rattle.lmtp_machine.specs.declared.connection.What.{What}
use Rattle.lmtp_machine.specs.declared.connection.What.TheVariants.{More, Submit, Quit}
use Rattle.lmtp_machine.specs.declared.reply.Reply.{Reply}
use Rattle.lmtp_machine.specs.Calls.{Follows, Happens, Submits, Tells}
use Rattle.lmtp_machine.specs.Conversation.{Conversation, led_by, opened}
use Rattle.lmtp_machine.specs.Dialogue.{Phase, Waiting, Ended, Setting, Submission, Turn, Event, on_event, on_verdicts, verdict_reply, reply_text, wire}
use Rattle.lmtp_machine.specs.Dialogue as on
use Rattle.lmtp_machine.specs.LmtpMachine.{LmtpMachine, StandsFor}
use Rattle.shard_queue.specs.declared.lane.Entry.{Entry}
use Rattle.lane_work.specs.Talk.{Judged, HasTaken, greeted, goes_on, submits}
use Rattle.lane_work.specs.Account.{AreBooks, Room}
use Rattle.lane_work.specs.Speaking.{Stands, is_quit}
use Rattle.lane_work.specs.inner.Speaking.{Spoke}
use Rattle.lane_work.proofs.ClosedLaws.{AreOpen, message_open}

wire_more : (host : List ℕ) (one two : List Reply) → wire host (one ++ two) ≡ wire host one ++ wire host two
wire_more host one two = flat_map-append (λ reply. reply_text host reply ++ crlf) one two

nothing_new : (what : What) (turn : Turn) → (what ≡ Submit → ⊥) → Tells what turn → turn.submissions ≡ []
nothing_new More turn not tells = tells.0
nothing_new Submit turn not tells = absurd (not refl)
nothing_new Quit turn not tells = tells.0

is_over : (what : What) (turn : Turn) → Tells what turn → is_quit what ≡ true → turn.standing.phase ≡ Ended
is_over More turn tells e = absurd (let x : false ≡ true = e in cc)
is_over Submit turn tells e = absurd (let x : false ≡ true = e in cc)
is_over Quit turn tells e = tells.1

-- what was told before may stand in front of all that is written
pub follows_behind : (told : List ℕ) {S : Conversation → Type 0} (setting : Setting) (host : List ℕ) (d : Directory) (c : Conversation) (piece : List ℕ) (fed : Fed) (old new : List ℕ) (pending : List Submission)
    → Follows S setting host d c piece fed old new pending → Follows S setting host d c piece fed (told ++ old) (told ++ new) pending
follows_behind told setting host d c piece fed old new pending f = record {
  turn = f.turn;
  after = f.after;
  leads = f.leads;
  stands = f.stands;
  said = ap (λ l. told ++ l) f.said ∙ sym (append_assoc told old (wire host f.turn.replies));
  tells = f.tells;
  submits = f.submits;
  stops = f.stops;
  one = f.one;
  ended = f.ended;
}

pub happens_behind : (told : List ℕ) {S : Conversation → Type 0} (setting : Setting) (host : List ℕ) (d : Directory) (c : Conversation) (event : Event) (old new : List ℕ)
    → Happens S setting host d c event old new → Happens S setting host d c event (told ++ old) (told ++ new)
happens_behind told setting host d c event old new h = record {
  stands = h.stands;
  said = ap (λ l. told ++ l) h.said ∙ sym (append_assoc told old (wire host (on_event setting d c.standing event).replies));
}

-- some bytes were taken, and nothing was submitted
pub stands_on : (own d : Directory) (rooms : List Room) (p : ℕ) (done : List Judged) (bytes : List ℕ) (m after : LmtpMachine) (out more : List ℕ) (keeps : List (Job × Verdict) → Type 0) (heard : List (Entry Noted)) (sent : List (List (Entry Job))) (piece : List ℕ) (fed : Fed)
    → after.setting ≡ m.setting → after.host ≡ m.host → (fed.what ≡ Submit → ⊥)
    → ((c : Conversation) → StandsFor m c → Follows (StandsFor after) m.setting m.host own c piece fed out more after.pending)
    → Stands own d rooms p done bytes false m out keeps heard sent
    → Stands own d rooms p done (bytes ++ take fed.used piece) (is_quit fed.what) after more keeps heard sent
stands_on own d rooms p done bytes m after out more keeps heard sent piece fed setting host not ok s =
    let f = ok s.at s.machine in
    record {
      said = s.said ++ f.turn.replies;
      judged = s.judged;
      at = f.after;
      talk = subst (λ x. HasTaken x own (bytes ++ take fed.used piece) (s.said ++ f.turn.replies) s.judged f.after) (sym setting)
          (goes_on (take fed.used piece) f.turn f.after s.talk f.leads (nothing_new fed.what f.turn not f.tells));
      machine = f.stands;
      ended = λ quit. ap (λ x. x.phase) f.leads.stands ∙ is_over fed.what f.turn f.tells quit;
      replies = f.said ∙ ap (λ l. l ++ wire m.host f.turn.replies) s.replies ∙ sym (wire_more m.host s.said f.turn.replies) ∙ ap (λ h. wire h (s.said ++ f.turn.replies)) (sym host);
      books = s.books;
    }

said_verdicts : (phase : Phase) (n count : ℕ) (vs : List Verdict) → phase ≡ Waiting count → (on_verdicts phase n vs).replies ≡ map verdict_reply vs
said_verdicts phase n count vs e = subst (λ (x : Phase). (on_verdicts x n vs).replies ≡ map verdict_reply vs) (sym e) refl

waits_now : (what : What) (turn : Turn) → what ≡ Submit → Tells what turn → Submits turn
waits_now More turn e tells = absurd (let x : More ≡ Submit = e in cc)
waits_now Submit turn e tells = tells
waits_now Quit turn e tells = absurd (let x : Quit ≡ Submit = e in cc)

-- some bytes were taken, and a message was submitted, judged and answered
pub stands_judged : (own d : Directory) (rooms : List Room) (p : ℕ) (done : List Judged) (bytes : List ℕ) (m mid after : LmtpMachine) (out between more : List ℕ) (keeps kept : List (Job × Verdict) → Type 0) (heard hears : List (Entry Noted)) (sent put : List (List (Entry Job)))
    (piece : List ℕ) (fed : Fed) (message : Submission) (vs : List Verdict)
    → mid.setting ≡ m.setting → mid.host ≡ m.host → after.setting ≡ mid.setting → after.host ≡ mid.host → fed.what ≡ Submit
    → mid.pending ≡ message ∷ [] → length vs ≡ length message.keys
    → ((c : Conversation) → StandsFor m c → Follows (StandsFor mid) m.setting m.host own c piece fed out between mid.pending)
    → ((x : Directory) (c : Conversation) → StandsFor mid c → Happens (StandsFor after) mid.setting mid.host x c (on.Answered vs) between more)
    → (AreOpen own message → (judged : List Judged) → AreBooks d rooms p judged keeps heard sent → AreBooks d rooms p (judged ++ record { message = message; verdicts = vs } ∷ []) kept hears put)
    → Stands own d rooms p done bytes false m out keeps heard sent
    → Stands own d rooms p done (bytes ++ take fed.used piece) (is_quit fed.what) after more kept hears put
stands_judged own d rooms p done bytes m mid after out between more keeps kept heard hears sent put piece fed message vs set1 host1 set2 host2 what pending as_many feeds answers books s =
    let f = feeds s.at s.machine in
    let w = waits_now fed.what f.turn what f.tells in
    let only : f.turn.submissions ≡ message ∷ [] = sym f.submits ∙ pending in
    let h = answers own f.after f.stands in
    let waits : f.after.standing.phase ≡ Waiting (length w.submission.keys) = ap (λ x. x.phase) f.leads.stands ∙ w.waits in
    let replied : (on_event mid.setting own f.after.standing (on.Answered vs)).replies ≡ map verdict_reply vs = said_verdicts f.after.standing.phase f.after.standing.submitted _ vs waits in
    let one : Judged = record { message = message; verdicts = vs } in
    let last = led_by mid.setting own f.after (on.Answered vs) in
    let same : mid.setting ≡ m.setting = set1 in
    record {
      said = (s.said ++ f.turn.replies) ++ map verdict_reply vs;
      judged = s.judged ++ one ∷ [];
      at = last;
      talk = subst (λ x. HasTaken x own (bytes ++ take fed.used piece) ((s.said ++ f.turn.replies) ++ map verdict_reply vs) (s.judged ++ one ∷ []) last) (sym (set2 ∙ set1))
          (subst (λ x. HasTaken m.setting own (bytes ++ take fed.used piece) ((s.said ++ f.turn.replies) ++ map verdict_reply vs) (s.judged ++ one ∷ []) (led_by x own f.after (on.Answered vs))) (sym set1)
          (submits (take fed.used piece) f.turn f.after message vs s.talk f.leads only f.one as_many));
      machine = h.stands;
      ended = λ quit. absurd (let a : is_quit Submit ≡ true = subst (λ x. is_quit x ≡ true) what quit in let b : false ≡ true = a in cc);
      replies = h.said
          ∙ ap (λ l. l ++ wire mid.host (on_event mid.setting own f.after.standing (on.Answered vs)).replies) f.said
          ∙ ap (λ r. (out ++ wire m.host f.turn.replies) ++ wire mid.host r) replied
          ∙ ap (λ l. (l ++ wire m.host f.turn.replies) ++ wire mid.host (map verdict_reply vs)) s.replies
          ∙ ap (λ l. l ++ wire mid.host (map verdict_reply vs)) (sym (wire_more m.host s.said f.turn.replies))
          ∙ ap (λ x. wire x (s.said ++ f.turn.replies) ++ wire mid.host (map verdict_reply vs)) (sym host1)
          ∙ sym (wire_more mid.host (s.said ++ f.turn.replies) (map verdict_reply vs))
          ∙ ap (λ x. wire x ((s.said ++ f.turn.replies) ++ map verdict_reply vs)) (sym host2);
      books = subst (λ l. AreBooks d rooms p l kept hears put) (append_assoc done s.judged (one ∷ [])) (books (message_open m.setting own bytes s.said s.judged s.at (take fed.used piece) f.turn f.after message s.talk f.leads only) (done ++ s.judged) s.books);
    }

-- all was taken, or the dialogue has ended
pub spoke : (own d : Directory) (rooms : List Room) (p : ℕ) (done : List Judged) (bytes taken left : List ℕ) (over : Bool) (m : LmtpMachine) (setting : Setting) (host out : List ℕ) (keeps : List (Job × Verdict) → Type 0) (heard : List (Entry Noted)) (sent : List (List (Entry Job)))
    → bytes ≡ taken ++ left → (left ≡ []) ⊎ (over ≡ true) → m.setting ≡ setting → m.host ≡ host
    → Stands own d rooms p done taken over m out keeps heard sent → Spoke own d rooms p done bytes setting host out keeps heard sent
spoke own d rooms p done bytes taken left over m setting host out keeps heard sent whole ended set same s = record {
  said = s.said;
  judged = s.judged;
  talk = record {
    taken = taken;
    left = left;
    last = s.at;
    whole = whole;
    talk = subst (λ x. HasTaken x own taken s.said s.judged s.at) set s.talk;
    ended = how ended s.ended;
  };
  replies = s.replies ∙ ap (λ h. wire h s.said) same;
  books = s.books;
} where
  how : (left ≡ []) ⊎ (over ≡ true) → (over ≡ true → s.at.standing.phase ≡ Ended) → (left ≡ []) ⊎ (s.at.standing.phase ≡ Ended)
  how (inl e) k = inl e
  how (inr e) k = inr (k e)

-- a new connection was greeted
pub begins : (own d : Directory) (rooms : List Room) (p : ℕ) (done : List Judged) (m after : LmtpMachine) (out : List ℕ) (keeps : List (Job × Verdict) → Type 0) (heard : List (Entry Noted)) (sent : List (List (Entry Job)))
    → after.setting ≡ m.setting → after.host ≡ m.host → StandsFor m opened
    → ((x : Directory) (c : Conversation) → StandsFor m c → Happens (StandsFor after) m.setting m.host x c on.Opened [] out)
    → AreBooks d rooms p done keeps heard sent → Stands own d rooms p done [] false after out keeps heard sent
begins own d rooms p done m after out keeps heard sent setting host new greets books =
    let h = greets own opened new in
    record {
      said = (on_event m.setting own opened.standing on.Opened).replies;
      judged = [];
      at = opened;
      talk = greeted;
      machine = h.stands;
      ended = λ e. absurd (let x : false ≡ true = e in cc);
      replies = h.said ∙ ap (λ x. wire x (on_event m.setting own opened.standing on.Opened).replies) (sym host);
      books = subst (λ l. AreBooks d rooms p l keeps heard sent) (sym (append-nil done)) books;
    }

pub take_more : {A : Type 0} (xs : List A) (i f n : ℕ) → n ≡ i + f → take i xs ++ take f (drop i xs) ≡ take n xs
take_more xs zero f n e = let same : f ≡ n = omega arith in ap (λ k. take k xs) same
take_more [] (suc i) zero zero e = refl
take_more [] (suc i) zero (suc n) e = refl
take_more [] (suc i) (suc f) zero e = refl
take_more [] (suc i) (suc f) (suc n) e = refl
take_more (x ∷ xs) (suc i) f zero e = absurd (omega arith)
take_more (x ∷ xs) (suc i) f (suc n) e = ap (λ l. x ∷ l) (take_more xs i f n (omega arith))

pub split_there : {A : Type 0} (xs : List A) (n : ℕ) → xs ≡ take n xs ++ drop n xs
split_there xs zero = refl
split_there [] (suc n) = refl
split_there (x ∷ xs) (suc n) = ap (λ l. x ∷ l) (split_there xs n)

pub none_left : {A : Type 0} (xs : List A) (n : ℕ) → n ≡ length xs → drop n xs ≡ []
none_left [] zero e = refl
none_left [] (suc n) e = refl
none_left (x ∷ xs) zero e = absurd (omega arith)
none_left (x ∷ xs) (suc n) e = none_left xs n (omega arith)

pub piece_more : {A : Type 0} (xs : List A) (i f : ℕ) → take i xs ++ take f (take (length xs - i) (drop i xs)) ≡ take (i + f) xs
piece_more xs i f = ap (λ l. take i xs ++ take f l) (take_rest xs i) ∙ take_more xs i f (i + f) refl
