-- Whole lines, answered: a fault, a command, IDLE, and the line that ends it.
use Rattle.std.proofs.Common.{◌≡◌, ℕ, List, [], ◌∷◌, ◌++◌, Bool, true, false, Option, Some, None, Result, Ok, Err, refl, ap, sym, ◌∙◌, subst, append-nil, if◌then◌else◌, ◌⊎◌, inl, inr, length, codes, ◌<◌, ◌≤◌, ◌==◌}
use Rattle.std.specs.Prelude.{zero, IfNone, IfSome, Vec}
use Rattle.std.proofs.lemmas.Bool.{lt-ltb}
use Rattle.mailbox.specs.declared.clients.MailFault.{MailFault}
use Rattle.imap_grammar.specs.declared.command.Command.{Command}
use Rattle.imap_grammar.specs.declared.command.Command.TheVariants as commands
use Rattle.imap_grammar.specs.declared.command.ImapFault.{ImapFault}
use Rattle.imap_grammar.specs.Reading.{is_done, read}
use Rattle.imap_session.specs.declared.standing.After.{After}
use Rattle.imap_session.specs.declared.standing.After.TheVariants.{Go, Idle}
use Rattle.imap_session.specs.declared.standing.Profile.{Profile}
use Rattle.imap_session.specs.declared.standing.Selected.{Selected}
use Rattle.imap_session.specs.Exchange.{Answer, Argument, Exchange, ForNothing, Wait, bye, Message, PendingLiteral, Purpose, Response as ForResponse, Call, Standing, Starved, closed, played, tagged, continuing}
use Rattle.imap_session.specs.Commands.{awaiting_response, comes_unasked, given_up, lacks_part, literal_in, most_line, on_behind, on_joined, on_part, on_rest_of, on_text_line, response_in, wants_response, barred, barred_at, completed, fault_text, logged_in, logs_in_as, on_command, on_found, on_idle_line, on_line, on_read, says, appending, showing, on_rest, turn_behind, turn_while, without_begun}
use Rattle.imap_session.specs.Store.{Answers}
use Rattle.imap_session.specs.inner.Lines.{AnswersJoined, AnswersText, Had, IsJoined, is_message, on_rest_part}
use Rattle.imap_grammar.specs.Literals.{announced, quoted}
use Rattle.imap_grammar.specs.Verbs.{verb_of}
use Rattle.imap_grammar.specs.declared.command.Verb.{Verb}
use Rattle.imap_session.proofs.Appends.{less_true, not_less}
use Rattle.imap_session.specs.Response.{Response}
use Rattle.imap_session.specs.inner.Store.{Does, Plays, Reaches, after_result, is_idle, last, last_words}
use Rattle.imap_grammar.specs.declared.command.Append.{Append}
use Rattle.imap_grammar.specs.declared.command.CopyMessages.{CopyMessages}
use Rattle.imap_session.specs.inner.Appends.{Leads}
use Rattle.imap_session.specs.inner.Seen.{pending_of}
use Rattle.imap_session.specs.declared.mailing.PendingLiteral as begun
use Rattle.std.specs.Global.{Global}
use Rattle.std.specs.Option.{option_map}
use Rattle.imap_session.proofs.Ending.{moves_still, plays_moved}
use Rattle.imap_session.proofs.Runs.{reaches_here}
use Rattle.imap_session.specs.declared.texts.ResponseText.TheVariants as texts
use Rattle.imap_session.specs.Texts.{response_text}
use Rattle.imap_session.specs.declared.texts.ResponseText.{ResponseText}

-- a line of a session that doesn't idle
pub awake_answers : {S : Type 0} (step : S → Call → Answer → S → Type 0) (now next : Standing) (line : List ℕ) (old new : S) (before after : List ℕ) (how : After) → now.mailing.begun ≡ None → now.idling ≡ None
    → AnswersText step now line old new before after how next → Answers step now line old new before after how next
awake_answers step now next line old new before after how alone awake p = record {
  answers = p.answers;
  events = p.events;
  bytes = p.bytes;
  played = ap (λ b. turn_behind b now line p.answers) alone ∙ ap (λ i. turn_while i now line p.answers) awake ∙ p.played;
  met = p.met;
  wrote = p.wrote;
}

-- a line that is no command
fault_turn : (now : Standing) (line : List ℕ) (fault : ImapFault) (answers : List Answer) → read line ≡ Err fault → on_text_line now line answers ≡ on_part (literal_in now.profile line fault) now line answers
fault_turn now line fault answers h = ap (λ r. on_part (lacks_part now.profile now.login line r) now line answers) h

pub answers_fault : {S : Type 0} (step : S → Call → Answer → S → Type 0) (now next : Standing) (line : List ℕ) (fault : ImapFault) (s : S) (before after : List ℕ)
    → read line ≡ Err fault → literal_in now.profile line fault ≡ None → next ≡ now → after ≡ before ++ fault_text now.profile fault
    → AnswersText step now line s s before after Go next
answers_fault step now next line fault s before after h whole same e =
    subst (λ (n : Standing). AnswersText step now line s s before after Go n) (sym same) (record {
      answers = [];
      events = [];
      bytes = fault_text now.profile fault ++ [];
      played = fault_turn now line fault [] h ∙ ap (λ o. on_part o now line []) whole ∙ ap (λ r. on_read now r []) h;
      met = refl;
      wrote = e ∙ ap (λ t. before ++ t) (sym (append-nil (fault_text now.profile fault)));
    })

-- a line that announces a literal
pub answers_literal : {S : Type 0} (step : S → Call → Answer → S → Type 0) (now next : Standing) (line tag : List ℕ) (x : Exchange) (fault : ImapFault) (s : S) (before after : List ℕ) (how : After)
    → read line ≡ Err fault → literal_in now.profile line fault ≡ Some (tag, x) → Leads tag now x before after how next
    → AnswersText step now line s s before after how next
answers_literal step now next line tag x fault s before after how h found p = record {
  answers = p.0;
  events = [];
  bytes = p.1;
  played = fault_turn now line fault p.0 h ∙ ap (λ o. on_part o now line p.0) found ∙ p.2;
  met = refl;
  wrote = p.3;
}

-- a command, as it is read
read_turn : (now : Standing) (line tag : List ℕ) (command : Command) (answers : List Answer) → read line ≡ Ok (tag, command) → wants_response now.login command ≡ false
    → on_text_line now line answers ≡ on_line (logs_in_as now.login command) now tag command answers
read_turn now line tag command answers h whole =
    ap (λ r. on_part (lacks_part now.profile now.login line r) now line answers) h
    ∙ ap (λ (b : Bool). on_part (if b then Some (tag, awaiting_response line) else None) now line answers) whole
    ∙ ap (λ r. on_read now r answers) h

-- AUTHENTICATE without a response
pub answers_challenge : {S : Type 0} (step : S → Call → Answer → S → Type 0) (now next : Standing) (line tag : List ℕ) (command : Command) (s : S) (before after : List ℕ) (how : After)
    → read line ≡ Ok (tag, command) → wants_response now.login command ≡ true → Leads tag now (awaiting_response line) before after how next
    → AnswersText step now line s s before after how next
answers_challenge step now next line tag command s before after how h wanted p = record {
  answers = p.0;
  events = [];
  bytes = p.1;
  played = ap (λ r. on_part (lacks_part now.profile now.login line r) now line p.0) h
      ∙ ap (λ (b : Bool). on_part (if b then Some (tag, awaiting_response line) else None) now line p.0) wanted ∙ p.2;
  met = refl;
  wrote = p.3;
}

-- how a command is read that doesn't log the client in, and isn't barred
abbrev pub IsTaken : Standing → Command → Type 0
IsTaken now command = (wants_response now.login command ≡ false) × (logs_in_as now.login command ≡ false) × (barred now command ≡ None)

-- as the code finds it
pub is_taken : (now : Standing) (command : Command) (first login also_login : Option (List ℕ)) (profile : Profile) (wants right : Bool) (bars : Option ResponseText)
    → first ≡ now.login → wants ≡ wants_response first command → wants ≡ false → login ≡ now.login → right ≡ logs_in_as login command → right ≡ false
    → also_login ≡ now.login → profile ≡ now.profile → bars ≡ barred_at also_login profile command → bars ≡ None → IsTaken now command
is_taken now command first login also_login profile wants right bars first_at asks whole at told wrong also_at of is none = (
  ap (λ l. wants_response l command) (sym first_at) ∙ sym asks ∙ whole,
  ap (λ l. logs_in_as l command) (sym at) ∙ sym told ∙ wrong,
  ap (λ l. barred_at l now.profile command) (sym also_at) ∙ ap (λ p. barred_at also_login p command) (sym of) ∙ sym is ∙ none,
)

taken_turn : (now : Standing) (line tag : List ℕ) (command : Command) (answers : List Answer) → read line ≡ Ok (tag, command) → IsTaken now command
    → on_text_line now line answers ≡ played tag now (on_command tag now command) answers
taken_turn now line tag command answers h taken =
    read_turn now line tag command answers h taken.0 ∙ ap (λ b. on_line b now tag command answers) taken.1
    ∙ ap (λ o. played tag now (on_found (λ text. says (response_text text)) (on_command tag now command) o) answers) taken.2

-- the client logs in
pub answers_login : {S : Type 0} (step : S → Call → Answer → S → Type 0) (now next : Standing) (line tag : List ℕ) (command : Command) (verb : Verb) (s : S) (before after : List ℕ)
    → read line ≡ Ok (tag, command) → wants_response now.login command ≡ false → logs_in_as now.login command ≡ true → verb ≡ verb_of command → next ≡ logged_in now
    → after ≡ before ++ tagged tag (response_text (texts.Completed verb))
    → AnswersText step now line s s before after Go next
answers_login step now next line tag command verb s before after h whole right by is wrote =
    let words : List ℕ = tagged tag (response_text (texts.Completed (verb_of command))) in
    subst (λ (n : Standing). AnswersText step now line s s before after Go n) (sym is) (record {
      answers = [];
      events = [];
      bytes = words ++ [];
      played = read_turn now line tag command [] h whole ∙ ap (λ b. on_line b now tag command []) right;
      met = refl;
      wrote = wrote ∙ ap (λ v. before ++ tagged tag (response_text (texts.Completed v))) by ∙ ap (λ t. before ++ t) (sym (append-nil words));
    })

-- a command that isn't carried out
pub answers_barred : {S : Type 0} (step : S → Call → Answer → S → Type 0) (now next : Standing) (line tag : List ℕ) (command : Command) (text : ResponseText) (s : S) (before after : List ℕ)
    → read line ≡ Ok (tag, command) → wants_response now.login command ≡ false → logs_in_as now.login command ≡ false → barred now command ≡ Some text → next ≡ now → after ≡ before ++ tagged tag (response_text text)
    → AnswersText step now line s s before after Go next
answers_barred step now next line tag command text s before after h whole other barred same wrote =
    let words : List ℕ = tagged tag (response_text text) in
    subst (λ (n : Standing). AnswersText step now line s s before after Go n) (sym same) (record {
      answers = [];
      events = [];
      bytes = words ++ [];
      played = read_turn now line tag command [] h whole ∙ ap (λ b. on_line b now tag command []) other
          ∙ ap (λ o. played tag now (on_found (λ t. says (response_text t)) (on_command tag now command) o) []) barred;
      met = refl;
      wrote = wrote ∙ ap (λ t. before ++ t) (sym (append-nil words));
    })

pub answers_command : {S : Type 0} (step : S → Call → Answer → S → Type 0) (now mid next : Standing) (line tag : List ℕ) (command : Command) (old new : S) (before after : List ℕ) (how : After)
    → read line ≡ Ok (tag, command) → IsTaken now command → Plays step tag now mid (on_command tag now command) old new before after how → next ≡ (closed mid how).standing
    → AnswersText step now line old new before after how next
answers_command {S} step now mid next line tag command old new before after how h taken p is =
    subst (λ (s : Standing). AnswersText step now line old new before after how s) (sym is) (record {
      answers = p.answers;
      events = p.events;
      bytes = p.bytes;
      played = taken_turn now line tag command p.answers h taken ∙ p.leads;
      met = p.met;
      wrote = p.wrote;
    })

-- ---- APPEND

pub answers_append : {S : Type 0} (step : S → Call → Answer → S → Type 0) (now next : Standing) (line tag : List ℕ) (command : Command) (a : Append) (s : S) (before after : List ℕ) (how : After)
    → read line ≡ Ok (tag, command) → IsTaken now command → command ≡ commands.Append a → Leads tag now (appending now.mailing.most now.folders a) before after how next
    → AnswersText step now line s s before after how next
answers_append step now next line tag command a s before after how h taken is p = record {
  answers = p.0;
  events = [];
  bytes = p.1;
  played = taken_turn now line tag command p.0 h taken ∙ ap (λ c. played tag now (on_command tag now c) p.0) is ∙ p.2;
  met = refl;
  wrote = p.3;
}

-- ---- COPY and MOVE

pub answers_copy : {S : Type 0} (step : S → Call → Answer → S → Type 0) (now next : Standing) (line tag : List ℕ) (command : Command) (copy : CopyMessages) (old new : S) (before after : List ℕ) (how : After)
    → read line ≡ Ok (tag, command) → IsTaken now command → command ≡ commands.Copy copy → Had (played tag now (on_command tag now (commands.Copy copy))) step old new before after how next
    → AnswersText step now line old new before after how next
answers_copy step now next line tag command copy old new before after how h taken is p = record {
  answers = p.answers;
  events = p.events;
  bytes = p.bytes;
  played = taken_turn now line tag command p.answers h taken ∙ ap (λ c. played tag now (on_command tag now c) p.answers) is ∙ p.played;
  met = p.met;
  wrote = p.wrote;
}

-- ---- the rest of a line behind a literal

abbrev pub behind : Standing → PendingLiteral → Standing
behind now a = record now { mailing = record now.mailing { begun = Some a } }

-- the literal isn't awaited any more
pub without_again : (now mid : Standing) → now.mailing.begun ≡ None → mid ≡ record now { idling = None } → mid ≡ without_begun now
without_again now mid alone same = same ∙ ap (λ (b : Option PendingLiteral). record now { idling = None; mailing = record now.mailing { begun = b } }) alone

pub already_without : (now : Standing) → now.mailing.begun ≡ None → now.idling ≡ None → without_begun now ≡ now
already_without now alone awake = sym (without_again now now alone (ap (λ i. record now { idling = i }) awake))

message_is : (p : Purpose) (a : PendingLiteral) (now : Standing) (line : List ℕ) (answers : List Answer) → is_message p ≡ true
    → on_rest_of p a now line answers ≡ played a.tag (without_begun now) (on_rest now.mailing a (length line == 0)) answers
message_is (Message mailbox flags date) a now line answers e = refl
message_is (Argument before) a now line answers e = absurd cc
message_is (ForResponse before) a now line answers e = absurd cc

-- of a message
pub message_rest : {S : Type 0} (step : S → Call → Answer → S → Type 0) (now mid next : Standing) (a : PendingLiteral) (line : List ℕ) (s : S) (before held after : List ℕ) (how : After)
    → now.mailing.begun ≡ None → is_message a.purpose ≡ true → mid ≡ record now { idling = None } → held ≡ before
    → Leads a.tag mid (on_rest mid.mailing a (length line == 0)) held after how next
    → Answers step (behind now a) line s s before after how next
message_rest step now mid next a line s before held after how alone of same at p =
    let P : Standing → List ℕ → Type 0 = λ m front. Leads a.tag m (on_rest m.mailing a (length line == 0)) front after how next in
    let q : P (without_begun now) before = subst (P (without_begun now)) at (subst (λ (m : Standing). P m held) (without_again now mid alone same) p) in
    record {
      answers = q.0;
      events = [];
      bytes = q.1;
      played = message_is a.purpose a (behind now a) line q.0 of ∙ q.2;
      met = refl;
      wrote = q.3;
    }

part_same : (p : Purpose) (a : PendingLiteral) (one other : Standing) (line : List ℕ) (answers : List Answer) → is_message p ≡ false → without_begun one ≡ without_begun other
    → on_rest_of p a one line answers ≡ on_rest_of p a other line answers
part_same (Message mailbox flags date) a one other line answers e same = absurd cc
part_same (Argument before) a one other line answers e same = ap (λ m. on_behind a.tag m (option_map (λ text. before ++ quoted text ++ line) a.text) line answers) same
part_same (ForResponse before) a one other line answers e same = ap (λ m. on_behind a.tag m (option_map (λ text. before ++ codes " " ++ response_in line) a.text) line answers) same

-- of another line
pub part_rest : {S : Type 0} (step : S → Call → Answer → S → Type 0) (now mid next : Standing) (a : PendingLiteral) (line : List ℕ) (old new : S) (before held after : List ℕ) (how : After)
    → now.mailing.begun ≡ None → is_message a.purpose ≡ false → mid ≡ record now { idling = None } → held ≡ before
    → Had (on_rest_part a mid line) step old new held after how next
    → Answers step (behind now a) line old new before after how next
part_rest step now mid next a line old new before held after how alone of same at p = record {
  answers = p.answers;
  events = p.events;
  bytes = p.bytes;
  played = part_same a.purpose a (behind now a) mid line p.answers of (ap without_begun (sym same)) ∙ p.played;
  met = p.met;
  wrote = p.wrote ∙ ap (λ t. t ++ p.bytes) at;
}

-- a line that was joined of its parts, or given up since memory had been refused to it
pub part_joined : {S : Type 0} (step : S → Call → Answer → S → Type 0) (now next : Standing) (a : PendingLiteral) (line_with : List ℕ → List ℕ) (text whole rest : List ℕ) (old new : S) (before after : List ℕ) (how : After)
    → ((answers : List Answer) → on_rest_part a now rest answers ≡ on_behind a.tag (without_begun now) (option_map line_with a.text) rest answers)
    → now.mailing.begun ≡ None → now.idling ≡ None → a.text ≡ Some text → whole ≡ line_with text → AnswersJoined step a.tag now whole rest old new before after how next
    → Had (on_rest_part a now rest) step old new before after how next
part_joined step now next a line_with text whole rest old new before after how is alone awake kept joined p = record {
  answers = p.answers;
  events = p.events;
  bytes = p.bytes;
  played = is p.answers ∙ ap (λ m. on_behind a.tag m (option_map line_with a.text) rest p.answers) (already_without now alone awake)
      ∙ ap (λ t. on_behind a.tag now (option_map line_with t) rest p.answers) kept
      ∙ ap (λ l. on_joined a.tag now l rest p.answers) (sym joined) ∙ p.played;
  met = p.met;
  wrote = p.wrote;
}

part_dropped : (p : Purpose) (a : PendingLiteral) (now : Standing) (rest : List ℕ) (answers : List Answer) → is_message p ≡ false → a.text ≡ None → without_begun now ≡ now
    → on_rest_of p a now rest answers ≡ played a.tag now (given_up rest texts.OutOfMemory texts.ByeOutOfMemory) answers
part_dropped (Message mailbox flags date) a now rest answers e none same = absurd cc
part_dropped (Argument before) a now rest answers e none same =
    ap (λ m. on_behind a.tag m (option_map (λ text. before ++ quoted text ++ rest) a.text) rest answers) same
    ∙ ap (λ t. on_behind a.tag now (option_map (λ text. before ++ quoted text ++ rest) t) rest answers) none
part_dropped (ForResponse before) a now rest answers e none same =
    ap (λ m. on_behind a.tag m (option_map (λ text. before ++ codes " " ++ response_in rest) a.text) rest answers) same
    ∙ ap (λ t. on_behind a.tag now (option_map (λ text. before ++ codes " " ++ response_in rest) t) rest answers) none

pub part_given_up : {S : Type 0} (step : S → Call → Answer → S → Type 0) (now next : Standing) (a : PendingLiteral) (rest : List ℕ) (s : S) (before after : List ℕ) (how : After)
    → now.mailing.begun ≡ None → now.idling ≡ None → is_message a.purpose ≡ false → a.text ≡ None → Leads a.tag now (given_up rest texts.OutOfMemory texts.ByeOutOfMemory) before after how next
    → Had (on_rest_part a now rest) step s s before after how next
part_given_up step now next a rest s before after how alone awake of none p = record {
  answers = p.0;
  events = [];
  bytes = p.1;
  played = part_dropped a.purpose a now rest p.0 of none (already_without now alone awake) ∙ p.2;
  met = refl;
  wrote = p.3;
}

-- a joined line that isn't too long, and one that is
pub joined_fits : {S : Type 0} (step : S → Call → Answer → S → Type 0) (tag : List ℕ) (now next : Standing) (line rest : List ℕ) (old new : S) (before after : List ℕ) (how : After)
    → length line ≤ most_line → AnswersText step now line old new before after how next → AnswersJoined step tag now line rest old new before after how next
joined_fits step tag now next line rest old new before after how fits p = record {
  answers = p.answers;
  events = p.events;
  bytes = p.bytes;
  played = ap (λ (b : Bool). if b then played tag now (given_up rest texts.LineTooLong texts.LiteralTooBig) p.answers else on_text_line now line p.answers) (not_less most_line (length line) fits) ∙ p.played;
  met = p.met;
  wrote = p.wrote;
}

pub joined_too_long : {S : Type 0} (step : S → Call → Answer → S → Type 0) (tag : List ℕ) (now next : Standing) (line rest : List ℕ) (s : S) (before after : List ℕ) (how : After)
    → most_line < length line → Leads tag now (given_up rest texts.LineTooLong texts.LiteralTooBig) before after how next → AnswersJoined step tag now line rest s s before after how next
joined_too_long step tag now next line rest s before after how long p = record {
  answers = p.0;
  events = [];
  bytes = p.1;
  played = ap (λ (b : Bool). if b then played tag now (given_up rest texts.LineTooLong texts.LiteralTooBig) p.0 else on_text_line now line p.0) (less_true most_line (length line) long) ∙ p.2;
  met = refl;
  wrote = p.3;
}

-- ---- IDLE

idle_is : (command : Command) → is_idle command ≡ true → command ≡ commands.Idle
idle_is commands.Idle e = refl
idle_is _ e = absurd cc

pub answers_idle : {S : Type 0} (step : S → Call → Answer → S → Type 0) (now next : Standing) (line : List ℕ) (response : Response) (command : Command) (s : S) (before after : List ℕ) (how : After)
    → read line ≡ Ok (response.tag, command) → IsTaken now command → response.text ≡ before → is_idle command ≡ true → ((how ≡ Idle) ⊎ (how ≡ Go))
    → (how ≡ Idle → (next ≡ record now { idling = Some response.tag }) × (after ≡ response.text ++ continuing (response_text texts.Idling)))
    → (how ≡ Go → (32 < length response.tag) × (next ≡ now) × (after ≡ response.text ++ tagged response.tag (response_text texts.OutOfMemory)))
    → AnswersText step now line s s before after how next
answers_idle step now next line response command s before after Idle h taken kept i on begun starved =
    subst (λ (n : Standing). AnswersText step now line s s before after Idle n) (sym (begun refl).0) (record {
      answers = [];
      events = [];
      bytes = continuing (response_text texts.Idling);
      played = taken_turn now line response.tag command [] h taken ∙ ap (λ c. played response.tag now (on_command response.tag now c) []) (idle_is command i);
      met = refl;
      wrote = (begun refl).1 ∙ ap (λ t. t ++ continuing (response_text texts.Idling)) kept;
    })
answers_idle step now next line response command s before after Go h taken kept i on begun starved =
    subst (λ (n : Standing). AnswersText step now line s s before after Go n) (sym (starved refl).1) (record {
      answers = Starved zero ∷ [];
      events = [];
      bytes = tagged response.tag (response_text texts.OutOfMemory) ++ [];
      played = taken_turn now line response.tag command (Starved zero ∷ []) h taken ∙ ap (λ c. played response.tag now (on_command response.tag now c) (Starved zero ∷ [])) (idle_is command i)
          ∙ ap (λ (b : Bool). if b then Some (record { events = []; bytes = tagged response.tag (response_text texts.OutOfMemory) ++ []; after = Go; standing = now }) else None) (lt-ltb 32 (length response.tag) (starved refl).0);
      met = refl;
      wrote = (starved refl).2 ∙ ap (λ t. t ++ tagged response.tag (response_text texts.OutOfMemory)) kept ∙ ap (λ t. before ++ t) (sym (append-nil (tagged response.tag (response_text texts.OutOfMemory))));
    })
answers_idle step now next line response command s before after how h taken kept i (inl e) begun starved = absurd cc
answers_idle step now next line response command s before after how h taken kept i (inr e) begun starved = absurd cc

-- the line that ends it
pub plays_idle_line : {S : Type 0} (step : S → Call → Answer → S → Type 0) (now : Standing) (line : List ℕ) (old new : S) (before mid : Response) (final : List ℕ) (r : Result ResponseText MailFault) (how : After)
    → Does step (on_idle_line now.selected line) last old new before mid r → final ≡ mid.text ++ last_words mid.tag r → how ≡ after_result Go r
    → Plays step before.tag now now (on_idle_line now.selected line) old new before.text final how
plays_idle_line step now line old new before mid final r how d f h =
    rw h (plays_moved step now now.selected Go (on_idle_line now.selected line) old new before mid final r (moves_still step now.selected (on_idle_line now.selected line) last old new before mid r d) f)

pub answers_idle_line : {S : Type 0} (step : S → Call → Answer → S → Type 0) (now next : Standing) (tag line : List ℕ) (old new : S) (before after : List ℕ) (how : After) → now.mailing.begun ≡ None → now.idling ≡ None
    → Plays step tag now now (on_idle_line now.selected line) old new before after how → next ≡ (closed now how).standing
    → Answers step (record now { idling = Some tag }) line old new before after how next
answers_idle_line {S} step now next tag line old new before after how alone awake p is =
    let P : Option (List ℕ) → Type 0 = λ i. Plays step tag (record now { idling = i }) (record now { idling = i }) (on_idle_line now.selected line) old new before after how in
    let p0 = subst P awake p in
    let closed_too : (closed (record now { idling = None }) how).standing ≡ next = ap (λ i. (closed (record now { idling = i }) how).standing) (sym awake) ∙ sym is in
    subst (λ (s : Standing). Answers step (record now { idling = Some tag }) line old new before after how s) closed_too
    (record { answers = p0.answers; events = p0.events; bytes = p0.bytes; played = ap (λ b. turn_behind b (record now { idling = Some tag }) line p0.answers) alone ∙ p0.leads; met = p0.met; wrote = p0.wrote })

-- what the line says: it isn't DONE, or it is, and what is pending was shown
pub says_not_done : {S : Type 0} (step : S → Call → Answer → S → Type 0) (tag : List ℕ) (now : Standing) (selected : Option Selected) (line : List ℕ) (s : S) (text : Response) → is_done line ≡ false
    → Reaches step tag now now (on_idle_line selected line) (says (response_text texts.ExpectedDone)) s s text text
says_not_done step tag now selected line s text e =
    subst (λ (b : Bool). Reaches step tag now now (if b then showing selected (completed commands.Idle) else says (response_text texts.ExpectedDone)) (says (response_text texts.ExpectedDone)) s s text text) (sym e)
    (reaches_here step tag now (says (response_text texts.ExpectedDone)) s text)

pub says_done : {S : Type 0} (step : S → Call → Answer → S → Type 0) (tag : List ℕ) (now : Standing) (selected : Option Selected) (line : List ℕ) (old new : S) (before after : Response) → is_done line ≡ true
    → Reaches step tag now now (showing selected (completed commands.Idle)) (completed commands.Idle) old new before after
    → Reaches step tag now now (on_idle_line selected line) (completed commands.Idle) old new before after
says_done step tag now selected line old new before after e r =
    subst (λ (b : Bool). Reaches step tag now now (if b then showing selected (completed commands.Idle) else says (response_text texts.ExpectedDone)) (completed commands.Idle) old new before after) (sym e) r

-- ---- a line that is no command

pub fault_answered : {S : Type 0} (step : S → Call → Answer → S → Type 0) (now next : Standing) (line : List ℕ) (fault : ImapFault) (s : S) (before after : List ℕ) (how : After) → read line ≡ Err fault
    → ((tag : List ℕ) (x : Exchange) → literal_in now.profile line fault ≡ Some (tag, x) → Leads tag now x before after how next)
    → (literal_in now.profile line fault ≡ None → (how ≡ Go) × (next ≡ now) × (after ≡ before ++ fault_text now.profile fault))
    → AnswersText step now line s s before after how next
fault_answered step now next line fault s before after how h asks told = by (literal_in now.profile line fault) refl
  where
    by : (o : Option (List ℕ × Exchange)) → literal_in now.profile line fault ≡ o → AnswersText step now line s s before after how next
    by (Some part) e = answers_literal step now next line part.0 part.1 fault s before after how h e (asks part.0 part.1 e)
    by None e =
        let k = told e in
        subst (λ (w : After). AnswersText step now line s s before after w next) (sym k.0) (answers_fault step now next line fault s before after h e k.1 k.2)

-- a line that is given up
pub given_as : (rest : List ℕ) (told parting : ResponseText) (b : Bool) → comes_unasked (announced rest) ≡ b
    → given_up rest told parting ≡ (if b then Wait (bye (response_text parting)) ForNothing else says (response_text told))
given_as rest told parting b e = ap (λ (t : Bool). if t then Wait (bye (response_text parting)) ForNothing else says (response_text told)) e

-- ---- a literal that was taken out of the session

pub taken_again : {s now : Standing} (b : Option begun.PendingLiteral) → s ≡ now → b ≡ None
    → record s { mailing = record s.mailing { begun = option_map pending_of b } } ≡ record now { mailing = record now.mailing { begun = None } }
taken_again {s} {now} b e none =
    ap (λ (o : Option begun.PendingLiteral). record s { mailing = record s.mailing { begun = option_map pending_of o } }) none
    ∙ ap (λ (x : Standing). record x { mailing = record x.mailing { begun = None } }) e

pub put_back : (now mid : Standing) (a : PendingLiteral) → mid ≡ record now { mailing = record now.mailing { begun = None } } → now.mailing.begun ≡ Some a
    → record mid { mailing = record mid.mailing { begun = Some a } } ≡ now
put_back now mid a e is =
    ap (λ (m : Standing). record m { mailing = record m.mailing { begun = Some a } }) e ∙ ap (λ (b : Option PendingLiteral). record now { mailing = record now.mailing { begun = b } }) (sym is)

pub joined_is : (o : Option (Vec ℕ Global)) (whole : List ℕ) → IfSome o (λ line. line.items ≡ whole) → IfNone o (most_line < length whole) → IsJoined o whole
joined_is None whole same long = long
joined_is (Some line) whole same long = same
