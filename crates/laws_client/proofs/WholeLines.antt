-- What came as a command, with its literals in it, and what came as none: what is done about each.
use Rattle.std.proofs.Common.{◌≡◌, ℕ, Bool, true, false, List, [], ◌++◌, length, take, codes, refl, sym, ap, ap₂, ◌∙◌, subst, Option, Some, None, Result, Ok, Err, ◌==◌, if◌then◌else◌}
use Rattle.std.specs.Prelude.{IfSome, nat_lt}
use Rattle.std.specs.Option.{option_map}
use Rattle.std.proofs.lemmas.Bool.{false≢true}
use Rattle.imap_grammar.specs.Literals.{announced, quoted}
use Rattle.imap_grammar.specs.declared.command.Literal.{Literal}
use Rattle.imap_grammar.specs.Reading.{read}
use Rattle.imap_grammar.specs.declared.command.Command.{Command}
use Rattle.imap_grammar.specs.declared.command.Command.TheVariants as commands
use Rattle.imap_grammar.specs.declared.command.ImapFault.{ImapFault}
use Rattle.imap_grammar.specs.declared.command.ImapFault.TheVariants.{NoTag, Unknown, LeftOut, Arguments}
use Rattle.change_ring.specs.declared.change.Flags.{Flags}
use Rattle.mail_date.specs.declared.stamp.Stamp.{Stamp}
use Rattle.imap_session.specs.declared.texts.ResponseText.{ResponseText}
use Rattle.imap_session.specs.declared.texts.ResponseText.TheVariants as texts
use Rattle.imap_session.specs.Exchange.{Answer, Argument, Exchange, Message, PendingLiteral, Purpose, Response, Standing, Turn, played}
use Rattle.imap_grammar.specs.declared.command.Authenticate.{Authenticate}
use Rattle.imap_session.specs.Commands.{awaiting_argument, awaiting_response, fault_tag, given_up, lacks_literal, lacks_part, literal_in, logs_in_as, most_line, on_behind, on_idle_line, on_line, on_part, on_read, on_rest, on_rest_of, on_text_line, response_in, turn_behind, turn_of, turn_while, wants_response, without_begun}
use Rattle.imap_session.proofs.Parts.{IsPart, argument_part, challenge_part, given_part, is_parting, is_told}
use Rattle.imap_session.specs.declared.standing.Profile.{Profile}
use Rattle.imap_session.specs.declared.standing.Profile.TheVariants.{Standard, Compatible}
use Rattle.laws_client.proofs.Reading.{asked_by}
use Rattle.laws_client.proofs.Tags.{TaggedOf}
use Rattle.laws_client.specs.Clients.{Neither, asked}
use Rattle.imap_session.specs.Happenings.{if_kept, whole_behind, whole_in, whole_line}

-- a session that waits for no rest of a line, and doesn't idle, stands as without those
bare : (now : Standing) → now.mailing.begun ≡ None → now.idling ≡ None → without_begun now ≡ now
bare now b i = ap₂ (λ (begun : Option PendingLiteral) (idling : Option (List ℕ)). record now { idling = idling; mailing = record now.mailing { begun = begun } }) (sym b) (sym i)

-- What holds of the answer to a line that ends an IDLE, or stands behind a message, or is given up, and of each that came as a command, holds of the answer to a line.
pub turn_given : (Q : Option (List ℕ) → Option Turn → Type 0) (now : Standing) (line : List ℕ) (answers : List Answer)
    → ((tag : List ℕ) → now.mailing.begun ≡ None → now.idling ≡ Some tag → Q None (played tag (record now { idling = None }) (on_idle_line now.selected line) answers))
    → ((a : PendingLiteral) (mailbox : Option ℕ) (flags : Flags) (date : Option Stamp) → now.mailing.begun ≡ Some a → a.purpose ≡ Message mailbox flags date → Q None (played a.tag (without_begun now) (on_rest now.mailing a (length line == 0)) answers))
    → ((a : PendingLiteral) (told parting : ResponseText) → now.mailing.begun ≡ Some a → is_told told ≡ true → is_parting parting ≡ true → Q None (played a.tag (without_begun now) (given_up line told parting) answers))
    → ((whole : List ℕ) → whole_line now line ≡ Some whole → Q (Some whole) (on_text_line (without_begun now) whole answers))
    → Q (whole_line now line) (turn_of now line answers)
turn_given Q now line answers idles message given said = behind now.mailing.begun refl
  where
    short : (a : PendingLiteral) → now.mailing.begun ≡ Some a → (whole : List ℕ) (long : Bool) → whole_line now line ≡ (if long then None else Some whole)
        → Q (if long then None else Some whole) (if long then played a.tag (without_begun now) (given_up line texts.LineTooLong texts.LiteralTooBig) answers else on_text_line (without_begun now) whole answers)
    short a is whole true e = given a texts.LineTooLong texts.LiteralTooBig is refl refl
    short a is whole false e = said whole e

    joined : (a : PendingLiteral) → now.mailing.begun ≡ Some a → (text : Option (List ℕ)) → whole_line now line ≡ if_kept text → Q (if_kept text) (on_behind a.tag (without_begun now) text line answers)
    joined a is None e = given a texts.OutOfMemory texts.ByeOutOfMemory is refl refl
    joined a is (Some whole) e = short a is whole (nat_lt most_line (length whole)) e

    purposed : (a : PendingLiteral) → now.mailing.begun ≡ Some a → (purpose : Purpose) → a.purpose ≡ purpose → whole_line now line ≡ whole_behind purpose a.text line → Q (whole_behind purpose a.text line) (on_rest_of purpose a now line answers)
    purposed a is (Message mailbox flags date) p e = message a mailbox flags date is p
    purposed a is (Argument before) p e = joined a is (option_map (λ text. before ++ quoted text ++ line) a.text) e
    purposed a is (Response before) p e = joined a is (option_map (λ text. before ++ codes " " ++ response_in line) a.text) e

    while : now.mailing.begun ≡ None → (idling : Option (List ℕ)) → now.idling ≡ idling → Q (whole_in None idling line) (turn_while idling now line answers)
    while b None i =
        let e : whole_line now line ≡ Some line = ap (λ (o : Option PendingLiteral). whole_in o now.idling line) b ∙ ap (λ (o : Option (List ℕ)). whole_in None o line) i in
        subst (λ (s : Standing). Q (Some line) (on_text_line s line answers)) (bare now b i) (said line e)
    while b (Some tag) i = idles tag b i

    behind : (begun : Option PendingLiteral) → now.mailing.begun ≡ begun → Q (whole_in begun now.idling line) (turn_behind begun now line answers)
    behind None b = while b now.idling refl
    behind (Some a) b = purposed a b a.purpose refl (ap (λ (o : Option PendingLiteral). whole_in o now.idling line) b)

-- the same, where it doesn't matter how a line is given up
pub turn_has : (Q : Option (List ℕ) → Option Turn → Type 0) (now : Standing) (line : List ℕ) (answers : List Answer)
    → ((tag : List ℕ) → now.mailing.begun ≡ None → now.idling ≡ Some tag → Q None (played tag (record now { idling = None }) (on_idle_line now.selected line) answers))
    → ((a : PendingLiteral) (mailbox : Option ℕ) (flags : Flags) (date : Option Stamp) → now.mailing.begun ≡ Some a → a.purpose ≡ Message mailbox flags date → Q None (played a.tag (without_begun now) (on_rest now.mailing a (length line == 0)) answers))
    → ((a : PendingLiteral) (x : Exchange) → now.mailing.begun ≡ Some a → IsPart x → Q None (played a.tag (without_begun now) x answers))
    → ((whole : List ℕ) → whole_line now line ≡ Some whole → Q (Some whole) (on_text_line (without_begun now) whole answers))
    → Q (whole_line now line) (turn_of now line answers)
turn_has Q now line answers idles message part said =
    turn_given Q now line answers idles message (λ a told parting b t p. part a (given_up line told parting) b (given_part line told parting t p)) said

-- what came as a command is answered as such, by the session as it stands then
pub whole_turn : (now : Standing) (line whole : List ℕ) (answers : List Answer) → whole_line now line ≡ Some whole → turn_of now line answers ≡ on_text_line (without_begun now) whole answers
whole_turn now line whole answers e =
    turn_has (λ o turn. o ≡ Some whole → turn ≡ on_text_line (without_begun now) whole answers) now line answers (λ tag b i h. cc) (λ a mailbox flags date b p h. cc) (λ a x b p h. cc)
    (λ w is h. ap (λ (o : Option (List ℕ)). on_text_line (without_begun now) (or_line o) answers) h) e
  where
    or_line : Option (List ℕ) → List ℕ
    or_line None = []
    or_line (Some w) = w

-- a line that is read as a command is that, but AUTHENTICATE that waits for its response
pub said_has : (Q : Option Turn → Type 0) (now : Standing) (line tag : List ℕ) (command : Command) (answers : List Answer) → read line ≡ Ok (tag, command)
    → (wants_response now.login command ≡ true → Q (played tag now (awaiting_response line) answers)) → Q (on_line (logs_in_as now.login command) now tag command answers) → Q (on_text_line now line answers)
said_has Q now line tag command answers reads waits done =
    let whole : Q (on_read now (read line) answers) = subst (λ (r : Result (List ℕ × Command) ImapFault). Q (on_read now r answers)) (sym reads) done in
    subst (λ (r : Result (List ℕ × Command) ImapFault). Q (on_part (lacks_part now.profile now.login line r) now line answers)) (sym reads) (by (wants_response now.login command) refl whole)
  where
    by : (b : Bool) → wants_response now.login command ≡ b → Q (on_read now (read line) answers) → Q (on_part (if b then Some (tag, awaiting_response line) else None) now line answers)
    by true e w = waits e
    by false e w = w

-- So where it waits for none, what came as a command leads to the turn of that.
pub said_turn : (now : Standing) (line whole tag : List ℕ) (command : Command) (answers : List Answer) (turn : Turn) → whole_line now line ≡ Some whole → read whole ≡ Ok (tag, command) → wants_response now.login command ≡ false
    → turn_of now line answers ≡ Some turn → on_line (logs_in_as now.login command) (without_begun now) tag command answers ≡ Some turn
said_turn now line whole tag command answers turn e reads none d =
    said_has (λ o. o ≡ Some turn → on_line (logs_in_as now.login command) (without_begun now) tag command answers ≡ Some turn) (without_begun now) whole tag command answers reads (λ waits. absurd (false≢true (sym none ∙ waits))) (λ h. h) (sym (whole_turn now line whole answers e) ∙ d)

-- the tag that is told in a fault
fault_tagged : (P : List ℕ → Type 0) (fault : ImapFault) → TaggedOf P (Err fault) → IfSome (fault_tag fault) P
fault_tagged P NoTag t = tt
fault_tagged P (Unknown tag) t = t
fault_tagged P (LeftOut tag) t = t
fault_tagged P (Arguments tag verb) t = t

-- it is no command, or AUTHENTICATE that waits for its response
abbrev pub IsUnfinished : (login : Option (List ℕ)) → Result (List ℕ × Command) ImapFault → Type 0
IsUnfinished login (Ok said) = wants_response login said.1 ≡ true
IsUnfinished login (Err fault) = Unit {0}

-- What holds of each part of a line under its tag, and of a line that is whole, holds of a line.
pub text_has : (P : List ℕ → Type 0) (Q : Option Turn → Type 0) (now : Standing) (line : List ℕ) (answers : List Answer) → TaggedOf P (read line)
    → ((tag : List ℕ) (x : Exchange) → P tag → IsPart x → IsUnfinished now.login (read line) → Q (played tag now x answers)) → Q (on_read now (read line) answers) → Q (on_text_line now line answers)
text_has P Q now line answers t part whole = by (read line) t part
  where
    literal : (tag : Option (List ℕ)) (found : Option (ℕ × Literal)) → IfSome tag P → ((tag : List ℕ) (x : Exchange) → P tag → IsPart x → Q (played tag now x answers)) → Q (on_part (lacks_literal line tag found) now line answers)
    literal None found t part = whole
    literal (Some tag) None t part = whole
    literal (Some tag) (Some f) t part = part tag _ t (argument_part (take f.0 line) f.1)

    in_profile : (profile : Profile) (fault : ImapFault) → IfSome (fault_tag fault) P → ((tag : List ℕ) (x : Exchange) → P tag → IsPart x → Q (played tag now x answers)) → Q (on_part (literal_in profile line fault) now line answers)
    in_profile Standard fault t part = whole
    in_profile Compatible fault t part = literal (fault_tag fault) (announced line) t part

    response : (b : Bool) (tag : List ℕ) → P tag → (b ≡ true → (x : Exchange) → IsPart x → Q (played tag now x answers)) → Q (on_part (if b then Some (tag, awaiting_response line) else None) now line answers)
    response true tag t part = part refl _ (challenge_part line refl)
    response false tag t part = whole

    by : (r : Result (List ℕ × Command) ImapFault) → TaggedOf P r → ((tag : List ℕ) (x : Exchange) → P tag → IsPart x → IsUnfinished now.login r → Q (played tag now x answers)) → Q (on_part (lacks_part now.profile now.login line r) now line answers)
    by (Ok said) t part = response (wants_response now.login said.1) said.0 t (λ waits x is. part said.0 x t is waits)
    by (Err fault) t part = in_profile now.profile fault (fault_tagged P fault t) (λ tag x tagged is. part tag x tagged is tt)

-- the same, by what is awaited
pub text_awaits : (Q : Option Turn → Type 0) (now : Standing) (line : List ℕ) (answers : List Answer)
    → ((tag : List ℕ) (found : ℕ × Literal) → announced line ≡ Some found → Q (played tag now (awaiting_argument (take found.0 line) found.1) answers))
    → ((tag : List ℕ) (a : Authenticate) → read line ≡ Ok (tag, commands.Authenticate a) → Q (played tag now (awaiting_response line) answers)) → Q (on_read now (read line) answers) → Q (on_text_line now line answers)
text_awaits Q now line answers argument response whole = by (read line) response
  where
    literal : (tag : Option (List ℕ)) (found : Option (ℕ × Literal)) → announced line ≡ found → Q (on_part (lacks_literal line tag found) now line answers)
    literal None found e = whole
    literal (Some tag) None e = whole
    literal (Some tag) (Some found) e = argument tag found e

    in_profile : (profile : Profile) (fault : ImapFault) → Q (on_part (literal_in profile line fault) now line answers)
    in_profile Standard fault = whole
    in_profile Compatible fault = literal (fault_tag fault) (announced line) refl

    waits : (b : Bool) (tag : List ℕ) → (b ≡ true → Q (played tag now (awaiting_response line) answers)) → Q (on_part (if b then Some (tag, awaiting_response line) else None) now line answers)
    waits true tag r = r refl
    waits false tag r = whole

    logs_in : (login : Option (List ℕ)) (said : List ℕ × Command) → ((tag : List ℕ) (a : Authenticate) → ◌≡◌ {A = Result (List ℕ × Command) ImapFault} (Ok said) (Ok (tag, commands.Authenticate a)) → Q (played tag now (awaiting_response line) answers))
        → wants_response login said.1 ≡ true → Q (played said.0 now (awaiting_response line) answers)
    logs_in None said r e = absurd (false≢true e)
    logs_in (Some user) (tag, commands.Authenticate a) r e = r tag a refl
    logs_in (Some user) (tag, _) r e = absurd (false≢true e)

    by : (r : Result (List ℕ × Command) ImapFault) → ((tag : List ℕ) (a : Authenticate) → r ≡ Ok (tag, commands.Authenticate a) → Q (played tag now (awaiting_response line) answers)) → Q (on_part (lacks_part now.profile now.login line r) now line answers)
    by (Ok said) response = waits (wants_response now.login said.1) said.0 (logs_in now.login said response)
    by (Err fault) response = in_profile now.profile fault

-- it asks for no mailbox, and leaves none
pub unfinished_asks : (login : Option (List ℕ)) (r : Result (List ℕ × Command) ImapFault) → IsUnfinished login r → asked r ≡ Neither
unfinished_asks None (Ok said) u = absurd (false≢true u)
unfinished_asks (Some user) (Ok said) u = by said.0 said.1 u
  where
    by : (tag : List ℕ) (command : Command) → wants_response (Some user) command ≡ true → asked_by tag command ≡ Neither
    by tag (commands.Authenticate a) u = refl
    by tag _ u = absurd (false≢true u)
unfinished_asks login (Err fault) u = refl
