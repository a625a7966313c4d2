-- The answers to lines that a client sends.
use Rattle.std.proofs.Common.{◌≡◌, ℕ, ◌<◌, ◌^◌, ◌==◌, length, append_assoc, sym, Bool, true, List, ◌∷◌, ◌++◌, refl, subst, ap, ◌∙◌, []}
use Rattle.std.specs.Prelude.{Option, Some, None, Result, Ok, Err, IfSome, codes, decimal}
use Rattle.std.specs.List.{list_all}
use Rattle.std.proofs.lemmas.Bool.{false≢true}
use Rattle.std.proofs.lemmas.Option.{none-some}
use Rattle.imap_grammar.specs.Reading.{read}
use Rattle.imap_grammar.specs.Verbs.{verb_of, copy_verb}
use Rattle.imap_grammar.specs.declared.command.Command.{Command}
use Rattle.imap_grammar.specs.declared.command.Command.TheVariants as commands
use Rattle.delivery_token.specs.declared.Verdict.{Verdict}
use Rattle.delivery_token.specs.declared.Verdict.TheVariants as verdicts
use Rattle.imap_grammar.specs.declared.command.ImapFault.{ImapFault}
use Rattle.imap_grammar.specs.declared.command.ImapFault.TheVariants.{NoTag, Unknown, LeftOut, Arguments}
use Rattle.imap_session.specs.declared.standing.After.TheVariants.{Go}
use Rattle.imap_session.specs.declared.standing.Selected.{Selected}
use Rattle.imap_session.specs.Exchange.{Answer, PendingLiteral, Exchange, ForNothing, Mailing, Sent, Standing, Turn, Wait, bye, tagged, untagged, Origin, Client, Copied, Batch}
use Rattle.imap_session.specs.Happenings.{kept_behind, IsPrinted}
use Rattle.imap_session.specs.Commands.{appended_words, long_idle_text, long_rest_text, long_text, on_rest, on_verdict, turn_with, without_begun, without_sent, completed, fault_text, on_command, on_idle_line, on_read, only_says, says, showing, arguments_text, logged_in, refused_text, on_text_line, copied_words, on_stored, move_done, with_copy, copies_of, told_copied}
use Rattle.laws_client.specs.Beliefs.{Leads, Leaves, TellsNothing}
use Rattle.laws_client.specs.ListTurns.{is_inner, IsPlain, IsTag, Says, SeesAll}
use Rattle.laws_client.specs.Fetches.{IsNumbered}
use Rattle.laws_client.specs.Commands.{AreNames, HasToldParts, MayAnswer, MayAsk, MayCome, stays}
use Rattle.laws_client.specs.ListLaws.{AnswerIsFollowed, LongLineTellsNothing, VerdictIsFollowed}
use Rattle.laws_client.proofs.Ends.{leaves, refusals, tagged_tells_nothing}
use Rattle.laws_client.proofs.Chosen.{small_in}
use Rattle.laws_client.proofs.Fetched.{flags_leave, row_leaves}
use Rattle.laws_client.proofs.Bytes.{decimal_word, words_are_inner}
use Rattle.laws_client.proofs.Untold.{named_plain, inner_both, list_tells_nothing, status_tells_nothing}
use Rattle.laws_client.proofs.ListPlayed.{turn_follows}
use Rattle.laws_client.proofs.Tags.{Tagged, read_tagged}
use Rattle.exactly_once.proofs.EachExchange.{at_turn}
use Rattle.laws_client.proofs.Turns.{ends_so}
use Rattle.imap_session.specs.declared.texts.ResponseText.TheVariants as texts
use Rattle.imap_session.specs.Texts.{response_text, server_text}
use Rattle.imap_grammar.specs.declared.command.Verb.TheVariants as verbs
use Rattle.imap_session.specs.declared.texts.ResponseText.{ResponseText}
use Rattle.laws_client.proofs.TextRows.{text_plain}
use Rattle.imap_session.specs.declared.texts.ServerText.TheVariants as server
use Rattle.imap_session.specs.declared.standing.Profile.{Profile}
use Rattle.imap_session.specs.declared.standing.Profile.TheVariants.{Standard, Compatible}
use Rattle.laws_client.proofs.Barred.{line_case}
use Rattle.laws_client.proofs.Sought.{found_tells_nothing}
use Rattle.imap_session.proofs.Parts.{IsPart, tells_part, ends_part, asks_part, comes_part, challenge_part, is_parting}
use Rattle.laws_client.proofs.WholeLines.{turn_has, text_has}
use Rattle.laws_client.proofs.CopyWords.{copied_plain, moved_tells_nothing}
use Rattle.exactly_once.proofs.Copying.{TakesBack, back_so, stored_so}
use Rattle.laws_client.proofs.EachCommand.{Steps, Tells, append_so, command_so, copied_so, idle_line_so, rest_so}
use Rattle.imap_session.specs.declared.texts.ServerText.{ServerText}

-- a last line with a text of the table
last : (tag view : List ℕ) (text : ResponseText) → IsTag tag → Says tag view (says (response_text text))
last tag view text t = leaves view _ (tagged_tells_nothing tag (response_text text) t (text_plain text))

shows_then : (tag view : List ℕ) (selected : Option Selected) (x : Exchange) → ((new : List ℕ) → Says tag new x) → Says tag view (showing selected x)
shows_then tag view None x h = h view
shows_then tag view (Some selected) x h = h

nothing_leaves : (view : List ℕ) → Leaves view []
nothing_leaves view = leaves view [] (λ messages. refl)

says_told : (tag view : List ℕ) → IsTag tag → Tells (Says tag view)
says_told tag view t = record { told = λ text. last tag view text t; wanted = λ x p. (nothing_leaves view, p) }

-- ---- messages that are appended or copied

-- what stands behind a literal
rest_says : (tag view : List ℕ) (mailing : Mailing) (a : PendingLiteral) (empty : Bool) → IsTag tag → Says tag view (on_rest mailing a empty)
rest_says tag view mailing a empty t = rest_so (Says tag view) (says_told tag view t) mailing a empty (λ text mailbox is named whole fits. nothing_leaves view)

-- the line that tells where a message was stored
pub stored_plain : (uidvalidity uid : ℕ) → uidvalidity < 2 ^ 64 → uid < 2 ^ 64 → IsPlain (appended_words uidvalidity uid)
stored_plain uidvalidity uid v u =
    let front : List ℕ = codes "OK [APPENDUID " ++ decimal uidvalidity ++ codes " " ++ decimal uid in
    let inner : list_all is_inner front ≡ true =
    inner_both (codes "OK [APPENDUID " ++ decimal uidvalidity ++ codes " ") (decimal uid)
    (inner_both (codes "OK [APPENDUID " ++ decimal uidvalidity) (codes " ")
    (inner_both (codes "OK [APPENDUID ") (decimal uidvalidity) refl (words_are_inner (decimal uidvalidity) (decimal_word uidvalidity v))) refl)
    (words_are_inner (decimal uid) (decimal_word uid u)) in
    record {
      front = front ++ codes "] APPEND complete";
      last = 100;
      is = sym (append_assoc front (codes "] APPEND complete") (100 ∷ []));
      no_count = refl;
      inner = inner_both (front ++ codes "] APPEND complete") (100 ∷ []) (inner_both front (codes "] APPEND complete") inner refl) refl;
    }

-- of copies, and before and behind messages that are moved
copied_says : (tag view : List ℕ) (selected : Option Selected) (batch : Batch) (uidvalidity : ℕ) → IsTag tag → Says tag view (told_copied selected batch uidvalidity)
copied_says tag view selected batch uidvalidity t =
    let words : (new : List ℕ) → Says tag new (says (copied_words uidvalidity batch)) = λ new. leaves new _ (tagged_tells_nothing tag (copied_words uidvalidity batch) t (copied_plain uidvalidity batch)) in
    let done : (new : List ℕ) → Says tag new (move_done batch) = λ new. last tag new (texts.Completed (copy_verb batch.by_uid true)) t in
    copied_so (Says tag view) selected batch uidvalidity (words view) words (λ x p. (leaves view _ (moved_tells_nothing uidvalidity batch), p)) (done view) (λ s. done)

takes_back : (tag view : List ℕ) → IsTag tag → TakesBack (Says tag view)
takes_back tag view t = record { told = λ text. last tag view text t; removed = λ mailbox uids x p. p }

stored_says : (tag view : List ℕ) (mailing : Mailing) (selected : Option Selected) (origin : Origin) (mailbox uid : ℕ) → IsTag tag → uid < 2 ^ 64
    → Says tag view (on_stored mailing selected origin mailbox uid)
stored_says tag view mailing selected Client mailbox uid t u =
    λ status counted. shows_then tag view selected (says (appended_words status.uidvalidity uid))
    (λ new. leaves new _ (tagged_tells_nothing tag (appended_words status.uidvalidity uid) t (stored_plain status.uidvalidity uid counted.uidvalidity u)))
stored_says tag view mailing selected (Copied batch) mailbox uid t u =
    stored_so (Says tag view) (takes_back tag view t) mailing selected batch mailbox uid (λ row left is. nothing_leaves view)
    (λ none status counted. copied_says tag view selected (with_copy uid batch) status.uidvalidity t)

verdict_says : (tag view : List ℕ) (mailing : Mailing) (selected : Option Selected) (origin : Origin) (mailbox : ℕ) (verdict : Verdict) → IsTag tag → IsPrinted verdict
    → Says tag view (on_verdict mailing selected origin mailbox verdict)
verdict_says tag view mailing selected origin mailbox (verdicts.Stored uid) t u = stored_says tag view mailing selected origin mailbox uid t u
verdict_says tag view mailing selected origin mailbox (verdicts.Refused why) t u = back_so (Says tag view) (takes_back tag view t) mailbox (copies_of origin) (refused_text why)

-- ---- commands

-- what is said of the server
pub server_tells_nothing : (text : ServerText) → TellsNothing (untagged (server_text text))
server_tells_nothing (server.Greeting Standard) messages = refl
server_tells_nothing (server.Greeting Compatible) messages = refl
server_tells_nothing (server.Capabilities Standard) messages = refl
server_tells_nothing (server.Capabilities Compatible) messages = refl
server_tells_nothing _ messages = refl

-- what a command says at a view whose numbers can be printed
abbrev SaysAt : List ℕ → List ℕ → Exchange → Type 0
SaysAt tag view x = IsNumbered view → Says tag view x

says_steps : (tag : List ℕ) (now : Standing) (command : Command) → IsTag tag → stays command ≡ true → AreNames now.folders → HasToldParts command → Steps tag now command (SaysAt tag)
says_steps tag now command t here names parts =
    let done : (view : List ℕ) → Says tag view (completed command) = λ view. last tag view (texts.Completed (verb_of command)) t in
    record {
      told = λ view text may numbered. last tag view text t;
      wanted = λ view x p numbered. (nothing_leaves view, p numbered);
      shown = λ view numbered new. done new;
      removed = λ view uids numbered new newer. done newer;
      noticed = λ view text x p numbered. (leaves view _ (server_tells_nothing text), p numbered);
      listed = λ view listing reference pattern x p numbered. (leaves view _ (list_tells_nothing listing reference pattern now.folders names), p numbered);
      counted = λ view name items folder x is p numbered status fits. (leaves view _ (status_tells_nothing folder.name items status (named_plain name now.folders folder names is) fits), p numbered);
      looked = λ view by_uid set next p numbered. p view numbered;
      reads = λ view uid mark next p numbered row is. p row numbered;
      fetches = λ fetch is view mark uid there gone known p q numbered. elim [
        | None ↦ (λ of. q numbered)
        | Some row ↦ (λ of. (row_leaves view uid fetch.by_uid fetch.items row known numbered.few (small_in uid view numbered.small known) of.0 of.1 (subst HasToldParts is parts), p numbered))
      ];
      alters = λ view uid op there gone p q numbered. elim [ None ↦ q numbered | Some flags ↦ p numbered ];
      stores = λ by_uid view uid op there gone known p q numbered. elim [
        | None ↦ q numbered
        | Some flags ↦ (flags_leave view uid by_uid flags known numbered.few (small_in uid view numbered.small known), p numbered)
      ];
      finds = λ search view found x p numbered. (leaves view _ (found_tells_nothing tag t search.by_uid search.returns found), p numbered);
      enters = λ view read_only name off quiet. absurd (false≢true (sym off ∙ here));
      leaves = λ view remove off quiet. absurd (false≢true (sym off ∙ here));
      idles = λ view is numbered. leaves view _ (λ messages. refl);
      parts = λ view is numbered. (leaves view _ (λ messages. refl), last tag view (texts.Completed verbs.Logout) t);
      appends = λ view append is numbered. append_so (Says tag view) (says_told tag view t) now.mailing.most now.folders append (λ mailbox named. leaves view _ (λ messages. refl)) (nothing_leaves view)
          (leaves view _ (λ messages. refl));
      submits = λ view copy is batch mailbox row copied numbered. nothing_leaves view;
    }

command_says : (tag view : List ℕ) (now : Standing) (command : Command) → IsTag tag → MayAsk now view command → Says tag view (on_command tag now command)
command_says tag view now command t may = command_so tag now command (SaysAt tag) (says_steps tag now command t may.stays may.names may.parts) view may.numbered

-- ---- lines that are no commands

pub fault_tells_nothing : (profile : Profile) (fault : ImapFault) → Tagged (Err fault) → TellsNothing (fault_text profile fault)
fault_tells_nothing profile NoTag t messages = refl
fault_tells_nothing profile (Unknown tag) t messages = tagged_tells_nothing tag (response_text texts.UnknownCommand) t (text_plain texts.UnknownCommand) messages
fault_tells_nothing profile (LeftOut tag) t messages = tagged_tells_nothing tag (response_text texts.NotOffered) t (text_plain texts.NotOffered) messages
fault_tells_nothing profile (Arguments tag verb) t messages = tagged_tells_nothing tag (response_text (arguments_text profile verb)) t (text_plain (arguments_text profile verb)) messages

fault_follows : (now : Standing) (fault : ImapFault) (view : List ℕ) (answers : List Answer) (turn : Turn) (new : List ℕ)
    → Tagged (Err fault) → only_says (fault_text now.profile fault) now answers ≡ Some turn → SeesAll view turn.events new → Leads view turn.bytes new
fault_follows now fault view [] turn new t e sees = at_turn (λ (s : Turn). SeesAll view s.events new → Leads view s.bytes new) (only_says (fault_text now.profile fault) now []) turn
    (ends_so view now (fault_text now.profile fault) Go new (leaves view _ (fault_tells_nothing now.profile fault t))) e sees
fault_follows now fault view (answer ∷ more) turn new t e sees = absurd (none-some turn e)

read_follows : (now : Standing) (r : Result (List ℕ × Command) ImapFault) (view : List ℕ) (answers : List Answer) (turn : Turn) (new : List ℕ)
    → Tagged r → MayAnswer now view r → on_read now r answers ≡ Some turn → SeesAll view turn.events new → Leads view turn.bytes new
read_follows now (Ok line) view answers turn new t h e sees =
    line_case (Leads view turn.bytes new) now line.0 line.1 answers turn
    (λ logs d. turn_follows line.0 (refusals line.0 t) view (logged_in now) (completed line.1) answers turn new d (last line.0 view (texts.Completed (verb_of line.1)) t) sees)
    (λ text is d. turn_follows line.0 (refusals line.0 t) view now (says (response_text text)) answers turn new d (last line.0 view text t) sees)
    (λ d. turn_follows line.0 (refusals line.0 t) view now (on_command line.0 now line.1) answers turn new d (command_says line.0 view now line.1 t h) sees) e
read_follows now (Err fault) view answers turn new t h e sees = fault_follows now fault view answers turn new t e sees

-- ---- the line that ends an IDLE

idle_line_says : (tag view : List ℕ) (selected : Option Selected) (line : List ℕ) → IsTag tag → Says tag view (on_idle_line selected line)
idle_line_says tag view selected line t =
    let done : (new : List ℕ) → Says tag new (completed commands.Idle) = λ new. last tag new (texts.Completed verbs.Idle) t in
    idle_line_so (Says tag view) selected line (last tag view texts.ExpectedDone t) (done view) done

-- ---- lines that aren't whole yet, and those that are given up

parting_says : (tag view : List ℕ) (text : ResponseText) → is_parting text ≡ true → Says tag view (Wait (bye (response_text text)) ForNothing)
parting_says tag view texts.LiteralTooBig h = leaves view _ (λ messages. refl)
parting_says tag view texts.ByeOutOfMemory h = leaves view _ (λ messages. refl)
parting_says tag view _ h = absurd (false≢true h)

part_says : (tag view : List ℕ) (x : Exchange) → IsTag tag → IsPart x → Says tag view x
part_says tag view x t (tells_part text h e) = subst (Says tag view) (sym e) (last tag view text t)
part_says tag view x t (ends_part text h e) = subst (Says tag view) (sym e) (parting_says tag view text h)
part_says tag view x t (asks_part line size e) = subst (Says tag view) (sym e) (nothing_leaves view, leaves view _ (λ messages. refl))
part_says tag view x t (comes_part line size e) = subst (Says tag view) (sym e) (nothing_leaves view)
part_says tag view x t (challenge_part line e) = subst (Says tag view) (sym e) (nothing_leaves view, leaves view _ (λ messages. refl))

-- what may be asked of a session may be asked of one with the same mailboxes
pub may_answer : (now other : Standing) (view : List ℕ) (r : Result (List ℕ × Command) ImapFault) → now.folders ≡ other.folders → MayAnswer now view r → MayAnswer other view r
may_answer now other view (Ok line) e may = record { stays = may.stays; numbered = may.numbered; names = subst AreNames e may.names; parts = may.parts }
may_answer now other view (Err fault) e may = tt

text_follows : (now : Standing) (line view : List ℕ) (answers : List Answer) (turn : Turn) (new : List ℕ)
    → MayAnswer now view (read line) → on_text_line now line answers ≡ Some turn → SeesAll view turn.events new → Leads view turn.bytes new
text_follows now line view answers turn new may e sees =
    text_has IsTag (λ o. o ≡ Some turn → Leads view turn.bytes new) now line answers (read_tagged line)
    (λ tag x t part lacks d. turn_follows tag (refusals tag t) view now x answers turn new d (part_says tag view x t part) sees)
    (λ d. read_follows now (read line) view answers turn new (read_tagged line) may d sees) e

pub answer_is_followed : AnswerIsFollowed
answer_is_followed now line view answers turn new h e sees =
    turn_has (λ whole o. MayCome whole now view → o ≡ Some turn → Leads view turn.bytes new) now line answers
    (λ tag b i may d. let t = idle_tag tag b i in turn_follows tag (refusals tag t) view (record now { idling = None }) (on_idle_line now.selected line) answers turn new d (idle_line_says tag view now.selected line t) sees)
    (λ a mailbox flags date b p may d. let t = begun_tag a b in turn_follows a.tag (refusals a.tag t) view (without_begun now) (on_rest now.mailing a (length line == 0)) answers turn new d (rest_says a.tag view now.mailing a (length line == 0) t) sees)
    (λ a x b part may d. let t = begun_tag a b in turn_follows a.tag (refusals a.tag t) view (without_begun now) x answers turn new d (part_says a.tag view x t part) sees)
    (λ whole w may d. text_follows (without_begun now) whole view answers turn new (may_answer now (without_begun now) view (read whole) refl may) d sees) h.1 e
  where
    idle_tag : (tag : List ℕ) → now.mailing.begun ≡ None → now.idling ≡ Some tag → IsTag tag
    idle_tag tag b i = subst (λ (o : Option (List ℕ)). IfSome o IsTag) (ap (λ (o : Option PendingLiteral). kept_behind o now.idling) b ∙ i) h.0

    begun_tag : (a : PendingLiteral) → now.mailing.begun ≡ Some a → IsTag a.tag
    begun_tag a b = subst (λ (o : Option (List ℕ)). IfSome o IsTag) (ap (λ (o : Option PendingLiteral). kept_behind o now.idling) b) h.0

long_idle_tells_nothing : (idling : Option (List ℕ)) → IfSome idling IsTag → TellsNothing (long_idle_text idling)
long_idle_tells_nothing None t messages = refl
long_idle_tells_nothing (Some tag) t messages = tagged_tells_nothing tag (response_text texts.ExpectedDone) t (text_plain texts.ExpectedDone) messages

long_rest_tells_nothing : (tag : List ℕ) (text : Option (List ℕ)) → IsTag tag → TellsNothing (tagged tag (response_text (long_rest_text text)))
long_rest_tells_nothing tag None t messages = tagged_tells_nothing tag (response_text texts.OutOfMemory) t (text_plain texts.OutOfMemory) messages
long_rest_tells_nothing tag (Some text) t messages = tagged_tells_nothing tag (response_text texts.InvalidArguments) t (text_plain texts.InvalidArguments) messages

long_tells_nothing : (begun : Option PendingLiteral) (idling : Option (List ℕ)) → IfSome (kept_behind begun idling) IsTag → TellsNothing (long_text begun idling)
long_tells_nothing None idling t = long_idle_tells_nothing idling t
long_tells_nothing (Some a) idling t = long_rest_tells_nothing a.tag a.text t

pub long_line_tells_nothing : LongLineTellsNothing
long_line_tells_nothing now t = long_tells_nothing now.mailing.begun now.idling t

-- ---- verdicts

heard_follows : (sent : Option Sent) (now : Standing) (verdict : Verdict) (view : List ℕ) (answers : List Answer) (turn : Turn) (new : List ℕ)
    → IfSome sent (λ s. IsTag s.tag) → IsPrinted verdict → turn_with sent now verdict answers ≡ Some turn → SeesAll view turn.events new → Leads view turn.bytes new
heard_follows None now verdict view answers turn new t u e sees = absurd (none-some turn e)
heard_follows (Some sent) now verdict view answers turn new t u e sees =
    turn_follows sent.tag (refusals sent.tag t) view (without_sent now) (on_verdict now.mailing now.selected sent.origin sent.append.mailbox verdict) answers turn new e
    (verdict_says sent.tag view now.mailing now.selected sent.origin sent.append.mailbox verdict t u) sees

pub verdict_is_followed : VerdictIsFollowed
verdict_is_followed now verdict view answers turn new t u e sees = heard_follows now.mailing.sent now verdict view answers turn new t u e sees
