-- A turn of a session says one answer: it has one tagged line at most, and that is its last.
use Rattle.std.proofs.Common.{◌≡◌, ◌⊎◌, inl, inr, append_assoc, ℕ, ◌^◌, ◌<◌, Bool, true, false, List, ◌∷◌, ◌++◌, length, refl, sym, ap, ◌∙◌, subst, append-nil, Option, Some, None, Result, Ok, Err, []}
use Rattle.std.specs.Prelude.{codes, decimal, reverse, IfSome, ◌==◌}
use Rattle.std.specs.List.{list_all}
use Rattle.std.proofs.lemmas.List.{reverse-append}
use Rattle.change_ring.specs.declared.change.Flags.{Flags}
use Rattle.cursor_set.specs.Lines.{lines}
use Rattle.change_ring.specs.View.{position}
use Rattle.delivery_token.specs.declared.Verdict.{Verdict}
use Rattle.delivery_token.specs.declared.Verdict.TheVariants as verdicts
use Rattle.mailbox.specs.declared.clients.MailFault.{MailFault}
use Rattle.mailbox.specs.declared.clients.MailFault.TheVariants.{Stranger, Lapped, Spent, NoMemory}
use Rattle.mailbox.specs.declared.clients.Opening.{Opening}
use Rattle.mailbox.specs.declared.clients.Row.{Row}
use Rattle.mailbox.specs.declared.mailbox.Status.{Status}
use Rattle.imap_grammar.specs.Reading.{read}
use Rattle.imap_grammar.specs.declared.command.Command.{Command}
use Rattle.imap_grammar.specs.declared.command.Command.TheVariants as commands
use Rattle.imap_grammar.specs.declared.command.ImapFault.{ImapFault}
use Rattle.imap_grammar.specs.declared.command.ImapFault.TheVariants as faults
use Rattle.imap_grammar.specs.Verbs.{verb_of, copy_verb}
use Rattle.imap_session.specs.declared.standing.After.{After}
use Rattle.imap_session.specs.declared.standing.Selected.{Selected}
use Rattle.imap_session.specs.Exchange as ex
use Rattle.imap_session.specs.Exchange.{Answer, PendingLiteral, Found, Refused, Event as Happened, Exchange, Mailing, Sent, Standing, Turn, bye, closed, is_idling, played, refusal_after, refusal_text, refused, saying, tagged, untagged, Origin, Client, Copied, Batch}
use Rattle.imap_session.specs.Commands.{appended_words, completed, idle_turn_in, long_rest_text, long_text, on_command, on_idle_line, on_read, on_rest, on_verdict, refused_text, says, turn_of, turn_with, without_begun, without_sent, arguments_text, logged_in, on_text_line, wants_response, awaiting_response, copied_words, moved_words, on_stored, move_done, with_copy, copies_of, told_copied}
use Rattle.laws_client.specs.Commands.{AreNames, HasToldParts}
use Rattle.imap_session.specs.Happenings.{Happening, Heard, Line, Literal, LongLine, Turned, leads_to, whole_line}
use Rattle.laws_client.specs.ListTurns.{IsPlain, is_inner}
use Rattle.laws_client.proofs.IdleTags.{AreTagsOf}
use Rattle.laws_client.proofs.Tags.{TaggedOf, read_tagged_so}
use Rattle.laws_client.proofs.Turns.{the_turn}
use Rattle.laws_client.proofs.Untold.{named_plain, plain_inner}
use Rattle.laws_client.specs.Cuts.{EndsItself, IsOneAnswer, SaysBye, ends, leaves_open, opens}
use Rattle.laws_client.proofs.CutBytes.{Ends, Passes, both_pass, passes_none, then_ends}
use Rattle.laws_client.proofs.Parts.{HasTold, read_told}
use Rattle.laws_client.proofs.CutTexts.{bye_passes, challenge_passes, continuing_passes, text_end, untagged_passes, flags_pass, lines_pass, list_passes, opening_passes, plain_end, row_passes, status_passes, tagged_ends, server_passes, found_passes, plain_name, star_passes}
use Rattle.laws_client.proofs.LastLines.{IsWord}
use Rattle.laws_client.proofs.LastTurns.{appended_inner}
use Rattle.imap_session.specs.declared.texts.ResponseText.TheVariants as texts
use Rattle.imap_session.specs.Texts.{response_text}
use Rattle.imap_session.specs.declared.texts.ResponseText.{ResponseText}
use Rattle.laws_client.proofs.TextRows.{row_inner}
use Rattle.imap_session.proofs.Barring.{line_has}
use Rattle.laws_client.proofs.Barred.{line_case}
use Rattle.std.proofs.lemmas.Bool.{false≢true}
use Rattle.imap_session.proofs.Parts.{IsPart, tells_part, ends_part, asks_part, comes_part, challenge_part}
use Rattle.laws_client.proofs.WholeLines.{turn_has, text_has, whole_turn, said_has}
use Rattle.laws_client.proofs.CopyWords.{copied_plain, moved_plain}
use Rattle.exactly_once.proofs.Copying.{TakesBack, back_so, stored_so}
use Rattle.exactly_once.proofs.EachExchange.{Plays, closed_so, exchange_if, idle_so}
use Rattle.laws_client.proofs.EachCommand.{Steps, Tells, append_so, command_so, copied_so, idle_line_so, rest_so, select_so, shows_so}
use Rattle.imap_grammar.specs.declared.command.Verb.TheVariants as verbs

-- ---- what is read

-- a text that is read has a length that can be printed
abbrev pub IsShort : Option Row → Type 0
IsShort None = Unit {0}
IsShort (Some row) = length row.text.bytes < 2 ^ 64

abbrev pub IsShortAnswer : Answer → Type 0
IsShortAnswer (Found row) = IsShort row
IsShortAnswer answer = Unit {0}

abbrev pub AreShort : List Happened → Type 0
AreShort [] = Unit {0}
AreShort (event ∷ events) = IsShortAnswer event.answer × AreShort events

-- ---- an exchange

-- whatever the store answers, each piece that it writes is passed over, and its last words end a line; and it waits only where it may
abbrev pub SaysCut : (o : Bool) → Exchange → Type 0
SaysCut o (ex.Done words how) = (list_all is_inner words ≡ true) × (plain_end (reverse words) ≡ true)
SaysCut o (ex.Wait bytes waits) = (o ≡ true) × Passes bytes
SaysCut o (ex.Write bytes x) = Passes bytes × SaysCut o x
SaysCut o (ex.Put bytes x) = Passes bytes × SaysCut o x
SaysCut o (ex.Enter selected next) = (opening : Opening) → SaysCut o (next opening)
SaysCut o (ex.Look by_uid set next) = (view : List ℕ) → SaysCut o (next view)
SaysCut o (ex.Read uid mark next) = (row : Option Row) → IsShort row → SaysCut o (next row)
SaysCut o (ex.Count mailbox next) = (status : Status) → SaysCut o (next status)
SaysCut o (ex.Alter uid op next) = (flags : Option Flags) → SaysCut o (next flags)
SaysCut o (ex.Expunge uids x) = SaysCut o x
SaysCut o (ex.Feed limit x) = SaysCut o x
SaysCut o (ex.Leave remove x) = SaysCut o x
SaysCut o (ex.Discard mailbox uids x) = SaysCut o x

-- It ends with the line of this tag; or it has no tagged line, where the session waits and may, or says BYE.
pub data OneOf (tag : List ℕ) (o : Bool) (bytes : List ℕ) : Type 0 where
  kept_open : Passes bytes → (o ≡ true) ⊎ SaysBye bytes → OneOf tag o bytes
  ended : Ends bytes → EndsItself tag bytes → OneOf tag o bytes

-- of a turn, if there is one, whose texts are short
abbrev pub TurnCut : (tag : List ℕ) → (o : Bool) → Option Turn → Type 0
TurnCut tag o turn = IfSome turn (λ s. AreShort s.events → OneOf tag o s.bytes)

pub one_of : (tag : List ℕ) (o : Bool) (bytes : List ℕ) → OneOf tag o bytes → IsOneAnswer bytes
one_of tag o bytes (kept_open p why) = opens p
one_of tag o bytes (ended p own) = ends p

bye_behind : (text bytes : List ℕ) → SaysBye bytes → SaysBye (text ++ bytes)
bye_behind text bytes (front, words, e) = (text ++ front, words, ap (λ (x : List ℕ). text ++ x) e ∙ sym (append_assoc text front (bye words)))

own_behind : (tag text bytes : List ℕ) → EndsItself tag bytes → EndsItself tag (text ++ bytes)
own_behind tag text bytes (front, words, e) = (text ++ front, words, ap (λ (x : List ℕ). text ++ x) e ∙ sym (append_assoc text front (tagged tag words)))

behind_text : (tag : List ℕ) (o : Bool) (text bytes : List ℕ) → Passes text → OneOf tag o bytes → OneOf tag o (text ++ bytes)
behind_text tag o text bytes p (kept_open h (inl may)) = kept_open (both_pass text bytes p h) (inl may)
behind_text tag o text bytes p (kept_open h (inr says)) = kept_open (both_pass text bytes p h) (inr (bye_behind text bytes says))
behind_text tag o text bytes p (ended h own) = ended (then_ends text bytes p h) (own_behind tag text bytes own)

tagged_one : (tag words : List ℕ) (o : Bool) → IsWord tag → list_all is_inner words ≡ true → plain_end (reverse words) ≡ true → OneOf tag o (tagged tag words)
tagged_one tag words o t h k = ended (tagged_ends tag words t h k) ([], words, refl)

bye_of : (tag : List ℕ) (text : ResponseText) (o : Bool) → OneOf tag o (bye (response_text text))
bye_of tag text o = kept_open (bye_passes text) (inr ([], response_text text, refl))

closed_cut : (tag : List ℕ) (o : Bool) (bytes : List ℕ) (now : Standing) (how : After) → OneOf tag o bytes → OneOf tag o (saying bytes (closed now how)).bytes
closed_cut tag o bytes now how p = let whole = subst (OneOf tag o) (sym (append-nil bytes)) p in closed_so (λ s. OneOf tag o (saying bytes s).bytes) now how whole whole

refusal_one : (tag : List ℕ) → IsWord tag → (o : Bool) (fault : MailFault) → OneOf tag o (refusal_text tag fault)
refusal_one tag t o Stranger = bye_of tag texts.InternalFault o
refusal_one tag t o Lapped = bye_of tag texts.ChangesMissed o
refusal_one tag t o Spent = tagged_one tag (response_text texts.MailboxSpent) o t refl refl
refusal_one tag t o NoMemory = tagged_one tag (response_text texts.OutOfMemory) o t refl refl

refused_one : (tag : List ℕ) → IsWord tag → (o : Bool) (now : Standing) (fault : MailFault) → OneOf tag o (refused tag now fault).bytes
refused_one tag t o now fault = closed_cut tag o (refusal_text tag fault) now (refusal_after fault) (refusal_one tag t o fault)

cutting : (tag : List ℕ) → IsWord tag → (o : Bool) → Plays tag (λ now x turn. SaysCut o x → AreShort turn.events → OneOf tag o turn.bytes)
cutting tag t o = record {
  done = λ now words how p short. closed_cut tag o (tagged tag words) now how (tagged_one tag words o t p.0 p.1);
  waits = λ now bytes w p short. subst (OneOf tag o) (sym (append-nil bytes)) (kept_open p.1 (inl p.0));
  drops = λ now bytes purpose size p short. kept_open passes_none (inl p.0);
  parts = λ now bytes purpose size p short. subst (OneOf tag o) (sym (append-nil (bye (response_text texts.ByeOutOfMemory)))) (bye_of tag texts.ByeOutOfMemory o);
  starves = λ now x p short. refused_one tag t o now NoMemory;
  fails = λ now x call fault p short. refused_one tag t o now fault;
  writes = λ now bytes x s so p short. behind_text tag o bytes s.bytes p.0 (so p.1 short);
  puts = λ now bytes x s so p short. behind_text tag o bytes s.bytes p.0 (so p.1 short);
  enters = λ now selected next a s so p short. so (p a) short.1;
  looks = λ now by_uid set next a s so p short. so (p a) short.1;
  reads = λ now uid mark next a s so p short. so (p a short.0) short.1;
  counts = λ now mailbox next a s so p short. so (p a) short.1;
  alters = λ now uid op next a s so p short. so (p a) short.1;
  expunges = λ now uids x met changes gone s so p short. behind_text tag o (lines met changes) s.bytes (lines_pass met changes) (so p short.1);
  feeds = λ now limit x met changes s so p short. behind_text tag o (lines met changes) s.bytes (lines_pass met changes) (so p short.1);
  leaves = λ now remove x gone s so p short. so p short.1;
  discards = λ now mailbox uids x s so p short. so p short.1;
}

played_cut : (tag : List ℕ) → IsWord tag → (o : Bool) (now : Standing) (x : Exchange) (answers : List Answer) → SaysCut o x → TurnCut tag o (played tag now x answers)
played_cut tag t o now x answers p = exchange_if tag (SaysCut o) (λ now turn. AreShort turn.events → OneOf tag o turn.bytes) (cutting tag t o) now x answers p

-- ---- what an exchange is made of

says_cut : (o : Bool) (text : ResponseText) → SaysCut o (says (response_text text))
says_cut o text = (row_inner text, text_end text)

cut_told : (o : Bool) → Tells (SaysCut o)
cut_told o = record { told = says_cut o; wanted = λ x p. (passes_none, p) }

-- ---- commands

cut_steps : (tag : List ℕ) → IsWord tag → (now : Standing) (command : Command) → HasToldParts command → AreNames now.folders → Steps tag now command (λ view. SaysCut (leaves_open command))
cut_steps tag word now command parts names =
    let o : Bool = leaves_open command in
    let done : SaysCut o (completed command) = says_cut o (texts.Completed (verb_of command)) in
    record {
      told = λ view text may. says_cut o text;
      wanted = λ view x p. (passes_none, p);
      shown = λ view. done;
      removed = λ view uids. done;
      noticed = λ view text x p. (server_passes text, p);
      listed = λ view listing reference pattern x p. (list_passes listing reference pattern now.folders names, p);
      counted = λ view name items folder x is p status. (status_passes folder.name items status (named_plain name now.folders folder names is), p);
      looked = λ view by_uid set next p. p;
      reads = λ view uid mark next p row short. p row;
      fetches = λ fetch is view mark uid there gone known p q.
          elim [ None ↦ (λ short. q) | Some row ↦ (λ short. (row_passes (position uid view) fetch.by_uid fetch.items row short (subst HasToldParts is parts), p)) ];
      alters = λ view uid op there gone p q. elim [ None ↦ q | Some flags ↦ p ];
      stores = λ by_uid view uid op there gone known p q. elim [ None ↦ q | Some flags ↦ (flags_pass by_uid (position uid view) uid flags, p) ];
      finds = λ search view found x p. (found_passes tag word search.by_uid search.returns found, p);
      enters = λ view read_only name off quiet. select_so (SaysCut o) (cut_told o) now read_only name (λ x p. (untagged_passes texts.PreviousClosed, p)) (λ x p. (untagged_passes texts.NoneRecent, p))
          (λ folder is p opening. (opening_passes read_only folder.name opening (named_plain name now.folders folder names is), p));
      leaves = λ view remove off quiet. done;
      idles = λ view is. (ap leaves_open is, continuing_passes texts.Idling);
      parts = λ view is. (bye_passes texts.LoggingOut, says_cut o (texts.Completed verbs.Logout));
      appends = λ view append is. append_so (SaysCut o) (cut_told o) now.mailing.most now.folders append (λ mailbox named. (ap leaves_open is, continuing_passes texts.Ready))
          (ap leaves_open is, passes_none) (ap leaves_open is, bye_passes texts.LiteralTooBig);
      submits = λ view copy is batch mailbox row copied. (ap leaves_open is, passes_none);
    }

command_cut : (tag : List ℕ) → IsWord tag → (now : Standing) (command : Command) → HasToldParts command → AreNames now.folders → SaysCut (leaves_open command) (on_command tag now command)
command_cut tag word now command parts names = command_so tag now command (λ view. SaysCut (leaves_open command)) (cut_steps tag word now command parts names) []

-- a turn says one answer, whatever its tag
abbrev pub TurnOne : Option Turn → Type 0
TurnOne turn = IfSome turn (λ s. AreShort s.events → IsOneAnswer s.bytes)

plain : (tag : List ℕ) (o : Bool) (turn : Option Turn) → TurnCut tag o turn → TurnOne turn
plain tag o None p = tt
plain tag o (Some turn) p = λ short. one_of tag o turn.bytes (p short)

plain_turn : (tag : List ℕ) → IsWord tag → (o : Bool) (now : Standing) (x : Exchange) (answers : List Answer) → SaysCut o x → TurnOne (played tag now x answers)
plain_turn tag t o now x answers p = plain tag o (played tag now x answers) (played_cut tag t o now x answers p)

-- ---- lines

rest_cut : (mailing : Mailing) (a : PendingLiteral) (empty : Bool) → SaysCut true (on_rest mailing a empty)
rest_cut mailing a empty = rest_so (SaysCut true) (cut_told true) mailing a empty (λ text mailbox is named whole fits. (refl, passes_none))

idling_cut : (selected : Option Selected) (line : List ℕ) → SaysCut true (on_idle_line selected line)
idling_cut selected line = idle_line_so (SaysCut true) selected line (refl, refl) (refl, refl) (refl, refl)

fault_cut : (fault : ImapFault) (now : Standing) (answers : List Answer) → TaggedOf IsWord (Err fault) → TurnOne (on_read now (Err fault) answers)
fault_cut faults.NoTag now [] t = λ short. subst IsOneAnswer (sym (append-nil (untagged (response_text texts.MissingTag)))) (opens (untagged_passes texts.MissingTag))
fault_cut (faults.Unknown tag) now [] t = λ short. subst IsOneAnswer (sym (append-nil (tagged tag (response_text texts.UnknownCommand)))) (ends (tagged_ends tag (response_text texts.UnknownCommand) t refl refl))
fault_cut (faults.LeftOut tag) now [] t = λ short. subst IsOneAnswer (sym (append-nil (tagged tag (response_text texts.NotOffered)))) (ends (tagged_ends tag (response_text texts.NotOffered) t refl refl))
fault_cut (faults.Arguments tag verb) now [] t =
    let text : ResponseText = arguments_text now.profile verb in
    λ short. subst IsOneAnswer (sym (append-nil (tagged tag (response_text text)))) (ends (tagged_ends tag (response_text text) t (row_inner text) (text_end text)))
fault_cut fault now (answer ∷ more) t = tt

read_cut : (now : Standing) (r : Result (List ℕ × Command) ImapFault) (answers : List Answer) → TaggedOf IsWord r → HasTold r → AreNames now.folders → TurnOne (on_read now r answers)
read_cut now (Ok line) answers t told names =
    line_has TurnOne now line.0 line.1 answers (λ logs. plain_turn line.0 t false (logged_in now) (completed line.1) answers (says_cut false (texts.Completed (verb_of line.1))))
    (λ text is. plain_turn line.0 t false now (says (response_text text)) answers (says_cut false text)) (plain_turn line.0 t (leaves_open line.1) now (on_command line.0 now line.1) answers (command_cut line.0 t now line.1 told names))
read_cut now (Err fault) answers t told names = fault_cut fault now answers t

-- a line that isn't whole yet, or is given up
part_cut : (x : Exchange) → IsPart x → SaysCut true x
part_cut x (tells_part text h e) = subst (SaysCut true) (sym e) (says_cut true text)
part_cut x (ends_part text h e) = subst (SaysCut true) (sym e) (refl, bye_passes text)
part_cut x (asks_part line size e) = subst (SaysCut true) (sym e) (passes_none, (refl, continuing_passes texts.Ready))
part_cut x (comes_part line size e) = subst (SaysCut true) (sym e) (refl, passes_none)
part_cut x (challenge_part line e) = subst (SaysCut true) (sym e) (passes_none, (refl, challenge_passes))

whole_cut : (now : Standing) (line : List ℕ) (answers : List Answer) → AreNames now.folders → TurnOne (on_text_line now line answers)
whole_cut now line answers names =
    let tagged : TaggedOf IsWord (read line) = read_tagged_so IsWord (λ tag word. word) line in
    text_has IsWord TurnOne now line answers tagged (λ tag x t part lacks. plain_turn tag t true now x answers (part_cut x part)) (read_cut now (read line) answers tagged (read_told line) names)

line_cut : (now : Standing) (line : List ℕ) (answers : List Answer) → AreTagsOf IsWord now → AreNames now.folders → TurnOne (turn_of now line answers)
line_cut now line answers t names =
    turn_has (λ whole o. TurnOne o) now line answers
    (λ tag b i. plain_turn tag (subst (λ (o : Option (List ℕ)). IfSome o IsWord) i t.0) true (record now { idling = None }) (on_idle_line now.selected line) answers (idling_cut now.selected line))
    (λ a mailbox flags date b p. plain_turn a.tag (begun_word a b) true (without_begun now) (on_rest now.mailing a (length line == 0)) answers (rest_cut now.mailing a (length line == 0)))
    (λ a x b part. plain_turn a.tag (begun_word a b) true (without_begun now) x answers (part_cut x part)) (λ whole w. whole_cut (without_begun now) whole answers names)
  where
    begun_word : (a : PendingLiteral) → now.mailing.begun ≡ Some a → IsWord a.tag
    begun_word a b = subst (λ (o : Option PendingLiteral). IfSome o (λ (x : PendingLiteral). IsWord x.tag)) b t.1

long_cut : (begun : Option PendingLiteral) (idling : Option (List ℕ)) → IfSome begun (λ (a : PendingLiteral). IsWord a.tag) → IfSome idling IsWord → IsOneAnswer (long_text begun idling)
long_cut None None t s = opens (untagged_passes texts.LineTooLong)
long_cut None (Some tag) t s = ends (tagged_ends tag (response_text texts.ExpectedDone) s refl refl)
long_cut (Some a) idling t s = let w = says_cut true (long_rest_text a.text) in ends (tagged_ends a.tag (response_text (long_rest_text a.text)) t w.0 w.1)

-- ---- a session that idles, and verdicts

bye_one : (text : ResponseText) → IsOneAnswer (bye (response_text text) ++ [])
bye_one text = subst IsOneAnswer (sym (append-nil (bye (response_text text)))) (opens (bye_passes text))

idle_cut : (selected : Option Selected) (idling : Bool) (now : Standing) (answers : List Answer) → TurnOne (idle_turn_in selected idling now answers)
idle_cut selected idling now answers =
    idle_so (λ turn. AreShort turn.events → IsOneAnswer turn.bytes) now (λ met changes short. subst IsOneAnswer (sym (append-nil (lines met changes))) (opens (lines_pass met changes)))
    (λ short. bye_one texts.ChangesMissed) (λ short. bye_one texts.InternalFault) (λ short. opens passes_none) selected idling answers

appended_end : (v uid : ℕ) → plain_end (reverse (appended_words v uid)) ≡ true
appended_end v uid = ap plain_end (reverse-append (codes "OK [APPENDUID " ++ decimal v ++ codes " " ++ decimal uid) (codes "] APPEND completed"))

-- words of a copy
plain_cut : (words : List ℕ) → IsPlain words → SaysCut true (says words)
plain_cut words plain = (plain_inner words plain, plain_name words plain)

copied_cut : (selected : Option Selected) (batch : Batch) (uidvalidity : ℕ) → SaysCut true (told_copied selected batch uidvalidity)
copied_cut selected batch uidvalidity =
    let words : SaysCut true (says (copied_words uidvalidity batch)) = plain_cut (copied_words uidvalidity batch) (copied_plain uidvalidity batch) in
    let plain : IsPlain (moved_words uidvalidity batch) = moved_plain uidvalidity batch in
    let done : SaysCut true (move_done batch) = says_cut true (texts.Completed (copy_verb batch.by_uid true)) in
    copied_so (SaysCut true) selected batch uidvalidity words words (λ x p. (star_passes [] (moved_words uidvalidity batch) refl (plain_inner _ plain) (plain_name _ plain), p)) done (λ s. done)

takes_back : TakesBack (SaysCut true)
takes_back = record { told = says_cut true; removed = λ mailbox uids x p. p }

stored_cut : (mailing : Mailing) (selected : Option Selected) (origin : Origin) (mailbox uid : ℕ) → SaysCut true (on_stored mailing selected origin mailbox uid)
stored_cut mailing selected Client mailbox uid =
    λ status.
    let words : SaysCut true (says (appended_words status.uidvalidity uid)) = (appended_inner status.uidvalidity uid, appended_end status.uidvalidity uid) in
    shows_so (SaysCut true) selected (says (appended_words status.uidvalidity uid)) words words
stored_cut mailing selected (Copied batch) mailbox uid =
    stored_so (SaysCut true) takes_back mailing selected batch mailbox uid (λ row left is. (refl, passes_none))
    (λ none status. copied_cut selected (with_copy uid batch) status.uidvalidity)

verdict_cut : (mailing : Mailing) (selected : Option Selected) (origin : Origin) (mailbox : ℕ) (verdict : Verdict)
    → SaysCut true (on_verdict mailing selected origin mailbox verdict)
verdict_cut mailing selected origin mailbox (verdicts.Stored uid) = stored_cut mailing selected origin mailbox uid
verdict_cut mailing selected origin mailbox (verdicts.Refused why) = back_so (SaysCut true) takes_back mailbox (copies_of origin) (refused_text why)

heard_cut : (sent : Option Sent) (now : Standing) (verdict : Verdict) (answers : List Answer) → IfSome sent (λ (s : Sent). IsWord s.tag) → TurnOne (turn_with sent now verdict answers)
heard_cut None now verdict answers t = tt
heard_cut (Some sent) now verdict answers t = plain_turn sent.tag t true (without_sent now) (on_verdict now.mailing now.selected sent.origin sent.append.mailbox verdict) answers (verdict_cut now.mailing now.selected sent.origin sent.append.mailbox verdict)

-- ---- a turn

some_cut : (o : Option Turn) (turn : Turn) → TurnOne o → o ≡ Some turn → AreShort turn.events → IsOneAnswer turn.bytes
some_cut o turn p e short = subst TurnOne e p short

pub turn_cut : (now : Standing) (happening : Happening) (turn : Turn) → AreTagsOf IsWord now → AreNames now.folders → leads_to now happening ≡ Some turn → AreShort turn.events → IsOneAnswer turn.bytes
turn_cut now (Line line answers) turn t names e short = some_cut (turn_of now line answers) turn (line_cut now line answers t names) e short
turn_cut now LongLine turn t names e short = subst (λ (x : Turn). IsOneAnswer x.bytes) (ap (the_turn turn) e) (long_cut now.mailing.begun now.idling t.1 t.0)
turn_cut now (Turned answers) turn t names e short = some_cut (idle_turn_in now.selected (is_idling now) now answers) turn (idle_cut now.selected (is_idling now) now answers) e short
turn_cut now (Literal kept bytes) turn t names e short = subst (λ (x : Turn). IsOneAnswer x.bytes) (ap (the_turn turn) e) (opens passes_none)
turn_cut now (Heard verdict answers) turn t names e short = some_cut (turn_with now.mailing.sent now verdict answers) turn (heard_cut now.mailing.sent now verdict answers t.2) e short

-- the answer to a command
some_own : (tag : List ℕ) (o : Bool) (found : Option Turn) (turn : Turn) → TurnCut tag o found → found ≡ Some turn → AreShort turn.events → OneOf tag o turn.bytes
some_own tag o found turn p e short = subst (TurnCut tag o) e p short

-- AUTHENTICATE that waits for its response may have no tagged line
wants_opens : (login : Option (List ℕ)) (command : Command) → wants_response login command ≡ true → leaves_open command ≡ true
wants_opens None command e = absurd (false≢true e)
wants_opens (Some user) (commands.Authenticate a) e = e
wants_opens (Some user) _ e = absurd (false≢true e)

pub command_one : (now : Standing) (line whole tag : List ℕ) (command : Command) (answers : List Answer) (turn : Turn) → AreNames now.folders → whole_line now line ≡ Some whole → read whole ≡ Ok (tag, command) → turn_of now line answers ≡ Some turn
    → AreShort turn.events → OneOf tag (leaves_open command) turn.bytes
command_one now line whole tag command answers turn names came reads e short =
    said_has (λ o. o ≡ Some turn → OneOf tag (leaves_open command) turn.bytes) bare whole tag command answers reads
    (λ waits d. subst (λ (b : Bool). OneOf tag b turn.bytes) (sym (wants_opens now.login command waits)) (own true bare (awaiting_response whole) (passes_none, (refl, challenge_passes)) d))
    (λ d. line_case (OneOf tag (leaves_open command) turn.bytes) bare tag command answers turn (λ logs f. own (leaves_open command) (logged_in bare) (completed command) (says_cut (leaves_open command) (texts.Completed (verb_of command))) f)
    (λ text is f. own (leaves_open command) bare (says (response_text text)) (says_cut (leaves_open command) text) f) (λ f. own (leaves_open command) bare (on_command tag bare command) (command_cut tag word bare command told names) f) d)
    (sym (whole_turn now line whole answers came) ∙ e)
  where
    bare : Standing
    bare = without_begun now

    word : IsWord tag
    word = subst (TaggedOf IsWord) reads (read_tagged_so IsWord (λ tag word. word) whole)

    told : HasToldParts command
    told = subst HasTold reads (read_told whole)

    own : (o : Bool) (s : Standing) (x : Exchange) → SaysCut o x → played tag s x answers ≡ Some turn → OneOf tag o turn.bytes
    own o s x p d = some_own tag o (played tag s x answers) turn (played_cut tag word o s x answers p) d short
