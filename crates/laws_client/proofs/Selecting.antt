-- A client that knows that it is in a mailbox has a session that has selected one.
use Rattle.std.proofs.Common.{◌≡◌, ℕ, Bool, true, false, List, ◌∷◌, length, ap, refl, sym, ◌∙◌, subst, []}
use Rattle.std.specs.Prelude.{Option, Some, None, Result, Ok, Err, ◌==◌, not, if◌then◌else◌}
use Rattle.std.proofs.lemmas.Option.{none-some}
use Rattle.mailbox.specs.declared.clients.MailFault.{MailFault}
use Rattle.mailbox.specs.declared.clients.MailFault.TheVariants.{NoMemory}
use Rattle.imap_grammar.specs.Reading.{read}
use Rattle.imap_grammar.specs.declared.command.Command.{Command}
use Rattle.imap_grammar.specs.declared.command.ImapFault.{ImapFault}
use Rattle.imap_session.specs.declared.standing.After.{After}
use Rattle.imap_session.specs.declared.standing.After.TheVariants.{Go}
use Rattle.imap_session.specs.declared.standing.Selected.{Selected}
use Rattle.imap_session.specs.Exchange.{Answer, Entered, Left, Refused, Exchange, ForDone, Done, Wait, Write, Put, Enter, Look, Read, Count, Alter, Expunge, Feed, Leave, Standing, Turn, PendingLiteral, Sent, Waiting, closed, having, played, refusal_after, refusal_text, refused, saying, tagged, waiting, Folder, Mailing, is_idling, Discard, Origin, Batch, Copied, Client as FromClient}
use Rattle.imap_session.specs.Commands.{idle_turn_in, turn_of, fault_text, on_command, on_idle_line, on_read, on_rest, on_verdict, only_says, turn_with, without_begun, without_sent, closing, completed, entering, folder_of, on_folder, on_found, says, selecting, wanting, wrong_state, opened, logged_in, telling_recent, entered_text, on_text_line, on_stored, told_copied, with_copy, copies_of, refused_text}
use Rattle.delivery_token.specs.declared.Verdict.{Verdict}
use Rattle.change_ring.specs.declared.change.Flags.{Flags}
use Rattle.mailbox.specs.declared.clients.Row.{Row}
use Rattle.mailbox.specs.declared.mailbox.Status.{Status}
use Rattle.imap_grammar.specs.declared.command.Command.TheVariants as commands
use Rattle.delivery_token.specs.declared.Verdict.TheVariants as verdicts
use Rattle.std.proofs.lemmas.Bool.{false≢true}
use Rattle.laws_client.specs.Client.{Client, reads}
use Rattle.laws_client.specs.Commands.{stays}
use Rattle.laws_client.specs.ListTurns.{IsTag}
use Rattle.imap_session.specs.Happenings.{Happening, Heard, Line, Literal, LongLine, Told, Turned, leads_to, told_line, told_of, whole_line}
use Rattle.laws_client.proofs.Reading.{asked_by, fresh}
use Rattle.laws_client.proofs.Tags.{Tagged, read_tagged}
use Rattle.world.specs.World.{Config, World}
use Rattle.laws_client.specs.Clients.{Asked, answered, asked, has_ok, hears, hears_all, reads_on}
use Rattle.laws_client.specs.HouseClients.{comes, turns, others}
use Rattle.laws_client.specs.HouseClients.{Lives}
use Rattle.laws_client.specs.Selecting.{KnowingIsSelected, Known_selected}
use Rattle.laws_client.proofs.RecordEntering.{Only, Wrote, wanted, wrote, writes, mapped, only_done, only_refused, refusal_has_none, tagged_has, at_star, closed_line}
use Rattle.exactly_once.proofs.EachExchange.{Plays, closed_so, idle_keeps, turn_so}
use Rattle.laws_client.proofs.Living.{hears_last}
use Rattle.laws_client.proofs.Turns.{the_turn}
use Rattle.imap_session.specs.declared.texts.ResponseText.TheVariants as texts
use Rattle.imap_session.specs.Texts.{response_text}
use Rattle.imap_grammar.specs.declared.command.Verb.TheVariants as verbs
use Rattle.imap_session.specs.declared.standing.Profile.{Profile}
use Rattle.imap_session.specs.declared.standing.Profile.TheVariants.{Standard, Compatible}
use Rattle.imap_session.proofs.Barring.{refuses}
use Rattle.imap_session.specs.declared.texts.ResponseText.{ResponseText}
use Rattle.laws_client.proofs.Barred.{asked_has, line_case, login_asks, refused_turn}
use Rattle.imap_session.proofs.Parts.{IsPart, tells_part, ends_part, asks_part, comes_part, challenge_part}
use Rattle.laws_client.proofs.WholeLines.{unfinished_asks, turn_has, text_has}
use Rattle.exactly_once.proofs.Copying.{TakesBack, back_so, stored_so}
use Rattle.laws_client.proofs.EachCommand.{Steps, Tells, append_so, command_so, copied_so, idle_line_so, rest_so, shows_so}

-- no mailbox is entered or left
abbrev pub StaysIn : Exchange → Type 0
StaysIn (Done words how) = Unit {0}
StaysIn (Wait bytes w) = Unit {0}
StaysIn (Write bytes x) = StaysIn x
StaysIn (Put bytes x) = StaysIn x
StaysIn (Enter selected next) = ⊥
StaysIn (Look by_uid set next) = (view : List ℕ) → StaysIn (next view)
StaysIn (Read uid mark next) = (row : Option Row) → StaysIn (next row)
StaysIn (Count mailbox next) = (status : Status) → StaysIn (next status)
StaysIn (Alter uid op next) = (flags : Option Flags) → StaysIn (next flags)
StaysIn (Expunge uids x) = StaysIn x
StaysIn (Feed limit x) = StaysIn x
StaysIn (Leave remove x) = ⊥
StaysIn (Discard mailbox uids x) = StaysIn x

closed_keeps : (now : Standing) (how : After) → (closed now how).standing.selected ≡ now.selected
closed_keeps now how = closed_so (λ (s : Turn). s.standing.selected ≡ now.selected) now how refl refl

pub given_up : (tag : List ℕ) (now : Standing) (fault : MailFault) (turn : Turn) → Some (refused tag now fault) ≡ Some turn → turn.standing.selected ≡ now.selected
given_up tag now fault turn e = ap (λ (s : Turn). s.standing.selected) (sym (ap (the_turn turn) e)) ∙ closed_keeps now (refusal_after fault)

waiting_keeps : (tag : List ℕ) (now : Standing) (w : Waiting) → (waiting tag w now).selected ≡ now.selected
waiting_keeps tag now ForDone = refl
waiting_keeps tag now _ = refl

staying : (tag : List ℕ) → Plays tag (λ now x turn. StaysIn x → turn.standing.selected ≡ now.selected)
staying tag = record {
  done = λ now words how p. closed_keeps now how;
  waits = λ now bytes w p. waiting_keeps tag now w;
  drops = λ now bytes purpose size p. refl;
  parts = λ now bytes purpose size p. refl;
  starves = λ now x p. closed_keeps now (refusal_after NoMemory);
  fails = λ now x call fault p. closed_keeps now (refusal_after fault);
  writes = λ now bytes x s so. so;
  puts = λ now bytes x s so. so;
  enters = λ now selected next a s so p. absurd p;
  looks = λ now by_uid set next a s so p. so (p a);
  reads = λ now uid mark next a s so p. so (p a);
  counts = λ now mailbox next a s so p. so (p a);
  alters = λ now uid op next a s so p. so (p a);
  expunges = λ now uids x met changes gone s so. so;
  feeds = λ now limit x met changes s so. so;
  leaves = λ now remove x gone s so p. absurd p;
  discards = λ now mailbox uids x s so. so;
}

pub selected_stays : (tag : List ℕ) (now : Standing) (x : Exchange) (answers : List Answer) (turn : Turn) → StaysIn x → played tag now x answers ≡ Some turn → turn.standing.selected ≡ now.selected
selected_stays tag now x answers turn p e = turn_so tag (λ now x turn. StaysIn x → turn.standing.selected ≡ now.selected) (staying tag) now x answers turn e p

-- ---- exchanges

in_recent : (profile : Profile) (x : Exchange) → StaysIn x → StaysIn (telling_recent profile x)
in_recent Standard x h = h
in_recent Compatible x h = h

-- nothing that is appended or copied enters or leaves one
stays_told : Tells StaysIn
stays_told = record { told = λ text. tt; wanted = λ x p. p }

pub in_found : {A : Type 0} (found : A → Exchange) (gone : Exchange) (o : Option A) → ((a : A) → StaysIn (found a)) → StaysIn gone → StaysIn (on_found found gone o)
in_found found gone None h g = g
in_found found gone (Some a) h g = h a

stays_steps : (tag : List ℕ) (now : Standing) (command : Command) → stays command ≡ true → Steps tag now command (λ view. StaysIn)
stays_steps tag now command e = record {
  told = λ view text may. tt;
  wanted = λ view x p. p;
  shown = λ view. tt;
  removed = λ view uids. tt;
  noticed = λ view text x p. p;
  listed = λ view listing reference pattern x p. p;
  counted = λ view name items folder x is p status. p;
  looked = λ view by_uid set next p. p;
  reads = λ view uid mark next p. p;
  fetches = λ fetch is view mark uid there gone known p q. elim [ None ↦ q | Some row ↦ p ];
  alters = λ view uid op there gone p q. elim [ None ↦ q | Some flags ↦ p ];
  stores = λ by_uid view uid op there gone known p q. elim [ None ↦ q | Some flags ↦ p ];
  finds = λ search view found x p. p;
  enters = λ view read_only name off quiet. absurd (false≢true (sym off ∙ e));
  leaves = λ view remove off quiet. absurd (false≢true (sym off ∙ e));
  idles = λ view is. tt;
  parts = λ view is. tt;
  appends = λ view append is. append_so StaysIn stays_told now.mailing.most now.folders append (λ mailbox named. tt) tt tt;
  submits = λ view copy is batch mailbox row copied. tt;
}

pub in_command : (tag : List ℕ) (now : Standing) (command : Command) → stays command ≡ true → StaysIn (on_command tag now command)
in_command tag now command e = command_so tag now command (λ view. StaysIn) (stays_steps tag now command e) []

pub in_rest : (mailing : Mailing) (a : PendingLiteral) (empty : Bool) → StaysIn (on_rest mailing a empty)
in_rest mailing a empty = rest_so StaysIn stays_told mailing a empty (λ text mailbox is named whole fits. tt)

pub in_idle_line : (selected : Option Selected) (line : List ℕ) → StaysIn (on_idle_line selected line)
in_idle_line selected line = idle_line_so StaysIn selected line tt tt tt

in_copied : (selected : Option Selected) (batch : Batch) (uidvalidity : ℕ) → StaysIn (told_copied selected batch uidvalidity)
in_copied selected batch uidvalidity = copied_so StaysIn selected batch uidvalidity tt tt (λ x p. p) tt (λ s. tt)

in_back : TakesBack StaysIn
in_back = record { told = λ text. tt; removed = λ mailbox uids x p. p }

in_stored : (mailing : Mailing) (selected : Option Selected) (origin : Origin) (mailbox uid : ℕ) → StaysIn (on_stored mailing selected origin mailbox uid)
in_stored mailing selected FromClient mailbox uid = λ status. shows_so StaysIn selected _ tt tt
in_stored mailing selected (Copied batch) mailbox uid =
    stored_so StaysIn in_back mailing selected batch mailbox uid (λ row left is. tt) (λ none status. in_copied selected (with_copy uid batch) status.uidvalidity)

in_verdict : (mailing : Mailing) (selected : Option Selected) (origin : Origin) (mailbox : ℕ) (verdict : Verdict) → StaysIn (on_verdict mailing selected origin mailbox verdict)
in_verdict mailing selected origin mailbox (verdicts.Stored uid) = in_stored mailing selected origin mailbox uid
in_verdict mailing selected origin mailbox (verdicts.Refused why) = back_so StaysIn in_back mailbox (copies_of origin) (refused_text why)

-- ---- turns while it idles

pub idle_selected : (selected : Option Selected) (idling : Bool) (now : Standing) (answers : List Answer) (turn : Turn) → idle_turn_in selected idling now answers ≡ Some turn → turn.standing.selected ≡ now.selected
idle_selected selected idling now answers turn e = idle_keeps (λ (s : Standing). s.selected ≡ now.selected) selected idling now answers turn refl refl e

-- ---- a client and its session

reads_sel : (bytes : List ℕ) (client : Option Client) (now next : Standing) → Known_selected client now → next.selected ≡ now.selected → Known_selected (reads_on bytes client) next
reads_sel bytes None now next k e = tt
reads_sel bytes (Some c) now next k e = (k.0, e ∙ k.1)

-- where SELECT or EXAMINE is answered OK
abbrev IfSel : List ℕ → List ℕ → Standing → Type 0
IfSel tag bytes now = has_ok true tag bytes ≡ true → (s : Selected) × (now.selected ≡ Some s)

refused_sel : (tag : List ℕ) (fault : MailFault) (turn : Turn) → IsTag tag → Only (refusal_text tag fault) turn → IfSel tag turn.bytes turn.standing
refused_sel tag fault turn t only ok = absurd (false≢true (sym (refusal_has_none tag fault t) ∙ ap (has_ok true tag) (sym only.bytes) ∙ ok))

enters_sel : (tag : List ℕ) (now : Standing) (profile : Profile) (read_only : Bool) (folder : Folder) (answers : List Answer) (turn : Turn) → IsTag tag → played tag now (entering profile read_only folder) answers ≡ Some turn → IfSel tag turn.bytes turn.standing
enters_sel tag now profile read_only folder [] turn t e = absurd (none-some turn e)
enters_sel tag now profile read_only folder (Entered o ∷ more) turn t e =
    let selected : Selected = record { mailbox = folder.mailbox; read_only = read_only } in
    let m = mapped (having (Enter folder.mailbox) (Entered o)) (played tag (record now { selected = Some selected }) (opened profile read_only folder.name o) more) turn e in
    subst (λ (s : Turn). IfSel tag s.bytes s.standing) m.makes (λ ok. (selected, selected_stays tag (record now { selected = Some selected }) (opened profile read_only folder.name o) more m.more (in_recent profile (says (response_text (entered_text read_only))) tt) m.is))
enters_sel tag now profile read_only folder (Refused fault ∷ []) turn t e =
    let m = mapped (having (Enter folder.mailbox) (Refused fault)) (Some (refused tag now fault)) turn e in
    subst (λ (s : Turn). IfSel tag s.bytes s.standing) m.makes (refused_sel tag fault m.more t (only_refused tag now fault m.more m.is))
enters_sel tag now profile read_only folder (_ ∷ more) turn t e = absurd (none-some turn e)

named_sel : (tag : List ℕ) (now : Standing) (profile : Profile) (read_only : Bool) (name : List ℕ) (folders : List Folder) (answers : List Answer) (turn : Turn) → IsTag tag → played tag now (on_folder name folders (entering profile read_only)) answers ≡ Some turn → IfSel tag turn.bytes turn.standing
named_sel tag now profile read_only name folders answers turn t e = by (folder_of name folders) e
  where
    by : (found : Option Folder) → played tag now (on_found (entering profile read_only) (says (response_text texts.NoSuchMailbox)) found) answers ≡ Some turn → IfSel tag turn.bytes turn.standing
    by None d ok = absurd (false≢true (sym (tagged_has tag (response_text texts.NoSuchMailbox) t) ∙ ap (has_ok true tag) (sym (only_done tag (response_text texts.NoSuchMailbox) Go now answers turn d).bytes) ∙ ok))
    by (Some folder) d ok = enters_sel tag now profile read_only folder answers turn t d ok

wanted_sel : (tag : List ℕ) (now : Standing) (profile : Profile) (read_only : Bool) (name : List ℕ) (folders : List Folder) (answers : List Answer) (turn : Turn) → IsTag tag
    → played tag now (wanting (on_folder name folders (entering profile read_only))) answers ≡ Some turn → IfSel tag turn.bytes turn.standing
wanted_sel tag now profile read_only name folders answers turn t e = by (writes tag now [] (on_folder name folders (entering profile read_only)) answers turn e)
  where
    by : Wrote tag now [] (on_folder name folders (entering profile read_only)) turn → IfSel tag turn.bytes turn.standing
    by (wanted only stays) = refused_sel tag NoMemory turn t only
    by (wrote rest p) = subst (λ (s : Turn). IfSel tag s.bytes s.standing) p.makes (named_sel tag now profile read_only name folders rest p.more t p.is)

closing_sel : (tag : List ℕ) (now : Standing) (profile : Profile) (read_only : Bool) (name : List ℕ) (folders : List Folder) (selected : Option Selected) (answers : List Answer) (turn : Turn) → IsTag tag
    → played tag now (closing selected (wanting (on_folder name folders (entering profile read_only)))) answers ≡ Some turn → IfSel tag turn.bytes turn.standing
closing_sel tag now profile read_only name folders None answers turn t e = wanted_sel tag now profile read_only name folders answers turn t e
closing_sel tag now profile read_only name folders (Some selected) [] turn t e = absurd (none-some turn e)
closing_sel tag now profile read_only name folders (Some selected) (Left gone ∷ more) turn t e =
    let next : Standing = record now { selected = None } in
    let tail : Exchange = wanting (on_folder name folders (entering profile read_only)) in
    let m = mapped (having (Leave false) (Left gone)) (played tag next (Put closed_line tail) more) turn e in
    let p = mapped (saying closed_line) (played tag next tail more) m.more m.is in
    subst (λ (s : Turn). IfSel tag s.bytes s.standing) m.makes
    (subst (λ (s : Turn). IfSel tag s.bytes s.standing) p.makes (λ ok. wanted_sel tag next profile read_only name folders more p.more t p.is (sym (at_star tag _ t) ∙ ok)))
closing_sel tag now profile read_only name folders (Some selected) (Refused fault ∷ []) turn t e =
    let m = mapped (having (Leave false) (Refused fault)) (Some (refused tag now fault)) turn e in
    subst (λ (s : Turn). IfSel tag s.bytes s.standing) m.makes (refused_sel tag fault m.more t (only_refused tag now fault m.more m.is))
closing_sel tag now profile read_only name folders (Some selected) (_ ∷ more) turn t e = absurd (none-some turn e)

selecting_sel : (tag : List ℕ) (now : Standing) (read_only : Bool) (name : List ℕ) (answers : List Answer) (turn : Turn) (client : Option Client) → IsTag tag → played tag now (selecting now.profile now.folders now.selected read_only name) answers ≡ Some turn
    → Known_selected (if has_ok true tag turn.bytes then Some (reads fresh turn.bytes) else None) turn.standing
selecting_sel tag now read_only name answers turn client t e = told_ok (has_ok true tag turn.bytes) (closing_sel tag now now.profile read_only name now.folders now.selected answers turn t e)
  where
    told_ok : (b : Bool) → (b ≡ true → (s : Selected) × (turn.standing.selected ≡ Some s)) → Known_selected (if b then Some (reads fresh turn.bytes) else None) turn.standing
    told_ok true h = h refl
    told_ok false h = tt

-- CLOSE and UNSELECT, where they aren't answered OK
stays_sel : (tag bytes : List ℕ) (client : Option Client) (now next : Standing) → Known_selected client now → next.selected ≡ now.selected → Known_selected (if has_ok true tag bytes then None else reads_on bytes client) next
stays_sel tag bytes client now next k e = by (has_ok true tag bytes)
  where
    by : (b : Bool) → Known_selected (if b then None else reads_on bytes client) next
    by true = tt
    by false = reads_sel bytes client now next k e

leaving_sel : (tag words : List ℕ) (now : Standing) (remove : Bool) (answers : List Answer) (turn : Turn) (client : Option Client) → IsTag tag → has_ok true tag (tagged tag words) ≡ true
    → played tag now (Leave remove (says words)) answers ≡ Some turn → Known_selected client now → Known_selected (if has_ok true tag turn.bytes then None else reads_on turn.bytes client) turn.standing
leaving_sel tag words now remove [] turn client t ok e k = absurd (none-some turn e)
leaving_sel tag words now remove (Left gone ∷ more) turn client t ok e k =
    let m = mapped (having (Leave remove) (Left gone)) (played tag (record now { selected = None }) (says words) more) turn e in
    rw (ap (has_ok true tag) (ap (λ (s : Turn). s.bytes) (sym m.makes) ∙ (only_done tag words Go (record now { selected = None }) more m.more m.is).bytes), ok) tt
leaving_sel tag words now remove (Refused fault ∷ []) turn client t ok e k =
    let m = mapped (having (Leave remove) (Refused fault)) (Some (refused tag now fault)) turn e in
    stays_sel tag turn.bytes client now turn.standing k (ap (λ (s : Turn). s.standing.selected) (sym m.makes) ∙ given_up tag now fault m.more m.is)
leaving_sel tag words now remove (_ ∷ more) turn client t ok e k = absurd (none-some turn e)

closes_sel : (tag words : List ℕ) (now : Standing) (remove : Selected → Bool) (selected : Option Selected) (answers : List Answer) (turn : Turn) (client : Option Client) → IsTag tag → has_ok true tag (tagged tag words) ≡ true
    → played tag now (on_found (λ s. Leave (remove s) (says words)) wrong_state selected) answers ≡ Some turn → Known_selected client now → Known_selected (if has_ok true tag turn.bytes then None else reads_on turn.bytes client) turn.standing
closes_sel tag words now remove None answers turn client t ok e k = stays_sel tag turn.bytes client now turn.standing k (selected_stays tag now wrong_state answers turn tt e)
closes_sel tag words now remove (Some selected) answers turn client t ok e k = leaving_sel tag words now (remove selected) answers turn client t ok e k

-- ---- lines

command_sel : (now : Standing) (tag : List ℕ) (command : Command) (answers : List Answer) (turn : Turn) (client : Option Client) → IsTag tag → played tag now (on_command tag now command) answers ≡ Some turn → Known_selected client now
    → (stays command ≡ true → Known_selected (reads_on turn.bytes client) turn.standing) → Known_selected (answered (asked_by tag command) turn.bytes client) turn.standing
command_sel now tag (commands.Select name) answers turn client t e k more = selecting_sel tag now false name answers turn client t e
command_sel now tag (commands.Examine name) answers turn client t e k more = selecting_sel tag now true name answers turn client t e
command_sel now tag commands.Close answers turn client t e k more = closes_sel tag (response_text (texts.Completed verbs.Close)) now (λ s. not s.read_only) now.selected answers turn client t (tagged_has tag (response_text (texts.Completed verbs.Close)) t) e k
command_sel now tag commands.Unselect answers turn client t e k more = closes_sel tag (response_text (texts.Completed verbs.Unselect)) now (λ s. false) now.selected answers turn client t (tagged_has tag (response_text (texts.Completed verbs.Unselect)) t) e k
command_sel now tag _ answers turn client t e k more = more refl

-- a command that was refused
told_sel : (now : Standing) (tag : List ℕ) (command : Command) (text : ResponseText) (answers : List Answer) (turn : Turn) (client : Option Client) → IsTag tag → refuses text ≡ true → played tag now (says (response_text text)) answers ≡ Some turn
    → Known_selected client now → Known_selected (answered (asked_by tag command) turn.bytes client) turn.standing
told_sel now tag command text answers turn client t is e k =
    let same : turn.standing.selected ≡ now.selected = selected_stays tag now (says (response_text text)) answers turn tt e in
    asked_has (λ (a : Asked). Known_selected (answered a turn.bytes client) turn.standing) tag command (none_sel (has_ok true tag turn.bytes) (refused_turn tag text now answers turn t is e))
    (stays_sel tag turn.bytes client now turn.standing k same) (reads_sel turn.bytes client now turn.standing k same)
  where
    none_sel : (b : Bool) → b ≡ false → Known_selected (if b then Some (reads fresh turn.bytes) else None) turn.standing
    none_sel true none = absurd (false≢true (sym none))
    none_sel false none = tt

pub fault_sel : (now : Standing) (text : List ℕ) (answers : List Answer) (turn : Turn) → only_says text now answers ≡ Some turn → turn.standing.selected ≡ now.selected
fault_sel now text [] turn e = ap (λ (t : Turn). t.standing.selected) (sym (ap (the_turn turn) e))
fault_sel now text (answer ∷ more) turn e = absurd (none-some turn e)

read_sel : (now : Standing) (r : Result (List ℕ × Command) ImapFault) (answers : List Answer) (turn : Turn) (client : Option Client) → Tagged r → on_read now r answers ≡ Some turn → Known_selected client now
    → Known_selected (answered (asked r) turn.bytes client) turn.standing
read_sel now (Ok line) answers turn client t e k =
    line_case (Known_selected (answered (asked_by line.0 line.1) turn.bytes client) turn.standing) now line.0 line.1 answers turn
    (λ logs d. subst (λ (a : Asked). Known_selected (answered a turn.bytes client) turn.standing) (sym (login_asks now.login line.0 line.1 logs))
    (reads_sel turn.bytes client now turn.standing k (selected_stays line.0 (logged_in now) (completed line.1) answers turn tt d)))
    (λ text is d. told_sel now line.0 line.1 text answers turn client t is d k)
    (λ d. command_sel now line.0 line.1 answers turn client t d k (λ stay. reads_sel turn.bytes client now turn.standing k (selected_stays line.0 now (on_command line.0 now line.1) answers turn (in_command line.0 now line.1 stay) d))) e
read_sel now (Err fault) answers turn client t e k = reads_sel turn.bytes client now turn.standing k (fault_sel now (fault_text now.profile fault) answers turn e)

-- a line that isn't whole yet, or is given up
pub in_part : (x : Exchange) → IsPart x → StaysIn x
in_part x (tells_part text h e) = subst StaysIn (sym e) tt
in_part x (ends_part text h e) = subst StaysIn (sym e) tt
in_part x (asks_part line size e) = subst StaysIn (sym e) tt
in_part x (comes_part line size e) = subst StaysIn (sym e) tt
in_part x (challenge_part line e) = subst StaysIn (sym e) tt

text_sel : (now : Standing) (line : List ℕ) (answers : List Answer) (turn : Turn) (client : Option Client) → on_text_line now line answers ≡ Some turn → Known_selected client now → Known_selected (answered (asked (read line)) turn.bytes client) turn.standing
text_sel now line answers turn client e k =
    text_has IsTag (λ o. o ≡ Some turn → Known_selected (answered (asked (read line)) turn.bytes client) turn.standing) now line answers (read_tagged line)
    (λ tag x t part lacks d. subst (λ (a : Asked). Known_selected (answered a turn.bytes client) turn.standing) (sym (unfinished_asks now.login (read line) lacks))
    (reads_sel turn.bytes client now turn.standing k (selected_stays tag now x answers turn (in_part x part) d)))
    (λ d. read_sel now (read line) answers turn client (read_tagged line) d k) e

line_sel : (now : Standing) (line : List ℕ) (answers : List Answer) (turn : Turn) (client : Option Client) → turn_of now line answers ≡ Some turn → Known_selected client now → Known_selected (hears client (told_line (whole_line now line) turn.bytes)) turn.standing
line_sel now line answers turn client e k =
    turn_has (λ whole o. o ≡ Some turn → Known_selected (hears client (told_line whole turn.bytes)) turn.standing) now line answers
    (λ tag b i d. reads_sel turn.bytes client now turn.standing k (selected_stays tag (record now { idling = None }) (on_idle_line now.selected line) answers turn (in_idle_line now.selected line) d))
    (λ a mailbox flags date b p d. reads_sel turn.bytes client now turn.standing k (selected_stays a.tag (without_begun now) (on_rest now.mailing a (length line == 0)) answers turn (in_rest now.mailing a (length line == 0)) d))
    (λ a x b part d. reads_sel turn.bytes client now turn.standing k (selected_stays a.tag (without_begun now) x answers turn (in_part x part) d))
    (λ whole w d. text_sel (without_begun now) whole answers turn client d k) e

pub verdict_sel : (sent : Option Sent) (now : Standing) (verdict : Verdict) (answers : List Answer) (turn : Turn) → turn_with sent now verdict answers ≡ Some turn → turn.standing.selected ≡ now.selected
verdict_sel None now verdict answers turn e = absurd (none-some turn e)
verdict_sel (Some sent) now verdict answers turn e = selected_stays sent.tag (without_sent now) (on_verdict now.mailing now.selected sent.origin sent.append.mailbox verdict) answers turn (in_verdict now.mailing now.selected sent.origin sent.append.mailbox verdict) e

pub turn_sel : (now : Standing) (happening : Happening) (turn : Turn) (client : Option Client) → leads_to now happening ≡ Some turn → Known_selected client now → Known_selected (hears client (told_of now happening turn.bytes)) turn.standing
turn_sel now (Line line answers) turn client e k = line_sel now line answers turn client e k
turn_sel now LongLine turn client e k = reads_sel turn.bytes client now turn.standing k (ap (λ (t : Turn). t.standing.selected) (sym (ap (the_turn turn) e)))
turn_sel now (Turned answers) turn client e k = reads_sel turn.bytes client now turn.standing k (idle_selected now.selected (is_idling now) now answers turn e)
turn_sel now (Literal kept bytes) turn client e k = reads_sel turn.bytes client now turn.standing k (ap (λ (t : Turn). t.standing.selected) (sym (ap (the_turn turn) e)))
turn_sel now (Heard verdict answers) turn client e k = reads_sel turn.bytes client now turn.standing k (verdict_sel now.mailing.sent now verdict answers turn e)

knowing_sel : (k : Config) (n : ℕ) (first : Standing) (began : World) {sent : List ℕ} {told : List Told} {now : Standing} {w : World} → Lives k n first began sent told now w → Known_selected (hears_all None told) now
knowing_sel k n first began comes = tt
knowing_sel k n first began (turns {told = heard} {now = now} lives happening bytes turn v timely sent printed e met) =
    subst (λ (c : Option Client). Known_selected c turn.standing) (sym (hears_last None heard (told_of now happening turn.bytes)))
    (turn_sel now happening turn (hears_all None heard) e (knowing_sel k n first began lives))
knowing_sel k n first began (others lives event v o step) = knowing_sel k n first began lives

pub knowing_is_selected : KnowingIsSelected
knowing_is_selected k n first began sent told now w lives = knowing_sel k n first began lives
