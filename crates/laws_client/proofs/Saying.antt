-- The answers to lines that a client sends, and what they tell of flags.
use Rattle.std.proofs.Common.{◌≡◌, ℕ, ◌+◌, ◌<◌, ◌^◌, ◌==◌, length, sym, subst, ◌∙◌, Bool, true, List, ◌∷◌, refl, ap, []}
use Rattle.std.specs.Prelude.{Option, Some, None, Result, Ok, Err, IfSome}
use Rattle.std.proofs.lemmas.Bool.{false≢true}
use Rattle.std.proofs.lemmas.Option.{none-some}
use Rattle.change_ring.specs.declared.change.Flags.{Flags}
use Rattle.change_ring.specs.View.{position}
use Rattle.mailbox.specs.declared.clients.Row.{Row}
use Rattle.imap_answers.specs.Answers.{row_answer, flags_answer}
use Rattle.imap_grammar.specs.Reading.{read}
use Rattle.imap_grammar.specs.Verbs.{verb_of, copy_verb}
use Rattle.imap_grammar.specs.declared.command.Command.{Command}
use Rattle.imap_grammar.specs.declared.command.Command.TheVariants as commands
use Rattle.delivery_token.specs.declared.Verdict.{Verdict}
use Rattle.delivery_token.specs.declared.Verdict.TheVariants as verdicts
use Rattle.imap_grammar.specs.declared.command.Fetch.{Fetch}
use Rattle.imap_grammar.specs.declared.command.ImapFault.{ImapFault}
use Rattle.imap_session.specs.declared.standing.After.TheVariants.{Go}
use Rattle.imap_session.specs.declared.standing.Selected.{Selected}
use Rattle.imap_session.specs.Exchange.{Alter, Altered, Answer, PendingLiteral, Exchange, ForNothing, Found, Mailing, Read, Sent, Standing, Turn, Wait, Write, bye, Origin, Client, Copied, Batch}
use Rattle.imap_session.specs.Happenings.{kept_behind, IsPrinted}
use Rattle.imap_session.specs.Commands.{turn_of, turn_of_verdict, appended_words, on_rest, on_verdict, turn_with, without_begun, without_sent, completed, fault_text, fetched, on_command, on_found, on_idle_line, on_read, only_says, says, showing, logged_in, refused_text, on_text_line, copied_words, on_stored, move_done, with_copy, copies_of, told_copied}
use Rattle.laws_client.specs.ListTurns.{IsTag}
use Rattle.laws_client.specs.Fetches.{AreToldParts, IsNumbered}
use Rattle.laws_client.specs.Commands.{AreNames, HasToldParts, IsFollowed, MayAnswer, MayAsk, MayCome, stays}
use Rattle.laws_client.proofs.Commands.{server_tells_nothing, fault_tells_nothing, stored_plain, may_answer}
use Rattle.laws_client.proofs.Each.{IsIn}
use Rattle.laws_client.proofs.Ends.{refusal_tells_nothing, tagged_tells_nothing}
use Rattle.laws_client.proofs.Chosen.{small_in}
use Rattle.laws_client.proofs.Untold.{named_plain, list_tells_nothing, status_tells_nothing}
use Rattle.laws_client.proofs.Tags.{Tagged, read_tagged}
use Rattle.laws_client.specs.Flags.{Point, counted}
use Rattle.laws_client.specs.FlagTurns.{LeadsFlags, LeavesFlags}
use Rattle.laws_client.proofs.FlagMoments.{SeesAllMoments, SeesMoments, at_moments}
use Rattle.laws_client.specs.FlagLaws.{AnswerTellsFlags, VerdictTellsFlags}
use Rattle.laws_client.proofs.FlagPlayed.{turn_tells}
use Rattle.laws_client.proofs.Telling.{row_tells, store_tells}
use Rattle.exactly_once.proofs.EachExchange.{at_turn}
use Rattle.laws_client.proofs.Turning.{Refusals, SaysFlags, ends_so, leaves}
use Rattle.imap_session.specs.declared.texts.ResponseText.TheVariants as texts
use Rattle.imap_session.specs.Texts.{response_text}
use Rattle.imap_grammar.specs.declared.command.Verb.TheVariants as verbs
use Rattle.imap_session.specs.declared.texts.ResponseText.{ResponseText}
use Rattle.laws_client.proofs.TextRows.{text_plain}
use Rattle.laws_client.proofs.Barred.{line_case}
use Rattle.laws_client.proofs.Sought.{found_tells_nothing}
use Rattle.imap_session.proofs.Parts.{IsPart, tells_part, ends_part, asks_part, comes_part, challenge_part, is_parting}
use Rattle.laws_client.proofs.WholeLines.{turn_has, text_has}
use Rattle.laws_client.proofs.CopyWords.{copied_plain, moved_tells_nothing}
use Rattle.exactly_once.proofs.Copying.{TakesBack, back_so, stored_so}
use Rattle.laws_client.proofs.EachCommand.{Steps, Tells, append_so, command_so, copied_so, idle_line_so, rest_so}
use Rattle.change_ring.specs.declared.flag_op.FlagOp.{FlagOp}

pub refusals : (tag : List ℕ) → IsTag tag → Refusals tag
refusals tag t p fault = leaves p _ (refusal_tells_nothing tag fault t)

-- a last line with a text of the table
last : (tag : List ℕ) (p : Point) (text : ResponseText) → IsTag tag → SaysFlags tag p (says (response_text text))
last tag p text t = leaves p _ (tagged_tells_nothing tag (response_text text) t (text_plain text))

-- what is pending is shown, where a mailbox is selected
shows_then : (tag : List ℕ) (p : Point) (selected : Option Selected) (x : Exchange) → ((q : Point) → SaysFlags tag q x) → SaysFlags tag p (showing selected x)
shows_then tag p None x h = h p
shows_then tag p (Some selected) x h = h

nothing_leaves : (p : Point) → LeavesFlags p []
nothing_leaves p = leaves p [] (λ messages. refl)

says_told : (tag : List ℕ) (p : Point) → IsTag tag → Tells (SaysFlags tag p)
says_told tag p t = record { told = λ text. last tag p text t; wanted = λ x h. (nothing_leaves p, h) }

-- ---- messages that are appended or copied

-- what stands behind a literal
rest_says : (tag : List ℕ) (p : Point) (mailing : Mailing) (a : PendingLiteral) (empty : Bool) → IsTag tag → SaysFlags tag p (on_rest mailing a empty)
rest_says tag p mailing a empty t = rest_so (SaysFlags tag p) (says_told tag p t) mailing a empty (λ text mailbox is named whole fits. nothing_leaves p)

-- of copies, and before and behind messages that are moved
copied_says : (tag : List ℕ) (p : Point) (selected : Option Selected) (batch : Batch) (uidvalidity : ℕ) → IsTag tag → SaysFlags tag p (told_copied selected batch uidvalidity)
copied_says tag p selected batch uidvalidity t =
    let words : (q : Point) → SaysFlags tag q (says (copied_words uidvalidity batch)) = λ q. leaves q _ (tagged_tells_nothing tag (copied_words uidvalidity batch) t (copied_plain uidvalidity batch)) in
    let done : (q : Point) → SaysFlags tag q (move_done batch) = λ q. last tag q (texts.Completed (copy_verb batch.by_uid true)) t in
    copied_so (SaysFlags tag p) selected batch uidvalidity (words p) words (λ x h. (leaves p _ (moved_tells_nothing uidvalidity batch), h)) (done p) (λ s q sees newer. done newer)

-- wherever its session is then
takes_back : (tag : List ℕ) → IsTag tag → TakesBack (λ x. (p : Point) → SaysFlags tag p x)
takes_back tag t = record { told = λ text p. last tag p text t; removed = λ mailbox uids x h p q sees. h q }

stored_says : (tag : List ℕ) (mailing : Mailing) (selected : Option Selected) (origin : Origin) (mailbox uid : ℕ) → IsTag tag → uid < 2 ^ 64
    → (p : Point) → SaysFlags tag p (on_stored mailing selected origin mailbox uid)
stored_says tag mailing selected Client mailbox uid t u p =
    λ status r s. shows_then tag r selected (says (appended_words status.uidvalidity uid))
    (λ q. leaves q _ (tagged_tells_nothing tag (appended_words status.uidvalidity uid) t (stored_plain status.uidvalidity uid s.sees.fits.uidvalidity u)))
stored_says tag mailing selected (Copied batch) mailbox uid t u p =
    stored_so (λ x. (p : Point) → SaysFlags tag p x) (takes_back tag t) mailing selected batch mailbox uid (λ row left is q. nothing_leaves q)
    (λ none q status r s. copied_says tag r selected (with_copy uid batch) status.uidvalidity t) p

verdict_says : (tag : List ℕ) (p : Point) (mailing : Mailing) (selected : Option Selected) (origin : Origin) (mailbox : ℕ) (verdict : Verdict) → IsTag tag
    → IsPrinted verdict → SaysFlags tag p (on_verdict mailing selected origin mailbox verdict)
verdict_says tag p mailing selected origin mailbox (verdicts.Stored uid) t u = stored_says tag mailing selected origin mailbox uid t u p
verdict_says tag p mailing selected origin mailbox (verdicts.Refused why) t u =
    back_so (λ x. (p : Point) → SaysFlags tag p x) (takes_back tag t) mailbox (copies_of origin) (refused_text why) p

-- ---- commands

-- what a command says wherever its session counts this view, whose numbers can be printed
abbrev SaysAt : List ℕ → List ℕ → Exchange → Type 0
SaysAt tag view x = (p : Point) → counted p ≡ view → IsNumbered view → SaysFlags tag p x

-- a message is read and told
row_says : (tag view : List ℕ) (fetch : Fetch) (mark : Bool) (uid : ℕ) (there gone : Exchange) → AreToldParts fetch.items → IsIn uid view → SaysAt tag view there → SaysAt tag view gone
    → SaysAt tag view (Read uid mark (on_found (λ row. Write (fetched fetch view uid row) there) gone))
row_says tag view fetch mark uid there gone parts known h g p at numbered = by
  where
    by : (row : Option Row) (q : Point) → SeesMoments p (record { call = Read uid mark; answer = Found row }) q
        → SaysFlags tag q (on_found (λ row. Write (fetched fetch view uid row) there) gone row)
    by None q s = g q (s.sees.leads ∙ at) numbered
    by (Some row) q s =
        let is : counted q ≡ view = s.sees.leads ∙ at in
        let few : length (counted q) + 1 < 2 ^ 64 = subst (λ (v : List ℕ). length v + 1 < 2 ^ 64) (sym is) numbered.few in (
          subst (λ (v : List ℕ). LeavesFlags q (row_answer (position uid v) fetch.by_uid fetch.items row)) is
              (row_tells q uid fetch.by_uid fetch.items row (subst (λ (v : List ℕ). IsIn uid v) (sym is) known) few (small_in uid view numbered.small known) s.sees.fits.0 s.sees.fits.1 parts s.tells),
          h q is numbered,
        )

-- its flags are changed, and told
flags_says : (tag view : List ℕ) (by_uid : Bool) (uid : ℕ) (op : FlagOp) (there gone : Exchange) → IsIn uid view → SaysAt tag view there → SaysAt tag view gone
    → SaysAt tag view (Alter uid op (on_found (λ flags. Write (flags_answer by_uid (position uid view) uid flags) there) gone))
flags_says tag view by_uid uid op there gone known h g p at numbered = by
  where
    by : (flags : Option Flags) (q : Point) → SeesMoments p (record { call = Alter uid op; answer = Altered flags }) q
        → SaysFlags tag q (on_found (λ flags. Write (flags_answer by_uid (position uid view) uid flags) there) gone flags)
    by None q s = g q (s.sees.leads ∙ at) numbered
    by (Some flags) q s =
        let is : counted q ≡ view = s.sees.leads ∙ at in
        let few : length (counted q) + 1 < 2 ^ 64 = subst (λ (v : List ℕ). length v + 1 < 2 ^ 64) (sym is) numbered.few in (
          subst (λ (v : List ℕ). LeavesFlags q (flags_answer by_uid (position uid v) uid flags)) is
              (store_tells q uid by_uid flags (subst (λ (v : List ℕ). IsIn uid v) (sym is) known) few (small_in uid view numbered.small known) s.tells),
          h q is numbered,
        )

says_steps : (tag : List ℕ) (now : Standing) (command : Command) → IsTag tag → stays command ≡ true → AreNames now.folders → HasToldParts command → Steps tag now command (SaysAt tag)
says_steps tag now command t here names parts =
    let done : (p : Point) → SaysFlags tag p (completed command) = λ p. last tag p (texts.Completed (verb_of command)) t in
    record {
      told = λ view text may p at numbered. last tag p text t;
      wanted = λ view x h p at numbered. (nothing_leaves p, h p at numbered);
      shown = λ view p at numbered q. done q;
      removed = λ view uids p at numbered q newer. done newer;
      noticed = λ view text x h p at numbered. (leaves p _ (server_tells_nothing text), h p at numbered);
      listed = λ view listing reference pattern x h p at numbered. (leaves p _ (list_tells_nothing listing reference pattern now.folders names), h p at numbered);
      counted = λ view name items folder x is h p at numbered status q s.
          (leaves q _ (status_tells_nothing folder.name items status (named_plain name now.folders folder names is) s.sees.fits), h q (s.sees.leads ∙ at) numbered);
      looked = λ view by_uid set next h p at numbered met q s.
          let same : view ≡ met = sym at ∙ sym s.sees.leads.0 in h met q (s.sees.leads.1 ∙ sym s.sees.leads.0) (subst IsNumbered same numbered);
      reads = λ view uid mark next h p at numbered row q s. h row q (s.sees.leads ∙ at) numbered;
      fetches = λ fetch is view mark uid there gone known h g. row_says tag view fetch mark uid there gone (subst HasToldParts is parts) known h g;
      alters = λ view uid op there gone h g p at numbered. elim [ None ↦ (λ q s. g q (s.sees.leads ∙ at) numbered) | Some flags ↦ (λ q s. h q (s.sees.leads ∙ at) numbered) ];
      stores = λ by_uid view uid op there gone known h g. flags_says tag view by_uid uid op there gone known h g;
      finds = λ search view found x h p at numbered. (leaves p _ (found_tells_nothing tag t search.by_uid search.returns found), h p at numbered);
      enters = λ view read_only name off quiet. absurd (false≢true (sym off ∙ here));
      leaves = λ view remove off quiet. absurd (false≢true (sym off ∙ here));
      idles = λ view is p at numbered. leaves p _ (λ messages. refl);
      parts = λ view is p at numbered. (leaves p _ (λ messages. refl), last tag p (texts.Completed verbs.Logout) t);
      appends = λ view append is p at numbered. append_so (SaysFlags tag p) (says_told tag p t) now.mailing.most now.folders append (λ mailbox named. leaves p _ (λ messages. refl)) (nothing_leaves p)
          (leaves p _ (λ messages. refl));
      submits = λ view copy is batch mailbox row copied p at numbered. nothing_leaves p;
    }

command_says : (tag : List ℕ) (p : Point) (now : Standing) (command : Command) → IsTag tag → MayAsk now (counted p) command → SaysFlags tag p (on_command tag now command)
command_says tag p now command t may = command_so tag now command (SaysAt tag) (says_steps tag now command t may.stays may.names may.parts) (counted p) p refl may.numbered

-- ---- lines that are no commands

fault_follows : (now : Standing) (fault : ImapFault) (p : Point) (answers : List Answer) (turn : Turn) (q : Point)
    → Tagged (Err fault) → only_says (fault_text now.profile fault) now answers ≡ Some turn → SeesAllMoments p turn.events q → LeadsFlags p turn.bytes q
fault_follows now fault p [] turn q t e sees = at_turn (λ (s : Turn). SeesAllMoments p s.events q → LeadsFlags p s.bytes q) (only_says (fault_text now.profile fault) now []) turn
    (ends_so p now (fault_text now.profile fault) Go q (leaves p _ (fault_tells_nothing now.profile fault t))) e sees
fault_follows now fault p (answer ∷ more) turn q t e sees = absurd (none-some turn e)

read_follows : (now : Standing) (r : Result (List ℕ × Command) ImapFault) (p : Point) (answers : List Answer) (turn : Turn) (q : Point)
    → Tagged r → MayAnswer now (counted p) r → on_read now r answers ≡ Some turn → SeesAllMoments p turn.events q → LeadsFlags p turn.bytes q
read_follows now (Ok line) p answers turn q t h e sees =
    line_case (LeadsFlags p turn.bytes q) now line.0 line.1 answers turn
    (λ logs d. turn_tells line.0 (refusals line.0 t) p (logged_in now) (completed line.1) answers turn q d (last line.0 p (texts.Completed (verb_of line.1)) t) sees)
    (λ text is d. turn_tells line.0 (refusals line.0 t) p now (says (response_text text)) answers turn q d (last line.0 p text t) sees)
    (λ d. turn_tells line.0 (refusals line.0 t) p now (on_command line.0 now line.1) answers turn q d (command_says line.0 p now line.1 t h) sees) e
read_follows now (Err fault) p answers turn q t h e sees = fault_follows now fault p answers turn q t e sees

-- ---- the line that ends an IDLE

idle_line_says : (tag : List ℕ) (p : Point) (selected : Option Selected) (line : List ℕ) → IsTag tag → SaysFlags tag p (on_idle_line selected line)
idle_line_says tag p selected line t =
    let done : (q : Point) → SaysFlags tag q (completed commands.Idle) = λ q. last tag q (texts.Completed verbs.Idle) t in
    idle_line_so (SaysFlags tag p) selected line (last tag p texts.ExpectedDone t) (done p) done

-- ---- lines that aren't whole yet, and those that are given up

parting_says : (tag : List ℕ) (p : Point) (text : ResponseText) → is_parting text ≡ true → SaysFlags tag p (Wait (bye (response_text text)) ForNothing)
parting_says tag p texts.LiteralTooBig h = leaves p _ (λ messages. refl)
parting_says tag p texts.ByeOutOfMemory h = leaves p _ (λ messages. refl)
parting_says tag p _ h = absurd (false≢true h)

part_says : (tag : List ℕ) (p : Point) (x : Exchange) → IsTag tag → IsPart x → SaysFlags tag p x
part_says tag p x t (tells_part text h e) = subst (SaysFlags tag p) (sym e) (last tag p text t)
part_says tag p x t (ends_part text h e) = subst (SaysFlags tag p) (sym e) (parting_says tag p text h)
part_says tag p x t (asks_part line size e) = subst (SaysFlags tag p) (sym e) (nothing_leaves p, leaves p _ (λ messages. refl))
part_says tag p x t (comes_part line size e) = subst (SaysFlags tag p) (sym e) (nothing_leaves p)
part_says tag p x t (challenge_part line e) = subst (SaysFlags tag p) (sym e) (nothing_leaves p, leaves p _ (λ messages. refl))

text_tells : (now : Standing) (line : List ℕ) (p : Point) (answers : List Answer) (turn : Turn) (q : Point)
    → MayAnswer now (counted p) (read line) → on_text_line now line answers ≡ Some turn → SeesAllMoments p turn.events q → LeadsFlags p turn.bytes q
text_tells now line p answers turn q may e sees =
    text_has IsTag (λ o. o ≡ Some turn → LeadsFlags p turn.bytes q) now line answers (read_tagged line)
    (λ tag x t part lacks d. turn_tells tag (refusals tag t) p now x answers turn q d (part_says tag p x t part) sees)
    (λ d. read_follows now (read line) p answers turn q (read_tagged line) may d sees) e

pub answer_tells : (now : Standing) (line : List ℕ) (p : Point) (answers : List Answer) (turn : Turn) (q : Point)
    → IsFollowed now (counted p) line → turn_of now line answers ≡ Some turn → SeesAllMoments p turn.events q → LeadsFlags p turn.bytes q
answer_tells now line p answers turn q h e sees =
    turn_has (λ whole o. MayCome whole now (counted p) → o ≡ Some turn → LeadsFlags p turn.bytes q) now line answers
    (λ tag b i may d. let t = idle_tag tag b i in turn_tells tag (refusals tag t) p (record now { idling = None }) (on_idle_line now.selected line) answers turn q d (idle_line_says tag p now.selected line t) sees)
    (λ a mailbox flags date b m may d. let t = begun_tag a b in turn_tells a.tag (refusals a.tag t) p (without_begun now) (on_rest now.mailing a (length line == 0)) answers turn q d (rest_says a.tag p now.mailing a (length line == 0) t) sees)
    (λ a x b part may d. let t = begun_tag a b in turn_tells a.tag (refusals a.tag t) p (without_begun now) x answers turn q d (part_says a.tag p x t part) sees)
    (λ whole w may d. text_tells (without_begun now) whole p answers turn q (may_answer now (without_begun now) (counted p) (read whole) refl may) d sees) h.1 e
  where
    idle_tag : (tag : List ℕ) → now.mailing.begun ≡ None → now.idling ≡ Some tag → IsTag tag
    idle_tag tag b i = subst (λ (o : Option (List ℕ)). IfSome o IsTag) (ap (λ (o : Option PendingLiteral). kept_behind o now.idling) b ∙ i) h.0

    begun_tag : (a : PendingLiteral) → now.mailing.begun ≡ Some a → IsTag a.tag
    begun_tag a b = subst (λ (o : Option (List ℕ)). IfSome o IsTag) (ap (λ (o : Option PendingLiteral). kept_behind o now.idling) b) h.0

pub answer_tells_flags : AnswerTellsFlags
answer_tells_flags now line p answers turn q h e sees = answer_tells now line p answers turn q h e (at_moments p turn.events q sees)

-- ---- verdicts

heard_follows : (sent : Option Sent) (now : Standing) (verdict : Verdict) (p : Point) (answers : List Answer) (turn : Turn) (q : Point)
    → IfSome sent (λ s. IsTag s.tag) → IsPrinted verdict → turn_with sent now verdict answers ≡ Some turn → SeesAllMoments p turn.events q → LeadsFlags p turn.bytes q
heard_follows None now verdict p answers turn q t u e sees = absurd (none-some turn e)
heard_follows (Some sent) now verdict p answers turn q t u e sees =
    turn_tells sent.tag (refusals sent.tag t) p (without_sent now) (on_verdict now.mailing now.selected sent.origin sent.append.mailbox verdict) answers turn q e
    (verdict_says sent.tag p now.mailing now.selected sent.origin sent.append.mailbox verdict t u) sees

pub verdict_tells : (now : Standing) (verdict : Verdict) (p : Point) (answers : List Answer) (turn : Turn) (q : Point)
    → IfSome now.mailing.sent (λ sent. IsTag sent.tag) → IsPrinted verdict → turn_of_verdict now verdict answers ≡ Some turn → SeesAllMoments p turn.events q → LeadsFlags p turn.bytes q
verdict_tells now verdict p answers turn q t u e sees = heard_follows now.mailing.sent now verdict p answers turn q t u e sees

pub verdict_tells_flags : VerdictTellsFlags
verdict_tells_flags now verdict p answers turn q t u e sees = verdict_tells now verdict p answers turn q t u e (at_moments p turn.events q sees)
