-- No last line but the one of a stored verdict tells a UID.
use Rattle.std.proofs.Common.{◌≡◌, inl, inr, ℕ, ◌<◌, ◌^◌, arith, Bool, true, false, codes, List, [], ◌∷◌, ◌++◌, Option, Some, None, refl, ap, sym, ◌∙◌, subst, append_assoc, ◌==◌, if◌then◌else◌}
use Rattle.std.specs.Prelude.{decimal, nat_le, nat_lt, length, ◌&&◌}
use Rattle.std.specs.Char.{digit_value}
use Rattle.std.specs.List.{AllByRecursion, list_any, slice_split}
use Rattle.std.specs.Str.Parse.{AllDigits}
use Rattle.std.proofs.lemmas.Bool.Decides.{Decides-eqb}
use Rattle.std.proofs.lemmas.Fmt.{decimal_injective, decimal_is_IsNumeral}
use Rattle.std.proofs.lemmas.List.{append_cancel_left, append_cancel_right}
use Rattle.std.proofs.lemmas.List.Elements.{All-from_recursion}
use Rattle.std.proofs.lemmas.List.Splits.{slice_split_at, slice_split_none}
use Rattle.mailbox.specs.declared.clients.MailFault.{MailFault}
use Rattle.mailbox.specs.declared.clients.MailFault.TheVariants as mail_faults
use Rattle.imap_grammar.specs.Reading.{is_done}
use Rattle.imap_grammar.specs.Keys.{all_messages}
use Rattle.imap_grammar.specs.Sets.{last_uid, named_at, named_in}
use Rattle.imap_grammar.specs.declared.command.Append.{Append}
use Rattle.imap_grammar.specs.declared.command.Command.{Command}
use Rattle.imap_grammar.specs.declared.command.Command.TheVariants as commands
use Rattle.imap_grammar.specs.declared.command.Fetch.{Fetch}
use Rattle.imap_grammar.specs.declared.command.ImapFault.{ImapFault}
use Rattle.imap_grammar.specs.declared.command.ImapFault.TheVariants as faults
use Rattle.imap_grammar.specs.declared.command.Store.{Store}
use Rattle.imap_grammar.specs.declared.command.Search.{Search}
use Rattle.imap_grammar.specs.declared.view.Named.{Named}
use Rattle.imap_grammar.specs.declared.command.Verb.TheVariants as verbs
use Rattle.imap_grammar.specs.Verbs.{verb_of, copy_verb}
use Rattle.delivery_token.specs.declared.Verdict.{Verdict}
use Rattle.delivery_token.specs.declared.Verdict.TheVariants.{Stored, Refused}
use Rattle.imap_session.specs.declared.standing.Selected.{Selected}
use Rattle.imap_session.specs.declared.standing.Profile.{Profile}
use Rattle.imap_session.specs.declared.standing.Profile.TheVariants.{Standard, Compatible}
use Rattle.imap_session.proofs.Barring.{answering_has}
use Rattle.imap_session.specs.Exchange.{Batch, Origin, Client, Copied, Discard, PendingLiteral, Exchange, Expunge, Feed, Folder, ForNothing, ForVerdict, Mailing, Standing, Wait, Write, bye, refusal_text}
use Rattle.imap_session.specs.Happenings.{kept_behind, kept_tag}
use Rattle.imap_session.specs.Commands.{fault_tag, date_for, flags_for, mailbox_for, answering, arguments_text, subscribing, telling_recent, appended_words, asking, coming, closing, completed, counting, entering, expunge_set, fault_text, fetch_messages, fetching, folder_of, found_in, if_writable, is_over, last_number, long_rest_text, long_text, most_unasked, messages_done, nowhere, number_named, on_chosen, on_command, on_folder, on_found, on_idle_line, on_rest, on_text, on_verdict, over, refused_text, says, search_done, search_known, search_messages, searching, showing, store_messages, storing, turn_of_long_line, unlimited, wanting, wanting_for, wrong_state, entered_text, copies_of, copy_of, copy_to, copy_messages, empty_batch, gathering, most_copied, most_in_batch, move_done, copied_words, moving, on_stored, submitting_first, taking_back, told_copied, with_copy, with_message, with_validity}
use Rattle.imap_session.specs.Telling.{LineTellsNoUid, RefusalTellsNoUid, TellsNoUid, VerdictTellsUid, WordsTellWhich, tells_uid, StoredTellsUid}
use Rattle.imap_session.proofs.Appends.{asked_at, sent_at}
use Rattle.imap_session.specs.declared.texts.ResponseText.TheVariants as texts
use Rattle.imap_session.specs.Texts.{response_text}
use Rattle.imap_grammar.specs.declared.command.Verb.{Verb}
use Rattle.imap_session.specs.declared.texts.ResponseText.{ResponseText}
use Rattle.imap_grammar.specs.declared.command.CopyMessages.{CopyMessages}
use Rattle.mailbox.specs.declared.clients.Row.{Row}

-- ---- what an exchange is made of

in_either : (b : Bool) (x y : Exchange) → TellsNoUid x → TellsNoUid y → TellsNoUid (if b then x else y)
in_either true x y p q = p
in_either false x y p q = q

in_showing : (selected : Option Selected) (x : Exchange) → TellsNoUid x → TellsNoUid (showing selected x)
in_showing None x p = p
in_showing (Some selected) x p = p

in_closing : (selected : Option Selected) (x : Exchange) → TellsNoUid x → TellsNoUid (closing selected x)
in_closing None x p = p
in_closing (Some selected) x p = p

in_found : {A : Type 0} (next : A → Exchange) (gone : Exchange) → ((a : A) → TellsNoUid (next a)) → TellsNoUid gone → (found : Option A) → TellsNoUid (on_found next gone found)
in_found next gone p q None = q
in_found next gone p q (Some a) = p a

in_folder : (name : List ℕ) (folders : List Folder) (next : Folder → Exchange) → ((folder : Folder) → TellsNoUid (next folder)) → TellsNoUid (on_folder name folders next)
in_folder name folders next p = in_found next (says (response_text texts.NoSuchMailbox)) p refl (folder_of name folders)

in_writable : (selected : Option Selected) (x : Exchange) → TellsNoUid x → TellsNoUid (on_found (if_writable x) wrong_state selected)
in_writable selected x p = in_found (if_writable x) wrong_state (λ (s : Selected). in_either s.read_only (says (response_text texts.ReadOnly)) x refl p) refl selected

in_chosen : (chosen : Option (List ℕ)) (next : List ℕ → Exchange) → ((uids : List ℕ) → TellsNoUid (next uids)) → TellsNoUid (on_chosen chosen next)
in_chosen None next p = refl
in_chosen (Some uids) next p = p uids

in_done : (command : Command) (by_uid gone : Bool) → TellsNoUid (completed command) → TellsNoUid (messages_done command by_uid gone)
in_done command true gone p = p
in_done command false true p = refl
in_done command false false p = p

in_fetching : (fetch : Fetch) (mark : Bool) (view : List ℕ) (done : Bool → Exchange) → ((gone : Bool) → TellsNoUid (done gone))
    → (uids : List ℕ) (gone : Bool) → TellsNoUid (fetching fetch mark view done uids gone)
in_fetching fetch mark view done p [] gone = p gone
in_fetching fetch mark view done p (uid ∷ uids) gone =
    elim [ None ↦ in_fetching fetch mark view done p uids true | Some row ↦ in_fetching fetch mark view done p uids gone ]

in_searching : (search : Search) (last : Named) (view : List ℕ) (done : List ℕ → Exchange) → ((found : List ℕ) → TellsNoUid (done found))
    → (uids found : List ℕ) → TellsNoUid (searching search last view done uids found)
in_searching search last view done p [] found = p found
in_searching search last view done p (uid ∷ uids) found =
    elim [ None ↦ in_searching search last view done p uids found | Some row ↦ in_searching search last view done p uids (found ++ found_in search last (named_at view uid) row) ]

in_silence : (silent : Bool) (text : List ℕ) (x : Exchange) → TellsNoUid x → TellsNoUid (if silent then x else Write text x)
in_silence true text x p = p
in_silence false text x p = p

in_storing : (store : Store) (view : List ℕ) (done : Bool → Exchange) → ((gone : Bool) → TellsNoUid (done gone))
    → (uids : List ℕ) (gone : Bool) → TellsNoUid (storing store view done uids gone)
in_storing store view done p [] gone = p gone
in_storing store view done p (uid ∷ uids) gone =
    elim [ None ↦ in_storing store view done p uids true | Some flags ↦ in_silence store.silent _ _ (in_storing store view done p uids gone) ]

done_tells_none : (verb : Verb) → tells_uid (response_text (texts.Completed verb)) ≡ false
done_tells_none verbs.Noop = refl
done_tells_none _ = refl

-- no text of the table tells a UID
pub row_tells_none : (text : ResponseText) → tells_uid (response_text text) ≡ false
row_tells_none (texts.Completed verb) = done_tells_none verb
row_tells_none _ = refl

over_tells_none : (most : Option ℕ) → TellsNoUid (over most)
over_tells_none None = refl
over_tells_none (Some most) = refl

-- ---- commands

recent_tells_none : (profile : Profile) (read_only : Bool) → TellsNoUid (telling_recent profile (says (response_text (entered_text read_only))))
recent_tells_none Standard read_only = row_tells_none (entered_text read_only)
recent_tells_none Compatible read_only = row_tells_none (entered_text read_only)

selecting_tells_none : (now : Standing) (read_only : Bool) (name : List ℕ) → TellsNoUid (closing now.selected (wanting (on_folder name now.folders (entering now.profile read_only))))
selecting_tells_none now read_only name =
    in_closing now.selected (wanting (on_folder name now.folders (entering now.profile read_only)))
    (in_folder name now.folders (entering now.profile read_only) (λ folder opening. recent_tells_none now.profile read_only))

subscribing_tells_none : (folders : List Folder) (name : List ℕ) (command : Command) → TellsNoUid (subscribing folders name command)
subscribing_tells_none folders name command = in_folder name folders (λ folder. completed command) (λ folder. row_tells_none (texts.Completed (verb_of command)))

append_tells_none : (most : Option ℕ) (a : Append) (found : Option ℕ) → TellsNoUid (if a.literal.waits then wanting (asked_at most a found) else sent_at most a found)
append_tells_none most a found =
    in_either a.literal.waits (wanting (asked_at most a found)) (sent_at most a found)
    (in_found (λ m. if is_over most a.literal.size then over most else asking m a.flags a.date a.literal.size) nowhere
    (λ m. in_either (is_over most a.literal.size) (over most) (asking m a.flags a.date a.literal.size) (over_tells_none most) tt) refl found)
    (in_either (nat_lt most_unasked a.literal.size) (Wait (bye (response_text texts.LiteralTooBig)) ForNothing) (coming found a.flags a.date a.literal.size) tt tt)

back_tells_none : (mailbox : ℕ) (copies : List ℕ) (text : ResponseText) → TellsNoUid (taking_back mailbox copies (says (response_text text)))
back_tells_none mailbox [] text = row_tells_none text
back_tells_none mailbox (uid ∷ uids) text = row_tells_none text

submitting_tells_none : (mailing : Mailing) (batch : Batch) (mailbox : ℕ) (done : Exchange) → TellsNoUid done → (left : List Row) → TellsNoUid (submitting_first mailing batch mailbox done left)
submitting_tells_none mailing batch mailbox done p [] = p
submitting_tells_none mailing batch mailbox done p (row ∷ left) =
    in_either (nat_le last_number mailing.number) (taking_back mailbox batch.copies (says (response_text texts.MailboxSpent))) (Wait [] (ForVerdict (Copied (record batch { left = left })) mailbox row.flags row.text))
    (back_tells_none mailbox batch.copies texts.MailboxSpent) tt

gathering_tells_none : (mailing : Mailing) (copy : CopyMessages) (mailbox : ℕ) (uids : List ℕ) (batch : Batch) → TellsNoUid (gathering mailing copy mailbox uids batch)
gathering_tells_none mailing copy mailbox [] batch =
    submitting_tells_none mailing batch mailbox (completed (commands.Copy copy)) (row_tells_none (texts.Completed (verb_of (commands.Copy copy)))) batch.left
gathering_tells_none mailing copy mailbox (uid ∷ uids) batch = elim [
  | None ↦ in_either copy.by_uid (gathering mailing copy mailbox uids batch) (says (response_text texts.MessagesGone)) (gathering_tells_none mailing copy mailbox uids batch) refl
  | Some row ↦ in_either (is_over (most_copied mailing.most) (length row.text.bytes)) (over (most_copied mailing.most)) (gathering mailing copy mailbox uids (with_message uid row batch)) (over_tells_none (most_copied mailing.most))
      (gathering_tells_none mailing copy mailbox uids (with_message uid row batch))
]

copy_tells_none : (mailing : Mailing) (copy : CopyMessages) (mailbox : ℕ) (uids : List ℕ) → TellsNoUid (copy_of mailing copy mailbox uids)
copy_tells_none mailing copy mailbox uids =
    in_either (nat_lt most_in_batch (length uids)) (says (response_text texts.TooManyMessages)) (wanting (gathering mailing copy mailbox uids (empty_batch copy))) refl
    (gathering_tells_none mailing copy mailbox uids (empty_batch copy))

pub command_tells_none : (tag : List ℕ) (now : Standing) (command : Command) → TellsNoUid (on_command tag now command)
command_tells_none tag now commands.Noop = in_showing now.selected (completed commands.Noop) refl
command_tells_none tag now commands.Idle = tt
command_tells_none tag now commands.Check = in_showing now.selected (completed commands.Check) refl
command_tells_none tag now (commands.Lsub reference pattern) = in_showing now.selected (completed (commands.Lsub reference pattern)) refl
command_tells_none tag now (commands.Subscribe name) = subscribing_tells_none now.folders name (commands.Subscribe name)
command_tells_none tag now (commands.Unsubscribe name) = subscribing_tells_none now.folders name (commands.Unsubscribe name)
command_tells_none tag now (commands.Select name) = selecting_tells_none now false name
command_tells_none tag now (commands.Examine name) = selecting_tells_none now true name
command_tells_none tag now (commands.List reference pattern) = in_showing now.selected (completed (commands.List reference pattern)) refl
command_tells_none tag now (commands.Status name items) =
    in_folder name now.folders (counting now.selected name items) (λ folder status. in_showing now.selected (completed (commands.Status name items)) refl)
command_tells_none tag now commands.Close = in_found _ wrong_state (λ s. refl) refl now.selected
command_tells_none tag now commands.Unselect = in_found _ wrong_state (λ s. refl) refl now.selected
command_tells_none tag now commands.Expunge = in_writable now.selected (Expunge None (Feed unlimited (completed commands.Expunge))) refl
command_tells_none tag now (commands.UidExpunge set) =
    in_writable now.selected (expunge_set set)
    (λ view. in_chosen (named_in true set view) (λ uids. wanting_for uids (Expunge (Some uids) (Feed unlimited (completed (commands.UidExpunge set))))) (elim [ [] ↦ refl | uid ∷ uids ↦ refl ]))
command_tells_none tag now (commands.Fetch fetch) =
    in_found (fetch_messages fetch) wrong_state
    (λ s view. in_chosen (named_in fetch.by_uid fetch.set view) _
    (λ uids. in_fetching fetch _ view _ (λ gone. in_done (commands.Fetch fetch) fetch.by_uid gone (row_tells_none (texts.Completed (verb_of (commands.Fetch fetch))))) uids false)) refl now.selected
command_tells_none tag now (commands.Store store) =
    in_writable now.selected (store_messages store)
    (λ view. in_chosen (named_in store.by_uid store.set view) _
    (λ uids. in_storing store view _ (λ gone. in_done (commands.Store store) store.by_uid gone (row_tells_none (texts.Completed (verb_of (commands.Store store))))) uids false))
command_tells_none tag now (commands.Search search) =
    in_found (search_known tag search) wrong_state
    (λ s. in_either search.known_charset (search_messages tag search) (says (response_text texts.BadCharset))
    (λ view. in_chosen (named_in true all_messages view) (λ uids. wanting (searching search (named_at view (last_uid uids)) view (search_done tag search) uids []))
    (λ uids. in_searching search (named_at view (last_uid uids)) view (search_done tag search) (λ found. in_done (commands.Search search) search.by_uid false (row_tells_none (texts.Completed (verb_of (commands.Search search))))) uids [])) refl) refl now.selected
command_tells_none tag now (commands.Copy copy) =
    in_found (copy_messages now copy) wrong_state
    (λ s. in_either (copy.moves && s.read_only) (says (response_text texts.ReadOnly)) (wanting (on_found (copy_to now.mailing copy) nowhere (number_named copy.name now.folders))) refl
    (in_found (copy_to now.mailing copy) nowhere (λ m view. in_chosen (named_in copy.by_uid copy.set view) (copy_of now.mailing copy m) (copy_tells_none now.mailing copy m)) refl (number_named copy.name now.folders)))
    refl now.selected
command_tells_none tag now (commands.Append append) = append_tells_none now.mailing.most append (number_named append.name now.folders)
command_tells_none tag now _ = refl

pub answering_tells_none : (tag : List ℕ) (now : Standing) (command : Command) → TellsNoUid (answering tag now command)
answering_tells_none tag now command = answering_has TellsNoUid tag now command (λ text is. row_tells_none text) (command_tells_none tag now command)

-- ---- other lines

pub idling_tells_none : (selected : Option Selected) (line : List ℕ) → TellsNoUid (on_idle_line selected line)
idling_tells_none selected line =
    in_either (is_done line) (showing selected (completed commands.Idle)) (says (response_text texts.ExpectedDone)) (in_showing selected (completed commands.Idle) refl) refl

text_tells_none : (mailing : Mailing) (a : PendingLiteral) (text : List ℕ) (mailbox : ℕ) → TellsNoUid (on_text mailing a text mailbox)
text_tells_none mailing a text mailbox =
    in_either (is_over mailing.most a.size) (over mailing.most) _ (over_tells_none mailing.most)
    (in_either (list_any (λ b. b == 0) text) (says (response_text texts.NulByte)) _ refl
    (in_either (nat_le last_number mailing.number) (says (response_text texts.MailboxSpent)) (wanting (Wait [] (ForVerdict Client mailbox (flags_for a.purpose) (record { bytes = text; date = date_for a.purpose })))) refl tt))

pub rest_tells_none : (mailing : Mailing) (a : PendingLiteral) (empty : Bool) → TellsNoUid (on_rest mailing a empty)
rest_tells_none mailing a empty =
    in_found (λ text. if empty then on_found (on_text mailing a text) nowhere (mailbox_for a.purpose) else says (response_text texts.InvalidArguments)) (says (response_text texts.OutOfMemory))
    (λ text. in_either empty (on_found (on_text mailing a text) nowhere (mailbox_for a.purpose)) (says (response_text texts.InvalidArguments)) (in_found (on_text mailing a text) nowhere (text_tells_none mailing a text) refl (mailbox_for a.purpose)) refl)
    refl a.text

pub fault_tells_none : (profile : Profile) (fault : ImapFault) → LineTellsNoUid (fault_tag fault) (fault_text profile fault)
fault_tells_none profile faults.NoTag = (response_text texts.MissingTag ++ codes "\r\n", refl)
fault_tells_none profile (faults.Unknown tag) = (response_text texts.UnknownCommand, refl, refl)
fault_tells_none profile (faults.LeftOut tag) = (response_text texts.NotOffered, refl, refl)
fault_tells_none profile (faults.Arguments tag verb) = (response_text (arguments_text profile verb), refl, row_tells_none (arguments_text profile verb))

long_tells_none : (begun : Option PendingLiteral) (idling : Option (List ℕ)) → LineTellsNoUid (kept_behind begun idling) (long_text begun idling)
long_tells_none None None = (response_text texts.LineTooLong ++ codes "\r\n", refl)
long_tells_none None (Some tag) = (response_text texts.ExpectedDone, refl, refl)
long_tells_none (Some a) idling = (response_text (long_rest_text a.text), refl, row_tells_none (long_rest_text a.text))

pub long_line_tells_none : (now : Standing) → LineTellsNoUid (kept_tag now) (turn_of_long_line now).bytes
long_line_tells_none now = long_tells_none now.mailing.begun now.idling

pub refusal_tells_none : (tag : List ℕ) (fault : MailFault) → RefusalTellsNoUid tag (refusal_text tag fault)
refusal_tells_none tag mail_faults.Stranger = inl (codes "BYE " ++ response_text texts.InternalFault ++ codes "\r\n", refl)
refusal_tells_none tag mail_faults.Lapped = inl (codes "BYE " ++ response_text texts.ChangesMissed ++ codes "\r\n", refl)
refusal_tells_none tag mail_faults.Spent = inr (response_text texts.MailboxSpent, refl, refl)
refusal_tells_none tag mail_faults.NoMemory = inr (response_text texts.OutOfMemory, refl, refl)

-- ---- verdicts

pub appended_tells : (uidvalidity uid : ℕ) → tells_uid (appended_words uidvalidity uid) ≡ true
appended_tells uidvalidity uid = refl

no_space : (b : ℕ) → digit_value b < 10 → (b == 32) ≡ false
no_space b h = never (b == 32) (λ e. let l : 36 < 10 = subst (λ (x : ℕ). digit_value x < 10) ((Decides-eqb b 32).0 e) h in omega (arith, l))
  where
    never : (t : Bool) → (t ≡ true → ⊥) → t ≡ false
    never true n = absurd (n refl)
    never false n = refl

no_spaces : (digits : List ℕ) → AllDigits 10 digits → AllByRecursion (λ b. (b == 32) ≡ false) digits
no_spaces [] h = tt
no_spaces (b ∷ digits) h = (no_space b h.0, no_spaces digits h.1)

-- two numbers, cut at the space between them
cut_again : (v n : ℕ) → v < 2 ^ 64 → n < 2 ^ 64 → slice_split (λ b. b == 32) (decimal v ++ 32 ∷ decimal n) ≡ decimal v ∷ decimal n ∷ []
cut_again v n fits also_fits =
    slice_split_at (λ b. b == 32) (decimal v) 32 (decimal n) (All-from_recursion _ (decimal v) (no_spaces (decimal v) (decimal_is_IsNumeral v fits).0.1)) refl
    ∙ ap (λ parts. decimal v ∷ parts) (slice_split_none (λ b. b == 32) (decimal n) (All-from_recursion _ (decimal n) (no_spaces (decimal n) (decimal_is_IsNumeral n also_fits).0.1)))

regrouped : (front v space n end : List ℕ) → (((front ++ v) ++ space) ++ n) ++ end ≡ front ++ ((v ++ (space ++ n)) ++ end)
regrouped front v space n end = simp append_assoc refl

both_same : (a b c d : List ℕ) → a ∷ b ∷ [] ≡ c ∷ d ∷ [] → (a ≡ c) × (b ≡ d)
both_same a b c d e = (cc, cc)

pub words_tell_which : WordsTellWhich
words_tell_which v n w m v_fits n_fits w_fits m_fits same =
    let front = codes "OK [APPENDUID " in
    let end = codes "] APPEND completed" in
    let inner : decimal v ++ 32 ∷ decimal n ≡ decimal w ++ 32 ∷ decimal m =
    append_cancel_right (decimal v ++ 32 ∷ decimal n) (decimal w ++ 32 ∷ decimal m) end
    (append_cancel_left front ((decimal v ++ 32 ∷ decimal n) ++ end) ((decimal w ++ 32 ∷ decimal m) ++ end)
    (sym (regrouped front (decimal v) (codes " ") (decimal n) end) ∙ same ∙ regrouped front (decimal w) (codes " ") (decimal m) end)) in
    let parts = both_same (decimal v) (decimal n) (decimal w) (decimal m) (sym (cut_again v n v_fits n_fits) ∙ ap (slice_split (λ b. b == 32)) inner ∙ cut_again w m w_fits m_fits) in
    (decimal_injective v w v_fits w_fits parts.0, decimal_injective n m n_fits m_fits parts.1)

copied_tells_none : (selected : Option Selected) (batch : Batch) (uidvalidity : ℕ) → TellsNoUid (told_copied selected batch uidvalidity)
copied_tells_none selected batch uidvalidity =
    in_either batch.moves (moving selected uidvalidity batch) (showing selected (says (copied_words uidvalidity batch)))
    (in_found (λ (s : Selected). Discard s.mailbox batch.uids (Feed unlimited (move_done batch))) (move_done batch)
    (λ s. row_tells_none (texts.Completed (copy_verb batch.by_uid true))) (row_tells_none (texts.Completed (copy_verb batch.by_uid true))) selected)
    (in_showing selected (says (copied_words uidvalidity batch)) refl)

stored_tells : (mailing : Mailing) (selected : Option Selected) (origin : Origin) (mailbox uid : ℕ) → StoredTellsUid selected origin mailbox uid (on_stored mailing selected origin mailbox uid)
stored_tells mailing selected Client mailbox uid = (refl, λ status. refl)
stored_tells mailing selected (Copied batch) mailbox uid =
    submitting_tells_none mailing (with_copy uid batch) mailbox (with_validity mailbox (told_copied selected (with_copy uid batch)))
    (λ status. copied_tells_none selected (with_copy uid batch) status.uidvalidity) batch.left

pub verdict_tells : (mailing : Mailing) (selected : Option Selected) (origin : Origin) (mailbox : ℕ) (verdict : Verdict) → VerdictTellsUid selected origin mailbox verdict (on_verdict mailing selected origin mailbox verdict)
verdict_tells mailing selected origin mailbox (Stored uid) = stored_tells mailing selected origin mailbox uid
verdict_tells mailing selected origin mailbox (Refused why) = back_tells_none mailbox (copies_of origin) (refused_text why)
