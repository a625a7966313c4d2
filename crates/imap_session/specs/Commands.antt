-- What a session does about each line (RFC 9051, 6 and 7).
use Rattle.std.specs.Prelude.{ℕ, ◌+◌, ◌-◌, ◌^◌, length, take, is_some, Bool, true, false, codes, decimal, List, [], ◌∷◌, ◌++◌, map, Option, Some, None, Result, Ok, Err, ◌&&◌, ◌||◌, ◌==◌, nat_le, nat_lt, not, if◌then◌else◌}
use Rattle.std.specs.Option.{option_map}
use Rattle.std.specs.List.{list_any}
use Rattle.std.specs.Str.{bytes_eq}
use Rattle.mailbox.specs.declared.clients.Opening.{Opening}
use Rattle.mailbox.specs.declared.clients.Row.{Row}
use Rattle.cursor_set.specs.Lines.{lines}
use Rattle.change_ring.specs.View.{position}
use Rattle.mailbox.specs.declared.clients.MailFault.TheVariants.{Lapped, Stranger}
use Rattle.change_ring.specs.declared.change.Flags.{Flags}
use Rattle.mail_date.specs.declared.stamp.Stamp.{Stamp}
use Rattle.imap_grammar.specs.declared.set.SeqRange.{SeqRange}
use Rattle.imap_grammar.specs.declared.items.StatusItem.{StatusItem}
use Rattle.imap_grammar.specs.declared.command.Command.{Command}
use Rattle.imap_grammar.specs.declared.command.Command.TheVariants as commands
use Rattle.imap_grammar.specs.declared.command.Fetch.{Fetch}
use Rattle.imap_grammar.specs.declared.command.Append.{Append}
use Rattle.imap_grammar.specs.declared.command.CopyMessages.{CopyMessages}
use Rattle.imap_grammar.specs.declared.command.Authenticate.{Authenticate}
use Rattle.imap_grammar.specs.declared.command.Literal.{Literal}
use Rattle.imap_grammar.specs.Literals.{announced, quoted}
use Rattle.imap_session.specs.Plain.{is_plain, is_response_of, plain_in}
use Rattle.change_ring.specs.Log.{no_flags}
use Rattle.imap_grammar.specs.declared.command.Store.{Store}
use Rattle.imap_grammar.specs.declared.command.Search.{Search}
use Rattle.imap_grammar.specs.declared.view.Named.{Named}
use Rattle.delivery_token.specs.declared.Refusal.{Refusal}
use Rattle.delivery_token.specs.declared.Refusal.TheVariants as refusals
use Rattle.delivery_token.specs.declared.Verdict.{Verdict}
use Rattle.delivery_token.specs.declared.Verdict.TheVariants as verdicts
use Rattle.imap_grammar.specs.declared.command.ImapFault.{ImapFault}
use Rattle.imap_grammar.specs.declared.command.ImapFault.TheVariants as faults
use Rattle.imap_grammar.specs.Keys.{all_messages, matches}
use Rattle.imap_grammar.specs.Sets.{last_uid, named_at, named_in}
use Rattle.imap_grammar.specs.Verbs.{copy_verb, verb_of}
use Rattle.imap_grammar.specs.Reading.{is_done, read}
use Rattle.imap_grammar.specs.Items.{is_compatible, is_recent, marks_seen}
use Rattle.imap_answers.specs.Answers.{flags_answer, is_inbox, list_answer, opening_text, row_answer, found_answer, status_answer, uid_set}
use Rattle.imap_session.specs.declared.standing.After.TheVariants.{Go, Bye}
use Rattle.imap_session.specs.declared.standing.After.TheVariants as afters
use Rattle.imap_session.specs.declared.standing.Selected.{Selected}
use Rattle.imap_session.specs.Exchange.{Answer, Batch, Origin, Client, Copied, PendingLiteral, Purpose, Message, Argument, Response, Mailing, Sent, Fed, Refused, having, saying, nothing_more, refused, is_idling, Turn, Standing, Folder, Exchange, ForDone, ForLiteral, ForVerdict, ForNothing, Done, Wait, Write, Put, Enter, Look, Read, Count, Alter, Expunge, Feed, Leave, Discard, tagged, bye, played, Asked, Unasked, untagged, continuing}
use Rattle.imap_session.specs.declared.texts.ResponseText.TheVariants as texts
use Rattle.imap_session.specs.Texts.{response_text, server_text}
use Rattle.imap_session.specs.declared.texts.ServerText.TheVariants as server
use Rattle.imap_session.specs.declared.standing.Profile.{Profile}
use Rattle.imap_session.specs.declared.standing.Profile.TheVariants.{Standard, Compatible}
use Rattle.imap_grammar.specs.declared.command.Verb.{Verb}
use Rattle.imap_answers.specs.declared.list.Listing.TheVariants.{All, Subscribed}
use Rattle.imap_session.specs.declared.texts.ResponseText.{ResponseText}
use Rattle.imap_grammar.specs.declared.command.Verb.TheVariants as verbs

-- ---- how an answer ends

-- the last line has these words behind the tag
abbrev pub says : List ℕ → Exchange
says words = Done words Go

abbrev pub completed : Command → Exchange
completed command = says (response_text (texts.Completed (verb_of command)))

-- more changes than any mailbox has pending
abbrev pub unlimited : ℕ
unlimited = 2 ^ 64 - 1

-- shows what is pending, where a mailbox is selected
abbrev pub showing : Option Selected → Exchange → Exchange
showing None x = x
showing (Some selected) x = Feed unlimited x

-- an untagged line, in room that was reserved
abbrev pub untagged_in_room : List ℕ → Exchange → Exchange
untagged_in_room words x = Put (untagged words) x

-- ---- mailboxes by name

-- INBOX is found whatever the case
abbrev pub is_named : List ℕ → Folder → Bool
is_named name folder = bytes_eq folder.name name || (is_inbox folder.name && is_inbox name)

-- the first mailbox of this name
abbrev pub folder_of : List ℕ → List Folder → Option Folder
folder_of name [] = None
folder_of name (folder ∷ folders) = if is_named name folder then Some folder else folder_of name folders

abbrev pub on_found : {A : Type 0} → (A → Exchange) → Exchange → Option A → Exchange
on_found found gone None = gone
on_found found gone (Some x) = found x

abbrev pub on_folder : List ℕ → List Folder → (Folder → Exchange) → Exchange
on_folder name folders next = on_found next (says (response_text texts.NoSuchMailbox)) (folder_of name folders)

-- memory is wanted here, for a name or for what will be told, and nothing is written
abbrev pub wanting : Exchange → Exchange
wanting x = Write [] x

-- memory is wanted for these UIDs, and where there is none nothing is
abbrev pub wanting_for : List ℕ → Exchange → Exchange
wanting_for [] x = x
wanting_for (uid ∷ uids) x = wanting x

-- ---- SELECT and EXAMINE

-- what the last line says then
abbrev pub entered_text : (read_only : Bool) → ResponseText
entered_text true = texts.ExamineCompleted
entered_text false = texts.SelectCompleted

-- clients of IMAP4rev1 are told how many messages no session was told of before (RFC 3501, 6.3.1)
abbrev pub telling_recent : Profile → Exchange → Exchange
telling_recent Standard x = x
telling_recent Compatible x = untagged_in_room (response_text texts.NoneRecent) x

-- What is told of the mailbox that was entered. Room for it was reserved where memory was wanted, before the mailbox was entered, so memory can't be
-- refused to it.
abbrev pub opened : Profile → Bool → List ℕ → Opening → Exchange
opened profile read_only name opening =
    Put (opening_text read_only name opening)
    (telling_recent profile (says (response_text (entered_text read_only))))

-- The mailbox that was selected is left first, also where the new one isn't there, and that is told: room for this line was reserved before anything
-- was done, so memory can't be refused to it.
abbrev pub closing : Option Selected → Exchange → Exchange
closing None x = x
closing (Some selected) x = Leave false (untagged_in_room (response_text texts.PreviousClosed) x)

abbrev pub entering : Profile → Bool → Folder → Exchange
entering profile read_only folder = Enter (record { mailbox = folder.mailbox; read_only = read_only }) (opened profile read_only folder.name)

-- Then memory is wanted, once, for the name and for what is told of the new mailbox. Where it is refused no mailbox is selected, as where the new one
-- isn't there or the store refuses it (RFC 9051, 6.3.2).
abbrev pub selecting : Profile → List Folder → Option Selected → Bool → List ℕ → Exchange
selecting profile folders selected read_only name = closing selected (wanting (on_folder name folders (entering profile read_only)))

-- ---- sets of messages

-- goes on with the view and the messages that a set names in it; nothing is done where one isn't there
abbrev pub on_chosen : Option (List ℕ) → (List ℕ → Exchange) → Exchange
on_chosen None next = says (response_text texts.SequenceTooHigh)
on_chosen (Some uids) next = next uids

abbrev pub on_set : Bool → List SeqRange → (List ℕ → List ℕ → Exchange) → Exchange
on_set by_uid set next = Look by_uid set (λ view. on_chosen (named_in by_uid set view) (next view))

-- after the last message of a FETCH or STORE: only the UID forms show changes, and they don't tell that messages are gone
abbrev pub messages_done : Command → Bool → Bool → Exchange
messages_done command true gone = Feed unlimited (completed command)
messages_done command false true = says (response_text texts.MessagesGone)
messages_done command false false = completed command

-- the answer for a message that was read, at its position in the view
abbrev pub fetched : Fetch → List ℕ → ℕ → Row → List ℕ
fetched fetch view uid row = row_answer (position uid view) fetch.by_uid fetch.items row

-- reads each message, and tells of those that are there
abbrev pub fetching : Fetch → Bool → List ℕ → (Bool → Exchange) → List ℕ → Bool → Exchange
fetching fetch mark view done [] gone = done gone
fetching fetch mark view done (uid ∷ uids) gone =
    Read uid mark (on_found (λ row. Write (fetched fetch view uid row) (fetching fetch mark view done uids gone))
    (fetching fetch mark view done uids true))

-- tells of a message at its position in the view whose flags were changed; where the client asked for silence nothing is told, and no memory wanted
abbrev pub stored : Store → List ℕ → ℕ → Flags → Exchange → Exchange
stored store view uid flags x = if store.silent then x else Write (flags_answer store.by_uid (position uid view) uid flags) x

-- changes the flags of each message, and tells of those that are there
abbrev pub storing : Store → List ℕ → (Bool → Exchange) → List ℕ → Bool → Exchange
storing store view done [] gone = done gone
storing store view done (uid ∷ uids) gone =
    Alter uid store.change (on_found (λ flags. stored store view uid flags (storing store view done uids gone))
    (storing store view done uids true))

-- the number of a message that was read, where the keys are so of it; `last` is the last message of the view
abbrev pub found_in : Search → (last message : Named) → Row → List ℕ
found_in search last message row =
    if matches search.keys last message row.flags row.text
    then (if search.by_uid then message.uid else message.position) ∷ []
    else []

-- reads each message, and keeps the numbers of those that are found; none is kept of one that is gone
abbrev pub searching : Search → (last : Named) (view : List ℕ) → (List ℕ → Exchange) → (uids found : List ℕ) → Exchange
searching search last view done [] found = done found
searching search last view done (uid ∷ uids) found =
    Read uid false (on_found (λ row. searching search last view done uids (found ++ found_in search last (named_at view uid) row))
    (searching search last view done uids found))

-- tells which were found, on one line
abbrev pub search_done : (tag : List ℕ) → Search → List ℕ → Exchange
search_done tag search found = Write (found_answer tag search.by_uid search.returns found)
    (messages_done (commands.Search search) search.by_uid false)

-- ---- commands

abbrev pub wrong_state : Exchange
wrong_state = says (response_text texts.WrongState)

abbrev pub in_selected : Standing → (Selected → Exchange) → Exchange
in_selected now next = on_found next wrong_state now.selected

-- where the selected mailbox may be changed
abbrev pub if_writable : Exchange → Selected → Exchange
if_writable x selected = if selected.read_only then says (response_text texts.ReadOnly) else x

abbrev pub in_writable : Standing → Exchange → Exchange
in_writable now x = in_selected now (if_writable x)

-- Memory is wanted for the items, before the messages are looked for. A FETCH sets \Seen for its items' sake, unless the mailbox was selected by
-- EXAMINE.
abbrev pub fetch_messages : Fetch → Selected → Exchange
fetch_messages fetch selected =
    wanting (on_set fetch.by_uid fetch.set (λ view uids.
    fetching fetch (list_any marks_seen fetch.items && not selected.read_only) view
    (messages_done (commands.Fetch fetch) fetch.by_uid) uids false))

abbrev pub store_messages : Store → Exchange
store_messages store =
    on_set store.by_uid store.set (λ view uids.
    storing store view (messages_done (commands.Store store) store.by_uid) uids false)

-- Each message of the view is looked at. Memory is wanted, for the numbers of those that are found.
abbrev pub search_messages : (tag : List ℕ) → Search → Exchange
search_messages tag search =
    on_set true all_messages (λ view uids. wanting (searching search (named_at view (last_uid uids)) view (search_done tag search) uids []))

abbrev pub search_known : (tag : List ℕ) → Search → Selected → Exchange
search_known tag search selected = if search.known_charset then search_messages tag search else says (response_text texts.BadCharset)

-- The set is resolved on the view before the changes are shown, and what they showed can't come into it. Then memory is wanted, for the UIDs that it
-- names, where it names one.
abbrev pub expunge_set : List SeqRange → Exchange
expunge_set set = on_set true set (λ view uids. wanting_for uids (Expunge (Some uids) (Feed unlimited (completed (commands.UidExpunge set)))))

-- the mailbox is counted as it is, and then what is pending is shown
abbrev pub counting : Option Selected → List ℕ → List StatusItem → Folder → Exchange
counting selected name items folder =
    Count folder.mailbox (λ status. Write (status_answer folder.name items status) (showing selected (completed (commands.Status name items))))

-- a client is subscribed to each mailbox that there is, and stays so
abbrev pub subscribing : List Folder → List ℕ → Command → Exchange
subscribing folders name command = on_folder name folders (λ folder. completed command)

-- no last line: the client may send DONE
abbrev pub begins_idling : Exchange
begins_idling = Wait (continuing (response_text texts.Idling)) ForDone

-- ---- APPEND

-- the number of the mailbox that has this name
abbrev pub number_named : List ℕ → List Folder → Option ℕ
number_named name folders = option_map (λ (folder : Folder). folder.mailbox) (folder_of name folders)

abbrev pub nowhere : Exchange
nowhere = says (response_text texts.TryCreate)

-- a message of this size isn't taken, since none is or since it is too big
abbrev pub is_over : Option ℕ → ℕ → Bool
is_over None size = true
is_over (Some most) size = nat_lt most size

abbrev pub over : Option ℕ → Exchange
over None = says (response_text texts.NotOffered)
over (Some most) = says (response_text texts.MessageTooBig)

-- the client is asked for its literal
abbrev pub asking : (mailbox : ℕ) → Flags → (date : Option Stamp) → (size : ℕ) → Exchange
asking mailbox flags date size = Wait (continuing (response_text texts.Ready)) (ForLiteral Asked (Message (Some mailbox) flags date) size)

-- its literal comes without that, and nothing is said
abbrev pub coming : (mailbox : Option ℕ) → Flags → (date : Option Stamp) → (size : ℕ) → Exchange
coming mailbox flags date size = Wait [] (ForLiteral Unasked (Message mailbox flags date) size)

-- a literal that the client sends without being asked has at most so many bytes
abbrev pub most_unasked : ℕ
most_unasked = 4096

-- Where the client waits to be asked, its message is refused before that; where it doesn't, its bytes are taken first. Memory is wanted for the name,
-- the tag and the text.
abbrev pub appending : Option ℕ → List Folder → Append → Exchange
appending most folders append =
    if append.literal.waits
    then wanting (on_found (λ mailbox. if is_over most append.literal.size then over most
    else asking mailbox append.flags append.date append.literal.size)
    nowhere (number_named append.name folders))
    else (if nat_lt most_unasked append.literal.size then Wait (bye (response_text texts.LiteralTooBig)) ForNothing
    else coming (number_named append.name folders) append.flags append.date append.literal.size)

-- message numbers have 32 bits, and the last is never given
abbrev pub last_number : ℕ
last_number = 4294967295

-- the mailbox that a message is for, where it is known, and the flags and the date that it is to have
abbrev pub mailbox_for : Purpose → Option ℕ
mailbox_for (Message mailbox flags date) = mailbox
mailbox_for purpose = None

abbrev pub flags_for : Purpose → Flags
flags_for (Message mailbox flags date) = flags
flags_for purpose = no_flags

abbrev pub date_for : Purpose → Option Stamp
date_for (Message mailbox flags date) = date
date_for purpose = None

-- all bytes are there, and the line ends behind them. Memory is wanted for what the text's copies share
abbrev pub on_text : Mailing → PendingLiteral → List ℕ → ℕ → Exchange
on_text mailing a text mailbox =
    if is_over mailing.most a.size then over mailing.most
    else if list_any (λ b. b == 0) text then says (response_text texts.NulByte)
    else if nat_le last_number mailing.number then says (response_text texts.MailboxSpent)
    else wanting (Wait [] (ForVerdict Client mailbox (flags_for a.purpose) (record { bytes = text; date = date_for a.purpose })))

-- the rest of the line, without its CRLF, behind the literal of a message. A rest that is too long is told as no empty one
abbrev pub on_rest : Mailing → PendingLiteral → Bool → Exchange
on_rest mailing a empty = on_found (λ text. if empty then on_found (on_text mailing a text) nowhere (mailbox_for a.purpose)
    else says (response_text texts.InvalidArguments)) (says (response_text texts.OutOfMemory)) a.text

abbrev pub refused_text : Refusal → ResponseText
refused_text refusals.Full = texts.ShardFull
refused_text refusals.MailboxFull = texts.MailboxFull
refused_text refusals.NoMemory = texts.OutOfMemory
refused_text refusals.UidSpent = texts.NoUidLeft
refused_text refusals.Shut = texts.ShardClosed

abbrev pub appended_words : ℕ → ℕ → List ℕ
appended_words uidvalidity uid = codes "OK [APPENDUID " ++ decimal uidvalidity ++ codes " " ++ decimal uid ++ codes "] APPEND completed"

-- ---- COPY and MOVE

-- A message that came by mail has at most so many bytes more than were sent: the line of its return path.
abbrev pub most_return_path : ℕ
most_return_path = 337

-- the most bytes of a message that is copied; none is where the session takes no messages
abbrev pub most_copied : Option ℕ → Option ℕ
most_copied most = option_map (λ n. n + most_return_path) most

-- so many messages are copied by one command at most
abbrev pub most_in_batch : ℕ
most_in_batch = 32768

-- none is read yet
abbrev pub empty_batch : CopyMessages → Batch
empty_batch copy = record { by_uid = copy.by_uid; moves = copy.moves; uids = []; left = []; copies = [] }

abbrev pub with_message : (uid : ℕ) → Row → Batch → Batch
with_message uid row batch = record batch { uids = batch.uids ++ uid ∷ []; left = batch.left ++ row ∷ [] }

abbrev pub with_copy : (uid : ℕ) → Batch → Batch
with_copy uid batch = record batch { copies = batch.copies ++ uid ∷ [] }

-- the copies that were stored are removed again: all copies of a command stand or none does (6.4.7)
abbrev pub taking_back : (mailbox : ℕ) → (copies : List ℕ) → Exchange → Exchange
taking_back mailbox [] x = x
taking_back mailbox (uid ∷ uids) x = Discard mailbox (uid ∷ uids) x

-- a message goes to this mailbox as a copy of its own, which shares its text, with the flags that it was read with; these are still left
abbrev pub submitted : Mailing → Batch → (mailbox : ℕ) → Row → (left : List Row) → Exchange
submitted mailing batch mailbox row left =
    if nat_le last_number mailing.number then taking_back mailbox batch.copies (says (response_text texts.MailboxSpent))
    else Wait [] (ForVerdict (Copied (record batch { left = left })) mailbox row.flags row.text)

-- of those that are left the first goes; where none is, what is done then
abbrev pub submitting_first : Mailing → Batch → (mailbox : ℕ) → (done : Exchange) → (left : List Row) → Exchange
submitting_first mailing batch mailbox done [] = done
submitting_first mailing batch mailbox done (row ∷ left) = submitted mailing batch mailbox row left

abbrev pub submitting : Mailing → Batch → (mailbox : ℕ) → (done : Exchange) → Exchange
submitting mailing batch mailbox done = submitting_first mailing batch mailbox done batch.left

-- Each of these messages is read, before the first copy is submitted, and then the copies go. One that is gone is passed over where it was named by
-- its UID, as if it had not been named (6.4.9).
abbrev pub gathering : Mailing → CopyMessages → (mailbox : ℕ) → (uids : List ℕ) → Batch → Exchange
gathering mailing copy mailbox [] batch = submitting mailing batch mailbox (completed (commands.Copy copy))
gathering mailing copy mailbox (uid ∷ uids) batch =
    Read uid false (on_found (λ row. if is_over (most_copied mailing.most) (length row.text.bytes) then over (most_copied mailing.most)
    else gathering mailing copy mailbox uids (with_message uid row batch))
    (if copy.by_uid then gathering mailing copy mailbox uids batch else says (response_text texts.MessagesGone)))

-- Of these messages to this mailbox. Memory is wanted for what is known of each, and for the tag.
abbrev pub copy_of : Mailing → CopyMessages → (mailbox : ℕ) → (uids : List ℕ) → Exchange
copy_of mailing copy mailbox uids =
    if nat_lt most_in_batch (length uids) then says (response_text texts.TooManyMessages)
    else wanting (gathering mailing copy mailbox uids (empty_batch copy))

abbrev pub copy_to : Mailing → CopyMessages → (mailbox : ℕ) → Exchange
copy_to mailing copy mailbox = on_set copy.by_uid copy.set (λ view uids. copy_of mailing copy mailbox uids)

-- MOVE changes the selected mailbox. Memory is wanted for the name.
abbrev pub copy_messages : Standing → CopyMessages → Selected → Exchange
copy_messages now copy selected =
    if copy.moves && selected.read_only then says (response_text texts.ReadOnly)
    else wanting (on_found (copy_to now.mailing copy) nowhere (number_named copy.name now.folders))

-- under which UIDs the copies are, behind the UIDVALIDITY of their mailbox and the messages' own UIDs, in one order (RFC 4315, 3)
abbrev pub copy_code : (uidvalidity : ℕ) → Batch → List ℕ
copy_code uidvalidity batch =
    codes "OK [COPYUID " ++ decimal uidvalidity ++ codes " " ++ uid_set batch.uids ++ codes " " ++ uid_set batch.copies ++ codes "] "

abbrev pub copied_words : (uidvalidity : ℕ) → Batch → List ℕ
copied_words uidvalidity batch = copy_code uidvalidity batch ++ codes "COPY completed"

-- of MOVE they stand in a line of their own, before the messages are removed (RFC 6851, 4.3)
abbrev pub moved_words : (uidvalidity : ℕ) → Batch → List ℕ
moved_words uidvalidity batch = copy_code uidvalidity batch ++ codes "Moved"

abbrev pub move_done : Batch → Exchange
move_done batch = says (response_text (texts.Completed (copy_verb batch.by_uid true)))

-- The copies of messages that are moved stand. The messages are removed, whatever their flags, and that is shown.
abbrev pub moving : Option Selected → (uidvalidity : ℕ) → Batch → Exchange
moving selected uidvalidity batch =
    Put (untagged (moved_words uidvalidity batch))
    (on_found (λ (s : Selected). Discard s.mailbox batch.uids (Feed unlimited (move_done batch))) (move_done batch) selected)

-- what is told where all copies stand, in a mailbox of this UIDVALIDITY. What is pending in the selected mailbox is shown
abbrev pub told_copied : Option Selected → Batch → (uidvalidity : ℕ) → Exchange
told_copied selected batch uidvalidity =
    if batch.moves then moving selected uidvalidity batch else showing selected (says (copied_words uidvalidity batch))

abbrev pub told_appended : Option Selected → (uid uidvalidity : ℕ) → Exchange
told_appended selected uid uidvalidity = showing selected (says (appended_words uidvalidity uid))

-- a mailbox is counted for its UIDVALIDITY
abbrev pub with_validity : (mailbox : ℕ) → (ℕ → Exchange) → Exchange
with_validity mailbox next = Count mailbox (λ status. next status.uidvalidity)

-- ---- verdicts on messages

-- one more copy of a batch stands
abbrev pub copy_stored : Mailing → Option Selected → Batch → (mailbox : ℕ) → Exchange
copy_stored mailing selected batch mailbox = submitting mailing batch mailbox (with_validity mailbox (told_copied selected batch))

-- what is done where a message was stored under this UID
abbrev pub on_stored : Mailing → Option Selected → Origin → (mailbox uid : ℕ) → Exchange
on_stored mailing selected Client mailbox uid = with_validity mailbox (told_appended selected uid)
on_stored mailing selected (Copied batch) mailbox uid = copy_stored mailing selected (with_copy uid batch) mailbox

-- the copies that are removed again where a message is refused
abbrev pub copies_of : Origin → List ℕ
copies_of Client = []
copies_of (Copied batch) = batch.copies

-- the verdict on the message
abbrev pub on_verdict : Mailing → Option Selected → Origin → (mailbox : ℕ) → Verdict → Exchange
on_verdict mailing selected origin mailbox (verdicts.Stored uid) = on_stored mailing selected origin mailbox uid
on_verdict mailing selected origin mailbox (verdicts.Refused why) = taking_back mailbox (copies_of origin) (says (response_text (refused_text why)))

-- ---- what each command does

-- What a command says of the server, whatever the state (RFC 9051, 6.1.1, 6.3.1 and 6.3.10; RFC 2971). One that isn't here says nothing of it.
abbrev pub notice : Profile → Command → Option (List ℕ)
notice profile commands.Capability = Some (server_text (server.Capabilities profile))
notice profile commands.Namespace = Some (server_text server.Namespaces)
notice profile commands.Id = Some (server_text server.Identity)
notice profile commands.Enable = Some (server_text server.NoneEnabled)
notice profile _ = None

-- what is said of the server, where something is, and then this
abbrev pub noticing : Option (List ℕ) → Exchange → Exchange
noticing None x = x
noticing (Some words) x = untagged_in_room words x

abbrev pub on_command : (tag : List ℕ) → Standing → Command → Exchange
on_command tag now commands.Noop = showing now.selected (completed commands.Noop)
on_command tag now commands.Logout = Put (bye (response_text texts.LoggingOut)) (Done (response_text (texts.Completed verbs.Logout)) Bye)
on_command tag now commands.Idle = begins_idling
on_command tag now (commands.Login user password) = wrong_state
on_command tag now (commands.Authenticate a) = wrong_state
on_command tag now commands.StartTls = wrong_state
on_command tag now (commands.Select name) = selecting now.profile now.folders now.selected false name
on_command tag now (commands.Examine name) = selecting now.profile now.folders now.selected true name
on_command tag now (commands.List reference pattern) =
    Write (list_answer All reference pattern (map (λ (folder : Folder). folder.name) now.folders))
    (showing now.selected (completed (commands.List reference pattern)))
on_command tag now (commands.Lsub reference pattern) =
    Write (list_answer Subscribed reference pattern (map (λ (folder : Folder). folder.name) now.folders))
    (showing now.selected (completed (commands.Lsub reference pattern)))
on_command tag now (commands.Subscribe name) = wanting (subscribing now.folders name (commands.Subscribe name))
on_command tag now (commands.Unsubscribe name) = wanting (subscribing now.folders name (commands.Unsubscribe name))
on_command tag now commands.Check = showing now.selected (completed commands.Check)
on_command tag now (commands.Status name items) =
    wanting (on_folder name now.folders (counting now.selected name items))
on_command tag now commands.Close = in_selected now (λ selected. Leave (not selected.read_only) (completed commands.Close))
on_command tag now commands.Unselect = in_selected now (λ selected. Leave false (completed commands.Unselect))
on_command tag now commands.Expunge = in_writable now (Expunge None (Feed unlimited (completed commands.Expunge)))
on_command tag now (commands.UidExpunge set) = in_writable now (expunge_set set)
on_command tag now (commands.Fetch fetch) = in_selected now (fetch_messages fetch)
on_command tag now (commands.Search search) = in_selected now (search_known tag search)
on_command tag now (commands.Store store) = in_writable now (store_messages store)
on_command tag now (commands.Copy copy) = in_selected now (copy_messages now copy)
on_command tag now (commands.Append append) = appending now.mailing.most now.folders append
on_command tag now command = noticing (notice now.profile command) (completed command)

-- ---- what isn't carried out

-- what is said of a verb that the standard profile doesn't have, whatever follows it
abbrev pub standard_lacks : Verb → Option ResponseText
standard_lacks verbs.Login = Some texts.WrongState
standard_lacks verbs.Authenticate = Some texts.WrongState
standard_lacks verbs.Enable = Some texts.NotOffered
standard_lacks verbs.Id = Some texts.UnknownCommand
standard_lacks verbs.Check = Some texts.UnknownCommand
standard_lacks verbs.Lsub = Some texts.UnknownCommand
standard_lacks verbs.Subscribe = Some texts.NotOffered
standard_lacks verbs.Unsubscribe = Some texts.NotOffered
standard_lacks verbs.Search = Some texts.NotOffered
standard_lacks verbs.UidSearch = Some texts.NotOffered
standard_lacks verbs.Copy = Some texts.NotOffered
standard_lacks verbs.UidCopy = Some texts.NotOffered
standard_lacks verbs.Move = Some texts.NotOffered
standard_lacks verbs.UidMove = Some texts.NotOffered
standard_lacks _ = None

abbrev pub unoffered_verb : Profile → Verb → Option ResponseText
unoffered_verb Standard verb = standard_lacks verb
unoffered_verb Compatible verb = None

-- it asks for something of a mailbox or a message that the standard profile doesn't have
abbrev pub asks_compatible : Command → Bool
asks_compatible (commands.Status name items) = list_any is_recent items
asks_compatible (commands.Fetch fetch) = list_any is_compatible fetch.items
asks_compatible _ = false

-- the same of a whole command
abbrev pub unoffered : Profile → Command → Option ResponseText
unoffered Standard command = if asks_compatible command then Some texts.InvalidArguments else standard_lacks (verb_of command)
unoffered Compatible command = None

-- what is said to a client that is to log in first. Few commands are for it too (RFC 9051, 6.1 and 6.2), and one that logs it in never comes here
abbrev pub before_login : Verb → Option ResponseText
before_login verbs.Capability = None
before_login verbs.Noop = None
before_login verbs.Logout = None
before_login verbs.Id = None
before_login verbs.Login = Some texts.LoginFailed
before_login verbs.StartTls = Some texts.NotOffered
before_login _ = Some texts.WrongState

-- the same of AUTHENTICATE: its mechanism isn't offered, its response isn't one of that, or it is another user's
abbrev pub refused_login : Authenticate → ResponseText
refused_login a = if not (is_plain a.mechanism) then texts.NotOffered else if is_some (plain_in a.initial) then texts.LoginFailed
    else texts.InvalidArguments

abbrev pub without_login : Command → Option ResponseText
without_login (commands.Authenticate a) = Some (refused_login a)
without_login command = before_login (verb_of command)

abbrev pub barred_at : Option (List ℕ) → Profile → Command → Option ResponseText
barred_at None profile command = unoffered profile command
barred_at (Some user) profile command = without_login command

-- what is said in place of carrying a command out, where it isn't
abbrev pub barred : Standing → Command → Option ResponseText
barred now command = barred_at now.login now.profile command

abbrev pub answering : (tag : List ℕ) → Standing → Command → Exchange
answering tag now command = on_found (λ text. says (response_text text)) (on_command tag now command) (barred now command)

-- the client logs in as the user as whom it is to. The password isn't looked at: only the machine itself can connect, and who may log in is told by
-- what stands in front
abbrev pub logs_in_as : Option (List ℕ) → Command → Bool
logs_in_as (Some user) (commands.Login name password) = bytes_eq name user
logs_in_as (Some user) (commands.Authenticate a) = is_response_of user a
logs_in_as _ _ = false

abbrev pub logged_in : Standing → Standing
logged_in now = record now { login = None }

-- ---- lines

-- what is said where what follows this verb isn't right for it
abbrev pub lacking_or : Option ResponseText → ResponseText
lacking_or None = texts.InvalidArguments
lacking_or (Some text) = text

abbrev pub arguments_text : Profile → Verb → ResponseText
arguments_text profile verb = lacking_or (unoffered_verb profile verb)

-- the line that answers one that is no command. Room for it was reserved
abbrev pub fault_text : Profile → ImapFault → List ℕ
fault_text profile faults.NoTag = untagged (response_text texts.MissingTag)
fault_text profile (faults.Unknown tag) = tagged tag (response_text texts.UnknownCommand)
fault_text profile (faults.LeftOut tag) = tagged tag (response_text texts.NotOffered)
fault_text profile (faults.Arguments tag verb) = tagged tag (response_text (arguments_text profile verb))

-- a line that asks nothing of the store
abbrev pub only_says : List ℕ → Standing → List Answer → Option Turn
only_says text now [] = Some (saying text (nothing_more Go now))
only_says text now (answer ∷ more) = None

-- a command under its tag, which logs the client in or not
abbrev pub on_line : Bool → Standing → List ℕ → Command → List Answer → Option Turn
on_line true now tag command answers = played tag (logged_in now) (completed command) answers
on_line false now tag command answers = played tag now (answering tag now command) answers

abbrev pub on_read : Standing → Result (List ℕ × Command) ImapFault → List Answer → Option Turn
on_read now (Ok line) answers = on_line (logs_in_as now.login line.1) now line.0 line.1 answers
on_read now (Err fault) answers = only_says (fault_text now.profile fault) now answers

-- ---- lines that go on

-- a command's line has at most so many bytes with its literals in it, as one without has
abbrev pub most_line : ℕ
most_line = 8190

-- The client is to send a literal, which is an argument of the line that began so (RFC 9051, 4.3). One that it sends without being asked for is no
-- command, so where it is too big the session ends.
abbrev pub awaiting_argument : (before : List ℕ) → Literal → Exchange
awaiting_argument before literal =
    if literal.waits
    then (if nat_lt most_line (length before + literal.size) then says (response_text texts.LineTooLong)
    else wanting (Wait (continuing (response_text texts.Ready)) (ForLiteral Asked (Argument before) literal.size)))
    else (if nat_lt most_unasked literal.size then Wait (bye (response_text texts.LiteralTooBig)) ForNothing
    else Wait [] (ForLiteral Unasked (Argument before) literal.size))

-- The client is to send its response on a line of its own (RFC 9051, 6.2.2). The server's challenge is empty.
abbrev pub awaiting_response : (line : List ℕ) → Exchange
awaiting_response line = wanting (Wait (continuing []) (ForLiteral Asked (Response line) 0))

-- the tag of a line that is no command
abbrev pub fault_tag : ImapFault → Option (List ℕ)
fault_tag faults.NoTag = None
fault_tag (faults.Unknown tag) = Some tag
fault_tag (faults.LeftOut tag) = Some tag
fault_tag (faults.Arguments tag verb) = Some tag

abbrev pub lacks_literal : (line : List ℕ) → (tag : Option (List ℕ)) → Option (ℕ × Literal) → Option (List ℕ × Exchange)
lacks_literal line (Some tag) (Some found) = Some (tag, awaiting_argument (take found.0 line) found.1)
lacks_literal line _ _ = None

-- a line that is no command as it stands, and announces a literal at its end. The standard profile has literals in APPEND alone, where they are
-- messages
abbrev pub literal_in : Profile → (line : List ℕ) → ImapFault → Option (List ℕ × Exchange)
literal_in Standard line fault = None
literal_in Compatible line fault = lacks_literal line (fault_tag fault) (announced line)

-- AUTHENTICATE without a response, of a client that is to log in
abbrev pub wants_response : (login : Option (List ℕ)) → Command → Bool
wants_response (Some user) (commands.Authenticate a) = is_plain a.mechanism && not (is_some a.initial)
wants_response _ _ = false

abbrev pub lacks_part : Profile → (login : Option (List ℕ)) → (line : List ℕ) → Result (List ℕ × Command) ImapFault → Option (List ℕ × Exchange)
lacks_part profile login line (Ok read) = if wants_response login read.1 then Some (read.0, awaiting_response line) else None
lacks_part profile login line (Err fault) = literal_in profile line fault

-- what is done about a line that isn't whole yet, and its tag
abbrev pub unfinished : Profile → (login : Option (List ℕ)) → (line : List ℕ) → Option (List ℕ × Exchange)
unfinished profile login line = lacks_part profile login line (read line)

abbrev pub on_part : Option (List ℕ × Exchange) → Standing → List ℕ → List Answer → Option Turn
on_part None now line answers = on_read now (read line) answers
on_part (Some part) now line answers = played part.0 now part.1 answers

-- a line, which may have literals in it, or be such that one is to come
abbrev pub on_text_line : Standing → List ℕ → List Answer → Option Turn
on_text_line now line answers = on_part (unfinished now.profile now.login line) now line answers

abbrev pub comes_unasked : Option (ℕ × Literal) → Bool
comes_unasked None = false
comes_unasked (Some found) = not found.1.waits

-- A line is given up that ends so, and that is told. But where it announces a literal that comes without being asked for, the session ends.
abbrev pub given_up : (rest : List ℕ) → (told parting : ResponseText) → Exchange
given_up rest told parting = if comes_unasked (announced rest) then Wait (bye (response_text parting)) ForNothing else says (response_text told)

-- the line with its literals in it, under this tag, and its end
abbrev pub on_joined : (tag : List ℕ) → Standing → (line rest : List ℕ) → List Answer → Option Turn
on_joined tag now line rest answers =
    if nat_lt most_line (length line) then played tag now (given_up rest texts.LineTooLong texts.LiteralTooBig) answers
    else on_text_line now line answers

-- the same where memory may have been refused to what came of it
abbrev pub on_behind : (tag : List ℕ) → Standing → (line : Option (List ℕ)) → (rest : List ℕ) → List Answer → Option Turn
on_behind tag now None rest answers = played tag now (given_up rest texts.OutOfMemory texts.ByeOutOfMemory) answers
on_behind tag now (Some line) rest answers = on_joined tag now line rest answers

-- an empty response is written as `=` behind AUTHENTICATE
abbrev pub response_in : List ℕ → List ℕ
response_in [] = codes "="
response_in line = line

-- ---- turns

-- the line that ends an IDLE: DONE, or any other, which isn't read as a command
abbrev pub on_idle_line : Option Selected → List ℕ → Exchange
on_idle_line selected line = if is_done line then showing selected (completed commands.Idle) else says (response_text texts.ExpectedDone)

abbrev pub turn_while : Option (List ℕ) → Standing → List ℕ → List Answer → Option Turn
turn_while None now line answers = on_text_line now line answers
turn_while (Some tag) now line answers = played tag (record now { idling = None }) (on_idle_line now.selected line) answers

-- A session waits for one thing at a time: the rest of a line, or a verdict. The message whose bytes came, or on which the verdict is there, is no
-- longer kept.
abbrev pub without_begun : Standing → Standing
without_begun now = record now { idling = None; mailing = record now.mailing { begun = None } }

abbrev pub without_sent : Standing → Standing
without_sent now = record now { idling = None; mailing = record now.mailing { begun = None; sent = None } }

-- The rest of a line behind a literal. One that is an argument is read as the quoted string that says the same, in the literal's place.
abbrev pub on_rest_of : Purpose → PendingLiteral → Standing → List ℕ → List Answer → Option Turn
on_rest_of (Message mailbox flags date) a now line answers = played a.tag (without_begun now) (on_rest now.mailing a (length line == 0)) answers
on_rest_of (Argument before) a now line answers = on_behind a.tag (without_begun now)
    (option_map (λ text. before ++ quoted text ++ line) a.text) line answers
on_rest_of (Response before) a now line answers = on_behind a.tag (without_begun now)
    (option_map (λ text. before ++ codes " " ++ response_in line) a.text) line answers

abbrev pub turn_behind : Option PendingLiteral → Standing → List ℕ → List Answer → Option Turn
turn_behind None now line answers = turn_while now.idling now line answers
turn_behind (Some a) now line answers = on_rest_of a.purpose a now line answers

-- where a line leads, with these answers of the store
abbrev pub turn_of : Standing → List ℕ → List Answer → Option Turn
turn_of now line answers = turn_behind now.mailing.begun now line answers

-- ---- bytes of a literal

-- so many are due
abbrev pub due_of : Option PendingLiteral → ℕ
due_of None = 0
due_of (Some a) = a.due

abbrev pub kept_text : Bool → List ℕ → Option (List ℕ) → Option (List ℕ)
kept_text true bytes (Some text) = Some (text ++ bytes)
kept_text kept bytes text = None

abbrev pub taking : Bool → List ℕ → PendingLiteral → PendingLiteral
taking kept bytes a = record a { due = a.due - length bytes; text = kept_text kept bytes a.text }

-- these bytes came; memory may have been refused to them
abbrev pub with_bytes : Bool → List ℕ → Standing → Standing
with_bytes kept bytes now = record now { mailing = record now.mailing { begun = option_map (taking kept bytes) now.mailing.begun } }

-- ---- verdicts

abbrev pub turn_with : Option Sent → Standing → Verdict → List Answer → Option Turn
turn_with None now verdict answers = None
turn_with (Some sent) now verdict answers = played sent.tag (without_sent now)
    (on_verdict now.mailing now.selected sent.origin sent.append.mailbox verdict) answers

-- where the verdict leads that a session waits for, with these answers of the store
abbrev pub turn_of_verdict : Standing → Verdict → List Answer → Option Turn
turn_of_verdict now verdict answers = turn_with now.mailing.sent now verdict answers

-- ---- what comes without a line of its own

abbrev pub greeting : Profile → List ℕ
greeting profile = untagged (server_text (server.Greeting profile))

-- the answer to a line that is too long, of a session that idles with this tag or doesn't idle
abbrev pub long_idle_text : Option (List ℕ) → List ℕ
long_idle_text None = untagged (response_text texts.LineTooLong)
long_idle_text (Some tag) = tagged tag (response_text texts.ExpectedDone)

-- the same behind a literal
abbrev pub long_rest_text : Option (List ℕ) → ResponseText
long_rest_text None = texts.OutOfMemory
long_rest_text (Some text) = texts.InvalidArguments

abbrev pub long_text : Option PendingLiteral → Option (List ℕ) → List ℕ
long_text None idling = long_idle_text idling
long_text (Some a) idling = tagged a.tag (response_text (long_rest_text a.text))

abbrev pub long_line_text : Standing → List ℕ
long_line_text now = long_text now.mailing.begun now.idling

-- where a line leads that is too long. It ends an IDLE, and a command that goes on behind a literal
abbrev pub turn_of_long_line : Standing → Turn
turn_of_long_line now = record { events = []; bytes = long_line_text now; after = Go; standing = without_begun now }

-- at most so many changes are shown in a turn of a session that idles
abbrev pub most_changes : ℕ
most_changes = 64

abbrev pub idle_turn_in : Option Selected → Bool → Standing → List Answer → Option Turn
idle_turn_in (Some selected) true now (Fed view changes ∷ []) =
    Some (having (Feed most_changes) (Fed view changes) (saying (lines view changes) (nothing_more afters.Idle now)))
idle_turn_in (Some selected) true now (Refused Lapped ∷ []) = Some (having (Feed most_changes) (Refused Lapped) (refused [] now Lapped))
idle_turn_in (Some selected) true now (Refused Stranger ∷ []) = Some (having (Feed most_changes) (Refused Stranger) (refused [] now Stranger))
idle_turn_in (Some selected) true now answers = None
idle_turn_in selected idling now [] = Some (nothing_more afters.Idle now)
idle_turn_in selected idling now answers = None

-- What a session does in its turn while it idles, with these answers of the store: it shows what is pending in the mailbox that it selected.
-- Where it selected none, or doesn't idle, it does nothing. Where memory is refused there is no turn.
abbrev pub idle_turn : Standing → List Answer → Option Turn
idle_turn now answers = idle_turn_in now.selected (is_idling now) now answers

-- how many changes were shown by these answers
abbrev pub count_shown : List Answer → ℕ
count_shown [] = 0
count_shown (Fed view changes ∷ answers) = length changes + count_shown answers
count_shown (answer ∷ answers) = count_shown answers
