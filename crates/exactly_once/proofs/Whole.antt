-- What a session says is whole lines, whatever its store answers.
use Rattle.std.proofs.Common.{◌≡◌, inl, inr, ℕ, ◌+◌, Bool, true, false, List, ◌∷◌, ◌++◌, map, length, refl, sym, subst, append_assoc, Option, Some, None, Result, Ok, Err, []}
use Rattle.std.specs.Prelude.{IfSome, codes, decimal, flat_map, nat_le, nat_lt, ◌==◌, if◌then◌else◌}
use Rattle.std.specs.List.{list_any}
use Rattle.change_ring.specs.declared.change.Change.{Change}
use Rattle.change_ring.specs.declared.change.Change.TheVariants.{Add, Gone, Flags as SetFlags}
use Rattle.change_ring.specs.declared.change.Flags.{Flags}
use Rattle.change_ring.specs.Log.{shown}
use Rattle.cursor_set.specs.Lines.{lines, line}
use Rattle.change_ring.specs.View.{position}
use Rattle.change_ring.specs.Words.{flag_words, spaced}
use Rattle.line_io.specs.Wire.{crlf}
use Rattle.mailbox.specs.declared.clients.MailFault.{MailFault}
use Rattle.mailbox.specs.declared.clients.MailFault.TheVariants.{Stranger, Lapped, Spent, NoMemory}
use Rattle.mailbox.specs.declared.clients.Opening.{Opening}
use Rattle.mailbox.specs.declared.clients.Row.{Row}
use Rattle.mailbox.specs.declared.mailbox.Status.{Status}
use Rattle.imap_grammar.specs.declared.command.SearchReturns.{SearchReturns}
use Rattle.imap_answers.specs.Answers.{all_flags, answered, asks_for_root, extended_front, extended_items, flags_answer, found_answer, is_listed, item_text, list_answer, list_front, listed, name_answer, opening_text, root_answer, spaced_numbers, status_text}
use Rattle.imap_grammar.specs.Reading.{is_done, read}
use Rattle.imap_grammar.specs.declared.command.Append.{Append}
use Rattle.imap_grammar.specs.declared.command.Command.{Command}
use Rattle.imap_grammar.specs.declared.command.Command.TheVariants as commands
use Rattle.imap_grammar.specs.declared.command.Fetch.{Fetch}
use Rattle.imap_grammar.specs.declared.command.ImapFault.{ImapFault}
use Rattle.imap_grammar.specs.declared.command.ImapFault.TheVariants as faults
use Rattle.imap_grammar.specs.declared.command.Search.{Search}
use Rattle.imap_grammar.specs.declared.command.Store.{Store}
use Rattle.imap_grammar.specs.declared.view.Named.{Named}
use Rattle.imap_grammar.specs.Keys.{all_messages}
use Rattle.imap_grammar.specs.Sets.{last_uid, named_at, named_in}
use Rattle.imap_session.specs.declared.standing.After.{After}
use Rattle.imap_session.specs.declared.standing.After.TheVariants.{Go, Bye}
use Rattle.imap_session.specs.declared.standing.After.TheVariants as afters
use Rattle.imap_session.specs.declared.standing.Selected.{Selected}
use Rattle.imap_session.specs.Exchange as ex
use Rattle.imap_session.specs.Exchange.{Answer, Batch, Origin, Client, Copied, PendingLiteral, ForVerdict, Mailing, Call, Refused, Exchange, Folder, Standing, Turn, played, refused, refusal_text, refusal_after, closed, tagged, bye, is_idling}
use Rattle.imap_session.specs.Commands.{appending, is_over, last_number, most_unasked, nowhere, number_named, on_rest, on_text, over, found_in, search_done, search_known, search_messages, searching, wanting, wanting_for, closing, completed, counting, entering, expunge_set, fetch_messages, fetched, fetching, folder_of, greeting, idle_turn_in, messages_done, on_chosen, on_command, on_found, on_idle_line, says, showing, store_messages, storing, telling_recent, unlimited, wrong_state, notice, noticing}
use Rattle.imap_session.specs.Commands as commands_of
use Rattle.imap_session.specs.Store.{AnswersVerdict, IdleTurns}
use Rattle.delivery_token.specs.declared.Verdict.{Verdict}
use Rattle.delivery_token.specs.declared.Verdict.TheVariants as verdicts
use Rattle.delivery_token.specs.declared.log.Noted.{Noted}
use Rattle.house_peers.specs.Visitor as seated
use Rattle.house_peers.specs.Visitor.{GoesOn, SeatedVisitor}
use Rattle.imap_session.specs.Dialogue as dialogue
use Rattle.imap_session.specs.Dialogue.{AnswersLine, AnswersOne, Converses, Sends, goes_on, parts, reads, silent, too_long}
use Rattle.imap_session.specs.declared.texts.ResponseText.TheVariants as texts
use Rattle.imap_session.specs.Texts.{response_text, server_text}
use Rattle.imap_session.specs.declared.texts.ServerText.TheVariants as server
use Rattle.imap_session.specs.declared.standing.Profile.{Profile}
use Rattle.imap_session.specs.declared.standing.Profile.TheVariants.{Standard, Compatible}
use Rattle.imap_session.proofs.Barring.{line_has}
use Rattle.imap_session.proofs.Parts.{IsPart, asks_part, challenge_part, comes_part, ends_part, rest_has, tells_part, text_line_has}
use Rattle.imap_answers.specs.declared.list.Listing.{Listing}
use Rattle.imap_answers.specs.declared.list.Listing.TheVariants.{All, Subscribed}
use Rattle.imap_grammar.specs.declared.command.CopyMessages.{CopyMessages}
use Rattle.house.specs.Setup.{AreLines}
use Rattle.exactly_once.proofs.EachExchange.{Plays, exchange_if, idle_so}
use Rattle.exactly_once.proofs.Copying.{TakesBack, back_so, copies_so, stored_so}
pub use Rattle.exactly_once.proofs.Lines.{cut_of, whole_append}

-- nothing, or lines of which the last one has ended
abbrev pub IsWhole : List ℕ → Type 0
IsWhole = AreLines

-- what ends in the last word of a line
pub ends : (front words : List ℕ) → IsWhole (front ++ (words ++ crlf))
ends front words = inr (front ++ words, sym (append_assoc front words crlf))

-- ---- what is said

pub line_whole : (view : List ℕ) (c : Change) → IsWhole (line view c)
line_whole view (Add uid) = ends (codes "* " ++ decimal (length view + 1)) (codes " EXISTS")
line_whole view (Gone uid) = ends (codes "* " ++ decimal (position uid view)) (codes " EXPUNGE")
line_whole view (SetFlags uid flags) = ends (codes "* " ++ decimal (position uid view) ++ codes " FETCH (UID " ++ decimal uid ++ codes " FLAGS (" ++ spaced (flag_words flags)) (codes "))")

pub lines_whole : (view : List ℕ) (changes : List Change) → IsWhole (lines view changes)
lines_whole view [] = inl refl
lines_whole view (c ∷ cs) = whole_append (line view c) (lines (shown view c) cs) (line_whole view c) (lines_whole (shown view c) cs)

tagged_whole : (tag words : List ℕ) → IsWhole (tagged tag words)
tagged_whole tag words = inr (tag ++ codes " " ++ words, refl)

pub bye_whole : (words : List ℕ) → IsWhole (bye words)
bye_whole words = inr (codes "* BYE " ++ words, refl)

closed_whole : (now : Standing) (how : After) → IsWhole (closed now how).bytes
closed_whole now Go = inl refl
closed_whole now Bye = inl refl
closed_whole now afters.Idle = inl refl
closed_whole now (afters.Literal due) = inl refl
closed_whole now afters.Submit = inl refl

refusal_whole : (tag : List ℕ) (fault : MailFault) → IsWhole (refusal_text tag fault)
refusal_whole tag Stranger = bye_whole (response_text texts.InternalFault)
refusal_whole tag Lapped = bye_whole (response_text texts.ChangesMissed)
refusal_whole tag Spent = tagged_whole tag (response_text texts.MailboxSpent)
refusal_whole tag NoMemory = tagged_whole tag (response_text texts.OutOfMemory)

refused_whole : (tag : List ℕ) (now : Standing) (fault : MailFault) → IsWhole (refused tag now fault).bytes
refused_whole tag now fault = whole_append (refusal_text tag fault) (closed now (refusal_after fault)).bytes (refusal_whole tag fault) (closed_whole now (refusal_after fault))

-- ---- an exchange

-- whatever the store answers, each piece that it writes is whole lines
abbrev pub SaysWhole : Exchange → Type 0
SaysWhole (ex.Done words how) = Unit {0}
SaysWhole (ex.Wait bytes waits) = IsWhole bytes
SaysWhole (ex.Write bytes x) = IsWhole bytes × SaysWhole x
SaysWhole (ex.Put bytes x) = IsWhole bytes × SaysWhole x
SaysWhole (ex.Enter selected next) = (opening : Opening) → SaysWhole (next opening)
SaysWhole (ex.Look by_uid set next) = (view : List ℕ) → SaysWhole (next view)
SaysWhole (ex.Read uid mark next) = (row : Option Row) → SaysWhole (next row)
SaysWhole (ex.Count mailbox next) = (status : Status) → SaysWhole (next status)
SaysWhole (ex.Alter uid op next) = (flags : Option Flags) → SaysWhole (next flags)
SaysWhole (ex.Expunge uids x) = SaysWhole x
SaysWhole (ex.Feed limit x) = SaysWhole x
SaysWhole (ex.Leave remove x) = SaysWhole x
SaysWhole (ex.Discard mailbox uids x) = SaysWhole x

-- of a turn, if there is one
abbrev pub TurnWhole : Option Turn → Type 0
TurnWhole turn = IfSome turn (λ t. IsWhole t.bytes)

-- where it says whole lines, so does its turn
whole_steps : (tag : List ℕ) → Plays tag (λ now x turn. SaysWhole x → IsWhole turn.bytes)
whole_steps tag = record {
  done = λ now words how p. whole_append (tagged tag words) (closed now how).bytes (tagged_whole tag words) (closed_whole now how);
  waits = λ now bytes w p. whole_append bytes [] p (inl refl);
  drops = λ now bytes purpose size p. inl refl;
  parts = λ now bytes purpose size p. whole_append (bye (response_text texts.ByeOutOfMemory)) [] (bye_whole (response_text texts.ByeOutOfMemory)) (inl refl);
  starves = λ now x p. refused_whole tag now NoMemory;
  fails = λ now x call fault p. refused_whole tag now fault;
  writes = λ now bytes x s so p. whole_append bytes s.bytes p.0 (so p.1);
  puts = λ now bytes x s so p. whole_append bytes s.bytes p.0 (so p.1);
  enters = λ now selected next a s so p. so (p a);
  looks = λ now by_uid set next a s so p. so (p a);
  reads = λ now uid mark next a s so p. so (p a);
  counts = λ now mailbox next a s so p. so (p a);
  alters = λ now uid op next a s so p. so (p a);
  expunges = λ now uids x met changes gone s so p. whole_append (lines met changes) s.bytes (lines_whole met changes) (so p);
  feeds = λ now limit x met changes s so p. whole_append (lines met changes) s.bytes (lines_whole met changes) (so p);
  leaves = λ now remove x gone s so p. so p;
  discards = λ now mailbox uids x s so p. so p;
}

played_whole : (tag : List ℕ) (now : Standing) (x : Exchange) (answers : List Answer) → SaysWhole x → TurnWhole (played tag now x answers)
played_whole tag now x answers p = exchange_if tag SaysWhole (λ now turn. IsWhole turn.bytes) (whole_steps tag) now x answers p

-- ---- the commands

in_either : (b : Bool) (x y : Exchange) → SaysWhole x → SaysWhole y → SaysWhole (if b then x else y)
in_either true x y p q = p
in_either false x y p q = q

in_showing : (selected : Option Selected) (x : Exchange) → SaysWhole x → SaysWhole (showing selected x)
in_showing None x p = p
in_showing (Some selected) x p = p

in_found : {A : Type 0} (next : A → Exchange) (gone : Exchange) → ((a : A) → SaysWhole (next a)) → SaysWhole gone → (found : Option A) → SaysWhole (on_found next gone found)
in_found next gone p q None = q
in_found next gone p q (Some a) = p a

in_closing : (selected : Option Selected) (x : Exchange) → SaysWhole x → SaysWhole (closing selected x)
in_closing None x p = p
in_closing (Some selected) x p = (ends (codes "* ") (response_text texts.PreviousClosed), p)

in_chosen : (chosen : Option (List ℕ)) (next : List ℕ → Exchange) → ((uids : List ℕ) → SaysWhole (next uids)) → SaysWhole (on_chosen chosen next)
in_chosen None next p = tt
in_chosen (Some uids) next p = p uids

in_done : (command : Command) (by_uid gone : Bool) → SaysWhole (messages_done command by_uid gone)
in_done command true gone = tt
in_done command false true = tt
in_done command false false = tt

pub fetched_whole : (fetch : Fetch) (view : List ℕ) (uid : ℕ) (row : Row) → IsWhole (fetched fetch view uid row)
fetched_whole fetch view uid row = ends (codes "* " ++ decimal (position uid view) ++ codes " FETCH (" ++ spaced (map (item_text row) (answered fetch.by_uid row.newly_seen fetch.items))) (codes ")")

in_fetching : (fetch : Fetch) (mark : Bool) (view : List ℕ) (done : Bool → Exchange) → ((gone : Bool) → SaysWhole (done gone)) → (uids : List ℕ) (gone : Bool) → SaysWhole (fetching fetch mark view done uids gone)
in_fetching fetch mark view done p [] gone = p gone
in_fetching fetch mark view done p (uid ∷ uids) gone =
    elim [ None ↦ in_fetching fetch mark view done p uids true | Some row ↦ (fetched_whole fetch view uid row, in_fetching fetch mark view done p uids gone) ]

pub flags_whole : (by_uid : Bool) (k uid : ℕ) (flags : Flags) → IsWhole (flags_answer by_uid k uid flags)
flags_whole by_uid k uid flags =
    ends (codes "* " ++ decimal k ++ codes " FETCH (" ++ (if by_uid then codes "UID " ++ decimal uid ++ codes " " else []) ++ codes "FLAGS (" ++ spaced (flag_words flags)) (codes "))")

pub found_whole : (tag : List ℕ) (by_uid : Bool) (returns : Option SearchReturns) (found : List ℕ) → IsWhole (found_answer tag by_uid returns found)
found_whole tag by_uid None found = ends (codes "* SEARCH") (spaced_numbers found)
found_whole tag by_uid (Some returns) found = inr (extended_front tag by_uid ++ extended_items returns found, refl)

in_searching : (tag : List ℕ) (search : Search) (last : Named) (view : List ℕ) (uids found : List ℕ) → SaysWhole (searching search last view (search_done tag search) uids found)
in_searching tag search last view [] found = (found_whole tag search.by_uid search.returns found, in_done (commands.Search search) search.by_uid false)
in_searching tag search last view (uid ∷ uids) found =
    elim [ None ↦ in_searching tag search last view uids found | Some row ↦ in_searching tag search last view uids (found ++ found_in search last (named_at view uid) row) ]

in_silence : (silent : Bool) (text : List ℕ) (x : Exchange) → IsWhole text → SaysWhole x → SaysWhole (if silent then x else ex.Write text x)
in_silence true text x p q = q
in_silence false text x p q = (p, q)

in_storing : (store : Store) (view : List ℕ) (done : Bool → Exchange) → ((gone : Bool) → SaysWhole (done gone)) → (uids : List ℕ) (gone : Bool) → SaysWhole (storing store view done uids gone)
in_storing store view done p [] gone = p gone
in_storing store view done p (uid ∷ uids) gone =
    elim [ None ↦ in_storing store view done p uids true | Some flags ↦ in_silence store.silent _ _ (flags_whole store.by_uid (position uid view) uid flags) (in_storing store view done p uids gone) ]

pub opening_whole : (read_only : Bool) (name : List ℕ) (opening : Opening) → IsWhole (opening_text read_only name opening)
opening_whole read_only name opening = inr (
  codes "* FLAGS (" ++ all_flags ++ codes ")\r\n* " ++ decimal opening.count ++ codes " EXISTS\r\n" ++ codes "* OK [UIDVALIDITY " ++ decimal opening.uidvalidity ++ codes "] UIDs valid\r\n"
      ++ codes "* OK [UIDNEXT " ++ decimal opening.uidnext ++ codes "] Predicted next UID\r\n" ++ codes "* OK [PERMANENTFLAGS (" ++ (if read_only then [] else all_flags) ++ codes ")] Flags kept\r\n"
      ++ codes "* LIST () \"/\" " ++ name,
  refl,
)

in_recent : (profile : Profile) (x : Exchange) → SaysWhole x → SaysWhole (telling_recent profile x)
in_recent Standard x p = p
in_recent Compatible x p = (ends (codes "* ") (response_text texts.NoneRecent), p)

in_entering : (profile : Profile) (read_only : Bool) (folder : Folder) → SaysWhole (entering profile read_only folder)
in_entering profile read_only folder opening = (opening_whole read_only folder.name opening, in_recent profile _ tt)

listed_whole : (b : Bool) (listing : Listing) (name : List ℕ) → IsWhole (if b then name_answer listing name else [])
listed_whole true listing name = inr (list_front listing ++ name, refl)
listed_whole false listing name = inl refl

each_listed : (listing : Listing) (pattern : List ℕ) (names : List (List ℕ)) → IsWhole (flat_map (listed listing pattern) names)
each_listed listing pattern [] = inl refl
each_listed listing pattern (name ∷ names) =
    whole_append (listed listing pattern name) (flat_map (listed listing pattern) names) (listed_whole (is_listed pattern name) listing name) (each_listed listing pattern names)

if_whole : (b : Bool) (x y : List ℕ) → IsWhole x → IsWhole y → IsWhole (if b then x else y)
if_whole true x y p q = p
if_whole false x y p q = q

root_whole : (listing : Listing) → IsWhole (root_answer listing)
root_whole All = inr (codes "* LIST (\\Noselect) \"/\" \"\"", refl)
root_whole Subscribed = inr (codes "* LSUB (\\Noselect) \"/\" \"\"", refl)

pub list_whole : (listing : Listing) (reference pattern : List ℕ) (names : List (List ℕ)) → IsWhole (list_answer listing reference pattern names)
list_whole listing reference pattern names = if_whole (asks_for_root reference pattern) (root_answer listing) _ (root_whole listing) (each_listed listing (reference ++ pattern) names)

in_folder : (next : Folder → Exchange) → ((folder : Folder) → SaysWhole (next folder)) → (found : Option Folder) → SaysWhole (on_found next (says (response_text texts.NoSuchMailbox)) found)
in_folder next p found = in_found next _ p tt found

-- ---- APPEND

in_over : (most : Option ℕ) → SaysWhole (over most)
in_over None = tt
in_over (Some most) = tt

in_append : (most : Option ℕ) (folders : List Folder) (a : Append) → SaysWhole (appending most folders a)
in_append most folders a =
    in_either a.literal.waits _ _
    (inl refl, in_found _ nowhere (λ (mailbox : ℕ). in_either (is_over most a.literal.size) (over most) _ (in_over most) (ends (codes "+ ") (response_text texts.Ready))) tt (number_named a.name folders))
    (in_either (nat_lt most_unasked a.literal.size) _ _ (bye_whole (response_text texts.LiteralTooBig)) (inl refl))

in_text : (mailing : Mailing) (a : PendingLiteral) (text : List ℕ) (mailbox : ℕ) → SaysWhole (on_text mailing a text mailbox)
in_text mailing a text mailbox =
    in_either (is_over mailing.most a.size) (over mailing.most) _ (in_over mailing.most)
    (in_either (list_any (λ b. b == 0) text) (says (response_text texts.NulByte)) _ tt
    (in_either (nat_le last_number mailing.number) (says (response_text texts.MailboxSpent)) (wanting (ex.Wait [] (ForVerdict Client mailbox (commands_of.flags_for a.purpose) (record { bytes = text; date = commands_of.date_for a.purpose })))) tt (inl refl, inl refl)))

in_rest : (mailing : Mailing) (a : PendingLiteral) (empty : Bool) → SaysWhole (on_rest mailing a empty)
in_rest mailing a empty =
    in_found _ (says (response_text texts.OutOfMemory))
    (λ (text : List ℕ). in_either empty (on_found (on_text mailing a text) nowhere (commands_of.mailbox_for a.purpose)) (says (response_text texts.InvalidArguments)) (in_found (on_text mailing a text) nowhere (in_text mailing a text) tt (commands_of.mailbox_for a.purpose)) tt) tt a.text

in_copy : (tag : List ℕ) (now : Standing) (copy : CopyMessages) → SaysWhole (on_command tag now (commands.Copy copy))
in_copy tag now copy =
    copies_so SaysWhole
    (record { told = λ text. tt; wanted = λ x p. (inl refl, p); looked = λ by_uid set next p. p; found = λ uid mark next p. p }) tag now copy
    (λ batch mailbox row copied. inl refl)

in_notice : (said : Option (List ℕ)) (x : Exchange) → SaysWhole x → SaysWhole (noticing said x)
in_notice None x whole = whole
in_notice (Some words) x whole = (ends (codes "* ") words, whole)

command_whole : (tag : List ℕ) (now : Standing) (command : Command) → SaysWhole (on_command tag now command)
command_whole tag now commands.Noop = in_showing now.selected _ tt
command_whole tag now commands.Logout = (bye_whole (response_text texts.LoggingOut), tt)
command_whole tag now commands.Idle = ends (codes "+ ") (response_text texts.Idling)
command_whole tag now (commands.Login user password) = tt
command_whole tag now (commands.Authenticate a) = tt
command_whole tag now commands.StartTls = tt
command_whole tag now (commands.Select name) = in_closing now.selected _ (inl refl, in_folder (entering now.profile false) (in_entering now.profile false) (folder_of name now.folders))
command_whole tag now (commands.Examine name) = in_closing now.selected _ (inl refl, in_folder (entering now.profile true) (in_entering now.profile true) (folder_of name now.folders))
command_whole tag now (commands.List reference pattern) = (list_whole All reference pattern (map (λ (folder : Folder). folder.name) now.folders), in_showing now.selected _ tt)
command_whole tag now (commands.Lsub reference pattern) = (list_whole Subscribed reference pattern (map (λ (folder : Folder). folder.name) now.folders), in_showing now.selected _ tt)
command_whole tag now (commands.Subscribe name) = (inl refl, in_folder _ (λ folder. tt) (folder_of name now.folders))
command_whole tag now (commands.Unsubscribe name) = (inl refl, in_folder _ (λ folder. tt) (folder_of name now.folders))
command_whole tag now commands.Check = in_showing now.selected _ tt
command_whole tag now (commands.Status name items) = (
  inl refl,
  in_folder (counting now.selected name items)
      (λ folder status. (ends (codes "* STATUS " ++ folder.name ++ codes " (" ++ spaced (map (status_text status) items)) (codes ")"), in_showing now.selected _ tt)) (folder_of name now.folders),
)
command_whole tag now commands.Close = in_found _ wrong_state (λ s. tt) tt now.selected
command_whole tag now commands.Unselect = in_found _ wrong_state (λ s. tt) tt now.selected
command_whole tag now commands.Expunge = in_found _ wrong_state (λ (s : Selected). in_either s.read_only _ _ tt tt) tt now.selected
command_whole tag now (commands.UidExpunge set) = in_found _ wrong_state (λ (s : Selected). in_either s.read_only _ (expunge_set set) tt (λ view. in_chosen (named_in true set view) (λ uids. wanting_for uids (ex.Expunge (Some uids) (ex.Feed unlimited (completed (commands.UidExpunge set))))) (elim [ [] ↦ tt | uid ∷ uids ↦ (inl refl, tt) ]))) tt now.selected
command_whole tag now (commands.Fetch fetch) =
    in_found (fetch_messages fetch) wrong_state
    (λ (s : Selected). (inl refl, λ view. in_chosen (named_in fetch.by_uid fetch.set view) _ (λ uids. in_fetching fetch _ view (messages_done (commands.Fetch fetch) fetch.by_uid) (in_done (commands.Fetch fetch) fetch.by_uid) uids false))) tt now.selected
command_whole tag now (commands.Store store) =
    in_found _ wrong_state
    (λ (s : Selected). in_either s.read_only _ (store_messages store) tt
    (λ view. in_chosen (named_in store.by_uid store.set view) _ (λ uids. in_storing store view (messages_done (commands.Store store) store.by_uid) (in_done (commands.Store store) store.by_uid) uids false))) tt now.selected
command_whole tag now (commands.Search search) =
    in_found (search_known tag search) wrong_state
    (λ s. in_either search.known_charset (search_messages tag search) (says (response_text texts.BadCharset))
    (λ view. in_chosen (named_in true all_messages view) (λ uids. wanting (searching search (named_at view (last_uid uids)) view (search_done tag search) uids []))
    (λ uids. (inl refl, in_searching tag search (named_at view (last_uid uids)) view uids []))) tt) tt now.selected
command_whole tag now (commands.Append append) = in_append now.mailing.most now.folders append
command_whole tag now (commands.Copy copy) = in_copy tag now copy
command_whole tag now command = in_notice (notice now.profile command) (completed command) tt

-- ---- lines

fault_whole : (fault : ImapFault) (now : Standing) (answers : List Answer) → TurnWhole (commands_of.on_read now (Err fault) answers)
fault_whole faults.NoTag now [] = whole_append _ [] (ends (codes "* ") (response_text texts.MissingTag)) (inl refl)
fault_whole (faults.Unknown tag) now [] = whole_append _ [] (tagged_whole tag (response_text texts.UnknownCommand)) (inl refl)
fault_whole (faults.LeftOut tag) now [] = whole_append _ [] (tagged_whole tag (response_text texts.NotOffered)) (inl refl)
fault_whole (faults.Arguments tag verb) now [] = whole_append _ [] (tagged_whole tag (response_text (commands_of.arguments_text now.profile verb))) (inl refl)
fault_whole fault now (answer ∷ more) = tt

read_whole : (now : Standing) (line : Result (List ℕ × Command) ImapFault) (answers : List Answer) → TurnWhole (commands_of.on_read now line answers)
read_whole now (Ok line) answers =
    line_has TurnWhole now line.0 line.1 answers
    (λ right. played_whole line.0 (commands_of.logged_in now) (completed line.1) answers tt)
    (λ text refused. played_whole line.0 now (says (response_text text)) answers tt)
    (played_whole line.0 now (on_command line.0 now line.1) answers (command_whole line.0 now line.1))
read_whole now (Err fault) answers = fault_whole fault now answers

-- a line that isn't whole yet, and one that is given up
part_whole : (x : Exchange) → IsPart x → SaysWhole x
part_whole x (tells_part text h e) = subst SaysWhole (sym e) tt
part_whole x (ends_part text h e) = subst SaysWhole (sym e) (bye_whole (response_text text))
part_whole x (asks_part line size e) = subst SaysWhole (sym e) (inl refl, ends (codes "+ ") (response_text texts.Ready))
part_whole x (comes_part line size e) = subst SaysWhole (sym e) (inl refl)
part_whole x (challenge_part line e) = subst SaysWhole (sym e) (inl refl, ends (codes "+ ") [])

text_whole : (now : Standing) (line : List ℕ) (answers : List Answer) → TurnWhole (commands_of.on_text_line now line answers)
text_whole now line answers = text_line_has TurnWhole now line answers (λ tag x part. played_whole tag now x answers (part_whole x part)) (read_whole now (read line) answers)

while_whole : (idling : Option (List ℕ)) (now : Standing) (line : List ℕ) (answers : List Answer) → TurnWhole (commands_of.turn_while idling now line answers)
while_whole None now line answers = text_whole now line answers
while_whole (Some tag) now line answers =
    played_whole tag (record now { idling = None }) (on_idle_line now.selected line) answers (in_either (is_done line) _ _ (in_showing now.selected _ tt) tt)

behind_whole : (begun : Option PendingLiteral) (now : Standing) (line : List ℕ) (answers : List Answer) → TurnWhole (commands_of.turn_behind begun now line answers)
behind_whole None now line answers = while_whole now.idling now line answers
behind_whole (Some a) now line answers =
    rest_has TurnWhole a now line answers
    (played_whole a.tag (commands_of.without_begun now) (on_rest now.mailing a (length line == 0)) answers (in_rest now.mailing a (length line == 0)))
    (λ x part. played_whole a.tag (commands_of.without_begun now) x answers (part_whole x part))
    (λ whole. text_whole (commands_of.without_begun now) whole answers)

some_whole : (o : Option Turn) (turn : Turn) → TurnWhole o → o ≡ Some turn → IsWhole turn.bytes
some_whole o turn p e = subst TurnWhole e p

long_whole : (begun : Option PendingLiteral) (idling : Option (List ℕ)) → IsWhole (commands_of.long_text begun idling)
long_whole None None = ends (codes "* ") (response_text texts.LineTooLong)
long_whole None (Some tag) = tagged_whole tag (response_text texts.ExpectedDone)
long_whole (Some a) idling = tagged_whole a.tag (response_text (commands_of.long_rest_text a.text))

line_answered : {S : Type 0} (step : S → Call → Answer → S → Type 0) (now : Standing) (l : List ℕ) (old new : S) (said : List ℕ) (how : After) (next : Standing) → AnswersLine step now l old new [] said how next → IsWhole said
line_answered step now l old new said how next (reads few a) = subst IsWhole (sym a.wrote) (some_whole _ _ (behind_whole now.mailing.begun now l a.answers) a.played)
line_answered step now l old new said how next (too_long many s w h n) = subst IsWhole (sym w) (long_whole now.mailing.begun now.idling)

one_answered : {S : Type 0} (step : S → Call → Answer → S → Type 0) (now : Standing) (one : Sends) (old new : S) (said : List ℕ) (how : After) (next : Standing) → AnswersOne step now one old new [] said how next → IsWhole said
one_answered step now (dialogue.Line line) old new said how next a = line_answered step now line old new said how next a.2
one_answered step now (dialogue.Bytes bytes) old new said how next t = inl t.silent

pub converses_whole : {S : Type 0} (step : S → Call → Answer → S → Type 0) {now next : Standing} {sent : List Sends} {old new : S} {said : List ℕ} {how : After} → Converses step now sent old new said how next → IsWhole said
converses_whole step (silent now old) = inl refl
converses_whole step (parts now next one old new said how stops a) = one_answered step now one old new said how next a
converses_whole step (goes_on now between next one others old mid new first second how follows a more) = whole_append first second (one_answered step now one old mid first _ between a) (converses_whole step more)

-- ---- verdicts

in_back : TakesBack SaysWhole
in_back = record { told = λ text. tt; removed = λ mailbox uids x p. p }

in_moving : (selected : Option Selected) (uidvalidity : ℕ) (batch : Batch) → SaysWhole (commands_of.moving selected uidvalidity batch)
in_moving selected uidvalidity batch = (
  ends (codes "* ") (commands_of.moved_words uidvalidity batch),
  in_found (λ (s : Selected). ex.Discard s.mailbox batch.uids (ex.Feed unlimited (commands_of.move_done batch))) (commands_of.move_done batch) (λ s. tt) tt selected,
)

in_copied : (selected : Option Selected) (batch : Batch) (uidvalidity : ℕ) → SaysWhole (commands_of.told_copied selected batch uidvalidity)
in_copied selected batch uidvalidity = in_either batch.moves _ _ (in_moving selected uidvalidity batch) (in_showing selected _ tt)

in_stored : (mailing : Mailing) (selected : Option Selected) (origin : Origin) (mailbox uid : ℕ) → SaysWhole (commands_of.on_stored mailing selected origin mailbox uid)
in_stored mailing selected Client mailbox uid = λ status. in_showing selected _ tt
in_stored mailing selected (Copied batch) mailbox uid =
    stored_so SaysWhole in_back mailing selected batch mailbox uid (λ row left is. inl refl) (λ none status. in_copied selected (commands_of.with_copy uid batch) status.uidvalidity)

in_verdict : (mailing : Mailing) (selected : Option Selected) (origin : Origin) (mailbox : ℕ) (verdict : Verdict)
    → SaysWhole (commands_of.on_verdict mailing selected origin mailbox verdict)
in_verdict mailing selected origin mailbox (verdicts.Stored uid) = in_stored mailing selected origin mailbox uid
in_verdict mailing selected origin mailbox (verdicts.Refused why) = back_so SaysWhole in_back mailbox (commands_of.copies_of origin) (commands_of.refused_text why)

verdict_whole : (sent : Option ex.Sent) (now : Standing) (verdict : Verdict) (answers : List Answer) → TurnWhole (commands_of.turn_with sent now verdict answers)
verdict_whole None now verdict answers = tt
verdict_whole (Some sent) now verdict answers = played_whole sent.tag (commands_of.without_sent now) (commands_of.on_verdict now.mailing now.selected sent.origin sent.append.mailbox verdict) answers (in_verdict now.mailing now.selected sent.origin sent.append.mailbox verdict)

pub verdict_answered : {S : Type 0} (step : S → Call → Answer → S → Type 0) (now : Standing) (verdict : Verdict) (old new : S) (said : List ℕ) (how : After) (next : Standing) → AnswersVerdict step now verdict old new [] said how next → IsWhole said
verdict_answered step now verdict old new said how next a = subst IsWhole (sym a.wrote) (some_whole _ _ (verdict_whole now.mailing.sent now verdict a.answers) a.played)

-- ---- what a session at its seat says

pub goes_whole : {S : Type 0} (step : S → Call → Answer → S → Type 0) (whole : Bool) (seat : ℕ) (heard : List Noted) (v : SeatedVisitor) (old new : S) (after : SeatedVisitor) (said : List ℕ) → GoesOn step whole seat heard v old new after said → IsWhole said
goes_whole step whole seat heard v old new after said (seated.works n w) = converses_whole step w.answers.converses
goes_whole step whole seat heard v old new after said (seated.answers verdict mid first second how next still known a w e) =
    subst IsWhole (sym e) (whole_append first second (verdict_answered step v.session.standing verdict old mid first how next a) (converses_whole step w.answers.converses))
goes_whole step whole seat heard v old new after said (seated.waits a n e f) = inl f
goes_whole step whole seat heard v old new after said (seated.rests a n e f) = inl f
goes_whole step whole seat heard v old new after said (seated.stalls a n e f) = inl f

-- ---- turns while it idles

idle_whole : (selected : Option Selected) (idling : Bool) (now : Standing) (answers : List Answer) → TurnWhole (idle_turn_in selected idling now answers)
idle_whole selected idling now answers =
    idle_so (λ t. IsWhole t.bytes) now (λ met changes. whole_append (lines met changes) [] (lines_whole met changes) (inl refl)) (refused_whole [] now Lapped) (refused_whole [] now Stranger) (inl refl) selected idling answers

pub idles_whole : {S : Type 0} (step : S → Call → Answer → S → Type 0) (now : Standing) (old new : S) (said : List ℕ) (count : ℕ) (next : Standing) → IdleTurns step now old new [] said count next → IsWhole said
idles_whole step now old new said count next t = subst IsWhole (sym t.wrote) (some_whole _ _ (idle_whole now.selected (is_idling now) now t.answers) t.played)

pub greeting_whole : (profile : Profile) → IsWhole (greeting profile)
greeting_whole profile = ends (codes "* ") (server_text (server.Greeting profile))
