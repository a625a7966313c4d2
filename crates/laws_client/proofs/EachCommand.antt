-- What each command comes to, walked over once: what is so of each step that it may take is so of its exchange. And the same of what is said behind a
-- literal, to the line that ends an IDLE, and where all copies of a batch stand.
use Rattle.std.proofs.Common.{◌≡◌, ℕ, Bool, true, false, List, [], ◌∷◌, ◌++◌, map, refl, sym, ap, ◌∙◌, Option, Some, None}
use Rattle.std.specs.Prelude.{IfSome, is_some, nat_le, nat_lt, ◌==◌, ◌&&◌, not, if◌then◌else◌}
use Rattle.std.specs.List.{list_any}
use Rattle.std.proofs.lemmas.Bool.{false≢true}
use Rattle.change_ring.specs.View.{position}
use Rattle.change_ring.specs.declared.change.Flags.{Flags}
use Rattle.change_ring.specs.declared.flag_op.FlagOp.{FlagOp}
use Rattle.mailbox.specs.declared.clients.Row.{Row}
use Rattle.imap_grammar.specs.Items.{marks_seen}
use Rattle.imap_grammar.specs.Keys.{all_messages}
use Rattle.imap_grammar.specs.Reading.{is_done}
use Rattle.imap_grammar.specs.Sets.{last_uid, named_at, named_in}
use Rattle.imap_grammar.specs.Verbs.{verb_of}
use Rattle.imap_grammar.specs.declared.command.Append.{Append}
use Rattle.imap_grammar.specs.declared.command.Command.{Command}
use Rattle.imap_grammar.specs.declared.command.Command.TheVariants as commands
use Rattle.imap_grammar.specs.declared.command.CopyMessages.{CopyMessages}
use Rattle.imap_grammar.specs.declared.command.Fetch.{Fetch}
use Rattle.imap_grammar.specs.declared.command.Search.{Search}
use Rattle.imap_grammar.specs.declared.command.Store.{Store}
use Rattle.imap_grammar.specs.declared.command.Verb.TheVariants as verbs
use Rattle.imap_grammar.specs.declared.items.StatusItem.{StatusItem}
use Rattle.imap_grammar.specs.declared.set.SeqRange.{SeqRange}
use Rattle.imap_grammar.specs.declared.view.Named.{Named}
use Rattle.imap_answers.specs.Answers.{flags_answer, found_answer, list_answer, status_answer}
use Rattle.imap_answers.specs.declared.list.Listing.{Listing}
use Rattle.imap_answers.specs.declared.list.Listing.TheVariants.{All, Subscribed}
use Rattle.imap_session.specs.declared.standing.After.TheVariants.{Bye}
use Rattle.imap_session.specs.declared.standing.Profile.{Profile}
use Rattle.imap_session.specs.declared.standing.Profile.TheVariants.{Standard, Compatible}
use Rattle.imap_session.specs.declared.standing.Selected.{Selected}
use Rattle.imap_session.specs.declared.texts.ResponseText.{ResponseText}
use Rattle.imap_session.specs.declared.texts.ResponseText.TheVariants as texts
use Rattle.imap_session.specs.declared.texts.ServerText.{ServerText}
use Rattle.imap_session.specs.declared.texts.ServerText.TheVariants as server
use Rattle.imap_session.specs.Texts.{response_text, server_text}
use Rattle.imap_session.specs.Exchange.{Alter, Batch, Client, Copied, Count, Discard, Done, Exchange, Expunge, Feed, Folder, ForNothing, ForVerdict, Leave, Look, Mailing, PendingLiteral, Put, Read, Standing, Wait, Write, bye, untagged}
use Rattle.imap_session.specs.Commands.{appending, asking, begins_idling, closing, coming, completed, copied_words, counting, date_for, entered_text, entering, expunge_set, fetch_messages, fetched, fetching, flags_for, folder_of, found_in, if_writable, in_selected, in_writable, is_over, last_number, mailbox_for, messages_done, most_unasked, move_done, moved_words, moving, nowhere, number_named, on_chosen, on_command, on_folder, on_found, on_idle_line, on_rest, on_set, on_text, over, says, search_done, search_known, search_messages, searching, selecting, showing, store_messages, storing, subscribing, telling_recent, told_copied, unlimited, untagged_in_room, wanting, wanting_for, wrong_state}
use Rattle.laws_client.specs.Commands.{stays}
use Rattle.laws_client.specs.Current.{shows_all}
use Rattle.laws_client.proofs.Chosen.{AreIn, named_are_in}
use Rattle.laws_client.proofs.Each.{IsIn}
use Rattle.exactly_once.proofs.Copying.{IsCopied, copies_so}

-- ---- the steps

-- the text tells that a command is done
abbrev pub tells_done : ResponseText → Bool
tells_done (texts.Completed verb) = true
tells_done texts.SelectCompleted = true
tells_done texts.ExamineCompleted = true
tells_done _ = false

-- A command that shows all that is pending, where a mailbox is selected, doesn't tell so that it is done unless all was shown right before.
abbrev pub MayTell : Standing → Command → ResponseText → Type 0
MayTell now command text = shows_all command ≡ true → is_some now.selected ≡ true → tells_done text ≡ false

-- It is so of each step that this command may take, if it is so of what comes then. It may depend on the view that the session counts: where a set is
-- looked up, that is the view which the store answers.
pub record Steps (tag : List ℕ) (now : Standing) (command : Command) (P : List ℕ → Exchange → Type 0) : Type 0 where
  -- a last line
  pub told : (view : List ℕ) (text : ResponseText) → MayTell now command text → P view (says (response_text text))
  pub wanted : (view : List ℕ) (x : Exchange) → P view x → P view (wanting x)
  -- what is pending is shown, right before the last line; messages are removed before that
  pub shown : (view : List ℕ) → P view (Feed unlimited (completed command))
  pub removed : (view : List ℕ) (uids : Option (List ℕ)) → P view (Expunge uids (Feed unlimited (completed command)))
  -- it says this of the server
  pub noticed : (view : List ℕ) (text : ServerText) (x : Exchange) → P view x → P view (untagged_in_room (server_text text) x)
  pub listed : (view : List ℕ) (listing : Listing) (reference pattern : List ℕ) (x : Exchange) → P view x
      → P view (Write (list_answer listing reference pattern (map (λ (folder : Folder). folder.name) now.folders)) x)
  pub counted : (view name : List ℕ) (items : List StatusItem) (folder : Folder) (x : Exchange) → folder_of name now.folders ≡ Some folder → P view x
      → P view (Count folder.mailbox (λ status. Write (status_answer folder.name items status) x))
  pub looked : (view : List ℕ) (by_uid : Bool) (set : List SeqRange) (next : List ℕ → Exchange) → ((met : List ℕ) → P met (next met))
      → P view (Look by_uid set next)
  -- a message is read, and told by FETCH; its flags are changed, and told by STORE or not
  pub reads : (view : List ℕ) (uid : ℕ) (mark : Bool) (next : Option Row → Exchange) → ((row : Option Row) → P view (next row)) → P view (Read uid mark next)
  pub fetches : (fetch : Fetch) → command ≡ commands.Fetch fetch → (view : List ℕ) (mark : Bool) (uid : ℕ) (there gone : Exchange) → IsIn uid view
      → P view there → P view gone → P view (Read uid mark (on_found (λ row. Write (fetched fetch view uid row) there) gone))
  pub alters : (view : List ℕ) (uid : ℕ) (op : FlagOp) (there gone : Exchange) → P view there → P view gone
      → P view (Alter uid op (on_found (λ (flags : Flags). there) gone))
  pub stores : (by_uid : Bool) (view : List ℕ) (uid : ℕ) (op : FlagOp) (there gone : Exchange) → IsIn uid view → P view there → P view gone
      → P view (Alter uid op (on_found (λ flags. Write (flags_answer by_uid (position uid view) uid flags) there) gone))
  pub finds : (search : Search) (view found : List ℕ) (x : Exchange) → P view x → P view (Write (found_answer tag search.by_uid search.returns found) x)
  -- a mailbox is entered or left
  pub enters : (view : List ℕ) (read_only : Bool) (name : List ℕ) → stays command ≡ false → shows_all command ≡ false → P view (selecting now.profile now.folders now.selected read_only name)
  pub leaves : (view : List ℕ) (remove : Bool) → stays command ≡ false → shows_all command ≡ false → P view (Leave remove (completed command))
  pub idles : (view : List ℕ) → command ≡ commands.Idle → P view begins_idling
  pub parts : (view : List ℕ) → command ≡ commands.Logout → P view (Put (bye (response_text texts.LoggingOut)) (Done (response_text (texts.Completed verbs.Logout)) Bye))
  -- a message is appended or copied
  pub appends : (view : List ℕ) (append : Append) → command ≡ commands.Append append → P view (appending now.mailing.most now.folders append)
  pub submits : (view : List ℕ) (copy : CopyMessages) → command ≡ commands.Copy copy → (batch : Batch) (mailbox : ℕ) (row : Row) → IsCopied now copy batch mailbox row
      → P view (Wait [] (ForVerdict (Copied batch) mailbox row.flags row.text))

pub either_so : (P : Exchange → Type 0) (b : Bool) (x y : Exchange) → P x → P y → P (if b then x else y)
either_so P true x y p q = p
either_so P false x y p q = q

found_so : {A : Type 0} (P : Exchange → Type 0) (next : A → Exchange) (gone : Exchange) (found : Option A) → ((a : A) → found ≡ Some a → P (next a)) → P gone
    → P (on_found next gone found)
found_so P next gone None p q = q
found_so P next gone (Some a) p q = p a refl

module _ (tag : List ℕ) (now : Standing) (command : Command) (P : List ℕ → Exchange → Type 0) (steps : Steps tag now command P) where
  refused_so : (view : List ℕ) (text : ResponseText) → tells_done text ≡ false → P view (says (response_text text))
  refused_so view text none = steps.told view text (λ shows there. none)

  -- it is done, and shows nothing that is pending
  quiet_so : (view : List ℕ) → shows_all command ≡ false → P view (completed command)
  quiet_so view quiet = steps.told view (texts.Completed (verb_of command)) (λ shows there. absurd (false≢true (sym quiet ∙ shows)))

  showing_so : (view : List ℕ) (selected : Option Selected) → now.selected ≡ selected → P view (showing selected (completed command))
  showing_so view None none = steps.told view (texts.Completed (verb_of command)) (λ shows there. absurd (false≢true (ap is_some (sym none) ∙ there)))
  showing_so view (Some selected) is = steps.shown view

  folder_so : (view name : List ℕ) (next : Folder → Exchange) → ((folder : Folder) → folder_of name now.folders ≡ Some folder → P view (next folder))
      → P view (on_folder name now.folders next)
  folder_so view name next p = found_so (P view) next (says (response_text texts.NoSuchMailbox)) (folder_of name now.folders) p (refused_so view texts.NoSuchMailbox refl)

  selected_so : (view : List ℕ) (next : Selected → Exchange) → ((selected : Selected) → P view (next selected)) → P view (in_selected now next)
  selected_so view next p = found_so (P view) next wrong_state now.selected (λ selected is. p selected) (refused_so view texts.WrongState refl)

  writable_so : (view : List ℕ) (x : Exchange) → P view x → P view (in_writable now x)
  writable_so view x p =
      selected_so view (if_writable x) (λ selected. either_so (P view) selected.read_only (says (response_text texts.ReadOnly)) x (refused_so view texts.ReadOnly refl) p)

  subscribing_so : (view name : List ℕ) → shows_all command ≡ false → P view (wanting (subscribing now.folders name command))
  subscribing_so view name quiet = steps.wanted view (subscribing now.folders name command) (folder_so view name (λ folder. completed command) (λ folder is. quiet_so view quiet))

  listing_so : (view : List ℕ) (listing : Listing) (reference pattern : List ℕ)
      → P view (Write (list_answer listing reference pattern (map (λ (folder : Folder). folder.name) now.folders)) (showing now.selected (completed command)))
  listing_so view listing reference pattern = steps.listed view listing reference pattern (showing now.selected (completed command)) (showing_so view now.selected refl)

  noticing_so : (view : List ℕ) (text : ServerText) → shows_all command ≡ false → P view (untagged_in_room (server_text text) (completed command))
  noticing_so view text quiet = steps.noticed view text (completed command) (quiet_so view quiet)

  set_so : (view : List ℕ) (by_uid : Bool) (set : List SeqRange) (next : List ℕ → List ℕ → Exchange) → ((met uids : List ℕ) → AreIn uids met → P met (next met uids))
      → P view (on_set by_uid set next)
  set_so view by_uid set next p =
      steps.looked view by_uid set (λ met. on_chosen (named_in by_uid set met) (next met)) (λ met. by met (named_in by_uid set met) (named_are_in by_uid set met))
    where
      by : (met : List ℕ) (chosen : Option (List ℕ)) → IfSome chosen (λ uids. AreIn uids met) → P met (on_chosen chosen (next met))
      by met None there = refused_so met texts.SequenceTooHigh refl
      by met (Some uids) there = p met uids there

  -- behind the last message
  ends_so : (view : List ℕ) (by_uid gone : Bool) → shows_all command ≡ by_uid → P view (messages_done command by_uid gone)
  ends_so view true gone is = steps.shown view
  ends_so view false true is = refused_so view texts.MessagesGone refl
  ends_so view false false is = quiet_so view is

  fetching_so : (fetch : Fetch) → command ≡ commands.Fetch fetch → (mark : Bool) (view : List ℕ) (done : Bool → Exchange) → ((gone : Bool) → P view (done gone))
      → (uids : List ℕ) (gone : Bool) → AreIn uids view → P view (fetching fetch mark view done uids gone)
  fetching_so fetch is mark view done p [] gone there = p gone
  fetching_so fetch is mark view done p (uid ∷ uids) gone there =
      steps.fetches fetch is view mark uid (fetching fetch mark view done uids gone) (fetching fetch mark view done uids true) there.0
      (fetching_so fetch is mark view done p uids gone there.1) (fetching_so fetch is mark view done p uids true there.1)

  altering_so : (by_uid silent : Bool) (view : List ℕ) (uid : ℕ) (op : FlagOp) (there gone : Exchange) → IsIn uid view → P view there → P view gone
      → P view (Alter uid op (on_found (λ flags. if silent then there else Write (flags_answer by_uid (position uid view) uid flags) there) gone))
  altering_so by_uid true view uid op there gone is p q = steps.alters view uid op there gone p q
  altering_so by_uid false view uid op there gone is p q = steps.stores by_uid view uid op there gone is p q

  storing_so : (store : Store) (view : List ℕ) (done : Bool → Exchange) → ((gone : Bool) → P view (done gone))
      → (uids : List ℕ) (gone : Bool) → AreIn uids view → P view (storing store view done uids gone)
  storing_so store view done p [] gone there = p gone
  storing_so store view done p (uid ∷ uids) gone there =
      altering_so store.by_uid store.silent view uid store.change (storing store view done uids gone) (storing store view done uids true) there.0
      (storing_so store view done p uids gone there.1) (storing_so store view done p uids true there.1)

  searching_so : (search : Search) (last : Named) (view : List ℕ) → P view (messages_done (commands.Search search) search.by_uid false)
      → (uids found : List ℕ) → P view (searching search last view (search_done tag search) uids found)
  searching_so search last view p [] found = steps.finds search view found (messages_done (commands.Search search) search.by_uid false) p
  searching_so search last view p (uid ∷ uids) found =
      steps.reads view uid false
      (on_found (λ row. searching search last view (search_done tag search) uids (found ++ found_in search last (named_at view uid) row)) (searching search last view (search_done tag search) uids found))
      (λ row. found_so (P view) (λ row. searching search last view (search_done tag search) uids (found ++ found_in search last (named_at view uid) row))
      (searching search last view (search_done tag search) uids found) row
      (λ r is. searching_so search last view p uids (found ++ found_in search last (named_at view uid) r)) (searching_so search last view p uids found))

  removing_so : (view uids : List ℕ) → P view (wanting_for uids (Expunge (Some uids) (Feed unlimited (completed command))))
  removing_so view [] = steps.removed view (Some [])
  removing_so view (uid ∷ uids) = steps.wanted view (Expunge (Some (uid ∷ uids)) (Feed unlimited (completed command))) (steps.removed view (Some (uid ∷ uids)))

-- ---- the commands

pub command_so : (tag : List ℕ) (now : Standing) (command : Command) (P : List ℕ → Exchange → Type 0) → Steps tag now command P → (view : List ℕ) → P view (on_command tag now command)
command_so tag now commands.Noop P steps view = showing_so tag now commands.Noop P steps view now.selected refl
command_so tag now commands.Logout P steps view = steps.parts view refl
command_so tag now commands.Idle P steps view = steps.idles view refl
command_so tag now (commands.Login user password) P steps view = refused_so tag now (commands.Login user password) P steps view texts.WrongState refl
command_so tag now (commands.Authenticate a) P steps view = refused_so tag now (commands.Authenticate a) P steps view texts.WrongState refl
command_so tag now commands.StartTls P steps view = refused_so tag now commands.StartTls P steps view texts.WrongState refl
command_so tag now (commands.Select name) P steps view = steps.enters view false name refl refl
command_so tag now (commands.Examine name) P steps view = steps.enters view true name refl refl
command_so tag now (commands.List reference pattern) P steps view = listing_so tag now (commands.List reference pattern) P steps view All reference pattern
command_so tag now (commands.Lsub reference pattern) P steps view = listing_so tag now (commands.Lsub reference pattern) P steps view Subscribed reference pattern
command_so tag now (commands.Subscribe name) P steps view = subscribing_so tag now (commands.Subscribe name) P steps view name refl
command_so tag now (commands.Unsubscribe name) P steps view = subscribing_so tag now (commands.Unsubscribe name) P steps view name refl
command_so tag now commands.Check P steps view = showing_so tag now commands.Check P steps view now.selected refl
command_so tag now (commands.Status name items) P steps view =
    let command : Command = commands.Status name items in
    steps.wanted view (on_folder name now.folders (counting now.selected name items))
    (folder_so tag now command P steps view name (counting now.selected name items)
    (λ folder is. steps.counted view name items folder (showing now.selected (completed command)) is (showing_so tag now command P steps view now.selected refl)))
command_so tag now commands.Close P steps view =
    selected_so tag now commands.Close P steps view (λ selected. Leave (not selected.read_only) (completed commands.Close)) (λ selected. steps.leaves view (not selected.read_only) refl refl)
command_so tag now commands.Unselect P steps view =
    selected_so tag now commands.Unselect P steps view (λ selected. Leave false (completed commands.Unselect)) (λ selected. steps.leaves view false refl refl)
command_so tag now commands.Expunge P steps view =
    writable_so tag now commands.Expunge P steps view (Expunge None (Feed unlimited (completed commands.Expunge))) (steps.removed view None)
command_so tag now (commands.UidExpunge set) P steps view =
    let command : Command = commands.UidExpunge set in
    writable_so tag now command P steps view (expunge_set set)
    (set_so tag now command P steps view true set (λ met uids. wanting_for uids (Expunge (Some uids) (Feed unlimited (completed command)))) (λ met uids there. removing_so tag now command P steps met uids))
command_so tag now (commands.Fetch fetch) P steps view =
    let command : Command = commands.Fetch fetch in
    selected_so tag now command P steps view (fetch_messages fetch)
    (λ selected.
    let mark : Bool = list_any marks_seen fetch.items && not selected.read_only in
    let next : List ℕ → List ℕ → Exchange = λ met uids. fetching fetch mark met (messages_done command fetch.by_uid) uids false in
    steps.wanted view (on_set fetch.by_uid fetch.set next)
    (set_so tag now command P steps view fetch.by_uid fetch.set next
    (λ met uids there. fetching_so tag now command P steps fetch refl mark met (messages_done command fetch.by_uid) (λ gone. ends_so tag now command P steps met fetch.by_uid gone refl) uids false there)))
command_so tag now (commands.Search search) P steps view =
    let command : Command = commands.Search search in
    selected_so tag now command P steps view (search_known tag search)
    (λ selected. either_so (P view) search.known_charset (search_messages tag search) (says (response_text texts.BadCharset))
    (set_so tag now command P steps view true all_messages (λ met uids. wanting (searching search (named_at met (last_uid uids)) met (search_done tag search) uids []))
    (λ met uids there. steps.wanted met (searching search (named_at met (last_uid uids)) met (search_done tag search) uids [])
    (searching_so tag now command P steps search (named_at met (last_uid uids)) met (ends_so tag now command P steps met search.by_uid false refl) uids [])))
    (refused_so tag now command P steps view texts.BadCharset refl))
command_so tag now (commands.Store store) P steps view =
    let command : Command = commands.Store store in
    writable_so tag now command P steps view (store_messages store)
    (set_so tag now command P steps view store.by_uid store.set (λ met uids. storing store met (messages_done command store.by_uid) uids false)
    (λ met uids there. storing_so tag now command P steps store met (messages_done command store.by_uid) (λ gone. ends_so tag now command P steps met store.by_uid gone refl) uids false there))
command_so tag now (commands.Append append) P steps view = steps.appends view append refl
command_so tag now (commands.Copy copy) P steps view =
    copies_so (λ x. (view : List ℕ) → P view x) (record {
      told = λ text view. steps.told view text (λ shows there. absurd (false≢true shows));
      wanted = λ x p view. steps.wanted view x (p view);
      looked = λ by_uid set next p view. steps.looked view by_uid set next (λ met. p met met);
      found = λ uid mark next p view. steps.reads view uid mark next (λ row. p row view);
    }) tag now copy (λ batch mailbox row copied view. steps.submits view copy refl batch mailbox row copied) view
command_so tag now commands.Capability P steps view = noticing_so tag now commands.Capability P steps view (server.Capabilities now.profile) refl
command_so tag now commands.Namespace P steps view = noticing_so tag now commands.Namespace P steps view server.Namespaces refl
command_so tag now commands.Id P steps view = noticing_so tag now commands.Id P steps view server.Identity refl
command_so tag now commands.Enable P steps view = noticing_so tag now commands.Enable P steps view server.NoneEnabled refl

-- ---- messages that are appended

-- of last lines, and where memory is wanted
pub record Tells (P : Exchange → Type 0) : Type 0 where
  pub told : (text : ResponseText) → P (says (response_text text))
  pub wanted : (x : Exchange) → P x → P (wanting x)

over_so : (P : Exchange → Type 0) → Tells P → (most : Option ℕ) → P (over most)
over_so P tells None = tells.told texts.NotOffered
over_so P tells (Some most) = tells.told texts.MessageTooBig

-- its literal is asked for or comes, or the session ends
pub append_so : (P : Exchange → Type 0) → Tells P → (most : Option ℕ) (folders : List Folder) (append : Append)
    → ((mailbox : ℕ) → number_named append.name folders ≡ Some mailbox → P (asking mailbox append.flags append.date append.literal.size))
    → P (coming (number_named append.name folders) append.flags append.date append.literal.size) → P (Wait (bye (response_text texts.LiteralTooBig)) ForNothing)
    → P (appending most folders append)
append_so P tells most folders append asks comes ends =
    let size : ℕ = append.literal.size in
    let found : Option ℕ = number_named append.name folders in
    let next : ℕ → Exchange = λ mailbox. if is_over most size then over most else asking mailbox append.flags append.date size in
    either_so P append.literal.waits _ _
    (tells.wanted (on_found next nowhere found)
    (found_so P next nowhere found (λ mailbox is. either_so P (is_over most size) (over most) _ (over_so P tells most) (asks mailbox is)) (tells.told texts.TryCreate)))
    (either_so P (nat_lt most_unasked size) (Wait (bye (response_text texts.LiteralTooBig)) ForNothing) _ ends comes)

-- behind its literal a message is submitted
pub rest_so : (P : Exchange → Type 0) → Tells P → (mailing : Mailing) (a : PendingLiteral) (empty : Bool)
    → ((text : List ℕ) (mailbox : ℕ) → a.text ≡ Some text → mailbox_for a.purpose ≡ Some mailbox → empty ≡ true → is_over mailing.most a.size ≡ false
    → P (Wait [] (ForVerdict Client mailbox (flags_for a.purpose) (record { bytes = text; date = date_for a.purpose }))))
    → P (on_rest mailing a empty)
rest_so P tells mailing a empty submits =
    found_so P (λ text. if empty then on_found (on_text mailing a text) nowhere (mailbox_for a.purpose) else says (response_text texts.InvalidArguments))
    (says (response_text texts.OutOfMemory)) a.text (λ text is. ended text is empty refl) (tells.told texts.OutOfMemory)
  where
    fits : (text : List ℕ) (mailbox : ℕ) → a.text ≡ Some text → mailbox_for a.purpose ≡ Some mailbox → empty ≡ true → (big : Bool) → is_over mailing.most a.size ≡ big
        → P (if big then over mailing.most else if list_any (λ b. b == 0) text then says (response_text texts.NulByte) else if nat_le last_number mailing.number then says (response_text texts.MailboxSpent)
        else wanting (Wait [] (ForVerdict Client mailbox (flags_for a.purpose) (record { bytes = text; date = date_for a.purpose }))))
    fits text mailbox is named whole true big = over_so P tells mailing.most
    fits text mailbox is named whole false big =
        either_so P (list_any (λ b. b == 0) text) _ _ (tells.told texts.NulByte)
        (either_so P (nat_le last_number mailing.number) _ _ (tells.told texts.MailboxSpent) (tells.wanted _ (submits text mailbox is named whole big)))

    ended : (text : List ℕ) → a.text ≡ Some text → (b : Bool) → empty ≡ b
        → P (if b then on_found (on_text mailing a text) nowhere (mailbox_for a.purpose) else says (response_text texts.InvalidArguments))
    ended text is true whole =
        found_so P (on_text mailing a text) nowhere (mailbox_for a.purpose) (λ mailbox named. fits text mailbox is named whole (is_over mailing.most a.size) refl) (tells.told texts.TryCreate)
    ended text is false whole = tells.told texts.InvalidArguments

-- ---- SELECT and EXAMINE

-- The mailbox that was selected is left, and that is told; then a mailbox is entered.
pub select_so : (P : Exchange → Type 0) → Tells P → (now : Standing) (read_only : Bool) (name : List ℕ) → ((x : Exchange) → P x → P (Leave false (untagged_in_room (response_text texts.PreviousClosed) x)))
    → ((x : Exchange) → P x → P (untagged_in_room (response_text texts.NoneRecent) x))
    → ((folder : Folder) → folder_of name now.folders ≡ Some folder → P (telling_recent now.profile (says (response_text (entered_text read_only)))) → P (entering now.profile read_only folder))
    → P (selecting now.profile now.folders now.selected read_only name)
select_so P tells now read_only name closed recent enters = left now.selected
  where
    told_recent : (profile : Profile) → P (telling_recent profile (says (response_text (entered_text read_only))))
    told_recent Standard = tells.told (entered_text read_only)
    told_recent Compatible = recent _ (tells.told (entered_text read_only))

    entered : P (wanting (on_folder name now.folders (entering now.profile read_only)))
    entered = tells.wanted (on_folder name now.folders (entering now.profile read_only))
        (found_so P (entering now.profile read_only) (says (response_text texts.NoSuchMailbox)) (folder_of name now.folders) (λ folder is. enters folder is (told_recent now.profile)) (tells.told texts.NoSuchMailbox))

    left : (selected : Option Selected) → P (closing selected (wanting (on_folder name now.folders (entering now.profile read_only))))
    left None = entered
    left (Some selected) = closed _ entered

-- ---- the line that ends an IDLE, and copies that all stand

pub shows_so : (P : Exchange → Type 0) (selected : Option Selected) (x : Exchange) → P x → P (Feed unlimited x) → P (showing selected x)
shows_so P None x p q = p
shows_so P (Some selected) x p q = q

pub idle_line_so : (P : Exchange → Type 0) (selected : Option Selected) (line : List ℕ) → P (says (response_text texts.ExpectedDone)) → P (completed commands.Idle)
    → P (Feed unlimited (completed commands.Idle)) → P (on_idle_line selected line)
idle_line_so P selected line other done fed =
    either_so P (is_done line) (showing selected (completed commands.Idle)) (says (response_text texts.ExpectedDone)) (shows_so P selected (completed commands.Idle) done fed) other

pub copied_so : (P : Exchange → Type 0) (selected : Option Selected) (batch : Batch) (uidvalidity : ℕ) → P (says (copied_words uidvalidity batch)) → P (Feed unlimited (says (copied_words uidvalidity batch)))
    → ((x : Exchange) → P x → P (Put (untagged (moved_words uidvalidity batch)) x)) → P (move_done batch) → ((s : Selected) → P (Discard s.mailbox batch.uids (Feed unlimited (move_done batch))))
    → P (told_copied selected batch uidvalidity)
copied_so P selected batch uidvalidity copied fed moved done removed =
    either_so P batch.moves (moving selected uidvalidity batch) (showing selected (says (copied_words uidvalidity batch)))
    (moved _ (found_so P (λ (s : Selected). Discard s.mailbox batch.uids (Feed unlimited (move_done batch))) (move_done batch) selected (λ s is. removed s) done))
    (shows_so P selected (says (copied_words uidvalidity batch)) copied fed)
