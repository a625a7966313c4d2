-- Each command shows changes only where they belong.
use Rattle.std.proofs.Common.{◌≡◌, inl, inr, ℕ, is_some, ◌++◌, append_assoc, Bool, true, false, codes, List, [], ◌∷◌, Option, Some, None, refl, if◌then◌else◌}
use Rattle.std.specs.Prelude.{◌&&◌, length, nat_le}
use Rattle.change_ring.specs.declared.change.Flags.{Flags}
use Rattle.mailbox.specs.declared.clients.Row.{Row}
use Rattle.change_ring.specs.View.{position}
use Rattle.change_ring.specs.Words.{flag_words, spaced}
use Rattle.std.specs.Prelude.{decimal, map}
use Rattle.imap_answers.specs.Answers.{answered, fetch_answer, item_text, status_text, flags_answer}
use Rattle.imap_grammar.specs.Reading.{is_done}
use Rattle.imap_grammar.specs.Keys.{all_messages}
use Rattle.imap_grammar.specs.Sets.{last_uid, named_at, named_in}
use Rattle.imap_grammar.specs.declared.command.Command.{Command}
use Rattle.imap_grammar.specs.declared.command.Command.TheVariants as commands
use Rattle.imap_grammar.specs.declared.command.Fetch.{Fetch}
use Rattle.imap_grammar.specs.declared.command.Store.{Store}
use Rattle.imap_grammar.specs.declared.command.Search.{Search}
use Rattle.imap_grammar.specs.declared.view.Named.{Named}
use Rattle.imap_session.specs.declared.standing.Selected.{Selected}
use Rattle.imap_session.specs.declared.standing.Profile.{Profile}
use Rattle.imap_session.specs.declared.standing.Profile.TheVariants.{Standard, Compatible}
use Rattle.imap_session.specs.declared.texts.ResponseText.{ResponseText}
use Rattle.imap_session.proofs.Barring.{answering_has, refuses}
use Rattle.std.specs.Prelude.{nat_lt}
use Rattle.imap_grammar.specs.declared.command.Append.{Append}
use Rattle.imap_session.specs.Exchange.{Batch, Copied, Exchange, Expunge, Feed, Folder, ForNothing, Standing, Wait, Write, bye, untagged, ForVerdict}
use Rattle.imap_session.specs.Commands.{answering, telling_recent, asking, coming, most_unasked, nowhere, is_over, number_named, over, wanting, wanting_for, on_command, on_idle_line, counting, folder_of, showing, completed, closing, entering, on_folder, on_chosen, messages_done, on_found, fetching, storing, fetched, if_writable, expunge_set, found_in, search_done, search_known, search_messages, searching, store_messages, fetch_messages, unlimited, wrong_state, says, notice, noticing, copy_of, copy_to, copy_messages, empty_batch, gathering, most_copied, most_in_batch, last_number, submitting_first, taking_back, with_message}
use Rattle.imap_session.proofs.Appends.{asked_at, sent_at}
use Rattle.imap_session.specs.Shows.{DoneShowsInOrder, IsFetchLine, IsNoOk, IsNotice, MaySay, ShowsBefore, ShowsInOrder, may_show}
use Rattle.imap_session.specs.declared.texts.ResponseText.TheVariants as texts
use Rattle.imap_session.specs.Texts.{response_text}
use Rattle.imap_grammar.specs.declared.command.CopyMessages.{CopyMessages}

no_must : (b : Bool) (o : Option Selected) → o ≡ None → (b && is_some o) ≡ true → ⊥
no_must true None n e = cc
no_must false None n e = cc
no_must b (Some s) n e = cc

may_not : (b c : Bool) → b ≡ false → (b && c) ≡ true → ⊥
may_not true c n e = cc
may_not false c n e = cc

in_either : (tag : List ℕ) (now : Standing) (command : Command) (b : Bool) (x y : Exchange) → ShowsInOrder tag now command x → ShowsInOrder tag now command y → ShowsInOrder tag now command (if b then x else y)
in_either tag now command true x y p q = p
in_either tag now command false x y p q = q

in_showing : (tag : List ℕ) (now : Standing) (command : Command) → may_show command ≡ true → (selected : Option Selected) → now.selected ≡ selected → ShowsInOrder tag now command (showing selected (completed command))
in_showing tag now command m None is = λ must. absurd (no_must (may_show command) now.selected is must)
in_showing tag now command m (Some selected) is = (m, refl, refl)

in_folder : (tag : List ℕ) (now : Standing) (command : Command) (next : Folder → Exchange) → ((folder : Folder) → ShowsInOrder tag now command (next folder)) → (found : Option Folder)
    → ShowsInOrder tag now command (on_found next (says (response_text texts.NoSuchMailbox)) found)
in_folder tag now command next p None = λ must. refl
in_folder tag now command next p (Some folder) = p folder

in_closing : (tag : List ℕ) (now : Standing) (command : Command) (selected : Option Selected) (x : Exchange) → MaySay tag now command (untagged (response_text texts.PreviousClosed))
    → ShowsInOrder tag now command x → ShowsInOrder tag now command (closing selected x)
in_closing tag now command None x s p = p
in_closing tag now command (Some selected) x s p = (s, p)

in_recent : (tag : List ℕ) (now : Standing) (command : Command) (profile : Profile) (x : Exchange) → MaySay tag now command (untagged (response_text texts.NoneRecent)) → ShowsInOrder tag now command x
    → ShowsInOrder tag now command (telling_recent profile x)
in_recent tag now command Standard x s p = p
in_recent tag now command Compatible x s p = (s, p)

in_chosen : (tag : List ℕ) (now : Standing) (command : Command) (chosen : Option (List ℕ)) (next : List ℕ → Exchange) → ((uids : List ℕ) → ShowsInOrder tag now command (next uids))
    → ShowsInOrder tag now command (on_chosen chosen next)
in_chosen tag now command None next p = λ must. refl
in_chosen tag now command (Some uids) next p = p uids

in_done : (tag : List ℕ) (now : Standing) (command : Command) (by_uid gone : Bool) → may_show command ≡ by_uid → ShowsInOrder tag now command (messages_done command by_uid gone)
in_done tag now command true gone m = (m, refl, refl)
in_done tag now command false true m = λ must. refl
in_done tag now command false false m = λ must. absurd (may_not (may_show command) (is_some now.selected) m must)

in_fetching : (tag : List ℕ) (now : Standing) (command : Command) (fetch : Fetch) (mark : Bool) (view : List ℕ) (done : Bool → Exchange) → ((gone : Bool) → ShowsInOrder tag now command (done gone))
    → ((uid : ℕ) (row : Row) → MaySay tag now command (fetched fetch view uid row))
    → (uids : List ℕ) (gone : Bool) → ShowsInOrder tag now command (fetching fetch mark view done uids gone)
in_fetching tag now command fetch mark view done p s [] gone = p gone
in_fetching tag now command fetch mark view done p s (uid ∷ uids) gone =
    elim [ None ↦ in_fetching tag now command fetch mark view done p s uids true | Some row ↦ (s uid row, in_fetching tag now command fetch mark view done p s uids gone) ]

in_searching : (tag : List ℕ) (now : Standing) (command : Command) (search : Search) (last : Named) (view : List ℕ) (done : List ℕ → Exchange) → ((found : List ℕ) → ShowsInOrder tag now command (done found))
    → (uids found : List ℕ) → ShowsInOrder tag now command (searching search last view done uids found)
in_searching tag now command search last view done p [] found = p found
in_searching tag now command search last view done p (uid ∷ uids) found =
    elim [ None ↦ in_searching tag now command search last view done p uids found | Some row ↦ in_searching tag now command search last view done p uids (found ++ found_in search last (named_at view uid) row) ]

in_silence : (tag : List ℕ) (now : Standing) (command : Command) (silent : Bool) (text : List ℕ) (x : Exchange) → MaySay tag now command text → ShowsInOrder tag now command x
    → ShowsInOrder tag now command (if silent then x else Write text x)
in_silence tag now command true text x s p = p
in_silence tag now command false text x s p = (s, p)

in_storing : (tag : List ℕ) (now : Standing) (command : Command) (store : Store) (view : List ℕ) (done : Bool → Exchange) → ((gone : Bool) → ShowsInOrder tag now command (done gone))
    → ((uid : ℕ) (flags : Flags) → MaySay tag now command (flags_answer store.by_uid (position uid view) uid flags))
    → (uids : List ℕ) (gone : Bool) → ShowsInOrder tag now command (storing store view done uids gone)
in_storing tag now command store view done p s [] gone = p gone
in_storing tag now command store view done p s (uid ∷ uids) gone =
    elim [ None ↦ in_storing tag now command store view done p s uids true | Some flags ↦ in_silence tag now command store.silent _ _ (s uid flags) (in_storing tag now command store view done p s uids gone) ]

joined : (x a b c d : List ℕ) → x ++ a ++ b ++ c ++ d ≡ x ++ (a ++ (b ++ (c ++ d)))
joined x a b c d = simp append_assoc refl

fetch_form : (k : ℕ) (texts : List (List ℕ)) → IsFetchLine (fetch_answer k texts)
fetch_form k texts = (k, spaced texts ++ codes ")\r\n", append_assoc (codes "* " ++ decimal k ++ codes " FETCH (") (spaced texts) (codes ")\r\n"))

flags_form : (by_uid : Bool) (k uid : ℕ) (flags : Flags) → IsFetchLine (flags_answer by_uid k uid flags)
flags_form by_uid k uid flags =
    (k, _, joined (codes "* " ++ decimal k ++ codes " FETCH (") (if by_uid then codes "UID " ++ decimal uid ++ codes " " else []) (codes "FLAGS (") (spaced (flag_words flags)) (codes "))\r\n"))

in_found : (tag : List ℕ) (now : Standing) (command : Command) (selected : Option Selected) (next : Selected → Exchange) → ((s : Selected) → ShowsInOrder tag now command (next s))
    → ShowsInOrder tag now command (on_found next wrong_state selected)
in_found tag now command None next p = λ must. refl
in_found tag now command (Some s) next p = p s

in_writable : (tag : List ℕ) (now : Standing) (command : Command) (selected : Option Selected) (x : Exchange) → ShowsInOrder tag now command x
    → ShowsInOrder tag now command (on_found (if_writable x) wrong_state selected)
in_writable tag now command selected x p = in_found tag now command selected (if_writable x) (λ s. in_either tag now command s.read_only (says (response_text texts.ReadOnly)) x (λ must. refl) p)

may_not_be : (c : Bool) → (false && c) ≡ false
may_not_be c = refl

in_named : (tag : List ℕ) (now : Standing) (command : Command) (next : ℕ → Exchange) → ((m : ℕ) → ShowsInOrder tag now command (next m)) → (found : Option ℕ) → ShowsInOrder tag now command (on_found next nowhere found)
in_named tag now command next p None = λ must. refl
in_named tag now command next p (Some m) = p m

in_over : (tag : List ℕ) (now : Standing) (command : Command) (most : Option ℕ) → ShowsInOrder tag now command (over most)
in_over tag now command None = λ must. refl
in_over tag now command (Some most) = λ must. refl

in_append : (tag : List ℕ) (now : Standing) (most : Option ℕ) (a : Append) (found : Option ℕ) → ShowsInOrder tag now (commands.Append a) (if a.literal.waits then wanting (asked_at most a found) else sent_at most a found)
in_append tag now most a found =
    in_either tag now (commands.Append a) a.literal.waits (wanting (asked_at most a found)) (sent_at most a found) (
      inl refl,
      in_named tag now (commands.Append a) (λ m. if is_over most a.literal.size then over most else asking m a.flags a.date a.literal.size)
          (λ m. in_either tag now (commands.Append a) (is_over most a.literal.size) (over most) (asking m a.flags a.date a.literal.size) (in_over tag now (commands.Append a) most) (inr (inl refl), refl)) found,
    )
    (in_either tag now (commands.Append a) (nat_lt most_unasked a.literal.size) (Wait (bye (response_text texts.LiteralTooBig)) ForNothing) (coming found a.flags a.date a.literal.size)
    (inr (inr refl), refl) (inl refl, refl))

back_shown : (tag : List ℕ) (now : Standing) (copy : CopyMessages) (mailbox : ℕ) (copies : List ℕ) → ShowsInOrder tag now (commands.Copy copy) (taking_back mailbox copies (says (response_text texts.MailboxSpent)))
back_shown tag now copy mailbox [] = λ must. refl
back_shown tag now copy mailbox (uid ∷ uids) = λ must. refl

in_submitting : (tag : List ℕ) (now : Standing) (copy : CopyMessages) (batch : Batch) (mailbox : ℕ) (left : List Row)
    → ShowsInOrder tag now (commands.Copy copy) (submitting_first now.mailing batch mailbox (completed (commands.Copy copy)) left)
in_submitting tag now copy batch mailbox [] = λ must. absurd (may_not false (is_some now.selected) refl must)
in_submitting tag now copy batch mailbox (row ∷ left) =
    in_either tag now (commands.Copy copy) (nat_le last_number now.mailing.number) (taking_back mailbox batch.copies (says (response_text texts.MailboxSpent))) (Wait [] (ForVerdict (Copied (record batch { left = left })) mailbox row.flags row.text))
    (back_shown tag now copy mailbox batch.copies) (refl, may_not_be (is_some now.selected))

in_gathering : (tag : List ℕ) (now : Standing) (copy : CopyMessages) (mailbox : ℕ) (uids : List ℕ) (batch : Batch) → ShowsInOrder tag now (commands.Copy copy) (gathering now.mailing copy mailbox uids batch)
in_gathering tag now copy mailbox [] batch = in_submitting tag now copy batch mailbox batch.left
in_gathering tag now copy mailbox (uid ∷ uids) batch = elim [
  | None ↦ in_either tag now (commands.Copy copy) copy.by_uid (gathering now.mailing copy mailbox uids batch) (says (response_text texts.MessagesGone)) (in_gathering tag now copy mailbox uids batch) (λ must. refl)
  | Some row ↦ in_either tag now (commands.Copy copy) (is_over (most_copied now.mailing.most) (length row.text.bytes)) (over (most_copied now.mailing.most)) (gathering now.mailing copy mailbox uids (with_message uid row batch))
      (in_over tag now (commands.Copy copy) (most_copied now.mailing.most)) (in_gathering tag now copy mailbox uids (with_message uid row batch))
]

in_copy : (tag : List ℕ) (now : Standing) (copy : CopyMessages) (mailbox : ℕ) (uids : List ℕ) → ShowsInOrder tag now (commands.Copy copy) (copy_of now.mailing copy mailbox uids)
in_copy tag now copy mailbox uids =
    in_either tag now (commands.Copy copy) (nat_lt most_in_batch (length uids)) (says (response_text texts.TooManyMessages)) (wanting (gathering now.mailing copy mailbox uids (empty_batch copy)))
    (λ must. refl) (refl, in_gathering tag now copy mailbox uids (empty_batch copy))

notice_shown : (tag : List ℕ) (now : Standing) (command : Command) (said : Option (List ℕ)) → ((bytes : List ℕ) → IsNotice said bytes → MaySay tag now command bytes) → may_show command ≡ false
    → ShowsInOrder tag now command (noticing said (completed command))
notice_shown tag now command None says quiet = λ must. absurd (may_not (may_show command) (is_some now.selected) quiet must)
notice_shown tag now command (Some words) says quiet = (says _ refl, λ must. absurd (may_not (may_show command) (is_some now.selected) quiet must))

pub shown_in_order : (tag : List ℕ) (now : Standing) (command : Command) → ShowsInOrder tag now command (on_command tag now command)
shown_in_order tag now commands.Noop = in_showing tag now commands.Noop refl now.selected refl
shown_in_order tag now commands.Check = in_showing tag now commands.Check refl now.selected refl
shown_in_order tag now commands.Logout = (refl, λ must. absurd (may_not false (is_some now.selected) refl must))
shown_in_order tag now commands.Idle = (refl, may_not_be (is_some now.selected))
shown_in_order tag now (commands.Login user password) = λ must. refl
shown_in_order tag now (commands.Authenticate a) = λ must. refl
shown_in_order tag now commands.StartTls = λ must. refl
shown_in_order tag now (commands.Select name) =
    in_closing tag now (commands.Select name) now.selected (wanting (on_folder name now.folders (entering now.profile false))) (inr (inl refl)) (
      inl refl,
      in_folder tag now (commands.Select name) (entering now.profile false)
          (λ folder opening. (inr (inr (inl (folder.name, opening, refl))), in_recent tag now (commands.Select name) now.profile _ (inr (inr (inr refl))) (λ must. absurd (may_not false (is_some now.selected) refl must)))) (folder_of name now.folders),
    )
shown_in_order tag now (commands.Examine name) =
    in_closing tag now (commands.Examine name) now.selected (wanting (on_folder name now.folders (entering now.profile true))) (inr (inl refl)) (
      inl refl,
      in_folder tag now (commands.Examine name) (entering now.profile true)
          (λ folder opening. (inr (inr (inl (folder.name, opening, refl))), in_recent tag now (commands.Examine name) now.profile _ (inr (inr (inr refl))) (λ must. absurd (may_not false (is_some now.selected) refl must)))) (folder_of name now.folders),
    )
shown_in_order tag now (commands.List reference pattern) = (refl, in_showing tag now (commands.List reference pattern) refl now.selected refl)
shown_in_order tag now (commands.Lsub reference pattern) = (refl, in_showing tag now (commands.Lsub reference pattern) refl now.selected refl)
shown_in_order tag now (commands.Subscribe name) =
    (refl, in_folder tag now (commands.Subscribe name) (λ folder. completed (commands.Subscribe name)) (λ folder must. absurd (may_not false (is_some now.selected) refl must)) (folder_of name now.folders))
shown_in_order tag now (commands.Unsubscribe name) =
    (refl, in_folder tag now (commands.Unsubscribe name) (λ folder. completed (commands.Unsubscribe name)) (λ folder must. absurd (may_not false (is_some now.selected) refl must)) (folder_of name now.folders))
shown_in_order tag now (commands.Status name items) = (
  inl refl,
  in_folder tag now (commands.Status name items) (counting now.selected name items)
      (λ folder status. (inr (_, joined (codes "* STATUS ") folder.name (codes " (") (spaced (map (status_text status) items)) (codes ")\r\n")), in_showing tag now (commands.Status name items) refl now.selected refl)) (folder_of name now.folders),
)
shown_in_order tag now commands.Close = in_found tag now commands.Close now.selected _ (λ s must. absurd (may_not false (is_some now.selected) refl must))
shown_in_order tag now commands.Unselect = in_found tag now commands.Unselect now.selected _ (λ s must. absurd (may_not false (is_some now.selected) refl must))
shown_in_order tag now commands.Expunge = in_writable tag now commands.Expunge now.selected (Expunge None (Feed unlimited (completed commands.Expunge))) (refl, (refl, refl, refl))
shown_in_order tag now (commands.UidExpunge set) =
    in_writable tag now (commands.UidExpunge set) now.selected (expunge_set set)
    (λ view. in_chosen tag now (commands.UidExpunge set) (named_in true set view)
    (λ uids. wanting_for uids (Expunge (Some uids) (Feed unlimited (completed (commands.UidExpunge set))))) (elim [ [] ↦ (refl, (refl, refl, refl)) | uid ∷ uids ↦ (refl, (refl, (refl, refl, refl))) ]))
shown_in_order tag now (commands.Fetch fetch) =
    in_found tag now (commands.Fetch fetch) now.selected (fetch_messages fetch)
    (λ s. (
      inl refl,
      λ view. in_chosen tag now (commands.Fetch fetch) (named_in fetch.by_uid fetch.set view) _
          (λ uids. in_fetching tag now (commands.Fetch fetch) fetch _ view _ (λ gone. in_done tag now (commands.Fetch fetch) fetch.by_uid gone refl) (λ uid row. inr (fetch_form (position uid view) (map (item_text row) (answered fetch.by_uid row.newly_seen fetch.items)))) uids false),
    ))
shown_in_order tag now (commands.Store store) =
    in_writable tag now (commands.Store store) now.selected (store_messages store)
    (λ view. in_chosen tag now (commands.Store store) (named_in store.by_uid store.set view) _
    (λ uids. in_storing tag now (commands.Store store) store view _ (λ gone. in_done tag now (commands.Store store) store.by_uid gone refl)
    (λ uid flags. flags_form store.by_uid (position uid view) uid flags) uids false))
shown_in_order tag now (commands.Search search) =
    in_found tag now (commands.Search search) now.selected (search_known tag search)
    (λ s. in_either tag now (commands.Search search) search.known_charset (search_messages tag search) (says (response_text texts.BadCharset))
    (λ view. in_chosen tag now (commands.Search search) (named_in true all_messages view) (λ uids. wanting (searching search (named_at view (last_uid uids)) view (search_done tag search) uids [])) (λ uids. (
      inl refl,
      in_searching tag now (commands.Search search) search (named_at view (last_uid uids)) view (search_done tag search)
          (λ found. (inr (found, refl), in_done tag now (commands.Search search) search.by_uid false refl)) uids [],
    )))
    (λ must. refl))
shown_in_order tag now (commands.Copy copy) =
    in_found tag now (commands.Copy copy) now.selected (copy_messages now copy)
    (λ s. in_either tag now (commands.Copy copy) (copy.moves && s.read_only) (says (response_text texts.ReadOnly)) (wanting (on_found (copy_to now.mailing copy) nowhere (number_named copy.name now.folders)))
    (λ must. refl) (
      refl,
      in_named tag now (commands.Copy copy) (copy_to now.mailing copy)
          (λ m view. in_chosen tag now (commands.Copy copy) (named_in copy.by_uid copy.set view) (copy_of now.mailing copy m) (in_copy tag now copy m)) (number_named copy.name now.folders),
    ))
shown_in_order tag now (commands.Append append) = in_append tag now now.mailing.most append (number_named append.name now.folders)
shown_in_order tag now command = notice_shown tag now command (notice now.profile command) (λ bytes is. is) refl

refused_no_ok : (text : ResponseText) → refuses text ≡ true → IsNoOk (response_text text)
refused_no_ok texts.WrongState h = refl
refused_no_ok texts.UnknownCommand h = refl
refused_no_ok texts.NotOffered h = refl
refused_no_ok texts.InvalidArguments h = refl
refused_no_ok texts.LoginFailed h = refl
refused_no_ok _ h = cc

pub answered_in_order : (tag : List ℕ) (now : Standing) (command : Command) → ShowsInOrder tag now command (answering tag now command)
answered_in_order tag now command = answering_has (ShowsInOrder tag now command) tag now command (λ text is must. refused_no_ok text is) (shown_in_order tag now command)

in_idle_line : (b : Bool) (selected : Option Selected)
    → ShowsBefore (completed commands.Idle) (λ bytes. ⊥) b (b && is_some selected) false (if b then showing selected (completed commands.Idle) else says (response_text texts.ExpectedDone))
in_idle_line true None = λ must. absurd (no_must true None refl must)
in_idle_line true (Some s) = (refl, refl, refl)
in_idle_line false selected = λ must. refl

pub done_in_order : (selected : Option Selected) (line : List ℕ) → DoneShowsInOrder selected line (on_idle_line selected line)
done_in_order selected line = in_idle_line (is_done line) selected
