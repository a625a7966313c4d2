-- Where a session may show what others did to the mailbox (RFC 9051, 5.2 and 7.5.1).
use Rattle.std.specs.Prelude.{◌≡◌, ◌⊎◌, ◌&&◌, ℕ, Bool, true, false, codes, decimal, is_some, take, map, List, [], ◌++◌, Option, Some, None}
use Rattle.std.specs.Str.{bytes_eq}
use Rattle.change_ring.specs.declared.change.Flags.{Flags}
use Rattle.mailbox.specs.declared.clients.Opening.{Opening}
use Rattle.mailbox.specs.declared.clients.Row.{Row}
use Rattle.mailbox.specs.declared.mailbox.Status.{Status}
use Rattle.imap_grammar.specs.declared.command.Command.{Command}
use Rattle.imap_grammar.specs.declared.command.Command.TheVariants as commands
use Rattle.imap_grammar.specs.Reading.{is_done}
use Rattle.delivery_token.specs.declared.Verdict.{Verdict}
use Rattle.delivery_token.specs.declared.Verdict.TheVariants.{Stored, Refused}
use Rattle.imap_answers.specs.Answers.{list_answer, opening_text, found_answer}
use Rattle.imap_answers.specs.declared.list.Listing.TheVariants.{All, Subscribed}
use Rattle.imap_session.specs.declared.standing.After.TheVariants.{Submit}
use Rattle.imap_session.specs.declared.standing.Selected.{Selected}
use Rattle.imap_session.specs.Exchange.{Batch, Origin, Client, Copied, Exchange, Folder, Standing, Done, Wait, Write, Put, Enter, Look, Read, Count, Alter, Expunge, Feed, Leave, Discard, after_waiting, bye, untagged, continuing}
use Rattle.imap_session.specs.Commands.{appended_words, completed, copied_words, move_done, moved_words, notice, says as last_line, unlimited, with_copy}
use Rattle.imap_session.specs.declared.texts.ResponseText.TheVariants as texts
use Rattle.imap_session.specs.Texts.{response_text}

-- the command may show changes right before its tagged OK
abbrev pub may_show : Command → Bool
may_show commands.Noop = true
may_show commands.Check = true
may_show commands.Expunge = true
may_show (commands.List reference pattern) = true
may_show (commands.Lsub reference pattern) = true
may_show (commands.Status name items) = true
may_show (commands.UidExpunge set) = true
may_show (commands.Fetch fetch) = fetch.by_uid
may_show (commands.Store store) = store.by_uid
may_show (commands.Search search) = search.by_uid
may_show _ = false

-- the command shows changes before it removes messages, too
abbrev pub may_remove : Command → Bool
may_remove commands.Expunge = true
may_remove (commands.UidExpunge set) = true
may_remove _ = false

-- ---- what may be said beside them

-- a line of this kind, about the message at this position
abbrev pub IsFetchLine : List ℕ → Type 0
IsFetchLine bytes = (k : ℕ) × (rest : List ℕ) × (bytes ≡ codes "* " ++ decimal k ++ codes " FETCH (" ++ rest)

-- a name, and what is told of the mailbox that was left, or of the one that was entered, with its recent messages
abbrev pub IsOfSelect : Bool → List ℕ → Type 0
IsOfSelect read_only bytes =
    (bytes ≡ []) ⊎ (bytes ≡ untagged (response_text texts.PreviousClosed))
    ⊎ ((name : List ℕ) × (opening : Opening) × (bytes ≡ opening_text read_only name opening)) ⊎ (bytes ≡ untagged (response_text texts.NoneRecent))

-- a line about the server, of a command that has one
abbrev pub IsNotice : Option (List ℕ) → List ℕ → Type 0
IsNotice None bytes = ⊥
IsNotice (Some words) bytes = bytes ≡ untagged words

-- The kinds of lines that a command says beside its last one and beside the changes that it shows. None of them shows a change: those that
-- tell of messages are FETCH lines under FETCH and STORE, and the EXISTS line of a mailbox that is entered. A command that isn't here says what it
-- has to say of the server, or nothing.
abbrev pub MaySay : (tag : List ℕ) → Standing → Command → List ℕ → Type 0
MaySay tag now commands.Logout bytes = bytes ≡ bye (response_text texts.LoggingOut)
MaySay tag now (commands.Select name) bytes = IsOfSelect false bytes
MaySay tag now (commands.Examine name) bytes = IsOfSelect true bytes
MaySay tag now (commands.List reference pattern) bytes = bytes
    ≡ list_answer All reference pattern (map (λ (folder : Folder). folder.name) now.folders)
MaySay tag now (commands.Lsub reference pattern) bytes = bytes
    ≡ list_answer Subscribed reference pattern (map (λ (folder : Folder). folder.name) now.folders)
MaySay tag now (commands.Subscribe name) bytes = bytes ≡ []
MaySay tag now (commands.Unsubscribe name) bytes = bytes ≡ []
MaySay tag now (commands.Status name items) bytes = (bytes ≡ []) ⊎ ((rest : List ℕ) × (bytes ≡ codes "* STATUS " ++ rest))
MaySay tag now (commands.Fetch fetch) bytes = (bytes ≡ []) ⊎ IsFetchLine bytes
MaySay tag now (commands.Store store) bytes = IsFetchLine bytes
MaySay tag now (commands.Search search) bytes = (bytes ≡ []) ⊎ ((found : List ℕ) × (bytes ≡ found_answer tag search.by_uid search.returns found))
MaySay tag now (commands.UidExpunge set) bytes = bytes ≡ []
MaySay tag now (commands.Copy copy) bytes = bytes ≡ []
MaySay tag now commands.Idle bytes = bytes ≡ continuing (response_text texts.Idling)
MaySay tag now (commands.Append append) bytes = (bytes ≡ []) ⊎ (bytes ≡ continuing (response_text texts.Ready))
    ⊎ (bytes ≡ bye (response_text texts.LiteralTooBig))
MaySay tag now command bytes = IsNotice (notice now.profile command) bytes

-- ---- where

-- the last line isn't a tagged OK
abbrev pub IsNoOk : List ℕ → Type 0
IsNoOk words = bytes_eq (take 2 words) (codes "OK") ≡ false

-- Whatever the store answers, changes are shown right before this tagged OK, all that are pending, where they may be; or, where that may be, as
-- messages are removed. They are shown nowhere else: beside them only such lines are said. And where they `must` be shown there is no tagged OK
-- without them.
abbrev pub ShowsBefore : (ok : Exchange) (says : List ℕ → Type 0) (shows must removes : Bool) → Exchange → Type 0
ShowsBefore ok says shows must removes (Done words how) = must ≡ true → IsNoOk words
ShowsBefore ok says shows must removes (Wait bytes waits) = says bytes × (must ≡ false)
ShowsBefore ok says shows must removes (Write bytes x) = says bytes × ShowsBefore ok says shows must removes x
ShowsBefore ok says shows must removes (Put bytes x) = says bytes × ShowsBefore ok says shows must removes x
ShowsBefore ok says shows must removes (Enter selected next) = (opening : Opening) → ShowsBefore ok says shows must removes (next opening)
ShowsBefore ok says shows must removes (Look by_uid set next) = (view : List ℕ) → ShowsBefore ok says shows must removes (next view)
ShowsBefore ok says shows must removes (Read uid mark next) = (row : Option Row) → ShowsBefore ok says shows must removes (next row)
ShowsBefore ok says shows must removes (Count mailbox next) = (status : Status) → ShowsBefore ok says shows must removes (next status)
ShowsBefore ok says shows must removes (Alter uid op next) = (flags : Option Flags) → ShowsBefore ok says shows must removes (next flags)
ShowsBefore ok says shows must removes (Expunge uids x) = (removes ≡ true) × ShowsBefore ok says shows must removes x
ShowsBefore ok says shows must removes (Feed limit x) = (shows ≡ true) × (limit ≡ unlimited) × (x ≡ ok)
ShowsBefore ok says shows must removes (Leave remove x) = ShowsBefore ok says shows must removes x
ShowsBefore ok says shows must removes (Discard mailbox uids x) = ShowsBefore ok says shows must removes x

-- A command shows changes before it ends, where a mailbox is selected, and there alone. IDLE itself shows none, nor does the line of an APPEND
abbrev pub ShowsInOrder : (tag : List ℕ) → Standing → Command → Exchange → Type 0
ShowsInOrder tag now command = ShowsBefore (completed command) (MaySay tag now command) (may_show command) (may_show command && is_some now.selected)
    (may_remove command)

-- the line that ends an IDLE shows changes where it is DONE and a mailbox is selected, right before the tagged OK. Any other line shows none
abbrev pub DoneShowsInOrder : Option Selected → List ℕ → Exchange → Type 0
DoneShowsInOrder selected line = ShowsBefore (completed commands.Idle) (λ bytes. ⊥) (is_done line) (is_done line && is_some selected) false

-- The rest of a line behind a literal asks nothing of the store, and says no tagged OK: the message is refused, or it is submitted and nothing is
-- said.
abbrev pub RestShowsNone : Exchange → Type 0
RestShowsNone (Done words how) = IsNoOk words
RestShowsNone (Wait bytes waits) = (bytes ≡ []) × (after_waiting waits ≡ Submit)
RestShowsNone (Write bytes x) = (bytes ≡ []) × RestShowsNone x
RestShowsNone _ = ⊥

-- A line that isn't whole yet asks nothing of the store, and has no tagged OK. The client may be asked for more.
abbrev pub PartShowsNone : Exchange → Type 0
PartShowsNone (Done words how) = IsNoOk words
PartShowsNone (Wait bytes waits) = Unit {0}
PartShowsNone (Write bytes x) = (bytes ≡ []) × PartShowsNone x
PartShowsNone _ = ⊥

-- a last line that is no tagged OK; before it copies may be removed again, and nothing is said
abbrev pub IsRefused : Exchange → Type 0
IsRefused (Done words how) = IsNoOk words
IsRefused (Discard mailbox uids x) = IsRefused x
IsRefused _ = ⊥

-- changes are shown right before the tagged OK that tells where a message was stored
abbrev pub AppendShows : Option Selected → (uid uidvalidity : ℕ) → Exchange → Type 0
AppendShows selected uid uidvalidity = ShowsBefore (last_line (appended_words uidvalidity uid)) (λ bytes. bytes ≡ []) true (is_some selected) false

-- so they are before the one that tells where copies are, and before that of a MOVE, which tells that in a line of its own
abbrev pub CopyShows : Option Selected → Batch → (moves : Bool) → (uidvalidity : ℕ) → Exchange → Type 0
CopyShows selected batch true uidvalidity = ShowsBefore (move_done batch) (λ bytes. bytes ≡ untagged (moved_words uidvalidity batch)) true
    (is_some selected) false
CopyShows selected batch false uidvalidity = ShowsBefore (last_line (copied_words uidvalidity batch)) (λ bytes. bytes ≡ []) true
    (is_some selected) false

-- a mailbox is counted, and it goes on so with its UIDVALIDITY
abbrev pub CountsThen : (ℕ → Exchange → Type 0) → Exchange → Type 0
CountsThen P (Count mailbox next) = (status : Status) → P status.uidvalidity (next status)
CountsThen P _ = ⊥

-- The next copy is submitted, and nothing is said; or it can't be, and there is no tagged OK; or all copies stand, and changes are shown so.
abbrev pub CopyGoesOn : Option Selected → Batch → Exchange → Type 0
CopyGoesOn selected batch (Wait bytes waits) = (bytes ≡ []) × (after_waiting waits ≡ Submit)
CopyGoesOn selected batch (Count mailbox next) = CountsThen (CopyShows selected batch batch.moves) (Count mailbox next)
CopyGoesOn selected batch x = IsRefused x

abbrev pub StoredShows : Option Selected → Origin → ℕ → Exchange → Type 0
StoredShows selected Client uid = CountsThen (AppendShows selected uid)
StoredShows selected (Copied batch) uid = CopyGoesOn selected (with_copy uid batch)

-- The verdict on a message shows changes right before its tagged OK, where a mailbox is selected. Where the message was refused there is no tagged
-- OK, and none are shown.
abbrev pub VerdictShowsInOrder : Option Selected → Origin → Verdict → Exchange → Type 0
VerdictShowsInOrder selected origin (Stored uid) = StoredShows selected origin uid
VerdictShowsInOrder selected origin (Refused why) = IsRefused
