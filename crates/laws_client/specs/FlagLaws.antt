-- What holds of what a client believes of flags.
use Rattle.std.specs.Prelude.{◌≡◌, ℕ, ◌+◌, ◌≤◌, Bool, true, ◌||◌, Contains, List, ◌++◌, length, drop, Some, IfSome}
use Rattle.std.specs.List.{list_any}
use Rattle.change_ring.specs.declared.change.Change.{Change}
use Rattle.change_ring.specs.declared.change.Change.TheVariants.{Flags as SetFlags}
use Rattle.change_ring.specs.declared.change.Flags.{Flags}
use Rattle.change_ring.specs.Log.{IsLegalLog}
use Rattle.cursor_set.specs.Lines.{line, lines}
use Rattle.change_ring.specs.View.{position}
use Rattle.change_ring.specs.Words.{flag_words}
use Rattle.delivery_token.specs.declared.Verdict.{Verdict}
use Rattle.mailbox.specs.declared.clients.Row.{Row}
use Rattle.imap_answers.specs.Answers.{is_flags, row_answer, flags_answer}
use Rattle.imap_grammar.specs.declared.items.FetchItem.{FetchItem}
use Rattle.imap_session.specs.Exchange.{Answer, Standing, Turn}
use Rattle.imap_session.specs.Commands.{idle_turn, turn_of, turn_of_verdict}
use Rattle.session_thread.specs.ByHistory.{flags_in}
use Rattle.laws_client.specs.Beliefs.{Follows, MayShow}
use Rattle.laws_client.specs.Clients.{IsRight}
use Rattle.laws_client.specs.Client.{Known}
use Rattle.laws_client.specs.Commands.{IsFollowed}
use Rattle.imap_session.specs.Happenings.{IsPrinted}
use Rattle.laws_client.specs.Fetches.{AreToldParts, IsNumbered}
use Rattle.laws_client.specs.ListTurns.{IsRowOf, IsTag}
use Rattle.laws_client.specs.Flags.{FlagsOf, HasNow, KnowsFlags, Point, counted}
use Rattle.laws_client.specs.FlagTurns.{LeadsFlags, LeavesFlags, SeesAllFlags}

-- ---- moments

-- where nothing is pending the moment is now
abbrev pub FlagsAreCurrent : Type 0
FlagsAreCurrent = (log : List Change) (uid : ℕ) (names : List (List ℕ)) → FlagsOf log (length log) uid names → HasNow log uid names

-- a moment stays one, whatever is logged behind
abbrev pub FlagsOutlast : Type 0
FlagsOutlast = (log later : List Change) (cursor uid : ℕ) (names : List (List ℕ)) → FlagsOf log cursor uid names
    → FlagsOf (log ++ later) cursor uid names

-- Where it knows of a message both its UID and flags, that UID's message had these flags. So a client that keeps its messages by UID is right about
-- flags too.
abbrev pub FlagsAreByUid : Type 0
FlagsAreByUid = (p : Point) (list : List Known) (message : Known) (uid : ℕ) (names : List (List ℕ)) → IsRight (counted p) list → KnowsFlags p list
    → Contains list message
    → message.uid ≡ Some uid → message.flags ≡ Some names → FlagsOf p.log p.cursor uid names

-- ---- texts that tell flags

-- The lines of the changes behind the cursor: a client that was right about flags at the cursor reads them, and is right about them where the cursor
-- is then.
abbrev pub LinesTellFlags : Type 0
LinesTellFlags = (p : Point) (changes rest : List Change) → IsLegalLog p.log → p.cursor ≤ length p.log → drop p.cursor p.log ≡ changes ++ rest
    → MayShow (counted p) changes
    → LeadsFlags p (lines (counted p) changes) (record { log = p.log; cursor = p.cursor + length changes })

-- the answer about a row, whatever was asked of it, whose flags are those that the message has now
abbrev pub RowTellsFlags : Type 0
RowTellsFlags = (p : Point) (uid : ℕ) (by_uid : Bool) (items : List FetchItem) (row : Row) → Contains (counted p) uid → IsNumbered (counted p)
    → IsRowOf uid (Some row) → AreToldParts items
    → flags_in uid p.log ≡ Some row.flags → p.cursor ≤ length p.log → LeavesFlags p (row_answer (position uid (counted p)) by_uid items row)

-- and the flags after a STORE
abbrev pub StoreTellsFlags : Type 0
StoreTellsFlags = (p : Point) (uid : ℕ) (by_uid : Bool) (flags : Flags) → Contains (counted p) uid → IsNumbered (counted p)
    → flags_in uid p.log ≡ Some flags → p.cursor ≤ length p.log → LeavesFlags p (flags_answer by_uid (position uid (counted p)) uid flags)

-- ---- what is told is heard

-- Whatever it knew, a client whose list is as long as the view reads this text, its list stays as long, and of this message it knows these flags
-- then.
abbrev pub HearsFlags : List ℕ → ℕ → List (List ℕ) → List ℕ → Type 0
HearsFlags view uid names text = (list : List Known) → length list ≡ length view
    → Follows (λ (u : ℕ) (message : Known). u ≡ uid → message.flags ≡ Some names) list text view

-- the line of a change of flags
abbrev pub ChangeIsHeard : Type 0
ChangeIsHeard = (p : Point) (uid : ℕ) (flags : Flags) → IsLegalLog p.log → Contains (counted p) uid → IsNumbered (counted p)
    → HearsFlags (counted p) uid (flag_words flags) (line (counted p) (SetFlags uid flags))

-- the flags after a STORE
abbrev pub StoreIsHeard : Type 0
StoreIsHeard = (p : Point) (uid : ℕ) (by_uid : Bool) (flags : Flags) → IsLegalLog p.log → Contains (counted p) uid → IsNumbered (counted p)
    → HearsFlags (counted p) uid (flag_words flags) (flags_answer by_uid (position uid (counted p)) uid flags)

-- and the answer to a FETCH that asked for FLAGS, or that has set \Seen
abbrev pub FetchIsHeard : Type 0
FetchIsHeard = (p : Point) (uid : ℕ) (by_uid : Bool) (items : List FetchItem) (row : Row) → IsLegalLog p.log → Contains (counted p) uid
    → IsNumbered (counted p) → IsRowOf uid (Some row) → AreToldParts items
    → (list_any is_flags items || row.newly_seen) ≡ true → HearsFlags (counted p) uid (flag_words row.flags)
    (row_answer (position uid (counted p)) by_uid items row)

-- ---- turns

-- Over any store, whatever it answers: after the answer to any line but SELECT, EXAMINE, CLOSE and UNSELECT a client that was right about flags
-- before is right about them then.
abbrev pub AnswerTellsFlags : Type 0
AnswerTellsFlags = (now : Standing) (line : List ℕ) (p : Point) (answers : List Answer) (turn : Turn) (q : Point)
    → IsFollowed now (counted p) line → turn_of now line answers ≡ Some turn → SeesAllFlags p turn.events q → LeadsFlags p turn.bytes q

-- and so after the answer to the verdict on a message
abbrev pub VerdictTellsFlags : Type 0
VerdictTellsFlags = (now : Standing) (verdict : Verdict) (p : Point) (answers : List Answer) (turn : Turn) (q : Point)
    → IfSome now.mailing.sent (λ sent. IsTag sent.tag) → IsPrinted verdict → turn_of_verdict now verdict answers ≡ Some turn
    → SeesAllFlags p turn.events q → LeadsFlags p turn.bytes q

-- and after a turn while it idles
abbrev pub IdleTellsFlags : Type 0
IdleTellsFlags = (now : Standing) (p : Point) (answers : List Answer) (turn : Turn) (q : Point) → idle_turn now answers ≡ Some turn
    → SeesAllFlags p turn.events q → LeadsFlags p turn.bytes q
