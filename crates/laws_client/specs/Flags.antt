-- What a client believes of flags, and when it is so.
use Rattle.std.specs.Prelude.{◌≡◌, ℕ, ◌≤◌, List, length, map, take, Option, Some}
use Rattle.change_ring.specs.declared.change.Change.{Change}
use Rattle.change_ring.specs.declared.change.Flags.{Flags}
use Rattle.change_ring.specs.Log.{Row, rows_of, view_at}
use Rattle.change_ring.specs.Words.{flag_words}
use Rattle.session_thread.specs.ByHistory.{flags_in}
use Rattle.laws_client.specs.Clients.{Each, IsOf, IsRightBy}
use Rattle.laws_client.specs.Client.{Client, Known}

-- Where a session is in its mailbox: what the mailbox has logged, and how many of these changes the session was shown.
pub record Point : Type 0 where
  pub log : List Change
  pub cursor : ℕ

-- the messages that the session counts
abbrev pub counted : Point → List ℕ
counted p = view_at p.log p.cursor

-- it counts all that is in the mailbox
abbrev pub CountsAll : Point → Type 0
CountsAll p = counted p ≡ map (λ (row : Row). row.uid) (rows_of p.log)

-- These are the names of flags that the message had at some moment which isn't before the session's cursor. A client may know newer flags than those
-- at the cursor, by its own STORE or a FETCH, and may then be told older ones first; but never such that are older than what it was shown.
pub record FlagsOf (log : List Change) (cursor uid : ℕ) (names : List (List ℕ)) : Type 0 where
  -- the moment, as the number of changes that were logged by then
  pub moment : ℕ
  pub since : cursor ≤ moment
  pub until : moment ≤ length log
  pub flags : Flags
  pub had : flags_in uid (take moment log) ≡ Some flags
  pub named : names ≡ flag_words flags

-- what is known of a message's flags, where anything is, is so
abbrev pub Believes : Point → ℕ → Known → Type 0
Believes p uid message = (names : List (List ℕ)) → message.flags ≡ Some names → FlagsOf p.log p.cursor uid names

-- the list is as long as what the session counts, and what is known of the flags of each message is so, whether its UID is known or not
abbrev pub KnowsFlags : Point → List Known → Type 0
KnowsFlags p list = Each (Believes p) (counted p) list

-- these are the names of the flags that the message has after all these changes
pub record HasNow (log : List Change) (uid : ℕ) (names : List (List ℕ)) : Type 0 where
  pub flags : Flags
  pub has : flags_in uid log ≡ Some flags
  pub named : names ≡ flag_words flags

-- what is known of a message's flags is what they are now
abbrev pub BelievesNow : List Change → ℕ → Known → Type 0
BelievesNow log uid message = (names : List (List ℕ)) → message.flags ≡ Some names → HasNow log uid names

-- all that it knows of flags is such as the message had at some moment not before the session's cursor, whether its UID is known or not
abbrev pub IsRightOnFlags : Point → Option Client → Type 0
IsRightOnFlags p client = IsRightBy (Believes p) (counted p) client

-- so it is, and each UID that it knows is the one at that position
abbrev pub IsRightAt : Point → Option Client → Type 0
IsRightAt p client = IsRightBy (λ uid message. IsOf uid message × Believes p uid message) (counted p) client
