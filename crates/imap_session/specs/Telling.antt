-- Which last line of a session tells the UID of a message that its client appended (RFC 9051, 6.3.12; RFC 4315, 3).
use Rattle.std.specs.Prelude.{◌≡◌, ◌⊎◌, ◌<◌, ◌^◌, ℕ, Bool, false, codes, take, List, ◌++◌, Option, Some, None}
use Rattle.std.specs.Str.{bytes_eq}
use Rattle.change_ring.specs.declared.change.Flags.{Flags}
use Rattle.mailbox.specs.declared.clients.Opening.{Opening}
use Rattle.mailbox.specs.declared.clients.Row.{Row}
use Rattle.mailbox.specs.declared.mailbox.Status.{Status}
use Rattle.delivery_token.specs.declared.Verdict.{Verdict}
use Rattle.delivery_token.specs.declared.Verdict.TheVariants.{Stored, Refused}
use Rattle.imap_session.specs.declared.standing.Selected.{Selected}
use Rattle.imap_session.specs.Exchange.{Origin, Client, Copied, Exchange, Done, Wait, Write, Put, Enter, Look, Read, Count, Alter, Expunge, Feed, Leave, Discard, tagged}
use Rattle.imap_session.specs.Commands.{appended_words, says, showing}

-- the words behind the tag begin as those that tell a UID
abbrev pub tells_uid : List ℕ → Bool
tells_uid words = bytes_eq (take 14 words) (codes "OK [APPENDUID ")

-- which numbers they tell: the words are the same only of the same UIDVALIDITY and the same UID
abbrev pub WordsTellWhich : Type 0
WordsTellWhich = (uidvalidity uid other_uidvalidity other_uid : ℕ) → uidvalidity < 2 ^ 64 → uid < 2 ^ 64 → other_uidvalidity < 2 ^ 64
    → other_uid < 2 ^ 64
    → appended_words uidvalidity uid ≡ appended_words other_uidvalidity other_uid → (uidvalidity ≡ other_uidvalidity) × (uid ≡ other_uid)

-- whatever the store answers, the last line tells no UID. Where the session waits there is no last line
abbrev pub TellsNoUid : Exchange → Type 0
TellsNoUid (Done words how) = tells_uid words ≡ false
TellsNoUid (Wait bytes waits) = Unit {0}
TellsNoUid (Write bytes x) = TellsNoUid x
TellsNoUid (Put bytes x) = TellsNoUid x
TellsNoUid (Enter selected next) = (opening : Opening) → TellsNoUid (next opening)
TellsNoUid (Look by_uid set next) = (view : List ℕ) → TellsNoUid (next view)
TellsNoUid (Read uid mark next) = (row : Option Row) → TellsNoUid (next row)
TellsNoUid (Count mailbox next) = (status : Status) → TellsNoUid (next status)
TellsNoUid (Alter uid op next) = (flags : Option Flags) → TellsNoUid (next flags)
TellsNoUid (Expunge uids x) = TellsNoUid x
TellsNoUid (Feed limit x) = TellsNoUid x
TellsNoUid (Leave remove x) = TellsNoUid x
TellsNoUid (Discard mailbox uids x) = TellsNoUid x

-- this mailbox is counted, what is pending is shown, and then the last line tells this UID, behind the UIDVALIDITY that was counted
abbrev pub TellsUid : Option Selected → (mailbox uid : ℕ) → Exchange → Type 0
TellsUid selected mailbox uid (Count counted next) = (counted ≡ mailbox)
    × ((status : Status) → next status ≡ showing selected (says (appended_words status.uidvalidity uid)))
TellsUid selected mailbox uid _ = ⊥

-- The last line tells the UID under which a message was stored that the client appended, and none where it was refused. Of a message that was copied
-- it tells none so.
abbrev pub StoredTellsUid : Option Selected → Origin → (mailbox uid : ℕ) → Exchange → Type 0
StoredTellsUid selected Client mailbox uid = TellsUid selected mailbox uid
StoredTellsUid selected (Copied batch) mailbox uid = TellsNoUid

abbrev pub VerdictTellsUid : Option Selected → Origin → (mailbox : ℕ) → Verdict → Exchange → Type 0
VerdictTellsUid selected origin mailbox (Stored uid) = StoredTellsUid selected origin mailbox uid
VerdictTellsUid selected origin mailbox (Refused why) = TellsNoUid

-- ---- lines that no exchange says

abbrev pub IsUntagged : List ℕ → Type 0
IsUntagged text = (rest : List ℕ) × (text ≡ codes "* " ++ rest)

-- the text is a line with this tag, and tells no UID
abbrev pub IsTaggedWithoutUid : (tag text : List ℕ) → Type 0
IsTaggedWithoutUid tag text = (words : List ℕ) × (text ≡ tagged tag words) × (tells_uid words ≡ false)

-- the line has this tag and tells no UID; where there is no tag it is untagged
abbrev pub LineTellsNoUid : Option (List ℕ) → (text : List ℕ) → Type 0
LineTellsNoUid None text = IsUntagged text
LineTellsNoUid (Some tag) text = IsTaggedWithoutUid tag text

-- where the store or memory refuses, the line is untagged, or it has this tag and tells no UID
abbrev pub RefusalTellsNoUid : (tag text : List ℕ) → Type 0
RefusalTellsNoUid tag text = IsUntagged text ⊎ IsTaggedWithoutUid tag text
