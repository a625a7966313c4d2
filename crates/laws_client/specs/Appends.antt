-- What the answers to a client tell of the messages that it appended or had copied (RFC 9051, 6.3.12 and 6.4.7; RFC 4315, 3; RFC 6851).
use Rattle.std.specs.Prelude.{◌≡◌, ◌⊎◌, ◌==◌, ℕ, false, true, codes, drop, length, reverse, take, List, [], ◌∷◌, ◌++◌, AllPairs, Contains, filter_map, Ok, Option, Some, None, if◌then◌else◌, Bool, ◌||◌, ◌+◌, ◌<◌}
use Rattle.delivery_token.specs.Keys.{Below}
use Rattle.delivery_token.specs.declared.CopyKey.{CopyKey}
use Rattle.delivery_token.specs.declared.Job.{Job}
use Rattle.delivery_token.specs.declared.Verdict.{Verdict}
use Rattle.delivery_token.specs.declared.Verdict.TheVariants.{Stored, Refused}
use Rattle.delivery_token.specs.declared.log.Noted.{Noted}
use Rattle.mailbox.specs.declared.clients.MailFault.{MailFault}
use Rattle.imap_grammar.specs.Bytes.{is_tag}
use Rattle.imap_grammar.specs.Items.{is_word_of}
use Rattle.line_io.specs.Wire.{crlf}
use Rattle.imap_grammar.specs.Reading.{read}
use Rattle.imap_grammar.specs.Literals.{announced, quoted}
use Rattle.imap_grammar.specs.declared.command.Append.{Append}
use Rattle.imap_grammar.specs.declared.command.Authenticate.{Authenticate}
use Rattle.imap_grammar.specs.declared.command.Literal.{Literal}
use Rattle.imap_grammar.specs.declared.command.Command.TheVariants as commands
use Rattle.imap_session.specs.Commands.{appended_words, copied_words, moved_words, number_named, refused_text, response_in, with_copy, copies_of}
use Rattle.imap_session.specs.Exchange.{Folder, Sent, refusal_text, tagged, untagged, Origin, Client, Copied, Batch}
use Rattle.imap_session.specs.Telling.{tells_uid}
use Rattle.world.specs.Law.{StandsOnce, pairs}
use Rattle.world.specs.World.{World}
use Rattle.imap_session.specs.Folders.{folders_of}
use Rattle.house_peers.specs.Visitor.{SeatedVisitor}
use Rattle.house.specs.Scene.{Scene, empty_scene}
use Rattle.house.specs.Setup.{Setup, session_seat}
use Rattle.exactly_once.specs.Promise.{Entry, IsRecord}
use Rattle.imap_session.specs.Happenings.{Told, bytes_in}
use Rattle.laws_client.specs.ClientRecords.{KeepsUp, KeptUp, sent_by_then, serial_by_then, stays_by_then, user_by_then}
use Rattle.laws_client.specs.HouseClients.{IsPrintable}
use Rattle.imap_session.specs.Texts.{response_text}
use Rattle.imap_grammar.specs.Sets.{named_in}
use Rattle.imap_grammar.specs.Verbs.{copy_verb}
use Rattle.imap_grammar.specs.declared.command.CopyMessages.{CopyMessages}
use Rattle.imap_session.specs.declared.texts.ResponseText.TheVariants as texts
use Rattle.std.specs.Str.{bytes_eq}
use Rattle.mailbox.specs.declared.clients.Row.{Row}
use Rattle.exactly_once.specs.Found.{AreSomeOf}
use Rattle.laws_client.specs.Clients.{EndsWith, IsSpelled, last_line}

-- the words behind the tag begin as those that tell the UIDs of messages that were copied, and of their copies
abbrev pub tells_copy : List ℕ → Bool
tells_copy words = bytes_eq (take 12 words) (codes "OK [COPYUID ")

-- they tell under which UID a message was stored
abbrev pub tells_stored : List ℕ → Bool
tells_stored words = tells_uid words || tells_copy words

-- it doesn't end in a line that tells a UID, whatever the tag
abbrev pub TellsOfNone : List ℕ → Type 0
TellsOfNone bytes = (tag words : List ℕ) → EndsWith tag words bytes → tells_stored words ≡ false

-- ---- which message it was

-- A client sent this message so, to a session with these mailboxes (RFC 9051, 6.3.12): an APPEND under its tag, which
-- names its mailbox, with its flags and the date that it has, or none; its text, as the literal that was
-- announced; and the CRLF behind that.
pub record IsSentAs (folders : List Folder) (sent : List ℕ) (message : Sent) : Type 0 where
  pub front : List ℕ
  pub bytes : List ℕ
  pub line : List ℕ
  pub behind : List ℕ
  pub append : Append
  pub spelled : IsSpelled bytes line
  pub reads : read line ≡ Ok (message.tag, commands.Append append)
  pub named : number_named append.name folders ≡ Some message.append.mailbox
  pub flags : message.append.flags ≡ append.flags
  pub date : message.append.text.date ≡ append.date
  pub size : length message.append.text.bytes ≡ append.literal.size
  pub whole : sent ≡ front ++ (bytes ++ crlf) ++ message.append.text.bytes ++ crlf ++ behind

-- A client had this message copied so (RFC 9051, 6.4.7; RFC 6851): by a COPY or MOVE under its
-- tag, which names the mailbox of the copy. It is of this batch, which has those
-- of the messages named in a view that were found, in their order; where they were named by
-- their numbers all of them were. Before it are those whose copies are stored, and
-- behind it those that are left.
pub record IsCopyOf (folders : List Folder) (sent : List ℕ) (message : Sent) (batch : Batch) : Type 0 where
  pub front : List ℕ
  pub bytes : List ℕ
  pub line : List ℕ
  pub behind : List ℕ
  pub copy : CopyMessages
  pub view : List ℕ
  pub uids : List ℕ
  pub spelled : IsSpelled bytes line
  pub reads : read line ≡ Ok (message.tag, commands.Copy copy)
  pub named : number_named copy.name folders ≡ Some message.append.mailbox
  pub by_uid : copy.by_uid ≡ batch.by_uid
  pub moves : copy.moves ≡ batch.moves
  pub set : named_in copy.by_uid copy.set view ≡ Some uids
  pub some : AreSomeOf batch.uids uids
  pub all : copy.by_uid ≡ false → batch.uids ≡ uids
  pub place : length batch.copies + (1 + length batch.left) ≡ length batch.uids
  pub whole : sent ≡ front ++ (bytes ++ crlf) ++ behind

-- by where the message comes from
abbrev pub CameBy : Origin → List Folder → List ℕ → Sent → Type 0
CameBy Client folders sent message = IsSentAs folders sent message
CameBy (Copied batch) folders sent message = IsCopyOf folders sent message batch

abbrev pub CameAs : List Folder → List ℕ → Sent → Type 0
CameAs folders sent message = CameBy message.origin folders sent message

-- ---- what is said to a verdict

-- Of a MOVE, once all copies were stored: first of all one untagged line tells their UIDs, and those of the messages which are moved.
-- The last line is the OK, or what is said where the store refuses.
pub record SaysMoved (uidvalidity : ℕ) (batch : Batch) (tag bytes : List ℕ) : Type 0 where
  pub behind : List ℕ
  pub tells : bytes ≡ untagged (moved_words uidvalidity batch) ++ behind
  pub ends : EndsWith tag (response_text (texts.Completed (copy_verb batch.by_uid true))) bytes
      ⊎ ((fault : MailFault) × (last_line bytes ≡ last_line (refusal_text tag fault)))

-- of a COPY the OK tells the UIDs of all messages and of all copies
abbrev pub SaysCopied : (moves : Bool) → (uidvalidity : ℕ) → Batch → (tag : List ℕ) → List ℕ → Type 0
SaysCopied true uidvalidity batch tag bytes = SaysMoved uidvalidity batch tag bytes
SaysCopied false uidvalidity batch tag bytes = EndsWith tag (copied_words uidvalidity batch) bytes

-- Of the messages of a batch, where these copies are stored: the next of those that are left
-- is on its way, and nothing is said; or the session has no number left for it, and
-- there is a NO; or none is left, and it is done.
pub data SaysOfBatch (uidvalidity : ℕ) (batch : Batch) (tag bytes : List ℕ) : Type 0 where
  awaits_next : (row : Row) (left : List Row) → batch.left ≡ row ∷ left → bytes ≡ [] → SaysOfBatch uidvalidity batch tag bytes
  has_no_number : (row : Row) (left : List Row) → batch.left ≡ row ∷ left → bytes ≡ tagged tag (response_text texts.MailboxSpent)
      → SaysOfBatch uidvalidity batch tag bytes
  all_stored : batch.left ≡ [] → SaysCopied batch.moves uidvalidity batch tag bytes → SaysOfBatch uidvalidity batch tag bytes

-- of an APPEND the OK tells its UID
abbrev pub SaysStored : Origin → (uidvalidity uid : ℕ) → (tag : List ℕ) → List ℕ → Type 0
SaysStored Client uidvalidity uid tag bytes = EndsWith tag (appended_words uidvalidity uid) bytes
SaysStored (Copied batch) uidvalidity uid tag bytes = SaysOfBatch uidvalidity (with_copy uid batch) tag bytes

-- A NO with these words, once these copies were removed again; or one line, where the store refuses to remove them.
abbrev pub SaysRefused : (copies : List ℕ) → (tag words : List ℕ) → List ℕ → Type 0
SaysRefused [] tag words bytes = bytes ≡ tagged tag words
SaysRefused (uid ∷ uids) tag words bytes = (bytes ≡ tagged tag words) ⊎ ((fault : MailFault) × (bytes ≡ refusal_text tag fault))

module _ (uidvalidity : ℕ) where
  -- Where the message was stored: the OK that tells its UID, behind this UIDVALIDITY, or what comes
  -- of its batch; or one line, where the store refuses to count its mailbox, to show what
  -- is pending, or to remove copies. Where it was refused: a NO.
  abbrev pub SaysVerdict : Origin → (tag : List ℕ) → Verdict → List ℕ → Type 0
  SaysVerdict origin tag (Stored uid) bytes =
      SaysStored origin uidvalidity uid tag bytes ⊎ ((fault : MailFault) × (bytes ≡ refusal_text tag fault))
  SaysVerdict origin tag (Refused why) bytes = SaysRefused (copies_of origin) tag (response_text (refused_text why)) bytes

-- the copy of a message, under this key
abbrev pub copy_under : CopyKey → Sent → Job
copy_under key message = record { key = key; mailbox = message.append.mailbox; text = message.append.text; flags = message.append.flags }

-- Whose messages they are: the session with this serial at a place, with these mailboxes, to which its client sent all this.
pub record Author : Type 0 where
  pub place : ℕ
  pub serial : ℕ
  pub folders : List Folder
  pub sent : List ℕ

module _ (k : Setup) (w : World) (author : Author) where
  -- An earlier copy of a batch: of its message behind those of which these copies were
  -- stored. That was submitted before the last one, under the same tag, for the same
  -- mailbox, and was stored under this UID, as the session's seat has heard. It stands so, once, with the text and the flags of its message.
  pub record IsEarlier (last : Sent) (batch : Batch) (copies : List ℕ) (uid : ℕ) : Type 0 where
    pub noted : Noted
    pub message : Sent
    pub rest : List Row
    pub number : noted.key.message ≡ message.append.message
    pub origin : message.origin ≡ Copied (record batch { left = rest; copies = copies })
    pub came : IsCopyOf author.folders author.sent message (record batch { left = rest; copies = copies })
    pub before : message.append.message < last.append.message
    pub under : message.tag ≡ last.tag
    pub named : message.append.mailbox ≡ last.append.mailbox
    pub seat : noted.key.seat ≡ session_seat k author.place
    pub own : noted.key.serial ≡ author.serial
    pub heard : Contains (w.heard noted.key.seat) noted
    pub stored : noted.verdict ≡ Stored uid
    pub once : StandsOnce (pairs (w.box noted.mailbox).accepted) noted.key uid
    pub mailbox : noted.mailbox ≡ message.append.mailbox
    pub copy : Contains (w.box noted.mailbox).accepted (copy_under noted.key message, uid)

  -- of a message of a batch, each of the copies that are stored
  abbrev pub EarlierStand : Sent → Origin → Type 0
  EarlierStand last Client = Unit {0}
  EarlierStand last (Copied batch) =
      (copies : List ℕ) (uid : ℕ) (behind : List ℕ) → batch.copies ≡ copies ++ uid ∷ behind → IsEarlier last batch copies uid

  -- These bytes were said to the verdict on a copy of this session.
  pub record AnswersNoted (bytes : List ℕ) (noted : Noted) : Type 0 where
    -- it is a copy of that very session, and its seat has heard the verdict
    pub seat : noted.key.seat ≡ session_seat k author.place
    pub own : noted.key.serial ≡ author.serial
    pub heard : Contains (w.heard noted.key.seat) noted
    -- of a message that its client sent so, or had copied so, and they have the tag of that APPEND, COPY or MOVE
    pub message : Sent
    pub number : noted.key.message ≡ message.append.message
    pub came : CameAs author.folders author.sent message
    pub chosen : is_word_of is_tag message.tag ≡ true
    pub says : SaysVerdict k.config.uidvalidity message.origin message.tag noted.verdict bytes
    -- a copy that was stored under a UID stands exactly once in the history of the mailbox
    -- that was named, under that UID, and with the text and the flags of that message
    pub stands : (uid : ℕ) → noted.verdict ≡ Stored uid → StandsOnce (pairs (w.box noted.mailbox).accepted) noted.key uid
    pub stored : (uid : ℕ) → noted.verdict ≡ Stored uid → (noted.mailbox ≡ message.append.mailbox)
        × Contains (w.box noted.mailbox).accepted (copy_under noted.key message, uid)
    -- and so does each copy of its batch that was stored before
    pub earlier : EarlierStand message message.origin

-- ---- all that a client was told

module _ (k : Setup) (w : World) (author : Author) where
  -- an answer that was said to no verdict tells no UID
  abbrev pub IsAnswered : List ℕ → Option Noted → Type 0
  IsAnswered bytes None = TellsOfNone bytes
  IsAnswered bytes (Some noted) = AnswersNoted k w author bytes noted

  -- beside each answer stands the verdict that it was said to, or none
  abbrev pub AreAnswered : List Told → List (Option Noted) → Type 0
  AreAnswered [] [] = Unit {0}
  AreAnswered [] (verdict ∷ verdicts) = ⊥
  AreAnswered (one ∷ told) [] = ⊥
  AreAnswered (one ∷ told) (verdict ∷ verdicts) = IsAnswered (bytes_in one) verdict × AreAnswered told verdicts

-- the same verdict, or none
abbrev pub as_it_is : Option Noted → Option Noted
as_it_is verdict = verdict

module _ (k : Setup) (w : World) (author : Author) where
  -- These words, under this tag, are the OK for one copy of this session: of a message that its client
  -- appended under that tag. They tell the house's UIDVALIDITY and the UID under which it
  -- stands, once, as its seat has heard: in the mailbox that was named, with the text and the flags that were sent.
  pub record TellsKept (tag said : List ℕ) (noted : Noted) : Type 0 where
    pub message : Sent
    pub number : noted.key.message ≡ message.append.message
    pub origin : message.origin ≡ Client
    pub came : IsSentAs author.folders author.sent message
    pub under : tag ≡ message.tag
    pub uid : ℕ
    pub words : said ≡ appended_words k.config.uidvalidity uid
    pub seat : noted.key.seat ≡ session_seat k author.place
    pub own : noted.key.serial ≡ author.serial
    pub heard : Contains (w.heard noted.key.seat) noted
    pub stored : noted.verdict ≡ Stored uid
    pub once : StandsOnce (pairs (w.box noted.mailbox).accepted) noted.key uid
    pub mailbox : noted.mailbox ≡ message.append.mailbox
    pub copy : Contains (w.box noted.mailbox).accepted (copy_under noted.key message, uid)

  -- These words, under this tag, are the OK for the messages that a client of this session had
  -- copied by a COPY under that tag. They tell the house's UIDVALIDITY, these messages'
  -- UIDs and those of all copies, in one order. The last of the copies stands once under its UID,
  -- as its seat has heard: in the mailbox that was named, with the text and the flags
  -- of its message. And each before it stands so, under the UID that is told of it.
  pub record TellsCopied (tag said : List ℕ) (noted : Noted) : Type 0 where
    pub message : Sent
    pub batch : Batch
    pub number : noted.key.message ≡ message.append.message
    pub origin : message.origin ≡ Copied batch
    pub stays : batch.moves ≡ false
    pub last : batch.left ≡ []
    pub came : IsCopyOf author.folders author.sent message batch
    pub under : tag ≡ message.tag
    pub uid : ℕ
    pub words : said ≡ copied_words k.config.uidvalidity (with_copy uid batch)
    pub seat : noted.key.seat ≡ session_seat k author.place
    pub own : noted.key.serial ≡ author.serial
    pub heard : Contains (w.heard noted.key.seat) noted
    pub stored : noted.verdict ≡ Stored uid
    pub once : StandsOnce (pairs (w.box noted.mailbox).accepted) noted.key uid
    pub mailbox : noted.mailbox ≡ message.append.mailbox
    pub copy : Contains (w.box noted.mailbox).accepted (copy_under noted.key message, uid)
    pub earlier : EarlierStand k w author message (Copied batch)

-- the session with this serial at a place, behind a record
abbrev pub author_at : Setup → List Entry → (place serial : ℕ) → Author
author_at k entries place serial =
    record { place = place; serial = serial; folders = folders_of k.directory (user_by_then place [] entries); sent = sent_by_then place [] entries }

-- What a client knows of the messages that it appended or had copied, by the last lines of what it was told.
pub record KeptAsTold (k : Setup) (w : World) (author : Author) (told : List Told) : Type 0 where
  -- Where an answer ends with `OK [APPENDUID ` behind any tag, that is for one copy of this session, which stands so;
  pub kept : (before after : List Told) (one : Told) (tag words : List ℕ) → told ≡ before ++ one ∷ after
      → EndsWith tag words (bytes_in one) → tells_uid words ≡ true
      → (noted : Noted) × TellsKept k w author tag words noted
  -- where it ends with `OK [COPYUID `, that is for the messages that its client had copied by one command, whose copies stand so;
  pub copied : (before after : List Told) (one : Told) (tag words : List ℕ) → told ≡ before ++ one ∷ after → EndsWith tag words (bytes_in one)
      → tells_copy words ≡ true → (noted : Noted) × TellsCopied k w author tag words noted
  -- and two answers of the first kind are for two copies, of which the first was appended first.
  pub apart : (before mid after : List Told) (one two : Told) (tag words other_tag other_words : List ℕ)
      → told ≡ before ++ one ∷ (mid ++ two ∷ after) → EndsWith tag words (bytes_in one) → tells_uid words ≡ true
      → EndsWith other_tag other_words (bytes_in two) → tells_uid other_words ≡ true
      → (a : Noted) × (b : Noted) × TellsKept k w author tag words a × TellsKept k w author other_tag other_words b × Below a.key b.key

-- What is known besides of all that a session told its client: beside each answer the verdict that it was said to, or none.
pub record TellsOfAppends (k : Setup) (w : World) (author : Author) (told : List Told) : Type 0 where
  pub verdicts : List (Option Noted)
  pub each : AreAnswered k w author told verdicts
  -- on messages in the order in which they were submitted, so none is told twice
  pub in_order : AllPairs (λ a b. Below a.key b.key) (filter_map as_it_is verdicts)
  -- so the client knows what became of its messages
  pub known : KeptAsTold k w author told

-- Over whatever record of a house that was new, of whoever is there: it keeps up, and knows that.
abbrev pub AppendsAreKept : Type 0
AppendsAreKept = (k : Setup) (entries : List Entry) (t : Scene) (place : ℕ) (v : SeatedVisitor) → IsPrintable k → IsRecord k entries (empty_scene k) t
    → t.visitor place ≡ Some v → v.gone ≡ false → (keeps : KeepsUp k entries place v t)
    × KeptAsTold k t.world (author_at k entries place v.serial) keeps.told

-- And of a session that was let in there last, whose client isn't gone, and that has ended by itself, as by LOGOUT: behind all that happened since
abbrev pub AppendsWereKept : Type 0
AppendsWereKept = (k : Setup) (entries : List Entry) (t : Scene) (place : ℕ) → IsPrintable k → IsRecord k entries (empty_scene k) t
    → stays_by_then place false entries ≡ true → t.visitor place ≡ None
    → (kept : KeptUp k entries place t)
    × KeptAsTold k t.world (author_at k entries place (serial_by_then place 0 (empty_scene k) entries)) kept.told

-- The same with the verdict of each answer.
abbrev pub AppendsAreTold : Type 0
AppendsAreTold = (k : Setup) (entries : List Entry) (t : Scene) (place : ℕ) (v : SeatedVisitor) → IsPrintable k → IsRecord k entries (empty_scene k) t
    → t.visitor place ≡ Some v → v.gone ≡ false → (keeps : KeepsUp k entries place v t)
    × TellsOfAppends k t.world (author_at k entries place v.serial) keeps.told

abbrev pub AppendsWereTold : Type 0
AppendsWereTold = (k : Setup) (entries : List Entry) (t : Scene) (place : ℕ) → IsPrintable k → IsRecord k entries (empty_scene k) t
    → stays_by_then place false entries ≡ true → t.visitor place ≡ None
    → (kept : KeptUp k entries place t)
    × TellsOfAppends k t.world (author_at k entries place (serial_by_then place 0 (empty_scene k) entries)) kept.told
