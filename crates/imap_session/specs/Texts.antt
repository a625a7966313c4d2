-- The texts that a session says (RFC 9051, 7.1): the one table of them.
use Rattle.std.specs.Prelude.{◌≡◌, ℕ, ◌&&◌, ◌==◌, Bool, true, false, codes, nat_le, List, [], ◌∷◌, ◌++◌, if◌then◌else◌}
use Rattle.std.specs.List.{list_all}
use Rattle.imap_grammar.specs.Verbs.{word_of, stands_behind_uid}
use Rattle.imap_grammar.specs.declared.command.Verb.{Verb}
use Rattle.imap_session.specs.declared.standing.Profile.{Profile}
use Rattle.imap_session.specs.declared.standing.Profile.TheVariants.{Standard, Compatible}
use Rattle.imap_session.specs.declared.texts.ServerText.{ServerText}
use Rattle.imap_session.specs.declared.texts.ServerText.TheVariants.{Greeting, Capabilities, Namespaces, Identity, NoneEnabled}
use Rattle.imap_session.specs.declared.texts.ResponseText.{ResponseText}
use Rattle.imap_session.specs.declared.texts.ResponseText.TheVariants.{Completed, SelectCompleted, ExamineCompleted, NoSuchMailbox, TryCreate, NotOffered, MessagesGone, TooManyMessages, ReadOnly, MailboxSpent, MessageTooBig, BadCharset, NulByte, OutOfMemory, ShardFull, ShardClosed, MailboxFull, NoUidLeft, WrongState, SequenceTooHigh, InvalidArguments, UnknownCommand, LoginFailed, ExpectedDone, PreviousClosed, NoneRecent, MissingTag, LineTooLong, LoggingOut, InternalFault, ChangesMissed, LiteralTooBig, ByeOutOfMemory, Idling, Ready}

abbrev pub verb_text : Verb → List ℕ
verb_text verb = if stands_behind_uid verb then codes "UID " ++ word_of verb else word_of verb

abbrev pub response_text : ResponseText → List ℕ
-- behind a tag
response_text (Completed verb) = codes "OK " ++ verb_text verb ++ codes " completed"
response_text SelectCompleted = codes "OK [READ-WRITE] SELECT completed"
response_text ExamineCompleted = codes "OK [READ-ONLY] EXAMINE completed"
response_text NoSuchMailbox = codes "NO [NONEXISTENT] No such mailbox"
response_text TryCreate = codes "NO [TRYCREATE] No such mailbox"
response_text NotOffered = codes "NO [CANNOT] Not offered here"
response_text MessagesGone = codes "NO [EXPUNGEISSUED] Some messages are gone"
response_text TooManyMessages = codes "NO [LIMIT] Too many messages at once"
response_text ReadOnly = codes "NO Mailbox is read-only"
response_text MailboxSpent = codes "NO Mailbox is spent"
response_text MessageTooBig = codes "NO Message too big"
response_text BadCharset = codes "NO [BADCHARSET (US-ASCII UTF-8)] Bad charset"
response_text NulByte = codes "NO NUL byte"
response_text OutOfMemory = codes "NO Out of memory"
response_text ShardFull = codes "NO Shard full"
response_text ShardClosed = codes "NO Shard closed"
response_text MailboxFull = codes "NO Mailbox full"
response_text NoUidLeft = codes "NO No UID left"
response_text WrongState = codes "BAD Wrong state"
response_text SequenceTooHigh = codes "BAD Sequence number too high"
response_text InvalidArguments = codes "BAD Invalid arguments"
response_text UnknownCommand = codes "BAD Unknown command"
response_text LoginFailed = codes "NO [AUTHENTICATIONFAILED] Another user's port"
response_text ExpectedDone = codes "BAD Expected DONE"
-- behind a star
response_text PreviousClosed = codes "OK [CLOSED] Previous mailbox is closed"
response_text MissingTag = codes "BAD Missing tag"
response_text LineTooLong = codes "BAD Line too long"
response_text NoneRecent = codes "0 RECENT"
-- behind BYE
response_text LoggingOut = codes "Logging out"
response_text InternalFault = codes "Internal fault"
response_text ChangesMissed = codes "Too many changes were missed"
response_text LiteralTooBig = codes "Literal too big"
response_text ByeOutOfMemory = codes "Out of memory"
-- behind a plus
response_text Idling = codes "idling"
response_text Ready = codes "ready"

-- the words for what a profile has (RFC 9051, 7.2.2; RFC 2177, 2342, 2971, 3691, 4315, 4959, 5161 and 7888)
abbrev pub capabilities : Profile → List ℕ
capabilities Standard = codes "CAPABILITY IMAP4rev2 IDLE"
capabilities Compatible = codes "CAPABILITY IMAP4rev2 IMAP4rev1 AUTH=PLAIN ENABLE ESEARCH ID IDLE LITERAL- MOVE NAMESPACE SASL-IR UIDPLUS UNSELECT"

-- what is said of the server, behind a star
abbrev pub server_text : ServerText → List ℕ
server_text (Greeting Standard) = codes "PREAUTH IMAP4rev2 server ready"
server_text (Greeting Compatible) = codes "OK [" ++ capabilities Compatible ++ codes "] IMAP4rev2 server ready"
server_text (Capabilities profile) = capabilities profile
server_text Namespaces = codes "NAMESPACE ((\"\" \"/\")) NIL NIL"
server_text Identity = codes "ID (\"name\" \"post_house\" \"version\" \"0.2.0\")"
server_text NoneEnabled = codes "ENABLED"

-- the byte is printable ASCII, a space among it: no CR, no LF and no NUL
abbrev pub is_printable : ℕ → Bool
is_printable b = nat_le 32 b && nat_le b 126

-- The text goes on one line: it isn't empty, its bytes are printable, and the last is no brace, so that no literal is announced (RFC 9051, 4.3).
pub record IsLineText (text : List ℕ) : Type 0 where
  pub front : List ℕ
  pub last : ℕ
  pub is : text ≡ front ++ last ∷ []
  pub printable : list_all is_printable text ≡ true
  pub no_count : (last == 125) ≡ false
