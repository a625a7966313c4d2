-- What holds of a client that reads what its session says.
use Rattle.std.specs.Prelude.{◌≡◌, ℕ, ◌<◌, ◌^◌, Bool, false, true, ◌||◌, All, Contains, List, [], ◌++◌, length, reverse, codes, decimal, Some, Ok, IfSome}
use Rattle.std.specs.List.{list_any}
use Rattle.change_ring.specs.declared.change.Change.{Change}
use Rattle.change_ring.specs.declared.change.Change.TheVariants.{Flags as SetFlags}
use Rattle.change_ring.specs.declared.change.Flags.{Flags}
use Rattle.change_ring.specs.Log.{added, replay}
use Rattle.cursor_set.specs.Lines.{line, lines}
use Rattle.change_ring.specs.View.{position}
use Rattle.mailbox.specs.declared.clients.Opening.{Opening}
use Rattle.mailbox.specs.declared.clients.Row.{Row}
use Rattle.mailbox.specs.declared.clients.MailFault.{MailFault}
use Rattle.imap_answers.specs.Answers.{is_uid, literal, row_answer, flags_answer, opening_text}
use Rattle.imap_grammar.specs.declared.items.FetchItem.{FetchItem}
use Rattle.imap_grammar.specs.Reading.{read}
use Rattle.imap_grammar.specs.declared.command.Command.{Command}
use Rattle.imap_session.specs.Exchange.{Answer, Exchange, Standing, Turn, bye, played, refusal_text, tagged}
use Rattle.imap_session.specs.Happenings.{kept_tag, Happening, IsPrinted}
use Rattle.imap_session.specs.declared.standing.Profile.{Profile}
use Rattle.imap_session.specs.Commands.{greeting, idle_turn, turn_of, turn_of_long_line, turn_of_verdict}
use Rattle.delivery_token.specs.declared.Verdict.{Verdict}
use Rattle.laws_client.specs.Client.{Client, Known, Messages, reads}
use Rattle.laws_client.specs.Beliefs.{Follows, HearsUid, IsKnownTo, KeepsUids, Leads, Leaves, MayShow, TellsNothing}
use Rattle.laws_client.specs.Clients.{Each, IsOf, IsRight}
use Rattle.laws_client.specs.Commands.{IsFollowed}
use Rattle.laws_client.specs.Fetches.{AreToldParts, IsNumbered}
use Rattle.laws_client.specs.Talks.{Talks}
use Rattle.laws_client.specs.ListTurns.{AreTags, IsPlain, IsRowOf, IsTag, Says, SeesAll}

-- ---- bytes

-- it makes no difference in which pieces the bytes come
abbrev pub PiecesAreTheWhole : Type 0
PiecesAreTheWhole = (client : Client) (one two : List ℕ) → reads client (one ++ two) ≡ reads (reads client one) two

-- a client within a line, of which these bytes came, last byte first
abbrev pub within : Messages → List ℕ → Client
within messages line = record { messages = messages; line = line; literal = 0 }

-- within a line a literal leaves nothing but its count, as if that stood there alone
abbrev pub LiteralLeavesItsCount : Type 0
LiteralLeavesItsCount = (messages : Messages) (line bytes : List ℕ) → length bytes < 2 ^ 64
    → reads (within messages line) (literal bytes) ≡ within messages (reverse (codes "{" ++ decimal (length bytes) ++ codes "}\r\n") ++ line)

-- so a client can't tell two texts of one length apart, whatever lines they have
abbrev pub LiteralsAreAlike : Type 0
LiteralsAreAlike = (messages : Messages) (line one two : List ℕ) → length one < 2 ^ 64 → length one ≡ length two
    → reads (within messages line) (literal one) ≡ reads (within messages line) (literal two)

-- ---- lines

-- a client that is right has as many messages as its session counts
abbrev pub ListIsAsLong : Type 0
ListIsAsLong = (view : List ℕ) (list : List Known) → IsRight view list → length list ≡ length view

-- the lines of changes lead a client from the view that they are shown to, to the view that they leave
abbrev pub LinesAreFollowed : Type 0
LinesAreFollowed = (view : List ℕ) (changes : List Change) → MayShow view changes → Leads view (lines view changes) (replay view changes)

-- a tagged line, whatever its words
abbrev pub TaggedTellsNothing : Type 0
TaggedTellsNothing = (tag words : List ℕ) → IsTag tag → IsPlain words → TellsNothing (tagged tag words)

abbrev pub ByeTellsNothing : Type 0
ByeTellsNothing = (words : List ℕ) → IsPlain words → TellsNothing (bye words)

-- what is said where a store or memory refuses
abbrev pub RefusalTellsNothing : Type 0
RefusalTellsNothing = (tag : List ℕ) (fault : MailFault) → IsTag tag → TellsNothing (refusal_text tag fault)

abbrev pub GreetingTellsNothing : Type 0
GreetingTellsNothing = (profile : Profile) → TellsNothing (greeting profile)

-- ---- turns

-- Over any store, whatever it answers, and wherever it or memory refuses: the bytes of a turn lead a client from the session's view before it to the
-- view after it.
abbrev pub TurnIsFollowed : Type 0
TurnIsFollowed = (tag view : List ℕ) (now : Standing) (x : Exchange) (answers : List Answer) (turn : Turn) (new : List ℕ)
    → IsTag tag → played tag now x answers ≡ Some turn → Says tag view x → SeesAll view turn.events new → Leads view turn.bytes new

-- and so do those of a turn of a session that idles
abbrev pub IdleTurnIsFollowed : Type 0
IdleTurnIsFollowed = (view : List ℕ) (now : Standing) (answers : List Answer) (turn : Turn) (new : List ℕ)
    → idle_turn now answers ≡ Some turn → SeesAll view turn.events new → Leads view turn.bytes new

-- ---- lines that a client sends

-- whatever the line is, its tag is one
abbrev pub TagsAreTags : Type 0
TagsAreTags = (line tag : List ℕ) (command : Command) → read line ≡ Ok (tag, command) → IsTag tag

-- and so are the tags that a session keeps, if they were before: it begins with none
abbrev pub KeptTagsAreTags : Type 0
KeptTagsAreTags = (now : Standing) (line : List ℕ) (answers : List Answer) (turn : Turn) → AreTags now → turn_of now line answers ≡ Some turn
    → AreTags turn.standing

-- Over any store, whatever it answers: after the answer to such a line a client is right about the session's view. Of the exchange nothing is asked.
abbrev pub AnswerIsFollowed : Type 0
AnswerIsFollowed = (now : Standing) (line view : List ℕ) (answers : List Answer) (turn : Turn) (new : List ℕ)
    → IsFollowed now view line → turn_of now line answers ≡ Some turn → SeesAll view turn.events new → Leads view turn.bytes new

-- and after the answer to a line that is too long
abbrev pub LongLineTellsNothing : Type 0
LongLineTellsNothing = (now : Standing) → IfSome (kept_tag now) IsTag → TellsNothing (turn_of_long_line now).bytes

-- and after the answer to the verdict on a message
abbrev pub VerdictIsFollowed : Type 0
VerdictIsFollowed = (now : Standing) (verdict : Verdict) (view : List ℕ) (answers : List Answer) (turn : Turn) (new : List ℕ)
    → IfSome now.mailing.sent (λ sent. IsTag sent.tag) → IsPrinted verdict → turn_of_verdict now verdict answers ≡ Some turn
    → SeesAll view turn.events new → Leads view turn.bytes new

-- ---- answers about messages

-- the answer about a row, whatever was asked of it, at its position in the view
abbrev pub RowIsTold : Type 0
RowIsTold = (view : List ℕ) (uid : ℕ) (by_uid : Bool) (items : List FetchItem) (row : Row) → Contains view uid → IsNumbered view
    → IsRowOf uid (Some row) → AreToldParts items
    → Leaves view (row_answer (position uid view) by_uid items row)

-- and the flags after a STORE
abbrev pub FlagsAreTold : Type 0
FlagsAreTold = (view : List ℕ) (uid : ℕ) (by_uid : Bool) (flags : Flags) → Contains view uid → IsNumbered view
    → Leaves view (flags_answer by_uid (position uid view) uid flags)

-- What SELECT says of a mailbox before its tagged line leads a client with no messages to the view of a session that enters there, which is as long
-- as the mailbox is told to be.
abbrev pub OpeningIsFollowed : Type 0
OpeningIsFollowed = (read_only : Bool) (name : List ℕ) (opening : Opening) (view : List ℕ) → IsPlain name → opening.count ≡ length view
    → opening.count < 2 ^ 64 → opening.uidvalidity < 2 ^ 64 → opening.uidnext < 2 ^ 64 → Follows IsOf [] (opening_text read_only name opening) view

-- ---- UIDs that are told

-- the line of a change of flags, which has the message's UID
abbrev pub ChangeTellsUid : Type 0
ChangeTellsUid = (view : List ℕ) (uid : ℕ) (flags : Flags) → Contains view uid → IsNumbered view → HearsUid view uid (line view (SetFlags uid flags))

-- the flags after a STORE by UID
abbrev pub StoreTellsUid : Type 0
StoreTellsUid = (view : List ℕ) (uid : ℕ) (flags : Flags) → Contains view uid → IsNumbered view
    → HearsUid view uid (flags_answer true (position uid view) uid flags)

-- and the answer to a FETCH by UID, or to one that asked for UID
abbrev pub FetchTellsUid : Type 0
FetchTellsUid = (view : List ℕ) (uid : ℕ) (by_uid : Bool) (items : List FetchItem) (row : Row) → Contains view uid → IsNumbered view
    → IsRowOf uid (Some row) → AreToldParts items
    → (by_uid || list_any is_uid items) ≡ true → HearsUid view uid (row_answer (position uid view) by_uid items row)

-- What is known stays known, whatever else is told of a message at its position,
abbrev pub RowKeepsUids : Type 0
RowKeepsUids = (view : List ℕ) (uid : ℕ) (by_uid : Bool) (items : List FetchItem) (row : Row) → Contains view uid → IsNumbered view
    → IsRowOf uid (Some row) → AreToldParts items
    → KeepsUids view (row_answer (position uid view) by_uid items row)

abbrev pub FlagsKeepUids : Type 0
FlagsKeepUids = (view : List ℕ) (uid : ℕ) (by_uid : Bool) (flags : Flags) → Contains view uid → IsNumbered view
    → KeepsUids view (flags_answer by_uid (position uid view) uid flags)

-- and by the lines of changes, as long as the message is there. Of those that come with these changes nothing is known before.
abbrev pub LinesKeepUids : Type 0
LinesKeepUids = (view : List ℕ) (changes : List Change) (known : ℕ → Bool) (list : List Known) → MayShow view changes
    → All (λ uid. known uid ≡ false) (added changes)
    → Each (IsKnownTo known) view list → Follows (IsKnownTo known) list (lines view changes) (replay view changes)

-- ---- a whole talk

-- Whatever comes, one line, turn, literal or verdict behind the other: a client that was right about the session's view reads all that is written,
-- and is right about the view to which it leads.
abbrev pub TalkIsFollowed : Type 0
TalkIsFollowed = (now : Standing) (view : List ℕ) (talk : List Happening) (bytes new : List ℕ) → AreTags now → Talks now view talk bytes new
    → Leads view bytes new
