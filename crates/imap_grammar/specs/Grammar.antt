-- The command lines of IMAP, as ABNF (RFC 5234) would write them: a rule is the set of the texts that it
-- spells, and P ⨾ Q is P followed by Q. The words that any such grammar needs are those of LMTP's.
use Rattle.std.specs.Prelude.{◌≡◌, ℕ, zero, suc, ◌≤◌, Bool, true, false, ◌||◌, codes, List, [], ◌∷◌, ◌++◌, ◌⊎◌, Result, Ok}
use Rattle.std.specs.Prelude.{Err, Option, Some, None, if◌then◌else◌, min}
use Rattle.std.specs.Str.{str_eq_ignore_ascii_case as is_same}
use Rattle.change_ring.specs.Log.{no_flags}
use Rattle.change_ring.specs.declared.change.Flags.{Flags}
use Rattle.change_ring.specs.declared.flag_op.FlagOp.{FlagOp}
use Rattle.change_ring.specs.declared.flag_op.FlagOp.TheVariants.{Set, Insert, Remove}
use Rattle.envelope.specs.Grammar.{Rule, ◌⨾◌, Exactly, Keyword, Some1, Spaces, Gap, AfterGap, Anything}
use Rattle.mail_date.specs.Grammar as dates
use Rattle.mail_date.specs.InternalBack.{internal_date}
use Rattle.mail_date.specs.declared.stamp.Stamp.{Stamp}
use Rattle.imap_grammar.specs.Bytes.{is_tag, is_atom, is_pattern, is_digit, is_quotable, is_special, is_field_byte, is_base64}
use Rattle.imap_grammar.specs.Numbers.{most_size, number_of}
use Rattle.imap_grammar.specs.declared.command.Literal.{Literal}
use Rattle.imap_grammar.specs.declared.command.SearchReturns.{SearchReturns}
use Rattle.imap_grammar.specs.declared.dates.Day.{Day}
use Rattle.imap_grammar.specs.Items.{fast_items, flags_among}
use Rattle.imap_grammar.specs.Keys.{Key, Always, Never, Has, Lacks, Larger, Smaller, Before, On, Since}
use Rattle.imap_grammar.specs.Keys.{InField, InBody, InText, Positions, Uids, Not, Or, all_of, flag_word, field_name}
use Rattle.imap_grammar.specs.declared.key_words.HeaderField.{HeaderField}
use Rattle.imap_grammar.specs.Returns.{is_return, returns_among}
use Rattle.imap_grammar.specs.Verbs.{word_of, stands_behind_uid, is_left_out, verb_of}
use Rattle.imap_grammar.specs.declared.set.SeqNumber.{SeqNumber}
use Rattle.imap_grammar.specs.declared.set.SeqNumber.TheVariants.{Number, Star}
use Rattle.imap_grammar.specs.declared.set.SeqRange.{SeqRange}
use Rattle.imap_grammar.specs.declared.items.Section.{Section}
use Rattle.imap_grammar.specs.declared.items.Section.TheVariants.{Whole, Header, Text}
use Rattle.imap_grammar.specs.declared.items.BodyPart.{BodyPart}
use Rattle.imap_grammar.specs.declared.items.BodyPart.TheVariants as parts
use Rattle.imap_grammar.specs.declared.items.Span.{Span}
use Rattle.imap_grammar.specs.declared.items.FetchItem.{FetchItem}
use Rattle.imap_grammar.specs.declared.items.FetchItem.TheVariants as fetch
use Rattle.imap_grammar.specs.declared.items.StatusItem.{StatusItem}
use Rattle.imap_grammar.specs.declared.items.StatusItem.TheVariants as status
use Rattle.imap_grammar.specs.declared.command.Verb.{Verb}
use Rattle.imap_grammar.specs.declared.command.Command.{Command}
use Rattle.imap_grammar.specs.declared.command.Command.TheVariants as say
use Rattle.imap_grammar.specs.declared.command.ImapFault.{ImapFault}
use Rattle.imap_grammar.specs.declared.command.ImapFault.TheVariants.{NoTag, Unknown, LeftOut, Arguments}

-- ---- lists

-- each after the separator
abbrev pub Others : {A : Type 0} → Rule → (A → Rule) → List A → Rule
Others between P [] = Exactly []
Others between P (x ∷ xs) = between ⨾ P x ⨾ Others between P xs

-- one or more, with the separator between two of them
abbrev pub Separated : {A : Type 0} → Rule → (A → Rule) → List A → Rule
Separated between P [] = λ _. ⊥
Separated between P (x ∷ xs) = P x ⨾ Others between P xs

abbrev pub Parenthesized : Rule → Rule
Parenthesized P = Exactly (codes "(") ⨾ P ⨾ Exactly (codes ")")

-- ---- strings and numbers

-- what stands in a quoted string that says this
pub data Quoted : List ℕ → List ℕ → Type 0 where
  end : Quoted [] []
  plain : {b : ℕ} {value text : List ℕ} → is_quotable b ≡ true → Quoted value text → Quoted (b ∷ value) (b ∷ text)
  escaped : {b : ℕ} {value text : List ℕ} → is_special b ≡ true → Quoted value text → Quoted (b ∷ value) (92 ∷ b ∷ text)

-- this text, of one or more bytes of the class, or a quoted string that says it
abbrev pub StringOf : (ℕ → Bool) → List ℕ → Rule
StringOf class value text =
    (Exactly value text × Some1 class text) ⊎ (Exactly (codes "\"") ⨾ Quoted value ⨾ Exactly (codes "\"")) text

abbrev pub Name : List ℕ → Rule
Name = StringOf is_atom

abbrev pub Pattern : List ℕ → Rule
Pattern = StringOf is_pattern

-- decimal digits that say this number
abbrev pub Digits : ℕ → Rule
Digits n text = Some1 is_digit text × (number_of text ≡ n)

-- ---- sets

-- a number from 1 on, of 32 bits, with no zero before it
abbrev pub SeqNumberIs : SeqNumber → Rule
SeqNumberIs Star = Exactly (codes "*")
SeqNumberIs (Number n) = λ text. Digits n text × (n ≤ 4294967295) × ((rest : List ℕ) → text ≡ 48 ∷ rest → ⊥)

abbrev pub RangeIs : SeqRange → Rule
RangeIs range text =
    (SeqNumberIs range.from text × (range.to ≡ range.from)) ⊎ (SeqNumberIs range.from ⨾ Exactly (codes ":") ⨾ SeqNumberIs range.to) text

abbrev pub SetIs : List SeqRange → Rule
SetIs = Separated (Exactly (codes ",")) RangeIs

-- ---- items

abbrev pub section_word : Section → List ℕ
section_word Whole = []
section_word Header = codes "HEADER"
section_word Text = codes "TEXT"

-- between quotes. No byte of a field's name is one that has a backslash before it there
abbrev pub QuotedField : Rule
QuotedField = Exactly (codes "\"") ⨾ Some1 is_field_byte ⨾ Exactly (codes "\"")

-- the name of a header field as it stands in the line, in quotes or without (RFC 9051, 9: header-fld-name)
abbrev pub FieldName : List ℕ → Rule
FieldName word text = Exactly word text × (Some1 is_field_byte text ⊎ QuotedField text)

-- a section, or names of header fields in parentheses, with a space between two of them
abbrev pub PartIs : BodyPart → Rule
PartIs (parts.Section section) = Keyword (section_word section)
PartIs (parts.Fields others names) =
    Keyword (if others then codes "HEADER.FIELDS.NOT (" else codes "HEADER.FIELDS (") ⨾ Separated (Exactly (codes " ")) FieldName names ⨾ Exactly
    (codes ")")

-- a number up to the greatest signed one of 64 bits
abbrev pub Number63 : ℕ → Rule
Number63 n text = Digits n text × (n ≤ 9223372036854775807)

abbrev pub PartialIs : Option Span → Rule
PartialIs None = Exactly []
PartialIs (Some span) =
    Exactly (codes "<") ⨾ Number63 span.origin ⨾ Exactly (codes ".") ⨾ (λ text. Number63 span.count text × (1 ≤ span.count)) ⨾ Exactly (codes ">")

abbrev pub rfc822_word : Section → List ℕ
rfc822_word Whole = codes "RFC822"
rfc822_word Header = codes "RFC822.HEADER"
rfc822_word Text = codes "RFC822.TEXT"

abbrev pub ItemIs : FetchItem → Rule
ItemIs fetch.Uid = Keyword (codes "UID")
ItemIs fetch.Flags = Keyword (codes "FLAGS")
ItemIs fetch.Size = Keyword (codes "RFC822.SIZE")
ItemIs fetch.InternalDate = Keyword (codes "INTERNALDATE")
ItemIs (fetch.Rfc822 which) = Keyword (rfc822_word which)
ItemIs (fetch.Body peek part span) = Keyword (if peek then codes "BODY.PEEK[" else codes "BODY[") ⨾ PartIs part ⨾ Exactly (codes "]") ⨾ PartialIs span

-- one item, or FAST, or one or more items in parentheses
abbrev pub ItemsAre : List FetchItem → Rule
ItemsAre items text =
    ((item : FetchItem) × (items ≡ item ∷ []) × ItemIs item text)
    ⊎ ((items ≡ fast_items) × Keyword (codes "FAST") text)
    ⊎ Parenthesized (Separated Gap ItemIs items) text

abbrev pub status_word : StatusItem → List ℕ
status_word status.Messages = codes "MESSAGES"
status_word status.UidNext = codes "UIDNEXT"
status_word status.UidValidity = codes "UIDVALIDITY"
status_word status.Unseen = codes "UNSEEN"
status_word status.Deleted = codes "DELETED"
status_word status.Size = codes "SIZE"
status_word status.Recent = codes "RECENT"

abbrev pub StatusItemIs : StatusItem → Rule
StatusItemIs item = Keyword (status_word item)

-- ---- flags

-- an atom, or one after a backslash
abbrev pub Flag : Rule
Flag text = Some1 is_atom text ⊎ (Exactly (codes "\\") ⨾ Some1 is_atom) text

abbrev pub FlagWord : List ℕ → Rule
FlagWord word text = Exactly word text × Flag word

-- the words of one or more flags, or of none
abbrev pub FlagWords : List (List ℕ) → Rule
FlagWords words text = Separated Gap FlagWord words text ⊎ ((words ≡ []) × Exactly [] text)

-- flags in parentheses, and none of them too, or one or more without parentheses
abbrev pub FlagsAre : Flags → Rule
FlagsAre flags text = (words : List (List ℕ)) × (flags_among words ≡ flags)
    × (Separated Gap FlagWord words text ⊎ Parenthesized (FlagWords words) text)

-- flags in parentheses, and none of them too
abbrev pub FlagList : Flags → Rule
FlagList flags text = (words : List (List ℕ)) × (flags_among words ≡ flags) × Parenthesized (FlagWords words) text

-- the word of the operation, and its flags
abbrev pub operation_word : FlagOp → List ℕ
operation_word (Set flags) = codes "FLAGS"
operation_word (Insert flags) = codes "+FLAGS"
operation_word (Remove flags) = codes "-FLAGS"

abbrev pub flags_of : FlagOp → Flags
flags_of (Set flags) = flags
flags_of (Insert flags) = flags
flags_of (Remove flags) = flags

abbrev pub ChangeIs : Bool → FlagOp → Rule
ChangeIs silent change =
    Keyword (operation_word change) ⨾ Keyword (if silent then codes ".SILENT" else []) ⨾ Gap ⨾ FlagsAre (flags_of change)

-- ---- new messages

-- the flags of a new message, and a gap; or nothing, and it has none
abbrev pub GivenFlags : Flags → Rule
GivenFlags flags text = ((flags ≡ no_flags) × Exactly [] text) ⊎ (FlagList flags ⨾ Gap) text

-- what stands between the quotes of a quoted string, as it is spelled there
abbrev pub SpelledInQuotes : List ℕ → Rule
SpelledInQuotes inner text = Exactly inner text × ((value : List ℕ) × Quoted value text)

abbrev pub QuotedText : List ℕ → Rule
QuotedText inner = Exactly (codes "\"") ⨾ SpelledInQuotes inner ⨾ Exactly (codes "\"")

-- The date and time of a new message, and a gap; or nothing. A quoted string that is no date, or one that the calendar or the clock hasn't, is as
-- good as none.
abbrev pub GivenDate : Option Stamp → Rule
GivenDate date text =
    ((date ≡ None) × Exactly [] text)
    ⊎ ((inner : List ℕ) × (internal_date inner ≡ date) × (QuotedText inner ⨾ Gap) text)

-- digits that say how many bytes: those that say more than the most count as the most
abbrev pub SizeIs : ℕ → Rule
SizeIs size text = Some1 is_digit text × (size ≡ min (number_of text) most_size)

-- `{n}`, where the client waits to be asked for the bytes, or `{n+}`
abbrev pub LiteralIs : Literal → Rule
LiteralIs literal = Exactly (codes "{") ⨾ SizeIs literal.size ⨾ Exactly (if literal.waits then codes "}" else codes "+}")

-- ---- AUTHENTICATE, ENABLE and ID

-- this text, of one or more bytes of the class
abbrev pub WordOf : (ℕ → Bool) → List ℕ → Rule
WordOf class word text = Exactly word text × Some1 class text

-- what a client responds before it is asked: nothing, or a word of base64 (RFC 9051, 6.2.2)
abbrev pub InitialIs : Option (List ℕ) → Rule
InitialIs None = Exactly []
InitialIs (Some response) = Gap ⨾ WordOf is_base64 response

-- names of capabilities, one or more (RFC 9051, 6.3.1)
abbrev pub CapabilityNames : Rule
CapabilityNames text = (names : List (List ℕ)) × Separated Gap (WordOf is_atom) names text

-- a quoted string that says this
abbrev pub InQuotes : List ℕ → Rule
InQuotes value = Exactly (codes "\"") ⨾ Quoted value ⨾ Exactly (codes "\"")

-- what a client says in a field of itself: NIL is nothing
abbrev pub IdValue : Option (List ℕ) → Rule
IdValue None = Keyword (codes "NIL")
IdValue (Some value) = InQuotes value

-- the field's name, and what is said in it
abbrev pub IdField : List ℕ × Option (List ℕ) → Rule
IdField field = InQuotes field.0 ⨾ Gap ⨾ IdValue field.1

-- NIL, or fields in parentheses, and none of them too (RFC 2971, 3.1)
abbrev pub IdParameters : Rule
IdParameters text =
    Keyword (codes "NIL") text
    ⊎ Parenthesized (Exactly []) text
    ⊎ ((fields : List (List ℕ × Option (List ℕ))) × Parenthesized (Separated Gap IdField fields) text)

-- ---- searches

-- `1-Feb-1994`: a day by one digit or two, the name of a month in upper or lower case, and a year by four digits
abbrev pub DateText : Day → Rule
DateText d = dates.Day d.day ⨾ Exactly (codes "-") ⨾ dates.Month d.month ⨾ Exactly (codes "-") ⨾ dates.Digits 4 d.year

-- a date, between quotes or not. Each month has the days from 1 to 31 here
abbrev pub DateIs : Day → Rule
DateIs d text = (1 ≤ d.day) × (d.day ≤ 31) × (DateText d text ⊎ (Exactly (codes "\"") ⨾ DateText d ⨾ Exactly (codes "\"")) text)

-- a key with no other key in it
abbrev pub SingleIs : Key → Rule
SingleIs Always text = Keyword (codes "ALL") text ⊎ Keyword (codes "OLD") text ⊎ (Keyword (codes "UNKEYWORD") ⨾ Gap ⨾ Some1 is_atom) text
SingleIs Never text = Keyword (codes "NEW") text ⊎ Keyword (codes "RECENT") text ⊎ (Keyword (codes "KEYWORD") ⨾ Gap ⨾ Some1 is_atom) text
SingleIs (Has flag) text = Keyword (flag_word flag) text
SingleIs (Lacks flag) text = Keyword (codes "UN" ++ flag_word flag) text
SingleIs (Larger n) text = (Keyword (codes "LARGER") ⨾ Gap ⨾ Number63 n) text
SingleIs (Smaller n) text = (Keyword (codes "SMALLER") ⨾ Gap ⨾ Number63 n) text
SingleIs (Before day) text = (Keyword (codes "BEFORE") ⨾ Gap ⨾ DateIs day) text
SingleIs (On day) text = (Keyword (codes "ON") ⨾ Gap ⨾ DateIs day) text
SingleIs (Since day) text = (Keyword (codes "SINCE") ⨾ Gap ⨾ DateIs day) text
SingleIs (InField name words) text =
    (Keyword (codes "HEADER") ⨾ Gap ⨾ Name name ⨾ Gap ⨾ Name words) text
    ⊎ ((field : HeaderField) × (field_name field ≡ name) × (Keyword (field_name field) ⨾ Gap ⨾ Name words) text)
SingleIs (InBody words) text = (Keyword (codes "BODY") ⨾ Gap ⨾ Name words) text
SingleIs (InText words) text = (Keyword (codes "TEXT") ⨾ Gap ⨾ Name words) text
SingleIs (Positions set) text = SetIs set text
SingleIs (Uids set) text = (Keyword (codes "UID") ⨾ Gap ⨾ SetIs set) text
SingleIs _ text = ⊥

-- keys one after the other, each of them spelled as `each` says
abbrev pub KeysOf : (Key → Rule) → Key → Rule
KeysOf each key text = (first : Key) × (others : List Key) × (all_of first others ≡ key) × Separated Gap each (first ∷ others) text

-- NOT, OR or parentheses, around keys that are spelled as `each` says
abbrev pub AroundIs : (Key → Rule) → Key → Rule
AroundIs each key text =
    ((inner : Key) × (Not inner ≡ key) × (Keyword (codes "NOT") ⨾ Gap ⨾ each inner) text)
    ⊎ ((one : Key) × (other : Key) × (Or one other ≡ key) × (Keyword (codes "OR") ⨾ Gap ⨾ each one ⨾ Gap ⨾ each other) text)
    ⊎ Parenthesized (KeysOf each key) text

-- a key, with NOT, OR and parentheses around one another at most so many levels deep
unfoldable pub KeyIs : ℕ → Key → Rule
KeyIs zero key text = SingleIs key text
KeyIs (suc levels) key text = SingleIs key text ⊎ AroundIs (KeyIs levels) key text

-- how deep they may stand around one another: no deeper than the server's stack has room for
abbrev pub most_levels : ℕ
most_levels = 32

-- what a search may be asked for
abbrev pub ReturnWord : List ℕ → Rule
ReturnWord word text = Exactly word text × (is_return word ≡ true)

-- words in parentheses, or none of them
abbrev pub ReturnWords : List (List ℕ) → Rule
ReturnWords words text = Separated Gap ReturnWord words text ⊎ ((words ≡ []) × Exactly [] text)

-- what a search is to return, and a gap; or nothing
abbrev pub ReturnsAre : Option SearchReturns → Rule
ReturnsAre None text = Exactly [] text
ReturnsAre (Some returns) text =
    (words : List (List ℕ)) × (returns_among words ≡ returns) × (Keyword (codes "RETURN") ⨾ Gap ⨾ Parenthesized (ReturnWords words) ⨾ Gap) text

-- a charset in which keys are read here. There is no key whose text depends on it
abbrev pub is_known_charset : List ℕ → Bool
is_known_charset name = is_same name (codes "US-ASCII") || is_same name (codes "UTF-8")

-- a charset and a gap; or nothing, which is as good as one that is known
abbrev pub CharsetIs : Bool → Rule
CharsetIs known text =
    ((known ≡ true) × Exactly [] text)
    ⊎ ((name : List ℕ) × (is_known_charset name ≡ known) × (Keyword (codes "CHARSET") ⨾ Gap ⨾ Name name ⨾ Gap) text)

-- ---- lines

abbrev pub TagIs : List ℕ → Rule
TagIs tag text = Exactly tag text × Some1 is_tag text

-- a word, or UID and a word
abbrev pub VerbWords : Bool → List ℕ → Rule
VerbWords true word = Keyword (codes "UID") ⨾ Gap ⨾ Keyword word
VerbWords false word = Keyword word

abbrev pub VerbIs : Verb → Rule
VerbIs verb = VerbWords (stands_behind_uid verb) (word_of verb)

-- what follows the verb. A command that isn't here stands alone
abbrev pub ArgumentsOf : Command → Rule
ArgumentsOf (say.Login user password) = Gap ⨾ Name user ⨾ Gap ⨾ Name password
ArgumentsOf (say.Authenticate authenticate) = Gap ⨾ WordOf is_atom authenticate.mechanism ⨾ InitialIs authenticate.initial
ArgumentsOf say.StartTls = AfterGap Anything
ArgumentsOf (say.Select name) = Gap ⨾ Name name
ArgumentsOf (say.Examine name) = Gap ⨾ Name name
ArgumentsOf (say.List reference pattern) = Gap ⨾ Name reference ⨾ Gap ⨾ Pattern pattern
ArgumentsOf (say.Status name items) = Gap ⨾ Name name ⨾ Gap ⨾ Parenthesized (Separated Gap StatusItemIs items)
ArgumentsOf (say.UidExpunge set) = Gap ⨾ SetIs set
ArgumentsOf (say.Fetch fetch) = Gap ⨾ SetIs fetch.set ⨾ Gap ⨾ ItemsAre fetch.items
ArgumentsOf (say.Store store) = Gap ⨾ SetIs store.set ⨾ Gap ⨾ ChangeIs store.silent store.change
ArgumentsOf (say.Copy copy) = Gap ⨾ SetIs copy.set ⨾ Gap ⨾ Name copy.name
ArgumentsOf (say.Append append) = Gap ⨾ Name append.name ⨾ Gap ⨾ GivenFlags append.flags ⨾ GivenDate append.date ⨾ LiteralIs append.literal
ArgumentsOf (say.Search search) = Gap ⨾ ReturnsAre search.returns ⨾ CharsetIs search.known_charset ⨾ KeysOf (KeyIs most_levels) search.keys
ArgumentsOf (say.Lsub reference pattern) = Gap ⨾ Name reference ⨾ Gap ⨾ Pattern pattern
ArgumentsOf (say.Subscribe name) = Gap ⨾ Name name
ArgumentsOf (say.Unsubscribe name) = Gap ⨾ Name name
ArgumentsOf say.Enable = Gap ⨾ CapabilityNames
ArgumentsOf say.Id = Gap ⨾ IdParameters
ArgumentsOf _ = Exactly []

-- a line that is this command under this tag. Spaces at its end say nothing
abbrev pub Line : List ℕ → Command → Rule
Line tag command = TagIs tag ⨾ Gap ⨾ VerbIs (verb_of command) ⨾ ArgumentsOf command ⨾ Spaces

-- a line that begins with this tag, and with this verb after it
abbrev pub BeginsWith : List ℕ → Verb → Rule
BeginsWith tag verb = TagIs tag ⨾ Gap ⨾ VerbIs verb ⨾ AfterGap Anything

-- why a line is no command. Each next fault says that the line has what the one before it lacks
abbrev pub IsFault : List ℕ → ImapFault → Type 0
IsFault line NoTag = (tag : List ℕ) → (TagIs tag ⨾ AfterGap Anything) line → ⊥
IsFault line (Unknown tag) = (TagIs tag ⨾ AfterGap Anything) line × ((verb : Verb) → BeginsWith tag verb line → ⊥)
IsFault line (LeftOut tag) = (verb : Verb) × (is_left_out verb ≡ true) × BeginsWith tag verb line
IsFault line (Arguments tag verb) =
    (is_left_out verb ≡ false) × BeginsWith tag verb line × ((command : Command) → Line tag command line → ⊥)

-- what a line is
abbrev pub Reads : List ℕ → Result (List ℕ × Command) ImapFault → Type 0
Reads line (Ok read) = Line read.0 read.1 line
Reads line (Err fault) = IsFault line fault

-- the line that ends an IDLE (RFC 2177). It has no tag, and spaces at its end say nothing
abbrev pub DoneLine : Rule
DoneLine = Keyword (codes "DONE") ⨾ Spaces
