-- Reading the keys of a search from left to right, as Reading does with a line. Nobody has to believe this file.
use Rattle.std.specs.Prelude.{ℕ, zero, suc, codes, List, [], ◌∷◌, ◌++◌, length, take, drop, Option, Some, None, ◌==◌, ◌&&◌, nat_le, if◌then◌else◌}
use Rattle.std.specs.List.{prefix_len}
use Rattle.std.specs.Option.{option_map}
use Rattle.std.specs.Str.{str_eq_ignore_ascii_case as is_same}
use Rattle.envelope.specs.Reading.{◌>>=◌, past_byte}
use Rattle.mail_date.specs.InternalBack.{four_at}
use Rattle.mail_date.specs.Reading.{day_at, month_at}
use Rattle.imap_grammar.specs.Bytes.{is_atom, is_key_byte}
use Rattle.imap_grammar.specs.Front.{past_gap, is_blank}
use Rattle.imap_grammar.specs.Items.{greatest_span, is_word_of}
use Rattle.imap_grammar.specs.Keys.{Key, all_of, field_name, flag_word}
use Rattle.imap_grammar.specs.Keys as keys
use Rattle.imap_grammar.specs.Numbers.{number_up_to}
use Rattle.imap_grammar.specs.Sets.{set_at}
use Rattle.imap_grammar.specs.Strings.{string_at}
use Rattle.imap_grammar.specs.declared.dates.Day.{Day}
use Rattle.imap_grammar.specs.declared.key_words.HeaderField.TheVariants.{Subject, From, To, Cc, Bcc}
use Rattle.imap_grammar.specs.declared.key_words.SystemFlag.TheVariants.{Answered, Deleted, Draft, Flagged, Seen}
use Rattle.imap_grammar.specs.declared.key_words.KeyWord.{KeyWord}
use Rattle.imap_grammar.specs.declared.key_words.KeyWord.TheVariants.{All, Old, New, Recent, Has, Lacks, Keyword, Unkeyword}
use Rattle.imap_grammar.specs.declared.key_words.KeyWord.TheVariants.{Larger, Smaller, Before, On, Since, Uid}
use Rattle.imap_grammar.specs.declared.key_words.KeyWord.TheVariants.{Header, Field, Body, Text, Not, Or, Charset, Return}
use Rattle.imap_grammar.specs.declared.key_words.SingleKey.{SingleKey}
use Rattle.imap_grammar.specs.declared.key_words.SingleKey.TheVariants as single

-- ---- words

abbrev pub spelling : KeyWord → List ℕ
spelling All = codes "ALL"
spelling Old = codes "OLD"
spelling New = codes "NEW"
spelling Recent = codes "RECENT"
spelling (Has flag) = flag_word flag
spelling (Lacks flag) = codes "UN" ++ flag_word flag
spelling Keyword = codes "KEYWORD"
spelling Unkeyword = codes "UNKEYWORD"
spelling Larger = codes "LARGER"
spelling Smaller = codes "SMALLER"
spelling Before = codes "BEFORE"
spelling On = codes "ON"
spelling Since = codes "SINCE"
spelling Header = codes "HEADER"
spelling (Field field) = field_name field
spelling Body = codes "BODY"
spelling Text = codes "TEXT"
spelling Uid = codes "UID"
spelling Not = codes "NOT"
spelling Or = codes "OR"
spelling Charset = codes "CHARSET"
spelling Return = codes "RETURN"

abbrev pub flag_words : List KeyWord
flag_words =
    Has Answered ∷ Has Deleted ∷ Has Draft ∷ Has Flagged ∷ Has Seen
    ∷ Lacks Answered ∷ Lacks Deleted ∷ Lacks Draft ∷ Lacks Flagged ∷ Lacks Seen ∷ []

abbrev pub other_words : List KeyWord
other_words = All ∷ Old ∷ New ∷ Recent ∷ Keyword ∷ Unkeyword ∷ Larger ∷ Smaller ∷ Before ∷ On ∷ Since ∷ Uid ∷ Not ∷ Or ∷ Charset ∷ Return ∷ []

abbrev pub text_words : List KeyWord
text_words = Header ∷ Field Subject ∷ Field From ∷ Field To ∷ Field Cc ∷ Field Bcc ∷ Body ∷ Text ∷ []

abbrev pub word_among : List KeyWord → List ℕ → Option KeyWord
word_among [] word = None
word_among (w ∷ ws) word = if is_same word (spelling w) then Some w else word_among ws word

abbrev pub or_word : Option KeyWord → Option KeyWord → Option KeyWord
or_word (Some w) other = Some w
or_word None other = other

abbrev pub key_word_of : List ℕ → Option KeyWord
key_word_of word = or_word (word_among flag_words word) (or_word (word_among other_words word) (word_among text_words word))

-- what stands before the first space or parenthesis, and the rest
abbrev pub key_word_at : List ℕ → List ℕ × List ℕ
key_word_at bytes = (take (prefix_len is_key_byte bytes) bytes, drop (prefix_len is_key_byte bytes) bytes)

-- ---- dates

-- a day, a month and a year, and what comes after them
abbrev pub date_at : List ℕ → Option (Day × List ℕ)
date_at bytes = do
  d ← day_at bytes
  a ← past_byte 45 d.1
  m ← month_at a
  b ← past_byte 45 m.1
  y ← four_at b
  Some (record { year = y.0; month = m.0; day = d.0 }, y.1)

-- what was read, if months have the day and nothing follows
abbrev pub if_date : Day × List ℕ → Option Day
if_date read = if nat_le 1 read.0.day && nat_le read.0.day 31 && (length read.1 == 0) then Some read.0 else None

-- from behind the quote that opens
abbrev pub quoted_date : List ℕ → Option Day
quoted_date bytes = do
  read ← date_at bytes
  rest ← past_byte 34 read.1
  if_date (read.0, rest)

abbrev pub date_or_quoted : Option (List ℕ) → List ℕ → Option Day
date_or_quoted (Some start) text = quoted_date start
date_or_quoted None text = date_at text >>= if_date

-- the day that a text says, between quotes or not
unfoldable pub date_in : List ℕ → Option Day
date_in text = date_or_quoted (past_byte 34 text) text

-- ---- keys with no other key in them

-- those of one word
abbrev pub word_key : KeyWord → Option SingleKey
word_key All = Some single.Always
word_key Old = Some single.Always
word_key New = Some single.Never
word_key Recent = Some single.Never
word_key (Has flag) = Some (single.Has flag)
word_key (Lacks flag) = Some (single.Lacks flag)
word_key _ = None

-- those of a word, and of another behind a gap
abbrev pub argument_key : KeyWord → List ℕ → Option SingleKey
argument_key Keyword text = if is_word_of is_atom text then Some single.Never else None
argument_key Unkeyword text = if is_word_of is_atom text then Some single.Always else None
argument_key Larger text = number_up_to greatest_span text >>= λ n. Some (single.Larger n)
argument_key Smaller text = number_up_to greatest_span text >>= λ n. Some (single.Smaller n)
argument_key Before text = date_in text >>= λ day. Some (single.Before day)
argument_key On text = date_in text >>= λ day. Some (single.On day)
argument_key Since text = date_in text >>= λ day. Some (single.Since day)
argument_key Uid text = set_at text >>= λ set. Some (single.Uids set)
argument_key _ text = None

abbrev pub argument_at : KeyWord → List ℕ → Option (SingleKey × List ℕ)
argument_at word bytes = do
  start ← past_gap bytes
  key ← argument_key word (key_word_at start).0
  Some (key, (key_word_at start).1)

-- a string behind a gap, and what comes after it
abbrev pub string_behind : List ℕ → Option (List ℕ × List ℕ)
string_behind bytes = do
  start ← past_gap bytes
  string_at is_atom start

-- the key that is made of such a string
abbrev pub words_at : (List ℕ → SingleKey) → List ℕ → Option (SingleKey × List ℕ)
words_at make bytes = do
  words ← string_behind bytes
  Some (make words.0, words.1)

abbrev pub header_at : List ℕ → Option (SingleKey × List ℕ)
header_at bytes = do
  name ← string_behind bytes
  words_at (single.InField name.0) name.1

-- those of a word, and of what stands behind it
abbrev pub key_behind : KeyWord → List ℕ → Option (SingleKey × List ℕ)
key_behind Header bytes = header_at bytes
key_behind (Field field) bytes = words_at (single.InField (field_name field)) bytes
key_behind Body bytes = words_at single.InBody bytes
key_behind Text bytes = words_at single.InText bytes
key_behind word bytes = argument_at word bytes

abbrev pub single_or : Option SingleKey → KeyWord → List ℕ → Option (SingleKey × List ℕ)
single_or (Some key) word rest = Some (key, rest)
single_or None word rest = key_behind word rest

-- a key that begins with this word, and what comes after it: where it is no word of a key it is a set
abbrev pub single_at : Option KeyWord → List ℕ × List ℕ → Option (SingleKey × List ℕ)
single_at (Some word) cut = single_or (word_key word) word cut.1
single_at None cut = set_at cut.0 >>= λ set. Some (single.Positions set, cut.1)

abbrev pub key_of : SingleKey → Key
key_of single.Always = keys.Always
key_of single.Never = keys.Never
key_of (single.Has flag) = keys.Has flag
key_of (single.Lacks flag) = keys.Lacks flag
key_of (single.Larger n) = keys.Larger n
key_of (single.Smaller n) = keys.Smaller n
key_of (single.Before day) = keys.Before day
key_of (single.On day) = keys.On day
key_of (single.Since day) = keys.Since day
key_of (single.InField name words) = keys.InField name words
key_of (single.InBody words) = keys.InBody words
key_of (single.InText words) = keys.InText words
key_of (single.Positions set) = keys.Positions set
key_of (single.Uids set) = keys.Uids set

abbrev pub with_key : SingleKey × List ℕ → Key × List ℕ
with_key read = (key_of read.0, read.1)

-- ---- keys around others, which `each` reads

abbrev pub Reader : Type 0
Reader = List ℕ → Option (Key × List ℕ)

abbrev pub not_at : Reader → List ℕ → Option (Key × List ℕ)
not_at each bytes = do
  start ← past_gap bytes
  inner ← each start
  Some (keys.Not inner.0, inner.1)

abbrev pub or_at : Reader → List ℕ → Option (Key × List ℕ)
or_at each bytes = do
  start ← past_gap bytes
  one ← each start
  next ← past_gap one.1
  other ← each next
  Some (keys.Or one.0 other.0, other.1)

-- where one key more begins: behind a gap, unless nothing stands there
abbrev pub next_start : List ℕ → Option (List ℕ)
next_start bytes = if is_blank bytes then None else past_gap bytes

abbrev pub others_from : Reader → (List ℕ → Option (List Key × List ℕ)) → Option (List ℕ) → List ℕ → Option (List Key × List ℕ)
others_from each others None bytes = Some ([], bytes)
others_from each others (Some start) bytes = do
  read ← each start
  more ← others read.1
  Some (read.0 ∷ more.0, more.1)

-- further keys, each behind a gap: fewer than so many
abbrev pub others_at : Reader → ℕ → List ℕ → Option (List Key × List ℕ)
others_at each zero bytes = None
others_at each (suc n) bytes = others_from each (others_at each n) (next_start bytes) bytes

-- keys one after the other
abbrev pub keys_at : Reader → List ℕ → Option (Key × List ℕ)
keys_at each bytes = do
  first ← each bytes
  others ← others_at each (suc (length first.1)) first.1
  Some (all_of first.0 others.0, others.1)

-- from behind the parenthesis that opens
abbrev pub group_at : Reader → List ℕ → Option (Key × List ℕ)
group_at each bytes = do
  read ← keys_at each bytes
  rest ← past_byte 41 read.1
  Some (read.0, rest)

abbrev pub worded_at : Reader → Option KeyWord → List ℕ × List ℕ → Option (Key × List ℕ)
worded_at each (Some Not) cut = not_at each cut.1
worded_at each (Some Or) cut = or_at each cut.1
worded_at each word cut = option_map with_key (single_at word cut)

abbrev pub either_at : Reader → Option (List ℕ) → List ℕ → Option (Key × List ℕ)
either_at each (Some start) bytes = group_at each start
either_at each None bytes = worded_at each (key_word_of (key_word_at bytes).0) (key_word_at bytes)

-- a key at the front, and what comes after it: fewer than so many levels deep
unfoldable pub key_at : ℕ → List ℕ → Option (Key × List ℕ)
key_at zero bytes = None
key_at (suc levels) bytes = either_at (key_at levels) (past_byte 40 bytes) bytes

-- keys and nothing more
unfoldable pub keys_in : List ℕ → Option Key
keys_in text = do
  read ← keys_at (key_at 33) text
  if is_blank read.1 then Some read.0 else None
