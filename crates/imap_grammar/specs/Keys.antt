-- What SEARCH asks for (RFC 9051, 6.4.4): keys, and of which messages they are so.
use Rattle.std.specs.Prelude.{ℕ, Bool, true, false, codes, List, [], ◌∷◌, length, nat_lt, not, ◌==◌, ◌&&◌, ◌||◌}
use Rattle.change_ring.specs.declared.change.Flags.{Flags}
use Rattle.mail_date.specs.declared.stamp.Stamp.{Stamp}
use Rattle.delivery_token.specs.Text.{Text, date_of}
use Rattle.imap_grammar.specs.Contains.{body, contains, in_field}
use Rattle.imap_grammar.specs.Sets.{is_named}
use Rattle.imap_grammar.specs.declared.dates.Day.{Day}
use Rattle.imap_grammar.specs.declared.set.SeqNumber.TheVariants.{Number, Star}
use Rattle.imap_grammar.specs.declared.set.SeqRange.{SeqRange}
use Rattle.imap_grammar.specs.declared.view.Named.{Named}
use Rattle.imap_grammar.specs.declared.key_words.HeaderField.{HeaderField}
use Rattle.imap_grammar.specs.declared.key_words.HeaderField.TheVariants.{Subject, From, To, Cc, Bcc}
use Rattle.imap_grammar.specs.declared.key_words.SystemFlag.{SystemFlag}
use Rattle.imap_grammar.specs.declared.key_words.SystemFlag.TheVariants.{Answered, Deleted, Draft, Flagged, Seen}

pub data Key : Type 0 where
  -- ALL. Each message is OLD here, and none has a keyword: UNKEYWORD is so of each
  Always : Key
  -- no message is NEW or RECENT here, and none has a KEYWORD
  Never : Key
  Has : SystemFlag → Key
  Lacks : SystemFlag → Key
  -- of more bytes, or of fewer
  Larger : ℕ → Key
  Smaller : ℕ → Key
  -- received before this day, on it, or on it or later
  Before : Day → Key
  On : Day → Key
  Since : Day → Key
  -- a field of this name has these words in its body, unfolded; the text behind the header has them; or all of the text, the header too
  InField : (name words : List ℕ) → Key
  InBody : (words : List ℕ) → Key
  InText : (words : List ℕ) → Key
  -- a set of positions in the view, or of UIDs
  Positions : List SeqRange → Key
  Uids : List SeqRange → Key
  Not : Key → Key
  Or : Key → Key → Key
  And : Key → Key → Key

-- the word that asks for a flag; behind UN it asks for messages that lack it
abbrev pub flag_word : SystemFlag → List ℕ
flag_word Answered = codes "ANSWERED"
flag_word Deleted = codes "DELETED"
flag_word Draft = codes "DRAFT"
flag_word Flagged = codes "FLAGGED"
flag_word Seen = codes "SEEN"

-- the name of a field that has a key of its own, which is the word of that key too
abbrev pub field_name : HeaderField → List ℕ
field_name Subject = codes "Subject"
field_name From = codes "From"
field_name To = codes "To"
field_name Cc = codes "Cc"
field_name Bcc = codes "Bcc"

abbrev pub has_flag : SystemFlag → Flags → Bool
has_flag Answered flags = flags.answered
has_flag Deleted flags = flags.deleted
has_flag Draft flags = flags.draft
has_flag Flagged flags = flags.flagged
has_flag Seen flags = flags.seen

-- the day of a date as it stands there, whatever its zone
abbrev pub day_of : Stamp → Day
day_of date = record { year = date.year; month = date.month; day = date.day }

abbrev pub is_same_day : Day → Day → Bool
is_same_day a b = (a.year == b.year) && (a.month == b.month) && (a.day == b.day)

-- of an earlier year, or of the same and of an earlier month, or of the same of both and an earlier day
abbrev pub is_before : Day → Day → Bool
is_before a b = nat_lt a.year b.year || ((a.year == b.year) && (nat_lt a.month b.month || ((a.month == b.month) && nat_lt a.day b.day)))

-- the key is so of this message, which has these flags and this text; `last` is the last message of the view
abbrev pub matches : Key → (last : Named) → (message : Named) → Flags → Text → Bool
matches Always last message flags text = true
matches Never last message flags text = false
matches (Has flag) last message flags text = has_flag flag flags
matches (Lacks flag) last message flags text = not (has_flag flag flags)
matches (Larger n) last message flags text = nat_lt n (length text.bytes)
matches (Smaller n) last message flags text = nat_lt (length text.bytes) n
matches (Before day) last message flags text = is_before (day_of (date_of text)) day
matches (On day) last message flags text = is_same_day (day_of (date_of text)) day
matches (Since day) last message flags text = not (is_before (day_of (date_of text)) day)
matches (InField name words) last message flags text = in_field name words text.bytes
matches (InBody words) last message flags text = contains words (body text.bytes)
matches (InText words) last message flags text = contains words text.bytes
matches (Positions set) last message flags text = is_named set last.position message.position
matches (Uids set) last message flags text = is_named set last.uid message.uid
matches (Not key) last message flags text = not (matches key last message flags text)
matches (Or one other) last message flags text = matches one last message flags text || matches other last message flags text
matches (And one other) last message flags text = matches one last message flags text && matches other last message flags text

-- keys one after the other mean all of them
abbrev pub all_of : Key → List Key → Key
all_of first [] = first
all_of first (next ∷ others) = And first (all_of next others)

-- `1:*`
abbrev pub all_messages : List SeqRange
all_messages = record { from = Number 1; to = Star } ∷ []
