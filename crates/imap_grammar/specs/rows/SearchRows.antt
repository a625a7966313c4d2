-- Worked cases: searches, and of which messages their keys are so.
use Rattle.std.specs.Prelude.{◌≡◌, ℕ, Bool, codes, List, [], ◌∷◌, ◌++◌, Some, None, Ok, Err, true, false, refl}
use Rattle.change_ring.specs.declared.change.Flags.{Flags}
use Rattle.delivery_token.specs.Text.{Text, undated}
use Rattle.mail_date.specs.declared.stamp.Stamp.{Stamp}
use Rattle.mail_date.specs.Fields.{message_date, received_date}
use Rattle.mail_date.specs.Reading.{date_time}
use Rattle.imap_grammar.specs.Keys.{Key, Always, Never, Has, Lacks, Larger, Smaller, Before, On, Since, InField, InBody, InText, Positions, Uids, Not, Or, And}
use Rattle.imap_grammar.specs.Keys.{matches}
use Rattle.imap_grammar.specs.Keys as Keys
use Rattle.imap_grammar.specs.Reading.{read}
use Rattle.imap_grammar.specs.SearchReading.{date_in, keys_in, key_at}
use Rattle.imap_grammar.specs.declared.dates.Day.{Day}
use Rattle.imap_grammar.specs.declared.key_words.SystemFlag.TheVariants.{Answered, Deleted, Draft, Flagged, Seen}
use Rattle.imap_grammar.specs.declared.set.SeqNumber.{SeqNumber}
use Rattle.imap_grammar.specs.declared.set.SeqNumber.TheVariants.{Number, Star}
use Rattle.imap_grammar.specs.declared.set.SeqRange.{SeqRange}
use Rattle.imap_grammar.specs.declared.view.Named.{Named}
use Rattle.imap_grammar.specs.declared.command.SearchReturns.{SearchReturns}
use Rattle.imap_grammar.specs.declared.command.Command.{Command}
use Rattle.imap_grammar.specs.declared.command.Command.TheVariants as say
use Rattle.imap_grammar.specs.declared.command.Verb.TheVariants as verbs
use Rattle.imap_grammar.specs.declared.command.ImapFault.TheVariants.{Arguments}

abbrev range : SeqNumber → SeqNumber → SeqRange
range a b = record { from = a; to = b }

abbrev search : Bool → Bool → Key → Command
search by_uid known_charset keys = say.Search (record { by_uid = by_uid; returns = None; known_charset = known_charset; keys = keys })

abbrev asked : Bool → Bool → Bool → Bool → SearchReturns
asked min max count all = record { min = min; max = max; count = count; all = all }

abbrev returning : Bool → SearchReturns → Bool → Key → Command
returning by_uid returns known_charset keys =
    say.Search (record { by_uid = by_uid; returns = Some returns; known_charset = known_charset; keys = keys })

-- ---- lines

all_messages : read (codes "a1 SEARCH ALL") ≡ Ok (codes "a1", search false true Always)
unfolding read keys_in key_at
all_messages = refl

unseen : read (codes "a1 UID SEARCH UNSEEN") ≡ Ok (codes "a1", search true true (Lacks Seen))
unfolding read keys_in key_at
unseen = refl

around_others : read (codes "a1 SEARCH OR SEEN (DELETED LARGER 5) NOT 1:3") ≡ Ok
    (codes "a1", search false true (And (Or (Has Seen) (And (Has Deleted) (Larger 5))) (Not (Positions (range (Number 1) (Number 3) ∷ [])))))
unfolding read keys_in key_at
around_others = refl

charset : read (codes "a1 SEARCH CHARSET UTF-8 FLAGGED") ≡ Ok (codes "a1", search false true (Has Flagged))
unfolding read keys_in key_at
charset = refl

quoted_charset : read (codes "a1 search charset  \"us-ascii\" all") ≡ Ok (codes "a1", search false true Always)
unfolding read keys_in key_at
quoted_charset = refl

other_charset : read (codes "a1 SEARCH CHARSET KOI8-R ALL") ≡ Ok (codes "a1", search false false Always)
unfolding read keys_in key_at
other_charset = refl

keyword_and_uids : read (codes "a1 SEARCH UNKEYWORD x UID 4:*") ≡ Ok
    (codes "a1", search false true (And Always (Uids (range (Number 4) Star ∷ []))))
unfolding read keys_in key_at
keyword_and_uids = refl

in_any_case : read (codes "a1 search   not  (old  New)  ") ≡ Ok (codes "a1", search false true (Not (And Always Never)))
unfolding read keys_in key_at
in_any_case = refl

three_keys : read (codes "a1 SEARCH SMALLER 9223372036854775807 ANSWERED 2,*") ≡ Ok (
  codes "a1",
  search false true
      (And (Smaller 9223372036854775807) (And (Has Answered) (Positions (range (Number 2) (Number 2) ∷ range Star Star ∷ [])))),
)
unfolding read keys_in key_at
three_keys = refl

no_key : read (codes "a1 SEARCH") ≡ Err (Arguments (codes "a1") verbs.Search)
unfolding read keys_in key_at
no_key = refl

not_alone : read (codes "a1 SEARCH NOT") ≡ Err (Arguments (codes "a1") verbs.Search)
unfolding read keys_in key_at
not_alone = refl

unclosed : read (codes "a1 SEARCH (SEEN") ≡ Err (Arguments (codes "a1") verbs.Search)
unfolding read keys_in key_at
unclosed = refl

another_key : read (codes "a1 SEARCH SEEN SENTSINCE 1-Feb-1994") ≡ Err (Arguments (codes "a1") verbs.Search)
unfolding read keys_in key_at
another_key = refl

-- what a search is to return: first the lines of RFC 9051, 6.4.4

lowest_and_count : read (codes "A282 SEARCH RETURN (MIN COUNT) FLAGGED SINCE 1-Feb-1994 NOT FROM \"Smith\"") ≡ Ok (
  codes "A282",
  returning false (asked true false true false) true
      (And (Has Flagged) (And (Since (record { year = 1994; month = 2; day = 1 })) (Not (InField (codes "From") (codes "Smith"))))),
)
unfolding read keys_in key_at date_in
lowest_and_count = refl

none_of_the_words : read (codes "A283 SEARCH RETURN () FLAGGED") ≡ Ok (codes "A283", returning false (asked false false false true) true (Has Flagged))
unfolding read keys_in key_at
none_of_the_words = refl

each_word : read (codes "C1 UID SEARCH RETURN (MIN MAX COUNT ALL) 1:*") ≡ Ok
    (codes "C1", returning true (asked true true true true) true (Positions (range (Number 1) Star ∷ [])))
unfolding read keys_in key_at
each_word = refl

returns_in_any_case : read (codes "a1 search return  (Max  max) charset utf-8  all") ≡ Ok (codes "a1", returning false (asked false true false false) true Always)
unfolding read keys_in key_at
returns_in_any_case = refl

other_charset_behind_return : read (codes "a1 SEARCH RETURN (ALL) CHARSET KOI8-R ALL") ≡ Ok (codes "a1", returning false (asked false false false true) false Always)
unfolding read keys_in key_at
other_charset_behind_return = refl

a_word_that_asks_for_nothing : read (codes "a1 UID SEARCH RETURN (MIN SAVE) ALL") ≡ Err (Arguments (codes "a1") verbs.UidSearch)
unfolding read keys_in key_at
a_word_that_asks_for_nothing = refl

a_return_without_parentheses : read (codes "a1 SEARCH RETURN MIN ALL") ≡ Err (Arguments (codes "a1") verbs.Search)
unfolding read keys_in key_at
a_return_without_parentheses = refl

no_gap_behind_returns : read (codes "a1 SEARCH RETURN (MIN)ALL") ≡ Err (Arguments (codes "a1") verbs.Search)
unfolding read keys_in key_at
no_gap_behind_returns = refl

no_gap_before_returns : read (codes "a1 SEARCH RETURN(MIN) ALL") ≡ Err (Arguments (codes "a1") verbs.Search)
unfolding read keys_in key_at
no_gap_before_returns = refl

space_among_returns : read (codes "a1 SEARCH RETURN (MIN ) ALL") ≡ Err (Arguments (codes "a1") verbs.Search)
unfolding read keys_in key_at
space_among_returns = refl

returns_and_no_key : read (codes "a1 SEARCH RETURN (MIN)") ≡ Err (Arguments (codes "a1") verbs.Search)
unfolding read keys_in key_at
returns_and_no_key = refl

a_return_among_keys : read (codes "a1 SEARCH CHARSET UTF-8 RETURN (MIN) ALL") ≡ Err (Arguments (codes "a1") verbs.Search)
unfolding read keys_in key_at
a_return_among_keys = refl

or_of_one : read (codes "a1 SEARCH OR SEEN") ≡ Err (Arguments (codes "a1") verbs.Search)
unfolding read keys_in key_at
or_of_one = refl

space_in_parentheses : read (codes "a1 SEARCH ( SEEN)") ≡ Err (Arguments (codes "a1") verbs.Search)
unfolding read keys_in key_at
space_in_parentheses = refl

space_at_the_end_of_parentheses : read (codes "a1 SEARCH (SEEN )") ≡ Err (Arguments (codes "a1") verbs.Search)
unfolding read keys_in key_at
space_at_the_end_of_parentheses = refl

nothing_in_parentheses : read (codes "a1 SEARCH ()") ≡ Err (Arguments (codes "a1") verbs.Search)
unfolding read keys_in key_at
nothing_in_parentheses = refl

parentheses_side_by_side : read (codes "a1 SEARCH (SEEN)(DRAFT)") ≡ Err (Arguments (codes "a1") verbs.Search)
unfolding read keys_in key_at
parentheses_side_by_side = refl

keyword_without_atom : read (codes "a1 SEARCH KEYWORD") ≡ Err (Arguments (codes "a1") verbs.Search)
unfolding read keys_in key_at
keyword_without_atom = refl

too_great : read (codes "a1 SEARCH LARGER 9223372036854775808") ≡ Err (Arguments (codes "a1") verbs.Search)
unfolding read keys_in key_at
too_great = refl

charset_alone : read (codes "a1 SEARCH CHARSET UTF-8") ≡ Err (Arguments (codes "a1") verbs.Search)
unfolding read keys_in key_at
charset_alone = refl

as_many_levels : read (codes "a1 SEARCH ((((((((((((((((((((((((((((((((SEEN))))))))))))))))))))))))))))))))") ≡ Ok
    (codes "a1", search false true (Has Seen))
unfolding read keys_in key_at
as_many_levels = refl

one_level_more : read (codes "a1 SEARCH (((((((((((((((((((((((((((((((((SEEN)))))))))))))))))))))))))))))))))") ≡ Err
    (Arguments (codes "a1") verbs.Search)
unfolding read keys_in key_at
one_level_more = refl

one_not_more : read (codes "a1 SEARCH NOT NOT NOT NOT NOT NOT NOT NOT NOT NOT NOT NOT NOT NOT NOT NOT "
    ++ codes "NOT NOT NOT NOT NOT NOT NOT NOT NOT NOT NOT NOT NOT NOT NOT NOT NOT SEEN")
    ≡ Err (Arguments (codes "a1") verbs.Search)
unfolding read keys_in key_at
one_not_more = refl

-- ---- dates

abbrev date : (year month day : ℕ) → Day
date year month day = record { year = year; month = month; day = day }

-- RFC 3501, 6.4.4
of_the_standard : read (codes "A282 SEARCH FLAGGED SINCE 1-Feb-1994 NOT FROM \"Smith\"") ≡ Ok
    (codes "A282", search false true (And (Has Flagged) (And (Since (date 1994 2 1)) (Not (InField (codes "From") (codes "Smith"))))))
unfolding read keys_in key_at date_in
of_the_standard = refl

quoted_date : read (codes "a1 SEARCH SINCE \"1-Feb-1994\"") ≡ Ok (codes "a1", search false true (Since (date 1994 2 1)))
unfolding read keys_in key_at date_in
quoted_date = refl

date_in_any_case : read (codes "a1 uid search before 1-feb-1994 on 28-DEC-2026") ≡ Ok
    (codes "a1", search true true (And (Before (date 1994 2 1)) (On (date 2026 12 28))))
unfolding read keys_in key_at date_in
date_in_any_case = refl

zero_before_the_day : read (codes "a1 SEARCH (ON 01-Jan-0001)") ≡ Ok (codes "a1", search false true (On (date 1 1 1)))
unfolding read keys_in key_at date_in
zero_before_the_day = refl

-- whatever the month
thirty_first : read (codes "a1 SEARCH ON 31-Feb-1994") ≡ Ok (codes "a1", search false true (On (date 1994 2 31)))
unfolding read keys_in key_at date_in
thirty_first = refl

day_32 : read (codes "a1 SEARCH SINCE 32-Feb-1994") ≡ Err (Arguments (codes "a1") verbs.Search)
unfolding read keys_in key_at date_in
day_32 = refl

day_0 : read (codes "a1 SEARCH SINCE 0-Feb-1994") ≡ Err (Arguments (codes "a1") verbs.Search)
unfolding read keys_in key_at date_in
day_0 = refl

day_00 : read (codes "a1 SEARCH SINCE \"00-Feb-1994\"") ≡ Err (Arguments (codes "a1") verbs.Search)
unfolding read keys_in key_at date_in
day_00 = refl

no_month : read (codes "a1 SEARCH SINCE 1-Foo-1994") ≡ Err (Arguments (codes "a1") verbs.Search)
unfolding read keys_in key_at date_in
no_month = refl

whole_month : read (codes "a1 SEARCH SINCE 1-February-1994") ≡ Err (Arguments (codes "a1") verbs.Search)
unfolding read keys_in key_at date_in
whole_month = refl

short_year : read (codes "a1 SEARCH SINCE 1-Feb-94") ≡ Err (Arguments (codes "a1") verbs.Search)
unfolding read keys_in key_at date_in
short_year = refl

long_year : read (codes "a1 SEARCH SINCE 1-Feb-19940") ≡ Err (Arguments (codes "a1") verbs.Search)
unfolding read keys_in key_at date_in
long_year = refl

unclosed_date : read (codes "a1 SEARCH SINCE \"1-Feb-1994") ≡ Err (Arguments (codes "a1") verbs.Search)
unfolding read keys_in key_at date_in
unclosed_date = refl

unopened_date : read (codes "a1 SEARCH SINCE 1-Feb-1994\"") ≡ Err (Arguments (codes "a1") verbs.Search)
unfolding read keys_in key_at date_in
unopened_date = refl

behind_the_quote : read (codes "a1 SEARCH SINCE \"1-Feb-1994\"x") ≡ Err (Arguments (codes "a1") verbs.Search)
unfolding read keys_in key_at date_in
behind_the_quote = refl

spaced_date : read (codes "a1 SEARCH SINCE \" 1-Feb-1994\"") ≡ Err (Arguments (codes "a1") verbs.Search)
unfolding read keys_in key_at date_in
spaced_date = refl

number_for_month : read (codes "a1 SEARCH SINCE 1-2-1994") ≡ Err (Arguments (codes "a1") verbs.Search)
unfolding read keys_in key_at date_in
number_for_month = refl

three_digits : read (codes "a1 SEARCH SINCE 001-Feb-1994") ≡ Err (Arguments (codes "a1") verbs.Search)
unfolding read keys_in key_at date_in
three_digits = refl

before_alone : read (codes "a1 SEARCH BEFORE") ≡ Err (Arguments (codes "a1") verbs.Search)
unfolding read keys_in key_at date_in
before_alone = refl

on_alone : read (codes "a1 SEARCH ON") ≡ Err (Arguments (codes "a1") verbs.Search)
unfolding read keys_in key_at date_in
on_alone = refl

since_alone : read (codes "a1 SEARCH SINCE") ≡ Err (Arguments (codes "a1") verbs.Search)
unfolding read keys_in key_at date_in
since_alone = refl

-- ---- words

-- RFC 3501, 6.4.4
text_of_the_standard : read (codes "A283 SEARCH TEXT \"string not in mailbox\"") ≡ Ok (codes "A283", search false true (InText (codes "string not in mailbox")))
unfolding read keys_in key_at
text_of_the_standard = refl

header_by_name : read (codes "a1 UID SEARCH HEADER Message-ID \"<1@a.example>\"") ≡ Ok (codes "a1", search true true (InField (codes "Message-ID") (codes "<1@a.example>")))
unfolding read keys_in key_at
header_by_name = refl

quoted_field_name : read (codes "a1 search header \"X-Spam\" yes") ≡ Ok (codes "a1", search false true (InField (codes "X-Spam") (codes "yes")))
unfolding read keys_in key_at
quoted_field_name = refl

each_named_field : read (codes "a1 SEARCH SUBJECT a FROM b TO c CC d BCC e") ≡ Ok (codes "a1", search false true (And (InField (codes "Subject") (codes "a")) (And (InField (codes "From") (codes "b")) (And (InField (codes "To") (codes "c")) (And (InField (codes "Cc") (codes "d")) (InField (codes "Bcc") (codes "e")))))))
unfolding read keys_in key_at
each_named_field = refl

body_and_text : read (codes "a1 SEARCH OR BODY a NOT (TEXT b)") ≡ Ok (codes "a1", search false true (Or (InBody (codes "a")) (Not (InText (codes "b")))))
unfolding read keys_in key_at
body_and_text = refl

quoted_with_backslashes : read (codes "a1 SEARCH SUBJECT \"a\\\"b\\\\\" seen") ≡ Ok (codes "a1", search false true (And (InField (codes "Subject") (codes "a\"b\\")) (Has Seen)))
unfolding read keys_in key_at
quoted_with_backslashes = refl

parentheses_and_spaces_in_quotes : read (codes "a1 SEARCH (BODY \"(a) b\")") ≡ Ok (codes "a1", search false true (InBody (codes "(a) b")))
unfolding read keys_in key_at
parentheses_and_spaces_in_quotes = refl

empty_words : read (codes "a1 SEARCH HEADER Cc \"\"") ≡ Ok (codes "a1", search false true (InField (codes "Cc") []))
unfolding read keys_in key_at
empty_words = refl

-- RFC 9051, 9: a bracket that closes is one of an astring
bracket_in_words : read (codes "a1 SEARCH SUBJECT [b]") ≡ Ok (codes "a1", search false true (InField (codes "Subject") (codes "[b]")))
unfolding read keys_in key_at
bracket_in_words = refl

words_missing : read (codes "a1 SEARCH SUBJECT") ≡ Err (Arguments (codes "a1") verbs.Search)
unfolding read keys_in key_at
words_missing = refl

words_of_a_field_missing : read (codes "a1 SEARCH HEADER Subject") ≡ Err (Arguments (codes "a1") verbs.Search)
unfolding read keys_in key_at
words_of_a_field_missing = refl

no_atom : read (codes "a1 SEARCH SUBJECT a*") ≡ Err (Arguments (codes "a1") verbs.Search)
unfolding read keys_in key_at
no_atom = refl

unclosed_words : read (codes "a1 UID SEARCH TEXT \"a") ≡ Err (Arguments (codes "a1") verbs.UidSearch)
unfolding read keys_in key_at
unclosed_words = refl

words_behind_a_quote : read (codes "a1 SEARCH TEXT \"a\"b") ≡ Err (Arguments (codes "a1") verbs.Search)
unfolding read keys_in key_at
words_behind_a_quote = refl

words_in_parentheses : read (codes "a1 SEARCH BODY (a)") ≡ Err (Arguments (codes "a1") verbs.Search)
unfolding read keys_in key_at
words_in_parentheses = refl

words_side_by_side : read (codes "a1 SEARCH BODY \"a\"TEXT \"b\"") ≡ Err (Arguments (codes "a1") verbs.Search)
unfolding read keys_in key_at
words_side_by_side = refl

sent_on : read (codes "a1 SEARCH SENTON 1-Feb-1994") ≡ Err (Arguments (codes "a1") verbs.Search)
unfolding read keys_in key_at
sent_on = refl

-- ---- messages

abbrev with_seen : Bool → Flags
with_seen seen = record { answered = false; flagged = false; deleted = false; seen = seen; draft = false }

abbrev plain : Flags
plain = with_seen false

abbrev seen : Flags
seen = with_seen true

-- the second of three messages, and the third
abbrev middle : Named
middle = record { position = 2; uid = 7 }

abbrev last : Named
last = record { position = 3; uid = 9 }

-- a text of five bytes
abbrev five : List ℕ
five = codes "12345"

not_so : matches (Not (Has Seen)) last middle seen (undated five) ≡ false
not_so = refl

not_seen : matches (Not (Has Seen)) last middle plain (undated five) ≡ true
not_seen = refl

lacks_seen : matches (Lacks Seen) last middle seen (undated five) ≡ false
lacks_seen = refl

one_of_two : matches (Or (Has Seen) (Has Draft)) last middle seen (undated five) ≡ true
one_of_two = refl

none_of_two : matches (Or (Has Deleted) (Has Draft)) last middle seen (undated five) ≡ false
none_of_two = refl

both : matches (And (Has Seen) (Larger 4)) last middle seen (undated five) ≡ true
both = refl

not_both : matches (And (Has Seen) (Has Draft)) last middle seen (undated five) ≡ false
not_both = refl

no_larger : matches (Larger 5) last middle seen (undated five) ≡ false
no_larger = refl

larger : matches (Larger 5) last middle seen (undated (codes "123456")) ≡ true
larger = refl

no_smaller : matches (Smaller 5) last middle seen (undated five) ≡ false
no_smaller = refl

smaller : matches (Smaller 5) last middle seen (undated (codes "1234")) ≡ true
smaller = refl

position : matches (Positions (range (Number 2) (Number 2) ∷ [])) last middle plain (undated five) ≡ true
position = refl

position_of_another : matches (Uids (range (Number 2) (Number 2) ∷ [])) last middle plain (undated five) ≡ false
position_of_another = refl

last_position : matches (Positions (range Star Star ∷ [])) last last plain (undated five) ≡ true
last_position = refl

before_the_last : matches (Positions (range Star Star ∷ [])) last middle plain (undated five) ≡ false
before_the_last = refl

uids_from : matches (Uids (range (Number 7) Star ∷ [])) last middle plain (undated five) ≡ true
uids_from = refl

beyond_the_last : matches (Uids (range (Number 100) Star ∷ [])) last last plain (undated five) ≡ true
beyond_the_last = refl

everything : matches (Positions (Keys.all_messages)) last middle plain (undated five) ≡ true
everything = refl

-- ---- dates of messages

-- the 27th of November 2026, which is the 28th already at UTC
abbrev dated : List ℕ
dated = codes "Received: from a.example by b.example; Fri, 27 Nov 2026 23:45:48 -0800\r\nDate: Sat, 28 Nov 2026 07:40:00 +0000\r\n\r\nx\r\n"

abbrev is_so : Key → List ℕ → Bool
is_so key text = matches key last middle plain (undated text)

before_the_day_before : is_so (Before (date 2026 11 26)) dated ≡ false
unfolding message_date received_date date_time
before_the_day_before = refl

before_the_day : is_so (Before (date 2026 11 27)) dated ≡ false
unfolding message_date received_date date_time
before_the_day = refl

before_the_day_after : is_so (Before (date 2026 11 28)) dated ≡ true
unfolding message_date received_date date_time
before_the_day_after = refl

on_the_day_before : is_so (On (date 2026 11 26)) dated ≡ false
unfolding message_date received_date date_time
on_the_day_before = refl

on_the_day : is_so (On (date 2026 11 27)) dated ≡ true
unfolding message_date received_date date_time
on_the_day = refl

on_the_day_after : is_so (On (date 2026 11 28)) dated ≡ false
unfolding message_date received_date date_time
on_the_day_after = refl

since_the_day_before : is_so (Since (date 2026 11 26)) dated ≡ true
unfolding message_date received_date date_time
since_the_day_before = refl

since_the_day : is_so (Since (date 2026 11 27)) dated ≡ true
unfolding message_date received_date date_time
since_the_day = refl

since_the_day_after : is_so (Since (date 2026 11 28)) dated ≡ false
unfolding message_date received_date date_time
since_the_day_after = refl

-- a year counts before a month, and a month before a day
before_another_month : is_so (Before (date 2026 12 1)) dated ≡ true
unfolding message_date received_date date_time
before_another_month = refl

before_another_year : is_so (Before (date 2027 1 1)) dated ≡ true
unfolding message_date received_date date_time
before_another_year = refl

since_another_month : is_so (Since (date 2026 10 31)) dated ≡ true
unfolding message_date received_date date_time
since_another_month = refl

since_another_year : is_so (Since (date 2025 12 31)) dated ≡ true
unfolding message_date received_date date_time
since_another_year = refl

on_another_month : is_so (On (date 2026 10 27)) dated ≡ false
unfolding message_date received_date date_time
on_another_month = refl

on_another_year : is_so (On (date 2025 11 27)) dated ≡ false
unfolding message_date received_date date_time
on_another_year = refl

-- a message without a date is of 1-Jan-1970
on_no_date : is_so (On (date 1970 1 1)) five ≡ true
unfolding message_date received_date date_time
on_no_date = refl

not_before_no_date : is_so (Before (date 1970 1 1)) five ≡ false
unfolding message_date received_date date_time
not_before_no_date = refl

-- the date that came with a message counts, and not the one that its header says
abbrev with_own : Text
with_own = record { bytes = dated; date = Some (record { year = 1996; month = 7; day = 17; hour = 2; minute = 44; second = 25; zone = record { is_west = true; hours = 7; minutes = 0 } }) }

on_its_own_day : matches (On (date 1996 7 17)) last middle plain with_own ≡ true
unfolding message_date received_date date_time
on_its_own_day = refl

not_on_the_day_of_its_header : matches (On (date 2026 11 27)) last middle plain with_own ≡ false
unfolding message_date received_date date_time
not_on_the_day_of_its_header = refl

-- ---- words of messages

abbrev letter : List ℕ
letter =
    codes "Subject: Lunch at\r\n noon today\r\nFROM : Ann <ann@a.example>\r\nTo: bob@b.example\r\nX-Tag: one\r\n"
    ++ codes "X-Tag: two\r\nComments: x\r\n\tBcc: eve\r\n\r\nDear Bob,\r\nSubject: dinner\r\n"

in_a_field : is_so (InField (codes "Subject") (codes "Lunch")) letter ≡ true
in_a_field = refl

in_another_case : is_so (InField (codes "subject") (codes "lUNCH")) letter ≡ true
in_another_case = refl

last_word_of_a_field : is_so (InField (codes "Subject") (codes "today")) letter ≡ true
last_word_of_a_field = refl

-- its folds don't count
over_a_fold : is_so (InField (codes "Subject") (codes "at noon")) letter ≡ true
over_a_fold = refl

over_the_end_of_a_field : is_so (InField (codes "Subject") (codes "todayFrom")) letter ≡ false
over_the_end_of_a_field = refl

blank_before_the_colon : is_so (InField (codes "From") (codes "ann@")) letter ≡ true
blank_before_the_colon = refl

of_another_field : is_so (InField (codes "Subject") (codes "ann")) letter ≡ false
of_another_field = refl

-- the field's name is no part of it
no_part_of_the_body : is_so (InField (codes "Subject") (codes "Subject")) letter ≡ false
no_part_of_the_body = refl

front_of_a_name : is_so (InField (codes "Sub") []) letter ≡ false
front_of_a_name = refl

end_of_a_name : is_so (InField (codes "ject") []) letter ≡ false
end_of_a_name = refl

field_missing : is_so (InField (codes "Cc") (codes "a")) letter ≡ false
field_missing = refl

empty_words_of_a_missing_field : is_so (InField (codes "Cc") []) letter ≡ false
empty_words_of_a_missing_field = refl

empty_words_of_a_field : is_so (InField (codes "To") []) letter ≡ true
empty_words_of_a_field = refl

second_of_a_name : is_so (InField (codes "X-Tag") (codes "two")) letter ≡ true
second_of_a_name = refl

over_two_fields : is_so (InField (codes "X-Tag") (codes "one two")) letter ≡ false
over_two_fields = refl

folded_line_is_no_field : is_so (InField (codes "Bcc") []) letter ≡ false
folded_line_is_no_field = refl

in_a_folded_line : is_so (InField (codes "Comments") (codes "bcc: eve")) letter ≡ true
in_a_folded_line = refl

no_field_behind_the_header : is_so (InField (codes "Subject") (codes "dinner")) letter ≡ false
no_field_behind_the_header = refl

body_has_it : is_so (InBody (codes "dinner")) letter ≡ true
body_has_it = refl

body_in_another_case : is_so (InBody (codes "dEAR bOB")) letter ≡ true
body_in_another_case = refl

header_alone_has_it : is_so (InBody (codes "lunch")) letter ≡ false
header_alone_has_it = refl

text_of_the_header : is_so (InText (codes "lunch")) letter ≡ true
text_of_the_header = refl

text_of_the_body : is_so (InText (codes "DINNER")) letter ≡ true
text_of_the_body = refl

text_over_both : is_so (InText (codes "eve\r\n\r\ndear")) letter ≡ true
text_over_both = refl

text_with_its_folds : is_so (InText (codes "at noon")) letter ≡ false
text_with_its_folds = refl

last_bytes : is_so (InText (codes "ner\r\n")) letter ≡ true
last_bytes = refl

nowhere : is_so (InText (codes "breakfast")) letter ≡ false
nowhere = refl

empty_words_of_a_body : is_so (InBody []) letter ≡ true
empty_words_of_a_body = refl

empty_words_of_no_text : is_so (InText []) [] ≡ true
empty_words_of_no_text = refl

words_of_no_text : is_so (InText (codes "a")) [] ≡ false
words_of_no_text = refl

body_without_an_empty_line : is_so (InBody (codes "a")) (codes "Subject: a\r\n") ≡ false
body_without_an_empty_line = refl

empty_words_without_an_empty_line : is_so (InBody []) (codes "Subject: a\r\n") ≡ true
empty_words_without_an_empty_line = refl

field_without_an_end : is_so (InField (codes "Subject") (codes "a")) (codes "Subject: a") ≡ true
field_without_an_end = refl

empty_line_by_lf : is_so (InBody (codes "b")) (codes "Subject: a\n\nb") ≡ true
empty_line_by_lf = refl

header_of_an_empty_line : is_so (InField (codes "Subject") []) (codes "\r\nSubject: a\r\n\r\nb") ≡ false
header_of_an_empty_line = refl

body_from_the_first_line : is_so (InBody (codes "subject")) (codes "\r\nSubject: a\r\n\r\nb") ≡ true
body_from_the_first_line = refl

begins_again : is_so (InText (codes "aab")) (codes "aaab") ≡ true
begins_again = refl

quote_and_backslash : is_so (InText (codes "\"b\\")) (codes "a\"b\\c") ≡ true
quote_and_backslash = refl
