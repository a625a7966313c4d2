-- Worked cases: lines and what they are, and what sets name.
use Rattle.std.specs.Prelude.{◌≡◌, ℕ, List, Bool, Bool, codes, [], ◌∷◌, ◌++◌, Ok, Err, true, false, refl, Some, None, Option}
use Rattle.change_ring.specs.declared.change.Flags.{Flags}
use Rattle.mail_date.specs.InternalBack.{internal_date}
use Rattle.mail_date.specs.declared.stamp.Stamp.{Stamp}
use Rattle.imap_grammar.specs.declared.items.Section.{Section}
use Rattle.imap_grammar.specs.declared.items.Span.{Span}
use Rattle.imap_grammar.specs.declared.items.BodyPart.TheVariants as parts
use Rattle.imap_grammar.specs.declared.items.FetchItem.{FetchItem}
use Rattle.change_ring.specs.declared.flag_op.FlagOp.TheVariants.{Set, Insert, Remove}
use Rattle.imap_grammar.specs.Sets.{by_uid, by_position}
use Rattle.imap_grammar.specs.Reading.{is_done, read}
use Rattle.imap_grammar.specs.declared.set.SeqNumber.{SeqNumber}
use Rattle.imap_grammar.specs.declared.set.SeqNumber.TheVariants.{Number, Star}
use Rattle.imap_grammar.specs.declared.set.SeqRange.{SeqRange}
use Rattle.imap_grammar.specs.declared.items.Section.TheVariants.{Whole, Header, Text}
use Rattle.imap_grammar.specs.declared.items.FetchItem.TheVariants as fetch
use Rattle.imap_grammar.specs.declared.items.StatusItem.TheVariants as status
use Rattle.imap_grammar.specs.declared.command.Append.{Append}
use Rattle.imap_grammar.specs.declared.command.Command.TheVariants as say
use Rattle.imap_grammar.specs.declared.command.Verb.TheVariants as verbs
use Rattle.imap_grammar.specs.declared.command.ImapFault.TheVariants.{NoTag, Unknown, LeftOut, Arguments}

abbrev range : SeqNumber → SeqNumber → SeqRange
range a b = record { from = a; to = b }

abbrev flags : Bool → Bool → Bool → Bool → Bool → Flags
flags a b c d e = record { answered = a; flagged = b; deleted = c; seen = d; draft = e }

abbrev body_item : Bool → Section → Option Span → FetchItem
body_item peek section part = fetch.Body peek (parts.Section section) part

abbrev appended : List ℕ → Flags → ℕ → Bool → Append
appended name given size waits = record { name = name; flags = given; date = None; literal = record { size = size; waits = waits } }

noop : read (codes "a1 NOOP") ≡ Ok (codes "a1", say.Noop)
unfolding read
noop = refl

spaces : read (codes "a1   noop  ") ≡ Ok (codes "a1", say.Noop)
unfolding read
spaces = refl

select_inbox : read (codes "a1 SELECT inbox") ≡ Ok (codes "a1", say.Select (codes "inbox"))
unfolding read
select_inbox = refl

fetch_last : read (codes "a2 FETCH * FLAGS") ≡ Ok (codes "a2", say.Fetch (record { by_uid = false; set = range (Star) (Star) ∷ []; items = fetch.Flags ∷ [] }))
unfolding read
fetch_last = refl

uid_fetch : read (codes "a3 UID FETCH * FLAGS") ≡ Ok (codes "a3", say.Fetch (record { by_uid = true; set = range (Star) (Star) ∷ []; items = fetch.Flags ∷ [] }))
unfolding read
uid_fetch = refl

list_all : read (codes "a4 LIST \"\" %") ≡ Ok (codes "a4", say.List [] (codes "%"))
unfolding read
list_all = refl

idle : read (codes "a2 IDLE") ≡ Ok (codes "a2", say.Idle)
unfolding read
idle = refl

done_in_any_case : is_done (codes "done  ") ≡ true
done_in_any_case = refl

done_and_more : is_done (codes "DONE x") ≡ false
done_and_more = refl

store_deleted : read (codes "b2 STORE 1:2 +FLAGS (\\Deleted)") ≡ Ok (codes "b2", say.Store (record { by_uid = false; set = range (Number 1) (Number 2) ∷ []; silent = false; change = Insert (flags false false true false false) }))
unfolding read
store_deleted = refl

expunge : read (codes "b3 EXPUNGE") ≡ Ok (codes "b3", say.Expunge)
unfolding read
expunge = refl

fetch_uid : read (codes "a2 FETCH 1:3 (UID)") ≡ Ok (codes "a2", say.Fetch (record { by_uid = false; set = range (Number 1) (Number 3) ∷ []; items = fetch.Uid ∷ [] }))
unfolding read
fetch_uid = refl

store_flagged : read (codes "b2 STORE 1 +FLAGS (\\Flagged)") ≡ Ok (codes "b2", say.Store (record { by_uid = false; set = range (Number 1) (Number 1) ∷ []; silent = false; change = Insert (flags false true false false false) }))
unfolding read
store_flagged = refl

silent : read (codes "b2 UID STORE 1 -FLAGS.SILENT (\\Seen)") ≡ Ok (codes "b2", say.Store (record { by_uid = true; set = range (Number 1) (Number 1) ∷ []; silent = true; change = Remove (flags false false false true false) }))
unfolding read
silent = refl

status_of : read (codes "a1 STATUS INBOX (UIDNEXT MESSAGES)") ≡ Ok (codes "a1", say.Status (codes "INBOX") (status.UidNext ∷ status.Messages ∷ []))
unfolding read
status_of = refl

part_of_text : read (codes "a2 FETCH 1 BODY[TEXT]<1.3>") ≡ Ok (codes "a2", say.Fetch (record { by_uid = false; set = range (Number 1) (Number 1) ∷ []; items = body_item false Text (Some (record { origin = 1; count = 3 })) ∷ [] }))
unfolding read
part_of_text = refl

peek : read (codes "a2 fetch 1,3:*,2 (body.peek[] RFC822.SIZE  uid)") ≡ Ok (codes "a2", say.Fetch (record { by_uid = false; set = range (Number 1) (Number 1) ∷ range (Number 3) (Star) ∷ range (Number 2) (Number 2) ∷ []; items = body_item true Whole None ∷ fetch.Size ∷ fetch.Uid ∷ [] }))
unfolding read
peek = refl

header : read (codes "a2 FETCH 1 BODY[HEADER]") ≡ Ok (codes "a2", say.Fetch (record { by_uid = false; set = range (Number 1) (Number 1) ∷ []; items = body_item false Header None ∷ [] }))
unfolding read
header = refl

examine : read (codes "a1 EXAMINE INBOX") ≡ Ok (codes "a1", say.Examine (codes "INBOX"))
unfolding read
examine = refl

store_none : read (codes "a2 STORE 1 FLAGS ()") ≡ Ok (codes "a2", say.Store (record { by_uid = false; set = range (Number 1) (Number 1) ∷ []; silent = false; change = Set (flags false false false false false) }))
unfolding read
store_none = refl

store_bare : read (codes "a2 STORE 1 FLAGS \\Seen $x \\Draft") ≡ Ok (codes "a2", say.Store (record { by_uid = false; set = range (Number 1) (Number 1) ∷ []; silent = false; change = Set (flags false false false true true) }))
unfolding read
store_bare = refl

close : read (codes "a4 CLOSE") ≡ Ok (codes "a4", say.Close)
unfolding read
close = refl

quoted : read (codes "a4 SELECT \"a \\\"b\\\\\"") ≡ Ok (codes "a4", say.Select (codes "a \"b\\"))
unfolding read
quoted = refl

uid_expunge : read (codes "x UID EXPUNGE 4:2") ≡ Ok (codes "x", say.UidExpunge (range (Number 4) (Number 2) ∷ []))
unfolding read
uid_expunge = refl

login : read (codes "x LOGIN a b") ≡ Ok (codes "x", say.Login (codes "a") (codes "b"))
unfolding read
login = refl

-- RFC 9051, 6.2.3: both are astrings
login_quoted : read (codes "a001 login SMITH \"my \\\"secret\\\"\"") ≡ Ok (codes "a001", say.Login (codes "SMITH") (codes "my \"secret\""))
unfolding read
login_quoted = refl

login_empty : read (codes "a1 LOGIN \"\" \"\"") ≡ Ok (codes "a1", say.Login [] [])
unfolding read
login_empty = refl

login_short : read (codes "a1 LOGIN SMITH") ≡ Err (Arguments (codes "a1") verbs.Login)
unfolding read
login_short = refl

login_more : read (codes "a1 LOGIN SMITH SESAME x") ≡ Err (Arguments (codes "a1") verbs.Login)
unfolding read
login_more = refl

check : read (codes "a1 check ") ≡ Ok (codes "a1", say.Check)
unfolding read
check = refl

check_more : read (codes "a1 CHECK x") ≡ Err (Arguments (codes "a1") verbs.Check)
unfolding read
check_more = refl

-- RFC 3501, 6.3.9
lsub : read (codes "A002 LSUB \"#news.\" \"comp.mail.*\"") ≡ Ok (codes "A002", say.Lsub (codes "#news.") (codes "comp.mail.*"))
unfolding read
lsub = refl

lsub_bare : read (codes "A002 LSUB \"\" %") ≡ Ok (codes "A002", say.Lsub [] (codes "%"))
unfolding read
lsub_bare = refl

-- RFC 9051, 6.3.7 and 6.3.8
subscribe : read (codes "A002 SUBSCRIBE Work") ≡ Ok (codes "A002", say.Subscribe (codes "Work"))
unfolding read
subscribe = refl

unsubscribe : read (codes "A002 UNSUBSCRIBE \"Work\"") ≡ Ok (codes "A002", say.Unsubscribe (codes "Work"))
unfolding read
unsubscribe = refl

subscribe_nothing : read (codes "A002 SUBSCRIBE") ≡ Err (Arguments (codes "A002") verbs.Subscribe)
unfolding read
subscribe_nothing = refl

-- RFC 3501, 6.3.10
status_recent : read (codes "A042 STATUS blurdybloop (UIDNEXT RECENT)") ≡ Ok (codes "A042", say.Status (codes "blurdybloop") (status.UidNext ∷ status.Recent ∷ []))
unfolding read
status_recent = refl

none : read (codes "") ≡ Err NoTag
unfolding read
none = refl

blank_first : read (codes " a1 NOOP") ≡ Err NoTag
unfolding read
blank_first = refl

plus : read (codes "+ NOOP") ≡ Err NoTag
unfolding read
plus = refl

tag_alone : read (codes "a1") ≡ Err (Unknown (codes "a1"))
unfolding read
tag_alone = refl

no_verb : read (codes "a1 XNOOP") ≡ Err (Unknown (codes "a1"))
unfolding read
no_verb = refl

uid_alone : read (codes "a1 UID") ≡ Err (Unknown (codes "a1"))
unfolding read
uid_alone = refl

uid_noop : read (codes "a1 UID NOOP") ≡ Err (Unknown (codes "a1"))
unfolding read
uid_noop = refl

abbrev new_year : Stamp
new_year = record { year = 2026; month = 1; day = 1; hour = 0; minute = 0; second = 0; zone = record { is_west = false; hours = 0; minutes = 0 } }

append : read (codes "a1 APPEND INBOX {5+}") ≡ Ok (codes "a1", say.Append (appended (codes "INBOX") (flags false false false false false) 5 false))
unfolding read
append = refl

append_flags : read (codes "a1 append INBOX (\\Seen \\Flagged $x) \" 1-Jan-2026 00:00:00 +0000\" {02} ")
    ≡ Ok (codes "a1", say.Append (record (appended (codes "INBOX") (flags false true false true false) 2 true) { date = Some new_year }))
unfolding read internal_date
append_flags = refl

append_dated : read (codes "a1 APPEND \"a b\" \"\" {0}") ≡ Ok (codes "a1", say.Append (appended (codes "a b") (flags false false false false false) 0 true))
unfolding read internal_date
append_dated = refl

-- a date of RFC 9051, and one that the calendar hasn't
append_in_summer : read (codes "a1 APPEND INBOX \"17-Jul-1996 02:44:25 -0700\" {3}")
    ≡ Ok (
      codes "a1",
      say.Append (record (appended (codes "INBOX") (flags false false false false false) 3 true) {
        date = Some (record { year = 1996; month = 7; day = 17; hour = 2; minute = 44; second = 25; zone = record { is_west = true; hours = 7; minutes = 0 } });
      }),
    )
unfolding read internal_date
append_in_summer = refl

append_no_such_day : read (codes "a1 APPEND INBOX \"30-Feb-2000 00:00:00 +0000\" {3}") ≡ Ok (codes "a1", say.Append (appended (codes "INBOX") (flags false false false false false) 3 true))
unfolding read internal_date
append_no_such_day = refl

append_no_flags : read (codes "a1 APPEND INBOX () {7}") ≡ Ok (codes "a1", say.Append (appended (codes "INBOX") (flags false false false false false) 7 true))
unfolding read
append_no_flags = refl

-- as many bytes as anybody may ask for
append_most : read (codes "a1 APPEND INBOX {99999999999999999999}") ≡ Ok (codes "a1", say.Append (appended (codes "INBOX") (flags false false false false false) 18446744073709551615 true))
unfolding read
append_most = refl

append_tight : read (codes "a1 APPEND INBOX (\\Seen){3}") ≡ Err (Arguments (codes "a1") verbs.Append)
unfolding read
append_tight = refl

append_minus : read (codes "a1 APPEND INBOX {3-}") ≡ Err (Arguments (codes "a1") verbs.Append)
unfolding read
append_minus = refl

append_more : read (codes "a1 APPEND INBOX {3} x") ≡ Err (Arguments (codes "a1") verbs.Append)
unfolding read
append_more = refl

append_bare : read (codes "a1 APPEND INBOX \\Seen {3}") ≡ Err (Arguments (codes "a1") verbs.Append)
unfolding read
append_bare = refl

append_turned : read (codes "a1 APPEND INBOX \"x\" (\\Seen) {3}") ≡ Err (Arguments (codes "a1") verbs.Append)
unfolding read
append_turned = refl

append_none : read (codes "a1 APPEND INBOX {}") ≡ Err (Arguments (codes "a1") verbs.Append)
unfolding read
append_none = refl

select_literal : read (codes "a1 SELECT {5}") ≡ Err (Arguments (codes "a1") verbs.Select)
unfolding read
select_literal = refl

noop_more : read (codes "a1 NOOP x") ≡ Err (Arguments (codes "a1") verbs.Noop)
unfolding read
noop_more = refl

zero : read (codes "a1 FETCH 0 FLAGS") ≡ Err (Arguments (codes "a1") verbs.Fetch)
unfolding read
zero = refl

too_great : read (codes "a1 FETCH 4294967296 FLAGS") ≡ Err (Arguments (codes "a1") verbs.Fetch)
unfolding read
too_great = refl

leading_zero : read (codes "a1 FETCH 01 FLAGS") ≡ Err (Arguments (codes "a1") verbs.Fetch)
unfolding read
leading_zero = refl

no_items : read (codes "a1 FETCH 1 ()") ≡ Err (Arguments (codes "a1") verbs.Fetch)
unfolding read
no_items = refl

loose : read (codes "a1 FETCH 1 ( UID)") ≡ Err (Arguments (codes "a1") verbs.Fetch)
unfolding read
loose = refl

two_bare : read (codes "a1 FETCH 1 UID FLAGS") ≡ Err (Arguments (codes "a1") verbs.Fetch)
unfolding read
two_bare = refl

-- ---- items that the standard profile doesn't have

date : read (codes "a1 FETCH 1 InternalDate") ≡ Ok (codes "a1", say.Fetch (record { by_uid = false; set = range (Number 1) (Number 1) ∷ []; items = fetch.InternalDate ∷ [] }))
unfolding read
date = refl

parts_by_name : read (codes "a1 FETCH 1 (RFC822.HEADER rfc822.text RFC822)") ≡ Ok (codes "a1", say.Fetch (record { by_uid = false; set = range (Number 1) (Number 1) ∷ []; items = fetch.Rfc822 Header ∷ fetch.Rfc822 Text ∷ fetch.Rfc822 Whole ∷ [] }))
unfolding read
parts_by_name = refl

fast : read (codes "a1 FETCH 1 Fast ") ≡ Ok (codes "a1", say.Fetch (record { by_uid = false; set = range (Number 1) (Number 1) ∷ []; items = fetch.Flags ∷ fetch.InternalDate ∷ fetch.Size ∷ [] }))
unfolding read
fast = refl

fast_among_items : read (codes "a1 FETCH 1 (FAST UID)") ≡ Err (Arguments (codes "a1") verbs.Fetch)
unfolding read
fast_among_items = refl

fast_in_parentheses : read (codes "a1 FETCH 1 (FAST)") ≡ Err (Arguments (codes "a1") verbs.Fetch)
unfolding read
fast_in_parentheses = refl

part_of_rfc822 : read (codes "a1 FETCH 1 RFC822<0.4>") ≡ Err (Arguments (codes "a1") verbs.Fetch)
unfolding read
part_of_rfc822 = refl

fields_by_name : read (codes "a1 FETCH 1 BODY.PEEK[Header.Fields (DATE from)]") ≡ Ok (codes "a1", say.Fetch (record { by_uid = false; set = range (Number 1) (Number 1) ∷ []; items = fetch.Body true (parts.Fields false (codes "DATE" ∷ codes "from" ∷ [])) None ∷ [] }))
unfolding read
fields_by_name = refl

fields_among_items : read (codes "a1 FETCH 1 (UID BODY[HEADER.FIELDS.NOT (TO)]<0.9> FLAGS)") ≡ Ok (codes "a1", say.Fetch (record { by_uid = false; set = range (Number 1) (Number 1) ∷ []; items = fetch.Uid ∷ fetch.Body false (parts.Fields true (codes "TO" ∷ [])) (Some (record { origin = 0; count = 9 })) ∷ fetch.Flags ∷ [] }))
unfolding read
fields_among_items = refl

no_fields : read (codes "a1 FETCH 1 BODY[HEADER.FIELDS ()]") ≡ Err (Arguments (codes "a1") verbs.Fetch)
unfolding read
no_fields = refl

quoted_fields : read (codes "a1 FETCH 1 (BODY.PEEK[HEADER.FIELDS (\"Subject\" From)] UID)") ≡ Ok (codes "a1", say.Fetch (record { by_uid = false; set = range (Number 1) (Number 1) ∷ []; items = fetch.Body true (parts.Fields false (codes "\"Subject\"" ∷ codes "From" ∷ [])) None ∷ fetch.Uid ∷ [] }))
unfolding read
quoted_fields = refl

a_space_in_a_quoted_field : read (codes "a1 FETCH 1 BODY[HEADER.FIELDS (\"Sub ject\")]") ≡ Err (Arguments (codes "a1") verbs.Fetch)
unfolding read
a_space_in_a_quoted_field = refl

a_quoted_field_without_a_byte : read (codes "a1 FETCH 1 BODY[HEADER.FIELDS (\"\")]") ≡ Err (Arguments (codes "a1") verbs.Fetch)
unfolding read
a_quoted_field_without_a_byte = refl

a_quote_that_is_not_closed : read (codes "a1 FETCH 1 BODY[HEADER.FIELDS (\"To)]") ≡ Err (Arguments (codes "a1") verbs.Fetch)
unfolding read
a_quote_that_is_not_closed = refl

fields_without_a_space : read (codes "a1 FETCH 1 BODY[HEADER.FIELDS(TO)]") ≡ Err (Arguments (codes "a1") verbs.Fetch)
unfolding read
fields_without_a_space = refl

an_open_bracket : read (codes "a1 FETCH 1 (BODY[HEADER.FIELDS (TO) UID)") ≡ Err (Arguments (codes "a1") verbs.Fetch)
unfolding read
an_open_bracket = refl

full : read (codes "a1 FETCH 1 FULL") ≡ Err (Arguments (codes "a1") verbs.Fetch)
unfolding read
full = refl

envelope : read (codes "a1 FETCH 1 ENVELOPE") ≡ Err (Arguments (codes "a1") verbs.Fetch)
unfolding read
envelope = refl

empty_span : read (codes "a1 FETCH 1 BODY[]<0.0>") ≡ Err (Arguments (codes "a1") verbs.Fetch)
unfolding read
empty_span = refl

span_alone : read (codes "a1 FETCH 1 BODY[]<0>") ≡ Err (Arguments (codes "a1") verbs.Fetch)
unfolding read
span_alone = refl

open_quote : read (codes "a1 SELECT \"x") ≡ Err (Arguments (codes "a1") verbs.Select)
unfolding read
open_quote = refl

escape : read (codes "a1 SELECT \"\\x\"") ≡ Err (Arguments (codes "a1") verbs.Select)
unfolding read
escape = refl

no_pattern : read (codes "a1 LIST \"\"") ≡ Err (Arguments (codes "a1") verbs.List)
unfolding read
no_pattern = refl

empty_part : read (codes "a1 FETCH 1,,2 UID") ≡ Err (Arguments (codes "a1") verbs.Fetch)
unfolding read
empty_part = refl

three : read (codes "a1 FETCH 1:2:3 UID") ≡ Err (Arguments (codes "a1") verbs.Fetch)
unfolding read
three = refl

star_in_name : read (codes "a1 SELECT a*") ≡ Err (Arguments (codes "a1") verbs.Select)
unfolding read
star_in_name = refl

status_none : read (codes "a1 STATUS INBOX ()") ≡ Err (Arguments (codes "a1") verbs.Status)
unfolding read
status_none = refl

flag_star : read (codes "a1 STORE 1 FLAGS (\\*)") ≡ Err (Arguments (codes "a1") verbs.Store)
unfolding read
flag_star = refl

-- a byte below 32 after the verb
control : read (codes "a1 SELECT x" ++ 7 ∷ []) ≡ Err (Arguments (codes "a1") verbs.Select)
unfolding read
control = refl

control_in_login : read (codes "a1 LOGIN " ++ 7 ∷ []) ≡ Err (Arguments (codes "a1") verbs.Login)
unfolding read
control_in_login = refl

eight_bits : read (codes "a1 SELECT \"" ++ 200 ∷ 34 ∷ []) ≡ Ok (codes "a1", say.Select (200 ∷ []))
unfolding read
eight_bits = refl

capability : read (codes "a1 CAPABILITY") ≡ Ok (codes "a1", say.Capability)
unfolding read
capability = refl

logout : read (codes "a1 Logout") ≡ Ok (codes "a1", say.Logout)
unfolding read
logout = refl

namespace : read (codes "a1 NAMESPACE") ≡ Ok (codes "a1", say.Namespace)
unfolding read
namespace = refl

unselect : read (codes "a4 UNSELECT") ≡ Ok (codes "a4", say.Unselect)
unfolding read
unselect = refl

start_tls : read (codes "x STARTTLS") ≡ Ok (codes "x", say.StartTls)
unfolding read
start_tls = refl

spaced_uid : read (codes "x UID  EXPUNGE 4:2") ≡ Ok (codes "x", say.UidExpunge (range (Number 4) (Number 2) ∷ []))
unfolding read
spaced_uid = refl

plus_in_tag : read (codes "a+b NOOP") ≡ Err NoTag
unfolding read
plus_in_tag = refl

control_in_verb : read (codes "a1 NOOP" ++ 1 ∷ []) ≡ Err (Unknown (codes "a1"))
unfolding read
control_in_verb = refl

rename : read (codes "a1 RENAME a b") ≡ Err (LeftOut (codes "a1"))
unfolding read
rename = refl

idle_more : read (codes "a1 IDLE x") ≡ Err (Arguments (codes "a1") verbs.Idle)
unfolding read
idle_more = refl

append_no_literal : read (codes "a1 APPEND INBOX") ≡ Err (Arguments (codes "a1") verbs.Append)
unfolding read
append_no_literal = refl

append_joined : read (codes "a1 APPEND INBOX {3}x") ≡ Err (Arguments (codes "a1") verbs.Append)
unfolding read
append_joined = refl

append_loose : read (codes "a1 APPEND INBOX (\\Seen ) {3}") ≡ Err (Arguments (codes "a1") verbs.Append)
unfolding read
append_loose = refl

append_bare_date : read (codes "a1 APPEND INBOX 1-Jan-2026 {3}") ≡ Err (Arguments (codes "a1") verbs.Append)
unfolding read
append_bare_date = refl

append_no_name : read (codes "a1 APPEND {3}") ≡ Err (Arguments (codes "a1") verbs.Append)
unfolding read
append_no_name = refl

append_zeros : read (codes "a1 APPEND INBOX {005+}") ≡ Ok (codes "a1", say.Append (appended (codes "INBOX") (flags false false false false false) 5 false))
unfolding read
append_zeros = refl

append_none_dated : read (codes "a1 APPEND INBOX () \"x\" {0}  ") ≡ Ok (codes "a1", say.Append (appended (codes "INBOX") (flags false false false false false) 0 true))
unfolding read internal_date
append_none_dated = refl

append_flagged : read (codes "a1 APPEND INBOX (\\flagged $x \\SEEN) {1}") ≡ Ok (codes "a1", say.Append (appended (codes "INBOX") (flags false true false true false) 1 true))
unfolding read
append_flagged = refl

append_just_the_most : read (codes "a1 APPEND INBOX {18446744073709551615}") ≡ Ok (codes "a1", say.Append (appended (codes "INBOX") (flags false false false false false) 18446744073709551615 true))
unfolding read
append_just_the_most = refl

store_seen : read (codes "a STORE 1 +flags (\\seen $x)") ≡ Ok (codes "a", say.Store (record { by_uid = false; set = range (Number 1) (Number 1) ∷ []; silent = false; change = Insert (flags false false false true false) }))
unfolding read
store_seen = refl

-- ---- COPY and MOVE

-- RFC 9051, 6.4.7
copy_some : read (codes "A COPY 2:4 MEETING") ≡ Ok (codes "A", say.Copy (record { by_uid = false; moves = false; set = range (Number 2) (Number 4) ∷ []; name = codes "MEETING" }))
unfolding read
copy_some = refl

uid_copy_quoted : read (codes "a uid copy 5 \"Sent Items\"") ≡ Ok (codes "a", say.Copy (record { by_uid = true; moves = false; set = range (Number 5) (Number 5) ∷ []; name = codes "Sent Items" }))
unfolding read
uid_copy_quoted = refl

move_one : read (codes "a MOVE 1 Work") ≡ Ok (codes "a", say.Copy (record { by_uid = false; moves = true; set = range (Number 1) (Number 1) ∷ []; name = codes "Work" }))
unfolding read
move_one = refl

uid_move_some : read (codes "a UID MOVE 42:69 foo") ≡ Ok (codes "a", say.Copy (record { by_uid = true; moves = true; set = range (Number 42) (Number 69) ∷ []; name = codes "foo" }))
unfolding read
uid_move_some = refl

copy_parts : read (codes "a  Copy  1,3:*  INBOX/x  ") ≡ Ok (codes "a", say.Copy (record { by_uid = false; moves = false; set = range (Number 1) (Number 1) ∷ range (Number 3) Star ∷ []; name = codes "INBOX/x" }))
unfolding read
copy_parts = refl

move_escaped : read (codes "a move * \"a \\\"b\\\\\"") ≡ Ok (codes "a", say.Copy (record { by_uid = false; moves = true; set = range Star Star ∷ []; name = codes "a \"b\\" }))
unfolding read
move_escaped = refl

copy_empty_name : read (codes "a COPY 1 \"\"") ≡ Ok (codes "a", say.Copy (record { by_uid = false; moves = false; set = range (Number 1) (Number 1) ∷ []; name = codes "" }))
unfolding read
copy_empty_name = refl

copy_alone : read (codes "a COPY") ≡ Err (Arguments (codes "a") verbs.Copy)
unfolding read
copy_alone = refl

copy_no_set : read (codes "a COPY MEETING") ≡ Err (Arguments (codes "a") verbs.Copy)
unfolding read
copy_no_set = refl

copy_no_name : read (codes "a COPY 2:4") ≡ Err (Arguments (codes "a") verbs.Copy)
unfolding read
copy_no_name = refl

copy_blank_name : read (codes "a COPY 2:4 ") ≡ Err (Arguments (codes "a") verbs.Copy)
unfolding read
copy_blank_name = refl

copy_zero : read (codes "a COPY 0 x") ≡ Err (Arguments (codes "a") verbs.Copy)
unfolding read
copy_zero = refl

copy_more : read (codes "a COPY 1 x y") ≡ Err (Arguments (codes "a") verbs.Copy)
unfolding read
copy_more = refl

copy_turned : read (codes "a COPY x 1") ≡ Err (Arguments (codes "a") verbs.Copy)
unfolding read
copy_turned = refl

copy_bare_brace : read (codes "a COPY 1 {3}") ≡ Err (Arguments (codes "a") verbs.Copy)
unfolding read
copy_bare_brace = refl

uid_copy_no_name : read (codes "a UID COPY 5") ≡ Err (Arguments (codes "a") verbs.UidCopy)
unfolding read
uid_copy_no_name = refl

uid_copy_zero : read (codes "a UID COPY 1:0 x") ≡ Err (Arguments (codes "a") verbs.UidCopy)
unfolding read
uid_copy_zero = refl

move_no_name : read (codes "a MOVE 1") ≡ Err (Arguments (codes "a") verbs.Move)
unfolding read
move_no_name = refl

move_more : read (codes "a MOVE 1 \"x\" ()") ≡ Err (Arguments (codes "a") verbs.Move)
unfolding read
move_more = refl

uid_move_no_set : read (codes "a UID MOVE foo") ≡ Err (Arguments (codes "a") verbs.UidMove)
unfolding read
uid_move_no_set = refl

uid_move_joined : read (codes "a UID MOVE 42:69\"foo\"") ≡ Err (Arguments (codes "a") verbs.UidMove)
unfolding read
uid_move_joined = refl

-- ---- what sets name

star_of_none : by_position (range Star Star ∷ []) [] ≡ None
star_of_none = refl

star_of_no_uids : by_uid (range Star Star ∷ []) [] ≡ []
star_of_no_uids = refl

two_positions : by_position (range (Number 3) (Number 2) ∷ range Star Star ∷ []) (4 ∷ 9 ∷ 12 ∷ []) ≡ Some (9 ∷ 12 ∷ [])
two_positions = refl

above : by_position (range (Number 1) (Number 4) ∷ []) (4 ∷ 9 ∷ 12 ∷ []) ≡ None
above = refl

some_uids : by_uid (range (Number 100) Star ∷ range (Number 1) (Number 5) ∷ []) (4 ∷ 9 ∷ 12 ∷ []) ≡ 4 ∷ 12 ∷ []
some_uids = refl
