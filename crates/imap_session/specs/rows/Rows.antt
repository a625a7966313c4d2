-- Sessions, as they go: worked dialogues.
use Rattle.std.specs.Prelude.{◌≡◌, ℕ, Bool, true, false, codes, List, [], ◌∷◌, ◌++◌, Option, Some, None, refl}
use Rattle.std.specs.Option.{option_map}
use Rattle.std.specs.Fmt.{digits}
use Rattle.change_ring.specs.declared.change.Flags.{Flags}
use Rattle.change_ring.specs.declared.change.Change.TheVariants.{Add, Gone, Flags as SetFlags}
use Rattle.mailbox.specs.declared.clients.MailFault.TheVariants.{Lapped, Spent}
use Rattle.delivery_token.specs.declared.Verdict.{Verdict}
use Rattle.delivery_token.specs.declared.Verdict.TheVariants as verdicts
use Rattle.delivery_token.specs.declared.Refusal.TheVariants.{Full, MailboxFull}
use Rattle.imap_grammar.specs.Literals.{announced}
use Rattle.imap_grammar.specs.Reading.{read}
use Rattle.mail_date.specs.InternalBack.{internal_date}
use Rattle.mail_date.specs.declared.stamp.Stamp.{Stamp}
use Rattle.delivery_token.specs.Text.{undated}
use Rattle.imap_session.specs.Exchange.{Answer, Entered, Looked, Found, Counted, Altered, Expunged, Fed, Left, Refused, Starved, Turn, Sent, Standing, begun_with, may_send, nothing_sent}
use Rattle.imap_grammar.specs.declared.command.Command.TheVariants as commands
use Rattle.imap_session.specs.Exchange.{Client, Copied, Count, Discard, Discarded, Exchange, Done, Folder, Leave, Write}
use Rattle.imap_session.specs.Shows.{RestShowsNone, ShowsInOrder, VerdictShowsInOrder}
use Rattle.imap_session.specs.Telling.{TellsNoUid, VerdictTellsUid}
use Rattle.imap_session.specs.declared.standing.After.TheVariants.{Go}
use Rattle.imap_session.specs.declared.standing.After.TheVariants as afters
use Rattle.imap_session.specs.declared.standing.Append.{Append}
use Rattle.imap_session.specs.declared.standing.Profile.TheVariants.{Standard, Compatible}
use Rattle.imap_session.specs.Commands.{appended_words, completed, with_bytes, turn_of_verdict, idle_turn, turn_of, turn_of_long_line}

differ : true ≡ false → ⊥
differ e = cc

abbrev onto : {A B : Type 0} → Option A → (A → Option B) → Option B
onto None f = None
onto (Some x) f = f x

-- what happens to a session, with the store's answers: a line, or a turn while it idles
data Happening : Type 0 where
  Line : List ℕ → List Answer → Happening
  Turned : List Answer → Happening
  LongLine : Happening
  -- bytes of a literal, to which memory is refused or not
  Literal : Bool → List ℕ → Happening
  Heard : Verdict → List Answer → Happening

abbrev happens : Standing → Happening → Option Turn
happens now (Line line answers) = turn_of now line answers
happens now (Turned answers) = idle_turn now answers
happens now LongLine = Some (turn_of_long_line now)
happens now (Literal kept bytes) = Some (record { events = []; bytes = []; after = may_send (with_bytes kept bytes now); standing = with_bytes kept bytes now })
happens now (Heard verdict answers) = turn_of_verdict now verdict answers

-- all that is written
abbrev written : Standing → List Happening → Option (List ℕ)
written now [] = Some []
written now (h ∷ hs) = onto (happens now h) (λ (turn : Turn). option_map (λ rest. turn.bytes ++ rest) (written turn.standing hs))

abbrev flags : Bool → Bool → Bool → Bool → Bool → Flags
flags a b c d e = record { answered = a; flagged = b; deleted = c; seen = d; draft = e }

abbrev folders : List Folder
folders = record { name = codes "INBOX"; mailbox = 0 } ∷ record { name = codes "Work"; mailbox = 1 } ∷ []

abbrev awake : Standing
awake = begun_with (record { most = Some 10; profile = Standard; login = None }) folders

-- in the compatible profile, before the client has logged in, and behind that
abbrev at_the_door : Standing
at_the_door = begun_with (record { most = Some 10; profile = Compatible; login = Some (codes "SMITH") }) folders

abbrev inside : Standing
inside = record at_the_door { login = None }

abbrev in_inbox : Standing
in_inbox = record awake { selected = Some (record { mailbox = 0; read_only = false }) }

abbrev in_examined : Standing
in_examined = record awake { selected = Some (record { mailbox = 0; read_only = true }) }

-- an empty mailbox is selected: no position is in it, and each UID set of it is empty
empty_inbox : written awake
    (Line (codes "a1 SELECT inbox") (Entered (record { count = 0; uidnext = 1; uidvalidity = 7 }) ∷ []) ∷ Line (codes "a2 FETCH * FLAGS") (Looked [] ∷ []) ∷ Line (codes "a3 UID FETCH * FLAGS") (Looked [] ∷ Fed [] ([]) ∷ []) ∷ Line (codes "a4 LIST \"\" %") (Fed [] ([]) ∷ []) ∷ [])
    ≡ Some (codes "* FLAGS (\\Answered \\Flagged \\Deleted \\Seen \\Draft)\r\n* 0 EXISTS\r\n* OK [UIDVALIDITY 7] UIDs valid\r\n* OK [UIDNEXT 1] Predicted next UID\r\n* OK [PERMANENTFLAGS (\\Answered \\Flagged \\Deleted \\Seen \\Draft)] Flags kept\r\n* LIST () \"/\" INBOX\r\na1 OK [READ-WRITE] SELECT completed\r\na2 BAD Sequence number too high\r\na3 OK UID FETCH completed\r\n* LIST () \"/\" INBOX\r\n* LIST () \"/\" Work\r\na4 OK LIST completed\r\n")
unfolding read digits
empty_inbox = refl

-- EXPUNGE shows what is pending, removes, and shows that
two_expunged : written in_inbox
    (Line (codes "b2 STORE 1:2 +FLAGS (\\Deleted)") (Looked (1 ∷ 2 ∷ 3 ∷ []) ∷ Altered (Some (flags false false true false false)) ∷ Altered (Some (flags false false true false false)) ∷ []) ∷ Line (codes "b3 EXPUNGE") (Expunged (1 ∷ 2 ∷ 3 ∷ []) (SetFlags 1 (flags false false true false false) ∷ SetFlags 2 (flags false false true false false) ∷ []) 2 ∷ Fed (1 ∷ 2 ∷ 3 ∷ []) (Gone 1 ∷ Gone 2 ∷ []) ∷ []) ∷ [])
    ≡ Some (codes "* 1 FETCH (FLAGS (\\Deleted))\r\n* 2 FETCH (FLAGS (\\Deleted))\r\nb2 OK STORE completed\r\n* 1 FETCH (UID 1 FLAGS (\\Deleted))\r\n* 2 FETCH (UID 2 FLAGS (\\Deleted))\r\n* 1 EXPUNGE\r\n* 1 EXPUNGE\r\nb3 OK EXPUNGE completed\r\n")
unfolding read digits
two_expunged = refl

-- the set of a UID EXPUNGE is found before the changes are shown: UID 4 isn't in 1:*
set_before_feed : written in_inbox
    (Line (codes "b3 UID EXPUNGE 1:*") (Looked (1 ∷ 2 ∷ []) ∷ Expunged (1 ∷ 2 ∷ []) (Add 4 ∷ SetFlags 4 (flags false false true false false) ∷ []) 2 ∷ Fed (1 ∷ 2 ∷ 4 ∷ []) (Gone 1 ∷ Gone 2 ∷ []) ∷ []) ∷ [])
    ≡ Some (codes "* 3 EXISTS\r\n* 3 FETCH (UID 4 FLAGS (\\Deleted))\r\n* 1 EXPUNGE\r\n* 1 EXPUNGE\r\nb3 OK UID EXPUNGE completed\r\n")
unfolding read digits
set_before_feed = refl

-- a plain FETCH of messages that are gone shows no EXPUNGE
two_missed : written in_inbox
    (Line (codes "a2 FETCH 1:3 (UID)") (Looked (1 ∷ 2 ∷ 3 ∷ []) ∷ Found None ∷ Found None ∷ Found (Some (record { uid = 3; flags = (flags false false false false false); newly_seen = false; text = undated (codes "x") })) ∷ []) ∷ Line (codes "a3 NOOP") (Fed (1 ∷ 2 ∷ 3 ∷ []) (SetFlags 1 (flags false false true false false) ∷ SetFlags 2 (flags false false true false false) ∷ Gone 1 ∷ Gone 2 ∷ []) ∷ []) ∷ [])
    ≡ Some (codes "* 3 FETCH (UID 3)\r\na2 NO [EXPUNGEISSUED] Some messages are gone\r\n* 1 FETCH (UID 1 FLAGS (\\Deleted))\r\n* 2 FETCH (UID 2 FLAGS (\\Deleted))\r\n* 1 EXPUNGE\r\n* 1 EXPUNGE\r\na3 OK NOOP completed\r\n")
unfolding read digits
two_missed = refl

-- each change of flags is shown
both_flags : written in_inbox
    (Line (codes "a2 STORE 1 +FLAGS (\\Seen)") (Looked (1 ∷ []) ∷ Altered (Some (flags false true false true false)) ∷ []) ∷ Line (codes "a3 NOOP") (Fed (1 ∷ []) (SetFlags 1 (flags false true false false false) ∷ SetFlags 1 (flags false true false true false) ∷ []) ∷ []) ∷ [])
    ≡ Some (codes "* 1 FETCH (FLAGS (\\Flagged \\Seen))\r\na2 OK STORE completed\r\n* 1 FETCH (UID 1 FLAGS (\\Flagged))\r\n* 1 FETCH (UID 1 FLAGS (\\Flagged \\Seen))\r\na3 OK NOOP completed\r\n")
unfolding read digits
both_flags = refl

-- a silent STORE tells of no message, but that some are gone
silent : written in_inbox
    (Line (codes "a2 STORE 1:2 FLAGS.SILENT ()") (Looked (1 ∷ 2 ∷ []) ∷ Altered (Some (flags false false false false false)) ∷ Altered None ∷ []) ∷ Line (codes "a3 UID STORE 1:* -FLAGS (\\Seen)") (Looked (1 ∷ 2 ∷ []) ∷ Altered (Some (flags false false false false false)) ∷ Altered None ∷ Fed (1 ∷ 2 ∷ []) (Gone 2 ∷ []) ∷ []) ∷ [])
    ≡ Some (codes "a2 NO [EXPUNGEISSUED] Some messages are gone\r\n* 1 FETCH (UID 1 FLAGS ())\r\n* 2 EXPUNGE\r\na3 OK UID STORE completed\r\n")
unfolding read digits
silent = refl

-- too many changes were missed: no tagged line
lapped : written in_inbox
    (Line (codes "a2 NOOP") (Refused Lapped ∷ []) ∷ [])
    ≡ Some (codes "* BYE Too many changes were missed\r\n")
unfolding read digits
lapped = refl

-- a STORE laps its own session: what was said and done stands
lapped_half_way : written in_inbox
    (Line (codes "a2 STORE 1:2 +FLAGS (\\Seen)") (Looked (1 ∷ 2 ∷ []) ∷ Altered (Some (flags false false false true false)) ∷ Refused Lapped ∷ []) ∷ [])
    ≡ Some (codes "* 1 FETCH (FLAGS (\\Seen))\r\n* BYE Too many changes were missed\r\n")
unfolding read digits
lapped_half_way = refl

-- STATUS has the mailbox's own name, and the numbers in the order asked
status_of_inbox : written awake
    (Line (codes "a1 STATUS inbox (UIDNEXT MESSAGES)") (Counted (record { messages = 1; uidnext = 4294967295; uidvalidity = 7; unseen = 1; deleted = 0; size = 32 }) ∷ []) ∷ [])
    ≡ Some (codes "* STATUS INBOX (UIDNEXT 4294967295 MESSAGES 1)\r\na1 OK STATUS completed\r\n")
unfolding read digits
status_of_inbox = refl

-- STATUS counts the mailbox as it is, and then shows what is pending
status_of_selected : written in_inbox
    (Line (codes "a1 STATUS INBOX (MESSAGES)") (Counted (record { messages = 2; uidnext = 3; uidvalidity = 7; unseen = 2; deleted = 0; size = 2 }) ∷ Fed (1 ∷ []) (Add 2 ∷ []) ∷ []) ∷ [])
    ≡ Some (codes "* STATUS INBOX (MESSAGES 2)\r\n* 2 EXISTS\r\na1 OK STATUS completed\r\n")
unfolding read digits
status_of_selected = refl

-- a part of a text, and \Seen told
part_of_text : written in_inbox
    (Line (codes "a2 FETCH 1 BODY[TEXT]<1.3>") (Looked (1 ∷ []) ∷ Found (Some (record { uid = 1; flags = (flags false false false true false); newly_seen = true; text = undated (codes "Return-Path: <s@a.example>\r\nSubject: x\r\n\r\nhello\r\n") })) ∷ []) ∷ Line (codes "a3 FETCH 1 RFC822.SIZE") (Looked (1 ∷ []) ∷ Found (Some (record { uid = 1; flags = (flags false false false true false); newly_seen = false; text = undated (codes "Return-Path: <s@a.example>\r\nSubject: x\r\n\r\nhello\r\n") })) ∷ []) ∷ [])
    ≡ Some (codes "* 1 FETCH (BODY[TEXT]<1> {3}\r\nell FLAGS (\\Seen))\r\na2 OK FETCH completed\r\n* 1 FETCH (RFC822.SIZE 49)\r\na3 OK FETCH completed\r\n")
unfolding read digits
part_of_text = refl

-- the header of a text
header : written in_inbox
    (Line (codes "a2 FETCH 1 BODY.PEEK[HEADER]") (Looked (1 ∷ []) ∷ Found (Some (record { uid = 1; flags = (flags false false false false false); newly_seen = false; text = undated (codes "Return-Path: <s@a.example>\r\nSubject: x\r\n\r\nhello\r\n") })) ∷ []) ∷ [])
    ≡ Some (codes "* 1 FETCH (BODY[HEADER] {42}\r\nReturn-Path: <s@a.example>\r\nSubject: x\r\n\r\n)\r\na2 OK FETCH completed\r\n")
unfolding read digits
header = refl

-- under EXAMINE a FETCH sets no \Seen
whole_under_examine : written in_examined
    (Line (codes "a2 FETCH 1 BODY[]") (Looked (1 ∷ []) ∷ Found (Some (record { uid = 1; flags = (flags false false false false false); newly_seen = false; text = undated (codes "Return-Path: <s@a.example>\r\n") })) ∷ []) ∷ [])
    ≡ Some (codes "* 1 FETCH (BODY[] {28}\r\nReturn-Path: <s@a.example>\r\n)\r\na2 OK FETCH completed\r\n")
unfolding read digits
whole_under_examine = refl

-- a message is gone between the look and the read
gone_between : written in_inbox
    (Line (codes "a2 FETCH 1 FLAGS") (Looked (1 ∷ []) ∷ Found None ∷ []) ∷ [])
    ≡ Some (codes "a2 NO [EXPUNGEISSUED] Some messages are gone\r\n")
unfolding read digits
gone_between = refl

-- the same under UID FETCH
gone_between_by_uid : written in_inbox
    (Line (codes "a2 UID FETCH 1 FLAGS") (Looked (1 ∷ []) ∷ Found None ∷ Fed (1 ∷ []) (Gone 1 ∷ []) ∷ []) ∷ [])
    ≡ Some (codes "* 1 EXPUNGE\r\na2 OK UID FETCH completed\r\n")
unfolding read digits
gone_between_by_uid = refl

-- EXAMINE refuses a STORE before its set is looked at; a SELECT of no mailbox leaves the old one
read_only : written in_examined
    (Line (codes "a2 STORE 1 FLAGS ()") [] ∷ Line (codes "a3 SELECT Nope") (Left 0 ∷ []) ∷ Line (codes "a4 CLOSE") [] ∷ [])
    ≡ Some (codes "a2 NO Mailbox is read-only\r\n* OK [CLOSED] Previous mailbox is closed\r\na3 NO [NONEXISTENT] No such mailbox\r\na4 BAD Wrong state\r\n")
unfolding read digits
read_only = refl

-- a SELECT leaves the mailbox that was selected; EXAMINE keeps no flags; CLOSE of it removes nothing
selected_anew : written in_inbox
    (Line (codes "a2 EXAMINE INBOX") (Left 0 ∷ Entered (record { count = 3; uidnext = 4; uidvalidity = 7 }) ∷ []) ∷ Line (codes "a3 CLOSE") (Left 0 ∷ []) ∷ Line (codes "a4 EXPUNGE") [] ∷ [])
    ≡ Some (codes "* OK [CLOSED] Previous mailbox is closed\r\n* FLAGS (\\Answered \\Flagged \\Deleted \\Seen \\Draft)\r\n* 3 EXISTS\r\n* OK [UIDVALIDITY 7] UIDs valid\r\n* OK [UIDNEXT 4] Predicted next UID\r\n* OK [PERMANENTFLAGS ()] Flags kept\r\n* LIST () \"/\" INBOX\r\na2 OK [READ-ONLY] EXAMINE completed\r\na3 OK CLOSE completed\r\na4 BAD Wrong state\r\n")
unfolding read digits
selected_anew = refl

-- lines that are no commands, and what needs no mailbox
refusals : written awake
    (Line (codes "") [] ∷ Line (codes "a1 XYZ") [] ∷ Line (codes "a2 SEARCH") [] ∷ Line (codes "a3 NOOP x") [] ∷ Line (codes "a4 LOGIN a b") [] ∷ Line (codes "a5 CAPABILITY") [] ∷ Line (codes "a6 NAMESPACE") [] ∷ Line (codes "a7 LOGOUT") [] ∷ [])
    ≡ Some (codes "* BAD Missing tag\r\na1 BAD Unknown command\r\na2 NO [CANNOT] Not offered here\r\na3 BAD Invalid arguments\r\na4 BAD Wrong state\r\n* CAPABILITY IMAP4rev2 IDLE\r\na5 OK CAPABILITY completed\r\n* NAMESPACE ((\"\" \"/\")) NIL NIL\r\na6 OK NAMESPACE completed\r\n* BYE Logging out\r\na7 OK LOGOUT completed\r\n")
unfolding read digits
refusals = refl

-- memory is refused for the answer of the second message
starved : written in_inbox
    (Line (codes "a2 FETCH 1:2 (UID)") (Looked (1 ∷ 2 ∷ []) ∷ Found (Some (record { uid = 1; flags = (flags false false false false false); newly_seen = false; text = undated (codes "x") })) ∷ Found (Some (record { uid = 2; flags = (flags false false false false false); newly_seen = false; text = undated (codes "y") })) ∷ Starved 0 ∷ []) ∷ [])
    ≡ Some (codes "* 1 FETCH (UID 1)\r\na2 NO Out of memory\r\n")
unfolding read digits
starved = refl

-- the mailbox numbers no more changes
spent : written in_inbox
    (Line (codes "a2 STORE 1 +FLAGS (\\Seen)") (Looked (1 ∷ []) ∷ Refused Spent ∷ []) ∷ [])
    ≡ Some (codes "a2 NO Mailbox is spent\r\n")
unfolding read digits
spent = refl

-- an event that the line doesn't ask for is none of its dialogues
not_asked : written in_examined (Line (codes "a4 CAPABILITY") (Left 0 ∷ []) ∷ []) ≡ None
unfolding read
not_asked = refl

-- two messages come while a session idles
two_arrive : written in_inbox
    (Line (codes "a2 IDLE") [] ∷ Turned (Fed [] (Add 1 ∷ []) ∷ []) ∷ Turned (Fed (1 ∷ []) (Add 2 ∷ []) ∷ []) ∷ Line (codes "DONE") (Fed (1 ∷ 2 ∷ []) [] ∷ []) ∷ [])
    ≡ Some (codes "+ idling\r\n* 1 EXISTS\r\n* 2 EXISTS\r\na2 OK IDLE completed\r\n")
unfolding read digits
two_arrive = refl

-- DONE shows what is pending, in whatever case it is written
done_shows : written in_inbox
    (Line (codes "a2 idle ") [] ∷ Line (codes "done  ") (Fed [] (Add 1 ∷ []) ∷ []) ∷ [])
    ≡ Some (codes "+ idling\r\n* 1 EXISTS\r\na2 OK IDLE completed\r\n")
unfolding read digits
done_shows = refl

-- too many changes were missed by a session that idles
lapped_idler : written in_inbox
    (Line (codes "a2 IDLE") [] ∷ Turned (Refused Lapped ∷ []) ∷ [])
    ≡ Some (codes "+ idling\r\n* BYE Too many changes were missed\r\n")
unfolding read digits
lapped_idler = refl

-- a line that isn't DONE ends an IDLE, shows nothing, and isn't read as a command
not_done : written in_inbox
    (Line (codes "a2 IDLE") [] ∷ Line (codes "a3 NOOP") [] ∷ Line (codes "a4 NOOP") (Fed [] [] ∷ []) ∷ [])
    ≡ Some (codes "+ idling\r\na2 BAD Expected DONE\r\na4 OK NOOP completed\r\n")
unfolding read digits
not_done = refl

-- so does a line that is too long
too_long_while_idling : written in_inbox
    (Line (codes "a2 IDLE") [] ∷ LongLine ∷ LongLine ∷ [])
    ≡ Some (codes "+ idling\r\na2 BAD Expected DONE\r\n* BAD Line too long\r\n")
unfolding read digits
too_long_while_idling = refl

-- a session with no mailbox idles too, and nothing is shown
idle_without_a_mailbox : written awake
    (Line (codes "a1 IDLE") [] ∷ Turned [] ∷ Line (codes "DONE") [] ∷ [])
    ≡ Some (codes "+ idling\r\na1 OK IDLE completed\r\n")
unfolding read digits
idle_without_a_mailbox = refl

-- memory is refused for a tag of 33 bytes: it doesn't idle
starved_idler : written in_inbox
    (Line (codes "a23456789012345678901234567890123 IDLE") (Starved 0 ∷ []) ∷ Line (codes "a3 NOOP") (Fed [] [] ∷ []) ∷ [])
    ≡ Some (codes "a23456789012345678901234567890123 NO Out of memory\r\na3 OK NOOP completed\r\n")
unfolding read digits
starved_idler = refl

-- ---- where no memory is wanted none is refused

-- the mailbox that was selected is left, and that is told, before memory is wanted for the new one: where it is refused none is selected
select_without_memory : written in_inbox (Line (codes "a2 SELECT Work") (Left 0 ∷ Starved 0 ∷ []) ∷ Line (codes "a3 NOOP") [] ∷ Line (codes "a4 CLOSE") [] ∷ [])
    ≡ Some (codes "* OK [CLOSED] Previous mailbox is closed\r\na2 NO Out of memory\r\na3 OK NOOP completed\r\na4 BAD Wrong state\r\n")
unfolding read digits
select_without_memory = refl

-- memory isn't wanted for the line that tells so, nor for what is told of the mailbox that was entered
select_leaves_with_a_word : turn_of in_inbox (codes "a2 SELECT Work") (Starved 0 ∷ []) ≡ None
unfolding read
select_leaves_with_a_word = refl

select_enters_with_a_word : turn_of awake (codes "a2 SELECT Work") (Entered (record { count = 0; uidnext = 1; uidvalidity = 7 }) ∷ Starved 0 ∷ []) ≡ None
unfolding read
select_enters_with_a_word = refl

logout_without_memory : turn_of in_inbox (codes "a2 LOGOUT") (Starved 0 ∷ []) ≡ None
unfolding read digits
logout_without_memory = refl

close_without_memory : turn_of in_inbox (codes "a2 CLOSE") (Starved 0 ∷ []) ≡ None
unfolding read digits
close_without_memory = refl

capability_without_memory : turn_of in_inbox (codes "a2 CAPABILITY") (Starved 0 ∷ []) ≡ None
unfolding read digits
capability_without_memory = refl

idle_without_memory : turn_of in_inbox (codes "a2 IDLE") (Starved 0 ∷ []) ≡ None
unfolding read digits
idle_without_memory = refl

noop_without_memory : turn_of in_inbox (codes "a2 NOOP") (Starved 0 ∷ []) ≡ None
unfolding read digits
noop_without_memory = refl

-- only FETCH wants memory before the messages of a set are looked for, and UID EXPUNGE behind that
store_without_memory : turn_of in_inbox (codes "a2 STORE 1 FLAGS ()") (Starved 0 ∷ []) ≡ None
unfolding read digits
store_without_memory = refl

uid_expunge_without_memory : turn_of in_inbox (codes "a2 UID EXPUNGE 1") (Starved 0 ∷ []) ≡ None
unfolding read digits
uid_expunge_without_memory = refl

wanting_memory_for_sets : written in_inbox (Line (codes "a2 FETCH 1 (FLAGS)") (Starved 0 ∷ []) ∷ Line (codes "a3 UID EXPUNGE 1") (Looked (1 ∷ []) ∷ Starved 0 ∷ []) ∷ [])
    ≡ Some (codes "a2 NO Out of memory\r\na3 NO Out of memory\r\n")
unfolding read digits
wanting_memory_for_sets = refl

-- where the set names none, no UID is to be kept
uid_expunge_of_none_without_memory : turn_of in_inbox (codes "a2 UID EXPUNGE 7") (Looked (1 ∷ []) ∷ Starved 0 ∷ []) ≡ None
unfolding read digits
uid_expunge_of_none_without_memory = refl

-- where nothing is told of a message none is wanted
silent_without_memory : turn_of in_inbox (codes "a2 STORE 1 +FLAGS.SILENT (\\Deleted)") (Looked (1 ∷ []) ∷ Altered (Some (flags false false true false false)) ∷ Starved 0 ∷ []) ≡ None
unfolding read digits
silent_without_memory = refl

-- ---- what the law of shown changes forbids

-- a NOOP that shows nothing, where a mailbox is selected
never_shown : ShowsInOrder (codes "a1") in_inbox commands.Noop (completed commands.Noop) → ⊥
never_shown p = differ (p refl)

-- a CLOSE that tells of a message that is gone, and a NOOP that does
told_by_close : (x : Exchange) → ShowsInOrder (codes "a1") in_inbox commands.Close (Leave true (Write (codes "* 1 EXPUNGE\r\n") x)) → ⊥
told_by_close x p = p.0

told_by_noop : (x : Exchange) → ShowsInOrder (codes "a1") in_inbox commands.Noop (Write (codes "* 1 EXPUNGE\r\n") x) → ⊥
told_by_noop x p = p.0

-- ---- APPEND

counted : ℕ → Answer
counted uidvalidity = Counted (record { messages = 1; uidnext = 2; uidvalidity = uidvalidity; unseen = 1; deleted = 0; size = 5 })

-- a literal that is sent at once, and a second that is too big
appended : written awake
    (Line (codes "a1 APPEND INBOX {5+}") [] ∷ Literal true (codes "hel") ∷ Literal true (codes "lo") ∷ Line [] [] ∷ Heard (verdicts.Stored 1) (counted 7 ∷ []) ∷ Line (codes "a2 APPEND INBOX {4097+}") [] ∷ [])
    ≡ Some (codes "a1 OK [APPENDUID 7 1] APPEND completed\r\n* BYE Literal too big\r\n")
unfolding read digits counted
appended = refl

-- one that is asked for
asked_for : written awake
    (Line (codes "a2 APPEND Nope {3}") [] ∷ Line (codes "a3 APPEND inbox (\\Seen) {3}") [] ∷ Literal true (codes "abc") ∷ Line [] [] ∷ Heard (verdicts.Stored 2) (counted 7 ∷ []) ∷ [])
    ≡ Some (codes "a2 NO [TRYCREATE] No such mailbox\r\n+ ready\r\na3 OK [APPENDUID 7 2] APPEND completed\r\n")
unfolding read digits counted
asked_for = refl

-- a shard without room
full_shard : written awake (Line (codes "a1 APPEND INBOX {1+}") [] ∷ Literal true (codes "x") ∷ Line [] [] ∷ Heard (verdicts.Refused Full) [] ∷ [])
    ≡ Some (codes "a1 NO Shard full\r\n")
unfolding read digits
full_shard = refl

-- the empty text
empty_text : written awake (Line (codes "a1 APPEND INBOX {0}") [] ∷ Line [] [] ∷ Heard (verdicts.Stored 1) (counted 7 ∷ []) ∷ [])
    ≡ Some (codes "+ ready\r\na1 OK [APPENDUID 7 1] APPEND completed\r\n")
unfolding read digits counted
empty_text = refl

-- what is refused, in its order: bytes behind the literal, the name, the size, NUL
refused_in_order : written awake
    (Line (codes "a1 APPEND Nope {11+}") [] ∷ Literal true (codes "hello hello") ∷ Line (codes " ") []
    ∷ Line (codes "a2 APPEND Nope {11+}") [] ∷ Literal true (codes "hello hello") ∷ Line [] []
    ∷ Line (codes "a3 APPEND INBOX {11+}") [] ∷ Literal true (codes "hello hello") ∷ Line [] []
    ∷ Line (codes "a4 APPEND INBOX {1+}") [] ∷ Literal true (0 ∷ []) ∷ Line [] []
    ∷ Line (codes "a5 APPEND INBOX {11}") []
    ∷ Line (codes "a6 APPEND INBOX {1+}") [] ∷ Literal false (codes "x") ∷ Line (codes "x") []
    ∷ Line (codes "a7 APPEND INBOX {1+}") [] ∷ Literal true (codes "x") ∷ LongLine ∷ Line (codes "a8 NOOP") [] ∷ [])
    ≡ Some (codes "a1 BAD Invalid arguments\r\na2 NO [TRYCREATE] No such mailbox\r\na3 NO Message too big\r\na4 NO NUL byte\r\na5 NO Message too big\r\na6 NO Out of memory\r\na7 BAD Invalid arguments\r\na8 OK NOOP completed\r\n")
unfolding read digits
refused_in_order = refl

-- the same where the client waits: nothing is asked of it that is refused
refused_before : written awake
    (Line (codes "a1 APPEND Nope {11}") [] ∷ Line (codes "a2 APPEND INBOX {11}") []
    ∷ Line (codes "a3 APPEND INBOX {1}") [] ∷ Literal true (0 ∷ []) ∷ Line (codes "x") []
    ∷ Line (codes "a4 APPEND INBOX {1}") [] ∷ Literal true (0 ∷ []) ∷ Line [] []
    ∷ Line (codes "a5 APPEND INBOX {99999999999999999999}") [] ∷ [])
    ≡ Some (codes "a1 NO [TRYCREATE] No such mailbox\r\na2 NO Message too big\r\n+ ready\r\na3 BAD Invalid arguments\r\n+ ready\r\na4 NO NUL byte\r\na5 NO Message too big\r\n")
unfolding read digits
refused_before = refl

-- a literal that is too long for one that isn't asked for ends the session, whatever mailbox is named
too_long_unasked : written awake (Line (codes "a1 APPEND Nope {99999999999999999999+}") [] ∷ []) ≡ Some (codes "* BYE Literal too big\r\n")
unfolding read digits
too_long_unasked = refl

-- where the line is refused its literal is read as a line, and so it is while the session idles
bytes_read_as_lines : written awake
    (Line (codes "a1 APPEND INBOX {3+} x") [] ∷ Line (codes "abc") [] ∷ Line (codes "a2 IDLE") [] ∷ Line (codes "a3 APPEND INBOX {3+}") [] ∷ Line (codes "abc") [] ∷ [])
    ≡ Some (codes "a1 BAD Invalid arguments\r\nabc BAD Unknown command\r\n+ idling\r\na2 BAD Expected DONE\r\nabc BAD Unknown command\r\n")
unfolding read digits
bytes_read_as_lines = refl

-- a session that takes no message says so before it asks for one, and behind one that it didn't ask for
taken_nowhere : written (record awake { mailing = nothing_sent None })
    (Line (codes "a1 APPEND Nope {5}") [] ∷ Line (codes "a2 APPEND INBOX {5}") [] ∷ Line (codes "a3 APPEND INBOX {1+}") [] ∷ Literal true (codes "x") ∷ Line [] [] ∷ [])
    ≡ Some (codes "a1 NO [TRYCREATE] No such mailbox\r\na2 NO [CANNOT] Not offered here\r\na3 NO [CANNOT] Not offered here\r\n")
unfolding read digits
taken_nowhere = refl

-- no number is left for a message
abbrev numberless : Standing
numberless = record awake { mailing = record (nothing_sent (Some 10)) { number = 4294967295 } }

spent_numbers : written numberless
    (Line (codes "a1 APPEND INBOX {1+}") [] ∷ Literal true (0 ∷ []) ∷ Line [] [] ∷ Line (codes "a2 APPEND INBOX {1+}") [] ∷ Literal true (codes "x") ∷ Line [] [] ∷ [])
    ≡ Some (codes "a1 NO NUL byte\r\na2 NO Mailbox is spent\r\n")
unfolding read digits
spent_numbers = refl

-- memory is refused for the mailbox's name, for bytes in the middle, and for what the text's copies share
starved_appends : written awake
    (Line (codes "a1 APPEND INBOX {3}") (Starved 0 ∷ [])
    ∷ Line (codes "a2 APPEND Nope {5+}") [] ∷ Literal true (codes "h") ∷ Literal false (codes "el") ∷ Literal true (codes "lo") ∷ Line [] []
    ∷ Line (codes "a3 APPEND INBOX {1+}") [] ∷ Literal true (codes "x") ∷ Line [] (Starved 0 ∷ [])
    ∷ Line (codes "a4 APPEND INBOX {1+}") [] ∷ Literal false (codes "x") ∷ LongLine ∷ [])
    ≡ Some (codes "a1 NO Out of memory\r\na2 NO Out of memory\r\na3 NO Out of memory\r\na4 NO Out of memory\r\n")
unfolding read digits
starved_appends = refl

-- The client doesn't wait to be asked, and memory is refused for the mailbox's name: the bytes come all the same, and are no command. It is told behind them.
starved_unasked : written awake
    (Line (codes "a1 APPEND INBOX {6+}") (Starved 0 ∷ []) ∷ Literal true (codes "x NOOP") ∷ Line [] [] ∷ Line (codes "a2 APPEND INBOX {0+}") (Starved 0 ∷ []) ∷ Line [] [] ∷ Line (codes "a3 NOOP") [] ∷ [])
    ≡ Some (codes "a1 NO Out of memory\r\na2 NO Out of memory\r\na3 OK NOOP completed\r\n")
unfolding read digits
starved_unasked = refl

-- memory is refused for the tag with which that is to be told: the session ends
starved_tag : written awake (Line (codes "a23456789012345678901234567890123 APPEND INBOX {6+}") (Starved 1 ∷ []) ∷ []) ≡ Some (codes "* BYE Out of memory\r\n")
unfolding read digits
starved_tag = refl

-- a tag that is kept in place wants none
kept_in_place : turn_of awake (codes "a2345678901234567890123456789012 APPEND INBOX {6+}") (Starved 1 ∷ []) ≡ None
unfolding read digits
kept_in_place = refl

-- the selected mailbox shows its new message before the OK
appended_in_selected : written in_inbox
    (Line (codes "a1 APPEND Work (\\Seen) {1+}") [] ∷ Literal true (codes "x") ∷ Line [] [] ∷ Heard (verdicts.Stored 4) (counted 9 ∷ Fed (1 ∷ []) (Add 2 ∷ SetFlags 2 (flags false false false true false) ∷ []) ∷ []) ∷ [])
    ≡ Some (codes "* 2 EXISTS\r\n* 2 FETCH (UID 2 FLAGS (\\Seen))\r\na1 OK [APPENDUID 9 4] APPEND completed\r\n")
unfolding read digits counted
appended_in_selected = refl

-- a message that was refused shows nothing, and a session that missed changes says no OK
refused_and_lapped : written in_inbox
    (Line (codes "a1 APPEND INBOX {1+}") [] ∷ Literal true (codes "x") ∷ Line [] [] ∷ Heard (verdicts.Refused MailboxFull) []
    ∷ Line (codes "a2 APPEND INBOX {1+}") [] ∷ Literal true (codes "x") ∷ Line [] [] ∷ Heard (verdicts.Stored 2) (counted 7 ∷ Refused Lapped ∷ []) ∷ [])
    ≡ Some (codes "a1 NO Mailbox full\r\n* BYE Too many changes were missed\r\n")
unfolding read digits counted
refused_and_lapped = refl

-- ---- what is submitted

-- where all this leads
abbrev led : Standing → List Happening → Option Standing
led now [] = Some now
led now (h ∷ hs) = onto (happens now h) (λ (turn : Turn). led turn.standing hs)

abbrev submitted : Option Standing → Option Append
submitted now = onto now (λ (s : Standing). option_map (λ (sent : Sent). sent.append) s.mailing.sent)

-- its bytes and nothing before them, its flags, and the number of messages that were submitted before
second_message : submitted (led awake
    (Line (codes "a1 APPEND INBOX {1+}") [] ∷ Literal true (codes "x") ∷ Line [] [] ∷ Heard (verdicts.Refused Full) []
    ∷ Line (codes "a2 APPEND Nope {1+}") [] ∷ Literal true (codes "x") ∷ Line [] []
    ∷ Line (codes "a3 APPEND Work (\\Flagged \\Seen) {5+}") [] ∷ Literal true (codes "h") ∷ Literal true (codes "el") ∷ Literal true (codes "lo") ∷ Line [] [] ∷ []))
    ≡ Some (record { message = 1; mailbox = 1; text = undated (codes "hello"); flags = (flags false true false true false) })
unfolding read digits
second_message = refl

-- the date that the APPEND brought goes with its bytes; what the calendar hasn't is none
february : Stamp
february = record { year = 1994; month = 2; day = 7; hour = 21; minute = 52; second = 25; zone = record { is_west = true; hours = 8; minutes = 0 } }

dated_message : submitted (led awake (Line (codes "a1 APPEND INBOX (\\Seen) \" 7-Feb-1994 21:52:25 -0800\" {5+}") [] ∷ Literal true (codes "hello") ∷ Line [] [] ∷ []))
    ≡ Some (record { message = 0; mailbox = 0; text = record { bytes = codes "hello"; date = Some february }; flags = (flags false false false true false) })
unfolding read digits internal_date february
dated_message = refl

no_such_date : submitted (led awake (Line (codes "a1 APPEND INBOX \"30-Feb-2000 00:00:00 +0000\" {5+}") [] ∷ Literal true (codes "hello") ∷ Line [] [] ∷ []))
    ≡ Some (record { message = 0; mailbox = 0; text = undated (codes "hello"); flags = (flags false false false false false) })
unfolding read digits internal_date
no_such_date = refl

-- as many bytes are waited for as are due
waits_for_the_rest : option_map may_send (led awake (Line (codes "a1 APPEND INBOX {5+}") [] ∷ Literal true (codes "hel") ∷ [])) ≡ Some (afters.Literal 2)
unfolding read digits
waits_for_the_rest = refl

waits_for_the_line_end : option_map may_send (led awake (Line (codes "a1 APPEND INBOX {0}") [] ∷ [])) ≡ Some (afters.Literal 0)
unfolding read digits
waits_for_the_line_end = refl

-- ---- what isn't said

-- memory isn't wanted to part with a client that sends too much
too_big_without_memory : turn_of awake (codes "a1 APPEND INBOX {4097+}") (Starved 0 ∷ []) ≡ None
unfolding read digits
too_big_without_memory = refl

abbrev sent_one : Standing
sent_one = record awake { mailing = record (nothing_sent (Some 10)) { number = 1; sent = Some (record { tag = codes "a1"; append = record { message = 0; mailbox = 0; text = undated (codes "x"); flags = (flags false false false false false) }; origin = Client }) } }

-- the OK isn't said before its mailbox is counted, nor without a verdict
uncounted : turn_of_verdict sent_one (verdicts.Stored 1) [] ≡ None
uncounted = refl

starved_verdict : turn_of_verdict sent_one (verdicts.Stored 1) (counted 7 ∷ Starved 0 ∷ []) ≡ None
unfolding counted
starved_verdict = refl

no_verdict : turn_of_verdict awake (verdicts.Stored 1) (counted 7 ∷ []) ≡ None
no_verdict = refl

-- an OK behind a literal, before the verdict
told_before : RestShowsNone (Done (codes "OK [APPENDUID 7 1] APPEND completed") Go) → ⊥
told_before p = differ p

-- an OK for a message that was refused
told_of_refused : VerdictShowsInOrder None Client (verdicts.Refused Full) (Done (codes "OK [APPENDUID 7 1] APPEND completed") Go) → ⊥
told_of_refused p = differ p

-- ---- who tells a UID

abbrev one_of_seven : List ℕ
one_of_seven = codes "OK [APPENDUID 7 1] APPEND completed"

-- an exchange that tells one, behind a call and a line
tells_at_the_end : TellsNoUid (Count 0 (λ status. Write (codes "* 1 EXISTS\r\n") (Done one_of_seven Go))) → ⊥
tells_at_the_end p = differ (p (record { messages = 1; uidnext = 2; uidvalidity = 7; unseen = 1; deleted = 0; size = 5 }))

-- a message that was refused
tells_of_refused : VerdictTellsUid None Client 0 (verdicts.Refused Full) (Done one_of_seven Go) → ⊥
tells_of_refused p = differ p

-- a UIDVALIDITY that no mailbox was counted for, and one of another mailbox
tells_uncounted : VerdictTellsUid None Client 0 (verdicts.Stored 1) (Done one_of_seven Go) → ⊥
tells_uncounted p = p

tells_of_another : VerdictTellsUid None Client 0 (verdicts.Stored 1) (Count 1 (λ status. Done (appended_words status.uidvalidity 1) Go)) → ⊥
tells_of_another p = cc

-- ---- the standard profile lacks what the compatible one has

lacking : written awake
    (Line (codes "a1 CHECK") [] ∷ Line (codes "a2 CHECK x") [] ∷ Line (codes "a3 LSUB \"\" *") [] ∷ Line (codes "a4 SUBSCRIBE Work") [] ∷ Line (codes "a5 UNSUBSCRIBE") [] ∷ Line (codes "a6 STATUS INBOX (RECENT)") []
    ∷ Line (codes "a7 LOGIN SMITH SESAME") [] ∷ Line (codes "a8 LOGIN") [] ∷ [])
    ≡ Some (codes "a1 BAD Unknown command\r\na2 BAD Unknown command\r\na3 BAD Unknown command\r\na4 NO [CANNOT] Not offered here\r\na5 NO [CANNOT] Not offered here\r\na6 BAD Invalid arguments\r\na7 BAD Wrong state\r\na8 BAD Wrong state\r\n")
unfolding read digits
lacking = refl

-- ---- a client that is to log in (RFC 9051, 6.1 and 6.2)

logs_in_first : written at_the_door
    (Line (codes "a1 CAPABILITY") [] ∷ Line (codes "a2 NOOP") [] ∷ Line (codes "a3 SELECT INBOX") [] ∷ Line (codes "a4 AUTHENTICATE GSSAPI") [] ∷ Line (codes "a5 LOGIN smith SESAME") [] ∷ Line (codes "a6 LOGIN SMITH") []
    ∷ Line (codes "a7 LOGIN \"SMITH\" \"\"") [] ∷ Line (codes "a8 LOGIN SMITH SESAME") [] ∷ [])
    ≡ Some (codes "* CAPABILITY IMAP4rev2 IMAP4rev1 AUTH=PLAIN ENABLE ESEARCH ID IDLE LITERAL- MOVE NAMESPACE SASL-IR UIDPLUS UNSELECT\r\na1 OK CAPABILITY completed\r\na2 OK NOOP completed\r\na3 BAD Wrong state\r\na4 NO [CANNOT] Not offered here\r\na5 NO [AUTHENTICATIONFAILED] Another user's port\r\na6 BAD Invalid arguments\r\na7 OK LOGIN completed\r\na8 BAD Wrong state\r\n")
unfolding read digits announced
logs_in_first = refl

-- literals as arguments (RFC 9051, 4.3 and 6.2.3; RFC 7888): asked for, and not
logs_in_by_literals : written at_the_door
    (Line (codes "a1 LOGIN {5}") [] ∷ Literal true (codes "SMITH") ∷ Line (codes " {8+}") [] ∷ Literal true (codes "a \"b\" \\c") ∷ Line [] [] ∷ [])
    ≡ Some (codes "+ ready\r\na1 OK LOGIN completed\r\n")
unfolding read digits announced
logs_in_by_literals = refl

-- Another user's name; a literal that is no argument of this command; one for which a line has no room; and one that comes unasked and is too big.
takes_no_other_literal : written at_the_door
    (Line (codes "a1 LOGIN {5+}") [] ∷ Literal true (codes "smith") ∷ Line (codes " x") [] ∷ Line (codes "a2 NOOP {1}") [] ∷ Literal true (codes "x") ∷ Line [] [] ∷ Line (codes "a3 LOGIN {8182}") [] ∷ Line (codes "a4 LOGIN {4097+}") [] ∷ [])
    ≡ Some (codes "a1 NO [AUTHENTICATIONFAILED] Another user's port\r\n+ ready\r\na2 BAD Invalid arguments\r\na3 BAD Line too long\r\n* BYE Literal too big\r\n")
unfolding read digits announced
takes_no_other_literal = refl

-- AUTHENTICATE (RFC 9051, 6.2.2): an empty challenge, which the client cancels; and a mechanism that isn't offered
is_challenged : written at_the_door
    (Line (codes "a1 AUTHENTICATE PLAIN") [] ∷ Line (codes "*") [] ∷ Line (codes "a2 AUTHENTICATE LOGIN") [] ∷ [])
    ≡ Some (codes "+ \r\na1 BAD Invalid arguments\r\na2 NO [CANNOT] Not offered here\r\n")
unfolding read digits announced
is_challenged = refl

-- the standard profile has literals in APPEND alone, and doesn't have ID, ENABLE and AUTHENTICATE
lacks_literals : written awake
    (Line (codes "a1 SELECT {5}") [] ∷ Line (codes "a2 ID NIL") [] ∷ Line (codes "a3 ID x") [] ∷ Line (codes "a4 ENABLE CONDSTORE") [] ∷ Line (codes "a5 ENABLE") [] ∷ Line (codes "a6 AUTHENTICATE PLAIN") [] ∷ Line (codes "a7 AUTHENTICATE") [] ∷ [])
    ≡ Some (codes "a1 BAD Invalid arguments\r\na2 BAD Unknown command\r\na3 BAD Unknown command\r\na4 NO [CANNOT] Not offered here\r\na5 NO [CANNOT] Not offered here\r\na6 BAD Wrong state\r\na7 BAD Wrong state\r\n")
unfolding read digits announced
lacks_literals = refl

-- RFC 2971, 3.1, before the client has logged in; and RFC 9051, 6.3.1, behind that
tells_who_it_is : written at_the_door
    (Line (codes "a1 ID NIL") [] ∷ Line (codes "a2 ENABLE CONDSTORE") [] ∷ Line (codes "a3 LOGIN SMITH x") [] ∷ Line (codes "a4 ENABLE CONDSTORE QRESYNC") [] ∷ Line (codes "a5 ENABLE") [] ∷ [])
    ≡ Some (codes "* ID (\"name\" \"post_house\" \"version\" \"0.2.0\")\r\na1 OK ID completed\r\na2 BAD Wrong state\r\na3 OK LOGIN completed\r\n* ENABLED\r\na4 OK ENABLE completed\r\na5 BAD Invalid arguments\r\n")
unfolding read digits announced
tells_who_it_is = refl

leaves_at_once : written at_the_door (Line (codes "a1 LOGOUT") [] ∷ []) ≡ Some (codes "* BYE Logging out\r\na1 OK LOGOUT completed\r\n")
unfolding read digits
leaves_at_once = refl

-- behind the LOGIN: RFC 3501, 6.3.6, 6.3.9, 6.3.10 and 6.4.1
in_the_old_way : written inside
    (Line (codes "a1 SUBSCRIBE Work") [] ∷ Line (codes "a2 SUBSCRIBE Play") [] ∷ Line (codes "a3 UNSUBSCRIBE Work") [] ∷ Line (codes "a4 LSUB \"\" *") [] ∷ Line (codes "a5 STATUS Work (RECENT UNSEEN)") (Counted (record { messages = 2; uidnext = 3; uidvalidity = 7; unseen = 1; deleted = 0; size = 9 }) ∷ [])
    ∷ Line (codes "a6 SELECT INBOX") (Entered (record { count = 2; uidnext = 3; uidvalidity = 7 }) ∷ []) ∷ Line (codes "a7 CHECK") (Fed (1 ∷ 2 ∷ []) (Gone 1 ∷ []) ∷ []) ∷ [])
    ≡ Some (codes "a1 OK SUBSCRIBE completed\r\na2 NO [NONEXISTENT] No such mailbox\r\na3 OK UNSUBSCRIBE completed\r\n* LSUB () \"/\" INBOX\r\n* LSUB () \"/\" Work\r\na4 OK LSUB completed\r\n* STATUS Work (RECENT 0 UNSEEN 1)\r\na5 OK STATUS completed\r\n* FLAGS (\\Answered \\Flagged \\Deleted \\Seen \\Draft)\r\n* 2 EXISTS\r\n* OK [UIDVALIDITY 7] UIDs valid\r\n* OK [UIDNEXT 3] Predicted next UID\r\n* OK [PERMANENTFLAGS (\\Answered \\Flagged \\Deleted \\Seen \\Draft)] Flags kept\r\n* LIST () \"/\" INBOX\r\n* 0 RECENT\r\na6 OK [READ-WRITE] SELECT completed\r\n* 1 EXPUNGE\r\na7 OK CHECK completed\r\n")
unfolding read digits
in_the_old_way = refl

-- ---- COPY and MOVE (RFC 9051, 6.4.7 and 6.4.8; RFC 4315, 3; RFC 6851, 4.3)

abbrev at_inbox : Standing
at_inbox = record inside { selected = Some (record { mailbox = 0; read_only = false }) }

abbrev at_examined : Standing
at_examined = record inside { selected = Some (record { mailbox = 0; read_only = true }) }

abbrev flagged_message : Answer
flagged_message = Found (Some (record { uid = 5; flags = (flags false true false false false); newly_seen = false; text = undated (codes "hello") }))

-- the copy's UID stands behind that of the message, and the UIDVALIDITY of the copy's mailbox before both
copied : written at_inbox (Line (codes "a1 COPY 2 Work") (Looked (3 ∷ 5 ∷ []) ∷ flagged_message ∷ []) ∷ Heard (verdicts.Stored 9) (counted 7 ∷ Fed (3 ∷ 5 ∷ []) (Add 6 ∷ []) ∷ []) ∷ [])
    ≡ Some (codes "* 3 EXISTS\r\na1 OK [COPYUID 7 5 9] COPY completed\r\n")
unfolding read digits counted
copied = refl

-- with its text and its flags
copy_submitted : submitted (led at_inbox (Line (codes "a1 UID COPY 5 \"Work\"") (Looked (3 ∷ 5 ∷ []) ∷ flagged_message ∷ []) ∷ []))
    ≡ Some (record { message = 0; mailbox = 1; text = undated (codes "hello"); flags = (flags false true false false false) })
unfolding read digits
copy_submitted = refl

-- the message that is moved is removed behind that, and that is shown
moved_away : written at_inbox
    (Line (codes "a1 UID MOVE 5 Work") (Looked (3 ∷ 5 ∷ []) ∷ flagged_message ∷ [])
    ∷ Heard (verdicts.Stored 9) (counted 7 ∷ Discarded ∷ Fed (3 ∷ 5 ∷ []) (Gone 5 ∷ []) ∷ []) ∷ [])
    ≡ Some (codes "* OK [COPYUID 7 5 9] Moved\r\n* 2 EXPUNGE\r\na1 OK UID MOVE completed\r\n")
unfolding read digits counted
moved_away = refl

-- several are read, and their copies go one after another; nothing is said before the last verdict
abbrev plain_message : ℕ → Answer
plain_message uid = Found (Some (record { uid = uid; flags = (flags false false false false false); newly_seen = false; text = undated (codes "hi") }))

abbrev three_read : List Answer
three_read = Looked (3 ∷ 5 ∷ 6 ∷ []) ∷ plain_message 3 ∷ flagged_message ∷ plain_message 6 ∷ []

several_copied : written at_inbox
    (Line (codes "a1 COPY 1:3 Work") three_read ∷ Heard (verdicts.Stored 9) [] ∷ Heard (verdicts.Stored 10) [] ∷ Heard (verdicts.Stored 12) (counted 7 ∷ Fed (3 ∷ 5 ∷ 6 ∷ []) [] ∷ []) ∷ [])
    ≡ Some (codes "a1 OK [COPYUID 7 3,5:6 9:10,12] COPY completed\r\n")
unfolding read digits counted three_read
several_copied = refl

several_moved : written at_inbox
    (Line (codes "a1 MOVE 1:3 Work") three_read ∷ Heard (verdicts.Stored 9) [] ∷ Heard (verdicts.Stored 10) []
    ∷ Heard (verdicts.Stored 11) (counted 7 ∷ Discarded ∷ Fed (3 ∷ 5 ∷ 6 ∷ []) (Gone 3 ∷ Gone 5 ∷ Gone 6 ∷ []) ∷ []) ∷ [])
    ≡ Some (codes "* OK [COPYUID 7 3,5:6 9:11] Moved\r\n* 1 EXPUNGE\r\n* 1 EXPUNGE\r\n* 1 EXPUNGE\r\na1 OK MOVE completed\r\n")
unfolding read digits counted three_read
several_moved = refl

-- the second goes with its own text and flags, under the next number
second_submitted : submitted (led at_inbox (Line (codes "a1 COPY 1:3 Work") three_read ∷ Heard (verdicts.Stored 9) [] ∷ []))
    ≡ Some (record { message = 1; mailbox = 1; text = undated (codes "hello"); flags = (flags false true false false false) })
unfolding read digits three_read
second_submitted = refl

-- where one is refused, those that were stored are removed again
second_refused : written at_inbox (Line (codes "a1 COPY 1:3 Work") three_read ∷ Heard (verdicts.Stored 9) [] ∷ Heard (verdicts.Refused MailboxFull) (Discarded ∷ []) ∷ [])
    ≡ Some (codes "a1 NO Mailbox full\r\n")
unfolding read digits three_read
second_refused = refl

abbrev one_of_two_stored : Standing
one_of_two_stored = record at_inbox {
  mailing = record (nothing_sent (Some 10)) {
    number = 2;
    sent = Some (record {
      tag = codes "a1";
      append = record { message = 1; mailbox = 1; text = undated (codes "hi"); flags = (flags false false false false false) };
      origin = Copied (record { by_uid = false; moves = true; uids = 3 ∷ 5 ∷ []; left = []; copies = 9 ∷ [] });
    });
  };
}

copies_taken_back : option_map (λ (t : Turn). t.events) (turn_of_verdict one_of_two_stored (verdicts.Refused MailboxFull) (Discarded ∷ []))
    ≡ Some (record { call = Discard 1 (9 ∷ []); answer = Discarded } ∷ [])
copies_taken_back = refl

-- one that is gone is passed over where it was named by its UID, and stops the command where it was named by its number
gone_passed : written at_inbox
    (Line (codes "a1 UID COPY 3,5 Work") (Looked (3 ∷ 5 ∷ []) ∷ Found None ∷ flagged_message ∷ []) ∷ Heard (verdicts.Stored 9) (counted 7 ∷ Fed (3 ∷ 5 ∷ []) [] ∷ [])
    ∷ Line (codes "a2 COPY 1:2 Work") (Looked (3 ∷ 5 ∷ []) ∷ flagged_message ∷ Found None ∷ []) ∷ [])
    ≡ Some (codes "a1 OK [COPYUID 7 5 9] COPY completed\r\na2 NO [EXPUNGEISSUED] Some messages are gone\r\n")
unfolding read digits counted
gone_passed = refl

-- where the copy is refused the message stays
move_refused : written at_inbox (Line (codes "a1 MOVE 2 Work") (Looked (3 ∷ 5 ∷ []) ∷ flagged_message ∷ []) ∷ Heard (verdicts.Refused MailboxFull) [] ∷ []) ≡ Some (codes "a1 NO Mailbox full\r\n")
unfolding read digits
move_refused = refl

-- what is refused, in its order: the state, a mailbox that isn't changed, the name, the set, one that is gone, one that is too big
copies_refused : written inside (Line (codes "a1 COPY 1 Work") [] ∷ Line (codes "a2 MOVE 1 Nope") [] ∷ []) ≡ Some (codes "a1 BAD Wrong state\r\na2 BAD Wrong state\r\n")
unfolding read digits
copies_refused = refl

moves_refused : written at_examined (Line (codes "a1 UID MOVE 1 Nope") [] ∷ Line (codes "a2 COPY 1 Nope") [] ∷ []) ≡ Some (codes "a1 NO Mailbox is read-only\r\na2 NO [TRYCREATE] No such mailbox\r\n")
unfolding read digits
moves_refused = refl

sets_refused : written at_inbox
    (Line (codes "a1 COPY 3 Work") (Looked (3 ∷ 5 ∷ []) ∷ []) ∷ Line (codes "a3 UID MOVE 4 Work") (Looked (3 ∷ 5 ∷ []) ∷ [])
    ∷ Line (codes "a4 COPY 1 Work") (Looked (3 ∷ 5 ∷ []) ∷ Found None ∷ []) ∷ Line (codes "a5 UID COPY 3 Work") (Looked (3 ∷ 5 ∷ []) ∷ Found None ∷ []) ∷ [])
    ≡ Some (codes "a1 BAD Sequence number too high\r\na3 OK UID MOVE completed\r\na4 NO [EXPUNGEISSUED] Some messages are gone\r\na5 OK UID COPY completed\r\n")
unfolding read digits
sets_refused = refl

copies_starved : written at_inbox (Line (codes "a1 COPY 2 Work") (Starved 0 ∷ []) ∷ Line (codes "a2 COPY 2 Work") (Looked (3 ∷ 5 ∷ []) ∷ Starved 0 ∷ []) ∷ [])
    ≡ Some (codes "a1 NO Out of memory\r\na2 NO Out of memory\r\n")
unfolding read digits
copies_starved = refl

-- a session that takes no messages
copies_nowhere : written (record at_inbox { mailing = nothing_sent None }) (Line (codes "a1 COPY 2 Work") (Looked (3 ∷ 5 ∷ []) ∷ flagged_message ∷ []) ∷ []) ≡ Some (codes "a1 NO [CANNOT] Not offered here\r\n")
unfolding read digits
copies_nowhere = refl

-- nor are they there in the standard profile
copies_lacking : written in_inbox (Line (codes "a1 COPY 1 Work") [] ∷ Line (codes "a2 UID MOVE") [] ∷ []) ≡ Some (codes "a1 NO [CANNOT] Not offered here\r\na2 NO [CANNOT] Not offered here\r\n")
unfolding read digits
copies_lacking = refl

-- the OK of a COPY isn't said before its mailbox is counted, and a message isn't removed before that
copy_uncounted : VerdictShowsInOrder None (Copied (record { by_uid = false; moves = false; uids = 5 ∷ []; left = []; copies = [] })) (verdicts.Stored 9) (Done (codes "OK [COPYUID 7 5 9] COPY completed") Go) → ⊥
copy_uncounted p = differ p

moved_unshown : VerdictShowsInOrder (Some (record { mailbox = 0; read_only = false })) (Copied (record { by_uid = false; moves = true; uids = 5 ∷ []; left = []; copies = [] })) (verdicts.Stored 9)
    (Count 1 (λ status. Done (codes "OK MOVE completed") Go)) → ⊥
moved_unshown p = differ (p (record { messages = 1; uidnext = 2; uidvalidity = 7; unseen = 1; deleted = 0; size = 5 }) refl)
