-- What a relay handed over, by the bytes of worked cases.
use Rattle.std.specs.Prelude.{◌≡◌, ℕ, true, false, codes, List, [], ◌∷◌, ◌++◌, None, map, replicate}
use Rattle.std.proofs.Common.{refl}
use Rattle.delivery_token.specs.Text.{undated}
use Rattle.delivery_token.specs.declared.Verdict.TheVariants.{Stored, Refused}
use Rattle.delivery_token.specs.declared.Refusal.{Refusal}
use Rattle.delivery_token.specs.declared.Refusal.TheVariants.{MailboxFull}
use Rattle.envelope.specs.Names.{Directory}
use Rattle.envelope.specs.Values.{Path, To}
use Rattle.envelope.specs.Reading.{read, forward_at}
use Rattle.lmtp_machine.specs.Dialogue.{Event, Line, Starved, Answered, Shut, Setting, Submission, dialogue, fresh}
use Rattle.laws_relay.specs.ReplyLaws.{last_line}
use Rattle.laws_relay.specs.Handed.{Handed, Between, AsksMail, AsksDrop, AsksOther, ask_of, handed, handed_over, is_taken}
use Rattle.laws_relay.specs.Numbers.{number_of}
use Rattle.laws_relay.specs.Fates.{Awaited, Judged, TurnedAway, EachMayHappen, HaveFates, answers_of, ends_of, judged, lines_of, none, turned_away}

-- up to the reply to MAIL
abbrev pub greeting : List ℕ
greeting = codes "220 mx.example.org LMTP ready\r\n250-mx.example.org\r\n250-PIPELINING\r\n250-ENHANCEDSTATUSCODES\r\n250 8BITMIME\r\n250 2.1.0 Sender OK\r\n"

abbrev pub alice : List ℕ
alice = codes "RCPT TO:<alice@example.org>"

abbrev pub bob : List ℕ
bob = codes "RCPT TO:<bob@example.org>"

abbrev pub message : (mail : List ℕ) → (recipients lines replies : List (List ℕ)) → Handed
message mail recipients lines replies = record { mail = mail; recipients = recipients; lines = lines; replies = replies }

-- a copy's mailbox had no room for it
abbrev pub no_room : Refusal
no_room = MailboxFull

-- ---- recipients

abbrev pub three : List ℕ
three = codes "LHLO c.example\r\nMAIL FROM:<s@a.example>\r\nRCPT TO:<alice@example.org>\r\nRCPT TO:<carol@example.org>\r\nRCPT TO:<bob@example.org>\r\nDATA\r\nhi\r\n.\r\n"

-- one of them is unknown, and has no reply behind the data
one_unknown : handed_over three (greeting ++ codes "250 2.1.5 Recipient OK\r\n550 5.1.1 Mailbox unknown\r\n250 2.1.5 Recipient OK\r\n354 Start mail input\r\n250 2.1.5 Delivered\r\n452 4.2.2 Mailbox full\r\n")
    ≡ message (codes "MAIL FROM:<s@a.example>") (alice ∷ bob ∷ []) (codes "hi" ∷ []) (codes "250 2.1.5 Delivered" ∷ codes "452 4.2.2 Mailbox full" ∷ []) ∷ []
one_unknown = refl

-- the shard of one of them is closed, and mail for it isn't taken now
one_closed : handed_over three (greeting ++ codes "250 2.1.5 Recipient OK\r\n550 5.1.1 Mailbox unknown\r\n450 4.2.1 Shard closed\r\n354 Start mail input\r\n250 2.1.5 Delivered\r\n")
    ≡ message (codes "MAIL FROM:<s@a.example>") (alice ∷ []) (codes "hi" ∷ []) (codes "250 2.1.5 Delivered" ∷ []) ∷ []
one_closed = refl

-- none of them is there: DATA is answered by 503, the text's lines are commands, and nothing was handed over
none_there : handed_over three (greeting ++ codes "550 5.1.1 Mailbox unknown\r\n550 5.1.1 Mailbox unknown\r\n550 5.1.1 Mailbox unknown\r\n503 5.5.1 Bad sequence of commands\r\n500 5.5.1 Command unknown\r\n500 5.5.1 Command unknown\r\n")
    ≡ []
none_there = refl

-- one mailbox twice: each RCPT has a reply of its own
twice : handed_over (codes "LHLO c.example\r\nMAIL FROM:<>\r\nRCPT TO:<alice@example.org>\r\nRCPT TO:<alice@example.org>\r\nDATA\r\nhi\r\n.\r\n")
    (greeting ++ codes "250 2.1.5 Recipient OK\r\n250 2.1.5 Recipient OK\r\n354 Start mail input\r\n250 2.1.5 Delivered\r\n250 2.1.5 Delivered\r\n")
    ≡ message (codes "MAIL FROM:<>") (alice ∷ alice ∷ []) (codes "hi" ∷ []) (codes "250 2.1.5 Delivered" ∷ codes "250 2.1.5 Delivered" ∷ []) ∷ []
twice = refl

-- a RCPT line that was too long was answered by 500, and the server's next word is for the next line
too_long : handed_over (codes "LHLO c.example\r\nMAIL FROM:<>\r\nRCPT TO:<" ++ replicate 502 97 ++ codes ">\r\nRCPT TO:<bob@example.org>\r\nDATA\r\n.\r\n")
    (greeting ++ codes "500 5.5.2 Line too long\r\n250 2.1.5 Recipient OK\r\n354 Start mail input\r\n250 2.1.5 Delivered\r\n")
    ≡ message (codes "MAIL FROM:<>") (bob ∷ []) [] (codes "250 2.1.5 Delivered" ∷ []) ∷ []
too_long = refl

-- ---- where messages begin and end

-- RSET drops what was begun, and a second MAIL is answered by 503 and changes nothing
dropped : handed_over (codes "LHLO c.example\r\nMAIL FROM:<>\r\nRCPT TO:<alice@example.org>\r\nrset\r\nmail from:<s@a.example>\r\nMAIL FROM:<t@a.example>\r\nRCPT TO:<bob@example.org>\r\nDATA\r\n.\r\n")
    (greeting ++ codes "250 2.1.5 Recipient OK\r\n250 2.0.0 OK\r\n250 2.1.0 Sender OK\r\n503 5.5.1 Bad sequence of commands\r\n250 2.1.5 Recipient OK\r\n354 Start mail input\r\n250 2.1.5 Delivered\r\n")
    ≡ message (codes "mail from:<s@a.example>") (bob ∷ []) [] (codes "250 2.1.5 Delivered" ∷ []) ∷ []
dropped = refl

-- lines of data are as they were sent, whatever they look like; a dot before another dot ends nothing
like_commands : handed_over (codes "LHLO c.example\r\nMAIL FROM:<>\r\nRCPT TO:<alice@example.org>\r\nDATA\r\nRCPT TO:<bob@example.org>\r\nRSET\r\n..\r\n.\r\nQUIT\r\n")
    (greeting ++ codes "250 2.1.5 Recipient OK\r\n354 Start mail input\r\n250 2.1.5 Delivered\r\n221 2.0.0 Bye\r\n")
    ≡ message (codes "MAIL FROM:<>") (alice ∷ []) (bob ∷ codes "RSET" ∷ codes ".." ∷ []) (codes "250 2.1.5 Delivered" ∷ []) ∷ []
like_commands = refl

-- the first is too big, and each of its recipients is told so; the second has the replies that come then
too_big : handed_over (codes "LHLO c.example\r\nMAIL FROM:<>\r\nRCPT TO:<alice@example.org>\r\nRCPT TO:<bob@example.org>\r\nDATA\r\nbig\r\n.\r\nMAIL FROM:<>\r\nRCPT TO:<bob@example.org>\r\nDATA\r\nhi\r\n.\r\n")
    (greeting ++ codes "250 2.1.5 Recipient OK\r\n250 2.1.5 Recipient OK\r\n354 Start mail input\r\n552 5.3.4 Message too big\r\n552 5.3.4 Message too big\r\n250 2.1.0 Sender OK\r\n250 2.1.5 Recipient OK\r\n354 Start mail input\r\n250 2.1.5 Delivered\r\n")
    ≡ message (codes "MAIL FROM:<>") (alice ∷ bob ∷ []) (codes "big" ∷ []) (codes "552 5.3.4 Message too big" ∷ codes "552 5.3.4 Message too big" ∷ [])
    ∷ message (codes "MAIL FROM:<>") (bob ∷ []) (codes "hi" ∷ []) (codes "250 2.1.5 Delivered" ∷ []) ∷ []
too_big = refl

-- ---- where what was told ends early

-- within the replies to the second message: its first recipient has no reply yet, though digits came
abbrev pub two_messages : List ℕ
two_messages = three ++ codes "mail from:<>\r\nRCPT TO:<bob@example.org>\r\nDATA\r\n..\r\n.\r\n"

abbrev pub first_replies : List ℕ
first_replies = greeting ++ codes "250 2.1.5 Recipient OK\r\n550 5.1.1 Mailbox unknown\r\n250 2.1.5 Recipient OK\r\n354 Start mail input\r\n250 2.1.5 Delivered\r\n452 4.2.2 Mailbox full\r\n250 2.1.0 Sender OK\r\n250 2.1.5 Recipient OK\r\n"

abbrev pub first_message : Handed
first_message = message (codes "MAIL FROM:<s@a.example>") (alice ∷ bob ∷ []) (codes "hi" ∷ []) (codes "250 2.1.5 Delivered" ∷ codes "452 4.2.2 Mailbox full" ∷ [])

cut_short : handed_over two_messages (first_replies ++ codes "354 Start mail input\r\n250 2.1.5 Deliv")
    ≡ first_message ∷ message (codes "mail from:<>") (bob ∷ []) (codes ".." ∷ []) [] ∷ []
cut_short = refl

-- before the reply to DATA: it doesn't know that its text was taken as one
before_data : handed_over two_messages first_replies ≡ first_message ∷ []
before_data = refl

-- between the replies to the first
between : handed_over two_messages (greeting ++ codes "250 2.1.5 Recipient OK\r\n550 5.1.1 Mailbox unknown\r\n250 2.1.5 Recipient OK\r\n354 Start mail input\r\n250 2.1.5 Delivered\r\n452 4.2.2")
    ≡ message (codes "MAIL FROM:<s@a.example>") (alice ∷ bob ∷ []) (codes "hi" ∷ []) (codes "250 2.1.5 Delivered" ∷ []) ∷ []
between = refl

-- the server shut down within the text: the rest was sent, and no copy was taken
shut_within : handed_over three (greeting ++ codes "250 2.1.5 Recipient OK\r\n550 5.1.1 Mailbox unknown\r\n250 2.1.5 Recipient OK\r\n354 Start mail input\r\n421 4.3.2 Shutting down\r\n")
    ≡ message (codes "MAIL FROM:<s@a.example>") (alice ∷ bob ∷ []) (codes "hi" ∷ []) (codes "421 4.3.2 Shutting down" ∷ []) ∷ []
shut_within = refl

-- ---- what it makes of that

first_is_taken : is_taken first_message 0 ≡ true
first_is_taken = refl

second_is_not : is_taken first_message 1 ≡ false
second_is_not = refl

no_third : is_taken first_message 2 ≡ false
no_third = refl

-- ---- lines of its own

in_any_case : ask_of (codes "mAiL from:<>") ≡ AsksMail
in_any_case = refl

a_greeting_drops : ask_of (codes "LHLO c.example") ≡ AsksDrop
a_greeting_drops = refl

another : ask_of (codes "VRFY rcpt") ≡ AsksOther
another = refl

-- ---- of a dialogue: what was submitted is what the relay knows

abbrev pub home : Directory
home = record {
  domains = codes "example.org" ∷ [];
  homes = record { user = codes "alice"; folder = None } ∷ record { user = codes "bob"; folder = None } ∷ [];
  shards = 1;
  shut = false ∷ [];
}

abbrev pub setting : Setting
setting = record { seat = 0; serial = 0; max_message = 5 }

-- alice and bob; then one that is too big for carol and bob; and one for whose text memory is refused
abbrev pub heard : List Event
heard =
    Line (codes "LHLO c.example") ∷ Line (codes "MAIL FROM:<s@a.example>") ∷ Line bob ∷ Line alice ∷ Line (codes "DATA") ∷ Line (codes "..") ∷ Line (codes ".")
    ∷ Answered (Refused MailboxFull ∷ Stored 7 ∷ [])
    ∷ Line (codes "MAIL FROM:<>") ∷ Line (codes "RCPT TO:<carol@example.org>") ∷ Line bob ∷ Line (codes "DATA") ∷ Line (codes "mail") ∷ Line (codes ".")
    ∷ Line (codes "MAIL FROM:<>") ∷ Line alice ∷ Line (codes "DATA") ∷ Starved ∷ Shut ∷ []

abbrev pub handed_over_then : List Handed
handed_over_then =
    message (codes "MAIL FROM:<s@a.example>") (bob ∷ alice ∷ []) (codes ".." ∷ []) (codes "452 4.2.2 Mailbox full" ∷ codes "250 2.1.5 Delivered" ∷ [])
    ∷ message (codes "MAIL FROM:<>") (bob ∷ []) (codes "mail" ∷ []) (codes "552 5.3.4 Message too big" ∷ [])
    ∷ message (codes "MAIL FROM:<>") (alice ∷ []) [] (codes "451 4.3.0 Out of memory" ∷ []) ∷ []

known : handed Between (lines_of heard) (map (last_line (codes "mx.example.org")) (dialogue setting home fresh heard).replies) ≡ handed_over_then
unfolding read forward_at
known = refl

abbrev pub the_submission : Submission
the_submission = record {
  keys = record { seat = 0; serial = 0; message = 0; recipient = 0 } ∷ record { seat = 0; serial = 0; message = 0; recipient = 1 } ∷ [];
  mailboxes = 1 ∷ 0 ∷ [];
  text = undated (codes "Return-Path: <s@a.example>\r\n.\r\n");
}

submitted : (dialogue setting home fresh heard).submissions ≡ the_submission ∷ []
unfolding read forward_at
submitted = refl

told : answers_of heard ≡ (Refused MailboxFull ∷ Stored 7 ∷ []) ∷ []
told = refl

ended : ends_of setting home fresh heard ≡ (the_submission ∷ []) ∷ [] ∷ [] ∷ []
unfolding read forward_at
ended = refl

-- each of these events may happen where it comes
may_happen : EachMayHappen setting home fresh heard
unfolding read forward_at
may_happen = (tt, (tt, (tt, (tt, (tt, (tt, (tt, (refl, (tt, (tt, (tt, (tt, (tt, (tt, (tt, (tt, (tt, (tt, (tt, tt)))))))))))))))))))

-- each has its fate: the first was submitted and judged, the others were refused as a whole
abbrev pub path_to : (local : List ℕ) → Path
path_to local = To (record { local = local; domain = codes "example.org" })

fates : HaveFates (codes "mx.example.org") home handed_over_then (Judged the_submission (Refused MailboxFull ∷ Stored 7 ∷ []) ∷ TurnedAway ∷ TurnedAway ∷ [])
unfolding read forward_at
fates =
    judged _ the_submission (Refused MailboxFull ∷ Stored 7 ∷ [])
    (record {
      names = ((path_to (codes "bob"), refl, refl), ((path_to (codes "alice"), refl, refl), tt));
      sender = codes "s@a.example";
      from = (To (record { local = codes "s"; domain = codes "a.example" }), refl, refl);
      text = refl;
    })
    refl refl
    (turned_away _ refl refl (turned_away _ refl refl none))

-- the third message that was handed over is the second that was submitted, where the second was turned away
counted : number_of (Judged the_submission [] ∷ TurnedAway ∷ Awaited the_submission ∷ []) 2 ≡ 1
counted = refl
