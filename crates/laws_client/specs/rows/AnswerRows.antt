-- How answers end, which numbers their last lines tell, and how a client cuts what it reads.
use Rattle.std.specs.Prelude.{◌≡◌, ℕ, List, true, false, codes, [], ◌∷◌, Bool, Some, None}
use Rattle.imap_grammar.specs.Literals.{announced}
use Rattle.imap_grammar.specs.Reading.{read}
use Rattle.imap_session.specs.Exchange.{Sent, Client, Copied, Batch, Folder}
use Rattle.std.specs.Fmt.{digits}
use Rattle.std.proofs.Common.{refl, inl, sym}
use Rattle.imap_session.specs.Commands.{appended_words, copied_words, with_copy}
use Rattle.imap_session.specs.Telling.{tells_uid}
use Rattle.laws_client.specs.Appends.{copy_under, IsSentAs, IsCopyOf, SaysMoved, SaysVerdict, awaits_next}
use Rattle.imap_session.specs.Happenings.{Answer, Words}
use Rattle.laws_client.specs.Cuts.{amid, between, cut_between, cuts, is_ended}
use Rattle.imap_grammar.specs.declared.set.SeqNumber.TheVariants.{Number}
use Rattle.exactly_once.specs.Found.{none_named, one_found, one_gone}
use Rattle.mailbox.specs.declared.clients.Row.{Row}
use Rattle.delivery_token.specs.declared.Verdict.TheVariants.{Stored, Refused}
use Rattle.imap_answers.specs.Answers.{date_item}
use Rattle.mail_date.specs.InternalBack.{internal_date}
use Rattle.mail_date.specs.declared.stamp.Stamp.{Stamp}
use Rattle.delivery_token.specs.declared.CopyKey.{CopyKey}
use Rattle.delivery_token.specs.Text.{undated}
use Rattle.delivery_token.specs.declared.Refusal.TheVariants.{Full}
use Rattle.std.proofs.lemmas.Bool.{false≢true}
use Rattle.laws_client.specs.Clients.{EndsWith, IsSpelled, as_it_stands, last_line, with_literal, with_response}

-- ---- the last line

-- what was pending is shown, and the message is stored under the UID 3
its_last_line : last_line (codes "* 2 EXISTS\r\na1 OK [APPENDUID 7 3] APPEND completed\r\n") ≡ codes "a1 OK [APPENDUID 7 3] APPEND completed"
its_last_line = refl

one_line : last_line (codes "a1 OK NOOP completed\r\n") ≡ codes "a1 OK NOOP completed"
one_line = refl

says_nothing : last_line [] ≡ []
says_nothing = refl

told_so : EndsWith (codes "a1") (appended_words 7 3) (codes "* 2 EXISTS\r\na1 OK [APPENDUID 7 3] APPEND completed\r\n")
unfolding digits
told_so = record { chosen = refl; last = refl }

-- a text that a FETCH tells has such a line; its last line is the OK of the FETCH
not_within : last_line (codes "* 1 FETCH (BODY[] {38}\r\na1 OK [APPENDUID 7 3] APPEND completed)\r\na2 OK FETCH completed\r\n") ≡ codes "a2 OK FETCH completed"
not_within = refl

not_of_a_fetch : tells_uid (codes "OK FETCH completed") ≡ false
not_of_a_fetch = refl

-- ---- which message was sent

abbrev a_message : (mailbox : ℕ) → (text : List ℕ) → Sent
a_message mailbox text = record { tag = codes "a1"; append = record { message = 0; mailbox = mailbox; flags = record { answered = false; flagged = false; deleted = false; seen = true; draft = false }; text = undated text }; origin = Client }

-- a client that may first have said something else, and goes on behind
sent_so : IsSentAs (record { name = codes "INBOX"; mailbox = 4 } ∷ []) (codes "a0 NOOP\r\na1 APPEND INBOX (\\Seen) {3}\r\nx\r\n\r\na2 LOGOUT\r\n") (a_message 4 (codes "x\r\n"))
unfolding read
sent_so = record {
  front = codes "a0 NOOP\r\n";
  bytes = codes "a1 APPEND INBOX (\\Seen) {3}";
  line = codes "a1 APPEND INBOX (\\Seen) {3}";
  behind = codes "a2 LOGOUT\r\n";
  append = record { name = codes "INBOX"; flags = record { answered = false; flagged = false; deleted = false; seen = true; draft = false }; date = None; literal = record { size = 3; waits = true } };
  spelled = as_it_stands (codes "a1 APPEND INBOX (\\Seen) {3}");
  reads = refl;
  named = refl;
  flags = refl;
  date = refl;
  size = refl;
  whole = refl;
}

-- one that brings a date (RFC 9051, 9: date-time; the date is that of the example in section 8)
abbrev in_july : Stamp
in_july = record { year = 1996; month = 7; day = 17; hour = 2; minute = 44; second = 25; zone = record { is_west = true; hours = 7; minutes = 0 } }

abbrev a_dated_message : Sent
a_dated_message = record (a_message 4 (codes "x\r\n")) { append = record (a_message 4 (codes "x\r\n")).append { text = record { bytes = codes "x\r\n"; date = Some in_july } } }

sent_with_a_date : IsSentAs (record { name = codes "INBOX"; mailbox = 4 } ∷ []) (codes "a1 APPEND INBOX (\\Seen) \"17-Jul-1996 02:44:25 -0700\" {3+}\r\nx\r\n\r\n") a_dated_message
unfolding read internal_date
sent_with_a_date = record {
  front = [];
  bytes = codes "a1 APPEND INBOX (\\Seen) \"17-Jul-1996 02:44:25 -0700\" {3+}";
  line = codes "a1 APPEND INBOX (\\Seen) \"17-Jul-1996 02:44:25 -0700\" {3+}";
  behind = [];
  append = record {
    name = codes "INBOX";
    flags = record { answered = false; flagged = false; deleted = false; seen = true; draft = false };
    date = Some in_july;
    literal = record { size = 3; waits = false };
  };
  spelled = as_it_stands (codes "a1 APPEND INBOX (\\Seen) \"17-Jul-1996 02:44:25 -0700\" {3+}");
  reads = refl;
  named = refl;
  flags = refl;
  date = refl;
  size = refl;
  whole = refl;
}

-- and this is what a FETCH tells of its copy
its_date : (key : CopyKey) → date_item (copy_under key a_dated_message).text ≡ codes "INTERNALDATE \"17-Jul-1996 02:44:25 -0700\""
its_date key = refl

-- and one that names its mailbox by a literal
sent_by_literals : IsSentAs (record { name = codes "INBOX"; mailbox = 4 } ∷ []) (codes "a1 APPEND {5}\r\ninbox (\\Seen) {3+}\r\nx\r\n\r\n") (a_message 4 (codes "x\r\n"))
unfolding read announced
sent_by_literals = record {
  front = [];
  bytes = codes "a1 APPEND {5}\r\ninbox (\\Seen) {3+}";
  line = codes "a1 APPEND \"inbox\" (\\Seen) {3+}";
  behind = [];
  append = record { name = codes "inbox"; flags = record { answered = false; flagged = false; deleted = false; seen = true; draft = false }; date = None; literal = record { size = 3; waits = false } };
  spelled = with_literal (codes "a1 APPEND {5}") (codes "a1 APPEND {5}") (10, record { size = 5; waits = true }) (codes "inbox") (codes " (\\Seen) {3+}") (as_it_stands (codes "a1 APPEND {5}")) refl refl;
  reads = refl;
  named = refl;
  flags = refl;
  date = refl;
  size = refl;
  whole = refl;
}

-- the second message that the client was told of, which has the UID 7, before its copy is stored
abbrev of_the_second : Bool → Batch
of_the_second moves = record { by_uid = false; moves = moves; uids = 7 ∷ []; left = []; copies = [] }

abbrev of_batch : Batch → (mailbox : ℕ) → (text : List ℕ) → Sent
of_batch batch mailbox text = record (a_message mailbox text) { origin = Copied batch }

abbrev inbox_and_archive : List Folder
inbox_and_archive = record { name = codes "INBOX"; mailbox = 4 } ∷ record { name = codes "Archive"; mailbox = 5 } ∷ []

copied_so : IsCopyOf inbox_and_archive (codes "a0 NOOP\r\na1 COPY 2 Archive\r\n") (of_batch (of_the_second false) 5 (codes "x\r\n")) (of_the_second false)
unfolding read
copied_so = record {
  front = codes "a0 NOOP\r\n";
  bytes = codes "a1 COPY 2 Archive";
  line = codes "a1 COPY 2 Archive";
  behind = [];
  copy = record { by_uid = false; moves = false; set = record { from = Number 2; to = Number 2 } ∷ []; name = codes "Archive" };
  view = 3 ∷ 7 ∷ [];
  uids = 7 ∷ [];
  spelled = as_it_stands (codes "a1 COPY 2 Archive");
  reads = refl;
  named = refl;
  by_uid = refl;
  moves = refl;
  set = refl;
  some = one_found 7 [] [] none_named;
  all = λ by_number. refl;
  place = refl;
  whole = refl;
}

-- Of three that are named by their UIDs the second is gone. The copy of the first is stored, under the UID 9, and the other is on its way.
abbrev of_two : (left : List Row) → (copies : List ℕ) → Batch
of_two left copies = record { by_uid = true; moves = false; uids = 3 ∷ 5 ∷ []; left = left; copies = copies }

one_was_gone : IsCopyOf inbox_and_archive (codes "a1 UID COPY 3:5 Archive\r\n") (of_batch (of_two [] (9 ∷ [])) 5 (codes "x\r\n")) (of_two [] (9 ∷ []))
unfolding read
one_was_gone = record {
  front = [];
  bytes = codes "a1 UID COPY 3:5 Archive";
  line = codes "a1 UID COPY 3:5 Archive";
  behind = [];
  copy = record { by_uid = true; moves = false; set = record { from = Number 3; to = Number 5 } ∷ []; name = codes "Archive" };
  view = 3 ∷ 4 ∷ 5 ∷ 7 ∷ [];
  uids = 3 ∷ 4 ∷ 5 ∷ [];
  spelled = as_it_stands (codes "a1 UID COPY 3:5 Archive");
  reads = refl;
  named = refl;
  by_uid = refl;
  moves = refl;
  set = refl;
  some = one_found 3 (5 ∷ []) (4 ∷ 5 ∷ []) (one_gone 4 (5 ∷ []) (5 ∷ []) (one_found 5 [] [] none_named));
  all = λ by_number. let never : true ≡ false = by_number in absurd (false≢true (sym never));
  place = refl;
  whole = refl;
}

told_of_a_copy : EndsWith (codes "a1") (copied_words 8 (with_copy 1 (of_the_second false))) (codes "* 3 EXISTS\r\na1 OK [COPYUID 8 7 1] COPY completed\r\n")
unfolding digits
told_of_a_copy = record { chosen = refl; last = refl }

-- UIDs that follow one another are a range (RFC 9051, 9: uid-set)
told_of_two : EndsWith (codes "a1") (copied_words 7 (with_copy 10 (of_two [] (9 ∷ [])))) (codes "a1 OK [COPYUID 7 3,5 9:10] COPY completed\r\n")
unfolding digits
told_of_two = record { chosen = refl; last = refl }

-- the copy of the first is stored, and nothing is said yet
first_of_two : (row : Row) → SaysVerdict 7 (Copied (of_two (row ∷ []) [])) (codes "a1") (Stored 9) []
first_of_two row = inl (awaits_next row [] refl refl)

-- that of the second is refused, since its shard is full: the other is removed again
second_refused : SaysVerdict 7 (Copied (of_two [] (9 ∷ []))) (codes "a1") (Refused Full) (codes "a1 NO Shard full\r\n")
second_refused = inl refl

-- of a MOVE, where the message is removed
moved_so : SaysMoved 8 (with_copy 1 (of_the_second true)) (codes "a1") (codes "* OK [COPYUID 8 7 1] Moved\r\n* 2 EXPUNGE\r\na1 OK MOVE completed\r\n")
unfolding digits
moved_so = record { behind = codes "* 2 EXPUNGE\r\na1 OK MOVE completed\r\n"; tells = refl; ends = inl (record { chosen = refl; last = refl }) }

-- two literals, and a response
spelled_twice : IsSpelled (codes "a LOGIN {2+}\r\nme {3+}\r\na\"b") (codes "a LOGIN \"me\" \"a\\\"b\"")
unfolding announced
spelled_twice =
    with_literal (codes "a LOGIN {2+}\r\nme {3+}") (codes "a LOGIN \"me\" {3+}") (13, record { size = 3; waits = false }) (codes "a\"b") []
    (with_literal (codes "a LOGIN {2+}") (codes "a LOGIN {2+}") (8, record { size = 2; waits = false }) (codes "me") (codes " {3+}") (as_it_stands (codes "a LOGIN {2+}")) refl refl) refl refl

responds : IsSpelled (codes "a AUTHENTICATE PLAIN\r\nAHgAeQ==") (codes "a AUTHENTICATE PLAIN AHgAeQ==")
unfolding read
responds = with_response (codes "a AUTHENTICATE PLAIN") (codes "a AUTHENTICATE PLAIN") (codes "a") _ (codes "AHgAeQ==") (as_it_stands (codes "a AUTHENTICATE PLAIN")) refl

-- ---- cuts

-- an answer with a line that looks tagged, in a literal, and then one of which a line has begun
a_literal : cuts (between [] []) (codes "* 1 FETCH (BODY[] {8}\r\nx OK\r\ny )\r\na2 OK FETCH completed\r\nb ")
    ≡ amid (codes " b") (codes "b ") (codes "* 1 FETCH (BODY[] {8}\r\nx OK\r\ny )\r\na2 OK FETCH completed\r\n" ∷ [])
a_literal = refl

two_answers : cuts (between [] []) (codes "* 1 EXISTS\r\na OK NOOP completed\r\n+ idling\r\n* 2 EXISTS\r\nb OK IDLE completed\r\n")
    ≡ between [] (codes "* 1 EXISTS\r\na OK NOOP completed\r\n" ∷ codes "+ idling\r\n* 2 EXISTS\r\nb OK IDLE completed\r\n" ∷ [])
two_answers = refl

-- a line in pieces
in_pieces : cuts (cuts (between [] []) (codes "a OK NO")) (codes "OP completed\r\n") ≡ between [] (codes "a OK NOOP completed\r\n" ∷ [])
in_pieces = refl

-- the tag of a search that stands in its untagged line (RFC 9051, 6.4.4) ends no answer
a_search : cuts (between [] []) (codes "* ESEARCH (TAG \"A282\") MIN 2 COUNT 3\r\nA282 OK SEARCH completed\r\n")
    ≡ between [] (codes "* ESEARCH (TAG \"A282\") MIN 2 COUNT 3\r\nA282 OK SEARCH completed\r\n" ∷ [])
a_search = refl

-- an IDLE is one answer with what it is told meanwhile
idle_is_open : is_ended (codes "+ idling\r\n") ≡ false
idle_is_open = refl

idle_is_one : cut_between [] [] (Answer (codes "b IDLE") (codes "+ idling\r\n") ∷ Words (codes "* 2 EXISTS\r\n") ∷ Words (codes "b OK IDLE completed\r\n") ∷ [])
    ≡ between [] (codes "+ idling\r\n* 2 EXISTS\r\nb OK IDLE completed\r\n" ∷ [])
idle_is_one = refl
