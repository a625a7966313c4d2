-- What an answer tells a client of a message that it appended, worked out for a small house; and which answers are an OK, and when a session counts all.
use Rattle.std.proofs.Common.{◌≡◌, ℕ, zero, suc, ◌<◌, true, false, List, [], ◌∷◌, ◌++◌, refl, Some, None, ap, arith}
use Rattle.std.specs.Prelude.{codes, slice_index_or}
use Rattle.std.specs.Fmt.{digits}
use Rattle.change_ring.specs.declared.change.Change.{Change}
use Rattle.change_ring.specs.declared.change.Change.TheVariants.{Add, Flags as SetFlags, Gone}
use Rattle.change_ring.specs.declared.change.Flags.{Flags}
use Rattle.change_ring.specs.Log.{no_flags}
use Rattle.delivery_token.specs.declared.CopyKey.{CopyKey}
use Rattle.delivery_token.specs.declared.Job.{Job}
use Rattle.delivery_token.specs.Text.{undated}
use Rattle.mail_date.specs.InternalBack.{internal_date}
use Rattle.mail_date.specs.declared.stamp.Stamp.{Stamp}
use Rattle.world.specs.Law.{StandsOnce, pairs}
use Rattle.world.specs.World.{Box, Session, World, empty_world}
use Rattle.imap_grammar.specs.Literals.{announced}
use Rattle.imap_grammar.specs.Reading.{read}
use Rattle.imap_grammar.specs.declared.command.Append.{Append}
use Rattle.imap_session.specs.Commands.{appended_words}
use Rattle.imap_session.specs.Happenings.{Answer, Words}
use Rattle.house.specs.Setup.{Setup}
use Rattle.exactly_once.specs.rows.Entries.{the_house}
use Rattle.exactly_once.specs.rows.Worlds.{by_number, hi, small, yo}
use Rattle.laws_client.specs.Clients.{IsOk, as_it_stands, of_noop, of_other, with_literal}
use Rattle.laws_client.specs.Flags.{CountsAll}
use Rattle.laws_client.specs.HouseClients.{Seen, SendsMessage, TellsOfMessage, point_in, point_of}

-- ---- a small house

-- Alice has an INBOX and a folder, Bob has an INBOX: mailboxes 0, 1 and 2. Two sessions may be there; their seats are 2 and 3.
abbrev pub home : Setup
home = record the_house {
  config = record small { sessions = 2; mailboxes = 3 };
  directory = record the_house.directory {
    homes = record { user = codes "alice"; folder = None } ∷ record { user = codes "alice"; folder = Some (codes "Work") } ∷ record { user = codes "bob"; folder = None } ∷ [];
  };
}

abbrev pub flagged : Flags
flagged = record no_flags { flagged = true }

-- what the first session's first client appended to Alice's INBOX
abbrev pub mine : Job
mine = record { key = record { seat = 2; serial = 0; message = 0; recipient = 0 }; mailbox = 0; text = undated (codes "hi\r\n"); flags = flagged }

abbrev pub box : List (Job × ℕ) → Box
box accepted = record { log = []; base = 0; accepted = accepted }

-- these stand in the history of Alice's INBOX, and nothing in the others
abbrev pub in_inbox : List (Job × ℕ) → World
in_inbox accepted = record empty_world { box = by_number (box accepted) (box []) (box []) }

-- Two messages came by mail, one of which has the same text; then this one stands there.
abbrev pub third : Job → List (Job × ℕ)
third job = (hi, 7) ∷ (yo, 8) ∷ (job, 9) ∷ []

-- Alice's client has sent this
abbrev pub sent_by_alice : List ℕ → Seen
sent_by_alice sent = record { user = codes "alice"; began = empty_world; sent = sent; shown = [] }

-- a copy of the first session's seat stands third, and at no other place
pub stands_third : (job : Job) → job.key.seat ≡ 2 → StandsOnce (pairs (third job)) job.key 9
stands_third job seat = record { position = 2; within = omega arith; here = refl; alone = alone }
  where
    alone : (i : ℕ) (d : CopyKey × ℕ) → i < 3 → (slice_index_or (pairs (third job)) i d).0 ≡ job.key → i ≡ 2
    alone zero d l e = absurd (let other : 0 ≡ job.key.seat = ap (λ (key : CopyKey). key.seat) e in omega (arith, other, seat))
    alone (suc zero) d l e = absurd (let other : 1 ≡ job.key.seat = ap (λ (key : CopyKey). key.seat) e in omega (arith, other, seat))
    alone (suc (suc zero)) d l e = refl
    alone (suc (suc (suc i))) d l e = absurd (omega (arith, l))

-- ---- what it sent

abbrev pub append_line : List ℕ
append_line = codes "a APPEND INBOX (\\Flagged) {4}"

abbrev pub sent : List ℕ
sent = codes "a APPEND INBOX (\\Flagged) {4}\r\nhi\r\n\r\n"

abbrev pub plain : Append
plain = record { name = codes "INBOX"; flags = flagged; date = None; literal = record { size = 4; waits = true } }

-- ---- what passes

-- whatever was sent: where that message is in it, this is told right under its tag
pub tells_of_mine : (sent tag : List ℕ) → SendsMessage sent tag plain (codes "hi\r\n") → TellsOfMessage home 0 (in_inbox (third mine)) (sent_by_alice sent) 0 tag (appended_words 1 9)
unfolding digits
tells_of_mine sent tag sends = record {
  append = plain;
  copy = mine;
  sends = sends;
  named = refl;
  as_sent = (refl, refl);
  own = (refl, refl);
  uid = 9;
  told = refl;
  stands = (2, omega arith, refl);
  once = stands_third mine refl;
}

-- It appended a message, and is told the UID under which that stands.
pub told_its_uid : TellsOfMessage home 0 (in_inbox (third mine)) (sent_by_alice sent) 0 (codes "a") (appended_words 1 9)
unfolding read digits
told_its_uid = tells_of_mine _ _ (record { front = []; bytes = append_line; line = append_line; behind = []; spelled = as_it_stands append_line; reads = refl; size = refl; whole = refl })

-- It said something before, and says something else behind.
told_between_others : TellsOfMessage home 0 (in_inbox (third mine)) (sent_by_alice (codes "z NOOP\r\na APPEND INBOX (\\Flagged) {4}\r\nhi\r\n\r\nb NOOP\r\nc FE")) 0 (codes "a") (appended_words 1 9)
unfolding read digits
told_between_others = tells_of_mine _ _ (record { front = codes "z NOOP\r\n"; bytes = append_line; line = append_line; behind = codes "b NOOP\r\nc FE"; spelled = as_it_stands append_line; reads = refl; size = refl; whole = refl })

abbrev pub in_summer : Stamp
in_summer = record { year = 1996; month = 7; day = 17; hour = 2; minute = 44; second = 25; zone = record { is_west = true; hours = 7; minutes = 0 } }

-- the same with that date, and without a flag
abbrev pub dated : Job
dated = record mine { text = record { bytes = codes "hi\r\n"; date = Some in_summer }; flags = no_flags }

abbrev pub dated_line : List ℕ
dated_line = codes "a APPEND INBOX \"17-Jul-1996 02:44:25 -0700\" {4}"

abbrev pub sent_dated : List ℕ
sent_dated = dated_line ++ codes "\r\nhi\r\n\r\n"

-- It sent a date with it, and no flag.
told_with_date : TellsOfMessage home 0 (in_inbox (third dated)) (sent_by_alice sent_dated) 0 (codes "a") (appended_words 1 9)
unfolding read internal_date digits
told_with_date = record {
  append = record plain { flags = no_flags; date = Some in_summer };
  copy = dated;
  sends = record { front = []; bytes = dated_line; line = dated_line; behind = []; spelled = as_it_stands dated_line; reads = refl; size = refl; whole = refl };
  named = refl;
  as_sent = (refl, refl);
  own = (refl, refl);
  uid = 9;
  told = refl;
  stands = (2, omega arith, refl);
  once = stands_third dated refl;
}

-- It sent the name as a literal too.
told_with_literal : TellsOfMessage home 0 (in_inbox (third mine)) (sent_by_alice (codes "a APPEND {5}\r\nINBOX (\\Flagged) {4}\r\nhi\r\n\r\n")) 0 (codes "a") (appended_words 1 9)
unfolding read announced digits
told_with_literal = tells_of_mine _ _ (record {
  front = [];
  bytes = codes "a APPEND {5}\r\nINBOX (\\Flagged) {4}";
  line = codes "a APPEND \"INBOX\" (\\Flagged) {4}";
  behind = [];
  spelled = with_literal (codes "a APPEND {5}") (codes "a APPEND {5}") (9, record { size = 5; waits = true }) (codes "INBOX") (codes " (\\Flagged) {4}") (as_it_stands (codes "a APPEND {5}")) refl refl;
  reads = refl;
  size = refl;
  whole = refl;
})

abbrev pub at_work : Job
at_work = record mine { mailbox = 1 }

-- It named its folder. That is another mailbox, with UIDs of its own.
told_of_folder : TellsOfMessage home 0 (record empty_world { box = by_number (box (third mine)) (box ((at_work, 7) ∷ [])) (box []) }) (sent_by_alice (codes "b APPEND Work (\\Flagged) {4+}\r\nhi\r\n\r\n")) 0 (codes "b") (appended_words 1 7)
unfolding read digits
told_of_folder = record {
  append = record plain { name = codes "Work"; literal = record { size = 4; waits = false } };
  copy = at_work;
  sends = record {
    front = [];
    bytes = codes "b APPEND Work (\\Flagged) {4+}";
    line = codes "b APPEND Work (\\Flagged) {4+}";
    behind = [];
    spelled = as_it_stands (codes "b APPEND Work (\\Flagged) {4+}");
    reads = refl;
    size = refl;
    whole = refl;
  };
  named = refl;
  as_sent = (refl, refl);
  own = (refl, refl);
  uid = 7;
  told = refl;
  stands = (0, omega arith, refl);
  once = record { position = 0; within = omega arith; here = refl; alone = alone };
}
  where
    alone : (i : ℕ) (d : CopyKey × ℕ) → i < 1 → (slice_index_or (pairs ((at_work, 7) ∷ [])) i d).0 ≡ at_work.key → i ≡ 0
    alone i d l e = omega (arith, l)

-- ---- an OK

-- A NOOP is answered OK, behind the news.
noop_ok : IsOk (Answer (codes "b NOOP") (codes "* 3 EXISTS\r\nb OK NOOP completed\r\n"))
unfolding read
noop_ok = of_noop (codes "b NOOP") (codes "b") (codes "* 3 EXISTS\r\nb OK NOOP completed\r\n") refl refl

-- An IDLE ends with its OK.
idle_ok : IsOk (Words (codes "b OK IDLE completed\r\n"))
idle_ok = of_other (codes "b") (codes "IDLE completed") (codes "b OK IDLE completed\r\n") (record { chosen = refl; last = refl })

-- So does an APPEND: behind its message comes no command.
append_ok : IsOk (Words (codes "* 3 EXISTS\r\na OK [APPENDUID 1 9] APPEND completed\r\n"))
append_ok = of_other (codes "a") (codes "[APPENDUID 1 9] APPEND completed") (codes "* 3 EXISTS\r\na OK [APPENDUID 1 9] APPEND completed\r\n") (record { chosen = refl; last = refl })

-- ---- a session that counts all

-- Two messages came, the second one was flagged, and the first is gone.
abbrev pub happenings : List Change
happenings = Add 7 ∷ Add 8 ∷ SetFlags 8 flagged ∷ Gone 7 ∷ []

-- a session at this point of a mailbox with this log
abbrev pub at_point : List Change → (cursor : ℕ) → Session
at_point log cursor = record { mailbox = 0; start = 0; cursor = cursor; shown = [] }

abbrev pub with_log : List Change → (cursor : ℕ) → World
with_log log cursor = record empty_world {
  box = by_number (record { log = log; base = 0; accepted = [] }) (box []) (box []);
  session = by_number (Some (at_point log cursor)) None None;
}

-- It was shown all that.
counts_all : CountsAll (point_of (with_log happenings 4) 0)
counts_all = refl

-- It wasn't shown the last change, which was of a flag.
counts_all_before_flag : CountsAll (point_of (with_log (Add 7 ∷ Add 8 ∷ SetFlags 8 flagged ∷ []) 2) 0)
counts_all_before_flag = refl

-- A message came and went since: it counts what is there.
counts_all_around : CountsAll (point_of (with_log (Add 7 ∷ Add 8 ∷ Gone 8 ∷ []) 1) 0)
counts_all_around = refl

-- It is in no mailbox.
counts_nothing : (w : World) → CountsAll (point_in w None)
counts_nothing w = refl
