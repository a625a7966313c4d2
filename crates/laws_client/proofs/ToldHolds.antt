-- What a client of a house on one thread is right about, worked out for a small house: its session's life, what was printed to it, and what a record has of that.
use Rattle.std.proofs.Common.{◌≡◌, ◌+◌, inl, ℕ, true, false, List, [], ◌∷◌, ◌++◌, length, drop, refl, Some, None, sym, subst, ap, ◌∙◌, arith, length-append, slice_index_or}
use Rattle.std.specs.Prelude.{codes}
use Rattle.std.specs.Borrow.{Bor}
use Rattle.std.specs.Fmt.{digits}
use Rattle.std.proofs.lemmas.Option.{none-some}
use Rattle.change_ring.specs.declared.change.Change.{Change}
use Rattle.change_ring.specs.declared.change.Change.TheVariants.{Add, Flags as SetFlags}
use Rattle.change_ring.specs.declared.change.Flags.{Flags}
use Rattle.change_ring.specs.declared.flag_op.FlagOp.TheVariants.{Insert}
use Rattle.change_ring.specs.Log.{no_flags}
use Rattle.change_ring.specs.Words.{flag_words}
use Rattle.shard_queue.specs.Lane.{set_at}
use Rattle.world.specs.World as world
use Rattle.world.specs.World.{Box, Session, World, empty_world}
use Rattle.imap_answers.specs.Answers.{opening_text}
use Rattle.imap_grammar.specs.Reading.{read}
use Rattle.imap_session.specs.Commands.{greeting, unlimited}
use Rattle.imap_session.specs.Exchange.{Enter, Entered, Fed, Feed, Standing}
use Rattle.imap_session.specs.Happenings.{Answer, Line, Told, bytes_in}
use Rattle.imap_session.specs.declared.standing.After.TheVariants as afters
use Rattle.imap_session.specs.declared.standing.Profile.TheVariants.{Standard}
use Rattle.house.specs.Scene.{Scene, empty_scene}
use Rattle.house.specs.Setup.{Setup}
use Rattle.house.specs.declared.event.Event.TheVariants as house_events
use Rattle.house_peers.specs.Visitor.{SeatedVisitor}
use Rattle.exactly_once.specs.Promise.{Entry, Lines, Silence}
use Rattle.exactly_once.specs.rows.Entries.{the_house}
use Rattle.exactly_once.specs.rows.Worlds.{by_number, hi, small, yo}
use Rattle.laws_client.specs.Client.{Known, unknown}
use Rattle.laws_client.specs.Clients.{EndsWith, last_line}
use Rattle.laws_client.specs.Flags.{FlagsOf}
use Rattle.laws_client.proofs.LastLines.{words_of_tags}
use Rattle.laws_client.specs.HouseClients.{IsOfOthers, IsToldRight, Lives, Seen, comes, first_standing, others, seen_by_then, turns, unseen}
use Rattle.laws_client.proofs.Bytes.{uncut}

-- ---- a small house

-- Two messages are in Alice's mailbox. Two sessions may be there, and the second has selected it.
abbrev pub house : Setup
house = record the_house { config = record small { sessions = 2 } }

abbrev pub standing : Standing
standing = first_standing house (codes "alice")

abbrev pub box : List Change → Box
box log = record { log = log; base = 0; accepted = (hi, 7) ∷ (yo, 8) ∷ [] }

abbrev pub arrivals : List Change
arrivals = Add 7 ∷ Add 8 ∷ []

abbrev pub flagged : Flags
flagged = record no_flags { flagged = true }

abbrev pub was_read : Flags
was_read = record no_flags { seen = true }

abbrev pub both : Flags
both = record no_flags { flagged = true; seen = true }

abbrev pub marked : List Change
marked = arrivals ++ SetFlags 8 flagged ∷ []

abbrev pub marked_twice : List Change
marked_twice = marked ++ SetFlags 8 both ∷ []

abbrev pub the_other : Session
the_other = record { mailbox = 0; start = 2; cursor = 2; shown = [] }

abbrev pub at_first : World
at_first = record empty_world { box = by_number (box arrivals) (box []) (box []); session = by_number None (Some the_other) None; opened = by_number 1 0 0 }

-- the first session enters it
abbrev pub entered : World
entered = record at_first { session = set_at at_first.session 0 (Some the_other); opened = set_at at_first.opened 0 2 }

-- the other one sets \Flagged on the second message
abbrev pub was_flagged : World
was_flagged = record entered { box = set_at entered.box 0 (box marked); session = set_at entered.session 1 (Some the_other) }

-- the first is shown that
abbrev pub was_shown : World
was_shown = record was_flagged { box = set_at was_flagged.box 0 (box marked); session = set_at was_flagged.session 0 (Some (record the_other { cursor = 3; shown = SetFlags 8 flagged ∷ [] })) }

-- and the other sets \Seen too
abbrev pub at_last : World
at_last = record was_shown { box = set_at was_shown.box 0 (box marked_twice); session = set_at was_shown.session 1 (Some the_other) }

-- ---- what its client was told

abbrev pub hello : List ℕ
hello = greeting Standard

abbrev pub select_line : List ℕ
select_line = codes "a SELECT INBOX"

abbrev pub noop_line : List ℕ
noop_line = codes "b NOOP"

abbrev pub answer_to_select : (count : ℕ) → List ℕ
answer_to_select count = opening_text false (codes "INBOX") (record { count = count; uidnext = 9; uidvalidity = 1 }) ++ codes "a OK [READ-WRITE] SELECT completed\r\n"

abbrev pub answer_to_noop : List ℕ
answer_to_noop = codes "* 2 FETCH (UID 8 FLAGS (\\Flagged))\r\nb OK NOOP completed\r\n"

abbrev pub both_lines : List ℕ
both_lines = codes "a SELECT INBOX\r\nb NOOP\r\n"

abbrev pub told : List Told
told = Answer select_line (answer_to_select 2) ∷ Answer noop_line answer_to_noop ∷ []

abbrev first_bytes : List ℕ → List Told → List ℕ
first_bytes d [] = d
first_bytes d (one ∷ more) = bytes_in one

abbrev byte_at : ℕ → List ℕ → ℕ
byte_at n bytes = slice_index_or bytes n 0

abbrev pub selected : Standing
selected = record standing { selected = Some (record { mailbox = 0; read_only = false }) }

-- ---- what passes

pub it_selects : Lives house.config 0 standing at_first (codes "a SELECT INBOX\r\n") (Answer select_line (answer_to_select 2) ∷ []) selected entered
unfolding read digits
it_selects = turns comes (Line select_line (Entered (record { count = 2; uidnext = 9; uidvalidity = 1 }) ∷ [])) (codes "a SELECT INBOX\r\n")
    (record { events = record { call = Enter 0; answer = Entered (record { count = 2; uidnext = 9; uidvalidity = 1 }) } ∷ []; bytes = answer_to_select 2; after = afters.Go; standing = selected })
    entered (refl, refl, omega arith, uncut select_line refl) refl tt refl (entered, (world.enters (omega arith) (omega arith) refl (omega arith) refl, (the_other, refl, refl), (refl, refl), refl), refl)

abbrev pub sets : Flags → world.Event
sets flags = world.Store 1 8 (Insert flags)

of_the_other : (flags : Flags) → IsOfOthers 0 (sets flags)
of_the_other flags e = omega (arith, e)

pub lives : Lives house.config 0 standing at_first both_lines told selected at_last
unfolding read digits
lives = others (turns
    (others it_selects (sets flagged) was_flagged (of_the_other flagged) (the_other, refl, world.mails (box marked) (omega arith) (record { room = omega arith; log = refl; base = inl refl; accepted = refl }) refl))
    (Line noop_line (Fed (7 ∷ 8 ∷ []) (SetFlags 8 flagged ∷ []) ∷ [])) (codes "b NOOP\r\n")
    (record { events = record { call = Feed unlimited; answer = Fed (7 ∷ 8 ∷ []) (SetFlags 8 flagged ∷ []) } ∷ []; bytes = answer_to_noop; after = afters.Go; standing = selected })
    was_shown (refl, refl, omega arith, uncut noop_line refl) refl tt refl
    (was_shown, ((the_other, refl, world.mails (box marked) (omega arith) nothing refl), (the_other, refl, (record { kept = omega arith; mailbox = box marked; logs = nothing; made = refl }, record { kept = omega arith; counted = refl; handed = refl }))), refl))
    (sets was_read) at_last (of_the_other was_read) (the_other, refl, world.mails (box marked_twice) (omega arith) (record { room = omega arith; log = refl; base = inl refl; accepted = refl }) refl)
  where
    nothing : world.Logs house.config (box marked) [] [] (box marked)
    nothing = record { room = omega arith; log = refl; base = refl; accepted = refl }

abbrev pub visitor : (waits unsaid : List ℕ) → SeatedVisitor
visitor waits unsaid = record { session = record { standing = selected; waits = waits; unsaid = unsaid }; serial = 0; gone = false; to_put = [] }

abbrev pub seen : (sent shown : List ℕ) → Seen
seen sent shown = record { user = codes "alice"; began = at_first; sent = sent; shown = shown }

abbrev pub knows_both : List Known
knows_both = unknown ∷ record { uid = Some 8; flags = Some (codes "\\Flagged" ∷ []) } ∷ []

-- Neither of its answers tells of a message.
no_message : (before after : List Told) (one : Told) (tag rest : List ℕ) → told ≡ before ++ one ∷ after → EndsWith tag (codes "OK [APPENDUID " ++ rest) (bytes_in one) → ⊥
unfolding digits
no_message [] after one tag rest split ends =
    let is : bytes_in one ≡ answer_to_select 2 = sym (ap (first_bytes []) split) in
    let words = words_of_tags (codes "a") tag (codes "OK [READ-WRITE] SELECT completed") (codes "OK [APPENDUID " ++ rest) refl ends.chosen (sym (ap last_line is) ∙ ends.last) in
    let byte : 82 ≡ 65 = ap (byte_at 4) words in omega (arith, byte)
no_message (first ∷ []) after one tag rest split ends =
    let is : bytes_in one ≡ answer_to_noop = sym (ap (λ (l : List Told). first_bytes [] (drop 1 l)) split) in
    let words = words_of_tags (codes "b") tag (codes "OK NOOP completed") (codes "OK [APPENDUID " ++ rest) refl ends.chosen (sym (ap last_line is) ∙ ends.last) in
    let byte : 78 ≡ 91 = ap (byte_at 3) words in omega (arith, byte)
no_message (first ∷ second ∷ before) after one tag rest split ends = omega (arith, ap length split, length-append before (one ∷ after))

-- The client of the first session has sent half a line more, and the answer to its NOOP is still to be printed.
pub is_right : IsToldRight house 0 (visitor (codes "c FE") answer_to_noop) at_last (seen (both_lines ++ codes "c FE") (hello ++ answer_to_select 2))
unfolding read digits
is_right = record {
  answered = both_lines;
  told = told;
  lives = lives;
  sent = refl;
  shown = refl;
  list = (knows_both, refl, (((λ n e. absurd (none-some n e)), (λ names e. absurd (none-some names e))), (((λ n e. same n e), (λ names e. flags names e)), tt)));
  messages = λ before after one tag rest split ends. absurd (no_message before after one tag rest split ends);
  in_turn = λ before mid after one two a x b y split ends other_ends. absurd (no_message before (mid ++ two ∷ after) one a x split ends);
}
  where
    same : (n : ℕ) → Some 8 ≡ Some n → n ≡ 8
    same n e = cc

    flags : (names : List (List ℕ)) → Some (codes "\\Flagged" ∷ []) ≡ Some names → FlagsOf marked_twice 3 8 names
    flags names e = record { moment = 3; since = omega arith; until = omega arith; flags = flagged; had = refl; named = named }
      where
        named : names ≡ flag_words flagged
        named = cc

-- ---- what a record has of a place

abbrev pub lent : List ℕ → Bor (List ℕ)
lent bytes = record { ref_ptr = (0, 0); now = bytes }

-- the house in this world: who is there plays no part
abbrev pub in_world : World → Scene
in_world w = record (empty_scene house) { world = w }

abbrev pub comes_in : (session : ℕ) → (user : List ℕ) → World → (printed : List (List ℕ)) → Entry
comes_in session user after printed = record { event = house_events.Enter session (lent user); after = in_world after; piece = Lines session printed }

abbrev pub says : (session : ℕ) → (bytes : List ℕ) → World → (printed : List (List ℕ)) → Entry
says session bytes after printed = record { event = house_events.Say session (lent bytes); after = in_world after; piece = Lines session printed }

abbrev pub hello_line : List ℕ
hello_line = codes "* PREAUTH IMAP4rev2 server ready"

-- Alice's session comes in, its client says NOOP and is answered.
abbrev pub visit : List Entry
visit = comes_in 1 (codes "alice") at_first (hello_line ∷ []) ∷ says 1 (codes "a NOOP\r\n") entered (codes "a OK NOOP completed" ∷ []) ∷ []

abbrev pub of_visit : World → Seen
of_visit began = record { user = codes "alice"; began = began; sent = codes "a NOOP\r\n"; shown = hello ++ codes "a OK NOOP completed\r\n" }

one_visit : (s : Scene) → seen_by_then 0 s visit unseen ≡ of_visit s.world
one_visit s = refl

-- Then Bob's comes in at the same place: what came before is gone.
another_comes : (s : Scene) → seen_by_then 0 s (visit ++ comes_in 1 (codes "bob") at_last (hello_line ∷ []) ∷ []) unseen
    ≡ record { user = codes "bob"; began = entered; sent = []; shown = hello }
another_comes s = refl

-- Bob's comes in at the other place, says something and is answered: that changes nothing, but that the world moves on
at_another_place : (s : Scene) → seen_by_then 0 s (comes_in 2 (codes "bob") at_last (hello_line ∷ []) ∷ visit ++ says 2 (codes "a LOGOUT\r\n") at_last (codes "* BYE Logging out" ∷ codes "a OK LOGOUT completed" ∷ []) ∷ []) unseen
    ≡ of_visit at_last
at_another_place s = refl

-- what is printed of it at an event of another is told to it: its seat heard a verdict
at_a_verdict : (s : Scene) → seen_by_then 0 s (visit ++ record { event = house_events.Hear 3; after = in_world at_last; piece = Lines 1 (codes "b OK APPEND completed" ∷ []) } ∷ []) unseen
    ≡ record (of_visit s.world) { shown = hello ++ codes "a OK NOOP completed\r\nb OK APPEND completed\r\n" }
at_a_verdict s = refl

-- its client goes: what was sent and shown stays, till another comes
goes_away : (s : Scene) → seen_by_then 0 s (visit ++ record { event = house_events.Leave 1; after = in_world at_last; piece = Silence } ∷ []) unseen ≡ of_visit s.world
goes_away s = refl

-- and what the client that is right has sent and was shown, by such entries
abbrev pub story : List Entry
story =
    comes_in 1 (codes "alice") at_first (hello_line ∷ [])
    ∷ says 1 (codes "a SELECT INBOX\r\n") entered (
    codes "* FLAGS (\\Answered \\Flagged \\Deleted \\Seen \\Draft)" ∷ codes "* 2 EXISTS" ∷ codes "* OK [UIDVALIDITY 1] UIDs valid" ∷ codes "* OK [UIDNEXT 9] Predicted next UID"
    ∷ codes "* OK [PERMANENTFLAGS (\\Answered \\Flagged \\Deleted \\Seen \\Draft)] Flags kept" ∷ codes "* LIST () \"/\" INBOX" ∷ codes "a OK [READ-WRITE] SELECT completed" ∷ []
    )
    ∷ says 2 (codes "a STORE 2 +FLAGS (\\Flagged)\r\n") was_flagged (codes "* 2 FETCH (FLAGS (\\Flagged))" ∷ codes "a OK STORE completed" ∷ [])
    ∷ record { event = house_events.Say 1 (lent (codes "b NOOP\r\nc FE")); after = in_world was_shown; piece = Silence }
    ∷ says 2 (codes "b STORE 2 +FLAGS (\\Seen)\r\n") at_last (codes "* 2 FETCH (FLAGS (\\Flagged \\Seen))" ∷ codes "b OK STORE completed" ∷ []) ∷ []

of_story : seen_by_then 0 (in_world at_first) story unseen ≡ seen (both_lines ++ codes "c FE") (hello ++ answer_to_select 2)
unfolding digits
of_story = refl

by_its_record : IsToldRight house 0 (visitor (codes "c FE") answer_to_noop) at_last (seen_by_then 0 (in_world at_first) story unseen)
by_its_record = subst (IsToldRight house 0 (visitor (codes "c FE") answer_to_noop) at_last) (sym of_story) is_right
