-- One copy's way, by hand: a connection brings a message for Alice, which is put, taken, delivered and answered, and the connection is told. What each event
-- led to and printed is written out, and the promise holds of it.
use Rattle.std.proofs.Common.{◌≡◌, ◌≢◌, ℕ, zero, suc, inl, inr, false, List, [], ◌∷◌, map, refl, arith, ap, ◌∙◌, sym, subst, All, AllPairs, Contains, Some}
use Rattle.std.specs.Prelude.{◌<◌, codes, flat_map, slice_index_or}
use Rattle.std.specs.Fmt.{digits}
use Rattle.std.specs.Borrow.{Bor}
use Rattle.std.proofs.lemmas.Bool.{ne_eqb}
use Rattle.change_ring.specs.declared.change.Change.TheVariants.{Add}
use Rattle.delivery_token.specs.Keys.{Below}
use Rattle.delivery_token.specs.declared.CopyKey.{CopyKey}
use Rattle.delivery_token.specs.declared.Job.{Job}
use Rattle.delivery_token.specs.declared.Verdict.{Verdict as Judgement}
use Rattle.delivery_token.specs.declared.Verdict.TheVariants.{Stored}
use Rattle.delivery_token.specs.declared.log.Noted.{Noted}
use Rattle.envelope.specs.Reading.{read, forward_at}
use Rattle.line_io.specs.inner.WireLaws.{cut_none, reading_cut}
use Rattle.lmtp_machine.specs.declared.connection.What.{What}
use Rattle.lmtp_machine.specs.declared.connection.What.TheVariants.{More, Quit, Submit}
use Rattle.lmtp_machine.specs.declared.reply.Reply.TheVariants.{Delivered, Extensions, Greeting, RecipientOk, SenderOk, StartInput}
use Rattle.lmtp_machine.specs.Conversation.{Leads, line, none}
use Rattle.lmtp_machine.specs.Dialogue.{Line, Ready, Submission, Turn, Waiting, wire}
use Rattle.shard_queue.specs.Lane.{set_at, put, took}
use Rattle.shard_queue.specs.declared.lane.Entry.TheVariants.{Item}
use Rattle.world.specs.declared.hand.Hand.TheVariants.{Empty, Taken}
use Rattle.world.specs.World as world
use Rattle.world.specs.World.{Box, IsWorld, Step, World, answers, delivered, delivers, empty_world, hears_one, put_joins, puts, takes}
use Rattle.world.specs.Law.{StandsOnce, pairs}
use Rattle.world.proofs.Always.{always}
use Rattle.world.proofs.Base.{rising_pair}
use Rattle.house_peers.specs.Caller.{Caller, IsAnswered, greeted, setting_of, talks, works, answers as tells_verdicts, waits as awaits_verdicts}
use Rattle.house.specs.Printing.{prints_all, stays}
use Rattle.house.specs.Scene.{Scene, connection_hears, connection_puts, empty_scene, opens, with_caller, with_world}
use Rattle.house.specs.Setup.{terms_of}
use Rattle.house.specs.declared.event.Event.{Event}
use Rattle.house.specs.declared.event.Event.TheVariants.{Answer, Bytes, Deliver, Hear, Put, Take}
use Rattle.exactly_once.specs.Promise.{Entry, ExactlyOnce, IsEntry, IsRecord, Other, Replies, Silence, Verdict, text_of, verdicts_of}
use Rattle.exactly_once.specs.rows.Worlds.{copy}
use Rattle.exactly_once.specs.rows.Entries.{accepts, greets, the_house}

-- ---- who says what

abbrev came : List ℕ
came = codes "LHLO a.example\r\nMAIL FROM:<s@a.example>\r\nRCPT TO:<alice@example.org>\r\nDATA\r\nhi\r\n.\r\n"

abbrev lines : List (List ℕ)
lines = codes "LHLO a.example" ∷ codes "MAIL FROM:<s@a.example>" ∷ codes "RCPT TO:<alice@example.org>" ∷ codes "DATA" ∷ codes "hi" ∷ codes "." ∷ []

abbrev posted : Job
posted = copy 0 0 0 0 (codes "Return-Path: <s@a.example>\r\nhi\r\n")

abbrev stored : Noted
stored = record { key = posted.key; mailbox = 0; verdict = Stored 7 }

abbrev submission : Submission
submission = record { keys = posted.key ∷ []; mailboxes = 0 ∷ []; text = posted.text }

-- up to the end of the message, and behind its verdict
abbrev message_comes : Turn
message_comes = record {
  standing = record { phase = Waiting 1; submitted = 1 };
  replies = Extensions ∷ SenderOk ∷ RecipientOk ∷ StartInput ∷ [];
  submissions = submission ∷ [];
}

abbrev nothing_comes : Turn
nothing_comes = record { standing = record { phase = Ready; submitted = 1 }; replies = []; submissions = [] }

-- the connection that awaits its verdict, with this still to be put, and the one that was told
abbrev awaiting : List Job → (unsaid : List ℕ) → Caller
awaiting to_put unsaid = record {
  serial = 0;
  gone = false;
  to_put = to_put;
  talk = record { at = record { standing = message_comes.standing; unfinished = [] }; waits = []; unsaid = unsaid; pending = submission ∷ [] };
}

abbrev answered : (unsaid : List ℕ) → Caller
answered unsaid = record {
  serial = 0;
  gone = false;
  to_put = [];
  talk = record { at = record { standing = nothing_comes.standing; unfinished = [] }; waits = []; unsaid = unsaid; pending = [] };
}

-- ---- where each event leads

abbrev start : Scene
start = empty_scene the_house

abbrev alices : Box
alices = record { log = Add 7 ∷ []; base = 0; accepted = (posted, 7) ∷ [] }

abbrev was_put : World
was_put = puts empty_world 0 (Item 0 posted)

abbrev was_taken : World
was_taken = record was_put { lane = set_at was_put.lane 0 (took (was_put.lane 0) (Item 0 posted) []); hand = set_at was_put.hand 0 (Taken posted) }

abbrev was_delivered : World
was_delivered = delivered was_taken 0 0 alices stored

abbrev was_answered : World
was_answered = record was_delivered { hand = set_at was_delivered.hand 0 Empty; replies = set_at was_delivered.replies 0 (put (was_delivered.replies 0) (Item 0 stored)) }

abbrev was_heard : World
was_heard = record was_answered { replies = set_at was_answered.replies 0 (took (was_answered.replies 0) (Item 0 stored) []); heard = set_at was_answered.heard 0 (stored ∷ []) }

abbrev opened : Scene
opened = record start { caller = set_at start.caller 0 (Some (awaiting (posted ∷ []) [])); next = set_at start.next 0 1 }

abbrev moved : World → Scene
moved w = with_caller (with_world opened w) 0 (Some (awaiting [] []))

abbrev over : Scene
over = with_caller (with_world (moved was_answered) was_heard) 0 (Some (answered []))

extends : Extensions ≢ Delivered
extends e = cc

sends : SenderOk ≢ Delivered
sends e = cc

starts : StartInput ≢ Delivered
starts e = cc

abbrev bytes : Bor (List ℕ)
bytes = record { ref_ptr = (0, 0); now = came }

abbrev first : Entry
first = record {
  event = Bytes 1 bytes;
  after = opened;
  piece = Replies 0 (Other Greeting greets ∷ Other Extensions extends ∷ Other SenderOk sends ∷ Other RecipientOk accepts ∷ Other StartInput starts ∷ []);
}

abbrev silent : Event → World → Entry
silent event w = record { event = event; after = moved w; piece = Silence }

abbrev last : Entry
last = record { event = Hear 1; after = over; piece = Replies 0 (Verdict stored ∷ []) }

abbrev entries : List Entry
entries = first ∷ silent (Put 1) was_put ∷ silent (Take 0) was_taken ∷ silent (Deliver 0) was_delivered ∷ silent (Answer 0) was_answered ∷ last ∷ []

abbrev printed : List ℕ
printed = codes "L1 220 mx.example.org LMTP ready\nL1 250-mx.example.org\nL1 250-PIPELINING\nL1 250-ENHANCEDSTATUSCODES\nL1 250 8BITMIME\nL1 250 2.1.0 Sender OK\nL1 250 2.1.5 Recipient OK\nL1 354 Start mail input\nL1 250 2.1.5 Delivered\n"

-- ---- each entry is one

not_quit : (what : What) → what ≡ Submit → what ≡ Quit → ⊥
not_quit what submit quit = cc

not_over : (what : What) → what ≡ More → what ≡ Quit → ⊥
not_over what more quit = cc

it_reads : Leads (setting_of (terms_of the_house start.shut) 0 0) (terms_of the_house start.shut).directory (greeted (terms_of the_house start.shut) 0 0).talk.at came message_comes (awaiting [] []).talk.at
unfolding read forward_at
it_reads = record {
  lines = lines;
  events = map Line lines;
  cut = reading_cut came;
  heard = line _ (line _ (line _ (line _ (line _ (line _ none)))));
  may = (tt, (tt, (tt, (tt, (tt, (tt, tt))))));
  turns = refl;
  stands = refl;
  behind = inr (inr refl);
}

abbrev all_said : List ℕ
all_said = wire the_house.host (Greeting ∷ message_comes.replies)

it_joins : Step the_house.config empty_world (world.Put 0 0 posted) was_put
it_joins = put_joins (record { seat = omega arith; own = refl; mailbox = omega arith; shard = (omega arith, refl); above_sent = λ t i d l. absurd (omega (arith, l)); above_heard = λ i d l. absurd (omega (arith, l)) }) refl (omega arith) refl

it_is_stored : Step the_house.config was_taken (world.Deliver 0) was_delivered
it_is_stored = delivers posted alices refl (omega arith, omega arith) (omega arith) (record { room = omega arith; log = refl; base = inl refl; accepted = refl }) refl

first_is : IsEntry the_house start first
first_is = record {
  plays = opens (omega arith) refl (omega arith) (Some (awaiting (posted ∷ []) [])) (record {
    what = Submit;
    after = awaiting (posted ∷ []) all_said;
    proceeds = talks refl (works refl (record {
      turn = message_comes;
      talk = (awaiting [] all_said).talk;
      works = record { taken = came; waited = refl; leads = it_reads; tells = record { submission = submission; only = refl; waits = refl }; submits = refl };
      said = refl;
      all = λ e m. refl;
      is = refl;
    }));
    still = [];
    prints = prints_all refl refl;
    all = λ e. refl;
    leaves = stays (λ q e. not_quit Submit refl q) (λ q e. not_quit Submit refl q) refl;
  }) refl;
  own = (refl, none_told);
}
  where
    none_told : All (λ (noted : Noted). noted.key.serial ≡ 0) []
    none_told i d l = absurd (omega (arith, l))

unanswered : (vs : List Judgement) → IsAnswered [] (awaiting [] []) vs → ⊥
unanswered [] a = a.each
unanswered (v ∷ vs) a = let l = a.each.0.1.1 in omega (arith, l)

put_is : IsEntry the_house opened (silent (Put 1) was_put)
put_is = record {
  plays = connection_puts (omega arith) (record {
    caller = awaiting (posted ∷ []) [];
    there = refl;
    copy = posted;
    others = [];
    front = refl;
    moved = was_put;
    step = it_joins;
    left = Some (awaiting [] []);
    goes = record {
      what = Submit;
      after = awaiting [] [];
      proceeds = talks refl (awaits_verdicts (omega arith) unanswered refl refl);
      still = [];
      prints = prints_all refl refl;
      all = λ e. refl;
      leaves = stays (λ q e. not_quit Submit refl q) (λ q e. not_quit Submit refl q) refl;
    };
    after = refl;
  });
  own = tt;
}

taken_is : IsEntry the_house (moved was_put) (silent (Take 0) was_taken)
taken_is = record { plays = record { moved = was_taken; step = takes (Item 0 posted) [] refl refl refl; after = refl; silent = refl }; own = tt }

delivered_is : IsEntry the_house (moved was_taken) (silent (Deliver 0) was_delivered)
delivered_is = record { plays = record { moved = was_delivered; step = it_is_stored; after = refl; silent = refl }; own = tt }

answered_is : IsEntry the_house (moved was_delivered) (silent (Answer 0) was_answered)
answered_is = record { plays = record { moved = was_answered; step = answers stored refl (omega arith) refl; after = refl; silent = refl }; own = tt }

last_is : IsEntry the_house (moved was_answered) last
last_is = record {
  plays = connection_hears (omega arith) (record {
    caller = awaiting [] [];
    there = refl;
    moved = was_heard;
    step = hears_one 0 stored [] refl refl;
    left = Some (answered []);
    goes = record {
      what = More;
      after = answered (wire the_house.host (Delivered ∷ []));
      proceeds = talks refl (tells_verdicts (Stored 7 ∷ []) (omega arith) (record { put = refl; each = ((0, (0, omega arith, refl)), tt) }) (record {
        turn = nothing_comes;
        talk = (answered (wire the_house.host (Delivered ∷ []))).talk;
        works = record {
          taken = [];
          waited = refl;
          leads = record { lines = []; events = []; cut = cut_none; heard = none; may = tt; turns = refl; stands = refl; behind = inl tt };
          tells = (refl, tt);
          submits = refl;
        };
        said = refl;
        all = λ e m. refl;
        is = refl;
      }));
      still = [];
      prints = prints_all refl refl;
      all = λ e. refl;
      leaves = stays (λ q e. not_over More refl q) (λ q e. not_over More refl q) refl;
    };
    after = refl;
  });
  own = (refl, omega arith, its_own);
}
  where
    its_own : All (λ (noted : Noted). noted.key.serial ≡ 0) (stored ∷ [])
    its_own zero d l = refl
    its_own (suc i) d l = absurd (omega (arith, l))

leads : IsRecord the_house entries start over
leads = (first_is, (put_is, (taken_is, (delivered_is, (answered_is, (last_is, refl))))))

-- ---- so it is delivered once

stands : (uid : ℕ) (noted : Noted) → stored ≡ noted → noted.verdict ≡ Stored uid → StandsOnce (pairs (was_heard.box noted.mailbox).accepted) noted.key uid
stands uid noted is e = subst (λ (x : Noted). StandsOnce (pairs (was_heard.box x.mailbox).accepted) x.key uid) is (subst (StandsOnce ((posted.key, 7) ∷ []) posted.key) (same (ap (λ (x : Noted). x.verdict) is ∙ e)) once)
  where
    same : ◌≡◌ {A = Judgement} (Stored 7) (Stored uid) → 7 ≡ uid
    same f = cc

    only : (i : ℕ) (d : CopyKey × ℕ) → i < 1 → (slice_index_or ((posted.key, 7) ∷ []) i d).0 ≡ posted.key → i ≡ 0
    only i d l f = omega (arith, l)

    once : StandsOnce ((posted.key, 7) ∷ []) posted.key 7
    once = record { position = 0; within = omega arith; here = refl; alone = only }

none_later : (p : ℕ) → verdicts_of (suc p) entries ≡ []
none_later p = rw (ne_eqb (suc p) 0 (λ e. omega (arith, e))) refl

contains_one : (noted : Noted) → Contains (stored ∷ []) noted → stored ≡ noted
contains_one noted (zero, l, is) = is
contains_one noted (suc k, l, is) = absurd (omega (arith, l))

contains_none : (noted : Noted) → Contains [] noted → ⊥
contains_none noted c = omega (arith, c.1)

none_of_later : (p : ℕ) (P : Noted → Type 0) → All P (verdicts_of (suc p) entries)
none_of_later p P = subst (All P) (sym (none_later p)) (λ i d l. absurd (omega (arith, l)))

at_own_seat : (p : ℕ) → All (λ noted. noted.key.seat ≡ p) (verdicts_of p entries)
at_own_seat zero zero d l = refl
at_own_seat zero (suc i) d l = absurd (omega (arith, l))
at_own_seat (suc p) i d l = none_of_later p (λ (noted : Noted). noted.key.seat ≡ suc p) i d l

as_heard : (p : ℕ) → All (Contains (was_heard.heard p)) (verdicts_of p entries)
as_heard zero zero d l = (0, omega arith, refl)
as_heard zero (suc i) d l = absurd (omega (arith, l))
as_heard (suc p) i d l = none_of_later p (Contains (was_heard.heard (suc p))) i d l

in_order : (p : ℕ) → AllPairs (λ a b. Below a.key b.key) (verdicts_of p entries)
in_order zero = rising_pair (λ (a : Noted) (b : Noted). Below a.key b.key) (stored ∷ []) (tt, tt)
in_order (suc p) = rw (none_later p) (rising_pair (λ (a : Noted) (b : Noted). Below a.key b.key) [] tt)

told : (p uid : ℕ) (noted : Noted) → Contains (verdicts_of p entries) noted → noted.verdict ≡ Stored uid → StandsOnce (pairs (was_heard.box noted.mailbox).accepted) noted.key uid
told zero uid noted c e = stands uid noted (contains_one noted c) e
told (suc p) uid noted c e = absurd (contains_none noted (subst (λ (l : List Noted). Contains l noted) (none_later p) c))

abbrev steps : List world.Event
steps = world.Put 0 0 posted ∷ world.Take 0 ∷ world.Deliver 0 ∷ world.Answer 0 ∷ world.Hear 0 ∷ []

comes : IsWorld the_house.config steps was_heard
comes = (
  was_put,
  it_joins,
  (
    was_taken,
    takes (Item 0 posted) [] refl refl refl,
    (
      was_delivered,
      it_is_stored,
      (
        was_answered,
        answers stored refl (omega arith) refl,
        (was_heard, hears_one 0 stored [] refl refl, refl),
      ),
    ),
  ),
)

printed_so : printed ≡ flat_map (λ (entry : Entry). text_of the_house entry.piece) entries
unfolding digits
printed_so = refl

delivered_once : ExactlyOnce the_house (Bytes 1 bytes ∷ Put 1 ∷ Take 0 ∷ Deliver 0 ∷ Answer 0 ∷ Hear 1 ∷ []) over printed
delivered_once = record {
  entries = entries;
  happened = refl;
  leads = leads;
  whole = printed_so;
  steps = steps;
  came = comes;
  world = always the_house.config steps was_heard comes;
  told = record { at_own_seat = at_own_seat; as_heard = as_heard; in_order = in_order; delivered = told };
}
