-- A small house by hand, and what each word of the promise says of it: two connections, two mailboxes in two shards, a session, four copies.
use Rattle.std.specs.Prelude.{◌≡◌, ℕ, zero, suc, ◌<◌, codes, List, [], ◌∷◌, Some, None, slice_index_or}
use Rattle.std.proofs.Common.{refl, ap, arith}
use Rattle.change_ring.specs.Log.{no_flags, view_at}
use Rattle.change_ring.specs.declared.change.Change.TheVariants.{Add}
use Rattle.delivery_token.specs.Text.{undated}
use Rattle.delivery_token.specs.declared.CopyKey.{CopyKey}
use Rattle.delivery_token.specs.declared.Job.{Job}
use Rattle.delivery_token.specs.declared.Refusal.TheVariants.{NoMemory}
use Rattle.delivery_token.specs.declared.Verdict.TheVariants.{Stored, Refused}
use Rattle.delivery_token.specs.declared.log.Noted.{Noted}
use Rattle.shard_queue.specs.Lane.{Lane}
use Rattle.shard_queue.specs.declared.lane.Entry.TheVariants.{Item}
use Rattle.world.specs.declared.hand.Hand.TheVariants.{Empty, Done}
use Rattle.world.specs.First.{one_house}
use Rattle.world.specs.World.{Box, Config, Event, Session, World, Put, Take, Deliver, Answer, Hear, Enter, Feed}
use Rattle.world.specs.Law.{IsPart, IsShown, StandsOnce, accepted_of, between, due, keeps, keys, none, pairs, skips, stored, taken_copies}

-- ---- who there is

-- Seats 0 and 1 are those of the two connections, seat 2 is that of the session. Mailbox 0 is Alice's, in shard 0, mailbox 1 is Bob's, in shard 1. Each lane has
-- room for four entries, each mailbox for eight messages, and its first UID is 7. A window keeps sixteen changes.
abbrev pub small : Config
small = record one_house { seats = 3; shards = 2; mailboxes = 2; depth = 4; first_uid = 7 }

-- one thing at 0, another at 1, and a third at each later number
abbrev pub by_number : {A : Type 0} → A → A → A → ℕ → A
by_number x y z zero = x
by_number x y z (suc zero) = y
by_number x y z (suc (suc n)) = z

-- the copy of this message for this recipient, from the first connection at the seat
abbrev pub copy : (seat message recipient mailbox : ℕ) → List ℕ → Job
copy seat message recipient mailbox text = record {
  key = record { seat = seat; serial = 0; message = message; recipient = recipient };
  mailbox = mailbox;
  text = undated text;
  flags = no_flags;
}

-- The first connection sends a message to Alice and Bob, the second one to Alice, then the first another to Alice.
abbrev pub hi : Job
hi = copy 0 0 0 0 (codes "hi\r\n")

abbrev pub hi_bob : Job
hi_bob = copy 0 0 1 1 (codes "hi\r\n")

abbrev pub yo : Job
yo = copy 1 0 0 0 (codes "yo\r\n")

abbrev pub bye : Job
bye = copy 0 1 0 0 (codes "bye\r\n")

-- ---- what happens

-- The session selects Alice's mailbox, which is empty. Her copy of the first message is stored as 7, and the first connection hears so. Bob's was refused
-- at once, for want of memory. The second connection's copy is stored as 8: it hasn't heard so. The last one is stored as 9, and its verdict is still in
-- the hand of the shard. The session was shown two changes.
abbrev pub happened : List Event
happened =
    Enter 0 0 ∷ Put 0 0 hi ∷ Put 0 1 hi_bob ∷ Put 1 0 yo ∷ Take 0 ∷ Deliver 0 ∷ Answer 0 ∷ Hear 0 ∷ Take 0 ∷ Deliver 0 ∷ Answer 0 ∷ Put 0 0 bye ∷ Take 0 ∷ Deliver 0
    ∷ Feed 0 2 ∷ []

-- ---- the world that this leaves, by hand

abbrev pub hi_stored : Noted
hi_stored = record { key = hi.key; mailbox = 0; verdict = Stored 7 }

abbrev pub hi_refused : Noted
hi_refused = record { key = hi_bob.key; mailbox = 1; verdict = Refused NoMemory }

abbrev pub yo_stored : Noted
yo_stored = record { key = yo.key; mailbox = 0; verdict = Stored 8 }

abbrev pub bye_stored : Noted
bye_stored = record { key = bye.key; mailbox = 0; verdict = Stored 9 }

abbrev pub nothing : {A : Type 0} → Lane A
nothing = record { sent = by_number [] [] []; got = []; waiting = [] }

abbrev pub alices_lane : Lane Job
alices_lane = record { sent = by_number (Item 0 hi ∷ Item 0 bye ∷ []) (Item 1 yo ∷ []) []; got = Item 0 hi ∷ Item 1 yo ∷ Item 0 bye ∷ []; waiting = [] }

abbrev pub first_replies : Lane Noted
first_replies = record { sent = by_number (Item 0 hi_stored ∷ []) [] []; got = Item 0 hi_stored ∷ []; waiting = [] }

abbrev pub second_replies : Lane Noted
second_replies = record { sent = by_number (Item 0 yo_stored ∷ []) [] []; got = []; waiting = Item 0 yo_stored ∷ [] }

abbrev pub alices : Box
alices = record { log = Add 7 ∷ Add 8 ∷ Add 9 ∷ []; base = 0; accepted = (hi, 7) ∷ (yo, 8) ∷ (bye, 9) ∷ [] }

abbrev pub bobs : Box
bobs = record { log = []; base = 0; accepted = [] }

abbrev pub the_session : Session
the_session = record { mailbox = 0; start = 0; cursor = 2; shown = Add 7 ∷ Add 8 ∷ [] }

abbrev pub now : World
now = record {
  lane = by_number alices_lane nothing nothing;
  hand = by_number (Done bye_stored) Empty Empty;
  replies = by_number first_replies second_replies nothing;
  heard = by_number (hi_refused ∷ hi_stored ∷ []) [] [];
  box = by_number alices bobs bobs;
  session = by_number (Some the_session) None None;
  opened = by_number 1 0 0;
}

-- ---- what the words say of it

-- each seat's part of Alice's mailbox, and Bob's
of_first : accepted_of now 0 0 ≡ (hi, 7) ∷ (bye, 9) ∷ []
of_first = refl

of_second : accepted_of now 1 0 ≡ (yo, 8) ∷ []
of_second = refl

of_bobs : accepted_of now 0 1 ≡ []
of_bobs = refl

alices_pairs : pairs alices.accepted ≡ (hi.key, 7) ∷ (yo.key, 8) ∷ (bye.key, 9) ∷ []
alices_pairs = refl

first_keys : keys (accepted_of now 0 0) ≡ hi.key ∷ bye.key ∷ []
first_keys = refl

-- what the first connection has heard as stored for Alice, and what is on its way to it: in the shard's hand
first_stored : stored now 0 0 ≡ (hi.key, 7) ∷ []
first_stored = refl

first_due : due small now 0 0 ≡ (bye.key, 9) ∷ []
first_due = refl

-- the second has heard nothing: its verdict waits
second_stored : stored now 1 0 ≡ []
second_stored = refl

second_due : due small now 1 0 ≡ (yo.key, 8) ∷ []
second_due = refl

-- a refusal is neither
bobs_stored : stored now 0 1 ≡ []
bobs_stored = refl

-- what Alice's consumer took of the first connection
first_taken : taken_copies small now 0 0 ≡ hi ∷ bye ∷ []
first_taken = refl

-- a consumer may have taken more than stands there
some_taken : IsPart (hi ∷ bye ∷ []) (hi ∷ hi_bob ∷ bye ∷ [])
some_taken = keeps hi (skips hi_bob (keeps bye none))

-- the message stands once, under 7
pub hi_stands : StandsOnce (pairs alices.accepted) hi.key 7
hi_stands = record { position = 0; within = omega arith; here = refl; alone = only }
  where
    only : (i : ℕ) (d : CopyKey × ℕ) → i < 3 → (slice_index_or (pairs alices.accepted) i d).0 ≡ hi.key → i ≡ 0
    only zero d l e = refl
    only (suc zero) d l e = absurd (omega (arith, ap (λ (k : CopyKey). k.seat) e))
    only (suc (suc zero)) d l e = absurd (omega (arith, ap (λ (k : CopyKey). k.message) e))
    only (suc (suc (suc i))) d l e = absurd (omega (arith, l))

-- changes 1 up to 3 of the mailbox, and what a client counts that was shown two
second_on : between 1 3 alices.log ≡ Add 8 ∷ Add 9 ∷ []
second_on = refl

counted : view_at alices.log the_session.cursor ≡ 7 ∷ 8 ∷ []
counted = refl

pub session_is_shown : IsShown alices.log the_session
session_is_shown = record { shown = refl; began = omega arith; within = omega arith }

-- one that selected behind the first message
later_session : IsShown alices.log (record { mailbox = 0; start = 1; cursor = 3; shown = Add 8 ∷ Add 9 ∷ [] })
later_session = record { shown = refl; began = omega arith; within = omega arith }
