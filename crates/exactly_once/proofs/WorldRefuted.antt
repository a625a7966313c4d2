-- What the promise refuses: the small world with one thing wrong. Above each stands what somebody would have seen.
use Rattle.std.proofs.Common.{◌≡◌, ℕ, zero, suc, ◌<◌, inl, inr, false, true, List, [], ◌∷◌, ◌++◌, length, refl, sym, ap, ◌∙◌, subst, arith, Contains, Some, None, length-append}
use Rattle.std.specs.Prelude.{◌≤◌, codes, slice_index, slice_index_or}
use Rattle.std.proofs.lemmas.Bool.{true≢false}
use Rattle.change_ring.specs.Log.{added, no_flags}
use Rattle.change_ring.specs.declared.change.Change.{Change}
use Rattle.change_ring.specs.declared.change.Change.TheVariants.{Add, Gone, Flags as SetFlags}
use Rattle.delivery_token.specs.Keys.{Below}
use Rattle.delivery_token.specs.Text.{undated}
use Rattle.delivery_token.specs.declared.CopyKey.{CopyKey}
use Rattle.delivery_token.specs.declared.Job.{Job}
use Rattle.delivery_token.specs.declared.Refusal.TheVariants.{NoMemory}
use Rattle.delivery_token.specs.declared.Verdict.TheVariants.{Stored, Refused}
use Rattle.delivery_token.specs.declared.log.Noted.{Noted}
use Rattle.shard_queue.specs.Lane.{EndsLast, IsClosed, Lane, of}
use Rattle.shard_queue.specs.declared.lane.Entry.{Entry}
use Rattle.shard_queue.specs.declared.lane.Entry.TheVariants.{Item, End}
use Rattle.world.specs.declared.hand.Hand.TheVariants.{Empty}
use Rattle.world.specs.World.{Box, Event, Session, Steps, World}
use Rattle.world.specs.Law.{Headline, IsPart, IsShown, StandsOnce, pairs}
use Rattle.world.proofs.Base.{part_every}
use Rattle.exactly_once.specs.rows.Worlds.{alices, alices_lane, bobs, by_number, bye, copy, hi, hi_bob, hi_refused, hi_stored, nothing, now, small, the_session, yo}

-- the small world, but for one mailbox, for the history of one, for what the first connection heard, for Alice's lane, or for the session
abbrev pub with_alices : Box → World
with_alices box = record now { box = by_number box bobs bobs }

abbrev pub with_bobs : Box → World
with_bobs box = record now { box = by_number alices box bobs }

abbrev pub accepting : List (Job × ℕ) → Box
accepting accepted = record { log = Add 7 ∷ Add 8 ∷ Add 9 ∷ []; base = 0; accepted = accepted }

abbrev pub with_heard : List Noted → World
with_heard first = record now { heard = by_number first [] [] }

abbrev pub with_lane : Lane Job → World
with_lane lane = record now { lane = by_number lane nothing nothing }

abbrev pub with_session : Session → World
with_session session = record now { session = by_number (Some session) None None }

-- ---- a copy stands once

-- Alice finds the message twice.
abbrev pub twice : Box
twice = record { log = Add 7 ∷ Add 8 ∷ Add 9 ∷ Add 10 ∷ []; base = 0; accepted = (hi, 7) ∷ (yo, 8) ∷ (bye, 9) ∷ (hi, 10) ∷ [] }

pub stands_twice : StandsOnce (pairs twice.accepted) hi.key 7 → ⊥
stands_twice s =
    let first : 0 ≡ s.position = s.alone 0 (hi.key, 7) (omega arith) refl in
    let last : 3 ≡ s.position = s.alone 3 (hi.key, 7) (omega arith) refl in
    omega (arith, first, last)

pub in_no_world : Headline small (with_alices twice) → ⊥
in_no_world h = h.no_key_twice 0 0 3 (hi, 7) (omega arith) (omega arith) refl

-- She finds it twice, under one UID.
under_one_uid : StandsOnce ((hi.key, 7) ∷ (hi.key, 7) ∷ []) hi.key 7 → ⊥
under_one_uid s =
    let first : 0 ≡ s.position = s.alone 0 (hi.key, 7) (omega arith) refl in
    let second : 1 ≡ s.position = s.alone 1 (hi.key, 7) (omega arith) refl in
    omega (arith, first, second)

-- Her client was told that it is message 8, which is another one.
under_another_uid : StandsOnce (pairs alices.accepted) hi.key 8 → ⊥
under_another_uid s =
    let first : 0 ≡ s.position = s.alone 0 (hi.key, 8) (omega arith) refl in
    let here = subst (λ (i : ℕ). slice_index_or (pairs alices.accepted) i (hi.key, 8) ≡ (hi.key, 8)) (sym first) s.here in
    let uid : 7 ≡ 8 = ap (λ (x : CopyKey × ℕ). x.1) here in
    omega (arith, uid)

told_another_uid : Headline small (with_heard (hi_refused ∷ record hi_stored { verdict = Stored 8 } ∷ [])) → ⊥
told_another_uid h = under_another_uid (h.answered 0 8 (record hi_stored { verdict = Stored 8 }) (1, omega arith, refl) refl)

-- Its sender was told that it is delivered, and Alice never finds it.
pub stands_nowhere : StandsOnce [] hi.key 7 → ⊥
stands_nowhere s = let within : s.position < 0 = s.within in omega (arith, within)

pub is_lost : Headline small (with_alices bobs) → ⊥
is_lost h = stands_nowhere (h.answered 0 7 hi_stored (1, omega arith, refl) refl)

-- Two messages have one UID: a client takes the one for the other.
uid_again : Headline small (with_alices (accepting ((hi, 7) ∷ (yo, 7) ∷ (bye, 8) ∷ []))) → ⊥
uid_again h = let uid : 7 ≡ 8 = ap (λ (l : List ℕ). slice_index l 1) (h.uids 0) in omega (arith, uid)

-- A UID was left out, which no message ever had.
uid_skipped : Headline small (with_alices (accepting ((hi, 7) ∷ (yo, 9) ∷ (bye, 10) ∷ []))) → ⊥
uid_skipped h = let uid : 9 ≡ 8 = ap (λ (l : List ℕ). slice_index l 1) (h.uids 0) in omega (arith, uid)

-- ---- which copies stand, and in which order

-- What the first connection sent last stands first.
later_before_earlier : Below bye.key hi.key → ⊥
later_before_earlier (inl serial) = omega (arith, serial)
later_before_earlier (inr (serial, inl message)) = omega (arith, message)
later_before_earlier (inr (serial, inr (message, recipient))) = omega (arith, message)

other_order : Headline small (with_alices (accepting ((bye, 7) ∷ (yo, 8) ∷ (hi, 9) ∷ []))) → ⊥
other_order h = later_before_earlier (h.in_order 0 0 0 1 hi.key (omega arith) (omega arith))

no_part_of_none : (x : Job) → IsPart (x ∷ []) [] → ⊥
no_part_of_none x part = elim part [ ]

-- Bob finds a message that nobody sent.
abbrev spam : Job
spam = copy 1 1 0 1 (codes "spam\r\n")

nobody_sent_it : Headline small (with_bobs (record { log = Add 7 ∷ []; base = 0; accepted = (spam, 7) ∷ [] })) → ⊥
nobody_sent_it h = no_part_of_none spam (h.taken 1 1)

-- Bob finds Alice's message.
anothers_mailbox : Headline small (with_bobs (record { log = Add 7 ∷ []; base = 0; accepted = (hi, 7) ∷ [] })) → ⊥
anothers_mailbox h = no_part_of_none hi (h.taken 0 1)

-- Bob finds his message, whose sender was told that it was refused, and sends it again.
refused_and_there : Headline small (with_bobs (record { log = Add 7 ∷ []; base = 0; accepted = (hi_bob, 7) ∷ [] })) → ⊥
refused_and_there h = h.refused 0 hi_refused NoMemory (0, omega arith, refl) refl 1 0 (hi_bob, 7) (omega arith) refl

-- Alice reads another text than was sent.
another_text : Headline small (with_alices (accepting ((record hi { text = undated (codes "ha\r\n") }, 7) ∷ (yo, 8) ∷ (bye, 9) ∷ []))) → ⊥
another_text h = (part_every (λ (c : Job). slice_index c.text.bytes 1 ≡ 97 → ⊥) (h.taken 0 0) ((λ e. omega (arith, e)), ((λ e. omega (arith, e)), tt))).0 refl

-- What was appended with no flags came in as seen.
another_flag : Headline small (with_alices (accepting ((record hi { flags = record no_flags { seen = true } }, 7) ∷ (yo, 8) ∷ (bye, 9) ∷ []))) → ⊥
another_flag h = true≢false (part_every (λ (c : Job). c.flags.seen ≡ false) (h.taken 0 0) (refl, (refl, tt))).0

-- The log has a message more than was stored: Alice's client counts one that isn't there.
one_exists_too_many : Headline small (with_alices (record alices { log = Add 7 ∷ Add 8 ∷ Add 9 ∷ Add 10 ∷ [] })) → ⊥
one_exists_too_many h = let many : 4 ≡ 3 = ap length (h.given 0) in omega (arith, many)

-- It has one too few: no client is ever told of the last message.
one_exists_too_few : Headline small (with_alices (record alices { log = Add 7 ∷ Add 8 ∷ [] })) → ⊥
one_exists_too_few h = let many : 2 ≡ 3 = ap length (h.given 0) in omega (arith, many)

not_among : Contains {X = ℕ} (7 ∷ 8 ∷ 9 ∷ []) 5 → ⊥
not_among (zero, l, e) = omega (arith, e)
not_among (suc zero, l, e) = omega (arith, e)
not_among (suc (suc zero), l, e) = omega (arith, e)
not_among (suc (suc (suc k)), l, e) = omega (arith, l)

-- A message goes that never was, or has a flag.
never_was : Headline small (with_alices (record alices { log = Add 7 ∷ Add 8 ∷ Add 9 ∷ Gone 5 ∷ [] })) → ⊥
never_was h = not_among (h.logs 0).there.1.1.1.0

flag_of_none : Headline small (with_alices (record alices { log = Add 7 ∷ Add 8 ∷ Add 9 ∷ SetFlags 5 (record no_flags { flagged = true }) ∷ [] })) → ⊥
flag_of_none h = not_among (h.logs 0).there.1.1.1.0

-- A change was dropped while the window had room: a client that had not seen it is put out.
dropped_early : Headline small (with_alices (record alices { base = 1 })) → ⊥
dropped_early h = let held : 16 ≤ 2 = h.held_back 0 (omega arith) in omega (arith, held)

-- ---- verdicts

-- The first connection has two verdicts on one copy.
two_verdicts : Headline small (with_heard (hi_refused ∷ hi_stored ∷ record hi_stored { verdict = Refused NoMemory } ∷ [])) → ⊥
two_verdicts h = h.one_verdict 0 1 2 hi_stored (omega arith) (omega arith) refl

-- The verdict on its last message is on no way to it: it waits for ever, though the message stands.
verdict_lost : Headline small (record now { hand = by_number Empty Empty Empty }) → ⊥
verdict_lost h = let many : 2 ≡ 1 = ap length (h.history 0 0) in omega (arith, many)

-- ---- lanes and their close

-- What the first connection sent last is gone: it wasn't taken, and it doesn't wait.
lost_in_the_lane : Headline small (with_lane (record alices_lane { got = Item 0 hi ∷ Item 1 yo ∷ [] })) → ⊥
lost_in_the_lane h = let many : 1 ≡ 2 = ap length ((h.lanes 0).each 0) in omega (arith, many)

-- It was taken twice.
taken_twice : Headline small (with_lane (record alices_lane { got = Item 0 hi ∷ Item 1 yo ∷ Item 0 bye ∷ Item 0 bye ∷ [] })) → ⊥
taken_twice h = let many : 3 ≡ 2 = ap length ((h.lanes 0).each 0) in omega (arith, many)

abbrev message_of : List (Entry Job) → ℕ
message_of [] = 0
message_of (Item p c ∷ es) = c.key.message
message_of (End p ∷ es) = 0

-- It overtook what was sent before it.
overtaken : Headline small (with_lane (record alices_lane { got = Item 0 bye ∷ Item 1 yo ∷ Item 0 hi ∷ [] })) → ⊥
overtaken h = let first : 1 ≡ 0 = ap message_of ((h.lanes 0).each 0) in omega (arith, first)

not_none : (e : Entry Job) (es : List (Entry Job)) → e ∷ es ≡ [] → ⊥
not_none e es same = omega (arith, ap length same)

-- A copy is taken from Alice's shard after its close: whoever stopped there, since nothing more would come, lost it.
taken_after_the_close : (w : World) → (w.lane 0).got ≡ Item 0 hi ∷ End 0 ∷ End 1 ∷ End 2 ∷ Item 0 bye ∷ [] → Headline small w → ⊥
taken_after_the_close w got h =
    let sent = ap (λ (g : List (Entry Job)). of 0 (g ++ (w.lane 0).waiting)) (sym got) ∙ (h.lanes 0).each 0 in
    not_none (Item 0 bye) (of 0 (w.lane 0).waiting) (subst EndsLast (sym sent) ((h.lanes 0).legal 0))

-- One still waits there, and nobody will take it.
waits_after_the_close : (w : World) → IsClosed 3 (w.lane 0) → (w.lane 0).waiting ≡ Item 0 bye ∷ [] → Headline small w → ⊥
waits_after_the_close w closed waits h = not_none (Item 0 bye) [] (sym waits ∙ (h.closed 0 closed).0)

-- One comes there later, and is taken.
comes_after_the_close : (w v : World) (later : List Event) → IsClosed 3 (w.lane 0) → Steps small w later v → (v.lane 0).got ≡ (w.lane 0).got ++ Item 0 bye ∷ [] → Headline small w → ⊥
comes_after_the_close w v later closed steps got h =
    let same = ap (λ (l : Lane Job). length l.got) ((h.closed 0 closed).1 later v steps) in
    omega (arith, same, ap length got, length-append (w.lane 0).got (Item 0 bye ∷ []))

-- ---- what a session is shown

-- An EXISTS too few: its cursor says that it was shown two messages.
shown_too_few : IsShown alices.log (record the_session { shown = Add 7 ∷ [] }) → ⊥
shown_too_few s = let many : 1 ≡ 2 = ap length s.shown in omega (arith, many)

-- One too many.
shown_too_many : IsShown alices.log (record the_session { shown = Add 7 ∷ Add 8 ∷ Add 9 ∷ [] }) → ⊥
shown_too_many s = let many : 3 ≡ 2 = ap length s.shown in omega (arith, many)

-- The second message first, so that number 1 is another message than it is for the server.
shown_in_another_order : IsShown alices.log (record the_session { shown = Add 8 ∷ Add 7 ∷ [] }) → ⊥
shown_in_another_order s = let uid : 8 ≡ 7 = ap (λ (l : List Change). slice_index (added l) 0) s.shown in omega (arith, uid)

-- The first one twice.
shown_twice : IsShown alices.log (record the_session { shown = Add 7 ∷ Add 7 ∷ [] }) → ⊥
shown_twice s = let uid : 7 ≡ 8 = ap (λ (l : List Change). slice_index (added l) 1) s.shown in omega (arith, uid)

-- A flag that never was.
shown_a_flag : IsShown alices.log (record the_session { shown = Add 7 ∷ SetFlags 7 (record no_flags { seen = true }) ∷ [] }) → ⊥
shown_a_flag s = let many : 1 ≡ 2 = ap (λ (l : List Change). length (added l)) s.shown in omega (arith, many)

-- What was there before its SELECT, once more.
shown_from_before : IsShown alices.log (record { mailbox = 0; start = 1; cursor = 3; shown = Add 7 ∷ Add 8 ∷ Add 9 ∷ [] }) → ⊥
shown_from_before s = let many : 3 ≡ 2 = ap length s.shown in omega (arith, many)

-- More than there is.
shown_what_is_to_come : IsShown alices.log (record the_session { cursor = 4; shown = Add 7 ∷ Add 8 ∷ Add 9 ∷ Add 10 ∷ [] }) → ⊥
shown_what_is_to_come s = let within : 4 ≤ 3 = s.within in omega (arith, within)

-- Alice's changes, in Bob's mailbox.
shown_anothers : Headline small (with_session (record the_session { mailbox = 1 })) → ⊥
shown_anothers h = let within : 2 ≤ 0 = (h.shown 0 (record the_session { mailbox = 1 }) refl).within in omega (arith, within)
