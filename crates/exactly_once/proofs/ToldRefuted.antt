-- What was told in the small house is told once; and what the promise refuses of what is told. Above each stands what somebody would have seen.
use Rattle.std.proofs.Common.{◌≡◌, ◌≢◌, ℕ, zero, suc, ◌==◌, inl, inr, false, List, [], ◌∷◌, ◌++◌, length, map, refl, sym, ap, ◌∙◌, subst, arith, All, AllPairs, Contains, Some, None}
use Rattle.std.specs.Prelude.{codes, flat_map}
use Rattle.std.proofs.lemmas.Bool.{ne_eqb}
use Rattle.delivery_token.specs.Keys.{Below}
use Rattle.delivery_token.specs.declared.Job.{Job}
use Rattle.delivery_token.specs.declared.Refusal.TheVariants.{NoMemory}
use Rattle.delivery_token.specs.declared.Verdict.{Verdict as Judgement}
use Rattle.delivery_token.specs.declared.Verdict.TheVariants.{Stored, Refused}
use Rattle.delivery_token.specs.declared.log.Noted.{Noted}
use Rattle.lmtp_machine.specs.declared.reply.Reply.TheVariants.{Delivered}
use Rattle.house_peers.specs.Caller.{Caller}
use Rattle.house.specs.Scene.{Scene, empty_scene}
use Rattle.house.specs.declared.event.Event.{Event}
use Rattle.house.specs.declared.event.Event.TheVariants.{Deliver, Hear, Take}
use Rattle.world.specs.declared.hand.Hand.{Hand}
use Rattle.world.specs.declared.hand.Hand.TheVariants.{Empty, Taken}
use Rattle.world.specs.World.{DeliverStep, World, deliver_full, deliver_no_memory, deliver_spent, delivers}
use Rattle.world.specs.Law.{Headline}
use Rattle.world.proofs.Base.{rising_pair}
use Rattle.world.proofs.Verdicts.{below_itself}
use Rattle.exactly_once.specs.Promise.{Entry, ExactlyOnce, HearsItsOwn, IsOwn, IsRecord, Lines, NoneTwice, Replies, Said, Silence, TellsOnce, Verdict, text_of, verdicts_of}
use Rattle.exactly_once.specs.rows.Worlds.{bobs, by_number, hi, hi_bob, hi_refused, hi_stored, now, yo_stored}
use Rattle.exactly_once.specs.rows.Entries.{a_scene, printing, the_house, told}
use Rattle.exactly_once.proofs.Going.{none_twice}
use Rattle.exactly_once.proofs.WorldHolds.{answered}
use Rattle.exactly_once.proofs.WorldRefuted.{in_no_world, is_lost, stands_nowhere, stands_twice, twice, with_alices}

-- ---- what was told

not_at_first : (p : ℕ) → (suc (suc p) == 0) ≡ false
not_at_first p = ne_eqb (suc (suc p)) 0 (λ e. omega (arith, e))

not_at_second : (p : ℕ) → (suc (suc p) == 1) ≡ false
not_at_second p = ne_eqb (suc (suc p)) 1 (λ e. omega (arith, e))

none_later : (p : ℕ) → verdicts_of (suc (suc p)) told ≡ []
none_later p = rw (not_at_first p, not_at_second p) refl

none_of_later : (p : ℕ) (P : Noted → Type 0) → All P (verdicts_of (suc (suc p)) told)
none_of_later p P = subst (All P) (sym (none_later p)) (λ i d l. absurd (omega (arith, l)))

at_own_seat : (p : ℕ) → All (λ noted. noted.key.seat ≡ p) (verdicts_of p told)
at_own_seat zero zero d l = refl
at_own_seat zero (suc zero) d l = refl
at_own_seat zero (suc (suc i)) d l = absurd (omega (arith, l))
at_own_seat (suc zero) i d l = absurd (omega (arith, l))
at_own_seat (suc (suc p)) i d l = none_of_later p (λ (noted : Noted). noted.key.seat ≡ suc (suc p)) i d l

as_heard : (p : ℕ) → All (Contains (now.heard p)) (verdicts_of p told)
as_heard zero zero d l = (1, omega arith, refl)
as_heard zero (suc zero) d l = (0, omega arith, refl)
as_heard zero (suc (suc i)) d l = absurd (omega (arith, l))
as_heard (suc zero) i d l = absurd (omega (arith, l))
as_heard (suc (suc p)) i d l = none_of_later p (Contains {X = Noted} []) i d l

abbrev Follow : Noted → Noted → Type 0
Follow a b = Below a.key b.key

in_order : (p : ℕ) → AllPairs Follow (verdicts_of p told)
in_order zero = rising_pair Follow (hi_stored ∷ hi_refused ∷ []) ((inr (refl, inr (refl, omega arith)), tt), (tt, tt))
in_order (suc zero) = rising_pair Follow [] tt
in_order (suc (suc p)) = rw (none_later p) (rising_pair Follow [] tt)

tells_once : TellsOnce now told
tells_once = record {
  at_own_seat = at_own_seat;
  as_heard = as_heard;
  in_order = in_order;
  delivered = λ p uid noted c e. answered p uid noted (subst (Contains (now.heard p)) c.2 (as_heard p c.0 noted c.1)) e;
}

so_none_twice : NoneTwice told
so_none_twice = none_twice now told tells_once

-- ---- what is refused

abbrev to_seat : ℕ → List Said → List Entry
to_seat seat said = printing (Replies seat said) ∷ []

-- The first connection reads `250 2.1.5 Delivered` twice for one recipient.
told_twice : TellsOnce now (to_seat 0 (Verdict hi_stored ∷ Verdict hi_stored ∷ [])) → ⊥
told_twice t = below_itself hi.key (t.in_order 0 0 1 hi_stored (omega arith) (omega arith))

-- Once now, and once more at a later event.
told_again : NoneTwice (to_seat 0 (Verdict hi_stored ∷ []) ++ to_seat 0 (Verdict hi_stored ∷ [])) → ⊥
told_again n = n.at_a_seat 0 0 1 hi_stored (omega arith) (omega arith) refl

-- First that the copy is delivered, then that it is refused.
told_both : NoneTwice (to_seat 0 (Verdict hi_stored ∷ Verdict (record hi_stored { verdict = Refused NoMemory }) ∷ [])) → ⊥
told_both n = n.at_a_seat 0 0 1 hi_stored (omega arith) (omega arith) refl

-- Both connections are told of one copy.
told_to_both : NoneTwice (to_seat 0 (Verdict hi_stored ∷ []) ++ to_seat 1 (Verdict hi_stored ∷ [])) → ⊥
told_to_both n = n.at_two 0 1 hi_stored hi_stored (λ e. omega (arith, e)) (0, omega arith, refl) (0, omega arith, refl) refl

-- The second connection is told what became of the first one's message.
told_elsewhere : TellsOnce now (to_seat 1 (Verdict hi_stored ∷ [])) → ⊥
told_elsewhere t = let seat : 0 ≡ 1 = t.at_own_seat 1 0 hi_stored (omega arith) in omega (arith, seat)

-- The replies to two recipients are exchanged: Alice's sender takes her copy for refused.
second_before_first : Below hi_bob.key hi.key → ⊥
second_before_first (inl serial) = omega (arith, serial)
second_before_first (inr (serial, inl message)) = omega (arith, message)
second_before_first (inr (serial, inr (message, recipient))) = omega (arith, recipient)

told_in_another_order : TellsOnce now (to_seat 0 (Verdict hi_refused ∷ Verdict hi_stored ∷ [])) → ⊥
told_in_another_order t = second_before_first (t.in_order 0 0 1 hi_stored (omega arith) (omega arith))

not_heard : (noted : Noted) → noted.verdict ≡ Stored 8 → Contains (now.heard 0) noted → ⊥
not_heard noted e (zero, l, is) = wrong (ap (λ (x : Noted). x.verdict) is ∙ e)
  where
    wrong : ◌≡◌ {A = Judgement} (Refused NoMemory) (Stored 8) → ⊥
    wrong same = cc
not_heard noted e (suc zero, l, is) = wrong (ap (λ (x : Noted). x.verdict) is ∙ e)
  where
    wrong : ◌≡◌ {A = Judgement} (Stored 7) (Stored 8) → ⊥
    wrong same = absurd cc
not_heard noted e (suc (suc k), l, is) = omega (arith, l)

-- Bob's copy was refused, and its sender reads `250 2.1.5 Delivered`.
told_what_is_not_so : TellsOnce now (to_seat 0 (Verdict (record hi_refused { verdict = Stored 8 }) ∷ [])) → ⊥
told_what_is_not_so t = not_heard (record hi_refused { verdict = Stored 8 }) refl (t.as_heard 0 0 hi_stored (omega arith))

-- The second connection reads it before its seat has heard.
told_too_early : TellsOnce now (to_seat 1 (Verdict yo_stored ∷ [])) → ⊥
told_too_early t = let there = (t.as_heard 1 0 yo_stored (omega arith)).1 in omega (arith, there)

-- The first connection reads it, and Alice's mailbox is empty.
told_and_lost : TellsOnce (with_alices bobs) told → ⊥
told_and_lost t = stands_nowhere (t.delivered 0 7 hi_stored (0, omega arith, refl) refl)

-- It reads it, and the message stands twice.
told_and_twice : TellsOnce (with_alices twice) told → ⊥
told_and_twice t = stands_twice (t.delivered 0 7 hi_stored (0, omega arith, refl) refl)

-- A line `250 2.1.5 Delivered` that is no verdict is none of the other replies.
no_other_is_delivered : (Delivered ≢ Delivered) → ⊥
no_other_is_delivered other = other refl

-- ---- whose words they are

-- A connection is told of the message of an earlier one at its seat.
of_an_earlier_one : (b : Caller) → b.serial ≡ 1 → HearsItsOwn (record a_scene { caller = by_number (Some b) None None }) 0 (Verdict hi_stored ∷ []) → ⊥
of_an_earlier_one b later own = let serial : 0 ≡ b.serial = own 0 hi_stored (omega arith) in omega (arith, serial, later)

-- One is told at an event of another.
at_anothers_event : (s t : Scene) (said : List Said) → IsOwn the_house s (Hear 1) t (Replies 1 said) → ⊥
at_anothers_event s t said own = let seat : 1 ≡ 0 = own.0 in omega (arith, seat)

-- A session says a line as a shard's consumer takes a copy.
at_nobodys_event : (s t : Scene) (lines : List (List ℕ)) → IsOwn the_house s (Take 0) t (Lines 1 lines) → ⊥
at_nobodys_event s t lines own = own

-- ---- records

not_taken : (c : Job) → ◌≡◌ {A = Hand} Empty (Taken c) → ⊥
not_taken c e = cc

-- What no consumer took is delivered.
none_delivered : (v : World) → DeliverStep the_house.config (empty_scene the_house).world 0 v → ⊥
none_delivered v (delivers c b is uid room logs e) = not_taken c is
none_delivered v (deliver_spent c is spent e) = not_taken c is
none_delivered v (deliver_full c is uid full e) = not_taken c is
none_delivered v (deliver_no_memory c is uid room e) = not_taken c is

delivered_from_nowhere : (t : Scene) → IsRecord the_house (record { event = Deliver 0; after = t; piece = Silence } ∷ []) (empty_scene the_house) t → ⊥
delivered_from_nowhere t r = none_delivered r.0.plays.moved r.0.plays.step

-- In a house in which nothing happened somebody reads a line.
said_from_nowhere : (after : Scene) → ExactlyOnce the_house [] after (codes "L1 250 2.1.5 Delivered\n") → ⊥
said_from_nowhere after e = by e.entries e.happened e.whole
  where
    by : (entries : List Entry) → map (λ (x : Entry). x.event) entries ≡ [] → codes "L1 250 2.1.5 Delivered\n" ≡ flat_map (λ (x : Entry). text_of the_house x.piece) entries → ⊥
    by [] happened whole = let many : 23 ≡ 0 = ap length whole in omega (arith, many)
    by (x ∷ entries) happened whole = omega (arith, ap length happened)

-- No house leads to a world in which a copy stands twice, or in which one is lost whose sender was told that it is stored.
never_twice : (events : List Event) (after : Scene) (printed : List ℕ) → after.world ≡ with_alices twice → ExactlyOnce the_house events after printed → ⊥
never_twice events after printed is e = in_no_world (subst (Headline the_house.config) is e.world)

never_lost : (events : List Event) (after : Scene) (printed : List ℕ) → after.world ≡ with_alices bobs → ExactlyOnce the_house events after printed → ⊥
never_lost events after printed is e = is_lost (subst (Headline the_house.config) is e.world)
