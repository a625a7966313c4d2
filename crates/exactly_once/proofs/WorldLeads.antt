-- The events lead to the small world, one step after another; and what three events may lead to.
use Rattle.std.proofs.Common.{◌≡◌, ℕ, zero, suc, ◌≤◌, ◌⊎◌, inl, inr, true, List, [], ◌∷◌, length, refl, sym, ap, ◌∙◌, subst, arith, All}
use Rattle.change_ring.specs.Log.{no_flags, arrival}
use Rattle.change_ring.specs.declared.change.Change.TheVariants.{Add, Flags as SetFlags}
use Rattle.delivery_token.specs.Keys.{Below}
use Rattle.delivery_token.specs.declared.CopyKey.{CopyKey}
use Rattle.delivery_token.specs.declared.Job.{Job}
use Rattle.delivery_token.specs.declared.Verdict.TheVariants.{Stored}
use Rattle.delivery_token.specs.declared.log.Noted.{Noted}
use Rattle.shard_queue.proofs.AtLaws.{at_each}
use Rattle.shard_queue.specs.Lane.{Lane}
use Rattle.shard_queue.specs.declared.lane.Entry.{Entry}
use Rattle.shard_queue.specs.declared.lane.Entry.TheVariants.{Item, End}
use Rattle.world.specs.declared.hand.Hand.TheVariants.{Empty, Taken}
use Rattle.world.specs.World.{Box, Deliver, DeliverStep, EntryBelow, Event, IsWorld, Logs, Put, PutStep, Take, TakeStep, World, answers, deliver_full, deliver_no_memory, deliver_spent, delivered, delivers, empty_world, enters, hears_one, in_hand, mails, next_uid, put_full, put_joins, put_no_memory, put_shut, reply_to, take_empty, takes}
use Rattle.exactly_once.specs.rows.Worlds.{alices, bye, happened, hi, hi_bob, hi_refused, hi_stored, now, small, yo, yo_stored}

abbrev first_stored : Box
first_stored = record { log = Add 7 ∷ []; base = 0; accepted = (hi, 7) ∷ [] }

abbrev two_stored : Box
two_stored = record { log = Add 7 ∷ Add 8 ∷ []; base = 0; accepted = (hi, 7) ∷ (yo, 8) ∷ [] }

-- what a seat has put into a lane is below a key
abbrev IsPast : (seat : ℕ) → CopyKey → ℕ → Lane Job → Type 0
IsPast seat key t lane = All (EntryBelow key) (lane.sent seat)

none_put : (key : CopyKey) → All (EntryBelow key) []
none_put key i d l = absurd (omega (arith, l))

hi_put : (key : CopyKey) → Below hi.key key → All (EntryBelow key) (Item 0 hi ∷ [])
hi_put key below zero d l = below
hi_put key below (suc i) d l = absurd (omega (arith, l))

next_recipient : Below hi.key hi_bob.key
next_recipient = inr (refl, inr (refl, omega arith))

next_message : Below hi.key bye.key
next_message = inr (refl, inl (omega arith))

all_heard : All (λ r. Below r.key bye.key) (hi_refused ∷ hi_stored ∷ [])
all_heard zero d l = inr (refl, inl (omega arith))
all_heard (suc zero) d l = inr (refl, inl (omega arith))
all_heard (suc (suc i)) d l = absurd (omega (arith, l))

none_heard : (key : CopyKey) → All (λ (r : Noted). Below r.key key) []
none_heard key i d l = absurd (omega (arith, l))

leads_there : (w : World) × IsWorld small happened w × (w.box 0 ≡ now.box 0) × (w.box 1 ≡ now.box 1) × (w.heard 0 ≡ now.heard 0) × (w.heard 1 ≡ now.heard 1) × (w.hand 0 ≡ now.hand 0)
    × ((w.lane 0).got ≡ (now.lane 0).got) × ((w.replies 1).waiting ≡ (now.replies 1).waiting) × (w.session 0 ≡ now.session 0)
leads_there = (
  _,
  (
    _,
    enters (omega arith) (omega arith) refl (omega arith) refl,
    (
      _,
      put_joins (record { seat = omega arith; own = refl; mailbox = omega arith; shard = (omega arith, refl); above_sent = λ t. none_put hi.key; above_heard = none_heard hi.key }) refl (omega arith) refl,
      (
        _,
        put_no_memory (record { seat = omega arith; own = refl; mailbox = omega arith; shard = (omega arith, refl); above_sent = at_each (IsPast 0 hi_bob.key) _ 0 _ (λ t. none_put hi_bob.key) (hi_put hi_bob.key next_recipient); above_heard = none_heard hi_bob.key }) refl (omega arith) refl,
        (
          _,
          put_joins (record { seat = omega arith; own = refl; mailbox = omega arith; shard = (omega arith, refl); above_sent = at_each (IsPast 1 yo.key) _ 0 _ (λ t. none_put yo.key) (none_put yo.key); above_heard = none_heard yo.key }) refl (omega arith) refl,
          (
            _,
            takes (Item 0 hi) (Item 1 yo ∷ []) refl refl refl,
            (
              _,
              delivers hi first_stored refl (omega arith, omega arith) (omega arith) (record { room = omega arith; log = refl; base = inl refl; accepted = refl }) refl,
              (
                _,
                answers hi_stored refl (omega arith) refl,
                (
                  _,
                  hears_one 0 hi_stored [] refl refl,
                  (
                    _,
                    takes (Item 1 yo) [] refl refl refl,
                    (
                      _,
                      delivers yo two_stored refl (omega arith, omega arith) (omega arith) (record { room = omega arith; log = refl; base = inl refl; accepted = refl }) refl,
                      (
                        _,
                        answers yo_stored refl (omega arith) refl,
                        (
                          _,
                          put_joins (record { seat = omega arith; own = refl; mailbox = omega arith; shard = (omega arith, refl); above_sent = at_each (IsPast 0 bye.key) _ 0 _ (at_each (IsPast 0 bye.key) _ 0 _ (at_each (IsPast 0 bye.key) _ 0 _ (at_each (IsPast 0 bye.key) _ 0 _ (λ t. none_put bye.key) (hi_put bye.key next_message)) (hi_put bye.key next_message)) (hi_put bye.key next_message)) (hi_put bye.key next_message); above_heard = all_heard }) refl (omega arith) refl,
                          (
                            _,
                            takes (Item 0 bye) [] refl refl refl,
                            (
                              _,
                              delivers bye alices refl (omega arith, omega arith) (omega arith) (record { room = omega arith; log = refl; base = inl refl; accepted = refl }) refl,
                              (
                                _,
                                (_, refl, mails alices (omega arith) (record { room = omega arith; log = refl; base = refl; accepted = refl }) refl),
                                refl,
                              ),
                            ),
                          ),
                        ),
                      ),
                    ),
                  ),
                ),
              ),
            ),
          ),
        ),
      ),
    ),
  ),
  refl,
  refl,
  refl,
  refl,
  refl,
  refl,
  refl,
  refl,
)

-- ---- what three events may lead to

-- Alice's copy is put, taken and delivered.
abbrev three : List Event
three = Put 0 0 hi ∷ Take 0 ∷ Deliver 0 ∷ []

abbrev nothing_there : Box
nothing_there = record { log = []; base = 0; accepted = [] }

-- it stands under 7, with no flag, or nothing stands
abbrev EitherWay : Box → Type 0
EitherWay b = ((b.accepted ≡ (hi, 7) ∷ []) × (b.log ≡ Add 7 ∷ [])) ⊎ ((b.accepted ≡ []) × (b.log ≡ []))

none_stands : (u v : World) → u.box 0 ≡ nothing_there → v.box 0 ≡ u.box 0 → EitherWay (v.box 0)
none_stands u v none same = subst EitherWay (sym (same ∙ none)) (inr (refl, refl))

it_stands : (u : World) (b : Box) → u.box 0 ≡ nothing_there → Logs small (u.box 0) (arrival (next_uid small (u.box 0)) hi.flags) ((hi, next_uid small (u.box 0)) ∷ []) b → EitherWay b
it_stands u b none logs =
    let l = subst (λ (x : Box). Logs small x (arrival (next_uid small x) hi.flags) ((hi, next_uid small x) ∷ []) b) none logs in
    inl (l.accepted, l.log)

-- the hand holds that copy, or nothing
abbrev HasIt : World → Type 0
HasIt u = (u.box 0 ≡ nothing_there) × ((c : Job) → u.hand 0 ≡ Taken c → hi ≡ c)

after_deliver : (u v : World) → HasIt u → DeliverStep small u 0 v → EitherWay (v.box 0)
after_deliver u v has (delivers c b is uid room logs e) = by c b (has.1 c is) logs e
  where
    by : (c : Job) (b : Box) → hi ≡ c → Logs small (u.box c.mailbox) (arrival (next_uid small (u.box c.mailbox)) c.flags) ((c, next_uid small (u.box c.mailbox)) ∷ []) b
        → v ≡ delivered u 0 c.mailbox b (reply_to c (Stored (next_uid small (u.box c.mailbox)))) → EitherWay (v.box 0)
    by c b same logs e =
        (subst (λ (x : Job). Logs small (u.box x.mailbox) (arrival (next_uid small (u.box x.mailbox)) x.flags) ((x, next_uid small (u.box x.mailbox)) ∷ []) b
        → v ≡ delivered u 0 x.mailbox b (reply_to x (Stored (next_uid small (u.box x.mailbox)))) → EitherWay (v.box 0)) same
        (λ l f. rw f (it_stands u b has.0 l))) logs e
after_deliver u v has (deliver_spent c is spent e) = none_stands u v has.0 (ap (λ (w : World). w.box 0) e)
after_deliver u v has (deliver_full c is uid full e) = none_stands u v has.0 (ap (λ (w : World). w.box 0) e)
after_deliver u v has (deliver_no_memory c is uid room e) = none_stands u v has.0 (ap (λ (w : World). w.box 0) e)

-- the lane has that copy alone, or nothing, and the hand is empty
record Waits (u : World) : Type 0 where
  pub box : u.box 0 ≡ nothing_there
  pub hand : u.hand 0 ≡ Empty
  pub front : (e : Entry Job) (others : List (Entry Job)) → (u.lane 0).waiting ≡ e ∷ others → e ≡ Item 0 hi

in_its_hand : (e : Entry Job) (c : Job) → e ≡ Item 0 hi → in_hand e ≡ Taken c → hi ≡ c
in_its_hand (Item p x) c is taken = let one : hi ≡ x = cc in let two : x ≡ c = cc in one ∙ two
in_its_hand (End p) c is taken = cc

after_take : (u v : World) → Waits u → TakeStep u 0 v → HasIt v
after_take u v w (takes e others empty waits is) = rw is (w.box, (λ c taken. in_its_hand e c (w.front e others waits) taken))
after_take u v w (take_empty empty none is) = rw is (w.box, (λ c taken. cc (w.hand)))

front_of : (u : World) (entries : List (Entry Job)) → (u.lane 0).waiting ≡ entries → ((e : Entry Job) (others : List (Entry Job)) → entries ≡ e ∷ others → e ≡ Item 0 hi)
    → (e : Entry Job) (others : List (Entry Job)) → (u.lane 0).waiting ≡ e ∷ others → e ≡ Item 0 hi
front_of u entries is all e others waits = all e others (sym is ∙ waits)

of_none : (e : Entry Job) (others : List (Entry Job)) → [] ≡ e ∷ others → e ≡ Item 0 hi
of_none e others is = cc

of_one : (e : Entry Job) (others : List (Entry Job)) → Item 0 hi ∷ [] ≡ e ∷ others → e ≡ Item 0 hi
of_one e others is = cc

after_put : (u : World) → PutStep small empty_world 0 0 hi u → Waits u
after_put u (put_joins may live room is) = rw is (record { box = refl; hand = refl; front = of_one })
after_put u (put_full may live full is) = rw is (record { box = refl; hand = refl; front = of_none })
after_put u (put_no_memory may live room is) = rw is (record { box = refl; hand = refl; front = of_none })
after_put u (put_shut may ended is) = rw is (record { box = refl; hand = refl; front = of_none })

either_way : (w : World) → IsWorld small three w → EitherWay (w.box 0)
either_way w (u, put, (v, taken, (last, delivered, is))) = subst (λ (x : World). EitherWay (x.box 0)) (sym is) (after_deliver v last (after_take u v (after_put u put) taken) delivered)

at_most_one : (b : Box) → EitherWay b → (length b.accepted ≤ 1) × (length b.log ≤ 1)
at_most_one b (inl (accepted, log)) = (omega (arith, ap length accepted), omega (arith, ap length log))
at_most_one b (inr (accepted, log)) = (omega (arith, ap length accepted), omega (arith, ap length log))

-- Alice finds it twice.
stored_twice : (w : World) → IsWorld small three w → (w.box 0).accepted ≡ (hi, 7) ∷ (hi, 8) ∷ [] → ⊥
stored_twice w came twice = let few = (at_most_one (w.box 0) (either_way w came)).0 in omega (arith, few, ap length twice)

-- She finds it as seen, and nobody has read it.
as_seen : (w : World) → IsWorld small three w → (w.box 0).log ≡ Add 7 ∷ SetFlags 7 (record no_flags { seen = true }) ∷ [] → ⊥
as_seen w came seen = let few = (at_most_one (w.box 0) (either_way w came)).1 in omega (arith, few, ap length seen)
