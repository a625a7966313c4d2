-- What the promise of a world alone lets pass, and the events don't: the small world with one thing wrong, for which each of its statements holds, and to which
-- no events lead. `ExactlyOnce` says both (`world` and `came`).
use Rattle.std.proofs.Common.{◌≡◌, ◌≢◌, ℕ, zero, suc, ◌-◌, ◌%◌, ◌<◌, ◌≤◌, List, [], ◌∷◌, ◌++◌, length, map, refl, sym, ap, ◌∙◌, subst, arith, All, AllPairs, Contains, Some}
use Rattle.std.specs.List.{range_with_len}
use Rattle.std.proofs.lemmas.Bool.{false≢true}
use Rattle.std.proofs.lemmas.Option.{none-some}
use Rattle.change_ring.specs.Log.{IsLegalLog, added}
use Rattle.change_ring.specs.declared.change.Change.TheVariants.{Add}
use Rattle.delivery_token.specs.Keys.{Below}
use Rattle.delivery_token.specs.Copies.{stored_in}
use Rattle.delivery_token.specs.declared.CopyKey.{CopyKey}
use Rattle.delivery_token.specs.declared.Job.{Job}
use Rattle.delivery_token.specs.declared.Refusal.{Refusal}
use Rattle.delivery_token.specs.declared.Verdict.TheVariants.{Refused, Stored}
use Rattle.delivery_token.specs.declared.log.Noted.{Noted}
use Rattle.shard_queue.specs.Lane.{IsClosed, IsMerge, Lane}
use Rattle.shard_queue.specs.declared.lane.Entry.TheVariants.{Item}
use Rattle.world.specs.declared.hand.Hand.TheVariants.{Done, Empty}
use Rattle.world.specs.World.{Box, Event, IsWorld, Session, World}
use Rattle.world.specs.Law.{Headline, IsPart, IsShown, StandsOnce, accepted_of, copies, due, held, keeps, keys, none, pairs, stored, taken_copies}
use Rattle.world.proofs.Always.{kept_always}
use Rattle.world.proofs.Base.{rising_pair}
use Rattle.world.proofs.Verdicts.{verdicts_always}
use Rattle.exactly_once.specs.rows.Worlds.{alices, alices_lane, bobs, by_number, bye, bye_stored, hi, hi_bob, hi_stored, nothing, now, session_is_shown, small, yo}
use Rattle.exactly_once.proofs.WorldHolds.{Apart, alices_merge, headline, merge_of, none_of_later, not_first, not_in_none, not_second, not_stored, part_of_any, quiet, the_one}

-- ---- a copy that another connection put

-- The second connection puts the copy that has the first one's key: Alice finds a message of the first that it never sent.
abbrev forged_lane : Lane Job
forged_lane = record { sent = by_number (Item 0 bye ∷ []) (Item 1 hi ∷ Item 1 yo ∷ []) []; got = Item 1 hi ∷ Item 1 yo ∷ Item 0 bye ∷ []; waiting = [] }

abbrev forged : World
forged = record now { lane = by_number forged_lane nothing nothing }

forged_lanes : (s : ℕ) → IsMerge 3 4 (forged.lane s)
forged_lanes zero = merge_of 3 4 (Item 0 bye ∷ []) (Item 1 hi ∷ Item 1 yo ∷ []) forged_lane.got [] (omega arith) refl refl (λ p. rw (not_first p, not_second p) refl) tt tt (omega arith)
forged_lanes (suc zero) = quiet 3 4 (omega arith)
forged_lanes (suc (suc s)) = quiet 3 4 (omega arith)

forged_taken : (p m : ℕ) → IsPart (copies (accepted_of forged p m)) (taken_copies small forged p m)
forged_taken zero zero = keeps hi (keeps bye none)
forged_taken (suc zero) zero = keeps yo none
forged_taken (suc (suc p)) zero = rw (none_of_later p) (part_of_any _)
forged_taken p (suc zero) = part_of_any _
forged_taken p (suc (suc m)) = part_of_any _

forged_open : (s : ℕ) → IsClosed 3 (forged.lane s) → ⊥
forged_open zero c = false≢true (c 0 (omega arith))
forged_open (suc zero) c = false≢true (c 0 (omega arith))
forged_open (suc (suc s)) c = false≢true (c 0 (omega arith))

forged_passes : Headline small forged
forged_passes = record {
  history = headline.history;
  answered = headline.answered;
  refused = headline.refused;
  one_verdict = headline.one_verdict;
  in_order = headline.in_order;
  taken = forged_taken;
  no_key_twice = headline.no_key_twice;
  uids = headline.uids;
  given = headline.given;
  logs = headline.logs;
  windows = headline.windows;
  held_back = headline.held_back;
  lanes = forged_lanes;
  reply_lanes = headline.reply_lanes;
  closed = λ s c. absurd (forged_open s c);
  shown = headline.shown;
}

forged_by_no_events : (events : List Event) → IsWorld small events forged → ⊥
forged_by_no_events events came = let own : 0 ≡ 1 = ((kept_always small events forged came).own 0).0.0 in omega (arith, own)

-- ---- a copy in two mailboxes

-- Bob finds Alice's message too: a second copy with its key went through his lane, and the verdict on that is in the hand of his shard. As soon as the first
-- connection hears it, it has two verdicts on one copy, and no statement of the promise lets that pass.
abbrev again : Job
again = record hi { mailbox = 1 }

abbrev again_stored : Noted
again_stored = record { key = hi.key; mailbox = 1; verdict = Stored 7 }

abbrev bobs_lane : Lane Job
bobs_lane = record { sent = by_number (Item 0 again ∷ []) [] []; got = Item 0 again ∷ []; waiting = [] }

abbrev bobs_too : Box
bobs_too = record { log = Add 7 ∷ []; base = 0; accepted = (again, 7) ∷ [] }

abbrev in_two : World
in_two = record now { lane = by_number alices_lane bobs_lane nothing; hand = by_number (Done bye_stored) (Done again_stored) Empty; box = by_number alices bobs_too bobs }

two_held : (p m s : ℕ) → stored_in (suc (suc m)) (held p (in_two.hand s)) ≡ []
two_held zero m zero = rw (not_first m) refl
two_held (suc zero) m zero = refl
two_held (suc (suc p)) m zero = rw (not_first p) refl
two_held zero m (suc zero) = rw (not_second m) refl
two_held (suc zero) m (suc zero) = refl
two_held (suc (suc p)) m (suc zero) = rw (not_first p) refl
two_held p m (suc (suc s)) = refl

two_history : (p m : ℕ) → pairs (accepted_of in_two p m) ≡ stored in_two p m ++ due small in_two p m
two_history zero zero = refl
two_history zero (suc zero) = refl
two_history zero (suc (suc m)) = rw (not_first m, two_held 0 m (suc (suc m) % 2)) refl
two_history (suc zero) zero = refl
two_history (suc zero) (suc zero) = refl
two_history (suc zero) (suc (suc m)) = rw (not_first m, two_held 1 m (suc (suc m) % 2)) refl
two_history (suc (suc p)) zero = rw (not_first p, not_second p) refl
two_history (suc (suc p)) (suc zero) = rw (not_first p) refl
two_history (suc (suc p)) (suc (suc m)) = rw (two_held (suc (suc p)) m (suc (suc m) % 2)) refl

two_later : (p : ℕ) → accepted_of in_two (suc (suc p)) 1 ≡ []
two_later p = rw (not_first p) refl

two_in_order : (p m : ℕ) → AllPairs Below (keys (accepted_of in_two p m))
two_in_order p zero = headline.in_order p 0
two_in_order zero (suc zero) = rising_pair Below (hi.key ∷ []) (tt, tt)
two_in_order (suc zero) (suc zero) = rising_pair Below [] tt
two_in_order (suc (suc p)) (suc zero) = rw (two_later p) (rising_pair Below [] tt)
two_in_order p (suc (suc m)) = rising_pair Below [] tt

two_taken : (p m : ℕ) → IsPart (copies (accepted_of in_two p m)) (taken_copies small in_two p m)
two_taken p zero = headline.taken p 0
two_taken zero (suc zero) = keeps again none
two_taken (suc zero) (suc zero) = part_of_any _
two_taken (suc (suc p)) (suc zero) = rw (two_later p) (part_of_any _)
two_taken p (suc (suc m)) = part_of_any _

-- each verdict that was heard is of Alice's mailbox or a refusal, so the small world's own statements serve
two_answered : (p u : ℕ) (r : Noted) → Contains (in_two.heard p) r → r.verdict ≡ Stored u → StandsOnce (pairs (in_two.box r.mailbox).accepted) r.key u
two_answered zero u r (zero, l, is) e = absurd (not_stored _ u (ap (λ (x : Noted). x.verdict) is ∙ e))
two_answered zero u r (suc zero, l, is) e =
    let its : StandsOnce (pairs alices.accepted) hi.key u = headline.answered 0 u hi_stored (1, omega arith, refl) (ap (λ (x : Noted). x.verdict) is ∙ e) in
    subst (λ (x : Noted). StandsOnce (pairs (in_two.box x.mailbox).accepted) x.key u) is its
two_answered zero u r (suc (suc k), l, is) e = absurd (omega (arith, l))
two_answered (suc zero) u r c e = absurd (not_in_none r c)
two_answered (suc (suc p)) u r c e = absurd (not_in_none r c)

two_refused : (p : ℕ) (r : Noted) (f : Refusal) → Contains (in_two.heard p) r → r.verdict ≡ Refused f → (m : ℕ) → All (λ a. a.0.key ≢ r.key) (in_two.box m).accepted
two_refused p r f c e zero = headline.refused p r f c e 0
two_refused zero r f (zero, l, is) e (suc zero) = subst (λ (x : Noted). All (λ (a : Job × ℕ). a.0.key ≢ x.key) bobs_too.accepted) is other
  where
    other : All (λ (a : Job × ℕ). a.0.key ≢ hi_bob.key) bobs_too.accepted
    other zero d k f = omega (arith, ap (λ (x : CopyKey). x.recipient) f)
    other (suc i) d k f = omega (arith, k)
two_refused zero r f (suc zero, l, is) e (suc zero) = absurd (not_stored f 7 (sym (ap (λ (x : Noted). x.verdict) is ∙ e)))
two_refused zero r f (suc (suc k), l, is) e (suc zero) = absurd (omega (arith, l))
two_refused (suc zero) r f c e (suc zero) = absurd (not_in_none r c)
two_refused (suc (suc p)) r f c e (suc zero) = absurd (not_in_none r c)
two_refused p r f c e (suc (suc m)) = headline.refused p r f c e (suc (suc m))

two_no_key : (m : ℕ) → AllPairs Apart (in_two.box m).accepted
two_no_key zero = headline.no_key_twice 0
two_no_key (suc zero) = rising_pair Apart bobs_too.accepted (tt, tt)
two_no_key (suc (suc m)) = rising_pair Apart [] tt

two_uids : (m : ℕ) → map (λ a. a.1) (in_two.box m).accepted ≡ range_with_len 7 (length (in_two.box m).accepted)
two_uids zero = refl
two_uids (suc zero) = refl
two_uids (suc (suc m)) = refl

two_given : (m : ℕ) → added (in_two.box m).log ≡ map (λ a. a.1) (in_two.box m).accepted
two_given zero = refl
two_given (suc zero) = refl
two_given (suc (suc m)) = refl

two_logs : (m : ℕ) → IsLegalLog (in_two.box m).log
two_logs zero = headline.logs 0
two_logs (suc zero) = record { rising = λ k l. absurd (omega (arith, l)); there = (tt, tt) }
two_logs (suc (suc m)) = headline.logs 2

two_windows : (m : ℕ) → (in_two.box m).base ≤ length (in_two.box m).log
two_windows zero = omega arith
two_windows (suc zero) = omega arith
two_windows (suc (suc m)) = omega arith

two_held_back : (m : ℕ) → 0 < (in_two.box m).base → 16 ≤ length (in_two.box m).log - (in_two.box m).base
two_held_back zero l = absurd (omega (arith, l))
two_held_back (suc zero) l = absurd (omega (arith, l))
two_held_back (suc (suc m)) l = absurd (omega (arith, l))

two_lanes : (s : ℕ) → IsMerge 3 4 (in_two.lane s)
two_lanes zero = alices_merge
two_lanes (suc zero) = merge_of 3 4 (Item 0 again ∷ []) [] bobs_lane.got [] (omega arith) refl refl (λ p. rw (not_first p) refl) tt tt (omega arith)
two_lanes (suc (suc s)) = quiet 3 4 (omega arith)

two_open : (s : ℕ) → IsClosed 3 (in_two.lane s) → ⊥
two_open zero c = false≢true (c 0 (omega arith))
two_open (suc zero) c = false≢true (c 0 (omega arith))
two_open (suc (suc s)) c = false≢true (c 0 (omega arith))

two_shown : (n : ℕ) (s : Session) → in_two.session n ≡ Some s → IsShown (in_two.box s.mailbox).log s
two_shown zero s e = subst (λ (x : Session). IsShown (in_two.box x.mailbox).log x) (the_one s e) session_is_shown
two_shown (suc zero) s e = absurd (none-some s e)
two_shown (suc (suc n)) s e = absurd (none-some s e)

in_two_passes : Headline small in_two
in_two_passes = record {
  history = two_history;
  answered = two_answered;
  refused = two_refused;
  one_verdict = headline.one_verdict;
  in_order = two_in_order;
  taken = two_taken;
  no_key_twice = two_no_key;
  uids = two_uids;
  given = two_given;
  logs = two_logs;
  windows = two_windows;
  held_back = two_held_back;
  lanes = two_lanes;
  reply_lanes = headline.reply_lanes;
  closed = λ s c. absurd (two_open s c);
  shown = two_shown;
}

in_two_by_no_events : (events : List Event) → IsWorld small events in_two → ⊥
in_two_by_no_events events came =
    let few : 2 ≤ 1 = ((verdicts_always small events in_two came).alone 0 hi.key refl).once 1 in
    omega (arith, few)
