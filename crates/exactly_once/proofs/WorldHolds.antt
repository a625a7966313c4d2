-- What every world promises, computed of the small one, field by field.
use Rattle.std.proofs.Common.{◌≡◌, ◌≢◌, ℕ, zero, suc, ◌+◌, ◌-◌, ◌%◌, ◌<◌, ◌≤◌, ◌==◌, inl, inr, false, List, [], ◌∷◌, ◌++◌, length, map, refl, sym, ap, ◌∙◌, subst, arith, All, AllPairs, Contains, Option, Some}
use Rattle.std.specs.Prelude.{slice_index}
use Rattle.std.specs.List.{range_with_len}
use Rattle.std.proofs.lemmas.Bool.{false≢true, ne_eqb}
use Rattle.std.proofs.lemmas.Option.{none-some}
use Rattle.change_ring.specs.Log.{IsLegalLog, added}
use Rattle.delivery_token.specs.Keys.{Below}
use Rattle.delivery_token.specs.Copies.{stored_in}
use Rattle.delivery_token.specs.declared.CopyKey.{CopyKey}
use Rattle.delivery_token.specs.declared.Job.{Job}
use Rattle.delivery_token.specs.declared.Refusal.{Refusal}
use Rattle.delivery_token.specs.declared.Verdict.{Verdict}
use Rattle.delivery_token.specs.declared.Verdict.TheVariants.{Stored, Refused}
use Rattle.delivery_token.specs.declared.log.Noted.{Noted}
use Rattle.shard_queue.specs.Lane.{EndsLast, IsClosed, IsMerge, of}
use Rattle.shard_queue.specs.declared.lane.Entry.{Entry}
use Rattle.shard_queue.specs.declared.lane.Entry.TheVariants.{Item}
use Rattle.world.specs.World.{Session, reply_room}
use Rattle.world.specs.Law.{Headline, IsPart, IsShown, StandsOnce, accepted_of, copies, due, held, keeps, keys, none, pairs, skips, stored, taken_copies}
use Rattle.world.proofs.Base.{rising_pair}
use Rattle.exactly_once.specs.rows.Worlds.{alices, alices_lane, bye, by_number, hi, hi_bob, hi_refused, hi_stands, hi_stored, nothing, now, session_is_shown, small, the_session, yo, yo_stored}

-- a number from two on is neither 0 nor 1
pub not_first : (p : ℕ) → (0 == suc (suc p)) ≡ false
not_first p = ne_eqb 0 (suc (suc p)) (λ e. omega (arith, e))

pub not_second : (p : ℕ) → (1 == suc (suc p)) ≡ false
not_second p = ne_eqb 1 (suc (suc p)) (λ e. omega (arith, e))

-- ---- histories

pub none_of_later : (p : ℕ) → accepted_of now (suc (suc p)) 0 ≡ []
none_of_later p = rw (not_first p, not_second p) refl

nothing_held : (p m s : ℕ) → stored_in (suc (suc m)) (held p (now.hand s)) ≡ []
nothing_held zero m zero = rw (not_first m) refl
nothing_held (suc zero) m zero = refl
nothing_held (suc (suc p)) m zero = rw (not_first p) refl
nothing_held p m (suc zero) = refl
nothing_held p m (suc (suc s)) = refl

history : (p m : ℕ) → pairs (accepted_of now p m) ≡ stored now p m ++ due small now p m
history zero zero = refl
history zero (suc zero) = refl
history zero (suc (suc m)) = rw (not_first m, nothing_held 0 m (suc (suc m) % 2)) refl
history (suc zero) zero = refl
history (suc zero) (suc zero) = refl
history (suc zero) (suc (suc m)) = rw (not_first m, nothing_held 1 m (suc (suc m) % 2)) refl
history (suc (suc p)) zero = rw (not_first p, not_second p) refl
history (suc (suc p)) (suc zero) = refl
history (suc (suc p)) (suc (suc m)) = rw (nothing_held (suc (suc p)) m (suc (suc m) % 2)) refl

in_order : (p m : ℕ) → AllPairs Below (keys (accepted_of now p m))
in_order zero zero = rising_pair Below (hi.key ∷ bye.key ∷ []) ((inr (refl, inl (omega arith)), tt), (tt, tt))
in_order (suc zero) zero = rising_pair Below (yo.key ∷ []) (tt, tt)
in_order (suc (suc p)) zero = rw (none_of_later p) (rising_pair Below [] tt)
in_order p (suc zero) = rising_pair Below [] tt
in_order p (suc (suc m)) = rising_pair Below [] tt

pub part_of_any : (xs : List Job) → IsPart [] xs
part_of_any [] = none
part_of_any (x ∷ xs) = skips x (part_of_any xs)

taken : (p m : ℕ) → IsPart (copies (accepted_of now p m)) (taken_copies small now p m)
taken zero zero = keeps hi (keeps bye none)
taken (suc zero) zero = keeps yo none
taken (suc (suc p)) zero = rw (none_of_later p) (part_of_any _)
taken p (suc zero) = part_of_any _
taken p (suc (suc m)) = part_of_any _

-- ---- verdicts

same_uid : (u : ℕ) → ◌≡◌ {A = Verdict} (Stored 7) (Stored u) → 7 ≡ u
same_uid u e = cc

pub not_stored : (f : Refusal) (u : ℕ) → ◌≡◌ {A = Verdict} (Refused f) (Stored u) → ⊥
not_stored f u e = cc

pub not_in_none : (r : Noted) → Contains [] r → ⊥
not_in_none r c = omega (arith, c.1)

pub answered : (p u : ℕ) (r : Noted) → Contains (now.heard p) r → r.verdict ≡ Stored u → StandsOnce (pairs (now.box r.mailbox).accepted) r.key u
answered zero u r (zero, l, is) e = absurd (not_stored _ u (ap (λ (x : Noted). x.verdict) is ∙ e))
answered zero u r (suc zero, l, is) e =
    let uid : 7 ≡ u = same_uid u (ap (λ (x : Noted). x.verdict) is ∙ e) in
    subst (λ (x : Noted). StandsOnce (pairs (now.box x.mailbox).accepted) x.key u) is (subst (StandsOnce (pairs alices.accepted) hi.key) uid hi_stands)
answered zero u r (suc (suc k), l, is) e = absurd (omega (arith, l))
answered (suc zero) u r c e = absurd (not_in_none r c)
answered (suc (suc p)) u r c e = absurd (not_in_none r c)

stands_nowhere : (m : ℕ) → All (λ a. a.0.key ≢ hi_bob.key) (now.box m).accepted
stands_nowhere zero zero d l e = omega (arith, ap (λ (k : CopyKey). k.recipient) e)
stands_nowhere zero (suc zero) d l e = omega (arith, ap (λ (k : CopyKey). k.recipient) e)
stands_nowhere zero (suc (suc zero)) d l e = omega (arith, ap (λ (k : CopyKey). k.recipient) e)
stands_nowhere zero (suc (suc (suc i))) d l e = omega (arith, l)
stands_nowhere (suc zero) i d l e = omega (arith, l)
stands_nowhere (suc (suc m)) i d l e = omega (arith, l)

refused : (p : ℕ) (r : Noted) (f : Refusal) → Contains (now.heard p) r → r.verdict ≡ Refused f → (m : ℕ) → All (λ a. a.0.key ≢ r.key) (now.box m).accepted
refused zero r f (zero, l, is) e m = subst (λ (x : Noted). All (λ (a : Job × ℕ). a.0.key ≢ x.key) (now.box m).accepted) is (stands_nowhere m)
refused zero r f (suc zero, l, is) e m = absurd (not_stored f 7 (sym (ap (λ (x : Noted). x.verdict) is ∙ e)))
refused zero r f (suc (suc k), l, is) e m = absurd (omega (arith, l))
refused (suc zero) r f c e m = absurd (not_in_none r c)
refused (suc (suc p)) r f c e m = absurd (not_in_none r c)

one_verdict : (p : ℕ) → AllPairs (λ a b. a.key ≢ b.key) (now.heard p)
one_verdict zero = rising_pair (λ (a : Noted) (b : Noted). a.key ≢ b.key) (hi_refused ∷ hi_stored ∷ []) (((λ e. omega (arith, ap (λ (k : CopyKey). k.recipient) e)), tt), (tt, tt))
one_verdict (suc zero) = rising_pair (λ (a : Noted) (b : Noted). a.key ≢ b.key) [] tt
one_verdict (suc (suc p)) = rising_pair (λ (a : Noted) (b : Noted). a.key ≢ b.key) [] tt

-- ---- mailboxes

abbrev pub Apart : Job × ℕ → Job × ℕ → Type 0
Apart a b = a.0.key ≢ b.0.key

no_key_twice : (m : ℕ) → AllPairs Apart (now.box m).accepted
no_key_twice zero = rising_pair Apart alices.accepted (
  ((λ e. omega (arith, ap (λ (k : CopyKey). k.seat) e)), ((λ e. omega (arith, ap (λ (k : CopyKey). k.message) e)), tt)),
  (((λ e. omega (arith, ap (λ (k : CopyKey). k.seat) e)), tt), (tt, tt)),
)
no_key_twice (suc zero) = rising_pair Apart [] tt
no_key_twice (suc (suc m)) = rising_pair Apart [] tt

uids : (m : ℕ) → map (λ a. a.1) (now.box m).accepted ≡ range_with_len 7 (length (now.box m).accepted)
uids zero = refl
uids (suc zero) = refl
uids (suc (suc m)) = refl

given : (m : ℕ) → added (now.box m).log ≡ map (λ a. a.1) (now.box m).accepted
given zero = refl
given (suc zero) = refl
given (suc (suc m)) = refl

rises : (k : ℕ) → k + 1 < 3 → slice_index (7 ∷ 8 ∷ 9 ∷ []) k < slice_index (7 ∷ 8 ∷ 9 ∷ []) (k + 1)
rises zero l = omega arith
rises (suc zero) l = omega arith
rises (suc (suc k)) l = absurd (omega (arith, l))

logs : (m : ℕ) → IsLegalLog (now.box m).log
logs zero = record { rising = rises; there = (tt, (tt, (tt, tt))) }
logs (suc zero) = record { rising = λ k l. absurd (omega (arith, l)); there = tt }
logs (suc (suc m)) = record { rising = λ k l. absurd (omega (arith, l)); there = tt }

windows : (m : ℕ) → (now.box m).base ≤ length (now.box m).log
windows zero = omega arith
windows (suc zero) = omega arith
windows (suc (suc m)) = omega arith

held_back : (m : ℕ) → 0 < (now.box m).base → 16 ≤ length (now.box m).log - (now.box m).base
held_back zero l = absurd (omega (arith, l))
held_back (suc zero) l = absurd (omega (arith, l))
held_back (suc (suc m)) l = absurd (omega (arith, l))

-- ---- lanes

-- a lane into which the first two producers put these, and of which every entry is one of them
pub merge_of : {A : Type 0} (producers room : ℕ) (first second got waiting : List (Entry A)) → 2 ≤ producers → of 0 (got ++ waiting) ≡ first → of 1 (got ++ waiting) ≡ second
    → ((p : ℕ) → of (suc (suc p)) (got ++ waiting) ≡ []) → EndsLast first → EndsLast second → length waiting ≤ room
    → IsMerge producers room (record { sent = by_number first second []; got = got; waiting = waiting })
merge_of {A = A} producers room first second got waiting two is_first is_second no_later first_legal second_legal few = record { each = each; known = known; within = few; legal = legal }
  where
    each : (p : ℕ) → of p (got ++ waiting) ≡ by_number first second [] p
    each zero = is_first
    each (suc zero) = is_second
    each (suc (suc p)) = no_later p

    known : (p : ℕ) → producers ≤ p → by_number first second [] p ≡ []
    known zero l = absurd (omega (arith, two, l))
    known (suc zero) l = absurd (omega (arith, two, l))
    known (suc (suc p)) l = refl

    legal : (p : ℕ) → EndsLast (by_number first second [] p)
    legal zero = first_legal
    legal (suc zero) = second_legal
    legal (suc (suc p)) = tt

pub quiet : {A : Type 0} (producers room : ℕ) → 2 ≤ producers → IsMerge {A = A} producers room nothing
quiet producers room two = merge_of producers room [] [] [] [] two refl refl (λ p. refl) tt tt (omega arith)

pub alices_merge : IsMerge 3 4 alices_lane
alices_merge = merge_of 3 4 (Item 0 hi ∷ Item 0 bye ∷ []) (Item 1 yo ∷ []) alices_lane.got [] (omega arith) refl refl (λ p. rw (not_first p, not_second p) refl) tt tt (omega arith)

lanes : (s : ℕ) → IsMerge 3 4 (now.lane s)
lanes zero = alices_merge
lanes (suc zero) = quiet 3 4 (omega arith)
lanes (suc (suc s)) = quiet 3 4 (omega arith)

reply_lanes : (p : ℕ) → IsMerge 2 reply_room (now.replies p)
reply_lanes zero = merge_of 2 reply_room (Item 0 hi_stored ∷ []) [] (Item 0 hi_stored ∷ []) [] (omega arith) refl refl (λ p. rw (not_first p) refl) tt tt (omega arith)
reply_lanes (suc zero) = merge_of 2 reply_room (Item 0 yo_stored ∷ []) [] [] (Item 0 yo_stored ∷ []) (omega arith) refl refl (λ p. rw (not_first p) refl) tt tt (omega arith)
reply_lanes (suc (suc p)) = quiet 2 reply_room (omega arith)

-- no seat has ended anywhere, so no lane is closed
open_still : (s : ℕ) → IsClosed 3 (now.lane s) → ⊥
open_still zero c = false≢true (c 0 (omega arith))
open_still (suc zero) c = false≢true (c 0 (omega arith))
open_still (suc (suc s)) c = false≢true (c 0 (omega arith))

-- ---- the session

pub the_one : (s : Session) → ◌≡◌ {A = Option Session} (Some the_session) (Some s) → the_session ≡ s
the_one s e = cc

shown : (n : ℕ) (s : Session) → now.session n ≡ Some s → IsShown (now.box s.mailbox).log s
shown zero s e = subst (λ (x : Session). IsShown (now.box x.mailbox).log x) (the_one s e) session_is_shown
shown (suc zero) s e = absurd (none-some s e)
shown (suc (suc n)) s e = absurd (none-some s e)

pub headline : Headline small now
headline = record {
  history = history;
  answered = answered;
  refused = refused;
  one_verdict = one_verdict;
  in_order = in_order;
  taken = taken;
  no_key_twice = no_key_twice;
  uids = uids;
  given = given;
  logs = logs;
  windows = windows;
  held_back = held_back;
  lanes = lanes;
  reply_lanes = reply_lanes;
  closed = λ s c. absurd (open_still s c);
  shown = shown;
}
