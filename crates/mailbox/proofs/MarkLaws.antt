-- Which messages have \Deleted, by their UIDs, where flags are set and messages come and go.
use Rattle.std.proofs.Common.{◌≡◌, ◌≢◌, ℕ, zero, suc, ◌<◌, ◌≤◌, Bool, true, false, cond, ◌==◌, List, [], ◌∷◌, length, get_or, filter, Some, refl, sym, ap, subst, ◌∙◌, inl, inr, arith, eq-eqb, ltb, lt-ltb}
use Rattle.std.specs.Prelude.{if◌then◌else◌, nat_lt, insert, remove, Result, Ok, Err, MatchResult}
use Rattle.std.specs.List.{AllByRecursion}
use Rattle.std.specs.List.Sorted.{IsBinarySearchResult, IsPartitionPoint, IsStrictlyIncreasing}
use Rattle.std.proofs.lemmas.Bool.{cases_lt, ltb-true}
use Rattle.std.proofs.lemmas.Bool.Decides.{eqb_tells}
use Rattle.std.proofs.lemmas.List.{length-map}
use Rattle.std.proofs.lemmas.List.Elements.{All-from_recursion}
use Rattle.std.proofs.lemmas.List.Kept.{AllPairs-from_increasing}
use Rattle.std.proofs.lemmas.List.Sorted.{searched}
use Rattle.std.specs.Ordering.{nat_cmp}
use Rattle.std.proofs.lemmas.List.Sums.{length-filter, count_by-le-length}
use Rattle.change_ring.specs.declared.change.Flags.{Flags}
use Rattle.change_ring.specs.Log.{without}
use Rattle.cursor_set.proofs.Positions.{Rises, Rises-from}
use Rattle.mailbox.specs.Counts.{deleted_count}
use Rattle.mailbox.specs.inner.Letters.{reflagged}
use Rattle.mailbox.specs.Mailbox.{Message, message_with, remaining, uids_of}
use Rattle.mailbox.specs.inner.Marks.{marked_of, put_in, remarked}
use Rattle.mailbox.proofs.MessageLaws.{eqb_less}

same_message : {x y : Message} → Some x ≡ Some y → x ≡ y
same_message e = cc

-- ---- how many there are

pub marked_count : (ms : List Message) → length (marked_of ms) ≡ deleted_count ms
marked_count ms = length-map (filter (λ (m : Message). m.flags.deleted) ms) (λ (m : Message). m.uid) ∙ length-filter (λ (m : Message). m.flags.deleted) ms

pub marked_few : (ms : List Message) → length (marked_of ms) ≤ length ms
marked_few ms = omega (arith, marked_count ms, count_by-le-length (λ (m : Message). m.flags.deleted) ms)

pub length_reflagged : (uid : ℕ) (flags : Flags) (ms : List Message) → length (reflagged uid flags ms) ≡ length ms
length_reflagged uid flags [] = refl
length_reflagged uid flags (m ∷ ms) = by_case (m.uid == uid) (length_reflagged uid flags ms)
  where
    by_case : (b : Bool) → length (reflagged uid flags ms) ≡ length ms → length (if b then record m { flags = flags } ∷ ms else m ∷ reflagged uid flags ms) ≡ suc (length ms)
    by_case true h = refl
    by_case false h = ap suc h

pub length_remaining : (test : ℕ → Bool) (ms : List Message) → length (remaining test ms) ≤ length ms
length_remaining test [] = omega arith
length_remaining test (m ∷ ms) = by_case _ (length_remaining test ms)
  where
    by_case : (b : Bool) → length (remaining test ms) ≤ length ms → length (cond b (m ∷ remaining test ms) (remaining test ms)) ≤ suc (length ms)
    by_case true h = omega (arith, h)
    by_case false h = omega (arith, h)

-- a message without \Deleted is there
pub marked_less : (uid : ℕ) (ms : List Message) (x : Message) → message_with uid ms ≡ Some x → x.flags.deleted ≡ false → length (marked_of ms) < length ms
marked_less uid [] x e off = cc
marked_less uid (m ∷ ms) x e off = by_case (m.uid == uid) m.flags.deleted refl e (marked_few ms) (λ f. marked_less uid ms x f off)
  where
    by_case : (b d : Bool) → m.flags.deleted ≡ d → (if b then Some m else message_with uid ms) ≡ Some x → length (marked_of ms) ≤ length ms → (message_with uid ms ≡ Some x → length (marked_of ms) < length ms) →
        length (uids_of (cond d (m ∷ filter (λ (y : Message). y.flags.deleted) ms) (filter (λ (y : Message). y.flags.deleted) ms))) < suc (length ms)
    by_case true true is f few h = let on : x.flags.deleted ≡ true = ap (λ (y : Message). y.flags.deleted) (sym (same_message f)) ∙ is in cc
    by_case true false is f few h = omega (arith, few)
    by_case false true is f few h = omega (arith, h f)
    by_case false false is f few h = omega (arith, few)

-- ---- their UIDs rise

module _ (P : ℕ → Type 0) where
  pub marked_all : (ms : List Message) → AllByRecursion P (uids_of ms) → AllByRecursion P (marked_of ms)
  marked_all [] h = tt
  marked_all (m ∷ ms) h = by_case m.flags.deleted (marked_all ms h.1)
    where
      by_case : (d : Bool) → AllByRecursion P (marked_of ms) →
          AllByRecursion P (uids_of (cond d (m ∷ filter (λ (y : Message). y.flags.deleted) ms) (filter (λ (y : Message). y.flags.deleted) ms)))
      by_case true rest = (h.0, rest)
      by_case false rest = rest

pub marked_rises : (ms : List Message) → Rises (uids_of ms) → Rises (marked_of ms)
marked_rises [] up = tt
marked_rises (m ∷ ms) up = by_case m.flags.deleted (marked_rises ms up.1)
  where
    by_case : (d : Bool) → Rises (marked_of ms) → Rises (uids_of (cond d (m ∷ filter (λ (y : Message). y.flags.deleted) ms) (filter (λ (y : Message). y.flags.deleted) ms)))
    by_case true rest = (marked_all (λ v. m.uid < v) ms up.0, rest)
    by_case false rest = rest

-- ---- flags are set

-- the first message is another one, and the others' marks change as is told
step : (f : List ℕ → List ℕ) (m : Message) (ms ns : List Message) → marked_of ns ≡ f (marked_of ms) → ((us : List ℕ) → f (m.uid ∷ us) ≡ m.uid ∷ f us) → marked_of (m ∷ ns) ≡ f (marked_of (m ∷ ms))
step f m ms ns h over = by_case m.flags.deleted
  where
    by_case : (d : Bool) → uids_of (cond d (m ∷ filter (λ (y : Message). y.flags.deleted) ns) (filter (λ (y : Message). y.flags.deleted) ns))
        ≡ f (uids_of (cond d (m ∷ filter (λ (y : Message). y.flags.deleted) ms) (filter (λ (y : Message). y.flags.deleted) ms)))
    by_case true = ap (λ (us : List ℕ). m.uid ∷ us) h ∙ sym (over (marked_of ms))
    by_case false = h

-- whether the first one has it
pub first_yes : (m : Message) (ms : List Message) → m.flags.deleted ≡ true → marked_of (m ∷ ms) ≡ m.uid ∷ marked_of ms
first_yes m ms e = ap (λ (d : Bool). uids_of (cond d (m ∷ filter (λ (y : Message). y.flags.deleted) ms) (filter (λ (y : Message). y.flags.deleted) ms))) e

pub first_no : (m : Message) (ms : List Message) → m.flags.deleted ≡ false → marked_of (m ∷ ms) ≡ marked_of ms
first_no m ms e = ap (λ (d : Bool). uids_of (cond d (m ∷ filter (λ (y : Message). y.flags.deleted) ms) (filter (λ (y : Message). y.flags.deleted) ms))) e

set_here : (uid : ℕ) (flags : Flags) (m : Message) (ms : List Message) → (m.uid == uid) ≡ true → reflagged uid flags (m ∷ ms) ≡ record m { flags = flags } ∷ ms
set_here uid flags m ms e = ap (λ (b : Bool). if b then record m { flags = flags } ∷ ms else m ∷ reflagged uid flags ms) e

set_there : (uid : ℕ) (flags : Flags) (m : Message) (ms : List Message) → (m.uid == uid) ≡ false → reflagged uid flags (m ∷ ms) ≡ m ∷ reflagged uid flags ms
set_there uid flags m ms e = ap (λ (b : Bool). if b then record m { flags = flags } ∷ ms else m ∷ reflagged uid flags ms) e

found_here : (uid : ℕ) (m : Message) (ms : List Message) (x : Message) → (m.uid == uid) ≡ true → message_with uid (m ∷ ms) ≡ Some x → m ≡ x
found_here uid m ms x e f = same_message (sym (ap (λ (b : Bool). if b then Some m else message_with uid ms) e) ∙ f)

found_there : (uid : ℕ) (m : Message) (ms : List Message) (x : Message) → (m.uid == uid) ≡ false → message_with uid (m ∷ ms) ≡ Some x → message_with uid ms ≡ Some x
found_there uid m ms x e f = sym (ap (λ (b : Bool). if b then Some m else message_with uid ms) e) ∙ f

-- \Deleted stays as it is
pub marked_same : (uid : ℕ) (flags : Flags) (ms : List Message) (x : Message) → message_with uid ms ≡ Some x → flags.deleted ≡ x.flags.deleted → marked_of (reflagged uid flags ms) ≡ marked_of ms
marked_same uid flags [] x f same = refl
marked_same uid flags (m ∷ ms) x f same = elim (eqb_tells m.uid uid) [
  | inl t ↦
      let here : flags.deleted ≡ m.flags.deleted = same ∙ ap (λ (y : Message). y.flags.deleted) (sym (found_here uid m ms x t.0 f)) in
      ap marked_of (set_here uid flags m ms t.0)
      ∙ ap (λ (d : Bool). uids_of (cond d (record m { flags = flags } ∷ filter (λ (y : Message). y.flags.deleted) ms) (filter (λ (y : Message). y.flags.deleted) ms))) here
      ∙ either m.flags.deleted
  | inr t ↦ ap marked_of (set_there uid flags m ms t.0) ∙ step (λ us. us) m ms (reflagged uid flags ms) (marked_same uid flags ms x (found_there uid m ms x t.0 f) same) (λ us. refl)
]
  where
    either : (d : Bool) → uids_of (cond d (record m { flags = flags } ∷ filter (λ (y : Message). y.flags.deleted) ms) (filter (λ (y : Message). y.flags.deleted) ms))
        ≡ uids_of (cond d (m ∷ filter (λ (y : Message). y.flags.deleted) ms) (filter (λ (y : Message). y.flags.deleted) ms))
    either true = refl
    either false = refl

-- the UID stands before all that are above it
put_first : (uid : ℕ) (us : List ℕ) → AllByRecursion (λ v. uid < v) us → put_in uid us ≡ uid ∷ us
put_first uid [] above = refl
put_first uid (u ∷ us) above = ap (λ (b : Bool). if b then u ∷ put_in uid us else uid ∷ u ∷ us) (not_less u uid above.0)
  where
    not_less : (a b : ℕ) → b < a → nat_lt a b ≡ false
    not_less a b l = by_case (nat_lt a b) refl
      where
        by_case : (c : Bool) → nat_lt a b ≡ c → nat_lt a b ≡ false
        by_case true e = absurd (omega (arith, l, ltb-true a b e))
        by_case false e = e

put_later : (uid u : ℕ) (us : List ℕ) → u < uid → put_in uid (u ∷ us) ≡ u ∷ put_in uid us
put_later uid u us l = ap (λ (b : Bool). if b then u ∷ put_in uid us else uid ∷ u ∷ us) (lt-ltb u uid l)

above_there : (P : ℕ → Type 0) (uid : ℕ) (ms : List Message) (x : Message) → AllByRecursion P (uids_of ms) → message_with uid ms ≡ Some x → P uid
above_there P uid [] x h f = cc
above_there P uid (m ∷ ms) x h f = elim (eqb_tells m.uid uid) [
  | inl t ↦ subst P t.1 h.0
  | inr t ↦ above_there P uid ms x h.1 (found_there uid m ms x t.0 f)
]

-- it is set
pub marked_on : (uid : ℕ) (flags : Flags) (ms : List Message) (x : Message) → Rises (uids_of ms) → message_with uid ms ≡ Some x → x.flags.deleted ≡ false → flags.deleted ≡ true →
    marked_of (reflagged uid flags ms) ≡ put_in uid (marked_of ms)
marked_on uid flags [] x up f off on = cc
marked_on uid flags (m ∷ ms) x up f off on = elim (eqb_tells m.uid uid) [
  | inl t ↦
      let here : m.flags.deleted ≡ false = ap (λ (y : Message). y.flags.deleted) (found_here uid m ms x t.0 f) ∙ off in
      ap marked_of (set_here uid flags m ms t.0) ∙ first_yes (record m { flags = flags }) ms on ∙ ap (λ (u : ℕ). u ∷ marked_of ms) t.1
      ∙ sym (put_first uid (marked_of ms) (subst (λ (u : ℕ). AllByRecursion (λ v. u < v) (marked_of ms)) t.1 (marked_all (λ v. m.uid < v) ms up.0)))
      ∙ ap (put_in uid) (sym (first_no m ms here))
  | inr t ↦
      let there = found_there uid m ms x t.0 f in
      let low : m.uid < uid = above_there (λ v. m.uid < v) uid ms x up.0 there in
      ap marked_of (set_there uid flags m ms t.0)
      ∙ step (put_in uid) m ms (reflagged uid flags ms) (marked_on uid flags ms x up.1 there off on) (λ us. put_later uid m.uid us low)
]

-- it is taken away
pub marked_off : (uid : ℕ) (flags : Flags) (ms : List Message) (x : Message) → message_with uid ms ≡ Some x → x.flags.deleted ≡ true → flags.deleted ≡ false →
    marked_of (reflagged uid flags ms) ≡ without uid (marked_of ms)
marked_off uid flags [] x f on off = cc
marked_off uid flags (m ∷ ms) x f on off = elim (eqb_tells m.uid uid) [
  | inl t ↦
      let here : m.flags.deleted ≡ true = ap (λ (y : Message). y.flags.deleted) (found_here uid m ms x t.0 f) ∙ on in
      ap marked_of (set_here uid flags m ms t.0) ∙ first_no (record m { flags = flags }) ms off
      ∙ sym (ap (λ (b : Bool). if b then marked_of ms else m.uid ∷ without uid (marked_of ms)) t.0) ∙ ap (without uid) (sym (first_yes m ms here))
  | inr t ↦
      ap marked_of (set_there uid flags m ms t.0)
      ∙ step (without uid) m ms (reflagged uid flags ms) (marked_off uid flags ms x (found_there uid m ms x t.0 f) on off)
      (λ us. ap (λ (b : Bool). if b then us else m.uid ∷ without uid us) t.0)
]

-- whichever of these
pub marked_set : (uid : ℕ) (flags : Flags) (ms : List Message) (x : Message) → Rises (uids_of ms) → message_with uid ms ≡ Some x → marked_of (reflagged uid flags ms) ≡ remarked uid x.flags.deleted flags.deleted (marked_of ms)
marked_set uid flags ms x up f = by_case x.flags.deleted flags.deleted refl refl
  where
    by_case : (b n : Bool) → x.flags.deleted ≡ b → flags.deleted ≡ n → marked_of (reflagged uid flags ms) ≡ remarked uid b n (marked_of ms)
    by_case false true e g = marked_on uid flags ms x up f e g
    by_case true false e g = marked_off uid flags ms x f e g
    by_case true true e g = marked_same uid flags ms x f (g ∙ sym e)
    by_case false false e g = marked_same uid flags ms x f (g ∙ sym e)

-- ---- a position in a rising list

pub put_at : (uid : ℕ) (us : List ℕ) (index : ℕ) → IsPartitionPoint (λ (u : ℕ). ltb u uid ≡ true) (λ (u : ℕ). ltb u uid ≡ false) us index → index ≤ length us → insert us index uid ≡ put_in uid us
put_at uid [] zero point within = refl
put_at uid [] (suc index) point within = absurd (omega (arith, within))
put_at uid (u ∷ us) zero point within = sym (ap (λ (b : Bool). if b then u ∷ put_in uid us else uid ∷ u ∷ us) (point.1 0 0 (omega arith) (omega arith)))
put_at uid (u ∷ us) (suc index) point within =
    ap (λ (rest : List ℕ). u ∷ rest) (put_at uid us index (λ k d z l. point.0 (suc k) d (omega arith) (omega (arith, l)), λ k d l m. point.1 (suc k) d (omega (arith, l)) (omega (arith, m))) (omega (arith, within)))
    ∙ sym (ap (λ (b : Bool). if b then u ∷ put_in uid us else uid ∷ u ∷ us) (point.0 0 0 (omega arith) (omega arith)))

pub not_falling : (us : List ℕ) → IsStrictlyIncreasing us → (i j d : ℕ) → i ≤ j → j < length us → get_or us i d ≤ get_or us j d
not_falling us up i j d l m = elim (cases_lt i j) [
  | inl before ↦ omega (arith, AllPairs-from_increasing us up i j d before m)
  | inr same ↦ let e : i ≡ j = omega (arith, l, same) in omega (arith, ap (λ (k : ℕ). get_or us k d) e)
]

taken_at : (uid : ℕ) (us : List ℕ) (index : ℕ) → Rises us → index < length us → get_or us index 0 ≡ uid → remove us index ≡ without uid us
taken_at uid [] index up l e = absurd (omega (arith, l))
taken_at uid (u ∷ us) zero up l e = sym (ap (λ (b : Bool). if b then us else u ∷ without uid us) (eq-eqb u uid e))
taken_at uid (u ∷ us) (suc k) up l e =
    let low : u < get_or us k 0 = All-from_recursion (λ v. u < v) us up.0 k 0 (omega (arith, l)) in
    ap (λ (rest : List ℕ). u ∷ rest) (taken_at uid us k up.1 (omega (arith, l)) e)
    ∙ sym (ap (λ (b : Bool). if b then us else u ∷ without uid us) (eqb_less u uid (omega (arith, low, e))))

absent : (uid : ℕ) (us : List ℕ) → ((k : ℕ) → k < length us → get_or us k 0 ≢ uid) → us ≡ without uid us
absent uid [] h = refl
absent uid (u ∷ us) h = elim (eqb_tells u uid) [
  | inl t ↦ absurd (h 0 (omega arith) t.1)
  | inr t ↦ ap (λ (rest : List ℕ). u ∷ rest) (absent uid us (λ k l. h (suc k) (omega (arith, l)))) ∙ sym (ap (λ (b : Bool). if b then us else u ∷ without uid us) t.0)
]

-- what a search by halving tells
pub searched_out : (uid : ℕ) (us : List ℕ) (r : Result ℕ ℕ) → IsStrictlyIncreasing us → IsBinarySearchResult (λ y. nat_cmp y uid) us r →
    MatchResult r (λ index. remove us index ≡ without uid us) (λ index. us ≡ without uid us)
searched_out uid us r up position = by_case r (searched us uid r position (λ i j l m. not_falling us up i j 0 l m))
  where
    by_case : (s : Result ℕ ℕ) → MatchResult s (λ i. (i < length us) × (get_or us i 0 ≡ uid))
        (λ i. (i ≤ length us) × ((k : ℕ) → k < i → get_or us k 0 < uid) × ((k : ℕ) → i ≤ k → k < length us → uid < get_or us k 0)) →
        MatchResult s (λ index. remove us index ≡ without uid us) (λ index. us ≡ without uid us)
    by_case (Ok i) h = taken_at uid us i (Rises-from us up) h.0 h.1
    by_case (Err i) h = absent uid us (λ k l same. elim (cases_lt k i) [
      | inl low ↦ absurd (omega (arith, h.1 k low, same))
      | inr high ↦ absurd (omega (arith, h.2 k high l, same))
    ])
