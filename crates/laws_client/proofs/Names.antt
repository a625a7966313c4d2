-- A UID names one copy for good.
use Rattle.std.proofs.Common.{◌≡◌, ℕ, zero, suc, ◌+◌, ◌<◌, ◌≤◌, ◌⊎◌, inl, inr, Bool, true, false, ◌==◌, List, [], ◌∷◌, ◌++◌, map, length, take, drop, Contains, refl, sym, subst, ap, ap₂, ◌∙◌, arith, length-append, append-nil, append_assoc}
use Rattle.std.specs.Prelude.{if◌then◌else◌}
use Rattle.std.specs.List.{range_with_len}
use Rattle.std.proofs.lemmas.Bool.{eq-eqb, eqb-true, false≢true}
use Rattle.std.proofs.lemmas.List.{take-append-drop}
use Rattle.delivery_token.specs.declared.Job.{Job}
use Rattle.change_ring.specs.declared.change.Change.{Change}
use Rattle.change_ring.specs.declared.change.Change.TheVariants.{Add, Gone, Flags as SetFlags}
use Rattle.change_ring.specs.Log.{added, replay, view_at, without}
use Rattle.change_ring.proofs.LogLaws.{added-append, replay-append, uids-rows_after}
use Rattle.delivery_core.specs.Clients.{text_with}
use Rattle.world.specs.World.{Config, World, Box, Event, Steps, next_uid}
use Rattle.world.proofs.Kept.{Kept, BoxOk}
use Rattle.world.proofs.Always.{kept_always, kept_steps}
use Rattle.world.proofs.Mails.{IsIn, is_in_contains}
use Rattle.laws_client.specs.Views.{NamesTheSame, messages_of, view_in}
use Rattle.laws_client.specs.RecordLaws.{CountedAreGiven, GoneStayGone, UidsStay}
use Rattle.laws_client.proofs.Boxes.{Goes, unmoved, logged, arrived, box_goes}

-- ---- lists

pub is_in : {A : Type 0} (x : A) (xs : List A) → Contains xs x → IsIn x xs
is_in x [] (i, l, e) = absurd (omega arith)
is_in x (y ∷ ys) (zero, l, e) = inl (sym e)
is_in x (y ∷ ys) (suc i, l, e) = inr (is_in x ys (i, omega arith, e))

in_either : {A : Type 0} (x : A) (xs ys : List A) → IsIn x (xs ++ ys) → IsIn x xs ⊎ IsIn x ys
in_either x [] ys h = inr h
in_either x (y ∷ xs) ys (inl same) = inl (inl same)
in_either x (y ∷ xs) ys (inr more) = by (in_either x xs ys more)
  where
    by : IsIn x xs ⊎ IsIn x ys → IsIn x (y ∷ xs) ⊎ IsIn x ys
    by (inl front) = inl (inr front)
    by (inr behind) = inr behind

pub in_front : {A : Type 0} (x : A) (xs ys : List A) → IsIn x xs → IsIn x (xs ++ ys)
in_front x [] ys h = absurd h
in_front x (y ∷ xs) ys (inl same) = inl same
in_front x (y ∷ xs) ys (inr more) = inr (in_front x xs ys more)

in_without : (x uid : ℕ) (xs : List ℕ) → IsIn x (without uid xs) → IsIn x xs
in_without x uid [] h = h
in_without x uid (y ∷ ys) h = by (y == uid) h (in_without x uid ys)
  where
    by : (b : Bool) → IsIn x (if b then ys else y ∷ without uid ys) → (IsIn x (without uid ys) → IsIn x ys) → IsIn x (y ∷ ys)
    by true there more = inr there
    by false (inl same) more = inl same
    by false (inr there) more = inr (more there)

-- what is counted was counted before, or was added since
in_replay : (x : ℕ) (view : List ℕ) (cs : List Change) → IsIn x (replay view cs) → IsIn x view ⊎ IsIn x (added cs)
in_replay x view [] h = inl h
in_replay x view (Add uid ∷ cs) h = by (in_replay x (view ++ uid ∷ []) cs h)
  where
    first : IsIn x view ⊎ IsIn x (uid ∷ []) → IsIn x view ⊎ IsIn x (uid ∷ added cs)
    first (inl there) = inl there
    first (inr (inl same)) = inr (inl same)
    first (inr (inr none)) = absurd none

    by : IsIn x (view ++ uid ∷ []) ⊎ IsIn x (added cs) → IsIn x view ⊎ IsIn x (uid ∷ added cs)
    by (inl there) = first (in_either x view (uid ∷ []) there)
    by (inr later) = inr (inr later)
in_replay x view (Gone uid ∷ cs) h = by (in_replay x (without uid view) cs h)
  where
    by : IsIn x (without uid view) ⊎ IsIn x (added cs) → IsIn x view ⊎ IsIn x (added cs)
    by (inl there) = inl (in_without x uid view there)
    by (inr later) = inr later
in_replay x view (SetFlags uid flags ∷ cs) h = in_replay x view cs h

pub in_range : (x a n : ℕ) → IsIn x (range_with_len a n) → (a ≤ x) × (x < a + n)
in_range x a zero h = absurd h
in_range x a (suc n) (inl same) = (omega (arith, same), omega (arith, same))
in_range x a (suc n) (inr more) = let r = in_range x (a + 1) n more in (omega (arith, r.0), omega (arith, r.1))

range_parts : (a m n : ℕ) → range_with_len a (m + n) ≡ range_with_len a m ++ range_with_len (a + m) n
range_parts a zero n = ap₂ range_with_len none few
  where
    none : a ≡ a + 0
    none = omega arith

    few : 0 + n ≡ n
    few = omega arith
range_parts a (suc m) n = let more : suc m + n ≡ suc (m + n) = omega arith in let next : a + 1 + m ≡ a + suc m = omega arith in ap (range_with_len a) more ∙ ap (λ xs. a ∷ xs) (range_parts (a + 1) m n ∙ ap (λ b. range_with_len (a + 1) m ++ range_with_len b n) next)

-- ---- a history grows

pub record Extends (old new : Box) : Type 0 where
  pub changes : List Change
  pub log : new.log ≡ old.log ++ changes
  pub copies : List (Job × ℕ)
  pub accepted : new.accepted ≡ old.accepted ++ copies

pub extends_none : (old : Box) → Extends old old
extends_none old = record { changes = []; log = sym (append-nil old.log); copies = []; accepted = sym (append-nil old.accepted) }

pub goes_extends : (k : Config) (old new : Box) → Goes k old new → Extends old new
goes_extends k old new (unmoved e) = rw e (extends_none old)
goes_extends k old new (logged changes L) = record { changes = changes; log = L.log; copies = []; accepted = L.accepted }
goes_extends k old new (arrived changes c room L) = record { changes = changes; log = L.log; copies = (c, next_uid k old) ∷ []; accepted = L.accepted }

extends_then : (a b c : Box) → Extends a b → Extends b c → Extends a c
extends_then a b c x y = record {
  changes = x.changes ++ y.changes;
  log = y.log ∙ ap (λ log. log ++ y.changes) x.log ∙ append_assoc a.log x.changes y.changes;
  copies = x.copies ++ y.copies;
  accepted = y.accepted ∙ ap (λ xs. xs ++ y.copies) x.accepted ∙ append_assoc a.accepted x.copies y.copies;
}

pub steps_extend : (k : Config) (w : World) (es : List Event) (v : World) (m : ℕ) → Steps k w es v → Extends (w.box m) (v.box m)
steps_extend k w [] v m e = rw e (extends_none (w.box m))
steps_extend k w (x ∷ es) v m (u, one, others) = extends_then (w.box m) (u.box m) (v.box m) (goes_extends k (w.box m) (u.box m) (box_goes k w x u m one)) (steps_extend k u es v m others)

-- ---- UIDs and copies

abbrev pub numbers : List (Job × ℕ) → List ℕ
numbers accepted = map (λ a. a.1) accepted

copy_named : (u : ℕ) (xs : List (Job × ℕ)) → IsIn u (numbers xs) → (c : Job) × IsIn (c, u) xs
copy_named u [] h = absurd h
copy_named u (x ∷ xs) (inl same) = (x.0, inl (ap (λ n. (x.0, n)) same))
copy_named u (x ∷ xs) (inr more) = let c = copy_named u xs more in (c.0, inr c.1)

number_in : (c : Job) (u : ℕ) (xs : List (Job × ℕ)) → IsIn (c, u) xs → IsIn u (numbers xs)
number_in c u [] h = absurd h
number_in c u (x ∷ xs) (inl same) = inl (ap (λ (p : Job × ℕ). p.1) same)
number_in c u (x ∷ xs) (inr more) = inr (number_in c u xs more)

abbrev the_first : List ℕ → ℕ
the_first [] = 0
the_first (x ∷ xs) = x

abbrev the_rest : List ℕ → List ℕ
the_rest [] = []
the_rest (x ∷ xs) = xs

-- UIDs that rise by one each name one copy
pub one_copy : (a : ℕ) (xs : List (Job × ℕ)) → numbers xs ≡ range_with_len a (length xs) → (c d : Job) (u : ℕ) → IsIn (c, u) xs → IsIn (d, u) xs → d ≡ c
one_copy a [] e c d u h i = absurd h
one_copy a (x ∷ xs) e c d u h i = by (λ s t. one_copy (a + 1) xs (ap the_rest e) c d u s t) h i
  where
    head : x.1 ≡ a
    head = ap the_first e

    behind : (b : Job) → IsIn (b, u) xs → a < u
    behind b t =
        let r = in_range u (a + 1) (length xs) (subst (IsIn u) (ap the_rest e) (number_in b u xs t)) in
        omega (arith, r.0)

    here : (b : Job) → (b, u) ≡ x → u ≡ a
    here b s = ap (λ (p : Job × ℕ). p.1) s ∙ head

    by : (IsIn (c, u) xs → IsIn (d, u) xs → d ≡ c) → IsIn (c, u) (x ∷ xs) → IsIn (d, u) (x ∷ xs) → d ≡ c
    by more (inl s) (inl t) = ap (λ (p : Job × ℕ). p.0) (t ∙ sym s)
    by more (inl s) (inr t) = absurd (omega (arith, here c s, behind d t))
    by more (inr s) (inl t) = absurd (omega (arith, here d t, behind c s))
    by more (inr s) (inr t) = more s t

-- the text that is told of a UID is that of a copy under it
told_text : (u : ℕ) (xs : List (Job × ℕ)) → IsIn u (numbers xs) → (c : Job) × IsIn (c, u) xs × (text_with u xs ≡ c.text)
told_text u [] h = absurd h
told_text u (x ∷ xs) h = by (x.1 == u) refl h (λ t. told_text u xs t)
  where
    by : (b : Bool) → (x.1 == u) ≡ b → IsIn u (x.1 ∷ numbers xs) → (IsIn u (numbers xs) → (c : Job) × IsIn (c, u) xs × (text_with u xs ≡ c.text))
        → (c : Job) × IsIn (c, u) (x ∷ xs) × ((if b then x.0.text else text_with u xs) ≡ c.text)
    by true e there more = (x.0, inl (ap (λ n. (x.0, n)) (sym (eqb-true x.1 u e))), refl)
    by false e (inl s) more = absurd (false≢true (sym e ∙ eq-eqb x.1 u (sym s)))
    by false e (inr there) more = let m = more there in (m.0, inr m.1, m.2)

-- what a log added is the numbers of its history
given : (k : Config) (b : Box) → BoxOk k b → (u : ℕ) → IsIn u (added b.log) → u < next_uid k b
given k b B u h = (in_range u k.first_uid (length b.accepted) (subst (IsIn u) B.counted h)).1

-- all UIDs that are counted at any position of a log were added
counted_added : (log : List Change) (c u : ℕ) → IsIn u (view_at log c) → IsIn u (added log)
counted_added log c u h = subst (IsIn u) (sym parts) (in_front u (added (take c log)) (added (drop c log)) (by (in_replay u [] (take c log) h)))
  where
    parts : added log ≡ added (take c log) ++ added (drop c log)
    parts = ap added (sym (take-append-drop c log)) ∙ added-append (take c log) (drop c log)

    by : IsIn u [] ⊎ IsIn u (added (take c log)) → IsIn u (added (take c log))
    by (inl none) = absurd none
    by (inr there) = there

pub counted_are_given : CountedAreGiven
counted_are_given k events w n uid s is at counts =
    given k (w.box s.mailbox) ((kept_always k events w is).boxes s.mailbox) uid
    (counted_added (w.box s.mailbox).log s.cursor uid (is_in uid (view_at (w.box s.mailbox).log s.cursor) (subst (λ view. Contains view uid) (ap (view_in w) at) counts)))

-- what was added later has a greater number
later_greater : (k : Config) (old new : Box) → BoxOk k old → BoxOk k new → (x : Extends old new) → (u : ℕ) → IsIn u (added x.changes) → next_uid k old ≤ u
later_greater k old new A B x u h =
    let parts : added old.log ++ added x.changes ≡ range_with_len k.first_uid (length old.accepted) ++ range_with_len (k.first_uid + length old.accepted) (length x.copies) =
    sym (added-append old.log x.changes) ∙ ap added (sym x.log) ∙ B.counted ∙ ap (range_with_len k.first_uid) (ap length x.accepted ∙ length-append old.accepted x.copies)
    ∙ range_parts k.first_uid (length old.accepted) (length x.copies) in
    let more : added x.changes ≡ range_with_len (k.first_uid + length old.accepted) (length x.copies) =
    append_cancel_left (range_with_len k.first_uid (length old.accepted)) (added x.changes) (range_with_len (k.first_uid + length old.accepted) (length x.copies)) (ap (λ xs. xs ++ added x.changes) (sym A.counted) ∙ parts) in
    (in_range u (k.first_uid + length old.accepted) (length x.copies) (subst (IsIn u) more h)).0
  where
    append_cancel_left : (xs ys zs : List ℕ) → xs ++ ys ≡ xs ++ zs → ys ≡ zs
    append_cancel_left [] ys zs e = e
    append_cancel_left (a ∷ xs) ys zs e = append_cancel_left xs ys zs (ap the_rest e)

rows_counted : (b : Box) → messages_of b ≡ replay [] b.log
rows_counted b = uids-rows_after [] b.log

-- under a UID that was given
names_the_same : (k : Config) (w v : World) (m uid : ℕ) → Kept k w → Kept k v → (x : Extends (w.box m) (v.box m)) → IsIn uid (added (w.box m).log) → NamesTheSame uid (w.box m) (v.box m)
names_the_same k w v m uid K L x was = record {
  copy = copy.0;
  was = is_in_contains (copy.0, uid) (w.box m).accepted copy.1;
  still = is_in_contains (copy.0, uid) (v.box m).accepted still;
  text = (let t = told_text uid (v.box m).accepted (number_in copy.0 uid (v.box m).accepted still) in
      t.2 ∙ ap (λ (c : Job). c.text) (alone t.0 t.1));
  alone = λ other also. alone other (is_in (other, uid) (v.box m).accepted also);
}
  where
    copy : (c : Job) × IsIn (c, uid) (w.box m).accepted
    copy = copy_named uid (w.box m).accepted (subst (IsIn uid) (K.boxes m).given was)

    still : IsIn (copy.0, uid) (v.box m).accepted
    still = subst (IsIn (copy.0, uid)) (sym x.accepted) (in_front (copy.0, uid) (w.box m).accepted x.copies copy.1)

    alone : (other : Job) → IsIn (other, uid) (v.box m).accepted → other ≡ copy.0
    alone other also = one_copy k.first_uid (v.box m).accepted (sym (L.boxes m).given ∙ (L.boxes m).counted) copy.0 other uid still also

pub uids_stay : UidsStay
uids_stay k events w later v n uid s is steps at counts =
    let K : Kept k w = kept_always k events w is in
    let m : ℕ = s.mailbox in
    names_the_same k w v m uid K (kept_steps k w later v K steps) (steps_extend k w later v m steps)
    (counted_added (w.box m).log s.cursor uid (is_in uid (view_at (w.box m).log s.cursor) (subst (λ view. Contains view uid) (ap (view_in w) at) counts)))

pub gone_stay_gone : GoneStayGone
gone_stay_gone k events w later v m uid is steps old there = is_in_contains uid (messages_of (w.box m)) (subst (IsIn uid) (sym (rows_counted (w.box m))) was)
  where
    K : Kept k w
    K = kept_always k events w is

    x : Extends (w.box m) (v.box m)
    x = steps_extend k w later v m steps

    now : IsIn uid (replay (replay [] (w.box m).log) x.changes)
    now = subst (IsIn uid) (rows_counted (v.box m) ∙ ap (replay []) x.log ∙ replay-append [] (w.box m).log x.changes) (is_in uid (messages_of (v.box m)) there)

    by : IsIn uid (replay [] (w.box m).log) ⊎ IsIn uid (added x.changes) → IsIn uid (replay [] (w.box m).log)
    by (inl before) = before
    by (inr new) = absurd (omega (arith, old, later_greater k (w.box m) (v.box m) (K.boxes m) ((kept_steps k w later v K steps).boxes m) x uid new))

    was : IsIn uid (replay [] (w.box m).log)
    was = by (in_replay uid (replay [] (w.box m).log) x.changes now)
