-- What removing messages does to the messages, to the log and to the window.
use Rattle.std.proofs.Common.{◌≡◌, ◌≢◌, ℕ, zero, suc, ◌+◌, ◌<◌, ◌≤◌, Bool, true, false, ◌==◌, List, [], ◌∷◌, ◌++◌, length, get_or, map, filter, not, Contains, refl, sym, ap, ◌∙◌, inl, inr, subst, arith, eq-eqb, append_assoc, length-append}
use Rattle.std.specs.Prelude.{◌&&◌}
use Rattle.std.specs.List.{AllByRecursion, list_any}
use Rattle.std.proofs.lemmas.Bool.Decides.{eqb_tells}
use Rattle.change_ring.specs.declared.change.Change.{Change}
use Rattle.change_ring.specs.declared.change.Change.TheVariants.{Gone}
use Rattle.change_ring.specs.Log.{Row, FitsView, without, without_row, rows_after, added, discards, removals, Window, IsWindowOf, total}
use Rattle.cursor_set.specs.Cursors.{CursorSet}
use Rattle.cursor_set.proofs.Positions.{Rises}
use Rattle.mailbox.specs.Events.{Moves}
use Rattle.mailbox.specs.inner.Events.{GoesOn}
use Rattle.mailbox.proofs.WindowMoves.{Moves-append, moves_logged}
use Rattle.mailbox.specs.Mailbox.{Message, row_of, uids_of, remaining, without as without_all}
use Rattle.mailbox.proofs.MessageLaws.{eqb_less}

-- ---- a list of UIDs has one

pub any_at : (uid : ℕ) (xs : List ℕ) (i : ℕ) → i < length xs → get_or xs i 0 ≡ uid → list_any (λ u. u == uid) xs ≡ true
any_at uid [] i l e = absurd (omega (arith, l))
any_at uid (x ∷ xs) zero l e = rw (eq-eqb x uid e) refl
any_at uid (x ∷ xs) (suc i) l e = elim (eqb_tells x uid) [
  | inl t ↦ rw t.0 refl
  | inr t ↦ rw t.0 (any_at uid xs i (omega (arith, l)) e)
]

pub any_none : (uid : ℕ) (xs : List ℕ) → ((i : ℕ) → i < length xs → get_or xs i 0 ≢ uid) → list_any (λ u. u == uid) xs ≡ false
any_none uid [] h = refl
any_none uid (x ∷ xs) h = elim (eqb_tells x uid) [
  | inl t ↦ absurd (h 0 (omega arith) t.1)
  | inr t ↦ rw t.0 (any_none uid xs (λ i l. h (suc i) (omega (arith, l))))
]

-- ---- messages that stand before and behind one, where the UIDs rise

all_middle : (P : ℕ → Type 0) (ks : List Message) (r : Message) (rs : List Message) → AllByRecursion P (uids_of (ks ++ r ∷ rs)) → P r.uid
all_middle P [] r rs h = h.0
all_middle P (k ∷ ks) r rs h = all_middle P ks r rs h.1

all_others : (P : ℕ → Type 0) (ks : List Message) (r : Message) (rs : List Message) → AllByRecursion P (uids_of (ks ++ r ∷ rs)) → AllByRecursion P (uids_of (ks ++ rs))
all_others P [] r rs h = h.1
all_others P (k ∷ ks) r rs h = (h.0, all_others P ks r rs h.1)

others_rise : (ks : List Message) (r : Message) (rs : List Message) → Rises (uids_of (ks ++ r ∷ rs)) → Rises (uids_of (ks ++ rs))
others_rise [] r rs h = h.1
others_rise (k ∷ ks) r rs h = (all_others (λ u. k.uid < u) ks r rs h.0, others_rise ks r rs h.1)

without_middle : (ks : List Message) (r : Message) (rs : List Message) → Rises (uids_of (ks ++ r ∷ rs)) → without r.uid (uids_of (ks ++ r ∷ rs)) ≡ uids_of (ks ++ rs)
without_middle [] r rs h = rw (eq-eqb r.uid r.uid refl) refl
without_middle (k ∷ ks) r rs h = rw (eqb_less k.uid r.uid (all_middle (λ u. k.uid < u) ks r rs h.0)) (ap (λ (us : List ℕ). k.uid ∷ us) (without_middle ks r rs h.1))

rows_middle : (ks : List Message) (r : Message) (rs : List Message) → Rises (uids_of (ks ++ r ∷ rs)) → without_row r.uid (map row_of (ks ++ r ∷ rs)) ≡ map row_of (ks ++ rs)
rows_middle [] r rs h = rw (eq-eqb r.uid r.uid refl) refl
rows_middle (k ∷ ks) r rs h = rw (eqb_less k.uid r.uid (all_middle (λ u. k.uid < u) ks r rs h.0)) (ap (λ (xs : List Row). row_of k ∷ xs) (rows_middle ks r rs h.1))

there_middle : (ks : List Message) (r : Message) (rs : List Message) → Contains (uids_of (ks ++ r ∷ rs)) r.uid
there_middle [] r rs = (0, omega arith, refl)
there_middle (k ∷ ks) r rs =
    let rest = there_middle ks r rs in
    (suc rest.0, omega (arith, rest.1), rest.2)

-- ---- removing one message after another

-- of some messages those that a test of their rows takes
module _ (taken : Row → Bool) where
  -- what is logged of it
  abbrev gone_of : List Message → List Change
  gone_of ms = map (λ (r : Row). Gone r.uid) (filter taken (map row_of ms))

  -- the messages that are left
  abbrev left : List Message → List Message
  left ms = filter (λ (m : Message). not (taken (row_of m))) ms

  pub gone_yes : (m : Message) (ms : List Message) → taken (row_of m) ≡ true → gone_of (m ∷ ms) ≡ Gone m.uid ∷ gone_of ms
  gone_yes m ms e = rw e refl

  pub gone_no : (m : Message) (ms : List Message) → taken (row_of m) ≡ false → gone_of (m ∷ ms) ≡ gone_of ms
  gone_no m ms e = rw e refl

  pub left_yes : (m : Message) (ms : List Message) → taken (row_of m) ≡ true → left (m ∷ ms) ≡ left ms
  left_yes m ms e = rw e refl

  pub left_no : (m : Message) (ms : List Message) → taken (row_of m) ≡ false → left (m ∷ ms) ≡ m ∷ left ms
  left_no m ms e = rw e refl

  rows_taken : (ks ms : List Message) → Rises (uids_of (ks ++ ms)) → rows_after (map row_of (ks ++ ms)) (gone_of ms) ≡ map row_of (ks ++ left ms)
  rows_taken ks [] up = refl
  rows_taken ks (m ∷ ms) up = by_case (taken (row_of m)) refl (rows_taken ks ms (others_rise ks m ms up)) (λ here. rows_taken (ks ++ m ∷ []) ms here)
    where
      by_case : (b : Bool) → taken (row_of m) ≡ b → rows_after (map row_of (ks ++ ms)) (gone_of ms) ≡ map row_of (ks ++ left ms) →
          (Rises (uids_of ((ks ++ m ∷ []) ++ ms)) → rows_after (map row_of ((ks ++ m ∷ []) ++ ms)) (gone_of ms) ≡ map row_of ((ks ++ m ∷ []) ++ left ms)) →
          rows_after (map row_of (ks ++ m ∷ ms)) (gone_of (m ∷ ms)) ≡ map row_of (ks ++ left (m ∷ ms))
      by_case true e out stays =
          ap (rows_after (map row_of (ks ++ m ∷ ms))) (gone_yes m ms e) ∙ ap (λ (xs : List Row). rows_after xs (gone_of ms)) (rows_middle ks m ms up) ∙ out
          ∙ ap (λ (xs : List Message). map row_of (ks ++ xs)) (sym (left_yes m ms e))
      by_case false e out stays =
          ap (rows_after (map row_of (ks ++ m ∷ ms))) (gone_no m ms e) ∙ ap (λ (xs : List Message). rows_after (map row_of xs) (gone_of ms)) (sym (append_assoc ks (m ∷ []) ms))
          ∙ stays (subst (λ (xs : List Message). Rises (uids_of xs)) (sym (append_assoc ks (m ∷ []) ms)) up)
          ∙ ap (map row_of) (append_assoc ks (m ∷ []) (left ms)) ∙ ap (λ (xs : List Message). map row_of (ks ++ xs)) (sym (left_no m ms e))

  taken_fit : (ks ms : List Message) → Rises (uids_of (ks ++ ms)) → FitsView (uids_of (ks ++ ms)) (gone_of ms)
  taken_fit ks [] up = tt
  taken_fit ks (m ∷ ms) up = by_case (taken (row_of m)) refl (taken_fit ks ms (others_rise ks m ms up)) (λ here. taken_fit (ks ++ m ∷ []) ms here)
    where
      by_case : (b : Bool) → taken (row_of m) ≡ b → FitsView (uids_of (ks ++ ms)) (gone_of ms) →
          (Rises (uids_of ((ks ++ m ∷ []) ++ ms)) → FitsView (uids_of ((ks ++ m ∷ []) ++ ms)) (gone_of ms)) → FitsView (uids_of (ks ++ m ∷ ms)) (gone_of (m ∷ ms))
      by_case true e out stays =
          subst (FitsView (uids_of (ks ++ m ∷ ms))) (sym (gone_yes m ms e))
          (there_middle ks m ms, subst (λ (us : List ℕ). FitsView us (gone_of ms)) (sym (without_middle ks m ms up)) out)
      by_case false e out stays =
          subst (FitsView (uids_of (ks ++ m ∷ ms))) (sym (gone_no m ms e))
          (subst (λ (xs : List Message). FitsView (uids_of xs) (gone_of ms)) (append_assoc ks (m ∷ []) ms)
          (stays (subst (λ (xs : List Message). Rises (uids_of xs)) (sym (append_assoc ks (m ∷ []) ms)) up)))

  taken_adds : (ms : List Message) → added (gone_of ms) ≡ []
  taken_adds [] = refl
  taken_adds (m ∷ ms) = by_case (taken (row_of m)) refl (taken_adds ms)
    where
      by_case : (b : Bool) → taken (row_of m) ≡ b → added (gone_of ms) ≡ [] → added (gone_of (m ∷ ms)) ≡ []
      by_case true e h = ap added (gone_yes m ms e) ∙ h
      by_case false e h = ap added (gone_no m ms e) ∙ h

module _ (test : ℕ → Bool) where
  -- those with \Deleted that pass
  abbrev deleted : Row → Bool
  deleted r = r.flags.deleted && test r.uid

  pub rows_removed : (ks ms : List Message) → Rises (uids_of (ks ++ ms)) → rows_after (map row_of (ks ++ ms)) (removals test (map row_of ms)) ≡ map row_of (ks ++ remaining test ms)
  rows_removed ks ms up = rows_taken deleted ks ms up

  pub removals_fit : (ks ms : List Message) → Rises (uids_of (ks ++ ms)) → FitsView (uids_of (ks ++ ms)) (removals test (map row_of ms))
  removals_fit ks ms up = taken_fit deleted ks ms up

  pub gone_adds : (ms : List Message) → added (removals test (map row_of ms)) ≡ []
  gone_adds ms = taken_adds deleted ms

  -- those that pass, whatever their flags
  abbrev named : Row → Bool
  named r = test r.uid

  pub rows_discarded : (ks ms : List Message) → Rises (uids_of (ks ++ ms)) → rows_after (map row_of (ks ++ ms)) (discards test (map row_of ms)) ≡ map row_of (ks ++ without_all test ms)
  rows_discarded ks ms up = rows_taken named ks ms up

  pub discards_fit : (ks ms : List Message) → Rises (uids_of (ks ++ ms)) → FitsView (uids_of (ks ++ ms)) (discards test (map row_of ms))
  discards_fit ks ms up = taken_fit named ks ms up

  pub discards_add : (ms : List Message) → added (discards test (map row_of ms)) ≡ []
  discards_add ms = taken_adds named ms

-- ---- changes on changes

pub GoesOn-append : (old middle new : Window) (cs ds : List Change) → GoesOn old middle cs → GoesOn middle new ds → GoesOn old new (cs ++ ds)
GoesOn-append old middle new cs ds first second = λ log is. subst (IsWindowOf new) (append_assoc log cs ds) (second (log ++ cs) (first log is))

-- some of all these changes are logged, and some are left
pub record IsLogging (cursors : CursorSet) (old new : Window) (all left : List Change) : Type 0 where
  pub done : List Change
  pub split : done ++ left ≡ all
  pub goes_on : GoesOn old new done
  pub moves : Moves cursors old new done

pub one_logged : (cursors : CursorSet) (old middle new : Window) (all left : List Change) (c : Change) → IsLogging cursors old middle all (c ∷ left) →
    GoesOn middle new (c ∷ []) → Moves cursors middle new (c ∷ []) → IsLogging cursors old new all left
one_logged cursors old middle new all left c h goes moves = record {
  done = h.done ++ c ∷ [];
  split = append_assoc h.done (c ∷ []) left ∙ h.split;
  goes_on = GoesOn-append old middle new h.done (c ∷ []) h.goes_on goes;
  moves = Moves-append cursors old middle new h.done (c ∷ []) h.moves moves;
}

pub room_left : (cursors : CursorSet) (old middle : Window) (all left : List Change) (c : Change) (most : ℕ) → IsLogging cursors old middle all (c ∷ left) → total old + length all ≤ most → total middle < most
room_left cursors old middle all left c most h room = omega (arith, room, moves_logged cursors old middle h.done h.moves, ap length h.split, length-append h.done (c ∷ left))
