-- What taking out those with \Deleted by their UIDs does to the messages, and what is logged of it.
use Rattle.std.proofs.Common.{◌≡◌, ℕ, ◌<◌, Bool, true, false, cond, not, List, [], ◌∷◌, ◌++◌, length, map, filter, refl, sym, ap, ◌∙◌, eq-eqb}
use Rattle.std.specs.Prelude.{if◌then◌else◌, ◌&&◌, count_by}
use Rattle.std.specs.List.{AllByRecursion}
use Rattle.std.proofs.lemmas.List.{length-map}
use Rattle.std.proofs.lemmas.List.Sums.{length-filter}
use Rattle.change_ring.specs.declared.change.Change.{Change}
use Rattle.change_ring.specs.declared.change.Change.TheVariants.{Gone}
use Rattle.change_ring.specs.Log.{Row, removals}
use Rattle.cursor_set.proofs.Positions.{Rises}
use Rattle.mailbox.specs.inner.Letters.{without_message}
use Rattle.mailbox.specs.Mailbox.{Message, remaining, row_of, uids_of}
use Rattle.mailbox.specs.inner.Marks.{gone_of, marked_of, without_each}
use Rattle.mailbox.proofs.MarkLaws.{first_no, first_yes, marked_all}
use Rattle.mailbox.proofs.MessageLaws.{eqb_less}

module _ (test : ℕ → Bool) where
  -- a message whose UID is below all of them stays
  step_over : (m : Message) (us : List ℕ) (ms : List Message) → AllByRecursion (λ u. m.uid < u) us → without_each test us (m ∷ ms) ≡ m ∷ without_each test us ms
  step_over m [] ms above = refl
  step_over m (u ∷ us) ms above =
      ap (without_each test us) (by_case (test u)) ∙ step_over m us (if test u then without_message u ms else ms) above.1
    where
      by_case : (b : Bool) → (if b then without_message u (m ∷ ms) else m ∷ ms) ≡ m ∷ (if b then without_message u ms else ms)
      by_case true = ap (λ (c : Bool). if c then ms else m ∷ without_message u ms) (eqb_less m.uid u above.0)
      by_case false = refl

  -- what is logged
  pub told : (u : ℕ) (us : List ℕ) → test u ≡ true → gone_of test (u ∷ us) ≡ Gone u ∷ gone_of test us
  told u us e = ap (λ (b : Bool). map Gone (cond b (u ∷ filter test us) (filter test us))) e

  pub untold : (u : ℕ) (us : List ℕ) → test u ≡ false → gone_of test (u ∷ us) ≡ gone_of test us
  untold u us e = ap (λ (b : Bool). map Gone (cond b (u ∷ filter test us) (filter test us))) e

  -- one UID more
  pub each_more : (us : List ℕ) (u : ℕ) (ms : List Message) →
      without_each test (us ++ u ∷ []) ms ≡ (if test u then without_message u (without_each test us ms) else without_each test us ms)
  each_more [] u ms = refl
  each_more (v ∷ us) u ms = each_more us u (if test v then without_message v ms else ms)

  -- the messages that are left
  pub each_taken : (ms : List Message) → Rises (uids_of ms) → without_each test (marked_of ms) ms ≡ remaining test ms
  each_taken [] up = refl
  each_taken (m ∷ ms) up = by_case m.flags.deleted (test m.uid) refl (each_taken ms up.1)
    where
      over : without_each test (marked_of ms) ms ≡ remaining test ms → without_each test (marked_of ms) (m ∷ ms) ≡ m ∷ remaining test ms
      over h = step_over m (marked_of ms) ms (marked_all (λ v. m.uid < v) ms up.0) ∙ ap (λ (ns : List Message). m ∷ ns) h

      here : without_message m.uid (m ∷ ms) ≡ ms
      here = ap (λ (c : Bool). if c then ms else m ∷ without_message m.uid ms) (eq-eqb m.uid m.uid refl)

      by_case : (d b : Bool) → test m.uid ≡ b → without_each test (marked_of ms) ms ≡ remaining test ms →
          without_each test (uids_of (cond d (m ∷ filter (λ (y : Message). y.flags.deleted) ms) (filter (λ (y : Message). y.flags.deleted) ms))) (m ∷ ms)
          ≡ cond (not (d && b)) (m ∷ remaining test ms) (remaining test ms)
      by_case true true e h = ap (λ (c : Bool). without_each test (marked_of ms) (if c then without_message m.uid (m ∷ ms) else m ∷ ms)) e ∙ ap (without_each test (marked_of ms)) here ∙ h
      by_case true false e h = ap (λ (c : Bool). without_each test (marked_of ms) (if c then without_message m.uid (m ∷ ms) else m ∷ ms)) e ∙ over h
      by_case false b e h = over h

  -- the UIDs that are left
  pub marks_left : (ms : List Message) → filter (λ (u : ℕ). not (test u)) (marked_of ms) ≡ marked_of (remaining test ms)
  marks_left [] = refl
  marks_left (m ∷ ms) = by_case m.flags.deleted (test m.uid) refl refl (marks_left ms)
    where
      by_case : (d b : Bool) → m.flags.deleted ≡ d → test m.uid ≡ b → filter (λ (u : ℕ). not (test u)) (marked_of ms) ≡ marked_of (remaining test ms) →
          filter (λ (u : ℕ). not (test u)) (uids_of (cond d (m ∷ filter (λ (y : Message). y.flags.deleted) ms) (filter (λ (y : Message). y.flags.deleted) ms)))
          ≡ marked_of (cond (not (d && b)) (m ∷ remaining test ms) (remaining test ms))
      by_case true true is e h = ap (λ (c : Bool). cond (not c) (m.uid ∷ filter (λ (u : ℕ). not (test u)) (marked_of ms)) (filter (λ (u : ℕ). not (test u)) (marked_of ms))) e ∙ h
      by_case true false is e h =
          ap (λ (c : Bool). cond (not c) (m.uid ∷ filter (λ (u : ℕ). not (test u)) (marked_of ms)) (filter (λ (u : ℕ). not (test u)) (marked_of ms))) e
          ∙ ap (λ (us : List ℕ). m.uid ∷ us) h ∙ sym (first_yes m (remaining test ms) is)
      by_case false b is e h = h ∙ sym (first_no m (remaining test ms) is)

  -- what the removals log, by the UIDs
  pub gone_marked : (ms : List Message) → removals test (map row_of ms) ≡ gone_of test (marked_of ms)
  gone_marked [] = refl
  gone_marked (m ∷ ms) = by_case m.flags.deleted (test m.uid) refl (gone_marked ms)
    where
      by_case : (d b : Bool) → test m.uid ≡ b → removals test (map row_of ms) ≡ gone_of test (marked_of ms) →
          map (λ (r : Row). Gone r.uid) (cond (d && b) (row_of m ∷ filter (λ (r : Row). r.flags.deleted && test r.uid) (map row_of ms)) (filter (λ (r : Row). r.flags.deleted && test r.uid) (map row_of ms)))
          ≡ gone_of test (uids_of (cond d (m ∷ filter (λ (y : Message). y.flags.deleted) ms) (filter (λ (y : Message). y.flags.deleted) ms)))
      by_case true true e h = ap (λ (cs : List Change). Gone m.uid ∷ cs) h ∙ sym (told m.uid (marked_of ms) e)
      by_case true false e h = h ∙ sym (untold m.uid (marked_of ms) e)
      by_case false b e h = h

  pub gone_number : (us : List ℕ) → count_by test us ≡ length (gone_of test us)
  gone_number us = sym (length-filter test us) ∙ sym (length-map (filter test us) Gone)
