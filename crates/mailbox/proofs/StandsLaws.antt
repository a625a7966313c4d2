-- What changes do to the logs for which a mailbox stands.
use Rattle.std.proofs.Common.{◌≡◌, ℕ, zero, suc, ◌+◌, ◌-◌, ◌<◌, ◌≤◌, List, [], ◌∷◌, ◌++◌, length, map, take, drop, get_or, Option, Some, None, append-nil, refl, sym, ap, ap₂, ◌∙◌, inl, inr, subst, arith, length-append, All}
use Rattle.std.specs.List.{range_with_len, AllByRecursion}
use Rattle.std.specs.Prelude.{option_map}
use Rattle.std.specs.List.Sorted.{IsStrictlyIncreasing}
use Rattle.std.proofs.lemmas.List.{take_all, take-append-le, map-append}
use Rattle.std.proofs.lemmas.Bool.{cases_eq}
use Rattle.std.proofs.lemmas.List.Elements.{All-from_recursion}
use Rattle.std.proofs.Math.Seq.{take-add}
use Rattle.change_ring.specs.declared.change.Change.{Change}
use Rattle.change_ring.specs.declared.change.Change.TheVariants.{Add}
use Rattle.change_ring.specs.Log.{Row, IsLegalLog, no_flags, FitsView, rows_after, replay, view_at, added, changes_from, total}
use Rattle.change_ring.proofs.LogLaws.{FitsView-append, rows_after-append, added-append, replay-append, uids-rows_after}
use Rattle.change_ring.proofs.RangeLaws.{range-push}
use Rattle.change_ring.proofs.WindowLaws.{changes_from-log}
use Rattle.cursor_set.specs.Cursors.{CursorSet, Open, CursorHandle, Updates, after_showing, held, in_slot, next_changes}
use Rattle.cursor_set.specs.Legal.{IsLegalOn}
use Rattle.cursor_set.specs.Lines.{lines}
use Rattle.cursor_set.proofs.LegalLaws.{legal_log, legal_rises}
use Rattle.cursor_set.proofs.OpenedLemmas.{held_in_slot}
use Rattle.cursor_set.proofs.Positions.{Rises, Rises-from, Rises-to}
use Rattle.delivery_token.specs.declared.CopyKey.{CopyKey}
use Rattle.delivery_token.specs.Text.{Text}
use Rattle.mailbox.specs.Events.{Logs}
use Rattle.mailbox.specs.inner.Events.{GoesOn}
use Rattle.mailbox.specs.Mailbox.{Mailbox, Message, row_of, uids_of, accepted_uids, next_uid, Stands, IsShown, next_of}

-- ---- what a log that a mailbox stands for is

range_above : (low a n : ℕ) → low < a → AllByRecursion (λ u. low < u) (range_with_len a n)
range_above low a zero l = tt
range_above low a (suc n) l = (l, range_above low (a + 1) n (omega arith))

range_rises : (a n : ℕ) → Rises (range_with_len a n)
range_rises a zero = tt
range_rises a (suc n) = (range_above a (a + 1) n (omega arith), range_rises (a + 1) n)

pub Stands-legal : (m : Mailbox) (log : List Change) → Stands m log → IsLegalLog log
Stands-legal m log s = record {
  rising = subst IsStrictlyIncreasing (sym s.numbered ∙ s.accepted) (Rises-to (range_with_len m.first_uid (length m.accepted)) (range_rises m.first_uid (length m.accepted)));
  there = s.there;
}

map_uids : (messages : List Message) → map (λ (r : Row). r.uid) (map row_of messages) ≡ uids_of messages
map_uids [] = refl
map_uids (m ∷ ms) = ap (λ (us : List ℕ). m.uid ∷ us) (map_uids ms)

-- who was shown the whole log counts the messages that are there
pub view-all : (m : Mailbox) (log : List Change) → Stands m log → uids_of m.messages ≡ replay [] log
view-all m log is = sym (map_uids m.messages) ∙ ap (map (λ (r : Row). r.uid)) is.messages ∙ uids-rows_after [] log

view-end : (m : Mailbox) (log : List Change) → Stands m log → uids_of m.messages ≡ view_at log (total m.window)
view-end m log is = view-all m log is ∙ ap (replay []) (sym (take_all (total m.window) log (omega (arith, is.window.long))))

-- the messages' UIDs rise
pub Stands-rising : (m : Mailbox) (log : List Change) → Stands m log → IsStrictlyIncreasing (uids_of m.messages)
Stands-rising m log is =
    subst IsStrictlyIncreasing (sym (view-end m log is)) (legal_rises (view_at log (total m.window)) (drop (total m.window) log) (legal_log log (total m.window) (Stands-legal m log is)))

same_view : {us vs : List ℕ} → Some us ≡ Some vs → us ≡ vs
same_view e = cc

viewed : (x : Option Open) (view : List ℕ) → option_map (λ (o : Open). o.view) x ≡ Some view → (o : Open) × (x ≡ Some o) × (o.view ≡ view)
viewed None view e = cc
viewed (Some o) view e = (o, refl, same_view e)

-- and so do the UIDs that a client was shown
pub Stands-shown_rises : (m : Mailbox) (log : List Change) → Stands m log → (handle : CursorHandle) (view : List ℕ) → option_map (λ (o : Open). o.view) (held m.cursors handle) ≡ Some view → IsStrictlyIncreasing view
Stands-shown_rises m log is handle view e =
    let h = viewed (held m.cursors handle) view e in
    let shown : IsShown log h.0 = is.cursors handle.slot h.0 (held_in_slot m.cursors handle h.0 h.1) in
    subst IsStrictlyIncreasing (sym shown.view ∙ h.2) (legal_rises (view_at log h.0.at) (drop h.0.at log) (legal_log log h.0.at (Stands-legal m log is)))

-- ---- changes are logged

-- a cursor was shown the same of a longer log
IsShown-more : (log more : List Change) (o : Open) → IsShown log o → IsShown (log ++ more) o
IsShown-more log more o is = record {
  within = omega (arith, is.within, length-append log more);
  view = is.view ∙ ap (replay []) (sym (take-append-le o.at log more is.within));
}

-- changes that fit what is there, with the cursors as they were
pub Stands-logged : (m n : Mailbox) (log cs : List Change) → Stands m log → FitsView (uids_of m.messages) cs →
    map row_of n.messages ≡ rows_after (map row_of m.messages) cs →
    GoesOn m.window n.window cs →
    accepted_uids n ≡ accepted_uids m ++ added cs → accepted_uids n ≡ range_with_len n.first_uid (length n.accepted) →
    n.cursors ≡ m.cursors → Stands n (log ++ cs)
Stands-logged m n log cs s fits rows goes accepts numbered cursors = record {
  there = FitsView-append [] log cs s.there (subst (λ (us : List ℕ). FitsView us cs) (view-all m log s) fits);
  messages = rows ∙ ap (λ (rs : List Row). rows_after rs cs) s.messages ∙ sym (rows_after-append [] log cs);
  window = goes log s.window;
  accepted = accepts ∙ ap (λ (us : List ℕ). us ++ added cs) s.accepted ∙ sym (added-append log cs);
  numbered = numbered;
  cursors = λ slot o found. IsShown-more log cs o (s.cursors slot o (ap (λ (t : CursorSet). in_slot t slot) (sym cursors) ∙ found));
}

-- the same where no message is added
pub Stands-changed : (m n : Mailbox) (log cs : List Change) → Stands m log → FitsView (uids_of m.messages) cs →
    map row_of n.messages ≡ rows_after (map row_of m.messages) cs → GoesOn m.window n.window cs → added cs ≡ [] →
    n.accepted ≡ m.accepted → n.first_uid ≡ m.first_uid → n.cursors ≡ m.cursors → Stands n (log ++ cs)
Stands-changed m n log cs s fits rows goes adds accepted first cursors =
    let same : accepted_uids n ≡ accepted_uids m = ap (map (λ (a : CopyKey × ℕ). a.1)) accepted in
    Stands-logged m n log cs s fits rows goes
    (same ∙ sym (ap (λ (us : List ℕ). accepted_uids m ++ us) adds ∙ append-nil (accepted_uids m)))
    (same ∙ s.numbered ∙ ap₂ range_with_len (sym first) (ap length (sym accepted))) cursors

-- a delivery
pub Stands-deliver : (m n : Mailbox) (log : List Change) (key : CopyKey) (uid : ℕ) (text : Text) → uid ≡ next_uid m →
    n.messages ≡ m.messages ++ record { uid = uid; flags = no_flags; text = text } ∷ [] →
    GoesOn m.window n.window (Add uid ∷ []) →
    n.accepted ≡ m.accepted ++ (key, uid) ∷ [] → n.cursors ≡ m.cursors → n.first_uid ≡ m.first_uid → Stands m log → Stands n (log ++ Add uid ∷ [])
Stands-deliver m n log key uid text next messages goes accepted cursors first s =
    let one : Message = record { uid = uid; flags = no_flags; text = text } in
    let accepts : accepted_uids n ≡ accepted_uids m ++ uid ∷ [] =
    ap (map (λ (a : CopyKey × ℕ). a.1)) accepted ∙ map-append (λ (a : CopyKey × ℕ). a.1) m.accepted ((key, uid) ∷ []) in
    let longer : length m.accepted + 1 ≡ length n.accepted = sym (ap length accepted ∙ length-append m.accepted ((key, uid) ∷ [])) in
    Stands-logged m n log (Add uid ∷ []) s (tt, tt) (ap (map row_of) messages ∙ map-append row_of m.messages (one ∷ [])) goes accepts
    (accepts ∙ ap₂ (λ (us : List ℕ) (u : ℕ). us ++ u ∷ []) s.numbered next ∙ range-push m.first_uid (length m.accepted) ∙ ap₂ range_with_len (sym first) longer)
    cursors

-- ---- an empty mailbox

drop-nil : (n : ℕ) → drop {A = Change} n [] ≡ []
drop-nil zero = refl
drop-nil (suc n) = refl

none_open : {o : Open} → None ≡ Some o → ⊥
none_open e = cc

-- it stands for the empty log
pub Stands-new : (m : Mailbox) → m.messages ≡ [] → m.window.base ≡ 0 → m.window.changes ≡ [] → m.accepted ≡ [] → m.cursors.slots ≡ [] → Stands m []
Stands-new m messages base changes accepted cursors = record {
  there = tt;
  messages = ap (map row_of) messages;
  window = record { long = omega (arith, base, ap length changes); rest = drop-nil m.window.base ∙ sym changes };
  accepted = ap (map (λ (a : CopyKey × ℕ). a.1)) accepted;
  numbered = ap (map (λ (a : CopyKey × ℕ). a.1)) accepted ∙ sym (ap (λ (n : ℕ). range_with_len m.first_uid n) (ap length accepted));
  cursors = λ slot o found. absurd (none_open (ap (λ (xs : List (Option Open)). get_or xs slot None) (sym cursors) ∙ found));
}

-- ---- cursors

-- other cursors, each shown what it says
pub Stands-cursors : (m : Mailbox) (s : CursorSet) (log : List Change) → Stands m log →
    ((slot : ℕ) (o : Open) → in_slot s slot ≡ Some o → IsShown log o) → Stands (record m { cursors = s }) log
Stands-cursors m s log is shown = record {
  there = is.there;
  messages = is.messages;
  window = is.window;
  accepted = is.accepted;
  numbered = is.numbered;
  cursors = shown;
}

same_some : {o p : Open} → Some o ≡ Some p → o ≡ p
same_some e = cc

-- one slot has another cursor
Stands-slot : (m : Mailbox) (s : CursorSet) (log : List Change) (slot : ℕ) (p : Open) → Stands m log → Updates m.cursors s slot (Some p) → IsShown log p → Stands (record m { cursors = s }) log
Stands-slot m s log slot p is changes shown =
    Stands-cursors m s log is (λ k o found. elim (cases_eq k slot) [
      | inl same ↦ subst (IsShown log) (same_some (sym changes.changed ∙ ap (in_slot s) (sym same) ∙ found)) shown
      | inr other ↦ is.cursors k o (sym (changes.others k other) ∙ found)
    ])

-- a cursor is opened at the end
pub Stands-enter : (m : Mailbox) (s : CursorSet) (log : List Change) (slot serial : ℕ) → Stands m log →
    Updates m.cursors s slot (Some (record { serial = serial; at = total m.window; view = uids_of m.messages })) → Stands (record m { cursors = s }) log
Stands-enter m s log slot serial is changes =
    Stands-slot m s log slot (record { serial = serial; at = total m.window; view = uids_of m.messages }) is changes (record {
      within = omega (arith, is.window.long);
      view = view-end m log is;
    })

-- a cursor is closed
pub Stands-close : (m : Mailbox) (s : CursorSet) (log : List Change) (slot : ℕ) → Stands m log → Updates m.cursors s slot None → Stands (record m { cursors = s }) log
Stands-close m s log slot is changes =
    Stands-cursors m s log is (λ k o found. elim (cases_eq k slot) [
      | inl same ↦ absurd (none_open (sym changes.changed ∙ ap (in_slot s) (sym same) ∙ found))
      | inr other ↦ is.cursors k o (sym (changes.others k other) ∙ found)
    ])

-- what a cursor is to be shown next is the log's
next-log : (m : Mailbox) (log : List Change) (n : ℕ) (o : Open) → Stands m log → m.window.base ≤ o.at → next_changes m.window o.at n ≡ next_of log o.at n
next-log m log n o is low = ap (take n) (changes_from-log m.window log o.at is.window low)

-- a cursor moves over changes that it was shown
pub Stands-feed : (m : Mailbox) (s : CursorSet) (log : List Change) (slot n : ℕ) (o : Open) → Stands m log → in_slot m.cursors slot ≡ Some o →
    m.window.base ≤ o.at → n ≤ total m.window - o.at → length (next_changes m.window o.at n) ≡ n →
    Updates m.cursors s slot (Some (after_showing (next_changes m.window o.at n) o)) → Stands (record m { cursors = s }) log
Stands-feed m s log slot n o is found low few long changes =
    let known = is.cursors slot o found in
    Stands-slot m s log slot (after_showing (next_changes m.window o.at n) o) is changes (record {
      within = omega (arith, known.within, is.window.long, long);
      view = ap₂ replay known.view (next-log m log n o is low) ∙ sym (replay-append [] (take o.at log) (next_of log o.at n))
          ∙ ap (replay []) (sym (take-add o.at n log)) ∙ ap (λ (k : ℕ). view_at log (o.at + k)) (sym long);
    })

-- the lines of what a cursor is shown are those of the log
pub lines-log : (m : Mailbox) (log : List Change) (slot n : ℕ) (o : Open) → Stands m log → in_slot m.cursors slot ≡ Some o → m.window.base ≤ o.at →
    lines o.view (next_changes m.window o.at n) ≡ lines (view_at log o.at) (next_of log o.at n)
lines-log m log slot n o is found low = ap₂ lines (is.cursors slot o found).view (next-log m log n o is low)

-- what a cursor is to be shown may be shown to it
pub pending-legal : (m : Mailbox) (log : List Change) (slot : ℕ) (o : Open) → Stands m log → in_slot m.cursors slot ≡ Some o → m.window.base ≤ o.at →
    IsLegalOn o.view (changes_from o.at m.window)
pending-legal m log slot o s found low =
    subst (λ (v : List ℕ). IsLegalOn v (changes_from o.at m.window)) (sym (s.cursors slot o found).view)
    (subst (IsLegalOn (view_at log o.at)) (sym (changes_from-log m.window log o.at s.window low)) (legal_log log o.at (Stands-legal m log s)))

-- nothing was logged
pub Logs-nothing : (m : Mailbox) (changes : List Change) → changes ≡ [] → Logs m m changes
Logs-nothing m changes none = λ log s. subst (λ (cs : List Change). Stands m (log ++ cs)) (sym none) (subst (Stands m) (sym (append-nil log)) s)

-- ---- the next UID is above all that are there

below_last : (us : List ℕ) (n : ℕ) → Rises (us ++ n ∷ []) → AllByRecursion (λ u. u < n) us
below_last [] n up = tt
below_last (u ∷ us) n up = (last us up.0, below_last us n up.1)
  where
    last : (vs : List ℕ) → AllByRecursion (λ v. u < v) (vs ++ n ∷ []) → u < n
    last [] h = h.0
    last (v ∷ vs) h = last vs h.1

drop_first : (log more : List Change) → drop (length log) (log ++ more) ≡ more
drop_first [] more = refl
drop_first (c ∷ cs) more = drop_first cs more

pub Stands-below : (m : Mailbox) (log : List Change) → Stands m log → All (λ u. u < next_uid m) (uids_of m.messages)
Stands-below m log s =
    let n = next_uid m in
    let one : List Change = Add n ∷ [] in
    let more : added (log ++ one) ≡ range_with_len m.first_uid (length m.accepted + 1) =
    added-append log one ∙ ap (λ (us : List ℕ). us ++ n ∷ []) (sym s.accepted ∙ s.numbered) ∙ range-push m.first_uid (length m.accepted) in
    let long : IsLegalLog (log ++ one) = record {
      rising = subst IsStrictlyIncreasing (sym more) (Rises-to (range_with_len m.first_uid (length m.accepted + 1)) (range_rises m.first_uid (length m.accepted + 1)));
      there = FitsView-append [] log one s.there (tt, tt);
    } in
    let legal : IsLegalOn (view_at (log ++ one) (length log)) one = subst (IsLegalOn (view_at (log ++ one) (length log))) (drop_first log one) (legal_log (log ++ one) (length log) long) in
    let view : view_at (log ++ one) (length log) ≡ uids_of m.messages = ap (replay []) (take-append-le (length log) log one (omega arith) ∙ take_all (length log) log (omega arith)) ∙ sym (view-all m log s) in
    All-from_recursion (λ u. u < n) (uids_of m.messages)
    (below_last (uids_of m.messages) n (Rises-from (uids_of m.messages ++ n ∷ []) (subst (λ (us : List ℕ). IsStrictlyIncreasing (us ++ n ∷ [])) view legal.rising)))
