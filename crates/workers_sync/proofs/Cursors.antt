-- SetsCursor that are no strangers.
use Rattle.std.proofs.Common.{◌≡◌, ℕ, ◌+◌, ◌≤◌, inl, inr, Bool, true, false, ◌==◌, ◌&&◌, List, length, refl, sym, ap, ap₂, ◌∙◌, arith, subst, Option, Some, None, IsSome, is_some}
use Rattle.std.specs.Prelude.{if◌then◌else◌, option_map}
use Rattle.std.proofs.lemmas.Bool.{cases_lt, eq-eqb, eqb-true}
use Rattle.change_ring.specs.declared.change.Change.{Change}
use Rattle.change_ring.specs.Log.{replay, total}
use Rattle.cursor_set.specs.Cursors.{CursorSet, Open, CursorHandle, Updates, after_showing, held, if_of, in_slot}
use Rattle.cursor_set.proofs.OpenedLemmas.{held_in_slot}
use Rattle.mailbox.proofs.Handles.{held_at, held_some}
use Rattle.mailbox.specs.Events.{IsCurrent, IsLapped, IsStranger}
use Rattle.mailbox.specs.Mailbox.{Mailbox, IsKept}
use Rattle.workers_sync.specs.Holds.{HasCursor, SetsCursor}

if_some : (b : Bool) (x : Option Open) (o : Open) → (if b then x else None) ≡ Some o → (b ≡ true) × (x ≡ Some o)
if_some true x o e = (refl, e)
if_some false x o e = cc

both : (a b : Bool) → (a && b) ≡ true → (a ≡ true) × (b ≡ true)
both true b e = (refl, e)
both false b e = cc

same_open : {o p : Open} → Some o ≡ Some p → o ≡ p
same_open e = cc

serial_of : (handle : CursorHandle) (x : Option Open) (o : Open) → if_of handle x ≡ Some o → o.serial ≡ handle.serial
serial_of handle None o e = cc
serial_of handle (Some y) o e =
    let h = if_some ((y.serial == handle.serial) && (y.at == handle.at)) (Some y) o e in
    ap (λ (p : Open). p.serial) (sym (same_open h.1)) ∙ eqb-true y.serial handle.serial (both (y.serial == handle.serial) (y.at == handle.at) h.0).0

held_serial : (s : CursorSet) (handle : CursorHandle) (o : Open) → held s handle ≡ Some o → o.serial ≡ handle.serial
held_serial s handle o e = serial_of handle (in_slot s handle.slot) o (if_some (s.number == handle.number) (if_of handle (in_slot s handle.slot)) o e).1

held_number : (s : CursorSet) (handle : CursorHandle) (o : Open) → held s handle ≡ Some o → s.number ≡ handle.number
held_number s handle o e = eqb-true s.number handle.number (if_some (s.number == handle.number) (if_of handle (in_slot s handle.slot)) o e).0

-- the cursor of a handle, by what the handle carries
held_open : (s : CursorSet) (handle : CursorHandle) (o : Open) → held s handle ≡ Some o → held s handle ≡ Some (record { serial = handle.serial; at = handle.at; view = o.view })
held_open s handle o e = e ∙ ap₂ (λ (serial at : ℕ). let p : Open = record { serial = serial; at = at; view = o.view } in Some p) (held_serial s handle o e) (held_at s handle o e)

pub has_cursor : (m : Mailbox) (handle : CursorHandle) → IsKept m → (IsStranger m handle → ⊥) → (view : List ℕ) × HasCursor m handle view
has_cursor m handle kept known =
    let h : (o : Open) × (held m.cursors handle ≡ Some o) = held_some (held m.cursors handle) known in
    let w : h.0.at ≤ total m.window = kept.within handle.slot h.0 (held_in_slot m.cursors handle h.0 h.1) in
    (h.0.view, record { cursor = held_open m.cursors handle h.0 h.1; within = omega (arith, w, held_at m.cursors handle h.0 h.1) })

-- a cursor that carries what the handle does is the handle's
held_from : (s : CursorSet) (handle : CursorHandle) (view : List ℕ) → s.number ≡ handle.number → in_slot s handle.slot ≡ Some (record { serial = handle.serial; at = handle.at; view = view })
    → held s handle ≡ Some (record { serial = handle.serial; at = handle.at; view = view })
held_from s handle view number slot =
    let o : Open = record { serial = handle.serial; at = handle.at; view = view } in
    ap (λ (b : Bool). if b then if_of handle (in_slot s handle.slot) else None) (eq-eqb s.number handle.number number)
    ∙ ap (if_of handle) slot
    ∙ ap₂ (λ (a b : Bool). if a && b then Some o else None) (eq-eqb handle.serial handle.serial refl) (eq-eqb handle.at handle.at refl)

-- the handle of a cursor that was just opened, or moved
pub cursor_now : (m : Mailbox) (handle : CursorHandle) (view : List ℕ) → IsKept m → m.cursors.number ≡ handle.number → in_slot m.cursors handle.slot ≡ Some (record { serial = handle.serial; at = handle.at; view = view }) → HasCursor m handle view
cursor_now m handle view kept number slot = record {
  cursor = held_from m.cursors handle view number slot;
  within = kept.within handle.slot (record { serial = handle.serial; at = handle.at; view = view }) slot;
}

pub handle_number : (m : Mailbox) (handle : CursorHandle) (view : List ℕ) → HasCursor m handle view → m.cursors.number ≡ handle.number
handle_number m handle view s = held_number m.cursors handle _ s.cursor

moved_slot : (new : CursorSet) (handle : CursorHandle) (view : List ℕ) (changes : List Change) (x : Option Open) → x ≡ Some (record { serial = handle.serial; at = handle.at; view = view })
    → in_slot new handle.slot ≡ option_map (after_showing changes) x → in_slot new handle.slot ≡ Some (record { serial = handle.serial; at = handle.at + length changes; view = replay view changes })
moved_slot new handle view changes x e h = h ∙ ap (option_map (after_showing changes)) e

-- a handle that was shown changes goes on by as many
pub cursor_on : (found left : Mailbox) (handle next : CursorHandle) (view : List ℕ) (changes : List Change) → IsKept left → HasCursor found handle view → Updates found.cursors left.cursors handle.slot (option_map (after_showing changes) (held found.cursors handle))
    → next ≡ record handle { at = handle.at + length changes } → HasCursor left next (replay view changes)
cursor_on found left handle next view changes kept at moved is =
    subst (λ (z : CursorHandle). HasCursor left z (replay view changes)) (sym is)
    (cursor_now left (record handle { at = handle.at + length changes }) (replay view changes) kept (moved.number ∙ handle_number found handle view at)
    (moved_slot left.cursors handle view changes (held found.cursors handle) at.cursor moved.changed))

-- and its slot alone changed
pub sets_on : (found left : Mailbox) (handle next : CursorHandle) (view : List ℕ) (changes : List Change) → HasCursor found handle view → Updates found.cursors left.cursors handle.slot (option_map (after_showing changes) (held found.cursors handle))
    → next ≡ record handle { at = handle.at + length changes } → SetsCursor found left next (replay view changes)
sets_on found left handle next view changes at moved is =
    subst (λ (z : CursorHandle). SetsCursor found left z (replay view changes)) (sym is)
    (record { changed = moved_slot left.cursors handle view changes (held found.cursors handle) at.cursor moved.changed; others = moved.others; number = moved.number })

-- who is neither a stranger nor lapped is current
pub current : (m : Mailbox) (handle : CursorHandle) → (IsStranger m handle → ⊥) → (IsLapped m handle → ⊥) → IsCurrent m handle
current m handle known near =
    let h : (o : Open) × (held m.cursors handle ≡ Some o) = held_some (held m.cursors handle) known in
    let some : IsSome (held m.cursors handle) = ap is_some h.1 in
    elim (cases_lt handle.at m.window.base) [ inl under ↦ absurd (near (some, under)) | inr over ↦ (some, over) ]
