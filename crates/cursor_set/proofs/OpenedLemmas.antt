-- A slab's slots as contracts of a set see them.
use Rattle.std.proofs.Common.{◌≡◌, ◌≢◌, ℕ, Bool, true, false, ◌==◌, ◌&&◌, List, Option, Some, None, sym, ap, ◌∙◌, refl}
use Rattle.std.specs.Prelude.{option_map, if◌then◌else◌}
use Rattle.std.proofs.Math.ListN.{get_or-map}
use Rattle.slab.specs.Slab as slab
use Rattle.slab.specs.Slab.{Slab}
use Rattle.change_ring.specs.declared.change.Change.{Change}
use Rattle.cursor_set.specs.declared.set.Cursor.{Cursor}
use Rattle.cursor_set.specs.Opened.{open_of, opened}
use Rattle.cursor_set.specs.Cursors.{CursorSet, Open, CursorHandle, Updates, after_showing, in_slot, held, if_of}

-- a set of this number over a slab
abbrev pub set_of : ℕ → ℕ → Slab Cursor → CursorSet
set_of number next s = record { number = number; next = next; slots = opened s.slots }

pub in_slot-set_of : (number next : ℕ) (s : Slab Cursor) (k : ℕ) → in_slot (set_of number next s) k ≡ option_map open_of (slab.get s k)
in_slot-set_of number next s k = get_or-map (option_map open_of) s.slots k None

-- what changes in the slab changes in the set
pub Updates-set_of : (number n m : ℕ) (s t : Slab Cursor) (key : ℕ) (slot : Option Cursor) → slab.Updates s t key slot → Updates (set_of number n s) (set_of number m t) key (option_map open_of slot)
Updates-set_of number n m s t key slot u = record {
  changed = in_slot-set_of number m t key ∙ ap (option_map open_of) u.changed;
  others = λ other ne. in_slot-set_of number m t other ∙ ap (option_map open_of) (u.others other ne) ∙ sym (in_slot-set_of number n s other);
  number = refl;
}

held_if : (b : Bool) (x : Option Open) (o : Open) → (if b then x else None) ≡ Some o → x ≡ Some o
held_if true x o e = e
held_if false x o e = cc

if_of_is : (handle : CursorHandle) (x : Option Open) (o : Open) → if_of handle x ≡ Some o → x ≡ Some o
if_of_is handle None o e = e
if_of_is handle (Some y) o e = held_if ((y.serial == handle.serial) && (y.at == handle.at)) (Some y) o e

-- what a handle holds is in its slot
pub held_in_slot : (s : CursorSet) (handle : CursorHandle) (o : Open) → held s handle ≡ Some o → in_slot s handle.slot ≡ Some o
held_in_slot s handle o e = if_of_is handle (in_slot s handle.slot) o (held_if (s.number == handle.number) (if_of handle (in_slot s handle.slot)) o e)

map_map : (f : Open → Open) (x : Option Cursor) → option_map (λ (c : Cursor). f (open_of c)) x ≡ option_map f (option_map open_of x)
map_map f None = refl
map_map f (Some c) = refl

-- a cursor that is shown changes in the slab is shown them in the set
pub Updates-shown : (number next : ℕ) (s t : Slab Cursor) (slot : ℕ) (changes : List Change) (o : Open) → in_slot (set_of number next s) slot ≡ Some o →
    option_map open_of (slab.get t slot) ≡ option_map (λ (c : Cursor). after_showing changes (open_of c)) (slab.get s slot) →
    ((other : ℕ) → other ≢ slot → slab.get t other ≡ slab.get s other) →
    Updates (set_of number next s) (set_of number next t) slot (Some (after_showing changes o))
Updates-shown number next s t slot changes o here shown others = record {
  changed = in_slot-set_of number next t slot ∙ shown ∙ map_map (after_showing changes) (slab.get s slot)
      ∙ ap (λ (x : Option Open). option_map (after_showing changes) x) (sym (in_slot-set_of number next s slot) ∙ here);
  others = λ other ne. in_slot-set_of number next t other ∙ ap (option_map open_of) (others other ne) ∙ sym (in_slot-set_of number next s other);
  number = refl;
}

same_open : {o p : Open} → Some o ≡ Some p → o ≡ p
same_open e = cc

-- what a handle holds is the cursor that stands in its slot of the slab
pub held_is : (number next : ℕ) (s : Slab Cursor) (handle : CursorHandle) (o : Open) (c : Cursor) → held (set_of number next s) handle ≡ Some o → slab.get s handle.slot ≡ Some c → o ≡ open_of c
held_is number next s handle o c e f =
    same_open (sym (held_in_slot (set_of number next s) handle o e) ∙ in_slot-set_of number next s handle.slot ∙ ap (λ (x : Option Cursor). option_map open_of x) f)
