-- What a handle that has a cursor carries.
use Rattle.std.proofs.Common.{◌≡◌, Bool, true, false, ◌==◌, ◌&&◌, Option, Some, None, IsSome, is_some, sym, ap, ap₂, ◌∙◌, refl}
use Rattle.std.specs.Prelude.{if◌then◌else◌}
use Rattle.std.proofs.lemmas.Bool.{eq-eqb, eqb-true}
use Rattle.cursor_set.specs.Cursors.{CursorSet, Open, CursorHandle, held, if_of, in_slot}

if_some : (b : Bool) (x : Option Open) (o : Open) → (if b then x else None) ≡ Some o → (b ≡ true) × (x ≡ Some o)
if_some true x o e = (refl, e)
if_some false x o e = cc

both : (a b : Bool) → (a && b) ≡ true → (a ≡ true) × (b ≡ true)
both true b e = (refl, e)
both false b e = cc

same_open : {o p : Open} → Some o ≡ Some p → o ≡ p
same_open e = cc

at_of : (handle : CursorHandle) (x : Option Open) (o : Open) → if_of handle x ≡ Some o → o.at ≡ handle.at
at_of handle None o e = cc
at_of handle (Some y) o e =
    let h = if_some ((y.serial == handle.serial) && (y.at == handle.at)) (Some y) o e in
    ap (λ (p : Open). p.at) (sym (same_open h.1)) ∙ eqb-true y.at handle.at (both (y.serial == handle.serial) (y.at == handle.at) h.0).1

-- it carries the cursor's number
pub held_at : (s : CursorSet) (handle : CursorHandle) (o : Open) → held s handle ≡ Some o → o.at ≡ handle.at
held_at s handle o e = at_of handle (in_slot s handle.slot) o (if_some (s.number == handle.number) (if_of handle (in_slot s handle.slot)) o e).1

pub held_some : (x : Option Open) → (x ≡ None → ⊥) → (o : Open) × (x ≡ Some o)
held_some None h = absurd (h refl)
held_some (Some o) h = (o, refl)

-- a handle that agrees with the cursor in its slot has it
pub known_by : (s : CursorSet) (handle : CursorHandle) (o : Open) → s.number ≡ handle.number → in_slot s handle.slot ≡ Some o → o.serial ≡ handle.serial → o.at ≡ handle.at → IsSome (held s handle)
known_by s handle o number slot serial at = ap is_some
    (ap (λ (b : Bool). if b then if_of handle (in_slot s handle.slot) else None) (eq-eqb s.number handle.number number) ∙ ap (if_of handle) slot
    ∙ ap₂ (λ (a b : Bool). if a && b then Some o else None) (eq-eqb o.serial handle.serial serial) (eq-eqb o.at handle.at at))
