-- Laws of changes that went into a window.
use Rattle.std.proofs.Common.{◌≡◌, ℕ, suc, ◌+◌, ◌*◌, ◌<◌, ◌≤◌, min, cond, Bool, List, [], ◌∷◌, ◌++◌, length, Option, Some, None, IsSome, Contains, refl, ap, ◌∙◌, inl, inr, subst, arith, length-append}
use Rattle.std.specs.Prelude.{option_to_list}
use Rattle.std.proofs.lemmas.Bool.{cases_lt, eq-eqb, ne_eqb}
use Rattle.change_ring.specs.declared.change.Change.{Change}
use Rattle.change_ring.specs.Log.{Window, BaseAfter, capacity_after, total}
use Rattle.change_ring.proofs.WindowLaws.{BaseAfter-less}
use Rattle.cursor_set.specs.Cursors.{CursorSet, open_numbers}
use Rattle.mailbox.specs.Events.{Takes, has_room, grows, drops, Moves}

-- a window by its parts
window_is : (w : Window) (base : ℕ) (changes : List Change) (capacity max : ℕ) → w.base ≡ base → w.changes ≡ changes → w.capacity ≡ capacity → w.max ≡ max
    → w ≡ record { base = base; changes = changes; capacity = capacity; max = max }
window_is w base changes capacity max b c k m =
    ap (λ (x : ℕ). let v : Window = record { base = x; changes = w.changes; capacity = w.capacity; max = w.max } in v) b
    ∙ ap (λ (x : List Change). let v : Window = record { base = base; changes = x; capacity = w.capacity; max = w.max } in v) c
    ∙ ap (λ (x : ℕ). let v : Window = record { base = base; changes = changes; capacity = x; max = w.max } in v) k
    ∙ ap (λ (x : ℕ). let v : Window = record { base = base; changes = changes; capacity = capacity; max = x } in v) m

-- what a push leaves, where the ring has room for some change
pub taken : (cursors : CursorSet) (old new : Window) (change : Change) (lost : Option Change) → option_to_list lost ++ new.changes ≡ old.changes ++ change ∷ []
    → new.base ≡ old.base + length (option_to_list lost) → new.capacity ≡ capacity_after old lost → new.max ≡ old.max → (IsSome lost → length old.changes ≡ old.capacity)
    → length new.changes ≤ new.capacity → length old.changes ≤ old.capacity → 0 < old.capacity → (old.capacity < new.capacity → 0 < length old.changes → Contains (open_numbers cursors) old.base) → Takes cursors old change new
taken cursors old new change (Some oldest) window base capacity max full within held some wanted = go old.changes refl
  where
    go : (xs : List Change) → old.changes ≡ xs → Takes cursors old change new
    go [] e = absurd (omega (arith, ap length e, full refl, some))
    go (x ∷ xs) e = drops (full refl) x xs e
        (window_is new (old.base + 1) (xs ++ change ∷ []) old.capacity old.max base (rest (window ∙ ap (λ (ys : List Change). ys ++ change ∷ []) e)) capacity max)
      where
        rest : {y z : Change} {ys zs : List Change} → y ∷ ys ≡ z ∷ zs → ys ≡ zs
        rest h = cc
taken cursors old new change None window base capacity max full within held some wanted = elim (cases_lt (length old.changes) old.capacity) [
  | inl room ↦ has_room room (window_is new old.base (old.changes ++ change ∷ []) old.capacity old.max (omega (arith, base)) window (capacity ∙ ap (λ (b : Bool). cond b (min (2 * old.capacity) old.max) old.capacity) (ne_eqb (length old.changes) old.capacity (λ e. omega (arith, e, room)))) max)
  | inr high ↦
      let is : length old.changes ≡ old.capacity = omega (arith, high, held) in
      let more : new.capacity ≡ min (2 * old.capacity) old.max = capacity ∙ ap (λ (b : Bool). cond b (min (2 * old.capacity) old.max) old.capacity) (eq-eqb (length old.changes) old.capacity is) in
      let longer : length new.changes ≡ old.capacity + 1 = ap length window ∙ length-append old.changes (change ∷ []) ∙ omega (arith, is) in
      let bigger : old.capacity < new.capacity = omega (arith, longer, within) in
      grows is (omega (arith, bigger, more)) (wanted bigger (omega (arith, is, some))) (window_is new old.base (old.changes ++ change ∷ []) (min (2 * old.capacity) old.max) old.max (omega (arith, base)) window more max)
]

-- ---- one change

takes_logged : (cursors : CursorSet) (old new : Window) (c : Change) → Takes cursors old c new → total new ≡ total old + 1
takes_logged cursors old new c (has_room room is) = ap total is ∙ omega (arith, length-append old.changes (c ∷ []))
takes_logged cursors old new c (grows full more wanted is) = ap total is ∙ omega (arith, length-append old.changes (c ∷ []))
takes_logged cursors old new c (drops full x xs split is) = ap total is ∙ omega (arith, length-append xs (c ∷ []), ap length split)

takes_base : (cursors : CursorSet) (old new : Window) (c : Change) → Takes cursors old c new → BaseAfter old.capacity (total old) old.base (c ∷ []) new.base
takes_base cursors old new c (has_room room is) = inl (ap (λ (w : Window). w.base) is)
takes_base cursors old new c (grows full more wanted is) = inl (ap (λ (w : Window). w.base) is)
takes_base cursors old new c (drops full x xs split is) = inr (omega (arith, full), omega (arith, ap (λ (w : Window). w.base) is))

takes_grows : (cursors : CursorSet) (old new : Window) (c : Change) → Takes cursors old c new → old.capacity ≤ new.capacity
takes_grows cursors old new c (has_room room is) = omega (arith, ap (λ (w : Window). w.capacity) is)
takes_grows cursors old new c (grows full more wanted is) = omega (arith, more, ap (λ (w : Window). w.capacity) is)
takes_grows cursors old new c (drops full x xs split is) = omega (arith, ap (λ (w : Window). w.capacity) is)

takes_max : (cursors : CursorSet) (old new : Window) (c : Change) → Takes cursors old c new → new.max ≡ old.max
takes_max cursors old new c (has_room room is) = ap (λ (w : Window). w.max) is
takes_max cursors old new c (grows full more wanted is) = ap (λ (w : Window). w.max) is
takes_max cursors old new c (drops full x xs split is) = ap (λ (w : Window). w.max) is

takes_held : (cursors : CursorSet) (old new : Window) (c : Change) → length old.changes ≤ old.capacity → Takes cursors old c new → length new.changes ≤ new.capacity
takes_held cursors old new c held (has_room room is) = omega (arith, room, ap (λ (w : Window). length w.changes) is, ap (λ (w : Window). w.capacity) is, length-append old.changes (c ∷ []))
takes_held cursors old new c held (grows full more wanted is) = omega (arith, full, more, ap (λ (w : Window). length w.changes) is, ap (λ (w : Window). w.capacity) is, length-append old.changes (c ∷ []))
takes_held cursors old new c held (drops full x xs split is) = omega (arith, full, ap length split, ap (λ (w : Window). length w.changes) is, ap (λ (w : Window). w.capacity) is, length-append xs (c ∷ []))

takes_most : (cursors : CursorSet) (old new : Window) (c : Change) → old.capacity ≤ old.max → Takes cursors old c new → new.capacity ≤ new.max
takes_most cursors old new c most (has_room room is) = omega (arith, most, ap (λ (w : Window). w.capacity) is, ap (λ (w : Window). w.max) is)
takes_most cursors old new c most (grows full more wanted is) = omega (arith, ap (λ (w : Window). w.capacity) is, ap (λ (w : Window). w.max) is)
takes_most cursors old new c most (drops full x xs split is) = omega (arith, most, ap (λ (w : Window). w.capacity) is, ap (λ (w : Window). w.max) is)

-- ---- any changes

pub moves_logged : (cursors : CursorSet) (old new : Window) (cs : List Change) → Moves cursors old new cs → total new ≡ total old + length cs
moves_logged cursors old new [] h = ap total h ∙ omega arith
moves_logged cursors old new (c ∷ cs) h = omega (arith, takes_logged cursors old h.0 c h.1, moves_logged cursors h.0 new cs h.2)

-- how far the base may have risen
pub moves_base : (cursors : CursorSet) (old new : Window) (cs : List Change) → Moves cursors old new cs → BaseAfter old.capacity (total old) old.base cs new.base
moves_base cursors old new [] h = ap (λ (w : Window). w.base) h
moves_base cursors old new (c ∷ cs) h =
    let later : BaseAfter old.capacity (suc (total old)) h.0.base cs new.base =
    subst (λ (t : ℕ). BaseAfter old.capacity t h.0.base cs new.base) (omega (arith, takes_logged cursors old h.0 c h.1))
    (BaseAfter-less h.0.capacity old.capacity (total h.0) h.0.base cs new.base (takes_grows cursors old h.0 c h.1) (moves_base cursors h.0 new cs h.2)) in
    elim (takes_base cursors old h.0 c h.1) [
      | inl stays ↦ inl (subst (λ (b : ℕ). BaseAfter old.capacity (suc (total old)) b cs new.base) stays later)
      | inr rises ↦ inr (rises.0, subst (λ (b : ℕ). BaseAfter old.capacity (suc (total old)) b cs new.base) rises.1 later)
    ]

pub moves_grows : (cursors : CursorSet) (old new : Window) (cs : List Change) → Moves cursors old new cs → old.capacity ≤ new.capacity
moves_grows cursors old new [] h = omega (arith, ap (λ (w : Window). w.capacity) h)
moves_grows cursors old new (c ∷ cs) h = omega (arith, takes_grows cursors old h.0 c h.1, moves_grows cursors h.0 new cs h.2)

pub moves_max : (cursors : CursorSet) (old new : Window) (cs : List Change) → Moves cursors old new cs → new.max ≡ old.max
moves_max cursors old new [] h = ap (λ (w : Window). w.max) h
moves_max cursors old new (c ∷ cs) h = moves_max cursors h.0 new cs h.2 ∙ takes_max cursors old h.0 c h.1

-- what the window has still fits
pub moves_held : (cursors : CursorSet) (old new : Window) (cs : List Change) → length old.changes ≤ old.capacity → Moves cursors old new cs → length new.changes ≤ new.capacity
moves_held cursors old new [] held h = omega (arith, held, ap (λ (w : Window). length w.changes) h, ap (λ (w : Window). w.capacity) h)
moves_held cursors old new (c ∷ cs) held h = moves_held cursors h.0 new cs (takes_held cursors old h.0 c held h.1) h.2

-- and its room is still at most its most
pub moves_most : (cursors : CursorSet) (old new : Window) (cs : List Change) → old.capacity ≤ old.max → Moves cursors old new cs → new.capacity ≤ new.max
moves_most cursors old new [] most h = omega (arith, most, ap (λ (w : Window). w.capacity) h, ap (λ (w : Window). w.max) h)
moves_most cursors old new (c ∷ cs) most h = moves_most cursors h.0 new cs (takes_most cursors old h.0 c most h.1) h.2

pub Moves-append : (cursors : CursorSet) (old middle new : Window) (cs ds : List Change) → Moves cursors old middle cs → Moves cursors middle new ds → Moves cursors old new (cs ++ ds)
Moves-append cursors old middle new [] ds first second = subst (λ (w : Window). Moves cursors w new ds) first second
Moves-append cursors old middle new (c ∷ cs) ds first second = (first.0, first.1, Moves-append cursors first.0 middle new cs ds first.2 second)
