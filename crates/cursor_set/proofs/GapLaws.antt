-- Laws of a view that has a gap.
use Rattle.std.proofs.Common.{◌≡◌, ℕ, ◌+◌, ◌-◌, ◌<◌, ◌≤◌, List, ◌++◌, take, drop, length, get_or, sym, ap, ◌∙◌, inl, inr, arith, length-append, length-drop}
use Rattle.std.specs.Prelude.{remove}
use Rattle.std.specs.List.{CopiedTo, SameBelow, SameFrom}
use Rattle.std.proofs.lemmas.Bool.{cases_lt}
use Rattle.std.proofs.lemmas.List.{same_lists, length-take-le, get_or-take, get_or-drop, get_or_append_left, get_or-append_right, drop-drop}
use Rattle.std.proofs.lemmas.List.Edits.{remove-append_right}
use Rattle.cursor_set.specs.declared.gap.Gap.{Gap}
use Rattle.cursor_set.specs.Gap.{around, IsGapOf}

-- how many UIDs there are
pub length_around : (gap : Gap) (view : List ℕ) → IsGapOf gap view → length (around gap view) + (gap.end - gap.start) ≡ length view
length_around gap view h =
    let start : gap.start ≤ length view = omega (arith, h.rising, h.within) in
    let front : length (take gap.start view) ≡ gap.start = length-take-le gap.start view start in
    omega (arith, h.rising, h.within, front, length-append (take gap.start view) (drop gap.end view), length-drop gap.end view)

-- a UID before the gap, and one behind it
pub around_before : (gap : Gap) (view : List ℕ) → IsGapOf gap view → (k d : ℕ) → k < gap.start → get_or (around gap view) k d ≡ get_or view k d
around_before gap view h k d low =
    let start : gap.start ≤ length view = omega (arith, h.rising, h.within) in
    let front : length (take gap.start view) ≡ gap.start = length-take-le gap.start view start in
    get_or_append_left (take gap.start view) (drop gap.end view) d k (omega (arith, front, low)) ∙ get_or-take gap.start view k d low

pub around_behind : (gap : Gap) (view : List ℕ) → IsGapOf gap view → (k d : ℕ) → gap.start ≤ k → get_or (around gap view) k d ≡ get_or view (gap.end + (k - gap.start)) d
around_behind gap view h k d high =
    let start : gap.start ≤ length view = omega (arith, h.rising, h.within) in
    let front : length (take gap.start view) ≡ gap.start = length-take-le gap.start view start in
    get_or-append_right (take gap.start view) (drop gap.end view) gap.start k d front high ∙ get_or-drop gap.end view (k - gap.start) d

-- the gap moves up
pub moved_up : (start end index : ℕ) (view new : List ℕ) → start ≤ end → end + (index - start) ≤ length view → start ≤ index → length new ≡ length view →
    CopiedTo view new end start (end + (index - start) - end) → SameBelow view new start → SameFrom view new (start + (end + (index - start) - end)) →
    take index new ++ drop (end + (index - start)) new ≡ take start view ++ drop end view
moved_up start end index view new rising within high long copied below from =
    let old : Gap = record { start = start; end = end } in
    let gap : Gap = record { start = index; end = end + (index - start) } in
    let h : IsGapOf old view = record { rising = rising; within = omega (arith, within) } in
    let g : IsGapOf gap new = record { rising = omega arith; within = omega (arith, within, long) } in
    let one = length_around old view h in
    let two = length_around gap new g in
    same_lists (around gap new) (around old view) (omega (arith, one, two, long, rising, within, high)) (λ k d l. elim (cases_lt k index) [
      | inl less ↦ around_before gap new g k d less ∙ elim (cases_lt k start) [
        | inl front ↦ below k d front ∙ sym (around_before old view h k d front)
        | inr rest ↦
            copied k d rest (omega (arith, less, rest))
            ∙ sym (around_behind old view h k d rest)
      ]
      | inr more ↦
          around_behind gap new g k d more
          ∙ from (end + (index - start) + (k - index)) d (omega (arith, more, high, rising))
          ∙ (let e : end + (index - start) + (k - index) ≡ end + (k - start) = omega (arith, more, high) in ap (λ (i : ℕ). get_or view i d) e)
          ∙ sym (around_behind old view h k d (omega (arith, more, high)))
    ])

-- one more UID falls into the gap
pub around_more : (start end : ℕ) (view : List ℕ) → start ≤ end → end ≤ length view → take start view ++ drop (end + 1) view ≡ remove (take start view ++ drop end view) start
around_more start end view rising within =
    let low : start ≤ length view = omega (arith, rising, within) in
    let none : 0 ≡ start - start = omega arith in
    ap (λ (xs : List ℕ). take start view ++ xs) (sym (drop-drop 1 end view))
    ∙ ap (λ (k : ℕ). take start view ++ remove (drop end view) k) none
    ∙ sym (remove-append_right (take start view) (drop end view) start start (length-take-le start view low) (omega arith))
