-- One change is shown, and the rest is left.
use Rattle.std.proofs.Common.{◌≡◌, ℕ, List, [], ◌∷◌, ◌++◌, sym, subst, ap, ap₂, ◌∙◌, refl, append_assoc}
use Rattle.std.specs.List.Sorted.{IsStrictlyIncreasing}
use Rattle.change_ring.specs.declared.change.Change.{Change}
use Rattle.change_ring.specs.declared.change.Change.TheVariants.{Add}
use Rattle.change_ring.specs.Log.{FitsView, added, shown, replay}
use Rattle.cursor_set.specs.Lines.{line, lines}
use Rattle.cursor_set.proofs.Positions.{Rises-from, Rises-to, Rises-first}

module _ (view new : List ℕ) (x : Change) (all rest : List Change) (split : all ≡ x ∷ rest) (now : new ≡ shown view x) where
  pub fits_after : FitsView view all → FitsView new rest
  fits_after h = subst (λ (v : List ℕ). FitsView v rest) (sym now) (subst (FitsView view) split h).1

  pub replay_after : replay new rest ≡ replay view all
  replay_after = ap (λ (v : List ℕ). replay v rest) now ∙ sym (ap (replay view) split)

  pub lines_after : (out text : List ℕ) → text ≡ out ++ line view x → text ++ lines new rest ≡ out ++ lines view all
  lines_after out text e =
      ap₂ (λ (t v : List ℕ). t ++ lines v rest) e now
      ∙ append_assoc out (line view x) (lines (shown view x) rest)
      ∙ sym (ap (λ (cs : List Change). out ++ lines view cs) split)

-- UIDs that rise still do behind one more, and the first of them do
pub rises_after_add : (view : List ℕ) (uid : ℕ) (later : List Change) → IsStrictlyIncreasing (view ++ added (Add uid ∷ later)) → IsStrictlyIncreasing ((view ++ uid ∷ []) ++ added later)
rises_after_add view uid later h = subst IsStrictlyIncreasing (sym (append_assoc view (uid ∷ []) (added later))) h

pub first_rises : (view later : List ℕ) → IsStrictlyIncreasing (view ++ later) → IsStrictlyIncreasing view
first_rises view later h = Rises-to view (Rises-first view later (Rises-from (view ++ later) h))

pub lines-append : (view : List ℕ) (xs ys : List Change) → lines view (xs ++ ys) ≡ lines view xs ++ lines (replay view xs) ys
lines-append view [] ys = refl
lines-append view (x ∷ xs) ys = ap (λ (t : List ℕ). line view x ++ t) (lines-append (shown view x) xs ys) ∙ sym (append_assoc (line view x) (lines (shown view x) xs) (lines (replay view (x ∷ xs)) ys))
