-- Laws of what may be shown to a client.
use Rattle.std.proofs.Common.{ℕ, List, [], ◌∷◌, ◌++◌, sym, subst, append_assoc}
use Rattle.std.proofs.lemmas.List.{take-append-drop}
use Rattle.std.specs.Prelude.{take, drop}
use Rattle.std.specs.List.Sorted.{IsStrictlyIncreasing}
use Rattle.change_ring.specs.declared.change.Change.{Change}
use Rattle.change_ring.specs.declared.change.Change.TheVariants.{Add, Gone, Flags as SetFlags}
use Rattle.change_ring.specs.Log.{IsLegalLog, added, shown, replay, view_at}
use Rattle.change_ring.proofs.LogLaws.{FitsView-first, added-append}
use Rattle.cursor_set.specs.Legal.{IsLegalOn}
use Rattle.cursor_set.proofs.Positions.{Rises, Rises-from, Rises-to, Rises-first, Rises-without}

-- the view's own UIDs rise
pub legal_rises : (view : List ℕ) (cs : List Change) → IsLegalOn view cs → IsStrictlyIncreasing view
legal_rises view cs h = Rises-to view (Rises-first view (added cs) (Rises-from (view ++ added cs) h.rising))

rises_step : (view : List ℕ) (c : Change) (cs : List Change) → Rises (view ++ added (c ∷ cs)) → Rises (shown view c ++ added cs)
rises_step view (Add uid) cs h = subst Rises (sym (append_assoc view (uid ∷ []) (added cs))) h
rises_step view (Gone uid) cs h = Rises-without uid view (added cs) h
rises_step view (SetFlags uid flags) cs h = h

-- what is left after the first change was shown
pub legal_step : (view : List ℕ) (c : Change) (cs : List Change) → IsLegalOn view (c ∷ cs) → IsLegalOn (shown view c) cs
legal_step view c cs h = record {
  rising = Rises-to (shown view c ++ added cs) (rises_step view c cs (Rises-from (view ++ added (c ∷ cs)) h.rising));
  there = h.there.1;
}

-- the first changes
pub legal_first : (view : List ℕ) (xs ys : List Change) → IsLegalOn view (xs ++ ys) → IsLegalOn view xs
legal_first view xs ys h = record {
  rising = Rises-to (view ++ added xs) (Rises-first (view ++ added xs) (added ys)
      (subst Rises (sym (append_assoc view (added xs) (added ys))) (subst (λ (us : List ℕ). Rises (view ++ us)) (added-append xs ys) (Rises-from (view ++ added (xs ++ ys)) h.rising))));
  there = FitsView-first view xs ys h.there;
}

-- the same by how many they are
pub legal_take : (view : List ℕ) (n : ℕ) (cs : List Change) → IsLegalOn view cs → IsLegalOn view (take n cs)
legal_take view n cs h = legal_first view (take n cs) (drop n cs) (subst (IsLegalOn view) (sym (take-append-drop n cs)) h)

-- what is left after the first changes were shown
pub legal_rest : (view : List ℕ) (xs ys : List Change) → IsLegalOn view (xs ++ ys) → IsLegalOn (replay view xs) ys
legal_rest view [] ys h = h
legal_rest view (x ∷ xs) ys h = legal_rest (shown view x) xs ys (legal_step view x (xs ++ ys) h)

-- so it is with any legal log: what follows its first changes may be shown to a client that was shown these
pub legal_log : (log : List Change) (n : ℕ) → IsLegalLog log → IsLegalOn (view_at log n) (drop n log)
legal_log log n h = legal_rest [] (take n log) (drop n log) (subst (IsLegalOn []) (sym (take-append-drop n log)) (record { rising = h.rising; there = h.there }))
