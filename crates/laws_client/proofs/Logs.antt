-- What a log leaves: the UIDs that are counted are among those that were added, so they are as small and as few; and the changes that are shown speak of these alone.
use Rattle.std.proofs.Common.{◌≡◌, ℕ, zero, suc, ◌+◌, ◌^◌, ◌<◌, ◌≤◌, Bool, true, false, ◌==◌, List, [], ◌∷◌, ◌++◌, length, take, drop, Contains, sym, subst, ap, ◌∙◌, arith, length-append, append_assoc}
use Rattle.std.specs.Prelude.{if◌then◌else◌}
use Rattle.std.specs.List.{range_with_len}
use Rattle.std.proofs.lemmas.List.{take-append-drop, length-take-le, take-append-le}
use Rattle.std.proofs.Math.Seq.{take-append_seam, take-append-add}
use Rattle.change_ring.specs.declared.change.Change.{Change}
use Rattle.change_ring.specs.declared.change.Change.TheVariants.{Add, Gone, Flags as SetFlags}
use Rattle.change_ring.specs.Log.{without, replay, added, view_at, FitsView}
use Rattle.change_ring.proofs.LogLaws.{replay-append}
use Rattle.laws_client.specs.Beliefs.{ArePrinted}
use Rattle.laws_client.specs.Fetches.{AreSmall}

-- ---- small numbers

pub small_append : (xs ys : List ℕ) → AreSmall xs → AreSmall ys → AreSmall (xs ++ ys)
small_append [] ys h k = k
small_append (x ∷ xs) ys h k = (h.0, small_append xs ys h.1 k)

pub small_front : (xs ys : List ℕ) → AreSmall (xs ++ ys) → AreSmall xs
small_front [] ys h = tt
small_front (x ∷ xs) ys h = (h.0, small_front xs ys h.1)

pub small_behind : (xs ys : List ℕ) → AreSmall (xs ++ ys) → AreSmall ys
small_behind [] ys h = h
small_behind (x ∷ xs) ys h = small_behind xs ys h.1

small_without : (uid : ℕ) (xs : List ℕ) → AreSmall xs → AreSmall (without uid xs)
small_without uid [] h = tt
small_without uid (x ∷ xs) h = by (x == uid) (small_without uid xs h.1)
  where
    by : (b : Bool) → AreSmall (without uid xs) → AreSmall (if b then xs else x ∷ without uid xs)
    by true more = h.1
    by false more = (h.0, more)

pub small_replay : (view : List ℕ) (cs : List Change) → AreSmall view → AreSmall (added cs) → AreSmall (replay view cs)
small_replay view [] v a = v
small_replay view (Add uid ∷ cs) v a = small_replay (view ++ uid ∷ []) cs (small_append view (uid ∷ []) v (a.0, tt)) a.1
small_replay view (Gone uid ∷ cs) v a = small_replay (without uid view) cs (small_without uid view v) a
small_replay view (SetFlags uid flags ∷ cs) v a = small_replay view cs v a

pub small_range : (a n : ℕ) → a + n ≤ 2 ^ 64 → AreSmall (range_with_len a n)
small_range a zero h = tt
small_range a (suc n) h = (omega (arith, h), small_range (a + 1) n (omega (arith, h)))

small_in : (view : List ℕ) (uid : ℕ) → AreSmall view → Contains view uid → uid < 2 ^ 64
small_in [] uid h (i, l, e) = absurd (omega arith)
small_in (v ∷ view) uid h (zero, l, e) = subst (λ (n : ℕ). n < 2 ^ 64) e h.0
small_in (v ∷ view) uid h (suc i, l, e) = small_in view uid h.1 (i, omega arith, e)

pub are_printed : (view : List ℕ) (cs : List Change) → AreSmall view → AreSmall (added cs) → FitsView view cs → ArePrinted cs
are_printed view [] v a fits = tt
are_printed view (Add uid ∷ cs) v a fits = are_printed (view ++ uid ∷ []) cs (small_append view (uid ∷ []) v (a.0, tt)) a.1 fits.1
are_printed view (Gone uid ∷ cs) v a fits = are_printed (without uid view) cs (small_without uid view v) a fits.1
are_printed view (SetFlags uid flags ∷ cs) v a fits = (small_in view uid v fits.0, are_printed view cs v a fits.1)

-- ---- how many

length_without : (uid : ℕ) (xs : List ℕ) → length (without uid xs) ≤ length xs
length_without uid [] = omega arith
length_without uid (x ∷ xs) = by (x == uid) (length_without uid xs)
  where
    by : (b : Bool) → length (without uid xs) ≤ length xs → length (if b then xs else x ∷ without uid xs) ≤ length (x ∷ xs)
    by true more = omega arith
    by false more = omega (arith, more)

pub length_replay : (view : List ℕ) (cs : List Change) → length (replay view cs) ≤ length view + length (added cs)
length_replay view [] = omega arith
length_replay view (Add uid ∷ cs) = omega (arith, length_replay (view ++ uid ∷ []) cs, length-append view (uid ∷ []))
length_replay view (Gone uid ∷ cs) = omega (arith, length_replay (without uid view) cs, length_without uid view)
length_replay view (SetFlags uid flags ∷ cs) = length_replay view cs

-- ---- a log that was shown up to a position

-- the first changes, and of those behind them the first, are as many first changes, whatever is logged behind
pub taken : (c l : ℕ) (log more : List Change) → c ≤ length log → take (c + length (take l (drop c log))) (log ++ more) ≡ take c log ++ take l (drop c log)
taken c l log more h =
    let front : List Change = take c log in
    let next : List Change = take l (drop c log) in
    let rest : List Change = drop l (drop c log) ++ more in
    let long : length front ≡ c = length-take-le c log h in
    let split : log ++ more ≡ front ++ (next ++ rest) = whole (sym (take-append-drop c log)) (sym (take-append-drop l (drop c log))) in
    ap (take (c + length next)) split
    ∙ ap (λ n. take (n + length next) (front ++ (next ++ rest))) (sym long)
    ∙ take-append-add front (next ++ rest) (length next)
    ∙ ap (λ xs. front ++ xs) (take-append_seam next rest)
  where
    regroup : (a b d e : List Change) → (a ++ (b ++ d)) ++ e ≡ a ++ (b ++ (d ++ e))
    regroup a b d e = simp append_assoc

    whole : log ≡ take c log ++ drop c log → drop c log ≡ take l (drop c log) ++ drop l (drop c log) → log ++ more ≡ take c log ++ (take l (drop c log) ++ (drop l (drop c log) ++ more))
    whole e f = ap (λ xs. xs ++ more) (e ∙ ap (λ xs. take c log ++ xs) f) ∙ regroup (take c log) (take l (drop c log)) (drop l (drop c log)) more

-- so a session that is shown these counts what they leave of what it counted
pub view_then : (c l : ℕ) (log more : List Change) → c ≤ length log → view_at (log ++ more) (c + length (take l (drop c log))) ≡ replay (view_at log c) (take l (drop c log))
view_then c l log more h = ap (replay []) (taken c l log more h) ∙ replay-append [] (take c log) (take l (drop c log))

-- and one that is shown nothing counts what it counted
pub view_stays : (c : ℕ) (log more : List Change) → c ≤ length log → view_at (log ++ more) c ≡ view_at log c
view_stays c log more h = ap (replay []) (take-append-le c log more h)
