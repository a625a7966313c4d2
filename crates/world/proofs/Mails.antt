-- A mailbox's log stays legal under what an event logs, and a session's cursor under what it is shown.
use Rattle.std.proofs.Common.{◌-◌, ◌≡◌, ℕ, zero, suc, ◌+◌, ◌<◌, ◌≤◌, ◌≢◌, ◌⊎◌, inl, inr, Bool, true, false, cond, ◌&&◌, eqb, List, [], ◌∷◌, ◌++◌, map, length, take, drop, filter, Contains, refl, sym, ap, ◌∙◌, arith, append_assoc, append-nil, length-append, take-append-drop, length-drop}
use Rattle.std.specs.List.{range_with_len}
use Rattle.std.proofs.lemmas.List.{take-append-le, drop-append-le}
use Rattle.std.proofs.Math.Seq.{take-append-add, take-append_seam, length-take-le}
use Rattle.std.proofs.lemmas.Bool.Decides.{eqb_tells}
use Rattle.change_ring.specs.declared.change.Change.{Change}
use Rattle.change_ring.specs.declared.change.Change.TheVariants.{Add, Gone, Flags as SetFlags}
use Rattle.change_ring.specs.declared.flag_op.FlagOp.{FlagOp}
use Rattle.change_ring.specs.Log.{Row, rows_of, without, replay, added, FitsView, discards, flags_after, flags_differ, flags_logged, removals, BaseAfter}
use Rattle.change_ring.proofs.LogLaws.{uids-rows_after}
use Rattle.world.specs.World.{Session, shows}
use Rattle.world.specs.Law.{IsShown, IsPart as Part, none, keeps, skips}
use Rattle.world.proofs.Base.{Every, every_weaker, Rising, part_append, part_both, part_every, part_rising, part_filter, part_map, part_self}

-- membership by recursion on the list
abbrev pub IsIn : {A : Type 0} → A → List A → Type 0
IsIn x [] = ⊥
IsIn x (y ∷ ys) = (x ≡ y) ⊎ IsIn x ys

pub is_in_contains : {A : Type 0} (x : A) (xs : List A) → IsIn x xs → Contains xs x
is_in_contains x [] h = absurd h
is_in_contains x (y ∷ ys) (inl e) = (0, omega arith, sym e)
is_in_contains x (y ∷ ys) (inr h) =
    let c : Contains ys x = is_in_contains x ys h in
    (suc c.0, omega (arith, c.1), c.2)

abbrev pub uids : List Row → List ℕ
uids rows = map (λ r. r.uid) rows

part_without : (u : ℕ) (view : List ℕ) → Part (without u view) view
part_without u [] = none
part_without u (v ∷ view) = go (eqb v u) (part_without u view)
  where
    go : (b : Bool) → Part (without u view) view → Part (cond b view (v ∷ without u view)) (v ∷ view)
    go true h = skips v (part_self view)
    go false h = keeps v h

-- what a client counts is some of what was added
view_part : (view us : List ℕ) (cs : List Change) → Part view us → Part (replay view cs) (us ++ added cs)
view_part view us [] p = rw append-nil p
view_part view us (Add u ∷ cs) p = rw (← append_assoc us (u ∷ []) (added cs)) (view_part (view ++ u ∷ []) (us ++ u ∷ []) cs (part_append (u ∷ []) p))
view_part view us (Gone u ∷ cs) p = view_part (without u view) us cs (part_both p (part_without u view))
view_part view us (SetFlags u f ∷ cs) p = view_part view us cs p

pub rows_rising : (log : List Change) → Rising (λ u v. u < v) (added log) → Rising (λ u v. u < v) (uids (rows_of log))
rows_rising log h = let e : uids (rows_of log) ≡ replay [] log = uids-rows_after [] log in rw e (part_rising (λ u v. u < v) (view_part [] [] log none) h)

still_in : (u v : ℕ) (view : List ℕ) → u < v → IsIn v view → IsIn v (without u view)
still_in u v [] l h = h
still_in u v (x ∷ view) l (inl e) = go (eqb_tells x u)
  where
    go : ((eqb x u ≡ true) × (x ≡ u)) ⊎ ((eqb x u ≡ false) × (x ≢ u)) → IsIn v (without u (x ∷ view))
    go (inl (t, s)) = absurd (omega arith)
    go (inr (t, s)) = rw t (inl e)
still_in u v (x ∷ view) l (inr h) = go (eqb_tells x u) (still_in u v view l h)
  where
    go : ((eqb x u ≡ true) × (x ≡ u)) ⊎ ((eqb x u ≡ false) × (x ≢ u)) → IsIn v (without u view) → IsIn v (without u (x ∷ view))
    go (inl (t, s)) k = rw t h
    go (inr (t, s)) k = rw t (inr k)

gone_there : (view : List ℕ) (rs : List Row) → Rising (λ u v. u < v) (uids rs) → Every (λ u. IsIn u view) (uids rs) → FitsView view (map (λ (r : Row). Gone r.uid) rs)
gone_there view [] o h = tt
gone_there view (r ∷ rs) o h = (is_in_contains r.uid view h.0, gone_there (without r.uid view) rs o.1 (go (uids rs) o.0 h.1))
  where
    go : (us : List ℕ) → Every (λ v. r.uid < v) us → Every (λ u. IsIn u view) us → Every (λ u. IsIn u (without r.uid view)) us
    go [] a b = tt
    go (u ∷ us) a b = (still_in r.uid u view a.0 b.0, go us a.1 b.1)

pub every_in_itself : {A : Type 0} (xs : List A) → Every (λ x. IsIn x xs) xs
every_in_itself [] = tt
every_in_itself (x ∷ xs) = (inl refl, every_weaker (λ y. IsIn y xs) (λ y. IsIn y (x ∷ xs)) (λ y h. inr h) xs (every_in_itself xs))

pub removals_there : (test : ℕ → Bool) (rows : List Row) → Rising (λ u v. u < v) (uids rows) → FitsView (uids rows) (removals test rows)
removals_there test rows o = gone_there (uids rows) (filter (λ (r : Row). r.flags.deleted && test r.uid) rows)
    (part_rising (λ u v. u < v) (part_map (λ (r : Row). r.uid) (part_filter (λ (r : Row). r.flags.deleted && test r.uid) rows)) o)
    (part_every (λ u. IsIn u (uids rows)) (part_map (λ (r : Row). r.uid) (part_filter (λ (r : Row). r.flags.deleted && test r.uid) rows)) (every_in_itself (uids rows)))

pub discards_there : (test : ℕ → Bool) (rows : List Row) → Rising (λ u v. u < v) (uids rows) → FitsView (uids rows) (discards test rows)
discards_there test rows o = gone_there (uids rows) (filter (λ (r : Row). test r.uid) rows)
    (part_rising (λ u v. u < v) (part_map (λ (r : Row). r.uid) (part_filter (λ (r : Row). test r.uid) rows)) o)
    (part_every (λ u. IsIn u (uids rows)) (part_map (λ (r : Row). r.uid) (part_filter (λ (r : Row). test r.uid) rows)) (every_in_itself (uids rows)))

added_gone : (rs : List Row) → added (map (λ (r : Row). Gone r.uid) rs) ≡ []
added_gone [] = refl
added_gone (r ∷ rs) = added_gone rs

pub added_removals : (test : ℕ → Bool) (rows : List Row) → added (removals test rows) ≡ []
added_removals test rows = added_gone (filter (λ (r : Row). r.flags.deleted && test r.uid) rows)

pub added_discards : (test : ℕ → Bool) (rows : List Row) → added (discards test rows) ≡ []
added_discards test rows = added_gone (filter (λ (r : Row). test r.uid) rows)

-- what a store logs names a row among the rows that it looks at
flags_in : (view : List ℕ) (rows : List Row) (u : ℕ) (op : FlagOp) → ((v : ℕ) → IsIn v (uids rows) → IsIn v view) → FitsView view (flags_logged rows u op)
flags_in view [] u op h = tt
flags_in view (r ∷ rows) u op h = go (eqb_tells r.uid u) (flags_in view rows u op (λ v k. h v (inr k)))
  where
    differ : (b : Bool) → r.uid ≡ u → FitsView view (cond b (SetFlags u (flags_after op r.flags) ∷ []) [])
    differ true e = (is_in_contains u view (h u (inl (sym e))), tt)
    differ false e = tt

    go : ((eqb r.uid u ≡ true) × (r.uid ≡ u)) ⊎ ((eqb r.uid u ≡ false) × (r.uid ≢ u)) → FitsView view (flags_logged rows u op) → FitsView view (flags_logged (r ∷ rows) u op)
    go (inl (t, s)) k = rw t (differ (flags_differ r.flags (flags_after op r.flags)) s)
    go (inr (t, s)) k = rw t k

pub flags_there : (rows : List Row) (u : ℕ) (op : FlagOp) → FitsView (uids rows) (flags_logged rows u op)
flags_there rows u op = flags_in (uids rows) rows u op (λ v k. k)

pub added_flags : (rows : List Row) (u : ℕ) (op : FlagOp) → added (flags_logged rows u op) ≡ []
added_flags [] u op = refl
added_flags (r ∷ rows) u op = go (eqb r.uid u) (flags_differ r.flags (flags_after op r.flags)) (added_flags rows u op)
  where
    go : (a b : Bool) → added (flags_logged rows u op) ≡ [] → added (cond a (cond b (SetFlags u (flags_after op r.flags) ∷ []) []) (flags_logged rows u op)) ≡ []
    go true true h = refl
    go true false h = refl
    go false b h = h

range_above : (low u n : ℕ) → low < u → Every (λ v. low < v) (range_with_len u n)
range_above low u zero h = tt
range_above low u (suc n) h = (h, range_above low (u + 1) n (omega arith))

pub range_rising : (u n : ℕ) → Rising (λ v w. v < w) (range_with_len u n)
range_rising u zero = tt
range_rising u (suc n) = (range_above u (u + 1) n (omega arith), range_rising (u + 1) n)

pub base_within : (ring total base : ℕ) (cs : List Change) (new : ℕ) → base ≤ total → BaseAfter ring total base cs new → new ≤ total + length cs
base_within ring total base [] new h b = omega (arith, b)
base_within ring total base (c ∷ cs) new h (inl b) = omega (arith, base_within ring (suc total) base cs new (omega arith) b)
base_within ring total base (c ∷ cs) new h (inr b) = omega (arith, base_within ring (suc total) (suc base) cs new (omega arith) b.1)

pub window_full : (ring total base : ℕ) (cs : List Change) (new : ℕ) → base ≤ total → (0 < base → ring ≤ total - base) → BaseAfter ring total base cs new → 0 < new → ring ≤ total + length cs - new
window_full ring total base [] new h k b p = let q : ring ≤ total - base = k (omega (arith, b)) in omega (arith, b, q)
window_full ring total base (c ∷ cs) new h k (inl b) p = omega (arith, window_full ring (suc total) base cs new (omega arith) (λ q. omega (arith, k q)) b p)
window_full ring total base (c ∷ cs) new h k (inr b) p = omega (arith, window_full ring (suc total) (suc base) cs new (omega arith) (λ q. omega (arith, b.0)) b.1 p)

-- Sessions

pub shown_grows : (log cs : List Change) (s : Session) → IsShown log s → IsShown (log ++ cs) s
shown_grows log cs s h = record {
  shown = h.shown ∙ ap (drop s.start) (sym (take-append-le s.cursor log cs h.within));
  began = h.began;
  within = rw length-append (omega (arith, h.within));
}

pub shown_more : (log cs rest : List Change) (s : Session) → IsShown log s → cs ++ rest ≡ drop s.cursor log → IsShown log (shows s cs)
shown_more log cs rest s h e = record {
  shown = ap (λ xs. xs ++ cs) h.shown ∙ sym whole;
  began = omega (arith, h.began);
  within = omega (arith, h.within, ap length e, length-append cs rest, length-drop s.cursor log);
}
  where
    long : length (take s.cursor log) ≡ s.cursor
    long = length-take-le s.cursor log h.within

    split : take (s.cursor + length cs) log ≡ take s.cursor log ++ cs
    split = ap (take (s.cursor + length cs)) (sym (ap (λ xs. take s.cursor log ++ xs) e ∙ take-append-drop s.cursor log))
        ∙ (ap (λ n. take (n + length cs) (take s.cursor log ++ (cs ++ rest))) (sym long)
        ∙ (take-append-add (take s.cursor log) (cs ++ rest) (length cs)
        ∙ ap (λ xs. take s.cursor log ++ xs) (take-append_seam cs rest)))

    whole : drop s.start (take (s.cursor + length cs) log) ≡ drop s.start (take s.cursor log) ++ cs
    whole = ap (drop s.start) split ∙ drop-append-le s.start (take s.cursor log) cs (omega (arith, long, h.began))
