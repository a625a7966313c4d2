-- The history of `HistoryRows` is a legal one: what is worked out there, and refused in `HistoryRefuted`, may come about.
use Rattle.std.proofs.Common.{◌≡◌, ◌<◌, ◌==◌, ◌&&◌, inl, inr, ℕ, zero, suc, Bool, true, false, List, [], ◌∷◌, ◌++◌, refl, sym, ap, subst, ◌∙◌, append-nil, Some, None, AllPairs, get_or, if◌then◌else◌, arith}
use Rattle.std.specs.List.{cons_option}
use Rattle.std.specs.List.Sorted.{IsStrictlyIncreasing}
use Rattle.std.proofs.lemmas.Bool.{eqb-true, false≢true}
use Rattle.change_ring.specs.declared.change.Change.{Change}
use Rattle.change_ring.specs.Log.{IsLegalLog, rows_of}
use Rattle.delivery_token.specs.declared.Job.{Job}
use Rattle.delivery_token.specs.declared.Refusal.TheVariants.{Full}
use Rattle.delivery_token.specs.declared.Verdict.TheVariants.{Stored, Refused}
use Rattle.house_history.specs.declared.event.Event as house
use Rattle.house_history.specs.declared.event.Event.TheVariants.{Changed, Judged, Sent, Withdrawn}
use Rattle.house_history.specs.Events.{arrives, changes_from, changes_in, life, logged}
use Rattle.house_history.specs.Legal.{GivesUid, IsBefore, IsLife, Legal, judged, unused}
use Rattle.laws_client.specs.rows.HistoryRows.{emptied, first, other, second, third}

abbrev pick : {A : Type 0} → Bool → A → A → A
pick b x y = if b then x else y

apart : (a b : ℕ) → (a ≡ b → ⊥) → (a == b) ≡ false
apart a b different = by (a == b) refl
  where
    by : (x : Bool) → (a == b) ≡ x → x ≡ false
    by true e = absurd (different (eqb-true a b e))
    by false e = refl

-- ---- copies

-- of each seat the keys of what it sent rise
one_seat : (b : Bool) → AllPairs (λ (x y : Job × ℕ). IsBefore x.0 y.0)
    (cons_option (if b then Some (first, 0) else None) (cons_option (if b then Some (second, 1) else None)
    (cons_option (if b then Some (third, 2) else None) (cons_option (if b then Some (other, 3) else None) []))))
one_seat true zero (suc zero) d before inside = inr (refl, inl (omega arith))
one_seat true zero (suc (suc zero)) d before inside = inr (refl, inl (omega arith))
one_seat true zero (suc (suc (suc zero))) d before inside = inr (refl, inl (omega arith))
one_seat true (suc zero) (suc (suc zero)) d before inside = inr (refl, inl (omega arith))
one_seat true (suc zero) (suc (suc (suc zero))) d before inside = inr (refl, inl (omega arith))
one_seat true (suc (suc zero)) (suc (suc (suc zero))) d before inside = inr (refl, inl (omega arith))
one_seat _ i j d before inside = absurd (omega (arith, before, inside))

-- no other ticket was given
no_life : (t : ℕ) (a b c d : Bool) → a ≡ false → b ≡ false → c ≡ false → d ≡ false
    → IsLife t (cons_option (if a then Some (Sent first 0) else None) (cons_option (if a then Some (Judged first (Stored 7) 0) else None)
    (cons_option (if b then Some (Sent second 1) else None) (cons_option (if b then Some (Judged second (Stored 8) 1) else None)
    (cons_option (if c then Some (Sent third 2) else None) (cons_option (if c then Some (Judged third (Refused Full) 2) else None)
    (cons_option (if d then Some (Sent other 3) else None) (cons_option (if d then Some (Judged other (Stored 9) 3) else None) []))))))))
no_life t false false false false e f g h = unused
no_life t true b c d e f g h = absurd (false≢true (sym e))
no_life t false true c d e f g h = absurd (false≢true (sym f))
no_life t false false true d e f g h = absurd (false≢true (sym g))
no_life t false false false true e f g h = absurd (false≢true (sym h))

-- each copy is sent once and judged once
lives : (t : ℕ) → IsLife t (life t emptied)
lives zero = judged first (Stored 7)
lives (suc zero) = judged second (Stored 8)
lives (suc (suc zero)) = judged third (Refused Full)
lives (suc (suc (suc zero))) = judged other (Stored 9)
lives (suc (suc (suc (suc t)))) =
    let n : ℕ = suc (suc (suc (suc t))) in
    no_life n (0 == n) (1 == n) (2 == n) (3 == n)
    (apart 0 n (λ e. omega (arith, e))) (apart 1 n (λ e. omega (arith, e))) (apart 2 n (λ e. omega (arith, e))) (apart 3 n (λ e. omega (arith, e)))

-- in each mailbox the keys of what was judged rise
one_box : (m : ℕ) (a b q : Bool) → (0 == m) ≡ a → (1 == m) ≡ b → AllPairs IsBefore
    (cons_option (if a && q then Some first else None) (cons_option (if a && q then Some second else None)
    (cons_option (if a && q then Some third else None) (cons_option (if b && q then Some other else None) []))))
one_box m true true q e f i j d before inside = absurd (omega (arith, eqb-true 0 m e, eqb-true 1 m f))
one_box m true false true e f zero (suc zero) d before inside = inr (refl, inl (omega arith))
one_box m true false true e f zero (suc (suc zero)) d before inside = inr (refl, inl (omega arith))
one_box m true false true e f (suc zero) (suc (suc zero)) d before inside = inr (refl, inl (omega arith))
one_box m true false true e f i j d before inside = absurd (omega (arith, before, inside))
one_box m true false false e f i j d before inside = absurd (omega (arith, before, inside))
one_box m false true true e f i j d before inside = absurd (omega (arith, before, inside))
one_box m false true false e f i j d before inside = absurd (omega (arith, before, inside))
one_box m false false q e f i j d before inside = absurd (omega (arith, before, inside))

-- ---- changes

-- none of these events changes mailbox m
abbrev Elsewhere : ℕ → List house.Event → Type 0
Elsewhere m [] = Unit {0}
Elsewhere m (Sent j t ∷ events) = Elsewhere m events
Elsewhere m (Withdrawn t ∷ events) = Elsewhere m events
Elsewhere m (Judged j v t ∷ events) = ((j.mailbox == m) ≡ false) × Elsewhere m events
Elsewhere m (Changed n s ∷ events) = ((n == m) ≡ false) × Elsewhere m events

elsewhere : (m : ℕ) (log : List Change) (events : List house.Event) → Elsewhere m events → changes_from m log events ≡ log
elsewhere m log [] h = refl
elsewhere m log (Sent j t ∷ events) h = elsewhere m (log ++ []) events h ∙ append-nil log
elsewhere m log (Withdrawn t ∷ events) h = elsewhere m (log ++ []) events h ∙ append-nil log
elsewhere m log (Judged j v t ∷ events) h =
    elsewhere m _ events h.1 ∙ ap (λ (b : Bool). log ++ pick b (arrives j v) []) h.0 ∙ append-nil log
elsewhere m log (Changed n s ∷ events) h =
    elsewhere m _ events h.1 ∙ ap (λ (b : Bool). log ++ pick b (logged s (rows_of log)) []) h.0 ∙ append-nil log

two_rise : IsStrictlyIncreasing (7 ∷ 8 ∷ [])
two_rise zero less = omega arith
two_rise (suc i) less = absurd (omega (arith, less))

-- UIDs rise, and each change speaks of a message that is there
logs : (m : ℕ) → IsLegalLog (changes_in m emptied)
logs zero = record {
  rising = two_rise;
  there = (tt, (tt, ((1, omega arith, refl), ((0, omega arith, refl), ((1, omega arith, refl), ((1, omega arith, refl), tt))))));
}
logs (suc zero) = record { rising = λ i less. absurd (omega (arith, less)); there = (tt, tt) }
logs (suc (suc m)) =
    let n : ℕ = suc (suc m) in
    let a : (0 == n) ≡ false = apart 0 n (λ e. omega (arith, e)) in
    let b : (1 == n) ≡ false = apart 1 n (λ e. omega (arith, e)) in
    subst IsLegalLog (sym (elsewhere n [] emptied (a, (a, (a, (b, (a, (a, (a, tt)))))))))
    (record { rising = λ i less. absurd (omega (arith, less)); there = tt })

uids : (i : ℕ) (d : house.Event) → i < 11 → GivesUid (get_or emptied i d)
uids zero d inside = tt
uids (suc zero) d inside = omega arith
uids (suc (suc zero)) d inside = tt
uids (suc (suc (suc zero))) d inside = omega arith
uids (suc (suc (suc (suc zero)))) d inside = tt
uids (suc (suc (suc (suc (suc zero))))) d inside = tt
uids (suc (suc (suc (suc (suc (suc zero)))))) d inside = tt
uids (suc (suc (suc (suc (suc (suc (suc zero))))))) d inside = omega arith
uids (suc (suc (suc (suc (suc (suc (suc (suc zero)))))))) d inside = tt
uids (suc (suc (suc (suc (suc (suc (suc (suc (suc zero))))))))) d inside = tt
uids (suc (suc (suc (suc (suc (suc (suc (suc (suc (suc zero)))))))))) d inside = tt
uids (suc (suc (suc (suc (suc (suc (suc (suc (suc (suc (suc i))))))))))) d inside = absurd (omega (arith, inside))

is_legal : Legal emptied
is_legal = record { sent_rise = λ p. one_seat (0 == p); lives = lives; judged_rise = λ m p. one_box m (0 == m) (1 == m) (0 == p) refl refl; logs = logs; uids = uids }
