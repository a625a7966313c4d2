-- What a permit that has seen what was put rules out.
use Rattle.std.proofs.Common.{◌≡◌, ◌≢◌, ℕ, ◌<◌, ◌≤◌, true, false, List, zero, suc, refl, None, [], ◌∷◌, ◌++◌, length, sym, ap, ◌∙◌, subst, arith, length-append, lt_of_not-le}
use native.Mathlib.Decide.{ℕ_discrete, dec_le}
use Rattle.shard_queue.specs.declared.lane.Entry.{Entry}
use Rattle.shard_queue.specs.declared.lane.Entry.TheVariants.{End}
use Rattle.shard_queue.specs.Shared.{Saw, consumer, sender}
use Rattle.shard_queue.specs.Lane.{producer, of, has_end, Lane, EndsLast, IsMerge, empty_lane, put}
use Rattle.shard_queue.specs.Permits.{WasFull, WasEmpty}
use Rattle.shard_queue.proofs.LaneLaws.{of_append, of_own, after_end, empty_merge, merge_put}

module _ {T : Type 0} where
  none : (xs : List (Entry T)) → length xs ≡ 0 → xs ≡ []
  none [] e = ap (λ (n : ℕ). []) e
  none (x ∷ xs) e = absurd (omega arith)

  pub nothing_left : (n room : ℕ) (got others : List (Entry T)) → WasEmpty n room got (got ++ others) → others ≡ []
  nothing_left n room got others h =
      let a : length got ≡ length ((got ++ others) ++ h.4.0) = ap length h.4.1 in
      let b = length-append (got ++ others) h.4.0 in
      let c = length-append got others in
      none others (omega arith)

  -- where each other producer has ended, nobody puts any more but this one
  module _ (n room p : ℕ) (sent seen : List (Entry T)) (ended : (q : ℕ) → q < n → q ≢ p → has_end (of q seen) ≡ true) (own : of p seen ≡ sent)
      (l : Lane T) (m : IsMerge n room l) (is : l.sent p ≡ sent) where
    of_all : (more : List (Entry T)) → l.got ++ l.waiting ≡ seen ++ more → (q : ℕ) → of q seen ++ of q more ≡ l.sent q
    of_all more e q = sym (of_append q seen more) ∙ ap (of q) (sym e) ∙ m.each q

    module _ (x : Entry T) (xs : List (Entry T)) (e : l.got ++ l.waiting ≡ seen ++ x ∷ xs) where
      here : of (producer x) (x ∷ xs) ≡ x ∷ of (producer x) xs
      here = of_own (producer x) x xs (λ i. producer x)

      some_of : length (of (producer x) (x ∷ xs)) ≡ 0 → ⊥
      some_of z = let a = ap length here in omega arith

      not_own : producer x ≡ p → ⊥
      not_own same =
          let a : of (producer x) seen ++ of (producer x) (x ∷ xs) ≡ of (producer x) seen =
          of_all (x ∷ xs) e (producer x) ∙ ap l.sent same ∙ is ∙ sym own ∙ ap (λ q. of q seen) (sym same) in
          let b = ap length a in
          let c = length-append (of (producer x) seen) (of (producer x) (x ∷ xs)) in
          some_of (omega arith)

      not_unknown : n ≤ producer x → ⊥
      not_unknown big =
          let a : of (producer x) seen ++ of (producer x) (x ∷ xs) ≡ [] = of_all (x ∷ xs) e (producer x) ∙ m.known (producer x) big in
          let b = ap length a in
          let c = length-append (of (producer x) seen) (of (producer x) (x ∷ xs)) in
          some_of (omega arith)

      not_other : producer x < n → producer x ≢ p → ⊥
      not_other less apart =
          let legal : EndsLast (of (producer x) seen ++ of (producer x) (x ∷ xs)) = subst EndsLast (sym (of_all (x ∷ xs) e (producer x))) (m.legal (producer x)) in
          some_of (ap length (after_end (of (producer x) seen) (of (producer x) (x ∷ xs)) legal (ended (producer x) less apart)))

      nobody : ⊥
      nobody = by_case (ℕ_discrete (producer x) p) (dec_le n (producer x)) where
        by_case : Dec (producer x ≡ p) → Dec (n ≤ producer x) → ⊥
        by_case (yes d) k = not_own d
        by_case (no d) (yes k) = not_unknown k
        by_case (no d) (no k) = not_other (lt_of_not-le k) d

    no_more : (more : List (Entry T)) → l.got ++ l.waiting ≡ seen ++ more → length l.waiting ≤ length seen
    no_more [] e =
        let a = ap length e in let b = length-append l.got l.waiting in let c = length-append seen [] in omega arith
    no_more (x ∷ xs) e = absurd (nobody x xs e)

  pub was_filled : (n room p : ℕ) (sent seen : List (Entry T)) → ((q : ℕ) → q < n → q ≢ p → has_end (of q seen) ≡ true) → of p seen ≡ sent → WasFull n room p sent seen → room ≤ length seen
  was_filled n room p sent seen ended own h = let a = no_more n room p sent seen ended own h.0 h.1 h.3 h.4.0 h.4.1 in let b = h.2 in omega arith

  -- one entry waits, which the consumer has seen: it was left behind what it took
  pub look_not_empty : ((n room : ℕ) (got seen waiting : List (Entry T)) → Saw (consumer n n got None seen) waiting → WasEmpty n room got seen) → ⊥
  look_not_empty all =
      let e : Entry T = End 0 in
      let l : Lane T = put empty_lane e in
      let m : IsMerge 1 1 l = merge_put 1 1 empty_lane e (empty_merge 1 1) (omega arith) refl (omega arith) in
      let h = nothing_left 1 1 [] (e ∷ []) (all 1 1 [] (e ∷ []) (e ∷ []) (1, 1, l, refl, m, (refl, refl, refl, tt, ([], refl)))) in
      let a = ap length h in omega arith

  abbrev end_of_1 : Entry T
  end_of_1 = End 1

  other_ended : (e : Entry T) → e ≡ end_of_1 → (q : ℕ) → q < 2 → q ≢ 0 → has_end (of q (e ∷ [])) ≡ true
  other_ended e is zero less apart = absurd (apart refl)
  other_ended e is (suc zero) less apart = ap (λ x. has_end (of 1 (x ∷ []))) is
  other_ended e is (suc (suc q)) less apart = absurd (omega arith)

  -- the other producer has ended, and this one has sent nothing: there is room for more than one
  pub look_not_full : ((n room p : ℕ) (sent seen waiting : List (Entry T)) → has_end sent ≡ false → Saw (sender n p sent seen) waiting → WasFull n room p sent seen) → ⊥
  look_not_full all =
      let e : Entry T = end_of_1 in
      let l : Lane T = put empty_lane e in
      let m : IsMerge 2 1 l = merge_put 2 1 empty_lane e (empty_merge 2 1) (omega arith) refl (omega arith) in
      let a = was_filled 2 3 0 [] (e ∷ []) (other_ended e refl) refl (all 2 3 0 [] (e ∷ []) (e ∷ []) refl (2, 2, l, refl, m, (refl, refl, ([], refl)))) in omega arith
