-- Each step of a permit keeps the rule of a shared lane.
use Rattle.std.proofs.Common.{◌≡◌, ◌≢◌, ℕ, zero, suc, ◌≤◌, ◌<◌, true, false, true≢false, List, [], ◌∷◌, ◌++◌, length, set, sym, refl, ap, ◌∙◌, subst, ⊎_elim, inl, inr, ◌⊎◌, length-set, length-append, arith, Option, Some, None, append_assoc, append-nil}
use mathlib.Core.Option.{some, some-injective, some-ne-none}
use lib.ListN.{get_elem?}
use Rattle.crossbeam_queue.specs.Fifo.{Pushes, Pops, Forks, Merges, Learns}
use Rattle.crossbeam_queue.proofs.Lists.{at_set, set_else}
use Rattle.shard_queue.specs.declared.lane.Entry.{Entry}
use Rattle.shard_queue.specs.declared.shared.View.{View}
use Rattle.shard_queue.specs.declared.shared.View.TheVariants.{Consumer, Producer, Spent}
use Rattle.shard_queue.specs.Lane.{producer, of, has_end, Lane, EndsLast, empty_lane, put, took, IsMerge}
use Rattle.shard_queue.specs.Shared.{consumer, sender, spent, HasPosition, KnowsHeard, Knows, IsShared, IsSharedBy, PermitsMerge, Saw, IsStartOf, Puts, Takes, announcing, announced, hiring, hired, heard_out}
use Rattle.shard_queue.proofs.AtLaws.{at_cases}
use Rattle.shard_queue.proofs.LaneLaws.{empty_merge, merge_put, merge_took, front_known}

module _ {A : Type 0} where
  at_short : (xs : List A) (i : ℕ) (a : A) → get_elem? xs i ≡ some a → i < length xs
  at_short [] i a e = absurd (some-ne-none a (sym e))
  at_short (x ∷ xs) zero a e = omega arith
  at_short (x ∷ xs) (suc i) a e = let h = at_short xs i a e in omega arith

  at_push : (xs : List A) (a b : A) (j : ℕ) → get_elem? (xs ++ a ∷ []) j ≡ some b → (get_elem? xs j ≡ some b) ⊎ ((j ≡ length xs) × (a ≡ b))
  at_push [] a b zero e = inr (refl, some-injective a b e)
  at_push [] a b (suc j) e = absurd (some-ne-none b (sym e))
  at_push (x ∷ xs) a b zero e = inl e
  at_push (x ∷ xs) a b (suc j) e = ⊎_elim (λ h. inl h) (λ h. inr (ap suc h.0, h.1)) (at_push xs a b j e)

  -- what holds of the new element, and of each other in the old list, holds of each in the new
  each_set : (F : ℕ → A → Type 0) (xs : List A) (i : ℕ) (a : A) → F i a → ((j : ℕ) (b : A) → j ≢ i → get_elem? xs j ≡ some b → F j b) → (j : ℕ) (b : A) → get_elem? (set xs i a) j ≡ some b → F j b
  each_set F xs i a mine others j b e = ⊎_elim (λ (h : (j ≡ i) × (a ≡ b)). subst (λ (y : ℕ × A). F y.0 y.1) (λ k. (sym h.0 k, h.1 k)) mine)
      (λ (h : (j ≢ i) × (get_elem? xs j ≡ some b)). others j b h.0 h.1) (at_set xs i j a b e)

module _ {T : Type 0} where
  pub start_more : (first all more : List (Entry T)) → IsStartOf first all → IsStartOf first (all ++ more)
  start_more first all more s = (s.0 ++ more, ap (λ xs. xs ++ more) s.1 ∙ append_assoc first s.0 more)

  pub is_start : (all : List (Entry T)) → IsStartOf all all
  is_start all = ([], sym (append-nil all))

  wider : (n room more : ℕ) (l : Lane T) → room ≤ more → IsMerge n room l → IsMerge n more l
  wider n room more l le m = record { each = m.each; known = m.known; within = omega (arith, m.within); legal = m.legal }

  -- whatever there was room for, there is room for what waits
  pub fitting : (n room : ℕ) (l : Lane T) (waiting : List (Entry T)) → l.waiting ≡ waiting → IsMerge n room l → IsMerge n (length waiting) l
  fitting n room l waiting e m = record { each = m.each; known = m.known; within = omega (arith, ap length e); legal = m.legal }

  one_more : (n room : ℕ) (l : Lane T) → IsMerge n room l → IsMerge (suc n) room l
  one_more n room l m = record { each = m.each; known = λ p big. m.known p (omega arith); within = m.within; legal = m.legal }

  -- nothing was put, and nobody is there but the consumer
  first : (position : ℕ) (v : View T) → get_elem? (consumer 0 0 [] None [] ∷ []) position ≡ some v → HasPosition position v × Knows 0 0 empty_lane v
  first zero v e = subst (λ (y : View T). HasPosition zero y × Knows 0 0 empty_lane y) (some-injective (consumer 0 0 [] None []) v e) (refl, (refl, refl, refl, tt, ([], refl)))
  first (suc position) v e = absurd (some-ne-none v (sym e))

  pub begins : IsSharedBy {T = T} [] (consumer 0 0 [] None [] ∷ [])
  begins = (0, 0, empty_lane, record { waits = refl; merge = empty_merge 0 0; permitted = omega arith; silent = λ p h. refl; positions = refl; known = first })

  -- producer p puts one more entry
  module _ (n m : ℕ) (l : Lane T) (waiting : List (Entry T)) (permits : List (View T)) (position k p : ℕ) (sent seen : List (Entry T)) (e : Entry T) (own : p ≡ producer e) (unended : has_end sent ≡ false)
      (s : IsShared n m l waiting permits) (at : get_elem? permits position ≡ some (sender k p sent seen)) where
    abbrev after : List (Entry T)
    after = (l.got ++ l.waiting) ++ e ∷ []

    in_order : after ≡ l.got ++ (l.waiting ++ e ∷ [])
    in_order = append_assoc l.got l.waiting (e ∷ [])

    still_start : (line : List (Entry T)) → IsStartOf line (l.got ++ l.waiting) → IsStartOf line (l.got ++ (l.waiting ++ e ∷ []))
    still_start line h = subst (IsStartOf line) in_order (start_more line (l.got ++ l.waiting) (e ∷ []) h)

    putter : HasPosition position (sender k p sent seen) × Knows n m l (sender k p sent seen)
    putter = s.known position (sender k p sent seen) at

    has_permit : producer e < m
    has_permit = let a = at_short permits position (sender k p sent seen) at in let b = s.positions in let c = putter.0 in let d = putter.1.0 in omega arith

    heard_stays : (heard : Option (ℕ × List (Entry T))) → KnowsHeard l heard → KnowsHeard (put l e) heard
    heard_stays None h = tt
    heard_stays (Some x) h = (
      at_cases (λ y. x.1 ≡ y) l.sent (producer e) (l.sent (producer e) ++ e ∷ []) x.0
          (λ same. let both : x.1 ≡ sent = h.0 ∙ ap l.sent (same ∙ sym own) ∙ sym putter.1.1 in absurd (true≢false (sym h.1 ∙ ap has_end both ∙ unended)))
          (λ _. h.0),
      h.1,
    )

    beside_put : (j : ℕ) (u : View T) → j ≢ position → get_elem? permits j ≡ some u → HasPosition j u × Knows n m (put l e) u
    beside_put j (Consumer a b got heard seen) apart there = let h = s.known j (consumer a b got heard seen) there in (h.0, (h.1.0, h.1.1, h.1.2, heard_stays heard h.1.3, still_start seen h.1.4))
    beside_put j (Producer a q more seen) apart there = let h = s.known j (sender a q more seen) there in (
      h.0,
      (
        h.1.0,
        at_cases (λ x. more ≡ x) l.sent (producer e) (l.sent (producer e) ++ e ∷ []) q
            (λ same. absurd (apart (let b = h.0 in let c = putter.0 in let d = h.1.0 in let f = putter.1.0 in omega arith))) (λ _. h.1.1),
        still_start seen h.1.2,
      ),
    )
    beside_put j Spent apart there = (tt, tt)

    after_put : HasPosition position (sender k p (sent ++ e ∷ []) after) × Knows n m (put l e) (sender k p (sent ++ e ∷ []) after)
    after_put = (
      putter.0,
      (
        putter.1.0,
        at_cases (λ x. sent ++ e ∷ [] ≡ x) l.sent (producer e) (l.sent (producer e) ++ e ∷ []) p
            (λ same. ap (λ xs. xs ++ e ∷ []) (putter.1.1 ∙ ap l.sent same))
            (λ other. absurd (other own)),
        subst (IsStartOf after) in_order (is_start after),
      ),
    )

    put_keeps : IsShared n m (put l e) (waiting ++ e ∷ []) (set permits position (sender k p (sent ++ e ∷ []) after))
    put_keeps = record {
      waits = ap (λ xs. xs ++ e ∷ []) s.waits;
      merge = fitting n (suc (length waiting)) (put l e) (waiting ++ e ∷ []) (ap (λ xs. xs ++ e ∷ []) s.waits)
          (merge_put n (suc (length waiting)) l e (wider n (length waiting) (suc (length waiting)) l (omega arith) s.merge)
          (let a = has_permit in let b = s.permitted in omega arith)
          (ap (λ i. has_end (l.sent i)) (sym own) ∙ ap has_end (sym putter.1.1) ∙ unended)
          (let a = ap length s.waits in omega arith));
      permitted = s.permitted;
      silent = λ q big. at_cases (λ x. x ≡ []) l.sent (producer e) (l.sent (producer e) ++ e ∷ []) q (λ same. absurd (let a = has_permit in omega arith)) (λ _. s.silent q big);
      positions = length-set permits position (sender k p (sent ++ e ∷ []) after) ∙ s.positions;
      known = each_set (λ j u. HasPosition j u × Knows n m (put l e) u) permits position (sender k p (sent ++ e ∷ []) after) after_put beside_put;
    }

  pub puts : (room position k p : ℕ) (v : View T) (e : Entry T) (sent seen : List (Entry T)) → v ≡ sender k p sent seen → p ≡ producer e → has_end sent ≡ false → Pushes IsSharedBy room position v e (Puts v e)
  puts room position k p v e sent seen is own unended = subst (λ (x : View T). Pushes IsSharedBy room position x e (Puts x e)) (sym is)
      (λ waiting permits short h at. (
        sender k p (sent ++ e ∷ []) ((h.2.got ++ h.2.waiting) ++ e ∷ []),
        (h.0, h.1, put h.2 e, put_keeps h.0 h.1 h.2 waiting permits position k p sent seen e own unended h.3 at),
        (h.2.got ++ h.2.waiting, refl, (h.3.known position (sender k p sent seen) at).1.2),
      ))

  -- the consumer takes the first entry
  module _ (n m : ℕ) (l : Lane T) (e : Entry T) (others : List (Entry T)) (permits : List (View T)) (position k made : ℕ) (got : List (Entry T)) (heard : Option (ℕ × List (Entry T))) (seen : List (Entry T))
      (s : IsShared n m l (e ∷ others) permits) (at : get_elem? permits position ≡ some (consumer k made got heard seen)) where
    abbrev left : List (Entry T)
    left = (got ++ e ∷ []) ++ others

    line_is : l.got ++ l.waiting ≡ (l.got ++ e ∷ []) ++ others
    line_is = ap (λ xs. l.got ++ xs) s.waits ∙ sym (append_assoc l.got (e ∷ []) others)

    still_line : (line : List (Entry T)) → IsStartOf line (l.got ++ l.waiting) → IsStartOf line ((l.got ++ e ∷ []) ++ others)
    still_line line h = subst (IsStartOf line) line_is h

    taker : HasPosition position (consumer k made got heard seen) × Knows n m l (consumer k made got heard seen)
    taker = s.known position (consumer k made got heard seen) at

    still_heard : (h : Option (ℕ × List (Entry T))) → KnowsHeard l h → KnowsHeard (took l e others) h
    still_heard None h = tt
    still_heard (Some x) h = h

    beside_take : (j : ℕ) (u : View T) → j ≢ position → get_elem? permits j ≡ some u → HasPosition j u × Knows n m (took l e others) u
    beside_take j (Consumer a b g h seen) apart there = absurd (apart ((s.known j (consumer a b g h seen) there).0 ∙ sym taker.0))
    beside_take j (Producer a q more line) apart there = let h = s.known j (sender a q more line) there in (h.0, (h.1.0, h.1.1, still_line line h.1.2))
    beside_take j Spent apart there = (tt, tt)

    got_is : left ≡ (l.got ++ e ∷ []) ++ others
    got_is = ap (λ xs. (xs ++ e ∷ []) ++ others) taker.1.2

    left_is : IsStartOf left ((l.got ++ e ∷ []) ++ others)
    left_is = subst (IsStartOf left) got_is (is_start left)

    seen_is : IsStartOf seen left
    seen_is = subst (IsStartOf seen) (sym got_is) (still_line seen taker.1.4)

    take_keeps : IsShared n m (took l e others) others (set permits position (consumer k made (got ++ e ∷ []) heard left))
    take_keeps = record {
      waits = refl;
      merge = fitting n (length (e ∷ others)) (took l e others) others refl (merge_took n (length (e ∷ others)) l e others s.merge s.waits);
      permitted = s.permitted;
      silent = s.silent;
      positions = length-set permits position (consumer k made (got ++ e ∷ []) heard left) ∙ s.positions;
      known = each_set (λ j u. HasPosition j u × Knows n m (took l e others) u) permits position (consumer k made (got ++ e ∷ []) heard left)
          (taker.0, (taker.1.0, taker.1.1, ap (λ xs. xs ++ e ∷ []) taker.1.2, still_heard heard taker.1.3, left_is)) beside_take;
    }

    of_a_producer : producer e < k
    of_a_producer = subst (λ i. producer e < i) (sym taker.1.0) (front_known n (length (e ∷ others)) l e others s.merge s.waits)

  pub takes : (position k made : ℕ) (v : View T) (got : List (Entry T)) (heard : Option (ℕ × List (Entry T))) (seen : List (Entry T)) → v ≡ consumer k made got heard seen → Pops IsSharedBy position v (Takes v)
  takes position k made v got heard seen is = subst (λ (x : View T). Pops IsSharedBy position x (Takes x)) (sym is)
      (λ e others permits h at. (
        consumer k made (got ++ e ∷ []) heard ((got ++ e ∷ []) ++ others),
        (h.0, h.1, took h.2 e others, take_keeps h.0 h.1 h.2 e others permits position k made got heard seen h.3 at),
        (of_a_producer h.0 h.1 h.2 e others permits position k made got heard seen h.3 at, (others, refl, seen_is h.0 h.1 h.2 e others permits position k made got heard seen h.3 at)),
      ))

  -- the consumer's permit makes another
  module _ (n m : ℕ) (l : Lane T) (waiting : List (Entry T)) (permits : List (View T)) (position k made : ℕ) (got : List (Entry T)) (heard : Option (ℕ × List (Entry T))) (seen : List (Entry T))
      (s : IsShared n m l waiting permits) (at : get_elem? permits position ≡ some (consumer k made got heard seen)) where
    maker : HasPosition position (consumer k made got heard seen) × Knows n m l (consumer k made got heard seen)
    maker = s.known position (consumer k made got heard seen) at

    -- there will be one more producer; none has its permit yet
    module _ (early : made ≡ 0) where
      abbrev told : List (View T)
      told = set permits position (consumer (suc k) made got heard seen)

      beside_announce : (j : ℕ) (u : View T) → j ≢ position → get_elem? permits j ≡ some u → HasPosition j u × Knows (suc n) m l u
      beside_announce j (Consumer a b g h seen) apart there = absurd (apart ((s.known j (consumer a b g h seen) there).0 ∙ sym maker.0))
      beside_announce j (Producer a q more seen) apart there = let h = s.known j (sender a q more seen) there in
          absurd (let b = h.0 in let c = h.1.0 in let d = at_short permits j (sender a q more seen) there in let f = s.positions in let g = maker.1.1 in omega arith)
      beside_announce j Spent apart there = (tt, tt)

      announce_keeps : IsShared (suc n) m l waiting (told ++ spent ∷ [])
      announce_keeps = record {
        waits = s.waits;
        merge = one_more n (length waiting) l s.merge;
        permitted = let a = s.permitted in omega arith;
        silent = s.silent;
        positions = let a = length-append told (spent {T = T} ∷ []) in let b = length-set permits position (consumer (suc k) made got heard seen) in let d = s.positions in omega arith;
        known = λ j u there. ⊎_elim
            (λ old. each_set (λ i x. HasPosition i x × Knows (suc n) m l x) permits position (consumer (suc k) made got heard seen) (maker.0, (ap suc maker.1.0, maker.1.1, maker.1.2, maker.1.3, maker.1.4)) beside_announce j u old)
            (λ new. subst (λ (x : View T). HasPosition j x × Knows (suc n) m l x) new.1 (tt, tt))
            (at_push told spent u j there);
      }

    -- the next producer gets its permit
    module _ (room : made < k) where
      abbrev grown : List (View T)
      grown = set permits position (consumer k (suc made) got heard seen)

      beside_hire : (j : ℕ) (u : View T) → j ≢ position → get_elem? permits j ≡ some u → HasPosition j u × Knows n (suc m) l u
      beside_hire j (Consumer a b g h seen) apart there = absurd (apart ((s.known j (consumer a b g h seen) there).0 ∙ sym maker.0))
      beside_hire j (Producer a q more seen) apart there = s.known j (sender a q more seen) there
      beside_hire j Spent apart there = (tt, tt)

      newcomer : (j : ℕ) → j ≡ length grown → HasPosition {T = T} j (sender k made [] []) × Knows {T = T} n (suc m) l (sender k made [] [])
      newcomer j e = (
        (let a = length-set permits position (consumer k (suc made) got heard seen) in let b = s.positions in let c = maker.1.0 in let d = maker.1.1 in omega arith),
        (maker.1.0, sym (s.silent made (let d = maker.1.1 in omega arith)), (l.got ++ l.waiting, refl)),
      )

      hire_keeps : IsShared n (suc m) l waiting (grown ++ sender k made [] [] ∷ [])
      hire_keeps = record {
        waits = s.waits;
        merge = s.merge;
        permitted = let c = maker.1.0 in let d = maker.1.1 in omega arith;
        silent = λ p big. s.silent p (omega arith);
        positions = let a = length-append grown (sender k made [] [] ∷ []) in let b = length-set permits position (consumer k (suc made) got heard seen) in let d = s.positions in omega arith;
        known = λ j u there. ⊎_elim
            (λ old. each_set (λ i x. HasPosition i x × Knows n (suc m) l x) permits position (consumer k (suc made) got heard seen) (maker.0, (maker.1.0, ap suc maker.1.1, maker.1.2, maker.1.3, maker.1.4)) beside_hire j u old)
            (λ new. subst (λ (x : View T). HasPosition j x × Knows n (suc m) l x) new.1 (newcomer j new.0))
            (at_push grown (sender k made [] []) u j there);
      }

  pub announces : (position k : ℕ) (v : View T) (got : List (Entry T)) (heard : Option (ℕ × List (Entry T))) (seen : List (Entry T)) → v ≡ consumer k 0 got heard seen → Forks IsSharedBy position v (announcing v) (announced v)
  announces position k v got heard seen is = subst (λ (x : View T). Forks IsSharedBy position x (announcing x) (announced x)) (sym is)
      (λ waiting permits h at. (suc h.0, h.1, h.2, announce_keeps h.0 h.1 h.2 waiting permits position k 0 got heard seen h.3 at refl))

  pub hires : (position k made : ℕ) (v : View T) (got : List (Entry T)) (heard : Option (ℕ × List (Entry T))) (seen : List (Entry T)) → v ≡ consumer k made got heard seen → made < k → Forks IsSharedBy position v (hiring v) (hired v)
  hires position k made v got heard seen is room = subst (λ (x : View T). Forks IsSharedBy position x (hiring x) (hired x)) (sym is)
      (λ waiting permits h at. (h.0, suc h.1, h.2, hire_keeps h.0 h.1 h.2 waiting permits position k made got heard seen h.3 at room))

  -- a producer that has ended is heard out
  module _ (n m : ℕ) (l : Lane T) (waiting : List (Entry T)) (permits : List (View T)) (position k made : ℕ) (got : List (Entry T)) (heard : Option (ℕ × List (Entry T))) (seen : List (Entry T)) (door i p : ℕ) (said late : List (Entry T))
      (ended : has_end said ≡ true) (s : IsShared n m l waiting permits) (at : get_elem? permits position ≡ some (consumer k made got heard seen)) (apart : door ≢ position)
      (there : get_elem? (set permits position (consumer k made got (Some (p, said)) seen)) door ≡ some (sender i p said late)) where
    abbrev hearer : View T
    hearer = consumer k made got (Some (p, said)) seen

    asker : HasPosition position (consumer k made got heard seen) × Knows n m l (consumer k made got heard seen)
    asker = s.known position (consumer k made got heard seen) at

    speaker : HasPosition door (sender i p said late) × Knows n m l (sender i p said late)
    speaker = s.known door (sender i p said late) (sym (set_else permits position door hearer apart) ∙ there)

    hearing_keeps : IsShared n m l waiting (set (set permits position hearer) door spent)
    hearing_keeps = record {
      waits = s.waits;
      merge = s.merge;
      permitted = s.permitted;
      silent = s.silent;
      positions = length-set (set permits position hearer) door spent ∙ length-set permits position hearer ∙ s.positions;
      known = each_set (λ j u. HasPosition j u × Knows n m l u) (set permits position hearer) door spent (tt, tt)
          (λ j u _ old. each_set (λ a x. HasPosition a x × Knows n m l x) permits position hearer (asker.0, (asker.1.0, asker.1.1, asker.1.2, (speaker.1.1, ended), asker.1.4)) (λ a x _ h. s.known a x h) j u old);
    }

  pub hears : (position k made : ℕ) (v : View T) (got : List (Entry T)) (heard : Option (ℕ × List (Entry T))) (seen : List (Entry T)) (door i p : ℕ) (said late : List (Entry T)) (u : View T)
      → v ≡ consumer k made got heard seen → u ≡ sender i p said late → has_end said ≡ true → Merges IsSharedBy position v door u (heard_out v u) spent
  hears position k made v got heard seen door i p said late u is other ended =
      subst (λ (x : View T). Merges IsSharedBy position x door u (heard_out x u) spent) (sym is)
      (subst (λ (y : View T). Merges IsSharedBy position (consumer k made got heard seen) door y (heard_out (consumer k made got heard seen) y) spent) (sym other)
      (λ waiting permits h at apart there. (h.0, h.1, h.2, hearing_keeps h.0 h.1 h.2 waiting permits position k made got heard seen door i p said late ended h.3 at apart there)))

  -- what a permit learns
  pub learns : (position : ℕ) (v : View T) → Learns IsSharedBy position v (Saw v)
  learns position v waiting permits h at = (h.0, h.1, h.2, h.3.waits, h.3.merge, (h.3.known position v at).1)

  -- what all permits together know
  pub permits_merge : (waiting : List (Entry T)) (permits : List (View T)) → IsSharedBy waiting permits → PermitsMerge waiting permits
  permits_merge waiting permits h producers made got heard seen at p =
      let s = h.3 in
      let taker = (s.known 0 (consumer producers made got heard seen) at).1 in
      let all : of p (got ++ waiting) ≡ h.2.sent p = ap (λ es. of p (es ++ waiting)) taker.2 ∙ ap (λ es. of p (h.2.got ++ es)) (sym s.waits) ∙ s.merge.each p in (
        (λ position sent seen there. all ∙ sym (s.known position (sender producers p sent seen) there).1.1),
        (λ big. all ∙ s.merge.known p (let d = taker.0 in omega arith)),
        subst EndsLast (sym all) (s.merge.legal p),
      )
