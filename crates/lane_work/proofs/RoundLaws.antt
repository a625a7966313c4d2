-- Permits that go round: each is taken from the front and put back behind the others.
use Rattle.std.proofs.Common.{◌≡◌, ℕ, zero, suc, ◌+◌, ◌<◌, ◌++◌, ◌∙◌, ◌⊎◌, inl, inr, ◌≢◌, eqb, Bool, true, false, List, [], ◌∷◌, length, length-drop, map, take, drop, refl, ap, sym, subst, arith, append_assoc, append-nil, slice_index_or, ◌||◌}
use Rattle.std.proofs.lemmas.Bool.Decides.{eqb_tells}
use Rattle.std.proofs.lemmas.List.{length-append, length-map, map-append}
use Rattle.delivery_token.specs.declared.Job.{Job}
use Rattle.envelope.specs.Names.{Directory, is_shut}
use Rattle.shard_queue.specs.Permits.{ShardQueue}
use Rattle.lane_work.specs.declared.desk.LanePermit.{LanePermit}
use Rattle.lane_work.specs.Permits.{ArePermits, AreShutWhereOver, IsPermit, is_over, overs, permit_number, put_by}
use Rattle.lane_work.proofs.PermitLaws.{permit_at, permits_length}

drop_split : {A : Type 0} (xs : List A) (i : ℕ) (d : A) → i < length xs → drop i xs ≡ slice_index_or xs i d ∷ drop (i + 1) xs
drop_split [] i d under = absurd (omega arith)
drop_split (x ∷ xs) zero d under = refl
drop_split (x ∷ xs) (suc i) d under =
    let e : suc i + 1 ≡ suc (i + 1) = omega arith in
    drop_split xs i d (omega arith) ∙ ap (λ n. slice_index_or xs i d ∷ drop n (x ∷ xs)) (sym e)

all_dropped : {A : Type 0} (xs : List A) (n : ℕ) → n ≡ length xs → drop n xs ≡ []
all_dropped [] zero e = refl
all_dropped [] (suc n) e = refl
all_dropped (x ∷ xs) zero e = absurd (omega arith)
all_dropped (x ∷ xs) (suc n) e = all_dropped xs n (omega arith)

all_taken : {A : Type 0} (xs : List A) (n : ℕ) → n ≡ length xs → take n xs ≡ xs
all_taken [] zero e = refl
all_taken [] (suc n) e = refl
all_taken (x ∷ xs) zero e = absurd (omega arith)
all_taken (x ∷ xs) (suc n) e = ap (λ l. x ∷ l) (all_taken xs n (omega arith))

take_one : {A : Type 0} (xs : List A) (i : ℕ) (d : A) → i < length xs → take (i + 1) xs ≡ take i xs ++ slice_index_or xs i d ∷ []
take_one [] i d under = absurd (omega arith)
take_one (x ∷ xs) zero d under = refl
take_one (x ∷ xs) (suc i) d under = let e : suc i + 1 ≡ suc (i + 1) = omega arith in ap (λ n. take n (x ∷ xs)) e ∙ ap (λ l. x ∷ l) (take_one xs i d (omega arith))

index_front : {A : Type 0} (xs ys : List A) (k : ℕ) (d : A) → k < length xs → slice_index_or (xs ++ ys) k d ≡ slice_index_or xs k d
index_front [] ys k d under = absurd (omega arith)
index_front (x ∷ xs) ys zero d under = refl
index_front (x ∷ xs) ys (suc k) d under = index_front xs ys k d (omega arith)

index_last : {A : Type 0} (xs : List A) (x : A) (k : ℕ) (d : A) → k ≡ length xs → slice_index_or (xs ++ x ∷ []) k d ≡ x
index_last [] x zero d e = refl
index_last [] x (suc k) d e = absurd (omega arith)
index_last (y ∷ xs) x zero d e = absurd (omega arith)
index_last (y ∷ xs) x (suc k) d e = index_last xs x k d (omega arith)

over_read : (ss : List (LanePermit Job)) (i : ℕ) (d : LanePermit Job) → i < length ss → slice_index_or (overs ss) i false ≡ is_over (slice_index_or ss i d)
over_read [] i d under = absurd (omega arith)
over_read (x ∷ ss) zero d under = refl
over_read (x ∷ ss) (suc i) d under = over_read ss i d (omega arith)

permits_push : (qs : List (ShardQueue Job)) (i : ℕ) (p : ℕ) (ss : List (LanePermit Job)) (s : LanePermit Job) → i < length qs → ArePermits (take i qs) p ss → (q : ShardQueue Job) → IsPermit (slice_index_or qs i q) s → permit_number s ≡ p
    → ArePermits (take (i + 1) qs) p (ss ++ s ∷ [])
permits_push [] i p ss s under h q is number = absurd (omega arith)
permits_push (x ∷ qs) zero p [] s under h q is number = ((is, number), tt)
permits_push (x ∷ qs) zero p (y ∷ ss) s under h q is number = absurd h
permits_push (x ∷ qs) (suc i) p [] s under h q is number = absurd h
permits_push (x ∷ qs) (suc i) p (y ∷ ss) s under h q is number =
    let k : suc i + 1 ≡ suc (i + 1) = omega arith in
    subst (λ n. ArePermits (take n (x ∷ qs)) p (y ∷ ss ++ s ∷ [])) (sym k) (h.0, permits_push qs i p ss s (omega arith) h.1 q is number)

-- The first so many have gone round: they stand behind the others, and are over where they were and where the shard is shut.
pub record Round (directory : Directory) (lanes : List (ShardQueue Job)) (p : ℕ) (old : List (LanePermit Job)) (gone : ℕ) (now : List (LanePermit Job)) : Type 0 where
  pub front : List (LanePermit Job)
  pub stand : now ≡ drop gone old ++ front
  pub as_many : length front ≡ gone
  pub permits : ArePermits (take gone lanes) p front
  pub put : map put_by front ≡ map put_by (take gone old)
  pub over : (lane : ℕ) → lane < gone → slice_index_or (overs front) lane false ≡ (is_shut directory lane || slice_index_or (overs old) lane false)

pub round_first : (directory : Directory) (lanes : List (ShardQueue Job)) (p : ℕ) (old : List (LanePermit Job)) → Round directory lanes p old 0 old
round_first directory lanes p old = record {
  front = [];
  stand = sym (append-nil old);
  as_many = refl;
  permits = none lanes;
  put = refl;
  over = λ lane under. absurd (omega (arith, under));
} where
  none : (qs : List (ShardQueue Job)) → ArePermits (take 0 qs) p []
  none [] = tt
  none (q ∷ qs) = tt

pub some_left : (directory : Directory) (lanes : List (ShardQueue Job)) (p : ℕ) (old : List (LanePermit Job)) (gone : ℕ) (now : List (LanePermit Job)) → ArePermits lanes p old → gone < length lanes → Round directory lanes p old gone now → 0 < length now
some_left directory lanes p old gone [] permits under round =
    let n = permits_length lanes p old permits in
    let l = ap length round.stand ∙ length-append (drop gone old) round.front in
    let k = length-drop gone old in
    absurd (omega (arith, l, k, n, under))
some_left directory lanes p old gone (s ∷ now) permits under round = omega arith

-- the one that is taken is the next of the old ones
pub round_taken : (directory : Directory) (lanes : List (ShardQueue Job)) (p : ℕ) (old : List (LanePermit Job)) (gone : ℕ) (now : List (LanePermit Job)) (s : LanePermit Job) → ArePermits lanes p old → gone < length lanes
    → (round : Round directory lanes p old gone now) → s ≡ slice_index_or now 0 s → (q : ShardQueue Job) → q ≡ slice_index_or lanes gone q
    → IsPermit q s × (permit_number s ≡ p) × (s ≡ slice_index_or old gone s) × (drop 1 now ≡ drop (gone + 1) old ++ round.front)
round_taken directory lanes p old gone now s permits under round is q at_lane =
    let n = permits_length lanes p old permits in
    let first : now ≡ slice_index_or old gone s ∷ (drop (gone + 1) old ++ round.front) = round.stand ∙ ap (λ l. l ++ round.front) (drop_split old gone s (omega (arith, under, n))) in
    let same : s ≡ slice_index_or old gone s = is ∙ ap (λ l. slice_index_or l 0 s) first in
    let both = permit_at lanes p old permits gone under q s in (
      subst (λ x. IsPermit x s) (sym at_lane) (subst (IsPermit (slice_index_or lanes gone q)) (sym same) both.0),
      ap permit_number same ∙ both.1,
      same,
      ap (drop 1) first,
    )

-- and put back
pub round_next : (directory : Directory) (lanes : List (ShardQueue Job)) (p : ℕ) (old : List (LanePermit Job)) (gone : ℕ) (now rest more : List (LanePermit Job)) (s left : LanePermit Job) (shut : Bool) → ArePermits lanes p old → gone < length lanes
    → (round : Round directory lanes p old gone now) → s ≡ slice_index_or old gone s → rest ≡ drop (gone + 1) old ++ round.front → more ≡ rest ++ left ∷ []
    → (q : ShardQueue Job) → q ≡ slice_index_or lanes gone q → IsPermit q left → permit_number left ≡ p → put_by left ≡ put_by s
    → shut ≡ is_shut directory gone → is_over left ≡ (shut || is_over s) → Round directory lanes p old (gone + 1) more
round_next directory lanes p old gone now rest more s left shut permits under round same rest_is more_is q at_lane is number put marks over =
    let n = permits_length lanes p old permits in
    let here : gone < length old = omega (arith, under, n) in
    record {
      front = round.front ++ left ∷ [];
      stand = more_is ∙ ap (λ l. l ++ left ∷ []) rest_is ∙ append_assoc (drop (gone + 1) old) round.front (left ∷ []);
      as_many = length-append round.front (left ∷ []) ∙ ap (λ k. k + 1) round.as_many;
      permits = permits_push lanes gone p round.front left under round.permits q (subst (λ x. IsPermit x left) at_lane is) number;
      put = map-append put_by round.front (left ∷ []) ∙ ap (λ l. l ++ put_by left ∷ []) round.put ∙ ap (λ x. map put_by (take gone old) ++ x ∷ []) (put ∙ ap put_by same)
          ∙ sym (map-append put_by (take gone old) (slice_index_or old gone s ∷ [])) ∙ ap (map put_by) (sym (take_one old gone s here));
      over = λ lane within. at_lane_is lane within (eqb_tells lane gone);
    }
  where
    at_lane_is : (lane : ℕ) → lane < gone + 1 → ((eqb lane gone ≡ true) × (lane ≡ gone)) ⊎ ((eqb lane gone ≡ false) × (lane ≢ gone))
        → slice_index_or (overs (round.front ++ left ∷ [])) lane false ≡ (is_shut directory lane || slice_index_or (overs old) lane false)
    at_lane_is lane within (inl (e, is_last)) =
        let n = permits_length lanes p old permits in
        let l = length-map round.front is_over in
        let k = round.as_many in
        ap (λ bs. slice_index_or bs lane false) (map-append is_over round.front (left ∷ []))
        ∙ index_last (overs round.front) (is_over left) lane false (omega (arith, l, k, is_last))
        ∙ over ∙ ap (λ b. b || is_over s) (marks ∙ ap (is_shut directory) (sym is_last))
        ∙ ap (λ b. is_shut directory lane || b) (ap is_over same ∙ sym (over_read old gone s (omega (arith, under, n))) ∙ ap (λ x. slice_index_or (overs old) x false) (sym is_last))
    at_lane_is lane within (inr (e, earlier)) =
        let less : lane < gone = below lane within earlier in
        let l = length-map round.front is_over in
        let k = round.as_many in
        ap (λ bs. slice_index_or bs lane false) (map-append is_over round.front (left ∷ []))
        ∙ index_front (overs round.front) (is_over left ∷ []) lane false (omega (arith, l, k, less))
        ∙ round.over lane less
      where
        below : (x : ℕ) → x < gone + 1 → x ≢ gone → x < gone
        below x w not = omega (arith, w, not)

pub over_within : (ss : List (LanePermit Job)) (lane : ℕ) → slice_index_or (overs ss) lane false ≡ true → lane < length ss
over_within [] lane e = absurd (let x : false ≡ true = e in cc)
over_within (s ∷ ss) zero e = omega arith
over_within (s ∷ ss) (suc lane) e = let h = over_within ss lane e in omega (arith, h)

is_true : (a b : Bool) → (a || b) ≡ true → (b ≡ true → a ≡ true) → a ≡ true
is_true true b e f = refl
is_true false b e f = f e

-- all have gone round
pub round_last : (directory : Directory) (lanes : List (ShardQueue Job)) (p : ℕ) (old : List (LanePermit Job)) (gone : ℕ) (now : List (LanePermit Job)) → ArePermits lanes p old → AreShutWhereOver directory old → gone ≡ length lanes
    → Round directory lanes p old gone now
    → ArePermits lanes p now × AreShutWhereOver directory now × (map put_by now ≡ map put_by old)
    × ((lane : ℕ) → lane < length lanes → is_shut directory lane ≡ true → slice_index_or (overs now) lane false ≡ true)
round_last directory lanes p old gone now permits were all round =
    let n = permits_length lanes p old permits in
    let same : now ≡ round.front = round.stand ∙ ap (λ l. l ++ round.front) (all_dropped old gone (omega (arith, n, all))) in
    let over : (lane : ℕ) → lane < gone → slice_index_or (overs now) lane false ≡ (is_shut directory lane || slice_index_or (overs old) lane false) =
    λ lane under. ap (λ l. slice_index_or (overs l) lane false) same ∙ round.over lane under in
    let many : length now ≡ gone = ap length same ∙ round.as_many in (
      subst (ArePermits lanes p) (sym same) (subst (λ l. ArePermits l p round.front) (all_taken lanes gone all) round.permits),
      (λ lane is. is_true (is_shut directory lane) (slice_index_or (overs old) lane false) (sym (over lane (let w = over_within now lane is in omega (arith, w, many))) ∙ is) (were lane)),
      ap (map put_by) same ∙ round.put ∙ ap (map put_by) (all_taken old gone (omega (arith, n, all))),
      (λ lane under shut. over lane (omega (arith, under, all)) ∙ ap (λ b. b || slice_index_or (overs old) lane false) shut),
    )
