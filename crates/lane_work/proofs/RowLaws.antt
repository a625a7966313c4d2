-- Permits by lane, whatever carries the lanes' entries.
use Rattle.std.proofs.Common.{◌≡◌, ℕ, zero, suc, ◌<◌, ◌+◌, ◌++◌, ◌∙◌, ap, refl, sym, subst, List, [], ◌∷◌, length, map, slice_index_or, slice_set, drop, arith, All, Contains}
use Rattle.std.proofs.lemmas.List.Elements.{All-nil, All-cons, All-head, All-tail, All-push, Contains-push}
use Rattle.shard_queue.specs.declared.shared.View.{View}
use Rattle.shard_queue.specs.declared.permits.SharedLane.{SharedLane}
use Rattle.shard_queue.specs.declared.permits.Permit.{Permit}
use Rattle.shard_queue.specs.declared.permits.EndedPermit.{EndedPermit}
use Rattle.shard_queue.specs.declared.permits.ConsumersPermit.{ConsumersPermit}
use Rattle.shard_queue.specs.SharedLane.{IsPermit, IsEndedPermit, IsConsumersPermit, sent, number_of, numbers}
use Rattle.lane_work.specs.SharedLanes.{AreLeft, AreNew, AreHands, Rows, AreConsumers, AreEnded, AreEndedHands, EndedRows, AreIn, AllIn, with_each, with_all}
use Rattle.lane_work.proofs.StepLaws.{StepTo, ahead, front, one_step}

module _ {T C P : Type 0} (view : P → View T) (is_of : C → P → Type 0) where
  -- ---- lanes that are made

  pub all_left : (q : SharedLane C) (n k : ℕ) (ss : List (Permit P)) → k + n ≡ q.producers → map number_of ss ≡ numbers k n → All (λ s. IsPermit view is_of q s × (sent view s ≡ [])) ss → AreLeft view is_of q k ss
  all_left q zero k [] total is all = (omega (arith, total))
  all_left q zero k (s ∷ ss) total is all = absurd (let x : number_of s ∷ map number_of ss ≡ [] = is in cc)
  all_left q (suc n) k [] total is all = absurd (let x : [] ≡ k ∷ numbers (suc k) n = is in cc)
  all_left q (suc n) k (s ∷ ss) total is all =
      let P : Permit P → Type 0 = λ s. IsPermit view is_of q s × (sent view s ≡ []) in
      let e : number_of s ∷ map number_of ss ≡ k ∷ numbers (suc k) n = is in
      let here : IsPermit view is_of q s × (sent view s ≡ []) = All-head P s ss all in
      let first : number_of s ≡ k = cc in
      let others : map number_of ss ≡ numbers (suc k) n = cc in
      (omega (arith, total), (here.0, first, here.1), all_left q n (suc k) ss (omega (arith, total)) others (All-tail P s ss all))

  pub rows_next : (qs : List (SharedLane C)) (p : ℕ) (rs : List (List (Permit P))) (q : SharedLane C) (r : List (Permit P)) → Rows view is_of qs p rs → AreLeft view is_of q p r → Rows view is_of (qs ++ q ∷ []) p (rs ++ r ∷ [])
  rows_next [] p [] q r h k = (k, tt)
  rows_next [] p (y ∷ rs) q r h k = absurd h
  rows_next (x ∷ qs) p [] q r h k = absurd h
  rows_next (x ∷ qs) p (y ∷ rs) q r h k = (h.0, rows_next qs p rs q r h.1 k)

  pub consumers_next : (qs : List (SharedLane C)) (ss : List (ConsumersPermit P)) (q : SharedLane C) (s : ConsumersPermit P) → AreConsumers view is_of qs ss → IsConsumersPermit view is_of q s → AreConsumers view is_of (qs ++ q ∷ []) (ss ++ s ∷ [])
  consumers_next [] [] q s h k = (k, tt)
  consumers_next [] (y ∷ ss) q s h k = absurd h
  consumers_next (x ∷ qs) [] q s h k = absurd h
  consumers_next (x ∷ qs) (y ∷ ss) q s h k = (h.0, consumers_next qs ss q s h.1 k)

  pub rows_length : (qs : List (SharedLane C)) (p : ℕ) (rs : List (List (Permit P))) → Rows view is_of qs p rs → length rs ≡ length qs
  rows_length [] p [] h = refl
  rows_length [] p (r ∷ rs) h = absurd h
  rows_length (q ∷ qs) p [] h = absurd h
  rows_length (q ∷ qs) p (r ∷ rs) h = ap suc (rows_length qs p rs h.1)

  -- ---- permits that are dealt

  some_left : (q : SharedLane C) (p : ℕ) (r : List (Permit P)) → AreLeft view is_of q p r → p < q.producers → 0 < length r
  some_left q p [] h less = absurd (omega (arith, h, less))
  some_left q p (s ∷ ss) h less = omega arith

  one_left : {V : Type 0} (f : V → List (Permit P)) (qs : List (SharedLane C)) (p : ℕ) (rs : List V) → Rows view is_of qs p (map f rs) → All (λ q. p < q.producers) qs
      → (i : ℕ) → i < length qs → (d : V) → (i < length rs) × (0 < length (f (slice_index_or rs i d)))
  one_left f [] p rs h all i under d = absurd (omega arith)
  one_left f (q ∷ qs) p [] h all i under d = absurd h
  one_left f (q ∷ qs) p (r ∷ rs) h all zero under d = (omega arith, some_left q p (f r) h.0 (All-head (λ q. p < q.producers) q qs all))
  one_left f (q ∷ qs) p (r ∷ rs) h all (suc i) under d =
      let o = one_left f qs p rs h.1 (All-tail (λ q. p < q.producers) q qs all) i (omega arith) d in
      ((let u = o.0 in omega (arith, u)), o.1)

  pub none_left : {V : Type 0} (f : V → List (Permit P)) (qs : List (SharedLane C)) (p : ℕ) (rs : List V) → Rows view is_of qs p (map f rs) → All (λ q. q.producers ≡ p) qs → All (λ v. f v ≡ []) rs
  none_left f [] p [] h all = All-nil (λ v. f v ≡ [])
  none_left f [] p (r ∷ rs) h all = absurd h
  none_left f (q ∷ qs) p [] h all = absurd h
  none_left f (q ∷ qs) p (r ∷ rs) h all =
      All-cons (λ v. f v ≡ []) r rs (empty (f r) h.0 (All-head (λ q. q.producers ≡ p) q qs all)) (none_left f qs p rs h.1 (All-tail (λ q. q.producers ≡ p) q qs all)) where
        empty : (xs : List (Permit P)) → AreLeft view is_of q p xs → q.producers ≡ p → xs ≡ []
        empty [] left e = refl
        empty (s ∷ ss) left e = absurd (let less = left.0 in omega (arith, less, e))

-- the first permit of a row was dealt
abbrev pub Dealt : {V P H : Type 0} → (Permit P → H) → (V → List (Permit P)) → V → V → H → Type 0
Dealt held f old new dealt = (permit : _) × (dealt ≡ held permit) × (f old ≡ permit ∷ f new)

module _ {T C P H : Type 0} (view : P → View T) (is_of : C → P → Type 0) (held : Permit P → H) where
  -- the row that comes next has one
  pub row_there : {V : Type 0} (f : V → List (Permit P)) (ls : List (SharedLane C)) (p : ℕ) (olds news : List V) (hs : List H) (i : ℕ)
      → StepTo (Dealt held f) i olds news hs → Rows view is_of ls p (map f olds) → All (λ l. p < l.producers) ls → i < length ls → (x : V) → x ≡ slice_index_or news i x
      → 0 < length (f x)
  row_there f ls p olds news hs i h k all under x xe =
      subst (λ z. 0 < length (f z)) (sym (xe ∙ ahead (Dealt held f) i olds news hs h x)) (one_left view is_of f ls p olds k all i under x).1

  -- the first of a row is dealt
  pub row_dealt : {V : Type 0} (f : V → List (Permit P)) (i : ℕ) (olds news : List V) (hs : List H) → StepTo (Dealt held f) i olds news hs → i < length news
      → (x y : V) (s : Permit P) → x ≡ slice_index_or news i x → 0 < length (f x) → s ≡ slice_index_or (f x) 0 s → f y ≡ drop 1 (f x)
      → (h : H) → h ≡ held s → StepTo (Dealt held f) (i + 1) olds (slice_set news i y) (hs ++ h ∷ [])
  row_dealt f i olds news hs step under x y s xe some se ye h he =
      one_step (Dealt held f) i olds news hs step x y h under (s, he, ap f (sym xe) ∙ front (f x) s some se ∙ ap (λ l. s ∷ l) (sym ye))

  pub dealt : {V : Type 0} (f : V → List (Permit P)) (ls : List (SharedLane C)) (p : ℕ) (olds news : List V) (hs : List H)
      → StepTo (Dealt held f) (length ls) olds news hs → Rows view is_of ls p (map f olds)
      → AreNew view is_of held ls p hs × Rows view is_of ls (suc p) (map f news)
  dealt f [] p [] [] [] h k = (tt, tt)
  dealt f [] p [] (n ∷ ns) [] h k = absurd (let x : [] ≡ n ∷ ns = h in cc)
  dealt f [] p [] news (x ∷ hs) h k = absurd h
  dealt f [] p (o ∷ os) news hs h k = absurd k
  dealt f (l ∷ ls) p [] news hs h k = absurd k
  dealt f (l ∷ ls) p (o ∷ os) [] hs h k = absurd h
  dealt f (l ∷ ls) p (o ∷ os) (n ∷ ns) [] h k = absurd h
  dealt f (l ∷ ls) p (o ∷ os) (n ∷ ns) (x ∷ hs) ((s, is, e), more) k =
      let one : AreLeft view is_of l p (s ∷ f n) = subst (AreLeft view is_of l p) e k.0 in
      let rest = dealt f ls p os ns hs more k.1 in
      (((s, is, one.1.0, one.1.1, one.1.2), rest.0), (one.2, rest.1))

  pub hands_next : (ls : List (SharedLane C)) (k n : ℕ) (hs : List (List H)) (h : List H) → AreHands view is_of held ls k hs → n ≡ k + length hs → AreNew view is_of held ls n h
      → AreHands view is_of held ls k (hs ++ h ∷ [])
  hands_next ls k n [] h are e is =
      let same : n ≡ k = omega (arith, e) in
      (subst (λ i. AreNew view is_of held ls i h) same is, tt)
  hands_next ls k n (x ∷ hs) h are e is = (are.0, hands_next ls (suc k) n hs h are.1 (omega (arith, e)) is)

  -- the first hand of those that are left
  pub first_hand : (ls : List (SharedLane C)) (k : ℕ) (hands rest : List (List H)) (h : List H) → hands ≡ h ∷ rest → AreHands view is_of held ls k hands
      → AreNew view is_of held ls k h × AreHands view is_of held ls (suc k) rest
  first_hand ls k hands rest h e are = subst (AreHands view is_of held ls k) e are

-- ---- what is collected

pub still_contains : {A : Type 0} (xs : List A) (x y : A) → Contains xs x → Contains (xs ++ y ∷ []) x
still_contains [] x y (k, under, is) = absurd (omega (arith, under))
still_contains (z ∷ xs) x y (zero, under, is) = (0, omega arith, is)
still_contains (z ∷ xs) x y (suc k, under, is) =
    let c = still_contains xs x y (k, (let u = under in omega (arith, u)), is) in
    (suc c.0, (let u = c.1 in omega (arith, u)), c.2)

module _ {E : Type 0} where
  pub each_length : (rs : List (List E)) (es : List E) → length (with_each rs es) ≡ length rs
  each_length [] es = refl
  each_length (r ∷ rs) [] = refl
  each_length (r ∷ rs) (e ∷ es) = ap suc (each_length rs es)

  -- where each list has grown by its value, they are the lists with each of these
  pub grown : {V : Type 0} (f : V → List E) (olds news : List V) (es : List E) → StepTo (λ o n e. f n ≡ f o ++ e ∷ []) (length olds) olds news es
      → map f news ≡ with_each (map f olds) es
  grown f [] [] [] h = refl
  grown f [] (n ∷ ns) [] h = absurd (let x : [] ≡ n ∷ ns = h in cc)
  grown f [] news (e ∷ es) h = absurd h
  grown f (o ∷ os) [] es h = absurd h
  grown f (o ∷ os) (n ∷ ns) [] h = absurd h
  grown f (o ∷ os) (n ∷ ns) (e ∷ es) h = ap (λ r. r ∷ map f ns) h.0 ∙ ap (λ rs. (f o ++ e ∷ []) ∷ rs) (grown f os ns es h.1)

  -- each is in its list, and what was there is there still
  in_each : (rs : List (List E)) (es : List E) → length es ≡ length rs → AreIn es (with_each rs es)
  in_each [] [] same = tt
  in_each [] (e ∷ es) same = absurd (omega (arith, same))
  in_each (r ∷ rs) [] same = absurd (omega (arith, same))
  in_each (r ∷ rs) (e ∷ es) same = (Contains-push r e, in_each rs es (omega (arith, same)))

  still_in : (rs : List (List E)) (es xs : List E) → AreIn xs rs → AreIn xs (with_each rs es)
  still_in [] es xs h = h
  still_in (r ∷ rs) [] xs h = h
  still_in (r ∷ rs) (e ∷ es) [] h = absurd h
  still_in (r ∷ rs) (e ∷ es) (x ∷ xs) h = (still_contains r x e h.0, still_in rs es xs h.1)

  still_in_all : (rs hands : List (List E)) (xs : List E) → AreIn xs rs → AreIn xs (with_all rs hands)
  still_in_all rs [] xs h = h
  still_in_all rs (es ∷ hands) xs h = still_in_all (with_each rs es) hands xs (still_in rs es xs h)

  pub all_in : (rs hands : List (List E)) → All (λ h. length h ≡ length rs) hands → AllIn hands (with_all rs hands)
  all_in rs [] all = tt
  all_in rs (es ∷ hands) all =
      let rest = subst (λ n. All (λ h. length h ≡ n) hands) (sym (each_length rs es)) (All-tail (λ h. length h ≡ length rs) es hands all) in
      (still_in_all (with_each rs es) hands es (in_each rs es (All-head (λ h. length h ≡ length rs) es hands all)), all_in (with_each rs es) hands rest)

module _ {T C P : Type 0} (view : P → View T) (is_of : C → P → Type 0) where
  -- where these are one producer's ended permits, the lists are still of their lanes
  pub stay_ended : (ls : List (SharedLane C)) (p : ℕ) (rs : List (List (EndedPermit P))) (es : List (EndedPermit P)) → AreEnded view is_of ls p es → EndedRows view is_of ls rs
      → EndedRows view is_of ls (with_each rs es)
  stay_ended [] p [] es ended rows = rows
  stay_ended [] p (r ∷ rs) es ended rows = absurd rows
  stay_ended (l ∷ ls) p [] es ended rows = absurd rows
  stay_ended (l ∷ ls) p (r ∷ rs) [] ended rows = absurd ended
  stay_ended (l ∷ ls) p (r ∷ rs) (e ∷ es) ended rows = (All-push (IsEndedPermit view is_of l) r e rows.0 ended.0.0, stay_ended ls p rs es ended.1 rows.1)

  -- the same of several producers
  pub all_stay_ended : (ls : List (SharedLane C)) (p : ℕ) (rs hands : List (List (EndedPermit P))) → AreEndedHands view is_of ls p hands → EndedRows view is_of ls rs
      → EndedRows view is_of ls (with_all rs hands)
  all_stay_ended ls p rs [] ended rows = rows
  all_stay_ended ls p rs (es ∷ hands) ended rows = all_stay_ended ls (suc p) (with_each rs es) hands ended.1 (stay_ended ls p rs es ended.0 rows)

  pub ended_length : (qs : List (SharedLane C)) (rs : List (List (EndedPermit P))) → EndedRows view is_of qs rs → length rs ≡ length qs
  ended_length [] [] h = refl
  ended_length [] (r ∷ rs) h = absurd h
  ended_length (q ∷ qs) [] h = absurd h
  ended_length (q ∷ qs) (r ∷ rs) h = ap suc (ended_length qs rs h.1)

  pub consumers_length : (qs : List (SharedLane C)) (ss : List (ConsumersPermit P)) → AreConsumers view is_of qs ss → length ss ≡ length qs
  consumers_length [] [] h = refl
  consumers_length [] (r ∷ rs) h = absurd h
  consumers_length (q ∷ qs) [] h = absurd h
  consumers_length (q ∷ qs) (r ∷ rs) h = ap suc (consumers_length qs rs h.1)

  -- where nothing was collected, the lists are of their lanes
  pub none_ended : (qs : List (SharedLane C)) (rs : List (List (EndedPermit P))) → length rs ≡ length qs → All (λ r. r ≡ []) rs → EndedRows view is_of qs rs
  none_ended [] [] e all = tt
  none_ended [] (r ∷ rs) e all = absurd (omega (arith, e))
  none_ended (q ∷ qs) [] e all = absurd (omega (arith, e))
  none_ended (q ∷ qs) (r ∷ rs) e all =
      (subst (All (IsEndedPermit view is_of q)) (sym (All-head (λ r. r ≡ []) r rs all)) (All-nil (IsEndedPermit view is_of q)), none_ended qs rs (omega (arith, e)) (All-tail (λ r. r ≡ []) r rs all))

  -- one more producer's ended permits
  pub ended_hands_next : (qs : List (SharedLane C)) (k n : ℕ) (hs : List (List (EndedPermit P))) (h : List (EndedPermit P)) → AreEndedHands view is_of qs k hs → n ≡ k + length hs → AreEnded view is_of qs n h → AreEndedHands view is_of qs k (hs ++ h ∷ [])
  ended_hands_next qs k n [] h are e is =
      let same : n ≡ k = omega (arith, e) in
      (subst (λ i. AreEnded view is_of qs i h) same is, tt)
  ended_hands_next qs k n (x ∷ hs) h are e is = (are.0, ended_hands_next qs (suc k) n hs h are.1 (omega (arith, e)) is)

  pub ended_hand_length : (qs : List (SharedLane C)) (p : ℕ) (es : List (EndedPermit P)) → AreEnded view is_of qs p es → length es ≡ length qs
  ended_hand_length [] p [] h = refl
  ended_hand_length [] p (e ∷ es) h = absurd h
  ended_hand_length (q ∷ qs) p [] h = absurd h
  ended_hand_length (q ∷ qs) p (e ∷ es) h = ap suc (ended_hand_length qs p es h.1)

  pub consumer_at : (qs : List (SharedLane C)) (ss : List (ConsumersPermit P)) → AreConsumers view is_of qs ss → (i : ℕ) → i < length qs → (q : SharedLane C) (s : ConsumersPermit P)
      → IsConsumersPermit view is_of (slice_index_or qs i q) (slice_index_or ss i s)
  consumer_at [] ss h i under q s = absurd (omega (arith, under))
  consumer_at (x ∷ qs) [] h i under q s = absurd h
  consumer_at (x ∷ qs) (y ∷ ss) h zero under q s = h.0
  consumer_at (x ∷ qs) (y ∷ ss) h (suc i) under q s = consumer_at qs ss h.1 i (omega (arith, under)) q s

  pub consumers_set : (qs : List (SharedLane C)) (ss : List (ConsumersPermit P)) → AreConsumers view is_of qs ss → (i : ℕ) (q : SharedLane C) (s : ConsumersPermit P) → IsConsumersPermit view is_of (slice_index_or qs i q) s
      → AreConsumers view is_of qs (slice_set ss i s)
  consumers_set [] [] h i q s is = h
  consumers_set [] (y ∷ ss) h i q s is = absurd h
  consumers_set (x ∷ qs) [] h i q s is = absurd h
  consumers_set (x ∷ qs) (y ∷ ss) h zero q s is = (is, h.1)
  consumers_set (x ∷ qs) (y ∷ ss) h (suc i) q s is = (h.0, consumers_set qs ss h.1 i q s is)

  -- the same, where the two at a position were read
  pub consumer_read : (qs : List (SharedLane C)) (ss : List (ConsumersPermit P)) → AreConsumers view is_of qs ss → (i : ℕ) → i < length qs → (q : SharedLane C) (s : ConsumersPermit P)
      → q ≡ slice_index_or qs i q → s ≡ slice_index_or ss i s → IsConsumersPermit view is_of q s
  consumer_read qs ss h i under q s qe se =
      subst (λ (x : SharedLane C). IsConsumersPermit view is_of x s) (sym qe) (subst (λ (x : ConsumersPermit P). IsConsumersPermit view is_of (slice_index_or qs i q) x) (sym se) (consumer_at qs ss h i under q s))

  pub consumers_written : (qs : List (SharedLane C)) (ss : List (ConsumersPermit P)) → AreConsumers view is_of qs ss → (i : ℕ) (q : SharedLane C) (s : ConsumersPermit P)
      → q ≡ slice_index_or qs i q → IsConsumersPermit view is_of q s → AreConsumers view is_of qs (slice_set ss i s)
  consumers_written qs ss h i q s qe is = consumers_set qs ss h i q s (subst (λ (x : SharedLane C). IsConsumersPermit view is_of x s) qe is)
