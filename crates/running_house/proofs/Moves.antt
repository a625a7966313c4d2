-- Lists that were mapped, and accounts that say the same of equal things.
use Rattle.std.proofs.Common.{◌≡◌, ◌<◌, ◌≤◌, ◌+◌, ◌++◌, ◌∙◌, ◌⊎◌, inl, inr, length-drop, ℕ, zero, suc, List, [], ◌∷◌, None, Some, Result, Ok, Err, IfErr, IfOk, Vec, length, map, take, drop, slice_get, slice_index_or, refl, sym, ap, subst, arith}
use Rattle.std.specs.Global.{Global}
use Rattle.delivery_token.specs.declared.Job.{Job}
use Rattle.delivery_token.specs.declared.log.Noted.{Noted}
use Rattle.shard_queue.specs.declared.lane.Entry.{Entry}
use Rattle.shard_queue.specs.Lane.{of}
use Rattle.lane_work.specs.Account.{Premises}
use Rattle.lane_work.proofs.CopyLaws.{take_next}
use Rattle.reckoning.specs.declared.gather.Fault.{Fault}
use Rattle.reckoning.specs.declared.gather.Fault.TheVariants as known
use Rattle.running_house.specs.Plan.{of_reckoning}
use Rattle.running_house.specs.declared.plan.WorkFault.{WorkFault}
use Rattle.running_house.specs.declared.plan.WorkFault.TheVariants as told
use Rattle.running_house.specs.inner.Agree.{AreTexts}

pub map_twice : {A B C : Type 0} (g : B → C) (f : A → B) (xs : List A) → map g (map f xs) ≡ map (λ x. g (f x)) xs
map_twice g f [] = refl
map_twice g f (x ∷ xs) = ap (λ ys. g (f x) ∷ ys) (map_twice g f xs)

pub get_mapped : {A B : Type 0} (f : A → B) (xs : List A) (n : ℕ) (x : A) → slice_get xs n ≡ Some x → slice_get (map f xs) n ≡ Some (f x)
get_mapped f [] n x is = absurd (cc)
get_mapped f (y ∷ xs) zero x is = let same : y ≡ x = cc in ap (λ z. Some (f z)) same
get_mapped f (y ∷ xs) (suc n) x is = get_mapped f xs n x is

pub below : {A : Type 0} (xs : List A) (n : ℕ) (x : A) → slice_get xs n ≡ Some x → n < length xs
below [] n x is = absurd (cc)
below (y ∷ xs) zero x is = omega arith
below (y ∷ xs) (suc n) x is = let h = below xs n x is in omega (arith, h)

-- what is said of premises, and of lists at a position, is said of equal ones
pub moved : (P : Premises → List (List ℕ) → List Noted → List (Entry Noted) → List (List (Entry Job)) → Type 0) (p : ℕ) (house house2 : Premises) (replies replies2 : List (List ℕ)) (notes notes2 : List (List Noted)) (answers answers2 : List (List (Entry Noted))) (histories histories2 : List (List (Entry Job)))
    → house ≡ house2 → replies ≡ replies2 → notes ≡ notes2 → answers ≡ answers2 → histories ≡ histories2
    → P house replies (slice_index_or notes p []) (slice_index_or answers p []) (map (of p) histories)
    → P house2 replies2 (slice_index_or notes2 p []) (slice_index_or answers2 p []) (map (of p) histories2)
moved P p house house2 replies replies2 notes notes2 answers answers2 histories histories2 a b c d e holds =
    subst (λ x. P x replies2 (slice_index_or notes2 p []) (slice_index_or answers2 p []) (map (of p) histories2)) a
    (subst (λ x. P house x (slice_index_or notes2 p []) (slice_index_or answers2 p []) (map (of p) histories2)) b
    (subst (λ x. P house replies (slice_index_or x p []) (slice_index_or answers2 p []) (map (of p) histories2)) c
    (subst (λ x. P house replies (slice_index_or notes p []) (slice_index_or x p []) (map (of p) histories2)) d
    (subst (λ x. P house replies (slice_index_or notes p []) (slice_index_or answers p []) (map (of p) x)) e holds))))

-- the first of a list are where they were
pub first_at : {A : Type 0} (xs : List A) (n p : ℕ) (d : A) → p < n → slice_index_or (take n xs) p d ≡ slice_index_or xs p d
first_at xs zero p d under = absurd (omega (arith, under))
first_at [] (suc n) p d under = refl
first_at (x ∷ xs) (suc n) zero d under = refl
first_at (x ∷ xs) (suc n) (suc p) d under = first_at xs n p d (omega (arith, under))

pub mapped_take : {A B : Type 0} (f : A → B) (n : ℕ) (xs : List A) → map f (take n xs) ≡ take n (map f xs)
mapped_take f zero xs = refl
mapped_take f (suc n) [] = refl
mapped_take f (suc n) (x ∷ xs) = ap (λ ys. f x ∷ ys) (mapped_take f n xs)

-- what stands behind the first of a list
pub behind : {A : Type 0} (xs : List A) (n k : ℕ) (x : A) → slice_get xs (n + k) ≡ Some x → slice_get (drop n xs) k ≡ Some x
behind xs zero k x is = let e : 0 + k ≡ k = omega arith in subst (λ (i : ℕ). slice_get xs i ≡ Some x) e is
behind [] (suc n) k x is = absurd (let e : None ≡ Some x = is in cc)
behind (y ∷ xs) (suc n) k x is = let e : suc n + k ≡ suc (n + k) = omega arith in behind xs n k x (subst (λ (i : ℕ). slice_get (y ∷ xs) i ≡ Some x) e is)

at_behind : {A : Type 0} (xs : List A) (n k i : ℕ) (d : A) → i ≡ n + k → slice_index_or xs i d ≡ slice_index_or (drop n xs) k d
at_behind xs zero k i d is = let e : i ≡ k = omega (arith, is) in ap (λ (j : ℕ). slice_index_or xs j d) e
at_behind [] (suc n) k i d is = refl
at_behind (y ∷ xs) (suc n) k zero d is = absurd (omega (arith, is))
at_behind (y ∷ xs) (suc n) k (suc i) d is = at_behind xs n k i d (omega (arith, is))

head_at : {A : Type 0} (xs : List A) (i : ℕ) (d : A) → slice_index_or (drop i xs) 0 d ≡ slice_index_or xs i d
head_at xs zero d = refl
head_at [] (suc i) d = refl
head_at (y ∷ xs) (suc i) d = head_at xs i d

next_drop : {A : Type 0} (xs : List A) (i : ℕ) → drop 1 (drop i xs) ≡ drop (suc i) xs
next_drop xs zero = refl
next_drop [] (suc i) = refl
next_drop (y ∷ xs) (suc i) = next_drop xs i

-- the first of a list, and behind them the rest from a position on: what stands behind the first is taken away
taken_out : {A : Type 0} (w i : ℕ) (xs : List A) (x : A) → w ≤ i → i < length xs → x ≡ slice_index_or (take w xs ++ drop i xs) w x
    → (x ≡ slice_index_or xs i x) × (take w (take w xs ++ drop i xs) ≡ take w xs) × (drop (suc w) (take w xs ++ drop i xs) ≡ drop (suc i) xs)
taken_out zero i xs x few under is = (is ∙ head_at xs i x, refl, next_drop xs i)
taken_out (suc w) zero xs x few under is = absurd (omega (arith, few))
taken_out (suc w) (suc i) [] x few under is = absurd (omega (arith, under))
taken_out (suc w) (suc i) (y ∷ xs) x few under is = let r = taken_out w i xs x (omega (arith, few)) (omega (arith, under)) is in (r.0, ap (λ l. y ∷ l) r.1, r.2)

-- ---- what the sessions said

texts_more : (ss : List (Vec (Vec ℕ Global) Global)) (ts : List (Vec ℕ Global)) (s : Vec (Vec ℕ Global) Global) (t : Vec ℕ Global) → AreTexts ss ts → ((text : Vec ℕ Global) → s.items ≡ text ∷ [] → t ≡ text) → AreTexts (ss ++ s ∷ []) (ts ++ t ∷ [])
texts_more [] [] s t are one = (one, tt)
texts_more [] (y ∷ ts) s t are one = absurd are
texts_more (x ∷ ss) [] s t are one = absurd are
texts_more (x ∷ ss) (y ∷ ts) s t are one = (are.0, texts_more ss ts s t are.1 one)

-- one more was parted from the others
pub parted_more : (w i k : ℕ) (old now new : List (Vec (Vec ℕ Global) Global)) (one : Vec (Vec ℕ Global) Global) (ts more : List (Vec ℕ Global)) (t : Vec ℕ Global)
    → w + k ≡ i → i < length old → now ≡ take w old ++ drop i old → one ≡ slice_index_or now w one → new ≡ take w now ++ drop (suc w) now
    → AreTexts (take k (drop w old)) ts → more ≡ ts ++ t ∷ [] → ((text : Vec ℕ Global) → one.items ≡ text ∷ [] → t ≡ text)
    → (new ≡ take w old ++ drop (i + 1) old) × AreTexts (take (k + 1) (drop w old)) more
parted_more w i k old now new one ts more t there under so taken left are said text =
    let here = subst (λ (l : List (Vec (Vec ℕ Global) Global)). one ≡ slice_index_or l w one) so taken in
    let r = taken_out w i old one (omega (arith, there)) under here in
    let next : i + 1 ≡ suc i = omega arith in
    let own : one ≡ slice_index_or (drop w old) k one = r.0 ∙ at_behind old w k i one (sym there) in
    let l = length-drop w old in (
      left ∙ ap (λ (xs : List (Vec (Vec ℕ Global) Global)). take w xs ++ drop (suc w) xs) so
          ∙ ap (λ (xs : List (Vec (Vec ℕ Global) Global)). xs ++ drop (suc w) (take w old ++ drop i old)) r.1 ∙ ap (λ (xs : List (Vec (Vec ℕ Global) Global)). take w old ++ xs) r.2
          ∙ ap (λ (n : ℕ). take w old ++ drop n old) (sym next),
      subst (λ (ss : List (Vec (Vec ℕ Global) Global)). AreTexts ss more) (sym (take_next (drop w old) k one (omega (arith, there, under, l)) own))
          (subst (AreTexts (take k (drop w old) ++ one ∷ [])) (sym said) (texts_more (take k (drop w old)) ts one t are text)),
    )

pub text_at : (ss : List (Vec (Vec ℕ Global) Global)) (ts : List (Vec ℕ Global)) (k : ℕ) (s : Vec (Vec ℕ Global) Global) (text : List ℕ) → AreTexts ss ts → slice_get ss k ≡ Some s → map (λ b. b.items) s.items ≡ text ∷ []
    → slice_index_or (map (λ b. b.items) ts) k [] ≡ text
text_at [] ts k s text are is one = absurd (let e : None ≡ Some s = is in cc)
text_at (x ∷ ss) [] k s text are is one = absurd are
text_at (x ∷ ss) (t ∷ ts) zero s text are is one = let e : x ≡ s = (let f : Some x ≡ Some s = is in cc) in by_items x.items refl (ap (λ (v : Vec (Vec ℕ Global) Global). map (λ b. b.items) v.items) e ∙ one) where
  by_items : (vs : List (Vec ℕ Global)) → x.items ≡ vs → map (λ b. b.items) x.items ≡ text ∷ [] → t.items ≡ text
  by_items [] same all = absurd (let e = ap (λ (l : List (Vec ℕ Global)). map (λ b. b.items) l) (sym same) ∙ all in let f : [] ≡ text ∷ [] = e in cc)
  by_items (v ∷ []) same all =
      let e = ap (λ (l : List (Vec ℕ Global)). map (λ b. b.items) l) (sym same) ∙ all in
      let here : v.items ≡ text = (let f : v.items ∷ [] ≡ text ∷ [] = e in cc) in
      ap (λ (u : Vec ℕ Global). u.items) (are.0 v same) ∙ here
  by_items (v ∷ w ∷ vs) same all = absurd (let e = ap (λ (l : List (Vec ℕ Global)). map (λ b. b.items) l) (sym same) ∙ all in let f : v.items ∷ w.items ∷ map (λ b. b.items) vs ≡ text ∷ [] = e in cc)
text_at (x ∷ ss) (t ∷ ts) (suc k) s text are is one = text_at ss ts k s text are.1 is one

pub if_ok : {A E : Type 0} {P Q R : A → Type 0} (result : Result A E) → IfOk result P → IfOk result Q → ((x : A) → P x → Q x → R x) → IfOk result R
if_ok (Ok x) p q both = both x p q
if_ok (Err e) p q both = tt

pub both : {A E : Type 0} (P Q : A → Type 0) (result : Result A E) → IfOk result P → IfOk result Q → IfOk result (λ x. P x × Q x)
both P Q (Ok x) p q = (p, q)
both P Q (Err e) p q = tt

-- want of memory, or what doesn't agree, is a fault of the threads
pub told_fault : {A : Type 0} (result : Result A WorkFault) → IfErr result (λ fault. (fault ≡ told.NoMemory) ⊎ (fault ≡ told.Torn)) → IfErr result (λ fault. (known : Fault) × (fault ≡ of_reckoning known))
told_fault (Ok x) is = tt
told_fault (Err e) (inl is) = (known.NoMemory, is)
told_fault (Err e) (inr is) = (known.Torn, is)
