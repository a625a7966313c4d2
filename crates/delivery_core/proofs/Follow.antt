-- What is changed at one position, the world changes at the same position.
use Rattle.std.proofs.Common.{◌≡◌, ◌≢◌, ◌⊎◌, inl, inr, true, false, ℕ, zero, suc, ◌<◌, List, [], ◌∷◌, ◌++◌, length, get_or, set, refl, ap, arith, eqb, get_or-set_same, get_or-set_other, length-set}
use Rattle.std.proofs.lemmas.Bool.Decides.{eqb_tells}
use Rattle.shard_queue.specs.Lane.{set_at}
use Rattle.shard_queue.proofs.AtLaws.{at_cases}
use Rattle.world.specs.World.{Config, World, Event, Step, empty_world}
use Rattle.world.proofs.Always.{steps_join}
use Rattle.delivery_core.specs.Stands.{EachAt, IsNext, Reached}
use Rattle.delivery_token.specs.declared.CopyKey.{CopyKey}

-- an element is changed, and what is said of its position holds of it
pub each_here : {A : Type 0} (P : ℕ → A → Type 0) (xs : List A) (i : ℕ) (x : A) → EachAt P xs → P i x → EachAt P (set xs i x)
each_here P xs i x all here j d l = go (eqb_tells j i)
  where
    lt : j < length xs
    lt = omega (arith, length-set xs i x)

    go : ((eqb j i ≡ true) × (j ≡ i)) ⊎ ((eqb j i ≡ false) × (j ≢ i)) → P j (get_or (set xs i x) j d)
    go (inl (t, same)) = let lt2 : i < length xs = omega (arith, length-set xs i x) in rw (same, get_or-set_same xs i x d lt2) here
    go (inr (t, other)) = rw (get_or-set_other xs i j x d other) (all j d lt)

-- element and position are changed together
pub each_set : {A B : Type 0} (R : A → B → Type 0) (xs : List A) (f : ℕ → B) (i : ℕ) (x : A) (y : B) → EachAt (λ j a. R a (f j)) xs → R x y → EachAt (λ j a. R a (set_at f i y j)) (set xs i x)
each_set R xs f i x y all here j d l = at_cases (R (get_or (set xs i x) j d)) f i y j
    (λ same. let lt : i < length xs = omega (arith, length-set xs i x) in rw (same, get_or-set_same xs i x d lt) here)
    (λ other. rw (get_or-set_other xs i j x d other) (all j d (omega (arith, length-set xs i x))))

-- an element is changed, and what is said of the positions changes, at the others by this
pub each_but : {A : Type 0} (P Q : ℕ → A → Type 0) (xs : List A) (i : ℕ) (x : A) → EachAt P xs → ((j : ℕ) (a : A) → j ≢ i → P j a → Q j a) → Q i x → EachAt Q (set xs i x)
each_but P Q xs i x all more here j d l = go (eqb_tells j i)
  where
    lt : j < length xs
    lt = omega (arith, length-set xs i x)

    go : ((eqb j i ≡ true) × (j ≡ i)) ⊎ ((eqb j i ≡ false) × (j ≢ i)) → Q j (get_or (set xs i x) j d)
    go (inl (t, same)) = let lt2 : i < length xs = omega (arith, length-set xs i x) in rw (same, get_or-set_same xs i x d lt2) here
    go (inr (t, other)) = rw (get_or-set_other xs i j x d other) (more j (get_or xs j d) other (all j d lt))

-- at a position of the list the default is of no account
pub get_or-any : {A : Type 0} (xs : List A) (i : ℕ) (c d : A) → i < length xs → get_or xs i c ≡ get_or xs i d
get_or-any [] i c d l = absurd (omega arith)
get_or-any (x ∷ xs) zero c d l = refl
get_or-any (x ∷ xs) (suc i) c d l = get_or-any xs i c d (omega arith)

-- writing back what was there changes nothing
pub set_back : {A : Type 0} (xs : List A) (i : ℕ) (x : A) → i < length xs → x ≡ get_or xs i x → set xs i x ≡ xs
set_back [] i x l e = absurd (omega arith)
set_back (y ∷ ys) zero x l e = ap (λ z. z ∷ ys) e
set_back (y ∷ ys) (suc i) x l e = ap (λ zs. y ∷ zs) (set_back ys i x (omega arith) e)

pub reached_step : (k : Config) (w : World) (e : Event) (v : World) → Reached k w → Step k w e v → Reached k v
reached_step k w e v r step = (r.0 ++ e ∷ [], steps_join k empty_world r.0 w (e ∷ []) v r.1 (v, step, refl))

-- where neither what was sent nor what was heard changed
pub next_same : (w v : World) (ys : List CopyKey) → ((t p : ℕ) → (v.lane t).sent p ≡ (w.lane t).sent p) → ((p : ℕ) → v.heard p ≡ w.heard p) → EachAt (λ p y. IsNext w p y) ys → EachAt (λ p y. IsNext v p y) ys
next_same w v ys sent heard all p d l =
    let n : IsNext w p (get_or ys p d) = all p d l in
    record { own = n.own; sent = λ t. rw (sent t p) (n.sent t); heard = rw (heard p) n.heard }

pub each_push : {A : Type 0} (P : ℕ → A → Type 0) (xs : List A) (x : A) → EachAt P xs → P (length xs) x → EachAt P (xs ++ x ∷ [])
each_push P [] x all here zero d l = here
each_push P [] x all here (suc j) d l = absurd (omega arith)
each_push P (y ∷ ys) x all here zero d l = all zero d (omega arith)
each_push P (y ∷ ys) x all here (suc j) d l = each_push (λ i. P (suc i)) ys x (λ i e h. all (suc i) e (omega arith)) here j d (omega arith)
