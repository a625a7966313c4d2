-- Functions that were changed at one position.
use Rattle.std.proofs.Common.{◌≡◌, ℕ, ◌≢◌, ◌⊎◌, inl, inr, true, false, eqb, refl}
use Rattle.std.proofs.lemmas.Bool.{eq-eqb}
use Rattle.std.proofs.lemmas.Bool.Decides.{eqb_tells}
use Rattle.shard_queue.specs.Lane.{set_at}

pub set_at-same : {A : Type 0} (f : ℕ → A) (i : ℕ) (x : A) → set_at f i x i ≡ x
set_at-same f i x = rw (eq-eqb i i refl) refl

-- what holds of x at i, and of f elsewhere, holds of f with x at i
pub at_cases : {A : Type 0} (P : A → Type 0) (f : ℕ → A) (i : ℕ) (x : A) (j : ℕ) → (j ≡ i → P x) → (j ≢ i → P (f j)) → P (set_at f i x j)
at_cases P f i x j here there = go (eqb_tells j i)
  where
    go : ((eqb j i ≡ true) × (j ≡ i)) ⊎ ((eqb j i ≡ false) × (j ≢ i)) → P (set_at f i x j)
    go (inl (e, same)) = rw e (here same)
    go (inr (e, other)) = rw e (there other)

-- the same of two functions that are changed at one position
pub at_both : {A B : Type 0} (P : A → B → Type 0) (f : ℕ → A) (g : ℕ → B) (i : ℕ) (x : A) (y : B) (j : ℕ) → (j ≡ i → P x y) → (j ≢ i → P (f j) (g j)) → P (set_at f i x j) (set_at g i y j)
at_both P f g i x y j here there = go (eqb_tells j i)
  where
    go : ((eqb j i ≡ true) × (j ≡ i)) ⊎ ((eqb j i ≡ false) × (j ≢ i)) → P (set_at f i x j) (set_at g i y j)
    go (inl (e, same)) = rw e (here same)
    go (inr (e, other)) = rw e (there other)

-- what holds of each position of f, and of x at i, holds of each position of f with x at i
pub at_each : {A : Type 0} (P : ℕ → A → Type 0) (f : ℕ → A) (i : ℕ) (x : A) → ((j : ℕ) → P j (f j)) → P i x → (j : ℕ) → P j (set_at f i x j)
at_each P f i x all here j = at_cases (P j) f i x j (λ e. rw e here) (λ _. all j)
