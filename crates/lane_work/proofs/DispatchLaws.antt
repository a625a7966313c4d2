-- What a seat may say of its copies, by the last key that it keeps.
use Rattle.std.proofs.Common.{◌≡◌, ℕ, ◌<◌, List, [], ◌∷◌, ◌++◌, ◌⊎◌, inl, inr, Option, Some, None, Bool, false, true, All, ap, sym, refl, ◌∙◌, subst, arith}
use Rattle.std.proofs.lemmas.List.Elements.{All-contains, All-nil, All-push, All-weaker, Contains-push}
use Rattle.delivery_token.specs.declared.CopyKey.{CopyKey}
use Rattle.delivery_token.specs.declared.Job.{Job}
use Rattle.delivery_token.specs.Keys.{AtLeast, Below, Precedes}
use Rattle.lane_work.specs.inner.Dispatching.{IsBehind, IsLast}

below_trans : (a b c : CopyKey) → Below a b → Below b c → Below a c
below_trans a b c (inl h) (inl k) = inl (omega (arith, h, k))
below_trans a b c (inl h) (inr (e, k)) = inl (omega (arith, h, e))
below_trans a b c (inr (e, h)) (inl k) = inl (omega (arith, e, k))
below_trans a b c (inr (e, inl h)) (inr (f, inl k)) = inr (e ∙ f, inl (omega (arith, h, k)))
below_trans a b c (inr (e, inl h)) (inr (f, inr (g, k))) = inr (e ∙ f, inl (omega (arith, h, g)))
below_trans a b c (inr (e, inr (d, h))) (inr (f, inl k)) = inr (e ∙ f, inl (omega (arith, d, k)))
below_trans a b c (inr (e, inr (d, h))) (inr (f, inr (g, k))) = inr (e ∙ f, inr (d ∙ g, omega (arith, h, k)))

-- a key above the last one is above all
pub above_all : (number : ℕ) (last key : CopyKey) (sent : List (Job × ℕ)) → IsLast number (Some last) sent → Below last key → All (λ (one : Job × ℕ). Below one.0.key key) sent
above_all number last key sent is above =
    All-weaker (λ (one : Job × ℕ). AtLeast one.0.key last) (λ (one : Job × ℕ). Below one.0.key key) (λ one under. on one.0.key under) sent is.2 where
      on : (own : CopyKey) → AtLeast own last → Below own key
      on own (inl e) = subst (λ (k : CopyKey). Below k key) (sym e) above
      on own (inr under) = below_trans own last key under above

-- a key above all is above the last one
pub above_last : (number : ℕ) (last key : CopyKey) (sent : List (Job × ℕ)) → IsLast number (Some last) sent → All (λ (one : Job × ℕ). Below one.0.key key) sent → Below last key
above_last number last key sent is above =
    subst (λ (k : CopyKey). Below k key) is.1.2 (All-contains (λ (one : Job × ℕ). Below one.0.key key) sent is.1.0 above is.1.1)

-- the key of the copy that is sent next is the last one then
pub next_last : (number ticket : ℕ) (job : Job) (sent more : List (Job × ℕ)) → more ≡ sent ++ (job, ticket) ∷ [] → job.key.seat ≡ number
    → All (λ (one : Job × ℕ). Below one.0.key job.key) sent → IsLast number (Some job.key) more
next_last number ticket job sent more is own above =
    subst (IsLast number (Some job.key)) (sym is) (
      own,
      ((job, ticket), Contains-push sent (job, ticket), refl),
      All-push (λ (one : Job × ℕ). AtLeast one.0.key job.key) sent (job, ticket)
          (All-weaker (λ (one : Job × ℕ). Below one.0.key job.key) (λ (one : Job × ℕ). AtLeast one.0.key job.key) (λ one under. inr under) sent above) (inl refl),
    )

-- whoever keeps the last key knows of any whether it is the next
pub is_next : (number : ℕ) (last : Option CopyKey) (key : CopyKey) (sent : List (Job × ℕ)) → IsLast number last sent → IsBehind number last key → All (λ (one : Job × ℕ). Below one.0.key key) sent
is_next number None key sent is behind = subst (All (λ (one : Job × ℕ). Below one.0.key key)) (sym is) (All-nil (λ (one : Job × ℕ). Below one.0.key key))
is_next number (Some last) key sent is behind = above_all number last key sent is (behind.above last refl).1

pub was_next : (number : ℕ) (last : Option CopyKey) (key : CopyKey) (sent : List (Job × ℕ)) → IsLast number last sent → key.seat ≡ number → All (λ (one : Job × ℕ). Below one.0.key key) sent → IsBehind number last key
was_next number None key sent is own above = record { own = own; above = λ k e. absurd (let no : ◌≡◌ {A = Option CopyKey} None (Some k) = e in cc) }
was_next number (Some last) key sent is own above = record {
  own = own;
  above = λ k e.
      let same : last ≡ k = cc in
      subst (λ (x : CopyKey). Precedes x key) same (is.0 ∙ sym own, above_last number last key sent is above);
}

pub never_both : {A : Type 0} (b : Bool) → b ≡ false → b ≡ true → A
never_both b no_b yes_b = absurd (cc (no_b, yes_b))
