-- Who is at a seat, whichever kind of peer that is.
use Rattle.std.proofs.Common.{◌≡◌, refl, subst, Bool, true, false, Option, Some, None}
use Rattle.std.specs.Option.{is_some}
use Rattle.std.specs.Prelude.{IsSomeAnd, MatchOption}
use Rattle.delivery_token.specs.declared.log.Noted.{Noted}

module _ {P : Type 0} where
  pub somebody_there : (o : Option P) → is_some o ≡ true → (p : P) × (o ≡ Some p)
  somebody_there None e = absurd (let f : false ≡ true = e in cc)
  somebody_there (Some p) e = (p, refl)

  -- whoever is at a seat heard it
  pub heard_at : (Heard : P → Noted → P → Type 0) (o p : Option P) (r : Noted) (g : P) → o ≡ Some g → MatchOption o (p ≡ None) (λ x. IsSomeAnd p (Heard x r)) → (q : P) × (p ≡ Some q) × Heard g r q
  heard_at Heard None p r g e m = absurd (let x : ◌≡◌ {A = Option P} None (Some g) = e in cc)
  heard_at Heard (Some h) None r g e m = absurd m
  heard_at Heard (Some h) (Some q) r g e m = let x : h ≡ g = cc in (q, refl, subst (λ (z : P). Heard z r q) x m)
