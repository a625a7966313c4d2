-- What each token owns, and what the invariant of a history keeps. No contract speaks of it.
-- For each owner there are two halves of the right to say which entries concern it. The invariant keeps one and the owner the other, so both say the
-- same, and nobody alone can change it.
use Rattle.core.specs.Prelude.{ℕ, zero, suc, Bool, List, [], ◌∷◌, map}
use base.Fraction.{full_share}
use base.Share.{left, right}
use base.Stored.{Gv, Coded, coded×, coded_ℕ, coded_list, coded_via}
use base.Growing.{Order, prefixes, latest, at_least}
use base.Fml.{Fml, ftrue, ffalse, fsep, fex, fnamed}
use Rattle.shared_history.specs.Pages.{Book, part}

-- A book as a ghost value
abbrev pub book_coded : Coded Book
book_coded = coded_via (coded× coded_ℕ (coded× coded_ℕ (coded_list coded_ℕ)))
    (λ (b : Book). (b.number, (b.log_name, b.owner_names)))
    (λ x y e i. record { number = (e i).0; log_name = (e i).1.0; owner_names = (e i).1.1 })

-- Lists of ghost values, which are longer and longer: no type of a caller's is named where they are kept
abbrev pub unchanged : Coded Gv
unchanged = record { code = λ g. g; inj = λ x y e. e }

abbrev pub longer : Order (List Gv)
longer = prefixes unchanged

-- The rule of a history, as its trait says it
pub record Rules (E : Type 0) : Type 1 where
  pub holds : List E → Type 0
  pub concerns : ℕ → E → Bool

abbrev pub rules : {E : Type 0} → (List E → Type 0) → (ℕ → E → Bool) → Rules E
rules holds concerns = record { holds = holds; concerns = concerns }

module _ {E : Type 0} (code : E → Gv) where
  -- the history with this ghost name begins with `log`
  abbrev pub begins : ℕ → List E → Fml
  begins name log = at_least longer name (map code log)

  -- the history is `log`: the right to make it longer
  abbrev pub stands : ℕ → List E → Fml
  stands name log = latest longer full_share name (map code log)

  abbrev pub kept_half : ℕ → List E → Fml
  kept_half name own = latest longer (left full_share) name (map code own)

  abbrev pub owner_half : ℕ → List E → Fml
  owner_half name own = latest longer (right full_share) name (map code own)

  -- the invariant's halves: the owner k has the first of these names
  abbrev pub kept_halves : ℕ → List ℕ → (ℕ → List E) → Fml
  kept_halves k [] owns = ftrue
  kept_halves k (name ∷ names) owns = fsep (kept_half name (owns k)) (kept_halves (suc k) names owns)

  -- the half of the k-th of these names
  abbrev pub half_at : List ℕ → ℕ → List E → Fml
  half_at [] k own = ffalse
  half_at (name ∷ names) zero own = owner_half name own
  half_at (name ∷ names) (suc k) own = half_at names k own

  -- so many halves from the k-th on, of which nothing stands
  abbrev pub halves_from : List ℕ → ℕ → ℕ → Fml
  halves_from names k zero = ftrue
  halves_from names k (suc n) = fsep (half_at names k []) (halves_from names (suc k) n)

  unfoldable pub owner_owns : Book → ℕ → List E → Fml
  owner_owns book key own = half_at book.owner_names key own

  unfoldable pub rights_own : Book → ℕ → ℕ → Fml
  rights_own book next left = halves_from book.owner_names next left

  module _ (rule : Rules E) where
    abbrev pub standing : ℕ → List ℕ → List E → Fml
    standing name names log = fsep (stands name log)
        (fsep (kept_halves 0 names (λ k. part rule.concerns k log)) (fex (rule.holds log) (λ _. ftrue)))

    -- what the invariant keeps: one history for which the rule holds, with a half for each owner
    abbrev pub kept : ℕ → List ℕ → Fml
    kept name names = fex (List E) (standing name names)

    unfoldable pub seen_owns : Book → List E → Fml
    seen_owns book log = fsep (fnamed book.number (kept book.log_name book.owner_names)) (begins book.log_name log)
