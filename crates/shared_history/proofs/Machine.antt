-- A token on the machine, a borrow of what may be known twice, and that what the tokens own may cross threads. Assumes `Logic`.
use Rattle.std.proofs.Common.{ℕ, zero, suc, List, [], ◌∷◌, refl}
use seplogic.Ra.Ura.{Ura}
use mir.Val.{Val, vstruct, vcons, vnil}
use base.Stored.{Gv}
use base.Logic.{ent, sep, emp, wand, apply∗}
use base.Fml.{Lft, Fml, fbor}
use base.Growing.{latest, at_least}
use base.Shift.{Keyless}
use types.Logic.{Logic, sem, lfts}
use types.Kit.{‵, raw, ◌⊛◌, later, ◌$◌, ◌∵◌, !, qed, move, drop, split, use1, use2, updating, await, now, done}
use denote.RattleType.{RattleType}
use denote.Shadow.{makes_shadow}
use denote.Sharing.{said}
use denote.Struct.Struct.{Struct}
use denote.Struct.Lending.{Lends}
use Rattle.core.specs.contracts.marker.PhantomData as marker
use Rattle.shared_history.specs.Pages.{Book}
use Rattle.shared_history.specs.inner.Kept.{Rules, kept_halves, half_at, halves_from, owner_owns, rights_own, seen_owns}

-- a struct of one marker, which has no bytes
abbrev pub bare : Val
bare = vstruct (vcons (vstruct vnil) vnil)

module _ (X : RattleType) where
  abbrev pub Bare : RattleType
  Bare = Struct record { name = []; args = []; types = []; fields = marker.the_row X ∷ [] }

  pub bare_made : {M : Type 1} {𝓤 : Ura M} (𝓛 : Logic 𝓤) → ent 𝓤 (emp 𝓤) (sem 𝓛 (Bare.own_val (record {}, tt) (bare ∷ [])))
  bare_made 𝓛 = makes_shadow 𝓛 (Bare.own_val (record {}, tt) (bare ∷ [])) (λ vss. (tt, ((λ uss. (tt, tt)), tt))) ((vstruct vnil ∷ [], tt), (refl, ((tt, (refl, tt)), tt)))

-- whoever has a borrow of what can be had twice takes it out, and puts one back
pub lends_known : {M : Type 1} {𝓤 : Ura M} (𝓛 : Logic 𝓤) (P : Fml) → ent 𝓤 (sem 𝓛 P) (sep 𝓤 (sem 𝓛 P) (sem 𝓛 P)) → (l : Lft) → Lends 𝓛 P (said P) l
lends_known {𝓤 = 𝓤} 𝓛 P two l κ tokens inc below = let Again = 𝓛.H.⇛ (sep 𝓤 (𝓛.A.bor κ P) (lfts 𝓛 tokens)) in
    qed 𝓛 (‵ (fbor κ P) ∷ raw (lfts 𝓛 tokens) ∷ []) ∵ updating ! $
    use2 𝓛 (later (‵ P ⊛ raw (wand 𝓤 (sem 𝓛 P) Again))) (𝓛.more.bor_acc_by κ tokens P below) $ await ! tt $ split ! $
    use1 𝓛 (‵ P ⊛ ‵ P) two $ split ! $ move ! (1 ∷ 2 ∷ []) $
    use2 𝓛 (later (‵ (fbor κ P) ⊛ raw (lfts 𝓛 tokens))) (apply∗ 𝓤 (sem 𝓛 P) Again) $ await ! tt $ split ! $
    drop ! $ move ! (1 ∷ 0 ∷ []) $ now ! $ done !

module _ {E : Type 0} (code : E → Gv) where
  kept_keyless : (k : ℕ) (names : List ℕ) (owns : ℕ → List E) → Keyless (kept_halves code k names owns)
  unfolding latest
  kept_keyless k [] owns = tt
  kept_keyless k (name ∷ names) owns = (tt, kept_keyless (suc k) names owns)

  half_keyless : (names : List ℕ) (k : ℕ) (own : List E) → Keyless (half_at code names k own)
  unfolding latest
  half_keyless [] k own = tt
  half_keyless (name ∷ names) zero own = tt
  half_keyless (name ∷ names) (suc k) own = half_keyless names k own

  halves_keyless : (names : List ℕ) (k n : ℕ) → Keyless (halves_from code names k n)
  halves_keyless names k zero = tt
  halves_keyless names k (suc n) = (half_keyless names k [], halves_keyless names (suc k) n)

  pub owner_keyless : (book : Book) (key : ℕ) (own : List E) → Keyless (owner_owns code book key own)
  unfolding owner_owns
  owner_keyless book key own = half_keyless book.owner_names key own

  pub rights_keyless : (book : Book) (next left : ℕ) → Keyless (rights_own code book next left)
  unfolding rights_own
  rights_keyless book next left = halves_keyless book.owner_names next left

  pub seen_keyless : (rule : Rules E) (book : Book) (log : List E) → Keyless (seen_owns code rule book log)
  unfolding seen_owns latest at_least
  seen_keyless rule book log = ((λ whole. (tt, (kept_keyless 0 book.owner_names _, λ _. tt))), tt)
