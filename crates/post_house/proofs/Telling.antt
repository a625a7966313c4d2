-- What is told has one of the statuses.
use Rattle.std.proofs.Common.{lit<, ◌≡◌, ◌⊎◌, ℕ, Bool, true, List, inl, inr, refl, sym, subst, Option, take}
use Rattle.std.specs.Io.KnownBytes.{Appends}
use Rattle.clap.specs.Words.{Text}
use Rattle.clap.specs.declared.error.kind.ErrorKind.{ErrorKind}
use Rattle.command_line.specs.Words.{FailsWith, faults_at}
use Rattle.post_house.specs.inner.Status.{IsStatus}
use Rattle.post_house.specs.inner.Telling.{HasRefused, HasTold, mistaken, shown, wanting}

shown_status : (n : ℕ) (A B : Type 0) → ((n ≡ 0) × A) ⊎ ((n ≡ 4) × B) → IsStatus n
shown_status n A B (inl h) = subst IsStatus (sym h.0) (0, lit< tt, refl)
shown_status n A B (inr h) = subst IsStatus (sym h.0) (3, lit< tt, refl)

pub told_status : (k : ErrorKind) (untouched : Type 0) (failed : Bool) (n : ℕ) (old new : Option (List ℕ)) → HasTold k untouched failed n old new → IsStatus n
told_status k untouched failed n old new (wanting five same) = subst IsStatus (sym five) (4, lit< tt, refl)
told_status k untouched failed n old new (mistaken two request want same) = subst IsStatus (sym two) (1, lit< tt, refl)
told_status k untouched failed n old new (shown asked tells) = shown_status n (Appends old new tells.text) ((failed ≡ true) × ((m : ℕ) × Appends old new (take m tells.text))) (regrouped n tells.written)
  where
    regrouped : {A B C : Type 0} (n : ℕ) → ((n ≡ 0) × A) ⊎ ((n ≡ 4) × B × C) → ((n ≡ 0) × A) ⊎ ((n ≡ 4) × (B × C))
    regrouped n (inl h) = inl h
    regrouped n (inr h) = inr (h.0, (h.1, h.2))

-- words that were refused, by the kind of the error
pub refused_as : (words : List Text) (k told : ErrorKind) (untouched : Type 0) (failed : Bool) (status : ℕ) (old new : Option (List ℕ)) → k ≡ told → FailsWith (faults_at words) told
    → HasTold told untouched failed status old new → HasRefused words k untouched failed status old new
refused_as words k told untouched failed status old new same fails tells =
    subst (λ (x : ErrorKind). HasRefused words x untouched failed status old new) (sym same) (record { fails = fails; told = tells })
