-- How a server ends.
use Rattle.std.proofs.Common.{◌≡◌, ◌∙◌, ◌⊎◌, inl, inr, Bool, true, false, ap, sym, refl, subst, Option, None, Some, Result, Ok, Err}
use Rattle.std.specs.Prelude.{IfErr, IfSome, IsErr, OnOk}
use Rattle.settings.specs.declared.config.ConfigFault.{ConfigFault}
use Rattle.serving_workers.specs.Finished.{Finished}
use Rattle.serving.specs.declared.fault.ServeFault.{ServeFault}
use Rattle.serving.specs.declared.fault.ServeFault.TheVariants as faults
use Rattle.serving.specs.inner.Faults.{IsOfSettings}

false_true : (b : Bool) → b ≡ false → b ≡ true → ⊥
false_true b e f = cc

-- what holds of each way in which a house may end holds of how it ended
pub by_end : (all said : Bool) (closes : Option Finished) (r : Result Finished ServeFault) (P : Result Finished ServeFault → Type 0) → (all ≡ false → r ≡ Err faults.Spawn)
    → (all ≡ true → said ≡ false → r ≡ Err faults.Device) → (all ≡ true → said ≡ true → closes ≡ None → r ≡ Err faults.Torn)
    → IfSome closes (λ taken. all ≡ true → said ≡ true → r ≡ Ok taken) → (all ≡ false → P (Err faults.Spawn)) → P (Err faults.Device) → P (Err faults.Torn)
    → ((taken : Finished) → said ≡ true → closes ≡ Some taken → P (Ok taken)) → P r
by_end false said closes r P spawn device torn done unstarted unsaid ill well = subst P (sym (spawn refl)) (unstarted refl)
by_end true false closes r P spawn device torn done unstarted unsaid ill well = subst P (sym (device refl refl)) unsaid
by_end true true None r P spawn device torn done unstarted unsaid ill well = subst P (sym (torn refl refl refl)) ill
by_end true true (Some taken) r P spawn device torn done unstarted unsaid ill well = subst P (sym (done refl refl)) (well taken refl refl)

-- what holds anyway holds where all went well
pub where_ok : (r : Result (Unit {0}) ServeFault) (P : Type 0) → P → OnOk r P
where_ok (Ok done) P p = p
where_ok (Err f) P p = tt

-- what settings may come to where they have this fault
pub settings_or_memory : {T U : Type 0} (r : Result T ServeFault) (told : Result U ServeFault) (x : ServeFault) (fault : ConfigFault) (o : Option ConfigFault) → r ≡ Err x
    → IsErr told → ((y : ServeFault) → told ≡ Err y → y ≡ x) → o ≡ Some fault → ((f : ConfigFault) → r ≡ Err (faults.Config f) → o ≡ Some f) → IfErr r IsOfSettings
    → (told ≡ Err (faults.Config fault)) ⊎ (told ≡ Err faults.NoMemory)
settings_or_memory {T} {U} r told x fault o at err same is wrong of =
    by_case x (λ f e. wrong f (at ∙ ap (λ (y : ServeFault). Err y) e)) (subst (λ (s : Result T ServeFault). IfErr s IsOfSettings) at of) (with_err told err same) where
      with_err : (s : Result U ServeFault) → IsErr s → ((y : ServeFault) → s ≡ Err y → y ≡ x) → s ≡ Err x
      with_err (Ok done) none same = absurd (let e : false ≡ true = none in cc)
      with_err (Err y) some same = ap (λ (z : ServeFault). Err z) (same y refl)

      both : (f g : ConfigFault) → o ≡ Some f → o ≡ Some g → f ≡ g
      both f g a b = cc

      by_case : (x : ServeFault) → ((f : ConfigFault) → x ≡ faults.Config f → o ≡ Some f) → IsOfSettings x → told ≡ Err x → (told ≡ Err (faults.Config fault)) ⊎ (told ≡ Err faults.NoMemory)
      by_case (faults.Config f) known ok e = inl (e ∙ ap (λ (y : ConfigFault). Err (faults.Config y)) (both f fault (known f refl) is))
      by_case faults.NoMemory known ok e = inr e
      by_case faults.Device known ok e = absurd ok
      by_case faults.Spawn known ok e = absurd ok
      by_case faults.Torn known ok e = absurd ok
