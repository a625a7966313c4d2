-- From what a run promises to what the program does.
use Rattle.std.proofs.Common.{lit<, ◌≡◌, ℕ, refl, sym, subst, Result, Ok, Err, arith}
use Rattle.settings.specs.declared.config.ConfigFault.{ConfigFault}
use Rattle.script.specs.declared.program.ScriptFault.{ScriptFault}
use Rattle.script.specs.declared.program.ScriptFault.TheVariants as script_faults
use Rattle.script.specs.declared.run.RunFault.TheVariants as run_faults
use Rattle.serving.specs.declared.fault.ServeFault.{ServeFault}
use Rattle.serving.specs.declared.fault.ServeFault.TheVariants as serve_faults
use Rattle.post_house.specs.Status.{script_failure, serve_failure, status_of}
use Rattle.post_house.specs.inner.Status.{IsStatus, status_for, status_of_done, status_served}
use Rattle.post_house.specs.declared.outcome.Done.{Done}
use Rattle.post_house.specs.declared.outcome.Done.TheVariants.{Played, Served}
use Rattle.post_house.specs.declared.failure.Failure.{Failure}
use Rattle.post_house.specs.declared.failure.Failure.TheVariants as failures

-- ---- what came of it

-- each failure has a status of its own
has_status : (r : Failure) (n : ℕ) → n ≡ status_of r → IsStatus n
has_status (failures.Config fault) n e = subst IsStatus (sym e) (2, lit< tt, refl)
has_status failures.Device n e = subst IsStatus (sym e) (3, lit< tt, refl)
has_status failures.NoMemory n e = subst IsStatus (sym e) (4, lit< tt, refl)
has_status failures.Torn n e = subst IsStatus (sym e) (5, lit< tt, refl)

went_well : (n : ℕ) → n ≡ 0 → IsStatus n
went_well n e = subst IsStatus (sym e) (0, lit< tt, refl)

pub done_status : (d : Done) (n : ℕ) → n ≡ status_of_done d → IsStatus n
done_status (Played (Ok done)) n e = went_well n e
done_status (Played (Err f)) n e = has_status (script_failure f) n e
done_status (Served (Ok done)) n e = went_well n e
done_status (Served (Err f)) n e = has_status (serve_failure f) n e

-- none of them is that of words that are refused
failed_not_two : (r : Failure) (n : ℕ) → n ≡ status_of r → n ≡ 2 → ⊥
failed_not_two (failures.Config fault) n e two = omega (arith, e, two)
failed_not_two failures.Device n e two = omega (arith, e, two)
failed_not_two failures.NoMemory n e two = omega (arith, e, two)
failed_not_two failures.Torn n e two = omega (arith, e, two)

pub not_two : (d : Done) (n : ℕ) → n ≡ status_of_done d → n ≡ 2 → ⊥
not_two (Played (Ok done)) n e two = omega (arith, e, two)
not_two (Played (Err f)) n e two = failed_not_two (script_failure f) n e two
not_two (Served (Ok done)) n e two = omega (arith, e, two)
not_two (Served (Err f)) n e two = failed_not_two (serve_failure f) n e two

no_none : ◌≡◌ {A = ℕ} 0 3 → ⊥
no_none e = (let z : ⊥ = omega (arith, e) in z)

no_four : (n : ℕ) → n ≡ 4 → n ≡ 3 → ⊥
no_four n e f = (let z : ⊥ = omega (arith, e, f) in z)

no_five : (n : ℕ) → n ≡ 5 → n ≡ 3 → ⊥
no_five n e f = (let z : ⊥ = omega (arith, e, f) in z)

no_six : (n : ℕ) → n ≡ 6 → n ≡ 3 → ⊥
no_six n e f = (let z : ⊥ = omega (arith, e, f) in z)

-- wrong settings alone have this status
pub played_not_set : {A : Type 0} (old new : A) (r : Result (Unit {0}) ScriptFault)
    → ((x : ConfigFault) → r ≡ Err (script_faults.Config x) → new ≡ old) → status_for r ≡ 3 → new ≡ old
played_not_set old new (Ok done) same e = absurd (no_none e)
played_not_set old new (Err (script_faults.Config x)) same e = same x refl
played_not_set old new (Err (script_faults.Run run_faults.Read)) same e = absurd (no_four 4 refl e)
played_not_set old new (Err (script_faults.Run (run_faults.Write sent))) same e = absurd (no_four 4 refl e)
played_not_set old new (Err (script_faults.Run run_faults.NoMemory)) same e = absurd (no_five 5 refl e)

pub served_not_set : {A : Type 0} (old new : A) (r : Result (Unit {0}) ServeFault)
    → ((x : ConfigFault) → r ≡ Err (serve_faults.Config x) → new ≡ old) → status_served r ≡ 3 → new ≡ old
served_not_set old new (Ok done) same e = absurd (no_none e)
served_not_set old new (Err (serve_faults.Config x)) same e = same x refl
served_not_set old new (Err serve_faults.Device) same e = absurd (no_four 4 refl e)
served_not_set old new (Err serve_faults.Spawn) same e = absurd (no_four 4 refl e)
served_not_set old new (Err serve_faults.NoMemory) same e = absurd (no_five 5 refl e)
served_not_set old new (Err serve_faults.Torn) same e = absurd (no_six 6 refl e)
